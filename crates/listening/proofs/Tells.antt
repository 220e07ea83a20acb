-- A call that gives what its definition says answers the paper's number and values: the definition does. Assumes nothing.
use mathlib.Core.Path.{◌≡◌, ap, ◌∙◌}
use mathlib.Core.List.{List}
use Prim.Native.Nat.{ℕ}
use Rattle.rules.specs.declared.Counters.{Counters}
use Rattle.rules.specs.declared.Listened.{Listened}
use Rattle.rules.specs.Listening.{listening_of}
use Rattle.rules.specs.Recorded.{listening_at_of}
use Rattle.rules.specs.Numbers.{listen_told}
use Rattle.rules.specs.Answered.{listen_told_of, listen_at_told_of}
use Rattle.rules.proofs.NumbersHold.{listen-told, listen_at-told}

module _ (c : Counters) (words counts : List ℕ) (r : Listened) where
  pub listens : r ≡ listening_of c words counts → (r ≡ listening_of c words counts) × (listen_told r.answer ≡ listen_told_of c words counts)
  listens e = (e, ap (λ (x : Listened). listen_told x.answer) e ∙ listen-told c words counts)

  pub listens-at : (start : ℕ) → r ≡ listening_at_of c start words counts
      → (r ≡ listening_at_of c start words counts) × (listen_told r.answer ≡ listen_at_told_of c start words counts)
  listens-at start e = (e, ap (λ (x : Listened). listen_told x.answer) e ∙ listen_at-told c start words counts)
