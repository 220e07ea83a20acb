-- A station's own hearing, tested at each minislot of the array, in as many as have both a word and a reading. From the laws of the rules, which speak
-- of the list of the first m. Assumes nothing.
use mathlib.Core.Path.{◌≡◌, sym}
use mathlib.Core.Bool.{Bool, true, false}
use mathlib.Core.List.{List}
use Prim.Native.Nat.{ℕ, ◌+◌, ◌<◌, min}
use native.Mathlib.Omega.{arith}
use lib.ListN.{length, get_or}
use Rattle.minislot.specs.declared.Feedback.TheVariants.{Empty}
use Rattle.minislot.specs.declared.MinislotFeedback.{MinislotFeedback}
use Rattle.rules.specs.declared.Station.{Station}
use Rattle.rules.specs.OwnHearing.{own_minislot, own_total, listens, hears_at, hears_itself}
use Rattle.rules.proofs.StationLaws.{hears_fails, hears-holds}
use Rattle.queueing.proofs.Rows.{blank, first, first-length, feedback-at}

module _ (s : Station) (words : List ℕ) (row : List MinislotFeedback) (own total : ℕ) (mine : own ≡ own_minislot s.counters.next (listens s.counters.next s)) (slots : total ≡ own_total (listens s.counters.next s)) where
  abbrev m : ℕ
  m = s.counters.minislots

  abbrev Heard : ℕ → Bool → Type 0
  Heard i b = hears_at s.index own total (i + 1) (get_or words i 0) (get_or row i blank).feedback ≡ b

  here : (i : ℕ) (b : Bool) → i < m → Heard i b → hears_at s.index own total (1 + i) (get_or words i 0) (get_or (first m row) i Empty) ≡ b
  here i b h e =
      let q : 1 + i ≡ i + 1 = omega arith in
      rw (q, feedback-at m i row h) e

  pub misses : (i : ℕ) → i < min (min m (length words)) (length row) → Heard i false → false ≡ hears_itself s words (first m row)
  unfolding hears_itself
  misses i h e =
      rw (← mine, ← slots) (sym (hears_fails s.index own total 1 words (first m row) i (omega arith) (rw (first-length m row) (omega arith)) (here i false (omega arith) e)))

  pub hears : ((i : ℕ) → i < min (min m (length words)) (length row) → Heard i true) → true ≡ hears_itself s words (first m row)
  unfolding hears_itself
  hears all =
      rw (← mine, ← slots)
      (sym (hears-holds s.index own total 1 words (first m row) (λ i w q. let l : i < min m (length row) = rw (first-length m row) at q in here i true (omega arith) (all i (omega arith)))))
