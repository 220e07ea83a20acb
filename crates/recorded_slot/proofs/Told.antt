-- A call that gives what its definition gives also answers the number and the values that the paper tells: both halves of its contract at once, of the
-- first. Assumes nothing.
use mathlib.Core.Path.{◌≡◌, ap, ◌∙◌}
use mathlib.Core.List.{List}
use Prim.Native.Nat.{ℕ}
use Rattle.rules.specs.declared.Station.{Station}
use Rattle.rules.specs.declared.StationSlot.{StationSlot}
use Rattle.rules.specs.Recorded.{slot_at_of}
use Rattle.rules.specs.Numbers.{slot_told}
use Rattle.rules.specs.Answered.{slot_at_told_of}
use Rattle.rules.proofs.NumbersHold.{slot_at-told}

pub slot_at-both : (s : Station) (start : ℕ) (words counts : List ℕ) (pick : ℕ) {r : StationSlot} → r ≡ slot_at_of s start words counts pick
    → (r ≡ slot_at_of s start words counts pick) × (slot_told r.answer ≡ slot_at_told_of s start words counts pick)
slot_at-both s start words counts pick e = (e, ap (λ (x : StationSlot). slot_told x.answer) e ∙ slot_at-told s start words counts pick)
