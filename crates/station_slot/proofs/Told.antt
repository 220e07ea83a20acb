-- A call that gives what its definition gives also answers the number and the values that the paper tells: both halves of its contract at once, of the
-- first. Assumes nothing.
use mathlib.Core.Path.{◌≡◌, ap, ◌∙◌}
use mathlib.Core.List.{List}
use Prim.Native.Nat.{ℕ}
use Rattle.rules.specs.declared.Station.{Station}
use Rattle.rules.specs.declared.StationSlot.{StationSlot}
use Rattle.rules.specs.StationCalls.{slot_of}
use Rattle.rules.specs.Numbers.{slot_told}
use Rattle.rules.specs.Answered.{slot_told_of}
use Rattle.rules.proofs.NumbersHold.{slot-told}

pub slot-both : (s : Station) (words counts : List ℕ) (pick : ℕ) {r : StationSlot} → r ≡ slot_of s words counts pick
    → (r ≡ slot_of s words counts pick) × (slot_told r.answer ≡ slot_told_of s words counts pick)
slot-both s words counts pick e = (e, ap (λ (x : StationSlot). slot_told x.answer) e ∙ slot-told s words counts pick)
