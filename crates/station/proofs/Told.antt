-- A call that gives what its definition gives also answers the number and the values that the paper tells: both halves of its contract at once, of the
-- first. Assumes nothing.
use mathlib.Core.Path.{◌≡◌, ap, ◌∙◌}
use Prim.Native.Nat.{ℕ}
use Rattle.rules.specs.declared.StationStarted.{StationStarted}
use Rattle.rules.specs.StationCalls.{station_start_of}
use Rattle.rules.specs.Numbers.{start_told}
use Rattle.rules.specs.Answered.{station_start_told_of}
use Rattle.rules.proofs.NumbersHold.{station-start_told}

pub start-both : (m n index : ℕ) {r : StationStarted} → r ≡ station_start_of m n index
    → (r ≡ station_start_of m n index) × (start_told r.answer ≡ station_start_told_of m n index)
start-both m n index e = (e, ap (λ (x : StationStarted). start_told x.answer) e ∙ station-start_told m n index)
