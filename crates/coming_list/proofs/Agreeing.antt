-- The same list by two ways of saying who is served that agree below the list's length: of its slots no more are free than there are.
-- Assumes nothing.
use mathlib.Core.Path.{◌≡◌, ap}
use mathlib.Core.Bool.{cond}
use mathlib.Core.List.{List}
use Prim.Native.Nat.{ℕ, ◌<◌}
use native.Mathlib.Omega.{arith}
use lib.Dec.{eqb}
use Rattle.listlaws.proofs.Tabulating.{tabulate-cong}
use Rattle.rules.specs.Calendars.{free_entry}
use Rattle.coming_rules.specs.Planned.{entry_in, free_in, planned_at, planned_list}
use Rattle.coming_rules.proofs.FreeSlots.{free-most}

pub planned-same : (calendar : List ℕ) (p w : ℕ) (f g : ℕ → ℕ) → ((k : ℕ) → k < w → f k ≡ g k) → planned_list calendar p f w ≡ planned_list calendar p g w
unfolding planned_list
planned-same calendar p w f g h =
    tabulate-cong w (planned_at calendar p f) (planned_at calendar p g)
    (λ i q. ap (λ (x : ℕ). cond (eqb (entry_in calendar p i) free_entry) x (entry_in calendar p i)) (h (free_in calendar p i) (omega (arith, free-most calendar p i, q))))
