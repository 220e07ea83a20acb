-- `places_had` goes by the conditions. Assumes nothing.
use mathlib.Core.Path.{ap, ◌∙◌}
use Prim.Native.Nat.{ℕ}
use native.Mathlib.Nat.{zero-add}
use Rattle.message_places.proofs.places_had.Goals as goal

pub returns-in-Urgent : goal.returns-in-Urgent
returns-in-Urgent c = rw c.in-Urgent.is (ap (λ (first : ℕ). record { first = first; count = 1 }) (c.behind.ensures ∙ zero-add _))

pub returns-in-Long : goal.returns-in-Long
returns-in-Long c = rw (c.in-Long.is, c.behind-in-Long.ensures)
