-- `resolution_sound` tests the queue of one group after the other: each one before g passed, and one that fails fails the clause.
-- Assumes nothing.
use mathlib.Core.Path.{◌≡◌}
use mathlib.Core.Bool.{Bool, true}
use mathlib.Core.List.{List}
use Prim.Native.Nat.{ℕ, suc, ◌<◌}
use lib.ListN.{get_or}
use Rattle.std.specs.List.{flat_map}
use Rattle.crowds.specs.Crowds.{crowded}
use Rattle.sound_resolution.specs.declared.GroupPlace.{GroupPlace}
use Rattle.sound_resolution.specs.Resolution.{place_in}
use Rattle.sound_resolution.proofs.resolution_sound.Given as goal

-- the clause of the group behind i others, on the places found
abbrev pub at : List GroupPlace → ℕ → ℕ → Bool
at found i q = crowded (flat_map (place_in (suc i)) found) q

abbrev pub invariant-loop-g : goal.invariant-loop-g
invariant-loop-g l = (k : ℕ) → k < l.g → at l.found.items k (get_or l.queues k 0) ≡ true
