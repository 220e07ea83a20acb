-- `places_in` stores the places of one group behind each other. Assumes nothing.
use mathlib.Core.Path.{◌≡◌}
use Prim.Native.Nat.{◌≤◌}
use lib.ListN.{length, take}
use Rattle.std.specs.List.{flat_map}
use Rattle.sound_resolution.specs.Resolution.{place_in}
use Rattle.sound_resolution.proofs.places_in.Given as goal

abbrev pub invariant-loop-at : goal.invariant-loop-at
invariant-loop-at l = (length l.places.items ≤ l.at-index) × (l.places.items ≡ flat_map (place_in l.group) (take l.at-index l.found.items))
