-- `resolving_places` stores the place of each resolving message, with its group, behind the others. Assumes nothing.
use mathlib.Core.Path.{◌≡◌}
use Prim.Native.Nat.{◌≤◌}
use lib.ListN.{length, take}
use Rattle.sound_resolution.specs.Resolution.{group_places_of}
use Rattle.sound_resolution.proofs.resolving_places.Given as goal

abbrev pub invariant-loop-m : goal.invariant-loop-m
invariant-loop-m l = (length l.found.items ≤ l.m-index) × (l.found.items ≡ group_places_of (take l.m-index l.messages.items))
