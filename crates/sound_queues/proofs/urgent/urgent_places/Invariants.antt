-- `urgent_places` stores the place of each urgent message behind the others. Assumes nothing.
use mathlib.Core.Path.{◌≡◌}
use Prim.Native.Nat.{◌≤◌}
use lib.ListN.{length, take}
use Rattle.channel_rules.specs.Soundness.{urgent_places}
use Rattle.sound_queues.proofs.urgent.urgent_places.Given as goal

abbrev pub invariant-loop-m : goal.invariant-loop-m
invariant-loop-m l = (length l.places.items ≤ l.m-index) × (l.places.items ≡ urgent_places (take l.m-index l.messages.items))
