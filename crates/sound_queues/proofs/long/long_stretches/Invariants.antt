-- `long_stretches` stores the stretch of each long message behind the others. Assumes nothing.
use mathlib.Core.Path.{◌≡◌}
use Prim.Native.Nat.{◌≤◌}
use lib.ListN.{length, take}
use Rattle.channel_rules.specs.Soundness.{long_stretches}
use Rattle.sound_queues.proofs.long.long_stretches.Given as goal

abbrev pub invariant-loop-m : goal.invariant-loop-m
invariant-loop-m l = (length l.stretches.items ≤ l.m-index) × (l.stretches.items ≡ long_stretches (take l.m-index l.messages.items))
