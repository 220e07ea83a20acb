-- `messages` stores each station's two records behind the others. Assumes nothing.
use mathlib.Core.Path.{◌≡◌}
use Prim.Native.Nat.{◌*◌}
use lib.ListN.{length, take}
use Rattle.channel_rules.specs.Soundness.{messages_of}
use Rattle.soundness.proofs.messages.messages.Given as goal

abbrev pub invariant-loop-s : goal.invariant-loop-s
invariant-loop-s l = (length l.list.items ≡ 2 * l.s-index) × (l.list.items ≡ messages_of (take l.s-index l.stations))
