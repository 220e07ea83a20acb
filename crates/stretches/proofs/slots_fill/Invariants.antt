-- `slots_fill` takes one stretch's slots after the other away from the queue's places: the places still free, with the slots of the stretches so far, are
-- the queue's. Assumes nothing.
use mathlib.Core.Path.{◌≡◌}
use Prim.Native.Nat.{◌+◌}
use lib.ListN.{drop}
use Rattle.stretches.specs.Stretches.{slots_of}
use Rattle.stretches.proofs.slots_fill.Given as goal

abbrev pub invariant-loop-s : goal.invariant-loop-s
invariant-loop-s l = slots_of (drop l.s-index l.stretches) + l.queue ≡ slots_of l.stretches + l.free
