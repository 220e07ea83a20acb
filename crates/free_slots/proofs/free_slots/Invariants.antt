-- `free_slots` collects the free slots of a round one after the other. Assumes nothing.
use Rattle.free_slots.proofs.Collecting.{Collected}
use Rattle.free_slots.proofs.free_slots.Given as goal

abbrev pub invariant-loop-i : goal.invariant-loop-i
invariant-loop-i l = Collected l.calendar l.position l.i l.count l.slots l.p
