-- `queue` queues one minislot by its feedback. Assumes nothing.
use native.Mathlib.Omega.{arith}
use Rattle.queueing.proofs.queue.Goals as goal

pub returns-in-Single : goal.returns-in-Single
returns-in-Single c = record {
  value = rw c.in-Single.is c.queue_single.ensures.value;
  grown = c.queue_single.ensures.grown;
}

pub returns-in-Collide : goal.returns-in-Collide
returns-in-Collide c = record {
  value = rw c.in-Collide.is;
  grown = record { urgent = omega arith; long = omega arith; resolution = omega arith };
}
