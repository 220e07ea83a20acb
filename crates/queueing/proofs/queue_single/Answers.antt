-- `queue_single` queues a Single by its count and whether success is immediate. Assumes nothing.
use native.Mathlib.Omega.{arith}
use borrow.Author.Rules.{rules}
use borrow.Author.Tests.{eq-eqb, ne_eqb}
use Rattle.queueing.proofs.queue_single.Goals as goal

pub returns-then-success : goal.returns-then-success
returns-then-success c = record {
  value = rw (c.if-success.true, eq-eqb _ _ c.if-count-eq1.true);
  grown = record { urgent = omega arith; long = omega arith; resolution = omega arith };
}

pub returns-then-count-eq1 : goal.returns-then-count-eq1
returns-then-count-eq1 c = record {
  value = rw (c.if-success.false, eq-eqb _ _ c.if-count-eq1.true);
  grown = record { urgent = omega arith; long = omega arith; resolution = omega arith };
}

pub returns : goal.returns
returns c = record {
  value = rw (ne_eqb _ _ c.if-count-eq1.false) (search rules);
  grown = record { urgent = omega arith; long = omega arith; resolution = omega arith };
}
