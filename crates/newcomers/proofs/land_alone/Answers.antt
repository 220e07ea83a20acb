-- `land_alone` goes by the count, then by success. A new place is inside its queue's limit, so it fits. Assumes nothing.
use native.Mathlib.Omega.{arith}
use borrow.Author.Tests.{eq-eqb, ne_eqb}
use Rattle.rules.proofs.StationLaws.{alone-urgent, alone-long}
use Rattle.newcomers.proofs.land_alone.Goals as goal

pub returns-then-success : goal.returns-then-success
returns-then-success c = rw (c.if-success.true, eq-eqb _ _ c.if-count-eq1.true)

pub overflow_add-result : goal.overflow_add-result
overflow_add-result c = omega (arith, alone-urgent _ _ _ c.requires.0 c.if-success.false c.if-count-eq1.true)

pub overflow_cast-result : goal.overflow_cast-result
overflow_cast-result c = omega (arith, alone-urgent _ _ _ c.requires.0 c.if-success.false c.if-count-eq1.true)

pub returns-then-count-eq1 : goal.returns-then-count-eq1
returns-then-count-eq1 c = rw (c.if-success.false, eq-eqb _ _ c.if-count-eq1.true)

pub overflow_add-result-2 : goal.overflow_add-result-2
overflow_add-result-2 c = omega (arith, alone-long _ _ _ c.requires.0 c.requires.1 c.if-count-eq1.false)

pub overflow_cast-result-2 : goal.overflow_cast-result-2
overflow_cast-result-2 c = omega (arith, alone-long _ _ _ c.requires.0 c.requires.1 c.if-count-eq1.false)

pub returns : goal.returns
returns c = rw (ne_eqb _ _ c.if-count-eq1.false)
