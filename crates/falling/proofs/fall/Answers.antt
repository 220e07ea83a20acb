-- `fall` is steps 4 and 5 of the counters. The lengths are within their limits, so each fits its field. Assumes nothing.
use native.Mathlib.Omega.{arith}
use Rattle.rules.specs.Falling.{fallen}
use Rattle.rules.proofs.LimitLaws.{none_passes}
use Rattle.falling.proofs.fall.Goals as goal

pub overflow_cast-h : goal.overflow_cast-h
overflow_cast-h c = omega (arith, none_passes _ c.requires.1)

pub overflow_cast-n : goal.overflow_cast-n
overflow_cast-n c = omega (arith, none_passes _ c.requires.1)

pub overflow_cast-r : goal.overflow_cast-r
overflow_cast-r c = omega (arith, none_passes _ c.requires.1)

pub returns : goal.returns
unfolding fallen
returns c =
    rw (
      c.next_position.ensures,
      c.long_falls.ensures,
      c.urgent_falls.ensures,
      c.next_group.ensures,
      c.is_open.ensures,
      c.less_one.ensures,
      c.turn-t.ensures,
      c.coming.ensures,
    )
