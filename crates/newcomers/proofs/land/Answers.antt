-- `land` goes by what is heard. A new place is inside its queue's limit, so it fits. Assumes nothing.
use native.Mathlib.Omega.{arith}
use Rattle.rules.proofs.StationLaws.{collide_place}
use Rattle.newcomers.proofs.land.Goals as goal

pub land_alone-requires : goal.land_alone-requires
land_alone-requires c = (rw c.in-Single.is at c.requires.0, rw c.in-Single.is at c.requires.1)

pub overflow_add-result : goal.overflow_add-result
overflow_add-result c = omega (arith, collide_place c.args.success c.args.before (rw c.in-Collide.is at c.requires.0))

pub overflow_cast-result : goal.overflow_cast-result
overflow_cast-result c = omega (arith, collide_place c.args.success c.args.before (rw c.in-Collide.is at c.requires.0))

pub returns-in-Single : goal.returns-in-Single
returns-in-Single c = rw c.in-Single.is c.land_alone.ensures

pub returns-in-Collide : goal.returns-in-Collide
returns-in-Collide c = rw c.in-Collide.is
