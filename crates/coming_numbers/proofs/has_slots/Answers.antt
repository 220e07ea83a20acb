-- `has_slots` tests both ends. Assumes nothing.
use borrow.Author.Tests.{le-leb, lt-leb}
use native.Mathlib.Omega.{arith}
use Rattle.coming_numbers.proofs.has_slots.Goals as goal

pub returns-then-w-lt1 : goal.returns-then-w-lt1
returns-then-w-lt1 c = rw (lt-leb 1 c.args.w (omega arith))

pub returns : goal.returns
returns c = rw (le-leb 1 c.args.w (omega arith))
