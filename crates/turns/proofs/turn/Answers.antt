-- `turn` tests the entry, then the three lengths in the order of the turns. Assumes nothing.
use native.Mathlib.Omega.{arith}
use borrow.Author.Tests.{lt-ltb, le-ltb, eq-eqb, ne_eqb}
use Rattle.rules.specs.Turns.{turn_of}
use Rattle.turns.proofs.turn.Goals as goal

pub returns-then-entry-ne-FREE : goal.returns-then-entry-ne-FREE
unfolding turn_of
returns-then-entry-ne-FREE c = rw (ne_eqb _ _ c.if-entry-ne-FREE.true)

pub returns-then-p-gt0 : goal.returns-then-p-gt0
unfolding turn_of
returns-then-p-gt0 c =
    let p = c.args.p in
    rw (
      eq-eqb _ _ c.if-entry-ne-FREE.false,
      lt-ltb 0 p.urgent (omega arith),
    )

pub returns-then-p-gt0-2 : goal.returns-then-p-gt0-2
unfolding turn_of
returns-then-p-gt0-2 c =
    let p = c.args.p in
    rw (
      eq-eqb _ _ c.if-entry-ne-FREE.false,
      le-ltb 0 p.urgent (omega arith),
      lt-ltb 0 p.long (omega arith),
    )

pub returns-then-p-gt0-3 : goal.returns-then-p-gt0-3
unfolding turn_of
returns-then-p-gt0-3 c =
    let p = c.args.p in
    rw (
      eq-eqb _ _ c.if-entry-ne-FREE.false,
      le-ltb 0 p.urgent (omega arith),
      le-ltb 0 p.long (omega arith),
      lt-ltb 0 p.resolution (omega arith),
    )

pub returns : goal.returns
unfolding turn_of
returns c =
    let p = c.args.p in
    rw (
      eq-eqb _ _ c.if-entry-ne-FREE.false,
      le-ltb 0 p.urgent (omega arith),
      le-ltb 0 p.long (omega arith),
      le-ltb 0 p.resolution (omega arith),
    )
