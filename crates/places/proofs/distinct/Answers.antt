-- `distinct` compares each number with those behind it: what is left of the list tests as the whole. Assumes nothing.
use mathlib.Core.Path.{sym, ◌∙◌}
use Prim.Native.Nat.{◌+◌, ◌≤◌}
use native.Mathlib.Omega.{arith}
use borrow.Author.Tests.{not-true, not-false}
use lib.ListN.{length, drop_of_length-le}
use Rattle.places.specs.Places.{differ}
use Rattle.listlaws.proofs.Loops.{rest, to_end, pairs_next, pairs_stop}
use Rattle.places.proofs.distinct.Goals as goal

pub returns-then-not-differs : goal.returns-then-not-differs
returns-then-not-differs c =
    let l = c.loop-i in
    let a = c.args in
    let e = rw (to_end a.numbers.now (l.i + 1)) at c.differs.ensures in
    sym (sym l.invariant ∙ pairs_stop (rest a.numbers.now l.i 0 (omega arith)) differ (sym e ∙ not-true _ c.if-not-differs.true-raw))

pub loop-i-preserved : goal.loop-i-preserved
loop-i-preserved c =
    let l = c.loop-i in
    let a = c.args in
    let e = rw (to_end a.numbers.now (l.i + 1)) at c.differs.ensures in
    sym (pairs_next (rest a.numbers.now l.i 0 (omega arith)) differ (sym e ∙ not-false _ c.if-not-differs.false-raw)) ∙ l.invariant

pub returns : goal.returns
returns c =
    let l = c.loop-i in
    let a = c.args in
    let h : length a.numbers.now ≤ l.i = omega arith in
    rw (drop_of_length-le a.numbers.now h) at l.invariant
