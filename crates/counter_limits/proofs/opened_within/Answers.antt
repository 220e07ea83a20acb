-- `opened_within` tests each group in turn: each one before i passed, and one that fails fails the list.
-- Assumes nothing.
use mathlib.Core.Path.{◌≡◌, sym, ◌∙◌}
use mathlib.Core.Bool.{true, false}
use native.Mathlib.Omega.{arith}
use borrow.Author.Count.{below_more}
use borrow.Author.Rules.{rules}
use borrow.Author.Tests.{not-true, not-false}
use lib.ListN.{length}
use Rattle.listlaws.proofs.Table.{every_fails, every_holds}
use Rattle.rules.specs.Limits.{opened_within}
use Rattle.counter_limits.proofs.opened_within.Goals as goal

pub loop-i-init : goal.loop-i-init
loop-i-init c = λ k h. absurd (omega arith)

pub returns-then-not-opened_fits : goal.returns-then-not-opened_fits
returns-then-not-opened_fits c =
    let a = c.args in
    let w : length a.opened ≡ 8 = search rules in
    sym (every_fails (opened_within a.n) false a.opened c.loop-i.i (omega arith) (sym c.opened_fits.ensures ∙ not-true _ c.if-not-opened_fits.true-raw))

pub loop-i-preserved : goal.loop-i-preserved
loop-i-preserved c = below_more _ _ c.loop-i.invariant (sym c.opened_fits.ensures ∙ not-false _ c.if-not-opened_fits.false-raw)

pub returns : goal.returns
returns c =
    let a = c.args in
    let w : length a.opened ≡ 8 = search rules in
    sym (every_holds (opened_within a.n) false a.opened (λ k h. c.loop-i.invariant k (omega arith)))
