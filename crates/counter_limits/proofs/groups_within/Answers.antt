-- `groups_within` is the test of the two arrays, which have eight elements each. Assumes nothing.
use mathlib.Core.Path.{◌≡◌}
use borrow.Author.Tests.{eq-eqb}
use lib.ListN.{length}
use Rattle.rules.specs.Limits.{groups_within}
use borrow.Author.Rules.{rules}
use Rattle.counter_limits.proofs.groups_within.Goals as goal

pub returns-then-resolution_within : goal.returns-then-resolution_within
unfolding groups_within
returns-then-resolution_within c =
    let k = c.args.c in
    let w : length k.resolution ≡ 8 = search rules in
    let v : length k.opened ≡ 8 = search rules in
    rw (eq-eqb _ _ w, eq-eqb _ _ v, ← c.resolution_within.ensures, c.if-resolution_within.true) c.opened_within.ensures

pub returns-else-resolution_within : goal.returns-else-resolution_within
unfolding groups_within
returns-else-resolution_within c =
    let k = c.args.c in
    let w : length k.resolution ≡ 8 = search rules in
    let v : length k.opened ≡ 8 = search rules in
    rw (eq-eqb _ _ w, eq-eqb _ _ v, ← c.resolution_within.ensures, c.if-resolution_within.false)
