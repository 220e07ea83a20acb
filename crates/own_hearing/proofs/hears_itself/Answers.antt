-- `hears_itself` tests one minislot after the other: each before i passed, and one that fails fails the row. Assumes nothing.
use mathlib.Core.Path.{◌≡◌, sym, ap, ◌∙◌}
use native.Mathlib.Omega.{arith}
use lib.ListN.{length}
use borrow.Author.Rules.{rules}
use borrow.Author.Count.{below_more}
use Rattle.rules.specs.OwnHearing.{own_minislot, own_total}
use Rattle.own_hearing.proofs.Rows.{misses, hears}
use Rattle.own_hearing.proofs.hears_itself.Goals as goal

pub loop-i-preserved : goal.loop-i-preserved
loop-i-preserved c = below_more _ _ c.loop-i.invariant (sym c.hears_at.ensures ∙ c.if-not-hears_at.false)

pub returns-then-not-hears_at : goal.returns-then-not-hears_at
returns-then-not-hears_at c =
    let a = c.args in
    let full : length a.row ≡ 8 = search rules in
    let heeds = c.listened-k.ensures in
    let own = c.own_minislot-own in
    let total = c.own_total-total in
    misses a.s a.words.now a.row own.result total.result (own.ensures ∙ ap (own_minislot a.s.counters.next) heeds) (total.ensures ∙ ap own_total heeds) c.loop-i.i (omega (arith, c.heard-i-end.ensures)) (sym c.hears_at.ensures ∙ c.if-not-hears_at.true)

pub returns : goal.returns
returns c =
    let a = c.args in
    let full : length a.row ≡ 8 = search rules in
    let heeds = c.listened-k.ensures in
    let own = c.own_minislot-own in
    let total = c.own_total-total in
    hears a.s a.words.now a.row own.result total.result (own.ensures ∙ ap (own_minislot a.s.counters.next) heeds) (total.ensures ∙ ap own_total heeds) (λ i h. c.loop-i.invariant i (omega (arith, c.heard-i-end.ensures)))
