-- `row_fields` meets its contract. The loop's invariant: reading on from the place reached, with the pairs read, gives `row_of` of the whole;
-- the pairs read and the parts to come are as many as the parts of the whole. The measure is how many parts are to come. Assumes nothing.
use borrow.Author.Rules.{rules}
use mathlib.Core.Path.{refl, sym, ap, ◌∙◌}
use Rattle.std.specs.Prelude.{Some}
use native.Mathlib.Omega.{arith}
use Rattle.fields.proofs.Parts.{some-parts}
use Rattle.row_fields.proofs.Rows.{row-long, row-start, parts-count, row-broken, odd_answered, was_paired, row-both, row_last, two_fewer, pair-next}
use Rattle.row_fields.proofs.row_fields.Goals as goal

pub returns-then-bytes-gt-LONGEST : goal.returns-then-bytes-gt-LONGEST
returns-then-bytes-gt-LONGEST c = sym (row-long _ (search rules))

pub loop-pair-init : goal.loop-pair-init
loop-pair-init c =
    let b = c.args.bytes.now in
    (omega (arith, parts-count b), refl, refl, row-start b (search rules))

pub returns-in_err-pair : goal.returns-in_err-pair
returns-in_err-pair c =
    let l = c.loop-pair in
    c.from_residual.ensures
    ∙ sym (row-broken l.at l.pairs l.words l.counts _ (some-parts _) (sym c.pair_at.ensures ∙ c.in_err-pair.was))
    ∙ l.invariant.3

pub returns-in-Odd : goal.returns-in-Odd
returns-in-Odd c =
    let l = c.loop-pair in
    odd_answered l.at l.pairs _ _ _ l.words l.counts _ (sym c.pair_at.ensures ∙ c.in_ok-pair.was ∙ ap Some c.in-Odd.is) refl c.with_set.ensures
    ∙ l.invariant.3

pub returns-then-last : goal.returns-then-last
returns-then-last c =
    let l = c.loop-pair in
    let r = was_paired l.at _ _ _ _ _ (sym c.pair_at.ensures ∙ c.in_ok-pair.was ∙ ap Some c.in-Both.is) in
    rw (c.with_set-more_words.ensures, c.with_set-more_counts.ensures) (sym (row_last r c.if-last.true l.pairs l.words l.counts))
    ∙ l.invariant.3

pub loop-pair-smaller : goal.loop-pair-smaller
loop-pair-smaller c =
    let l = c.loop-pair in
    let r = was_paired l.at _ _ _ _ _ (sym c.pair_at.ensures ∙ c.in_ok-pair.was ∙ ap Some c.in-Both.is) in
    let n = pair-next _ r c.if-last.false in
    rw n (omega (arith, two_fewer r))

pub loop-pair-preserved : goal.loop-pair-preserved
loop-pair-preserved c =
    let l = c.loop-pair in
    let r = was_paired l.at _ _ _ _ _ (sym c.pair_at.ensures ∙ c.in_ok-pair.was ∙ ap Some c.in-Both.is) in
    let n = pair-next _ r c.if-last.false in (
      rw n (omega (arith, two_fewer r)),
      rw c.with_set-more_words.ensures (search rules),
      rw c.with_set-more_counts.ensures (search rules),
      rw (c.with_set-more_words.ensures, c.with_set-more_counts.ensures, n) (sym (row-both r l.pairs l.words l.counts)) ∙ l.invariant.3,
    )
