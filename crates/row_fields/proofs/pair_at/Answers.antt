-- `pair_at` meets its contract: each of its ways is a case of `pair_of`.
-- Assumes nothing.
use mathlib.Core.Path.{sym, ◌∙◌}
use Rattle.fields.proofs.FieldReads.{was_read}
use Rattle.row_fields.proofs.Pairs.{pair-unread, pair-high, pair_odd, pair-half, pair-over, pair-both}
use Rattle.row_fields.proofs.pair_at.Goals as goal

pub returns-in_err-one : goal.returns-in_err-one
returns-in_err-one c =
    c.from_residual.ensures ∙ sym (pair-unread _ _ (sym c.field_at.ensures ∙ c.in_err-one.was))

pub returns-then-one-gt65535 : goal.returns-then-one-gt65535
returns-then-one-gt65535 c =
    let r = was_read _ _ _ (sym c.field_at.ensures ∙ c.in_ok-one.was) in
    sym (pair-high r c.if-one-gt65535.true)

pub returns-then-one : goal.returns-then-one
returns-then-one c =
    let r = was_read _ _ _ (sym c.field_at.ensures ∙ c.in_ok-one.was) in
    sym (pair_odd r c.if-one.true c.if-one-gt65535.false)

pub returns-in_err-two : goal.returns-in_err-two
returns-in_err-two c =
    let r = was_read _ _ _ (sym c.field_at.ensures ∙ c.in_ok-one.was) in
    c.from_residual-in_err-two.ensures ∙ sym (pair-half _ r c.if-one.false c.if-one-gt65535.false (sym c.field_at-2.ensures ∙ c.in_err-two.was))

pub returns-then-two-gt255 : goal.returns-then-two-gt255
returns-then-two-gt255 c =
    let r = was_read _ _ _ (sym c.field_at.ensures ∙ c.in_ok-one.was) in
    let q = was_read _ _ _ (sym c.field_at-2.ensures ∙ c.in_ok-two.was) in
    sym (pair-over _ r c.if-one.false c.if-one-gt65535.false q c.if-two-gt255.true)

pub returns : goal.returns
returns c =
    let r = was_read _ _ _ (sym c.field_at.ensures ∙ c.in_ok-one.was) in
    let q = was_read _ _ _ (sym c.field_at-2.ensures ∙ c.in_ok-two.was) in
    sym (pair-both _ r c.if-one.false c.if-one-gt65535.false q c.if-two-gt255.false)
