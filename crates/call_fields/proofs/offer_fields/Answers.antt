-- `offer_fields` meets its contract: each of its ways is a case of `offer_in`. Assumes nothing.
use borrow.Author.Rules.{rules}
use mathlib.Core.Path.{sym, ◌∙◌}
use Rattle.fields.proofs.FieldReads.{was_read}
use Rattle.call_fields.proofs.OfferReads.{offer-unread, offer-one, offer-high, offer-half, offer-two, offer-many}
use Rattle.call_fields.proofs.offer_fields.Goals as goal

pub returns-in_err-one : goal.returns-in_err-one
returns-in_err-one c = c.from_residual.ensures ∙ sym (offer-unread _ _ (sym c.field_at.ensures ∙ c.in_err-one.was))

pub returns-then-one : goal.returns-then-one
returns-then-one c =
    let r = was_read _ _ _ (sym c.field_at.ensures ∙ c.in_ok-one.was) in
    sym (offer-one _ r c.if-one.true)

pub returns-then-one-gt65535 : goal.returns-then-one-gt65535
returns-then-one-gt65535 c =
    let r = was_read _ _ _ (sym c.field_at.ensures ∙ c.in_ok-one.was) in
    sym (offer-high _ r (search rules))

pub returns-in_err-two : goal.returns-in_err-two
returns-in_err-two c =
    let r = was_read _ _ _ (sym c.field_at.ensures ∙ c.in_ok-one.was) in
    c.from_residual-in_err-two.ensures ∙ sym (offer-half _ r c.if-one.false (sym c.field_at-2.ensures ∙ c.in_err-two.was))

pub returns-then-not-two : goal.returns-then-not-two
returns-then-not-two c =
    let r = was_read _ _ _ (sym c.field_at.ensures ∙ c.in_ok-one.was) in
    let q = was_read _ _ _ (sym c.field_at-2.ensures ∙ c.in_ok-two.was) in
    sym (offer-many _ r c.if-one.false q (search rules))

pub returns : goal.returns
returns c =
    let r = was_read _ _ _ (sym c.field_at.ensures ∙ c.in_ok-one.was) in
    let q = was_read _ _ _ (sym c.field_at-2.ensures ∙ c.in_ok-two.was) in
    sym (offer-two _ r c.if-one.false q (search rules) (search rules))
