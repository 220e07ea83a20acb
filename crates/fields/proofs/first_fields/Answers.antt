-- `first_fields` meets its contract: each of its ways is a case of `first_of`.
-- Assumes nothing.
use mathlib.Core.Path.{sym, ◌∙◌}
use Rattle.fields.proofs.FieldReads.{was_read}
use Rattle.fields.proofs.FirstAnswers.{first-answered}
use Rattle.fields.proofs.Firsts.{first-long, first-unread, first_one, first-half, first_two, first-many}
use borrow.Author.Rules.{rules}
use Rattle.fields.proofs.first_fields.Goals as goal

pub returns-then-bytes-gt-LONGEST : goal.returns-then-bytes-gt-LONGEST
returns-then-bytes-gt-LONGEST c =
    let told = first-answered _ _ (sym (first-long _ c.if-bytes-gt-LONGEST.true)) in
    record { first = told.0; answer = told.1 }

pub returns-in_err-one : goal.returns-in_err-one
returns-in_err-one c =
    let told = first-answered _ _ (c.from_residual.ensures ∙ sym (first-unread _ (search rules) (sym c.field_at.ensures ∙ c.in_err-one.was))) in
    record { first = told.0; answer = told.1 }

pub returns-then-one : goal.returns-then-one
returns-then-one c =
    let r = was_read _ _ _ (sym c.field_at.ensures ∙ c.in_ok-one.was) in
    let told = first-answered _ _ (sym (first_one _ (search rules) r c.if-one.true)) in
    record { first = told.0; answer = told.1 }

pub returns-in_err-two : goal.returns-in_err-two
returns-in_err-two c =
    let r = was_read _ _ _ (sym c.field_at.ensures ∙ c.in_ok-one.was) in
    let told = first-answered _ _ (c.from_residual-in_err-two.ensures ∙ sym (first-half _ (search rules) r c.if-one.false (sym c.field_at-2.ensures ∙ c.in_err-two.was))) in
    record { first = told.0; answer = told.1 }

pub returns-then-not-two : goal.returns-then-not-two
returns-then-not-two c =
    let r = was_read _ _ _ (sym c.field_at.ensures ∙ c.in_ok-one.was) in
    let q = was_read _ _ _ (sym c.field_at-2.ensures ∙ c.in_ok-two.was) in
    let told = first-answered _ _ (sym (first-many _ (search rules) r c.if-one.false q (search rules))) in
    record { first = told.0; answer = told.1 }

pub returns : goal.returns
returns c =
    let r = was_read _ _ _ (sym c.field_at.ensures ∙ c.in_ok-one.was) in
    let q = was_read _ _ _ (sym c.field_at-2.ensures ∙ c.in_ok-two.was) in
    let told = first-answered _ _ (sym (first_two _ (search rules) r c.if-one.false q (search rules))) in
    record { first = told.0; answer = told.1 }
