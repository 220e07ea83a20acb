-- `start_fields` meets its contract: each of its ways is a case of `start_in`. Assumes nothing.
use borrow.Author.Rules.{rules}
use mathlib.Core.Path.{ap, sym, ◌∙◌}
use Rattle.std.specs.Prelude.{Some}
use Rattle.number_lists.specs.declared.NumberList.{NumberList}
use Rattle.fields.proofs.FieldReads.{was_read}
use Rattle.call_fields.specs.CallFields.{start_with}
use Rattle.start_fields.proofs.StartReads.{start-unread, start-one, start-high, start-half, start-many, start_none, start-some, start-answered}
use Rattle.start_fields.proofs.start_fields.Goals as goal

pub returns-in_err-one : goal.returns-in_err-one
returns-in_err-one c =
    let told = start-answered _ (c.from_residual.ensures ∙ sym (start-unread _ _ (sym c.field_at.ensures ∙ c.in_err-one.was))) in
    record { fields = told.0; count = told.1 }

pub returns-then-one : goal.returns-then-one
returns-then-one c =
    let r = was_read _ _ _ (sym c.field_at.ensures ∙ c.in_ok-one.was) in
    let told = start-answered _ (sym (start-one _ r c.if-one.true)) in
    record { fields = told.0; count = told.1 }

pub returns-then-one-gt255 : goal.returns-then-one-gt255
returns-then-one-gt255 c =
    let r = was_read _ _ _ (sym c.field_at.ensures ∙ c.in_ok-one.was) in
    let told = start-answered _ (sym (start-high _ r (search rules))) in
    record { fields = told.0; count = told.1 }

pub returns-in_err-two : goal.returns-in_err-two
returns-in_err-two c =
    let r = was_read _ _ _ (sym c.field_at.ensures ∙ c.in_ok-one.was) in
    let told = start-answered _ (c.from_residual-in_err-two.ensures ∙ sym (start-half _ r c.if-one.false (sym c.field_at-2.ensures ∙ c.in_err-two.was))) in
    record { fields = told.0; count = told.1 }

pub returns-then-two-gt255 : goal.returns-then-two-gt255
returns-then-two-gt255 c =
    let r = was_read _ _ _ (sym c.field_at.ensures ∙ c.in_ok-one.was) in
    let q = was_read _ _ _ (sym c.field_at-2.ensures ∙ c.in_ok-two.was) in
    let told = start-answered _ (sym (start-many _ r c.if-one.false q (search rules))) in
    record { fields = told.0; count = told.1 }

pub returns-then-two : goal.returns-then-two
returns-then-two c =
    let r = was_read _ _ _ (sym c.field_at.ensures ∙ c.in_ok-one.was) in
    let q = was_read _ _ _ (sym c.field_at-2.ensures ∙ c.in_ok-two.was) in
    let made = ap (λ (l : NumberList). start_with c.in_ok-one.one.value c.in_ok-two.two.value (Some l)) c.no_numbers.ensures in
    let told = start-answered _ (made ∙ sym (start_none _ r c.if-one.false q (search rules) (search rules) c.if-two.true)) in
    record { fields = told.0; count = told.1 }

pub returns-in_err-indexes : goal.returns-in_err-indexes
returns-in_err-indexes c =
    let r = was_read _ _ _ (sym c.field_at.ensures ∙ c.in_ok-one.was) in
    let q = was_read _ _ _ (sym c.field_at-2.ensures ∙ c.in_ok-two.was) in
    let made = ap (start_with c.in_ok-one.one.value c.in_ok-two.two.value) (sym c.in_err-indexes.was ∙ c.numbers_from.ensures.list) in
    let told = start-answered _ (c.from_residual-in_err-indexes.ensures ∙ made ∙ sym (start-some _ r c.if-one.false q (search rules) (search rules) c.if-two.false)) in
    record { fields = told.0; count = told.1 }

pub returns : goal.returns
returns c =
    let r = was_read _ _ _ (sym c.field_at.ensures ∙ c.in_ok-one.was) in
    let q = was_read _ _ _ (sym c.field_at-2.ensures ∙ c.in_ok-two.was) in
    let made = ap (start_with c.in_ok-one.one.value c.in_ok-two.two.value) (sym c.in_ok-indexes.was ∙ c.numbers_from.ensures.list) in
    let told = start-answered _ (made ∙ sym (start-some _ r c.if-one.false q (search rules) (search rules) c.if-two.false)) in
    record { fields = told.0; count = told.1 }
