-- `which_fields` meets its contract: each of its ways is a case of `which_in`. Assumes nothing.
use borrow.Author.Rules.{rules}
use borrow.Author.Rules.{part_to_end}
use mathlib.Core.Path.{sym, ◌∙◌}
use Rattle.fields.proofs.FieldReads.{was_read}
use Rattle.which_fields.proofs.WhichReads.{which-unread, which-one, which-high, next-within, which-two}
use Rattle.which_fields.proofs.which_fields.Goals as goal

pub returns-in_err-one : goal.returns-in_err-one
returns-in_err-one c = c.from_residual.ensures ∙ sym (which-unread _ _ (sym c.field_at.ensures ∙ c.in_err-one.was))

pub returns-then-one : goal.returns-then-one
returns-then-one c =
    let r = was_read _ _ _ (sym c.field_at.ensures ∙ c.in_ok-one.was) in
    sym (which-one _ r c.if-one.true)

pub returns-then-one-gt65535 : goal.returns-then-one-gt65535
returns-then-one-gt65535 c =
    let r = was_read _ _ _ (sym c.field_at.ensures ∙ c.in_ok-one.was) in
    sym (which-high _ r (search rules))

pub slice_bounds-record_named-count : goal.slice_bounds-record_named-count
slice_bounds-record_named-count c =
    let r = was_read _ _ _ (sym c.field_at.ensures ∙ c.in_ok-one.was) in
    next-within _ r c.if-one.false

pub slice_bounds-record_named-start : goal.slice_bounds-record_named-start
slice_bounds-record_named-start c =
    let r = was_read _ _ _ (sym c.field_at.ensures ∙ c.in_ok-one.was) in
    let h = next-within _ r c.if-one.false in
    search rules

pub returns : goal.returns
returns c =
    let r = was_read _ _ _ (sym c.field_at.ensures ∙ c.in_ok-one.was) in
    rw part_to_end at c.record_named.ensures ∙ sym (which-two _ r c.if-one.false (search rules))
