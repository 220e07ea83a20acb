-- `coming_fields` meets its contract: each of its ways is a case of `coming_in`. Assumes nothing.
use borrow.Author.Rules.{rules}
use mathlib.Core.Path.{sym, ◌∙◌}
use Rattle.fields.proofs.FieldReads.{was_read}
use Rattle.coming_fields.proofs.ComingReads.{coming-unread, coming-high, coming-one, coming-many}
use Rattle.coming_fields.proofs.coming_fields.Goals as goal

pub returns-in_err-one : goal.returns-in_err-one
returns-in_err-one c = c.from_residual.ensures ∙ sym (coming-unread _ _ (sym c.field_at.ensures ∙ c.in_err-one.was))

pub returns-then-one-gt65535 : goal.returns-then-one-gt65535
returns-then-one-gt65535 c =
    let r = was_read _ _ _ (sym c.field_at.ensures ∙ c.in_ok-one.was) in
    sym (coming-high _ r (search rules))

pub returns-then-not-one : goal.returns-then-not-one
returns-then-not-one c =
    let r = was_read _ _ _ (sym c.field_at.ensures ∙ c.in_ok-one.was) in
    sym (coming-many _ r (search rules))

pub returns : goal.returns
returns c =
    let r = was_read _ _ _ (sym c.field_at.ensures ∙ c.in_ok-one.was) in
    sym (coming-one _ r (search rules) (search rules))
