-- `row` makes its tests in the paper's order, and then listens to the first m of the words and of the counts.
-- Assumes nothing.
use mathlib.Core.Path.{sym, ◌∙◌}
use Rattle.record_steps.proofs.RowReads.{row-refused, other-count, outside, word_count, count-count, heard-row}
use Rattle.record_steps.proofs.row.Goals as goal

pub returns-in_default : goal.returns-in_default
returns-in_default c =
    let a = c.args in
    c.refused.ensures ∙ row-refused a.f a.bytes.now (sym c.row_fields.ensures ∙ c.in_default.is)

pub returns-then-row-m : goal.returns-then-row-m
returns-then-row-m c =
    let a = c.args in
    c.refused-then-row-m.ensures ∙ other-count a.f a.bytes.now _ (sym c.row_fields.ensures ∙ c.in-Some.is) c.if-row-m.true

pub returns-then-m-gt8 : goal.returns-then-m-gt8
returns-then-m-gt8 c =
    let a = c.args in
    c.refused-then-m-gt8.ensures ∙ outside a.f a.bytes.now _ (sym c.row_fields.ensures ∙ c.in-Some.is) c.if-row-m.false c.if-m-gt8.true

pub slice_bounds-listen-end : goal.slice_bounds-listen-end
slice_bounds-listen-end c =
    let a = c.args in
    sym (word_count a.f a.bytes.now _ (sym c.row_fields.ensures ∙ c.in-Some.is) c.if-row-m.false c.if-m-gt8.false)

pub slice_bounds-listen-end-2 : goal.slice_bounds-listen-end-2
slice_bounds-listen-end-2 c =
    let a = c.args in
    sym (count-count a.f a.bytes.now _ (sym c.row_fields.ensures ∙ c.in-Some.is) c.if-row-m.false c.if-m-gt8.false)

pub returns : goal.returns
returns c =
    let a = c.args in
    c.listened.ensures ∙ heard-row a.f a.bytes.now _ (sym c.row_fields.ensures ∙ c.in-Some.is) c.if-row-m.false c.if-m-gt8.false _ c.listen-heard.ensures.0
