-- `advance_at` goes by where the record ends.
-- Assumes nothing.
use mathlib.Core.Path.{ap, sym, ◌∙◌}
use native.Mathlib.Omega.{arith}
use Rattle.programs.specs.Advancing.{advance_of}
use Rattle.advances.specs.Advanced.{advanced}
use Rattle.advances.proofs.Records.{record_advanced}
use Rattle.records.proofs.Streams.{inside}
use Rattle.advances.proofs.advance_at.Goals as goal

pub slice_bounds-read_record-count : goal.slice_bounds-read_record-count
slice_bounds-read_record-count c =
    let a = c.args in
    let i = inside 128 a.bytes.now a.start a.ended _ _ (sym c.cut_record.ensures.cut ∙ c.in-Record.is) in
    omega (arith, i.0, i.1, i.2)

pub slice_bounds-read_record-start : goal.slice_bounds-read_record-start
slice_bounds-read_record-start c =
    let a = c.args in
    let i = inside 128 a.bytes.now a.start a.ended _ _ (sym c.cut_record.ensures.cut ∙ c.in-Record.is) in
    omega (arith, i.0, i.1, i.2)

pub slice_bounds-read_record-end : goal.slice_bounds-read_record-end
slice_bounds-read_record-end c =
    let a = c.args in
    let i = inside 128 a.bytes.now a.start a.ended _ _ (sym c.cut_record.ensures.cut ∙ c.in-Record.is) in
    omega (arith, i.0, i.1, i.2)

pub returns-in-Record : goal.returns-in-Record
unfolding advance_of
returns-in-Record c =
    rw (← c.cut_record.ensures.cut, c.in-Record.is)
    (ap advanced (rw c.read_record.ensures at c.stepped.ensures) ∙ record_advanced _ _ _)

pub returns-in-More : goal.returns-in-More
unfolding advance_of
returns-in-More c = rw (← c.cut_record.ensures.cut, c.in-More.is)

pub returns-in-Done : goal.returns-in-Done
unfolding advance_of
returns-in-Done c = rw (← c.cut_record.ensures.cut, c.in-Done.is) c.done.ensures

pub returns-in-Broken : goal.returns-in-Broken
unfolding advance_of
returns-in-Broken c =
    rw (← c.cut_record.ensures.cut, c.in-Broken.is)
    (ap advanced (rw c.refused.ensures at c.stepped-in-Broken.ensures))
