-- `rehearse_next` meets its contract: it goes by where the record ends. Assumes nothing.
use mathlib.Core.Path.{refl, sym, ◌∙◌}
use native.Mathlib.Omega.{arith}
use Rattle.records.proofs.Streams.{inside}
use Rattle.rehearser.proofs.Ways.{as_advance, cut_advances}
use Rattle.rehearser.proofs.rehearse_next.Goals as goal

pub slice_bounds-rehearse_record-count : goal.slice_bounds-rehearse_record-count
slice_bounds-rehearse_record-count c =
    let a = c.args in
    let i = inside 512 a.bytes.now a.start a.ended _ _ (sym c.cut_record.ensures.cut ∙ c.in-Record.is) in
    omega (arith, i.0, i.1, i.2)

pub slice_bounds-rehearse_record-start : goal.slice_bounds-rehearse_record-start
slice_bounds-rehearse_record-start c =
    let a = c.args in
    let i = inside 512 a.bytes.now a.start a.ended _ _ (sym c.cut_record.ensures.cut ∙ c.in-Record.is) in
    omega (arith, i.0, i.1, i.2)

pub slice_bounds-rehearse_record-end : goal.slice_bounds-rehearse_record-end
slice_bounds-rehearse_record-end c =
    let a = c.args in
    let i = inside 512 a.bytes.now a.start a.ended _ _ (sym c.cut_record.ensures.cut ∙ c.in-Record.is) in
    omega (arith, i.0, i.1, i.2)

pub returns-in-Record : goal.returns-in-Record
returns-in-Record c =
    let a = c.args in
    let cut = sym c.cut_record.ensures.cut ∙ c.in-Record.is in
    let told = as_advance a.out.now a.at (cut_advances a.r a.bytes.now a.start a.ended cut) (c.rehearse_record.ensures.buffer, c.rehearse_record.ensures.answer) in
    record { buffer = told.0; answer = told.1 }

pub returns-in-More : goal.returns-in-More
returns-in-More c =
    let a = c.args in
    let cut = sym c.cut_record.ensures.cut ∙ c.in-More.is in
    let told = as_advance a.out.now a.at (cut_advances a.r a.bytes.now a.start a.ended cut) (refl, refl) in
    record { buffer = told.0; answer = told.1 }

pub returns-in-Done : goal.returns-in-Done
returns-in-Done c =
    let a = c.args in
    let cut = sym c.cut_record.ensures.cut ∙ c.in-Done.is in
    let told = as_advance a.out.now a.at (cut_advances a.r a.bytes.now a.start a.ended cut) (c.finish.ensures.buffer, c.finish.ensures.answer) in
    record { buffer = told.0; answer = told.1 }

pub returns-in-Broken : goal.returns-in-Broken
returns-in-Broken c =
    let a = c.args in
    let cut = sym c.cut_record.ensures.cut ∙ c.in-Broken.is in
    let told = as_advance a.out.now a.at (cut_advances a.r a.bytes.now a.start a.ended cut) (c.end_with.ensures.buffer, c.end_with.ensures.answer) in
    record { buffer = told.0; answer = told.1 }
