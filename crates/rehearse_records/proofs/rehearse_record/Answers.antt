-- `rehearse_record` meets its contract: the first record is the start, a later one goes by its word. Assumes nothing.
use mathlib.Core.Path.{sym, ap, ◌∙◌}
use Rattle.rehearsing.specs.Rehearsing.{write_result}
use Rattle.rehearsing.proofs.Results.{as_result}
use Rattle.rehearse_records.proofs.Ways.{first-starts, later-calls}
use Rattle.rehearse_records.proofs.rehearse_record.Goals as goal

pub returns-then-r-le1 : goal.returns-then-r-le1
returns-then-r-le1 c =
    let a = c.args in
    let told =
    as_result a.r a.next a.out.now a.at (first-starts a.r a.bytes.now c.if-r-le1.true)
    (c.start_record.ensures.buffer, c.start_record.ensures.answer) in
    record { buffer = told.0; answer = told.1 }

pub returns-in-Slot : goal.returns-in-Slot
returns-in-Slot c =
    let a = c.args in
    let kind = sym c.kind_of.ensures ∙ c.in-Slot.is in
    let told =
    as_result a.r a.next a.out.now a.at (later-calls a.r a.bytes.now c.if-r-le1.false kind)
    (c.slot_record.ensures.buffer, c.slot_record.ensures.answer) in
    record { buffer = told.0; answer = told.1 }

pub returns-in-Offer : goal.returns-in-Offer
returns-in-Offer c =
    let a = c.args in
    let kind = sym c.kind_of.ensures ∙ c.in-Offer.is in
    let told =
    as_result a.r a.next a.out.now a.at (ap (write_result a.r) c.offer_in.ensures ∙ later-calls a.r a.bytes.now c.if-r-le1.false kind)
    (c.write_record.ensures.buffer, c.write_record.ensures.answer) in
    record { buffer = told.0; answer = told.1 }

pub returns-in-Hold : goal.returns-in-Hold
returns-in-Hold c =
    let a = c.args in
    let kind = sym c.kind_of.ensures ∙ c.in-Hold.is in
    let told =
    as_result a.r a.next a.out.now a.at (ap (write_result a.r) c.hold_in.ensures ∙ later-calls a.r a.bytes.now c.if-r-le1.false kind)
    (c.write_record-in-Hold.ensures.buffer, c.write_record-in-Hold.ensures.answer) in
    record { buffer = told.0; answer = told.1 }

pub returns-in-Commit : goal.returns-in-Commit
returns-in-Commit c =
    let a = c.args in
    let kind = sym c.kind_of.ensures ∙ c.in-Commit.is in
    let told =
    as_result a.r a.next a.out.now a.at (ap (write_result a.r) c.commit_in.ensures ∙ later-calls a.r a.bytes.now c.if-r-le1.false kind)
    (c.write_record-in-Commit.ensures.buffer, c.write_record-in-Commit.ensures.answer) in
    record { buffer = told.0; answer = told.1 }

pub returns-in-Withdraw : goal.returns-in-Withdraw
returns-in-Withdraw c =
    let a = c.args in
    let kind = sym c.kind_of.ensures ∙ c.in-Withdraw.is in
    let told =
    as_result a.r a.next a.out.now a.at (ap (write_result a.r) c.withdrawal_in.ensures ∙ later-calls a.r a.bytes.now c.if-r-le1.false kind)
    (c.write_record-in-Withdraw.ensures.buffer, c.write_record-in-Withdraw.ensures.answer) in
    record { buffer = told.0; answer = told.1 }

pub returns-in-BareSlot : goal.returns-in-BareSlot
returns-in-BareSlot c =
    let a = c.args in
    let kind = sym c.kind_of.ensures ∙ c.in-BareSlot.is in
    let told =
    as_result a.r a.next a.out.now a.at (later-calls a.r a.bytes.now c.if-r-le1.false kind)
    (c.bare_slot.ensures.buffer, c.bare_slot.ensures.answer) in
    record { buffer = told.0; answer = told.1 }

pub returns-in-Calendar : goal.returns-in-Calendar
returns-in-Calendar c =
    let a = c.args in
    let kind = sym c.kind_of.ensures ∙ c.in-Calendar.is in
    let told =
    as_result a.r a.next a.out.now a.at (later-calls a.r a.bytes.now c.if-r-le1.false kind)
    (c.calendar_record.ensures.buffer, c.calendar_record.ensures.answer) in
    record { buffer = told.0; answer = told.1 }

pub returns-in-Show : goal.returns-in-Show
returns-in-Show c =
    let a = c.args in
    let kind = sym c.kind_of.ensures ∙ c.in-Show.is in
    let told =
    as_result a.r a.next a.out.now a.at (later-calls a.r a.bytes.now c.if-r-le1.false kind)
    (c.show_record.ensures.buffer, c.show_record.ensures.answer) in
    record { buffer = told.0; answer = told.1 }

pub returns-in-Coming : goal.returns-in-Coming
returns-in-Coming c =
    let a = c.args in
    let kind = sym c.kind_of.ensures ∙ c.in-Coming.is in
    let told =
    as_result a.r a.next a.out.now a.at (later-calls a.r a.bytes.now c.if-r-le1.false kind)
    (c.coming_record.ensures.buffer, c.coming_record.ensures.answer) in
    record { buffer = told.0; answer = told.1 }

pub returns-in-Unknown : goal.returns-in-Unknown
returns-in-Unknown c =
    let a = c.args in
    let kind = sym c.kind_of.ensures ∙ c.in-Unknown.is in
    let told =
    as_result a.r a.next a.out.now a.at (later-calls a.r a.bytes.now c.if-r-le1.false kind)
    (c.end_with.ensures.buffer, c.end_with.ensures.answer) in
    record { buffer = told.0; answer = told.1 }
