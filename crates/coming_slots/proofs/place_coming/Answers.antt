-- `place_coming` goes by the call's number. Where it is 0 the tests have passed, and so the table's calendar is within its limits, which `fill` and
-- `slots_until` require. Assumes nothing.
use mathlib.Core.Path.{◌≡◌, sym, ap, ◌∙◌}
use borrow.Author.Rules.{rules}
use lib.ListN.{length}
use Rattle.calls.specs.ByValue.{array_channel}
use Rattle.coming_rules.specs.Coming.{ComingResult, coming_number_of}
use Rattle.coming_slots.proofs.Deciding.{coming-refused, calendar-held, fill-held, coming-planned}
use Rattle.coming_slots.proofs.place_coming.Goals as goal
use Rattle.coming_slots.proofs.place_coming.Goals.{Else-number-ne0}

pub returns-then-number-ne0 : goal.returns-then-number-ne0
returns-then-number-ne0 c =
    let a = c.args in
    let n = c.coming_number-number in
    let e = coming-refused (array_channel a.d.stations a.d.count a.wire) a.list.now n.result n.ensures c.if-number-ne0.true in
    (sym (ap (λ (r : ComingResult). r.list) e), sym (ap (λ (r : ComingResult). r.answer) e))

-- a call that goes on is not refused
went : (c : Else-number-ne0) → coming_number_of (array_channel c.args.d.stations c.args.d.count c.args.wire) (length c.args.list.now) ≡ 0
went c = sym c.coming_number-number.ensures ∙ c.if-number-ne0.false

pub fill-requires : goal.fill-requires
fill-requires c =
    let a = c.args in
    let full : length a.d.stations ≡ 64 = search rules in
    fill-held a.d.stations a.d.count a.wire a.list.now full (went (goal.at.fill-requires c).Else-number-ne0) c.table_counters-counters.result c.table_counters-counters.ensures

pub slots_until-requires : goal.slots_until-requires
slots_until-requires c =
    let a = c.args in
    let full : length a.d.stations ≡ 64 = search rules in
    calendar-held a.d.stations a.d.count a.wire a.list.now full (went (goal.at.slots_until-requires c).Else-number-ne0) c.table_counters-counters.result c.table_counters-counters.ensures

pub returns : goal.returns
returns c =
    let a = c.args in
    let full : length a.d.stations ≡ 64 = search rules in
    coming-planned a.d.stations a.d.count a.wire a.list.now full (went (goal.at.returns c).Else-number-ne0) c.table_counters-counters.result c.table_counters-counters.ensures c.served-places.result c.fill.new.list c.slots_until.result c.served-places.ensures c.fill.ensures c.slots_until.ensures
