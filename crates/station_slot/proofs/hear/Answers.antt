-- `hear` gives 6, 11, the number of the row's reading, or what the row that was heard leads to. Assumes nothing.
use mathlib.Core.Path.{◌≡◌, ◌∙◌, sym, ap}
use mathlib.Core.Bool.{true, false}
use native.Mathlib.Omega.{arith}
use borrow.Author.Tests.{le-leb, lt-leb}
use Rattle.minislot.specs.declared.RowReading.{RowReading}
use Rattle.rules.specs.Limits.{between}
use Rattle.rules.specs.StationCalls.{refused_slot}
use Rattle.rules.proofs.RowReads.{read-row}
use Rattle.rules.proofs.StationLaws.{slot_6, slot_11, slot-bad, slot-heard}
use Rattle.station_slot.proofs.hear.Goals as goal

pub returns-then-number-eq6 : goal.returns-then-number-eq6
returns-then-number-eq6 c =
    let a = c.args in
    let within = c.requires in
    let is = ap (λ (x : RowReading). x.number) (sym c.read_row-row.ensures) in
    c.refused_slot.ensures ∙ ap (refused_slot a.s) c.if-number-eq6.true
    ∙ slot_6 a.s a.words.now a.counts.now a.pick within (is ∙ c.if-number-eq6.true)

pub returns-then-pick-lt1 : goal.returns-then-pick-lt1
returns-then-pick-lt1 c =
    let a = c.args in
    let within = c.requires in
    let is = ap (λ (x : RowReading). x.number) (sym c.read_row-row.ensures) in
    let out : between 1 a.pick a.s.counters.minislots ≡ false = rw (lt-leb 1 a.pick (omega arith)) in
    c.refused_slot-then-pick-lt1.ensures ∙ slot_11 a.s a.words.now a.counts.now a.pick within (λ q. c.if-number-eq6.false (sym is ∙ q)) out

pub returns-then-m-pick : goal.returns-then-m-pick
returns-then-m-pick c =
    let a = c.args in
    let within = c.requires in
    let is = ap (λ (x : RowReading). x.number) (sym c.read_row-row.ensures) in
    let out : between 1 a.pick a.s.counters.minislots ≡ false = rw (le-leb 1 a.pick (omega arith), lt-leb a.pick a.s.counters.minislots (omega arith)) in
    c.refused_slot-then-m-pick.ensures ∙ slot_11 a.s a.words.now a.counts.now a.pick within (λ q. c.if-number-eq6.false (sym is ∙ q)) out

pub hear_row-requires : goal.hear_row-requires
hear_row-requires c =
    let a = c.args in
    let within = c.requires in
    let is = ap (λ (x : RowReading). x.number) (sym c.read_row-row.ensures) in
    let none = is ∙ c.if-number-eq0.true in
    record {
      within = within;
      read = rw c.read_row-row.ensures (read-row a.s.counters.minislots a.words.now a.counts.now none);
    }

pub returns-then-number-eq0 : goal.returns-then-number-eq0
returns-then-number-eq0 c =
    let a = c.args in
    let within = c.requires in
    let is = ap (λ (x : RowReading). x.number) (sym c.read_row-row.ensures) in
    let none = is ∙ c.if-number-eq0.true in
    let picked : between 1 a.pick a.s.counters.minislots ≡ true = rw (le-leb 1 a.pick (omega arith), le-leb a.pick a.s.counters.minislots (omega arith)) in
    c.hear_row.ensures ∙ rw c.read_row-row.ensures (slot-heard a.s a.words.now a.counts.now a.pick within none picked)

pub returns : goal.returns
returns c =
    let a = c.args in
    let within = c.requires in
    let is = ap (λ (x : RowReading). x.number) (sym c.read_row-row.ensures) in
    let picked : between 1 a.pick a.s.counters.minislots ≡ true = rw (le-leb 1 a.pick (omega arith), le-leb a.pick a.s.counters.minislots (omega arith)) in
    c.refused_slot-2.ensures ∙ ap (refused_slot a.s) (sym is)
    ∙ slot-bad a.s a.words.now a.counts.now a.pick within (λ q. c.if-number-eq6.false (sym is ∙ q)) picked (λ q. c.if-number-eq0.false (sym is ∙ q))
