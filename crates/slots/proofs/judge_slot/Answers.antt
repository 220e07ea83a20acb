-- `judge_slot` tests how many stations there are and whether the table is sound; the other tests go by the counters that all share. Assumes nothing.
use mathlib.Core.Path.{◌≡◌, sym, ◌∙◌}
use lib.ListN.{length}
use borrow.Author.Rules.{rules}
use Rattle.slots.proofs.Rows.{array_14, array_18, array-on, array-readable}
use Rattle.slots.proofs.judge_slot.Goals as goal

pub returns-then-not-has_stations : goal.returns-then-not-has_stations
returns-then-not-has_stations c =
    let a = c.args in
    let full : length a.stations ≡ 64 = search rules in
    c.refuse_slot.ensures ∙ array_14 a.stations a.n a.wire full a.picks.now (sym c.has_stations.ensures ∙ c.if-not-has_stations.true)

pub returns-then-not-sound : goal.returns-then-not-sound
returns-then-not-sound c =
    let a = c.args in
    let full : length a.stations ≡ 64 = search rules in
    c.refuse_slot-then-not-sound.ensures
    ∙ array_18 a.stations a.n a.wire full (sym c.has_stations.ensures ∙ c.if-not-has_stations.false) a.picks.now
    (sym c.sound.ensures ∙ c.if-not-sound.true)

pub judge_sound-requires : goal.judge_sound-requires
judge_sound-requires c =
    let a = c.args in
    let full : length a.stations ≡ 64 = search rules in
    array-readable a.stations a.n a.wire full (sym c.has_stations.ensures ∙ c.if-not-has_stations.false) (sym c.sound.ensures ∙ c.if-not-sound.false)

pub returns : goal.returns
returns c =
    let a = c.args in
    let full : length a.stations ≡ 64 = search rules in
    c.judge_sound.ensures _
    (array-on a.stations a.n a.wire full (sym c.has_stations.ensures ∙ c.if-not-has_stations.false) (sym c.sound.ensures ∙ c.if-not-sound.false))
