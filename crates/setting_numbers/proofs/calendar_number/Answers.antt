-- `calendar_number` goes through its tests in order. Assumes nothing.
use mathlib.Core.Path.{◌≡◌, sym, ◌∙◌}
use lib.ListN.{length}
use borrow.Author.Rules.{rules}
use Rattle.setting_numbers.proofs.Numbers.{array_14, array_18, array_20, array_21, array_0}
use Rattle.setting_numbers.proofs.calendar_number.Goals as goal

pub returns-then-not-has_stations : goal.returns-then-not-has_stations
returns-then-not-has_stations c =
    let a = c.args in
    let full : length a.stations ≡ 64 = search rules in
    array_14 a.stations a.n a.wire a.entries full (sym c.has_stations.ensures ∙ c.if-not-has_stations.true)

pub returns-then-not-sound : goal.returns-then-not-sound
returns-then-not-sound c =
    let a = c.args in
    let full : length a.stations ≡ 64 = search rules in
    array_18 a.stations a.n a.wire a.entries full (sym c.has_stations.ensures ∙ c.if-not-has_stations.false) (sym c.sound.ensures ∙ c.if-not-sound.true)

pub returns-then-not-entries_on : goal.returns-then-not-entries_on
returns-then-not-entries_on c =
    let a = c.args in
    let full : length a.stations ≡ 64 = search rules in
    array_20 a.stations a.n a.wire a.entries full (sym c.has_stations.ensures ∙ c.if-not-has_stations.false) (sym c.sound.ensures ∙ c.if-not-sound.false) (sym c.entries_on.ensures ∙ c.if-not-entries_on.true)

pub returns-else-some_free : goal.returns-else-some_free
returns-else-some_free c =
    let a = c.args in
    let full : length a.stations ≡ 64 = search rules in
    array_21 a.stations a.n a.wire a.entries full (sym c.has_stations.ensures ∙ c.if-not-has_stations.false) (sym c.sound.ensures ∙ c.if-not-sound.false) (sym c.entries_on.ensures ∙ c.if-not-entries_on.false) (sym c.some_free.ensures ∙ c.if-some_free.false)

pub returns-then-some_free : goal.returns-then-some_free
returns-then-some_free c =
    let a = c.args in
    let full : length a.stations ≡ 64 = search rules in
    array_0 a.stations a.n a.wire a.entries full (sym c.has_stations.ensures ∙ c.if-not-has_stations.false) (sym c.sound.ensures ∙ c.if-not-sound.false) (sym c.entries_on.ensures ∙ c.if-not-entries_on.false) (sym c.some_free.ensures ∙ c.if-some_free.true)
