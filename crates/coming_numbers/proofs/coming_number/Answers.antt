-- `coming_number` goes through its tests in order. Assumes nothing.
use mathlib.Core.Path.{◌≡◌, sym, ◌∙◌}
use lib.ListN.{length}
use borrow.Author.Rules.{rules}
use Rattle.coming_numbers.proofs.Numbers.{array_14, array_18, array_23, array_0}
use Rattle.coming_numbers.proofs.coming_number.Goals as goal

pub returns-then-not-has_stations : goal.returns-then-not-has_stations
returns-then-not-has_stations c =
    let a = c.args in
    let full : length a.stations ≡ 64 = search rules in
    array_14 a.stations a.n a.wire a.w full (sym c.has_stations.ensures ∙ c.if-not-has_stations.true)

pub returns-then-not-sound : goal.returns-then-not-sound
returns-then-not-sound c =
    let a = c.args in
    let full : length a.stations ≡ 64 = search rules in
    array_18 a.stations a.n a.wire a.w full (sym c.has_stations.ensures ∙ c.if-not-has_stations.false) (sym c.sound.ensures ∙ c.if-not-sound.true)

pub returns-then-not-has_slots : goal.returns-then-not-has_slots
returns-then-not-has_slots c =
    let a = c.args in
    let full : length a.stations ≡ 64 = search rules in
    array_23 a.stations a.n a.wire a.w full (sym c.has_stations.ensures ∙ c.if-not-has_stations.false) (sym c.sound.ensures ∙ c.if-not-sound.false) (sym c.has_slots.ensures ∙ c.if-not-has_slots.true)

pub returns : goal.returns
returns c =
    let a = c.args in
    let full : length a.stations ≡ 64 = search rules in
    array_0 a.stations a.n a.wire a.w full (sym c.has_stations.ensures ∙ c.if-not-has_stations.false) (sym c.sound.ensures ∙ c.if-not-sound.false) (sym c.has_slots.ensures ∙ c.if-not-has_slots.false)
