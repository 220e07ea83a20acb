-- `sound` tests the clauses on stations, then those on the messages drawn out of them, then that on owners. Assumes nothing.
use mathlib.Core.Path.{◌≡◌, sym, ap, ◌∙◌}
use mathlib.Core.List.{List}
use native.Mathlib.Omega.{arith}
use borrow.Author.Rules.{rules}
use lib.ListN.{length, take}
use lib.Seq.{length-take-le}
use Rattle.rules.specs.declared.Counters.{Counters}
use Rattle.rules.specs.declared.Station.{Station}
use Rattle.rules.specs.declared.TableMessage.{TableMessage}
use Rattle.rules.specs.declared.WireRow.{WireRow}
use Rattle.channel_rules.specs.Soundness.{table_counters, messages_of, entries_on, sound_table}
use Rattle.soundness.specs.Clauses.{messages_sound}
use Rattle.drawing.proofs.Filling.{all-taken}
use Rattle.soundness.proofs.Parts.{stations_fail, messages_fail, owners-last}
use Rattle.soundness.proofs.sound.Goals as goal

-- the test made of what was drawn out of a table is that on its messages
drawn_are : (s : List Station) (wire : List WireRow) (list : List TableMessage) (k : Counters) → list ≡ messages_of s → k ≡ table_counters s
    → messages_sound k list wire ≡ messages_sound (table_counters s) (messages_of s) wire
drawn_are s wire list k e q = ap (λ (x : List TableMessage). messages_sound k x wire) e ∙ ap (λ (x : Counters). messages_sound x (messages_of s) wire) q

pub returns-then-not-stations_sound : goal.returns-then-not-stations_sound
returns-then-not-stations_sound c =
    let a = c.args in
    let k = c.least-n in
    let full : length a.stations ≡ 64 = search rules in
    let s = take k.result a.stations in
    sym (stations_fail s a.wire (sym c.stations_sound.ensures ∙ c.if-not-stations_sound.true))
    ∙ ap (λ (l : List Station). sound_table l a.wire) (all-taken a.stations full a.count _ k.ensures)

pub messages-list-requires : goal.messages-list-requires
messages-list-requires c =
    let a = c.args in
    let full : length a.stations ≡ 64 = search rules in
    omega (arith, c.least-n.ensures, length-take-le c.least-n.result a.stations (omega (arith, c.least-n.ensures)))

pub returns-then-not-messages_sound : goal.returns-then-not-messages_sound
returns-then-not-messages_sound c =
    let a = c.args in
    let k = c.least-n in
    let full : length a.stations ≡ 64 = search rules in
    let s = take k.result a.stations in
    let e = sym c.stations_sound.ensures ∙ c.if-not-stations_sound.false in
    let m = drawn_are s a.wire _ _ c.messages-list.ensures c.table_counters-counters.ensures in
    sym (messages_fail s a.wire e (sym m ∙ sym c.messages_sound.ensures ∙ c.if-not-messages_sound.true))
    ∙ ap (λ (l : List Station). sound_table l a.wire) (all-taken a.stations full a.count _ k.ensures)

pub returns : goal.returns
returns c =
    let a = c.args in
    let k = c.least-n in
    let full : length a.stations ≡ 64 = search rules in
    let s = take k.result a.stations in
    let e = sym c.stations_sound.ensures ∙ c.if-not-stations_sound.false in
    let m = drawn_are s a.wire _ _ c.messages-list.ensures c.table_counters-counters.ensures in
    c.entries_on.ensures
    ∙ ap (λ (x : Counters). entries_on s x.calendar) c.table_counters-counters.ensures
    ∙ sym (owners-last s a.wire e (sym m ∙ sym c.messages_sound.ensures ∙ c.if-not-messages_sound.false))
    ∙ ap (λ (l : List Station). sound_table l a.wire) (all-taken a.stations full a.count _ k.ensures)
