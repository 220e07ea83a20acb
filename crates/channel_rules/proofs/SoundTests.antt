-- A sound table's test is its eight clauses' tests, each true. Assumes nothing.
use mathlib.Core.Path.{◌≡◌}
use mathlib.Core.Bool.{true, ◌&&◌}
use mathlib.Core.List.{List}
use Rattle.rules.specs.declared.Station.{Station}
use Rattle.rules.specs.declared.WireRow.{WireRow}
use Rattle.rules.proofs.SlotStep.{and_both}
use Rattle.channel_rules.specs.Soundness.{indexes_distinct, records_within, counters_shared, urgent_sound, long_sound, resolution_sound, wire_sound, owners_sound, sound_table}

pub record SoundTests (stations : List Station) (rows : List WireRow) : Type 0 where
  pub distinct : indexes_distinct stations ≡ true
  pub within : records_within stations ≡ true
  pub shared : counters_shared stations ≡ true
  pub urgent : urgent_sound stations ≡ true
  pub long : long_sound stations ≡ true
  pub resolution : resolution_sound stations ≡ true
  pub wire : wire_sound stations rows ≡ true
  pub owners : owners_sound stations ≡ true

pub sound-tests : (stations : List Station) (wire : List WireRow) → sound_table stations wire ≡ true → SoundTests stations wire
unfolding sound_table
sound-tests s w e =
    let x7 = and_both (indexes_distinct s && records_within s && counters_shared s && urgent_sound s && long_sound s && resolution_sound s && wire_sound s w) (owners_sound s) e in
    let x6 = and_both (indexes_distinct s && records_within s && counters_shared s && urgent_sound s && long_sound s && resolution_sound s) (wire_sound s w) x7.0 in
    let x5 = and_both (indexes_distinct s && records_within s && counters_shared s && urgent_sound s && long_sound s) (resolution_sound s) x6.0 in
    let x4 = and_both (indexes_distinct s && records_within s && counters_shared s && urgent_sound s) (long_sound s) x5.0 in
    let x3 = and_both (indexes_distinct s && records_within s && counters_shared s) (urgent_sound s) x4.0 in
    let x2 = and_both (indexes_distinct s && records_within s) (counters_shared s) x3.0 in
    let x1 = and_both (indexes_distinct s) (records_within s) x2.0 in
    record { distinct = x1.0; within = x1.1; shared = x2.1; urgent = x3.1; long = x4.1; resolution = x5.1; wire = x6.1; owners = x7.1 }

pub tests-sound : (stations : List Station) (wire : List WireRow) → SoundTests stations wire → sound_table stations wire ≡ true
unfolding sound_table
tests-sound s w t = rw (t.distinct, t.within, t.shared, t.urgent, t.long, t.resolution, t.wire, t.owners)
