-- The edges that the paper marks P hold: by computation, but for the word above bit 11, which is refused whatever the count, and the
-- general forms, which are proofs/EdgesAnyHold.antt's. Assumes nothing.
use mathlib.Core.Path.{refl}
use native.Mathlib.Omega.{arith}
use lib.Count.{ones, ones_in}
use Rattle.pattern.specs.Patterns.{those, six_ones, patterns, place_of, index_of}
use Rattle.minislot.specs.Reading.{reading_of}
use Rattle.rows.specs.Row.{readings, first_number, feedbacks}
use Rattle.minislot.proofs.Readings.{reads_1}
use Rattle.message.specs.Message.{fits_message, ceiling, slots_for, slot_total_of}
use Rattle.rules.specs.Calendars.{entries_within, some_free, calendar_within}
use Rattle.rules.specs.Limits.{groups_within, within_limits}
use Rattle.rules.specs.RowCounts.{short_singles, collides}
use Rattle.rules.specs.Queueing.{queued_row, passes, immediate_of, places_after, step_one_of}
use Rattle.rules.specs.Turns.{turn_of}
use Rattle.rules.specs.Falling.{fallen}
use Rattle.rules.specs.Listening.{listened, heard_number_of, listen_of, listen_number_of, listening_of}
use Rattle.edges.specs.Edges.{Edges}
use Rattle.edges.proofs.EdgesAnyHold.{edges-any}

pub edges : Edges
unfolding ones ones_in those six_ones patterns place_of index_of reading_of readings first_number feedbacks short_singles collides
    fits_message ceiling slots_for slot_total_of groups_within entries_within some_free calendar_within within_limits queued_row passes immediate_of places_after step_one_of turn_of fallen
    listened heard_number_of listen_of listen_number_of listening_of
edges =
    record {
      word_62_1 = refl;
      word_62_0 = refl;
      word_1_0 = refl;
      word_31_255 = refl;
      word_63_1 = refl;
      word_127_9 = refl;
      word_4032_255 = refl;
      word_4096 = λ count. reads_1 4096 count (omega arith);
      word_63_0 = refl;
      word_0_1 = refl;
      bytes_48 = refl;
      bytes_49 = refl;
      bytes_12240 = refl;
      bytes_12241 = refl;
      five_rows = refl;
      single-and_collide = refl;
      collide_and-single = refl;
      resolve-slot = refl;
      then_a-single = refl;
      any = edges-any;
    }
