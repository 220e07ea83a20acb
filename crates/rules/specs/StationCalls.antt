-- Starting a station, and its slot (paper 01, "Operations and their numbers"; paper 02, T-04). A refusal leaves the record as it was.
-- Assumes nothing.
use Rattle.std.specs.Prelude.{Bool, List, ℕ, leb}
use Rattle.minislot.specs.declared.Feedback.{Feedback}
use Rattle.rows.specs.Row.{readings, first_number, feedbacks}
use Rattle.rules.specs.declared.Station.{Station}
use Rattle.rules.specs.declared.StationStarted.{StationStarted}
use Rattle.rules.specs.declared.StationSlot.{StationSlot}
use Rattle.rules.specs.declared.StartAnswer.TheVariants.{Ready, Refused as RefusedStart}
use Rattle.rules.specs.declared.SlotAnswer.TheVariants.{Refused as RefusedSlot}
use Rattle.rules.specs.Refusing.{unless, or_next, by_number}
use Rattle.rules.specs.Limits.{between}
use Rattle.rules.specs.Starting.{start_counters, no_counters, in_ranges}
use Rattle.rules.specs.Queueing.{step_one_of}
use Rattle.rules.specs.Listening.{has_row}
use Rattle.rules.specs.StationLimits.{Free, holding, station_within}
use Rattle.rules.specs.OwnHearing.{hears_itself}
use Rattle.rules.specs.Outcome.{outcome_of}
use Rattle.rules.specs.Stepping.{step_of}

-- ---- starting: 5, 8

abbrev pub start_station : ℕ → ℕ → ℕ → Station
start_station m n index = record { counters = start_counters m n; index = index; short = holding Free; long = holding Free }

abbrev pub no_station : Station
no_station = record { counters = no_counters; index = 0; short = holding Free; long = holding Free }

abbrev pub is_index : ℕ → Bool
is_index i = leb i 923

abbrev pub refused_start : ℕ → StationStarted
refused_start n = record { answer = RefusedStart n; station = no_station }

unfoldable pub station_start_number_of : ℕ → ℕ → ℕ → ℕ
station_start_number_of m n index =
    unless (in_ranges m n) 5
    (unless (is_index index) 8
    0)

unfoldable pub station_start_of : ℕ → ℕ → ℕ → StationStarted
station_start_of m n index =
    by_number (station_start_number_of m n index) refused_start (record { answer = Ready; station = start_station m n index })

-- ---- a slot: 18, 6, 11, then 1, 3 or 4 of the first bad minislot, 7, 12

abbrev pub refused_slot : Station → ℕ → StationSlot
refused_slot s n = record { answer = RefusedSlot n; request = 0; station = s }

-- a row that was heard, a pick in range: 7, 12
unfoldable pub heard_slot_number_of : Station → List ℕ → List Feedback → ℕ
heard_slot_number_of s words row =
    unless (step_one_of s.counters row).fits 7
    (unless (hears_itself s words row) 12
    0)

unfoldable pub heard_slot_of : Station → List ℕ → List Feedback → ℕ → StationSlot
heard_slot_of s words row pick = by_number (heard_slot_number_of s words row) (refused_slot s) (step_of (outcome_of s.counters row) s pick)

-- A STATION'S SLOT
unfoldable pub slot_number_of : Station → List ℕ → List ℕ → ℕ → ℕ
slot_number_of s words counts pick =
    unless (station_within s) 18
    (unless (has_row s.counters.minislots words counts) 6
    (unless (between 1 pick s.counters.minislots) 11
    (or_next (first_number (readings words counts))
    (heard_slot_number_of s words (feedbacks (readings words counts))))))

unfoldable pub slot_of : Station → List ℕ → List ℕ → ℕ → StationSlot
slot_of s words counts pick =
    by_number (slot_number_of s words counts pick) (refused_slot s)
    (step_of (outcome_of s.counters (feedbacks (readings words counts))) s pick)
