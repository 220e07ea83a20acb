-- A station keeps the listener's counters: when its slot goes through, a listener with its counters that hears the same row gives the same turn and has the
-- same counters after; when its calendar is set, so is that of a listener with its counters, and they have the same counters after. Assumes nothing.
use mathlib.Core.Path.{◌≡◌, refl}
use mathlib.Core.List.{List}
use Prim.Native.Nat.{ℕ}
use native.Mathlib.Omega.{arith}
use Rattle.rows.specs.Row.{readings, first_number, feedbacks}
use Rattle.rules.specs.declared.Station.{Station}
use Rattle.rules.specs.declared.StationSlot.{StationSlot}
use Rattle.rules.specs.declared.ListenAnswer.TheVariants.{Went as WentListening}
use Rattle.rules.specs.declared.SlotAnswer.TheVariants.{Went as WentSlot}
use Rattle.rules.specs.declared.StationSet.{StationSet}
use Rattle.rules.specs.declared.CalendarAnswer.TheVariants.{Set}
use Rattle.rules.specs.Settings.{entries_number_of, calendar_number_of, calendar_of, refused_setting, station_calendar_number_of, station_calendar_of}
use Rattle.rules.specs.Limits.{between}
use Rattle.rules.specs.Queueing.{step_one_of}
use Rattle.rules.specs.Turns.{Turn}
use Rattle.rules.specs.Listening.{listened, heard_number_of, listen_number_of, listening_of, has_row}
use Rattle.rules.specs.StationLimits.{station_within}
use Rattle.rules.specs.Outcome.{outcome_by}
use Rattle.rules.specs.Stepping.{step_of}
use Rattle.rules.specs.StationCalls.{refused_slot, heard_slot_number_of, slot_number_of, slot_of}
use Rattle.rules.proofs.LimitLaws.{station_in}
use Rattle.rules.proofs.Refusals.{through-only, test_passed, none_found}

pub station-listens : (s : Station) (words counts : List ℕ) (pick : ℕ) (turn : Turn) (minislot segment : ℕ) → (slot_of s words counts pick).answer ≡ WentSlot turn minislot segment
    → listening_of s.counters words counts ≡ record { answer = WentListening turn; counters = (slot_of s words counts pick).station.counters }
unfolding slot_of slot_number_of heard_slot_number_of listening_of listen_number_of heard_number_of listened step_of outcome_by
station-listens s words counts pick turn minislot segment e =
    let none =
    through-only (λ (r : StationSlot). r.answer ≡ WentSlot turn minislot segment) (slot_number_of s words counts pick) (refused_slot s) _
    (λ k q. let z : ◌≡◌ {A = ℕ} 0 1 = cc in absurd (omega arith)) e in
    let (e18, after18) = test_passed (station_within s) 18 _ refl none in
    let (e6, after6) = test_passed (has_row s.counters.minislots words counts) 6 _ refl after18 in
    let (e11, after11) = test_passed (between 1 pick s.counters.minislots) 11 _ refl after6 in
    let (e1, after1) = none_found (first_number (readings words counts)) _ after11 in
    let (e7, after7) = test_passed (step_one_of s.counters (feedbacks (readings words counts))).fits 7 _ refl after1 in
    let went = rw none at e in
    rw (none, (station_in s e18).counters, e6, e1, e7) cc

pub calendar-listens : (s : Station) (entries : List ℕ) → (station_calendar_of s entries).answer ≡ Set
    → calendar_of s.counters entries ≡ record { answer = Set; counters = (station_calendar_of s entries).station.counters }
unfolding station_calendar_of station_calendar_number_of calendar_of calendar_number_of
calendar-listens s entries e =
    let none =
    through-only (λ (r : StationSet). r.answer ≡ Set) (station_calendar_number_of s entries) (refused_setting s) _ (λ k q. let z : ◌≡◌ {A = ℕ} 0 1 = cc in absurd (omega arith)) e in
    let (e18, after18) = test_passed (station_within s) 18 (entries_number_of entries) refl none in
    rw (none, (station_in s e18).counters, after18)
