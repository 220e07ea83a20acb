-- The definition of each call of a listener or a station answers the number of its own list and the values that specs/Answered tells with it: what goes by the number goes by it alone.
-- Assumes nothing.
use mathlib.Core.Path.{◌≡◌}
use mathlib.Core.List.{List}
use Prim.Native.Nat.{ℕ}
use Rattle.rules.specs.declared.Counters.{Counters}
use Rattle.rules.specs.declared.Started.{Started}
use Rattle.rules.specs.declared.Listened.{Listened}
use Rattle.rules.specs.declared.Station.{Station}
use Rattle.rules.specs.declared.StationStarted.{StationStarted}
use Rattle.rules.specs.declared.StationWritten.{StationWritten}
use Rattle.rules.specs.declared.StationSlot.{StationSlot}
use Rattle.rules.specs.Starting.{refused_listener, start_number_of, start_of}
use Rattle.rules.specs.Listening.{refused_listening, listened, listen_number_of, listening_of}
use Rattle.rules.specs.Stepping.{step_of}
use Rattle.rules.specs.StationCalls.{refused_start, station_start_number_of, station_start_of, refused_slot, slot_number_of, slot_of}
use Rattle.rules.specs.Writing.{Writing, refused_write, write_number_of, write_of}
use Rattle.rules.specs.declared.CalendarSet.{CalendarSet}
use Rattle.rules.specs.declared.StationSet.{StationSet}
use Rattle.rules.specs.Settings.{refused_calendar, calendar_number_of, calendar_of, refused_setting, station_calendar_number_of, station_calendar_of}
use Rattle.rules.specs.Recorded.{stretch, listening_at_of, slot_at_of}
use Rattle.rules.specs.Numbers.{start_told, listen_told, write_told, slot_told, calendar_told}
use Rattle.rules.specs.Answered.{start_told_of, listen_told_of, station_start_told_of, write_told_of, slot_told_of, listen_at_told_of, slot_at_told_of, calendar_told_of, station_calendar_told_of}
use Rattle.rules.proofs.Refusals.{by-ap}

-- ---- STARTING

pub start-told : (m n : ℕ) → start_told (start_of m n).answer ≡ start_told_of m n
unfolding start_of start_told_of
start-told m n = by-ap (λ (r : Started). start_told r.answer) (start_number_of m n) refused_listener _

pub station-start_told : (m n index : ℕ) → start_told (station_start_of m n index).answer ≡ station_start_told_of m n index
unfolding station_start_of station_start_told_of
station-start_told m n index = by-ap (λ (r : StationStarted). start_told r.answer) (station_start_number_of m n index) refused_start _

-- ---- LISTENING, and on a stretch of a recording

pub listen-told : (c : Counters) (words counts : List ℕ) → listen_told (listening_of c words counts).answer ≡ listen_told_of c words counts
unfolding listening_of listen_told_of listened
listen-told c words counts = by-ap (λ (r : Listened). listen_told r.answer) (listen_number_of c words counts) (refused_listening c) _

pub listen_at-told : (c : Counters) (start : ℕ) (words counts : List ℕ) → listen_told (listening_at_of c start words counts).answer ≡ listen_at_told_of c start words counts
unfolding listening_at_of listen_at_told_of
listen_at-told c start words counts = listen-told c (stretch c.minislots start words) (stretch c.minislots start counts)

-- ---- A STATION'S WRITING AND SLOT, and a slot on a stretch of a recording

pub write-told : (s : Station) (w : Writing) → write_told (write_of s w).answer ≡ write_told_of s w
unfolding write_of write_told_of
write-told s w = by-ap (λ (r : StationWritten). write_told r.answer) (write_number_of s w) (refused_write s) _

pub slot-told : (s : Station) (words counts : List ℕ) (pick : ℕ) → slot_told (slot_of s words counts pick).answer ≡ slot_told_of s words counts pick
unfolding slot_of slot_told_of step_of
slot-told s words counts pick = by-ap (λ (r : StationSlot). slot_told r.answer) (slot_number_of s words counts pick) (refused_slot s) _

pub slot_at-told : (s : Station) (start : ℕ) (words counts : List ℕ) (pick : ℕ) → slot_told (slot_at_of s start words counts pick).answer ≡ slot_at_told_of s start words counts pick
unfolding slot_at_of slot_at_told_of
slot_at-told s start words counts pick = slot-told s (stretch s.counters.minislots start words) (stretch s.counters.minislots start counts) pick

-- ---- SETTING A CALENDAR

pub calendar-told : (c : Counters) (entries : List ℕ) → calendar_told (calendar_of c entries).answer ≡ calendar_told_of c entries
unfolding calendar_of calendar_told_of
calendar-told c entries = by-ap (λ (r : CalendarSet). calendar_told r.answer) (calendar_number_of c entries) (refused_calendar c) _

pub station-calendar_told : (s : Station) (entries : List ℕ) → calendar_told (station_calendar_of s entries).answer ≡ station_calendar_told_of s entries
unfolding station_calendar_of station_calendar_told_of
station-calendar_told s entries = by-ap (λ (r : StationSet). calendar_told r.answer) (station_calendar_number_of s entries) (refused_setting s) _
