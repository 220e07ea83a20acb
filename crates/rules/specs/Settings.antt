-- Setting the calendar of a listener and of a station (paper 02, T-02): 18, 20, 21. It replaces the calendar whole and leaves the
-- position. A refusal leaves the record as it was. Assumes nothing.
use Rattle.std.specs.Prelude.{List, ℕ}
use Rattle.rules.specs.declared.CalendarAnswer.TheVariants.{Set, Refused}
use Rattle.rules.specs.declared.CalendarSet.{CalendarSet}
use Rattle.rules.specs.declared.Counters.{Counters}
use Rattle.rules.specs.declared.Station.{Station}
use Rattle.rules.specs.declared.StationSet.{StationSet}
use Rattle.rules.specs.Refusing.{unless, by_number}
use Rattle.rules.specs.Calendars.{entries_within, some_free}
use Rattle.rules.specs.Limits.{within_limits}
use Rattle.rules.specs.StationLimits.{station_within}

-- the record with these entries
abbrev pub with_calendar : List ℕ → Counters → Counters
with_calendar entries c =
    record {
      minislots = c.minislots;
      groups = c.groups;
      next = c.next;
      urgent = c.urgent;
      long = c.long;
      resolution = c.resolution;
      opened = c.opened;
      calendar = entries;
      position = c.position;
    }

abbrev pub calendar_on : List ℕ → Station → Station
calendar_on entries s = record { counters = with_calendar entries s.counters; index = s.index; short = s.short; long = s.long }

-- the entries: 20 for one that is neither free nor an index, 21 if none is free
unfoldable pub entries_number_of : List ℕ → ℕ
entries_number_of entries =
    unless (entries_within entries) 20
    (unless (some_free entries) 21
    0)

-- ---- of a listener: 18, 20, 21

abbrev pub refused_calendar : Counters → ℕ → CalendarSet
refused_calendar c n = record { answer = Refused n; counters = c }

unfoldable pub calendar_number_of : Counters → List ℕ → ℕ
calendar_number_of c entries =
    unless (within_limits c) 18
    (entries_number_of entries)

unfoldable pub calendar_of : Counters → List ℕ → CalendarSet
calendar_of c entries =
    by_number (calendar_number_of c entries) (refused_calendar c) (record { answer = Set; counters = with_calendar entries c })

-- ---- of a station: 18, 20, 21

abbrev pub refused_setting : Station → ℕ → StationSet
refused_setting s n = record { answer = Refused n; station = s }

unfoldable pub station_calendar_number_of : Station → List ℕ → ℕ
station_calendar_number_of s entries =
    unless (station_within s) 18
    (entries_number_of entries)

unfoldable pub station_calendar_of : Station → List ℕ → StationSet
station_calendar_of s entries =
    by_number (station_calendar_number_of s entries) (refused_setting s) (record { answer = Set; station = calendar_on entries s })
