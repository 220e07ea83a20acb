-- Calls on a row that is a stretch from the middle of a longer recording (paper 01, "A row may be a stretch .."): the row is the m words
-- and the m counts from a place on, or what there is of them. Assumes nothing.
use Rattle.std.specs.Prelude.{List, ℕ, take, drop}
use Rattle.rules.specs.declared.Counters.{Counters}
use Rattle.rules.specs.declared.Listened.{Listened}
use Rattle.rules.specs.declared.Station.{Station}
use Rattle.rules.specs.declared.StationSlot.{StationSlot}
use Rattle.rules.specs.Listening.{listening_of}
use Rattle.rules.specs.StationCalls.{slot_of}

-- the stretch of m elements from a place on
abbrev pub stretch : ℕ → ℕ → List ℕ → List ℕ
stretch m start recording = take m (drop start recording)

-- listening
unfoldable pub listening_at_of : Counters → ℕ → List ℕ → List ℕ → Listened
listening_at_of c start words counts = listening_of c (stretch c.minislots start words) (stretch c.minislots start counts)

-- a station's slot
unfoldable pub slot_at_of : Station → ℕ → List ℕ → List ℕ → ℕ → StationSlot
slot_at_of s start words counts pick =
    slot_of s (stretch s.counters.minislots start words) (stretch s.counters.minislots start counts) pick
