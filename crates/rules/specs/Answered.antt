-- What each call of a listener or a station answers, as the paper's number and values (paper 01, "Operations and their numbers, in order
-- of checking"): the number is that of the call's own list, and what is told with 0 stands here. proofs/NumbersHold shows that the calls'
-- definitions answer just this. Assumes nothing.
use Rattle.std.specs.Prelude.{List, [], ◌∷◌, ℕ}
use Rattle.rows.specs.Row.{readings, feedbacks}
use Rattle.rules.specs.declared.Acted.{Acted}
use Rattle.rules.specs.declared.Counters.{Counters}
use Rattle.rules.specs.declared.Outcome.{Outcome}
use Rattle.rules.specs.declared.Station.{Station}
use Rattle.rules.specs.Refusing.{by_number}
use Rattle.rules.specs.Starting.{start_number_of}
use Rattle.rules.specs.Calendars.{owner_of}
use Rattle.rules.specs.Queueing.{step_one_of}
use Rattle.rules.specs.Turns.{Turn, turn_of}
use Rattle.rules.specs.Listening.{listen_number_of}
use Rattle.rules.specs.Outcome.{outcome_of}
use Rattle.rules.specs.Stepping.{acts_of, acts_beside, asker, sender}
use Rattle.rules.specs.StationCalls.{station_start_number_of, slot_number_of}
use Rattle.rules.specs.Writing.{Writing, writing_total_of, write_number_of}
use Rattle.rules.specs.Settings.{calendar_number_of, station_calendar_number_of}
use Rattle.rules.specs.Numbers.{Told, refusal, went}
use Rattle.rules.specs.Recorded.{stretch}

-- what is told with a number: the turn and the values with 0, nothing with a refusal
abbrev pub told : ℕ → List Turn → List ℕ → Told
told n turn values = by_number n refusal (went turn values)

unfoldable pub start_told_of : ℕ → ℕ → Told
start_told_of m n = told (start_number_of m n) [] []

unfoldable pub listen_told_of : Counters → List ℕ → List ℕ → Told
listen_told_of c words counts =
    told (listen_number_of c words counts) (turn_of (owner_of c) (step_one_of c (feedbacks (readings words counts))).after ∷ []) []

unfoldable pub station_start_told_of : ℕ → ℕ → ℕ → Told
station_start_told_of m n index = told (station_start_number_of m n index) [] []

unfoldable pub write_told_of : Station → Writing → Told
write_told_of s w = told (write_number_of s w) [] (writing_total_of s w ∷ [])

-- a slot that goes through: the turn, the minislot of its request and the segment it sends
abbrev pub slot_turn : Outcome → List Turn
slot_turn o = o.turn ∷ []

abbrev pub acted_values : Acted → Acted → List ℕ
acted_values x y = (asker x y).minislot ∷ (sender x y).segment ∷ []

unfoldable pub slot_told_of : Station → List ℕ → List ℕ → ℕ → Told
slot_told_of s words counts pick =
    let o = outcome_of s.counters (feedbacks (readings words counts)) in
    told (slot_number_of s words counts pick) (slot_turn o)
    (acted_values (acts_of o s.short.condition pick) (acts_beside o s.short.condition s.long.condition pick))

unfoldable pub calendar_told_of : Counters → List ℕ → Told
calendar_told_of c entries = told (calendar_number_of c entries) [] []

unfoldable pub station_calendar_told_of : Station → List ℕ → Told
station_calendar_told_of s entries = told (station_calendar_number_of s entries) [] []

-- ---- on a stretch from the middle of a longer recording

unfoldable pub listen_at_told_of : Counters → ℕ → List ℕ → List ℕ → Told
listen_at_told_of c start words counts = listen_told_of c (stretch c.minislots start words) (stretch c.minislots start counts)

unfoldable pub slot_at_told_of : Station → ℕ → List ℕ → List ℕ → ℕ → Told
slot_at_told_of s start words counts pick =
    slot_told_of s (stretch s.counters.minislots start words) (stretch s.counters.minislots start counts) pick
