-- Following one record of a recording (paper 01, "`follow`"): what the record leads to, and the bytes that are printed for it.
-- Bytes are numbers: letters are ASCII. A record is handed over without its CR LF. Its number, if it is refused: specs/RecordNumbers.
use Rattle.std.specs.Prelude.{cond, List, [], ◌∷◌, ℕ, ◌-◌, ltb, get_or}
use Rattle.lines.specs.Lines.{line_of}
use Rattle.refusals.specs.Refusal.{refusal_of}
use Rattle.turn_letters.specs.Letters.{letter_of}
use Rattle.programs.specs.Places.{place_following}
use Rattle.rows.specs.Row.{readings, feedbacks}
use Rattle.rules.specs.declared.Counters.{Counters}
use Rattle.rules.specs.declared.Places.{Places}
use Rattle.rules.specs.Refusing.{by_number}
use Rattle.rules.specs.Starting.{start_counters, no_counters}
use Rattle.rules.specs.Queueing.{step_one_of}
use Rattle.rules.specs.Falling.{fallen}
use Rattle.rules.specs.Calendars.{owner_of}
use Rattle.rules.specs.Turns.{turn_of}
use Rattle.rules.specs.declared.Turn.{Turn}
use Rattle.following.specs.declared.Follower.{Follower}
use Rattle.following.specs.declared.Step.{Step}
use Rattle.following.specs.declared.Line.{Line}
use Rattle.following.specs.declared.Line.TheVariants.{Nothing, Row, Refusal}
use Rattle.following.specs.RecordNumbers.{first_minislots, first_groups, row_words, row_counts, record_number_of}

-- before the first record: no listener has started, and record 1 is to come
abbrev pub at_begin : Follower
at_begin = record { counters = no_counters; place = 1 }

-- the lines that are printed
abbrev pub printed : Line → List (List ℕ)
printed Nothing = []
printed (Row slot group letter urgent long resolution) = line_of slot group letter urgent long resolution ∷ []
printed (Refusal number place) = refusal_of number place ∷ []

-- a refusal prints `refused,number,record` and ends the output; what is known stays as it was
abbrev pub refused_step : Follower → ℕ → Step
refused_step f number = record { follower = f; line = Refusal number f.place }

-- the record went through: the listener's record is c, and the record after this one is to come
abbrev pub went_step : Follower → Counters → Line → Step
went_step f c line = record { follower = record { counters = c; place = place_following f.place }; line = line }

-- the first record `m,n` went through: the listener has started, and nothing is printed
abbrev pub first_went : Follower → List ℕ → Step
first_went f bytes = went_step f (start_counters (first_minislots bytes) (first_groups bytes)) Nothing

-- a row's line: slot number (row 1 is record 2), group of this slot, turn, then H, N and RQ of that group after step 5
abbrev pub line_after : Follower → Turn → Counters → Line
line_after f t after =
    let group = f.counters.next in
    Row (f.place - 1) group (letter_of t) after.urgent after.long (get_or after.resolution (group - 1) 0)

-- the lengths after step 1 of a row's slot
unfoldable pub row_places : Follower → List ℕ → Places
row_places f bytes = (step_one_of f.counters (feedbacks (readings (row_words bytes) (row_counts bytes)))).after

-- a row went through: the listener's record is that after steps 1 to 5
abbrev pub row_went : Follower → List ℕ → Step
row_went f bytes =
    let after = fallen f.counters (row_places f bytes) in
    went_step f after (line_after f (turn_of (owner_of f.counters) (row_places f bytes)) after)

-- the first record went through, or a row
abbrev pub record_went : Follower → List ℕ → Step
record_went f bytes = cond (ltb 1 f.place) (row_went f bytes) (first_went f bytes)

-- FOLLOWING A RECORD: the first, and then rows
unfoldable pub follow_record : Follower → List ℕ → Step
follow_record f bytes = by_number (record_number_of f bytes) (refused_step f) (record_went f bytes)
