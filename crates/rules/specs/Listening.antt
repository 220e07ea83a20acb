-- Listening (paper 01, "Operations and their numbers"): 18, 6, the first bad minislot's 1, 3 or 4, 7; else the turn and the record after
-- steps 1 to 5. A refusal leaves the record as it was. Assumes nothing.
use Rattle.std.specs.Prelude.{Bool, ◌&&◌, List, ℕ, eqb, length}
use Rattle.minislot.specs.declared.Feedback.{Feedback}
use Rattle.rows.specs.Row.{readings, first_number, feedbacks}
use Rattle.rules.specs.declared.Counters.{Counters}
use Rattle.rules.specs.declared.Listened.{Listened}
use Rattle.rules.specs.declared.ListenAnswer.TheVariants.{Went, Refused}
use Rattle.rules.specs.Refusing.{unless, or_next, by_number}
use Rattle.rules.specs.Calendars.{owner_of}
use Rattle.rules.specs.Limits.{within_limits}
use Rattle.rules.specs.Queueing.{step_one_of}
use Rattle.rules.specs.Turns.{turn_of}
use Rattle.rules.specs.Falling.{fallen}

abbrev pub refused_listening : Counters → ℕ → Listened
refused_listening c n = record { answer = Refused n; counters = c }

-- the turn, and the record after steps 1 to 5
unfoldable pub listened : Counters → List Feedback → Listened
listened c row =
    record { answer = Went (turn_of (owner_of c) (step_one_of c row).after); counters = fallen c (step_one_of c row).after }

-- the row has m minislots (refusal 6)
abbrev pub has_row : ℕ → List ℕ → List ℕ → Bool
has_row m words counts = eqb (length words) m && eqb (length counts) m

-- a row that was heard: 7 if a counter would pass its limit in step 1
unfoldable pub heard_number_of : Counters → List Feedback → ℕ
heard_number_of c row = unless (step_one_of c row).fits 7 0

unfoldable pub listen_of : Counters → List Feedback → Listened
listen_of c row = by_number (heard_number_of c row) (refused_listening c) (listened c row)

-- LISTENING to a row of words and counts: 18, 6, the first bad minislot's 1, 3 or 4, 7
unfoldable pub listen_number_of : Counters → List ℕ → List ℕ → ℕ
listen_number_of c words counts =
    unless (within_limits c) 18
    (unless (has_row c.minislots words counts) 6
    (or_next (first_number (readings words counts))
    (heard_number_of c (feedbacks (readings words counts)))))

unfoldable pub listening_of : Counters → List ℕ → List ℕ → Listened
listening_of c words counts =
    by_number (listen_number_of c words counts) (refused_listening c) (listened c (feedbacks (readings words counts)))
