-- The private steps on the way to FOLLOWING A RECORD: what the listener's answers lead to, and the first record and a row
-- each by itself.
use Rattle.std.specs.Prelude.{List, ℕ}
use Rattle.rules.specs.declared.Counters.{Counters}
use Rattle.rules.specs.declared.Started.{Started}
use Rattle.rules.specs.declared.StartAnswer.{StartAnswer}
use Rattle.rules.specs.declared.StartAnswer.TheVariants as start
use Rattle.rules.specs.declared.Listened.{Listened}
use Rattle.rules.specs.declared.ListenAnswer.{ListenAnswer}
use Rattle.rules.specs.declared.ListenAnswer.TheVariants as listen
use Rattle.rules.specs.Refusing.{by_number}
use Rattle.following.specs.declared.Follower.{Follower}
use Rattle.following.specs.declared.Step.{Step}
use Rattle.following.specs.declared.Line.TheVariants.{Nothing}
use Rattle.following.specs.RecordNumbers.{first_number_of, row_number_of}
use Rattle.following.specs.Following.{refused_step, went_step, line_after, first_went, row_went}

-- starting a listener: it prints nothing, or its number (5)
abbrev pub started_by : Follower → StartAnswer → Counters → Step
started_by f start.Ready c = went_step f c Nothing
started_by f (start.Refused number) c = refused_step f number

abbrev pub started_step : Follower → Started → Step
started_step f s = started_by f s.answer s.counters

-- listening: its line, or its number
abbrev pub listened_by : Follower → ListenAnswer → Counters → Step
listened_by f (listen.Went t) after = went_step f after (line_after f t after)
listened_by f (listen.Refused number) after = refused_step f number

abbrev pub listened_step : Follower → Listened → Step
listened_step f heard = listened_by f heard.answer heard.counters

-- the first record
unfoldable pub first_step : Follower → List ℕ → Step
first_step f bytes = by_number (first_number_of bytes) (refused_step f) (first_went f bytes)

-- a row
unfoldable pub row_step : Follower → List ℕ → Step
row_step f bytes = by_number (row_number_of f bytes) (refused_step f) (row_went f bytes)
