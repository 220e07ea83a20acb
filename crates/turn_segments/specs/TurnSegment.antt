-- The segment of two messages, the short or the long one's by the turn (paper 02, T-04). Assumes nothing.
use Rattle.std.specs.Prelude.{ℕ, Bool, cond, List, [], eqb, length}
use Rattle.message.specs.Message.{fits_short, fits_long}
use Rattle.segments.specs.Segment.{is_segment, cut}
use Rattle.rules.specs.Limits.{between}
use Rattle.rules.specs.declared.Turn.{Turn}
use Rattle.rules.specs.declared.Turn.TheVariants.{Owned as OwnedTurn, Urgent as UrgentTurn, Long as LongTurn}
use Rattle.rules.specs.declared.Turn.TheVariants.{Resolve as ResolveTurn, Open as OpenTurn}

-- urgent and open take what is the short one's, long what is the long one's, any other turn neither's
unfoldable pub by_turn : {A : Type 0} → Turn → A → A → A → A
by_turn UrgentTurn short long neither = short
by_turn OpenTurn short long neither = short
by_turn LongTurn short long neither = long
by_turn ResolveTurn short long neither = neither
by_turn (OwnedTurn x) short long neither = neither

-- the number of asking for segment j of the message taken: 10 where its length is outside its own kind, then 13, and 0 for a part given
unfoldable pub taken_number : (ℕ → Bool) → ℕ → ℕ → ℕ
taken_number kind bytes j = cond (kind bytes) (cond (is_segment bytes j) 0 13) 10

-- segment j of the message taken: its bytes from 48(j−1) up to 48j or the end, none on a refusal
unfoldable pub taken_part : (ℕ → Bool) → List ℕ → ℕ → List ℕ
taken_part kind message j = cond (eqb (taken_number kind (length message) j) 0) (cut message j) []

-- by the turn, the number of a short and a long one of this many bytes; 13 where the turn takes neither
unfoldable pub turn_segment_number : Turn → ℕ → ℕ → ℕ → ℕ
turn_segment_number turn short long j = by_turn turn (taken_number fits_short short j) (taken_number fits_long long j) 13

-- by the turn, the part of the short or of the long one; empty where the turn takes neither
unfoldable pub turn_segment_of : Turn → List ℕ → List ℕ → ℕ → List ℕ
turn_segment_of turn short long j = by_turn turn (taken_part fits_short short j) (taken_part fits_long long j) []

-- a kind by its limits, from `least` up to `most` bytes, as the function below the call has it
unfoldable pub within : ℕ → ℕ → ℕ → Bool
within least most bytes = between least bytes most
