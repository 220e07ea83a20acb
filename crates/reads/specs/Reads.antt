-- What a run of a program writes, however its reads divide the input. The rounds are those of the contracts (`round_of`, `read_of`,
-- `written_of`); what no contract can say, since it is the system's, is said here: where a read puts its bytes, and that a write takes all
-- that it is given. Assumes nothing.
use Rattle.std.specs.Prelude.{◌≡◌, Bool, true, false, cond, List, [], ◌∷◌, ◌++◌, ℕ, zero, suc, ◌+◌, ◌*◌, ◌≤◌, length, take}
use Rattle.decimals.specs.Putting.{put_at, place_after}
use Rattle.programs.specs.Program.{Program}
use Rattle.programs.specs.Advancing.{printed_of, so_far_of}
use Rattle.standing.specs.declared.Wants.{Wants}
use Rattle.standing.specs.declared.Wants.TheVariants.{Read, Write, End}
use Rattle.standing.specs.Standing.{Stand, standing, begun_of, most_read, read_of, written_of}
use Rattle.round_steps.specs.Rounds.{round_of}

-- ---- an input in pieces

-- none of them empty and none longer than a read asks for
abbrev pub Pieces : List (List ℕ) → Type 0
Pieces [] = Unit {0}
Pieces (piece ∷ pieces) = (1 ≤ length piece) × (length piece ≤ most_read) × Pieces pieces

abbrev pub whole_of : List (List ℕ) → List ℕ
whole_of [] = []
whole_of (piece ∷ pieces) = piece ++ whole_of pieces

-- as many rounds as a run may take
abbrev pub rounds_for : List ℕ → ℕ
rounds_for input = 3 * length input + 2

-- ---- the system's part

module _ {S : Type 0} where
  -- a read puts its bytes behind those that are kept
  abbrev pub read_in : Stand S → List ℕ → Stand S
  read_in s piece =
      let input = put_at s.input s.run.filled piece in
      standing s.state (read_of s.run input (length piece)) input s.output

  -- a write takes what the output buffer holds
  abbrev pub buffered : Stand S → List ℕ
  buffered s = take s.run.at s.output

  abbrev pub wrote_out : Stand S → Stand S
  wrote_out s = standing s.state (written_of s.run) s.input s.output

  -- what is written from a round on, by what it needs and by the pieces that the next reads give. After these a read gives nothing, since
  -- the input is over; or, `fails`, it fails, and what the output buffer holds is written before that is told. `on` is the rounds after it
  abbrev pub served_by : Wants → Bool → Stand S → List (List ℕ) → (Stand S → List (List ℕ) → List ℕ) → List ℕ
  served_by Read fails s [] on = cond fails (buffered s) (on (read_in s []) [])
  served_by Read fails s (piece ∷ pieces) on = on (read_in s piece) pieces
  served_by Write fails s pieces on = buffered s ++ on (wrote_out s) pieces
  served_by End fails s pieces on = buffered s

-- ---- a run, and what is said of it

module _ {S : Type 0} (P : Program S) where
  -- WHAT A RUN WRITES in k rounds at most
  unfoldable pub written_by : ℕ → Bool → Stand S → List (List ℕ) → List ℕ
  written_by zero fails s pieces = []
  written_by (suc k) fails s pieces = served_by (round_of P s).run.wants fails (round_of P s) pieces (written_by k fails)

  -- before the first round: the header stands in the output buffer
  abbrev pub begun_stand : List ℕ → List ℕ → Stand S
  begun_stand input output = standing P.begin (begun_of (place_after output 0 P.header)) input (put_at output 0 P.header)

  pub record InPieces (input output : List ℕ) (pieces : List (List ℕ)) : Type 0 where
    -- however the input is divided into reads, what is written is WHAT IS PRINTED for the whole
    pub whole : (k : ℕ) → rounds_for (whole_of pieces) ≤ k → written_by k false (begun_stand input output) pieces ≡ printed_of P (whole_of pieces)
    -- where a read fails, all that can be said of what was read is written
    pub failed : (k : ℕ) → rounds_for (whole_of pieces) ≤ k → written_by k true (begun_stand input output) pieces ≡ so_far_of P (whole_of pieces)

  -- of all buffers that have room for a read and a record that has begun, and for the header and a record's lines
  abbrev pub InPiecesHolds : Type 0
  InPiecesHolds = (input output : List ℕ) → most_read + suc P.longest ≤ length input → length P.header + P.room ≤ length output
      → (pieces : List (List ℕ)) → Pieces pieces → InPieces input output pieces
