-- Reading the records that stand in a stretch of bytes, one after another, into a buffer of output: what a program does between two reads
-- or writes. Assumes nothing.
use Rattle.std.specs.Prelude.{Bool, cond, List, [], ◌∷◌, ℕ, zero, suc, ◌+◌, leb, length}
use Rattle.decimals.specs.Putting.{put_at, place_after}
use Rattle.programs.specs.declared.Next.{Next}
use Rattle.programs.specs.declared.Progress.{Progress}
use Rattle.programs.specs.declared.Progress.TheVariants.{Went}
use Rattle.programs.specs.Program.{Program}
use Rattle.programs.specs.Advancing.{Advance, goes_on, advance_of}

-- the buffer with lines put into it from place `at` on, one after another, each if it fits
abbrev pub put_lines : List ℕ → ℕ → List (List ℕ) → List ℕ
put_lines buffer at [] = buffer
put_lines buffer at (l ∷ ls) = put_lines (put_at buffer at l) (place_after buffer at l) ls

-- the place after them
abbrev pub place_after_lines : List ℕ → ℕ → List (List ℕ) → ℕ
place_after_lines buffer at [] = at
place_after_lines buffer at (l ∷ ls) = place_after_lines (put_at buffer at l) (place_after buffer at l) ls

-- what became of the last record looked at, what is known after it, where the next begins, and the place after the lines
pub record Reached (S : Type 0) : Type 0 where
  pub progress : Progress
  pub state : S
  pub next : ℕ
  pub at : ℕ

-- what was reached, as an answer tells it
abbrev pub reached_by : {S : Type 0} → Next S → Reached S
reached_by n = record { progress = n.progress; state = n.state; next = n.next; at = n.at }

-- the buffer with the lines in it, and what was reached
pub record Buffered (S : Type 0) : Type 0 where
  pub buffer : List ℕ
  pub answer : Reached S

-- an advance's lines put into a buffer from place `at` on
abbrev pub reached : {S : Type 0} → Advance S → List ℕ → ℕ → Reached S
reached a buffer at =
    record { progress = a.progress; state = a.state; next = a.next; at = place_after_lines buffer at a.lines }

module _ {S : Type 0} (P : Program S) where
  -- the bytes of any record's lines are left from place `at` on
  abbrev pub room_for : ℕ → ℕ → Bool
  room_for size at = leb (at + P.room) size

  -- one record read: the buffer and the answer after it
  abbrev pub buffered_step : List ℕ → Bool → List ℕ → Reached S → Buffered S
  buffered_step bytes ended buffer n =
      let a = advance_of P n.state bytes n.next ended in
      record { buffer = put_lines buffer n.at a.lines; answer = reached a buffer n.at }

  -- of k records at most, from the answer n on
  unfoldable pub buffered_from : ℕ → List ℕ → Bool → List ℕ → Reached S → Buffered S
  buffered_from zero bytes ended buffer n = record { buffer = buffer; answer = n }
  buffered_from (suc k) bytes ended buffer n =
      let s = buffered_step bytes ended buffer n in
      cond (room_for (length buffer) n.at)
      (cond (goes_on s.answer.progress) (buffered_from k bytes ended s.buffer s.answer) s)
      (record { buffer = buffer; answer = n })

  -- READING WHAT IS BUFFERED: no stretch of bytes has more records than bytes
  unfoldable pub buffered_of : S → List ℕ → ℕ → Bool → List ℕ → ℕ → Buffered S
  buffered_of s bytes start ended buffer at =
      buffered_from (suc (length bytes)) bytes ended buffer (record { progress = Went; state = s; next = start; at = at })
