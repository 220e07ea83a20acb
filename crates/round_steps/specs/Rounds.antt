-- A round of a run: what a program does with the bytes that the input buffer holds, and what that changes of the run and of the buffers.
-- Assumes nothing.
use Rattle.std.specs.Prelude.{Bool, true, false, cond, List, ℕ, length, take}
use Rattle.buffers.specs.Keeping.{rest_of, kept_of}
use Rattle.programs.specs.declared.Progress.{Progress}
use Rattle.programs.specs.declared.Progress.TheVariants.{Went, More, Done, Refused}
use Rattle.programs.specs.Program.{Program}
use Rattle.programs.specs.Buffering.{Buffered, buffered_of}
use Rattle.standing.specs.declared.Run.{Run}
use Rattle.standing.specs.declared.Wants.{Wants}
use Rattle.standing.specs.declared.Wants.TheVariants.{Read, Write, End}
use Rattle.standing.specs.Standing.{Stand}

-- ---- what is left of a run and its input buffer once the last record that was looked at is known

-- what is needed
abbrev pub wants_by : Progress → Wants
wants_by Went = Write
wants_by More = Read
wants_by Done = End
wants_by (Refused n) = End

-- whether bytes are missing at the end of that record
abbrev pub needs_bytes : Progress → Bool
needs_bytes Went = false
needs_bytes More = true
needs_bytes Done = false
needs_bytes (Refused n) = false

-- the input buffer, of which the first `filled` bytes were there and the next record begins at `next`: where bytes are missing, those that
-- are left go to its front
abbrev pub input_after : Progress → List ℕ → ℕ → ℕ → List ℕ
input_after progress input next filled = cond (needs_bytes progress) (kept_of input next filled) input

-- the run, with the output up to place `at`
abbrev pub run_after : Run → List ℕ → ℕ → Progress → ℕ → ℕ → Run
run_after r input filled progress next at =
    record {
      from = cond (needs_bytes progress) 0 next;
      filled = cond (needs_bytes progress) (length (rest_of input next filled)) filled;
      ended = r.ended;
      at = at;
      wants = wants_by progress;
    }

-- ---- the round

-- how many bytes the input buffer is filled with
abbrev pub filled_of : {S : Type 0} → Stand S → ℕ
filled_of s = length (take s.run.filled s.input)

-- the stand after a round in which the records led to `b`, by what became of the last one
abbrev pub round_by : {S : Type 0} → Progress → Stand S → Buffered S → Stand S
round_by progress s b =
    record {
      state = b.answer.state;
      run = run_after s.run s.input (filled_of s) progress b.answer.next b.answer.at;
      input = input_after progress s.input b.answer.next (filled_of s);
      output = b.buffer;
    }

module _ {S : Type 0} (P : Program S) where
  -- what reading the records leads to
  abbrev pub passed_of : Stand S → Buffered S
  passed_of s = buffered_of P s.state (take (filled_of s) s.input) s.run.from s.run.ended s.output s.run.at

  -- A ROUND
  unfoldable pub round_of : Stand S → Stand S
  round_of s = round_by (passed_of s).answer.progress s (passed_of s)
