-- What is said of a whole input that stands in one stretch of bytes, in front of a buffer with room for all that is printed (and for the
-- lines of one record more). Assumes nothing.
use Rattle.std.specs.Prelude.{Bool, true, false, ◌≡◌, List, ℕ, length}
use Rattle.decimals.specs.Putting.{put_at}
use Rattle.programs.specs.declared.Progress.{Progress}
use Rattle.programs.specs.declared.Progress.TheVariants.{Went, More, Done, Refused}
use Rattle.programs.specs.Program.{Program}
use Rattle.programs.specs.Advancing.{printed_of}
use Rattle.programs.specs.Buffering.{Buffered, buffered_of}

-- the input ended, or a record was refused
abbrev pub finished : Progress → Bool
finished Went = false
finished More = false
finished Done = true
finished (Refused number) = true

module _ {S : Type 0} (P : Program S) where
  -- the header is put, and then what the records lead to
  abbrev pub all_buffered : List ℕ → List ℕ → Buffered S
  all_buffered input buffer = buffered_of P P.begin input 0 true (put_at buffer 0 P.header) (length P.header)

  pub record WholeInput (input buffer : List ℕ) : Type 0 where
    -- the buffer has WHAT IS PRINTED FOR AN INPUT at its front, and is else as it was
    pub written : (all_buffered input buffer).buffer ≡ put_at buffer 0 (printed_of P input)
    -- and the place after it is answered
    pub reached : (all_buffered input buffer).answer.at ≡ length (printed_of P input)
    -- and the input was read to its end, or to a refusal
    pub ended : finished (all_buffered input buffer).answer.progress ≡ true
