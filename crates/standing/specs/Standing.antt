-- Where a run of a program that reads records stands between two calls of the system, and what a read and a write change of it. `S` is what
-- the program knows between two records. Assumes nothing.
use Rattle.std.specs.Prelude.{false, List, ℕ, ◌+◌, eqb, length, take}
use Rattle.standing.specs.declared.Run.{Run}
use Rattle.standing.specs.declared.Wants.TheVariants.{Read}

-- where a run stands, with what the program knows and with its two buffers
pub record Stand (S : Type 0) : Type 0 where
  pub state : S
  pub run : Run
  pub input : List ℕ
  pub output : List ℕ

abbrev pub standing : {S : Type 0} → S → Run → List ℕ → List ℕ → Stand S
standing s r input output = record { state = s; run = r; input = input; output = output }

-- before the first read: nothing is there but the header, before place `at` of the output buffer
abbrev pub begun_of : ℕ → Run
begun_of at = record { from = 0; filled = 0; ended = false; at = at; wants = Read }

-- the most that a read asks for, so that the bytes of a record that has begun have room before it
abbrev pub most_read : ℕ
most_read = 64512

-- after a read that put so many bytes behind those that are kept; none: the input is over
abbrev pub read_of : Run → List ℕ → ℕ → Run
read_of r input more =
    record { from = r.from; filled = length (take (r.filled + more) input); ended = eqb more 0; at = r.at; wants = r.wants }

-- after the output was written
abbrev pub written_of : Run → Run
written_of r = record { from = r.from; filled = r.filled; ended = r.ended; at = 0; wants = r.wants }
