-- What a program has to keep so that it may be run with buffers of a fixed size: all that a record prints fits into the program's room.
-- Assumes nothing.
use Rattle.std.specs.Prelude.{List, ℕ, ◌≤◌, length}
use Rattle.refusals.specs.Refusal.{refusal_of}
use Rattle.programs.specs.Program.{Result, Goes, Ends, Program}
use Rattle.programs.specs.Advancing.{joined}

-- what a record may lead to: what is known after it is `Good` again and its lines fit; or the line of its refusal fits
abbrev pub Allowed : {S : Type 0} → Program S → (S → Type 0) → S → Result S → Type 0
Allowed P Good s (Goes after lines) = Good after × (length (joined lines) ≤ P.room)
Allowed P Good s (Ends number) = length (refusal_of number (P.place s)) ≤ P.room

pub record Lawful {S : Type 0} (P : Program S) : Type 1 where
  -- what holds of all that the program may come to know
  pub Good : S → Type 0
  pub begins : Good P.begin
  -- of every record
  pub steps : (s : S) → Good s → (bytes : List ℕ) → Allowed P Good s (P.step s bytes)
  -- of a record that breaks the form, and of a first record missing
  pub broken : (s : S) → Good s → length (refusal_of 19 (P.place s)) ≤ P.room
