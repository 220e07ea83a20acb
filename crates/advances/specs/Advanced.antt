-- The record that begins at a place of a recording, in the terms of programs that read records: its line is what it prints. What the record
-- leads to is said there (programs/specs/Advancing) of `follow_program`. Assumes nothing.
use Rattle.std.specs.Prelude.{ℕ}
use Rattle.programs.specs.declared.Progress.{Progress}
use Rattle.programs.specs.declared.Progress.TheVariants.{Went, Refused}
use Rattle.programs.specs.Advancing as programs
use Rattle.following.specs.declared.Follower.{Follower}
use Rattle.following.specs.declared.Step.{Step}
use Rattle.following.specs.declared.Line.{Line}
use Rattle.following.specs.declared.Line.TheVariants.{Nothing, Row, Refusal}
use Rattle.following.specs.Following.{printed}
use Rattle.advances.specs.declared.Advance.{Advance}

-- what became of a record that led to this line: a refusal, with its number, ends the output
abbrev pub progress_of : Line → Progress
progress_of Nothing = Went
progress_of (Row slot group letter urgent long resolution) = Went
progress_of (Refusal number place) = Refused number

-- a record that was followed, with the next one at place `next`
abbrev pub stepped_of : Step → ℕ → Advance
stepped_of s next = record { progress = progress_of s.line; follower = s.follower; next = next; line = s.line }

-- the same with the lines that are printed
abbrev pub advanced : Advance → programs.Advance Follower
advanced a = record { progress = a.progress; state = a.follower; next = a.next; lines = printed a.line }
