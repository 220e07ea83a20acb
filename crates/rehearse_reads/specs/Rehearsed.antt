-- What is said of `rehearse` as a whole, of an input that its reads divide and of one that stands in one stretch of bytes: what is said of
-- any program that reads records, of `rehearse_program`. Assumes nothing.
use Rattle.std.specs.Prelude.{List, ℕ, ◌+◌, ◌≤◌, length}
use Rattle.programs.specs.Advancing.{printed_of}
use Rattle.programs.specs.Whole.{WholeInput}
use Rattle.rehearsing.specs.Rehearse.{rehearse_program}
use Rattle.reads.specs.Reads.{InPiecesHolds}

-- REHEARSING AN INPUT: the header, and then the lines of its records, till one is refused
abbrev pub rehearsal_of : List ℕ → List ℕ
rehearsal_of = printed_of rehearse_program

-- however an input is divided into reads, what is written is `rehearsal_of` of the whole; where a read fails, all that can be said of what
-- was read. Of all buffers that have room for a read and a record that has begun, and for the header and the lines of a record
abbrev pub RehearseInPieces : Type 0
RehearseInPieces = InPiecesHolds rehearse_program

-- an input that is there whole, in one call, with room for all that is printed and for the lines of one record more
abbrev pub RehearseWhole : Type 0
RehearseWhole = (input buffer : List ℕ) → length (rehearsal_of input) + 24576 ≤ length buffer → WholeInput rehearse_program input buffer
