-- What is said of `follow` as a whole, of a recording that its reads divide and of one that stands in one stretch of bytes: what is said of
-- any program that reads records, of `follow_program`. Assumes nothing.
use Rattle.std.specs.Prelude.{List, ℕ, ◌+◌, ◌≤◌, length}
use Rattle.programs.specs.Advancing.{printed_of}
use Rattle.programs.specs.Whole.{WholeInput}
use Rattle.following.specs.FollowProgram.{follow_program}
use Rattle.reads.specs.Reads.{InPiecesHolds}

-- FOLLOWING A RECORDING: the header, and then the lines of its records, till one is refused
abbrev pub follow_of : List ℕ → List ℕ
follow_of = printed_of follow_program

-- however a recording is divided into reads, what is written is `follow_of` of the whole; where a read fails, all that can be said of what
-- was read. Of all buffers that have room for a read and a record that has begun, and for the header and a line
abbrev pub FollowInPieces : Type 0
FollowInPieces = InPiecesHolds follow_program

-- a recording that is there whole, in one call, with room for all that is printed and for one line more
abbrev pub FollowWhole : Type 0
FollowWhole = (recording buffer : List ℕ) → length (follow_of recording) + 128 ≤ length buffer → WholeInput follow_program recording buffer
