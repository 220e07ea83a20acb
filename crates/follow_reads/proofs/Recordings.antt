-- What holds of any lawful program holds of `follow`. Assumes nothing.
use Rattle.programs.proofs.Whole.{whole-input-written}
use Rattle.following.specs.FollowProgram.{follow_program}
use Rattle.reads.proofs.InReads.{in_pieces}
use Rattle.follow_reads.specs.Recordings.{FollowInPieces, FollowWhole}
use Rattle.follow_reads.proofs.LineRoom.{follow_lawful}

-- THE THEOREMS
pub follow_in_pieces : FollowInPieces
follow_in_pieces = in_pieces follow_program follow_lawful

pub follow_whole : FollowWhole
follow_whole = whole-input-written follow_program
