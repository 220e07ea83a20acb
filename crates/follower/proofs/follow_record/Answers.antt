-- `follow_record` reads the record and writes its line; what became of the record goes by the line, and tells its number.
-- Assumes nothing.
use Rattle.follower.proofs.NumbersHold.{record_told}
use Rattle.follower.proofs.follow_record.Goals as goal

pub returns : goal.returns
returns c =
    let read = c.read_record-s.ensures in
    let known = c.progress_of.ensures in
    record {
      buffer = rw (← read) c.put.ensures.buffer;
      answer = rw (← read, c.put.ensures.reached, known);
      told = rw (known, read) (record_told _ _);
    }
