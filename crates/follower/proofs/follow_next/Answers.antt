-- `follow_next` cuts and reads the record and writes its line; what became of the record tells its number.
-- Assumes nothing.
use mathlib.Core.Path.{ap, ◌∙◌}
use Rattle.programs.specs.Advancing.{Advance}
use Rattle.following.specs.declared.Follower.{Follower}
use Rattle.follower.specs.Answered.{progress_told}
use Rattle.follower.proofs.NumbersHold.{next-told}
use Rattle.follower.proofs.follow_next.Goals as goal

pub returns : goal.returns
returns c =
    let cut = c.advance_at-a.ensures in
    record {
      buffer = rw (← cut) c.put.ensures.buffer;
      answer = rw (← cut, c.put.ensures.reached);
      told = ap (λ (x : Advance Follower). progress_told x.progress) cut ∙ next-told _ _ _ _;
    }
