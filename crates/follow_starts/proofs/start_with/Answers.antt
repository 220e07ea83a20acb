-- `start_with` gives 5 for a number above 8, which no byte need hold, and else what the listener's start answers.
-- Assumes nothing.
use Rattle.follow_starts.proofs.StartReads.{many-minislots, many-groups}
use Rattle.follow_starts.proofs.start_with.Goals as goal
use Rattle.follow_starts.proofs.start_with.Goals.{then-m-gt8-via-then-m-gt8, then-m-gt8-via-else-m-gt8+then-n-gt8}

pub returns-then-m-gt8 : goal.returns-then-m-gt8
returns-then-m-gt8 c =
    rw c.refused.ensures
    (elim c.then-m-gt8.branch [
      | then-m-gt8-via-then-m-gt8 w ↦ many-minislots _ _ _ w.if-m-gt8.true
      | then-m-gt8-via-else-m-gt8+then-n-gt8 w ↦ many-groups _ _ _ w.if-n-gt8.true
    ])

pub returns-in-Refused : goal.returns-in-Refused
returns-in-Refused c = rw (← c.start-started.ensures.value, c.in-Refused.is) c.refused-in-Refused.ensures

pub returns-in-Ready : goal.returns-in-Ready
returns-in-Ready c = rw (← c.start-started.ensures.value, c.in-Ready.is, c.place_following.ensures)
