-- `step` is what the two messages do, which of them asks and sends, and the counters that the outcome leaves. Assumes nothing.
use Rattle.rules.specs.Stepping.{step_of}
use Rattle.stepping.proofs.step.Goals as goal

pub returns : goal.returns
unfolding step_of
returns c = rw (c.request_total.ensures, c.sender-sending.ensures, c.asker-asking.ensures, c.acts_both-both.ensures)
