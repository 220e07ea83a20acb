-- `put_free` puts the form of its condition, which is the condition's line. Assumes nothing.
use Rattle.condition_lines.proofs.ConditionForms.{free-form}
use Rattle.condition_lines.proofs.put_free.Goals as goal

pub returns : goal.returns
returns c = record {
  buffer = rw (free-form _ _) at c.put_form.ensures.buffer;
  reached = rw (free-form _ _) at c.put_form.ensures.reached;
}
