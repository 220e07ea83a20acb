-- `put_urgent` puts the form of its condition, which is the condition's line. Assumes nothing.
use Rattle.condition_lines.proofs.ConditionForms.{urgent-form}
use Rattle.condition_lines.proofs.put_urgent.Goals as goal

pub returns : goal.returns
returns c = record {
  buffer = rw (urgent-form _ _ _) at c.put_form.ensures.buffer;
  reached = rw (urgent-form _ _ _) at c.put_form.ensures.reached;
}
