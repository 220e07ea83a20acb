-- `put_long` puts the form of its condition, which is the condition's line. Assumes nothing.
use Rattle.condition_lines.proofs.ConditionForms.{long-form}
use Rattle.condition_lines.proofs.put_long.Goals as goal

pub returns : goal.returns
returns c = record {
  buffer = rw (long-form _ _ _ _ _) at c.put_form.ensures.buffer;
  reached = rw (long-form _ _ _ _ _) at c.put_form.ensures.reached;
}
