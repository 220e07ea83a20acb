-- `put_held` puts the form of its condition, which is the condition's line. Assumes nothing.
use Rattle.condition_lines.proofs.ConditionForms.{held-form}
use Rattle.condition_lines.proofs.put_held.Goals as goal

pub returns : goal.returns
returns c = record {
  buffer = rw (held-form _ _ _) at c.put_form.ensures.buffer;
  reached = rw (held-form _ _ _) at c.put_form.ensures.reached;
}
