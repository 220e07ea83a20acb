-- `put_asked` puts the form of its condition, which is the condition's line. Assumes nothing.
use Rattle.condition_lines.proofs.ConditionForms.{asked-form}
use Rattle.condition_lines.proofs.put_asked.Goals as goal

pub returns : goal.returns
returns c = record {
  buffer = rw (asked-form _ _ _ _ _) at c.put_form.ensures.buffer;
  reached = rw (asked-form _ _ _ _ _) at c.put_form.ensures.reached;
}
