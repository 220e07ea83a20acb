-- `put_resolving` puts the form of its condition, which is the condition's line. Assumes nothing.
use Rattle.condition_lines.proofs.ConditionForms.{resolving-form}
use Rattle.condition_lines.proofs.put_resolving.Goals as goal

pub returns : goal.returns
returns c = record {
  buffer = rw (resolving-form _ _ _ _ _) at c.put_form.ensures.buffer;
  reached = rw (resolving-form _ _ _ _ _) at c.put_form.ensures.reached;
}
