-- `put_fresh` puts the form of its condition, which is the condition's line. Assumes nothing.
use Rattle.condition_lines.proofs.ConditionForms.{fresh-form}
use Rattle.condition_lines.proofs.put_fresh.Goals as goal

pub returns : goal.returns
returns c = record {
  buffer = rw (fresh-form _ _ _) at c.put_form.ensures.buffer;
  reached = rw (fresh-form _ _ _) at c.put_form.ensures.reached;
}
