-- `put_owners` puts the form of the owners, which is their line. Assumes nothing.
use Rattle.counter_lines.proofs.CounterForms.{owners-form}
use Rattle.counter_lines.proofs.put_owners.Goals as goal

pub returns : goal.returns
returns c =
    let a = c.args in record {
      buffer = rw (c.owner_values.ensures, owners-form a.call a.c) at c.put_form.ensures.buffer;
      reached = rw (c.owner_values.ensures, owners-form a.call a.c) at c.put_form.ensures.reached;
    }
