-- `put_counters` puts the form of the counters, which is their line. Assumes nothing.
use Rattle.counter_lines.proofs.CounterForms.{counters-form}
use Rattle.counter_lines.proofs.put_counters.Goals as goal

pub returns : goal.returns
returns c =
    let a = c.args in record {
      buffer = rw (counters-form a.call a.c) at c.put_form.ensures.buffer;
      reached = rw (counters-form a.call a.c) at c.put_form.ensures.reached;
    }
