-- `put_refusal` puts the form of a refusal, which is its line. Assumes nothing.
use Rattle.refusals.proofs.RefusalLaws.{refusal-form}
use Rattle.refusals.proofs.put_refusal.Goals as goal

pub returns : goal.returns
returns c =
    let a = c.args in record {
      buffer = rw (refusal-form a.number a.place) at c.put_form.ensures.buffer;
      reached = rw (refusal-form a.number a.place) at c.put_form.ensures.reached;
    }
