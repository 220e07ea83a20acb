-- `end_with` puts the refusal's line. Assumes nothing.
use Rattle.rehearsing.proofs.end_with.Goals as goal

pub returns : goal.returns
returns c = record { buffer = c.put_refusal-after.ensures.buffer; answer = rw c.put_refusal-after.ensures.reached }
