-- `put_header` puts the header's form, which is the header. Assumes nothing.
use Rattle.header_line.proofs.HeaderForm.{header-form}
use Rattle.header_line.proofs.put_header.Goals as goal

pub returns : goal.returns
returns c = record {
  buffer = rw header-form at c.put_form.ensures.buffer;
  reached = rw header-form at c.put_form.ensures.reached;
}
