-- `put_coming` puts the form of each answer, which is its line. Assumes nothing.
use lib.ListN.{take}
use Rattle.coming_lines.proofs.ComingForms.{refused-form}
use Rattle.coming_lines.proofs.put_coming.Goals as goal

pub returns-in-Until : goal.returns-in-Until
returns-in-Until c = record {
  buffer = rw c.in-Until.is c.put_until.ensures.buffer;
  reached = rw c.in-Until.is c.put_until.ensures.reached;
}

pub returns-in-Refused : goal.returns-in-Refused
returns-in-Refused c =
    let a = c.args in record {
      buffer = rw c.in-Refused.is (rw (refused-form a.call (take a.w a.list) _) at c.put_form.ensures.buffer);
      reached = rw c.in-Refused.is (rw (refused-form a.call (take a.w a.list) _) at c.put_form.ensures.reached);
    }
