-- `put_group` puts the form of the group by its mark, which is its line. Assumes nothing.
use mathlib.Core.Path.{sym, ◌∙◌}
use Rattle.counter_lines.proofs.CounterForms.{yes_form, no_form}
use Rattle.counter_lines.proofs.put_group.Goals as goal

pub returns-then-opened_of : goal.returns-then-opened_of
returns-then-opened_of c =
    let a = c.args in
    let e = yes_form a.call a.c a.group (sym c.opened_of.ensures ∙ c.if-opened_of.true) in record {
      buffer = rw (c.resolution_of.ensures, e) at c.put_form.ensures.buffer;
      reached = rw (c.resolution_of.ensures, e) at c.put_form.ensures.reached;
    }

pub returns-else-opened_of : goal.returns-else-opened_of
returns-else-opened_of c =
    let a = c.args in
    let e = no_form a.call a.c a.group (sym c.opened_of.ensures ∙ c.if-opened_of.false) in record {
      buffer = rw (c.resolution_of.ensures, e) at c.put_form-else-opened_of.ensures.buffer;
      reached = rw (c.resolution_of.ensures, e) at c.put_form-else-opened_of.ensures.reached;
    }
