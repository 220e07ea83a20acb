-- `read_group` reads the row of the next group. Assumes nothing.
use mathlib.Core.Path.{◌∙◌, ap}
use Rattle.rules.specs.declared.WireRow.{WireRow}
use Rattle.wire_hearing.specs.GroupRead.{first_read}
use Rattle.wire_hearing.proofs.read_group.Goals as goal

pub returns : goal.returns
returns c =
    let a = c.args in
    c.read_wire_row.ensures ∙ ap (λ (r : WireRow). first_read a.c.minislots r.minislots) c.row_at.ensures
