-- `put_row` puts the form of a row with the row's numbers, which is the row's line. Assumes nothing.
use mathlib.Core.Path.{◌≡◌}
use native.Mathlib.Omega.{arith}
use borrow.Author.Rules.{rules}
use lib.ListN.{length, take}
use lib.Seq.{length-take-le}
use Rattle.wire_lines.proofs.WireForms.{row_line}
use Rattle.wire_lines.proofs.put_row.Goals as goal

pub returns : goal.returns
returns c =
    let a = c.args in
    let row = c.row_at-row in
    let end = c.held-end in
    let whole : length row.result.minislots ≡ 8 = search rules in
    let size : length (take end.result row.result.minislots) ≡ end.result = length-take-le end.result row.result.minislots (omega arith) in
    let e = row_line a.call a.m a.group a.wire row.result end.result _ row.ensures end.ensures whole (rw size at c.row_values-values.ensures.values) in record {
      buffer = rw e at c.put_form.ensures.buffer;
      reached = rw e at c.put_form.ensures.reached;
    }
