-- `put_until` puts the form of a list of coming slots, which is its line. Assumes nothing.
use mathlib.Core.Path.{◌≡◌}
use borrow.Author.Rules.{rules}
use lib.ListN.{length, take}
use Rattle.coming_lines.proofs.ComingForms.{until_form}
use Rattle.coming_lines.proofs.ComingValues.{list-part}
use Rattle.coming_lines.proofs.put_until.Goals as goal

pub returns : goal.returns
returns c =
    let a = c.args in
    let n : length a.list ≡ 1025 = search rules in record {
      buffer = rw (
        c.coming_values-values.ensures,
        c.entries_for-count.ensures,
        list-part a.call a.slots a.w a.list n,
        until_form a.call (take a.w a.list) a.slots,
      ) at c.put_form.ensures.buffer;
      reached = rw (
        c.coming_values-values.ensures,
        c.entries_for-count.ensures,
        list-part a.call a.slots a.w a.list n,
        until_form a.call (take a.w a.list) a.slots,
      ) at c.put_form.ensures.reached;
    }
