-- `entries_within` tests each entry of the 24. Assumes nothing.
use mathlib.Core.Path.{◌≡◌, sym}
use borrow.Author.Rules.{rules}
use lib.ListN.{length}
use Rattle.calendar_entries.proofs.Entries.{entries_by}
use Rattle.calendar_entries.proofs.entries_within.Goals as goal

pub returns : goal.returns
returns c = let w : length c.args.entries ≡ 24 = search rules in entries_by c.args.entries _ w (sym c.each_within.ensures)
