-- `numbers_from` meets its contract. The loop's invariant: reading on from the place reached, with the numbers read, gives `list_of` of the whole.
-- Assumes nothing.
use mathlib.Core.Path.{◌≡◌}
use lib.ListN.{length, drop}
use Rattle.fields.specs.Fields.{parts}
use Rattle.number_lists.specs.NumberList.{list_of}
use Rattle.number_lists.proofs.Listing.{go_list}
use Rattle.number_lists.proofs.numbers_from.Given as goal

abbrev pub invariant-loop-read : goal.invariant-loop-read
invariant-loop-read l =
    (length l.values ≡ 256) × (go_list l.most l.read l.values (parts (drop l.at l.bytes)) ≡ list_of l.most (parts (drop l.start l.bytes)))
