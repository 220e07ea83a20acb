-- `row_fields` meets its contract. The loop's invariant: reading on from the place reached, with the pairs read, gives `row_of` of the whole;
-- the pairs read and the parts to come are as many as the parts of the whole. The measure is how many parts are to come. Assumes nothing.
use mathlib.Core.Path.{◌≡◌}
use Prim.Native.Nat.{◌+◌, ◌*◌, ◌≤◌}
use lib.ListN.{length, drop}
use Rattle.fields.specs.Fields.{parts}
use Rattle.row_fields.specs.Row.{row_of}
use Rattle.row_fields.proofs.Rows.{go_row}
use Rattle.row_fields.proofs.row_fields.Given as goal

abbrev pub invariant-loop-pair : goal.invariant-loop-pair
invariant-loop-pair l =
    (l.pairs * 2 + length (parts (drop l.at l.bytes)) ≤ 129)
    × (length l.words ≡ 8)
    × (length l.counts ≡ 8)
    × (go_row l.pairs l.words l.counts (parts (drop l.at l.bytes)) ≡ row_of l.bytes)

abbrev pub decreases-loop-pair : goal.decreases-loop-pair
decreases-loop-pair l = length (parts (drop l.at l.bytes))
