-- `row_of` joins one request of the group after the other to the row: after i requests it is the row of the first i. Assumes nothing.
use mathlib.Core.Path.{◌≡◌}
use lib.ListN.{take}
use Rattle.asked_rows.specs.Asked.{carried_row}
use Rattle.asked_rows.proofs.row_of.Given as goal

abbrev pub invariant-loop-a : goal.invariant-loop-a
invariant-loop-a l = l.row ≡ carried_row l.group (take l.a-index l.requests)
