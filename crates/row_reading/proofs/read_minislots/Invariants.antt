-- `read_minislots` reads a row's minislots in order. After j of them all were heard, and the array is that of the first j readings; a
-- refused one gives its number, and after the last the answer is the whole row's, with the weight of the array.
-- Assumes nothing.
use mathlib.Core.Path.{◌≡◌}
use lib.ListN.{length, take}
use Rattle.rows.specs.Row.{readings, feedbacks, padded}
use Rattle.row_reading.proofs.read_minislots.Given as goal

abbrev pub invariant-loop-j : goal.invariant-loop-j
invariant-loop-j l =
    (length (feedbacks (take l.j (readings l.words l.counts))) ≡ l.j)
    × (l.minislots ≡ padded 8 (feedbacks (take l.j (readings l.words l.counts))))
