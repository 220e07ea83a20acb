-- `weigh` sums the weights of the eight places in order. After i of them the tally is the weight of the first i. A sum is at most 16
-- (`weight-fits`), so that none passes a byte.
-- Assumes nothing.
use mathlib.Core.Path.{◌≡◌}
use lib.ListN.{take}
use Rattle.rows.specs.Row.{weight, feedback_in}
use Rattle.rows.proofs.weigh.Given as goal

abbrev pub invariant-loop-minislot : goal.invariant-loop-minislot
invariant-loop-minislot l = l.tally ≡ weight (take l.minislot-index (feedback_in l.minislot-items))
