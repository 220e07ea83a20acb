-- `successes_in` counts one minislot after the other: the count, and that of what is left of the row, is the row's. Assumes nothing.
use mathlib.Core.Path.{◌≡◌}
use Prim.Native.Nat.{◌+◌, ◌≤◌}
use lib.ListN.{drop}
use Rattle.rows.specs.Row.{feedback_in}
use Rattle.rules.specs.Outcome.{successes}
use Rattle.outcomes.proofs.successes_in.Given as goal

abbrev pub invariant-loop-minislot : goal.invariant-loop-minislot
invariant-loop-minislot l =
    (l.total + successes l.success (drop l.minislot-index (feedback_in l.minislot-items)) ≡ successes l.success (feedback_in l.minislot-items))
    × (l.total ≤ l.minislot-index)
