-- `queue_row` folds step 1 over the first m minislots. After j of them the lengths are those of the first j, and have grown by at most 1 a
-- minislot, or 255 for N.
-- Assumes nothing.
use mathlib.Core.Path.{◌≡◌}
use mathlib.Core.List.{foldl}
use Prim.Native.Nat.{◌+◌, ◌*◌, ◌≤◌}
use lib.ListN.{take}
use Rattle.rows.specs.Row.{feedback_in}
use Rattle.rules.specs.Queueing.{queued}
use Rattle.queueing.proofs.queue_row.Given as goal

abbrev pub invariant-loop-minislot : goal.invariant-loop-minislot
invariant-loop-minislot l =
    (l.p ≡ foldl (queued l.success) l.initial.p (take l.minislot-index (feedback_in l.minislot-items)))
    × (l.p.urgent ≤ l.initial.p.urgent + l.minislot-index)
    × (l.p.long ≤ l.initial.p.long + 255 * l.minislot-index)
    × (l.p.resolution ≤ l.initial.p.resolution + l.minislot-index)
