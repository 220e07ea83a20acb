-- `resolution_within` tests each group in turn: each one before i passed, and one that fails fails the list.
-- Assumes nothing.
use mathlib.Core.Path.{◌≡◌}
use mathlib.Core.Bool.{true}
use Prim.Native.Nat.{ℕ, ◌<◌}
use lib.ListN.{get_or}
use Rattle.rules.specs.Limits.{resolution_within}
use Rattle.counter_limits.proofs.resolution_within.Given as goal

abbrev pub invariant-loop-i : goal.invariant-loop-i
invariant-loop-i l = (k : ℕ) → k < l.i → resolution_within l.fn.n k (get_or l.fn.resolution k 0) ≡ true
