-- `opened_within` tests each group in turn: each one before i passed, and one that fails fails the list.
-- Assumes nothing.
use mathlib.Core.Path.{◌≡◌}
use mathlib.Core.Bool.{true, false}
use Prim.Native.Nat.{ℕ, ◌<◌}
use lib.ListN.{get_or}
use Rattle.rules.specs.Limits.{opened_within}
use Rattle.counter_limits.proofs.opened_within.Given as goal

abbrev pub invariant-loop-i : goal.invariant-loop-i
invariant-loop-i l = (k : ℕ) → k < l.i → opened_within l.fn.n k (get_or l.fn.opened k false) ≡ true
