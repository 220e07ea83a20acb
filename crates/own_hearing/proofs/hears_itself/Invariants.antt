-- `hears_itself` tests one minislot after the other: each before i passed, and one that fails fails the row. Assumes nothing.
use mathlib.Core.Path.{◌≡◌}
use mathlib.Core.Bool.{true}
use Prim.Native.Nat.{ℕ, ◌+◌, ◌<◌}
use lib.ListN.{get_or}
use Rattle.rules.specs.OwnHearing.{hears_at}
use Rattle.queueing.proofs.Rows.{blank}
use Rattle.own_hearing.proofs.hears_itself.Given as goal

abbrev pub invariant-loop-i : goal.invariant-loop-i
invariant-loop-i l = (k : ℕ) → k < l.i → hears_at l.s.index l.own l.total (k + 1) (get_or l.words k 0) (get_or l.row k blank).feedback ≡ true
