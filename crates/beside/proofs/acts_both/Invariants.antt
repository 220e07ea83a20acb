-- `acts_both` takes the messages one after the other: those before i have acted. Assumes nothing.
use mathlib.Core.Path.{◌≡◌}
use Prim.Native.Nat.{◌≤◌}
use Rattle.beside.proofs.Rounds.{round}
use Rattle.beside.proofs.acts_both.Given as goal

abbrev pub invariant-loop-i : goal.invariant-loop-i
invariant-loop-i l = (l.most ≤ 2) × (l.after ≡ round l.o l.pick l.messages l.i)
