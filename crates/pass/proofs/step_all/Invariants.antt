-- No turn passes the stations or the picks, and after i turns the first i stations have stepped and what they send is gathered (Passes).
use Prim.Native.Nat.{◌-◌, ◌≤◌}
use mathlib.Core.Path.{◌≡◌}
use lib.ListN.{length}
use Rattle.pass.proofs.Passes.{stepped_to, sent_to}
use Rattle.pass.proofs.step_all.Given as goal

abbrev pub invariant-loop-i : goal.invariant-loop-i
invariant-loop-i l = record {
  stations : l.n ≤ length l.fn.table;
  picks : l.n ≤ length l.picks;
  turns : l.i ≤ l.n;
  table : l.table ≡ stepped_to l.o l.fn.table l.picks l.i;
  sent : l.sent ≡ sent_to l.o l.fn.table l.picks l.i;
}

abbrev pub decreases-loop-i : goal.decreases-loop-i
decreases-loop-i l = l.n - l.i
