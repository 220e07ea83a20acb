-- No turn passes the lent records or the 64 of a table by value, and after i turns the first i of the lent records are the table's
-- (table's Loading).
use Prim.Native.Nat.{◌-◌, ◌≤◌}
use mathlib.Core.Path.{◌≡◌}
use lib.ListN.{length}
use Rattle.table.proofs.Loading.{stored_to}
use Rattle.lent_table.proofs.store.Given as goal

abbrev pub invariant-loop-i : goal.invariant-loop-i
invariant-loop-i l = record {
  lent : l.n ≤ length l.fn.table;
  room : l.n ≤ 64;
  turns : l.i ≤ l.n;
  stored : l.table ≡ stored_to l.fn.table l.d l.i;
}

abbrev pub decreases-loop-i : goal.decreases-loop-i
decreases-loop-i l = l.n - l.i
