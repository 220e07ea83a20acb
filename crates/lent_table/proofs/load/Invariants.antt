-- No turn passes the table or the 64 records of one by value, and after i turns the first i records are read (table's Loading).
use Prim.Native.Nat.{◌-◌, ◌≤◌}
use mathlib.Core.Path.{◌≡◌}
use lib.ListN.{length}
use Rattle.table.proofs.Loading.{read_to}
use Rattle.lent_table.proofs.load.Given as goal

abbrev pub invariant-loop-i : goal.invariant-loop-i
invariant-loop-i l = record {
  lent : l.end ≤ length l.table;
  room : l.end ≤ 64;
  turns : l.i ≤ l.end;
  read : l.stations ≡ (read_to (length l.table) l.table l.i).stations;
}

abbrev pub decreases-loop-i : goal.decreases-loop-i
decreases-loop-i l = l.end - l.i
