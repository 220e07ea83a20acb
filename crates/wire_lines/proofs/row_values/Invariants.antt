-- `row_values` meets its contract. The loop's invariant: the first numbers are the call, the group, and word and count of each minislot so far.
-- Assumes nothing.
use mathlib.Core.Path.{◌≡◌}
use mathlib.Core.List.{◌∷◌}
use Prim.Native.Nat.{◌+◌, ◌*◌}
use lib.ListN.{length, take}
use Rattle.wire_lines.specs.WireLines.{cells}
use Rattle.wire_lines.proofs.row_values.Given as goal

abbrev pub invariant-loop-j : goal.invariant-loop-j
invariant-loop-j l = record {
  size : length l.values ≡ 18;
  filled : take (2 + l.j * 2) l.values ≡ l.call ∷ l.group ∷ cells (take l.j l.minislots);
}
