-- `coming_values` meets its contract. The loop's invariant: with the entries to come stored from where it stands, the numbers are what they are to be.
-- Assumes nothing.
use mathlib.Core.Path.{◌≡◌}
use mathlib.Core.List.{◌∷◌}
use Prim.Native.Nat.{◌+◌}
use lib.ListN.{length, drop}
use lib.Seq.{sets}
use Rattle.coming_lines.proofs.coming_values.Given as goal

abbrev pub invariant-loop-i : goal.invariant-loop-i
invariant-loop-i l = record {
  size : length l.values ≡ 1027;
  filled : sets l.values (l.i + 2) (drop l.i l.fn.list) ≡ l.call ∷ l.slots ∷ l.fn.list;
}
