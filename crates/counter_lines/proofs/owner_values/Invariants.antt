-- `owner_values` meets its contract. The loop's invariant: with the entries to come stored from where it stands, the numbers are what they are to be.
-- Assumes nothing.
use mathlib.Core.Path.{◌≡◌}
use mathlib.Core.List.{◌∷◌}
use Prim.Native.Nat.{◌+◌}
use lib.ListN.{length, drop}
use lib.Seq.{sets}
use Rattle.counter_lines.proofs.owner_values.Given as goal

abbrev pub invariant-loop-i : goal.invariant-loop-i
invariant-loop-i l = record {
  size : length l.values ≡ 26;
  filled : sets l.values (l.i + 2) (drop l.i l.fn.entries) ≡ l.call ∷ l.position ∷ l.fn.entries;
}
