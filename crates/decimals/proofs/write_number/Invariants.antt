-- `write_number` meets its contract. The loop's invariant: with the digits of what is left stored from `at` on, the buffer is what it is to be;
-- they end where the loop has come to. Assumes nothing.
use mathlib.Core.Path.{◌≡◌}
use Prim.Native.Nat.{◌+◌, ◌≤◌}
use lib.ListN.{length}
use lib.Seq.{sets}
use Rattle.decimals.specs.Decimal.{digits_of}
use Rattle.decimals.proofs.write_number.Given as goal

abbrev pub invariant-loop-to : goal.invariant-loop-to
invariant-loop-to l = record {
  place : l.to ≡ l.at + length (digits_of l.left);
  within : l.to ≤ length l.out;
  stored : sets l.out l.at (digits_of l.left) ≡ sets l.initial.out l.at (digits_of l.value);
}
