-- `low_bytes` meets its contract. The loop's invariant: with the bytes of the numbers to come stored from where it stands, the bytes are what they are to be.
-- Assumes nothing.
use mathlib.Core.Path.{◌≡◌}
use mathlib.Core.List.{map}
use Prim.Native.Nat.{◌≤◌}
use lib.ListN.{length, drop}
use lib.Seq.{sets}
use Rattle.number_lists.specs.NumberList.{low_byte}
use Rattle.number_lists.proofs.low_bytes.Given as goal

abbrev pub invariant-loop-i : goal.invariant-loop-i
invariant-loop-i l =
    (l.i ≤ 256) × (length l.fn.values ≡ 256) × (length l.bytes ≡ 256) × (sets l.bytes l.i (map low_byte (drop l.i l.fn.values)) ≡ map low_byte l.fn.values)
