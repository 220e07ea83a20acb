-- What the tests of a start say where its number is 0. Assumes nothing.
use mathlib.Core.Path.{◌≡◌, refl}
use mathlib.Core.Bool.{true, ◌&&◌, and-eq-true_iff}
use mathlib.Core.List.{List}
use Prim.Native.Nat.{ℕ}
use lib.Dec.{eqb}
use lib.ListN.{length}
use borrow.Author.Tests.{eqb-true}
use Rattle.rules.specs.Limits.{between}
use Rattle.rules.specs.Starting.{in_ranges}
use Rattle.channel_rules.specs.ChannelCalls.{channel_start_number_of}
use Rattle.rules.proofs.Refusals.{test_passed}

module _ (count m n : ℕ) (indexes : List ℕ) where
  -- a start that goes through has a table of 1 to 64 records, and an index for each
  pub start-passed : channel_start_number_of count m n indexes ≡ 0 → (between 1 count 64 ≡ true) × (length indexes ≡ count)
  unfolding channel_start_number_of
  start-passed z =
      let p = (test_passed (in_ranges m n) 5 _ refl z).1 in
      let q = (and-eq-true_iff (between 1 count 64) (eqb (length indexes) count)).0 (test_passed (between 1 count 64 && eqb (length indexes) count) 14 _ refl p).0 in
      (q.0, eqb-true (length indexes) count q.1)
