-- The number of the record that follows fits 64 bits, as the number before it does. Assumes nothing.
use mathlib.Core.Bool.{Bool, true, false, cond}
use mathlib.Core.Path.{◌≡◌, refl}
use Prim.Native.Nat.{ℕ, ◌+◌, ◌≤◌}
use native.Mathlib.Omega.{arith}
use borrow.Author.Tests.{ltb-true}
use lib.Dec.{ltb}
use Rattle.programs.specs.Places.{place_following}

pub next_place : (k : ℕ) → k ≤ 18446744073709551615 → place_following k ≤ 18446744073709551615
next_place k h = go (ltb k 18446744073709551615) refl
  where
    go : (t : Bool) → ltb k 18446744073709551615 ≡ t → cond t (k + 1) k ≤ 18446744073709551615
    go true e = omega (arith, ltb-true k 18446744073709551615 e)
    go false e = h
