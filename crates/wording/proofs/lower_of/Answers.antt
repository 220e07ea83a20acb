-- `lower_of` reads the lower half at its place: an upper half has at most six ones, and the place is below 64.
-- Assumes nothing.
use mathlib.Core.Path.{refl}
use Prim.Native.Nat.{ℕ, ◌<◌}
use native.Mathlib.Omega.{arith}
use lib.Count.{ones, ones-le}
use Rattle.wording.specs.Lowers.{lowers, firsts, place_of_lower}
use Rattle.wording.proofs.lower_of.Goals as goal

few_ones : (u : ℕ) → u < 64 → ones u < 7
few_ones u h = omega (arith, ones-le 6 u h)

pub overflow_cast-first : goal.overflow_cast-first
overflow_cast-first c = omega (arith, few_ones _ c.requires.0)

pub offset_bounds-upper : goal.offset_bounds-upper
offset_bounds-upper c = omega (arith, few_ones _ c.requires.0)

pub bounds-upper : goal.bounds-upper
bounds-upper c = few_ones _ c.requires.0

pub overflow_add-result : goal.overflow_add-result
unfolding place_of_lower firsts
overflow_add-result c = let p = c.requires.1 in omega arith

pub overflow_cast-result : goal.overflow_cast-result
unfolding place_of_lower firsts
overflow_cast-result c = let p = c.requires.1 in omega arith

pub bounds-first : goal.bounds-first
unfolding place_of_lower firsts
bounds-first c = c.requires.1

pub returns : goal.returns
unfolding place_of_lower firsts lowers
returns c = refl
