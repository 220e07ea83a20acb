-- Sums over the numbers below K. Assumes nothing.
use mathlib.Core.Path.{◌≡◌, refl, ap, ◌∙◌}
use mathlib.Core.Bool.{Bool, true, false}
use mathlib.Core.Logic.{◌≢◌}
use Prim.Native.Nat.{ℕ, zero, suc, ◌+◌, ◌≤◌, ◌<◌}
use native.Mathlib.Omega.{arith}
use lib.Dec.{eqb}
use borrow.Author.Tests.{eqb-true, eqb-false}

abbrev pub total : ℕ → (ℕ → ℕ) → ℕ
total zero f = 0
total (suc k) f = f k + total k f

pub total-cong : (K : ℕ) (f g : ℕ → ℕ) → ((k : ℕ) → f k ≡ g k) → total K f ≡ total K g
total-cong zero f g h = refl
total-cong (suc k) f g h = rw (h k, total-cong k f g h)

pub total-add : (K : ℕ) (f g : ℕ → ℕ) → total K (λ k. f k + g k) ≡ total K f + total K g
total-add zero f g = omega arith
total-add (suc K) f g = omega (arith, total-add K f g)

pub total_zero : (K : ℕ) → total K (λ i. 0) ≡ 0
total_zero zero = refl
total_zero (suc K) = omega (arith, total_zero K)

-- a sum as large as its number of terms, each at most 1: each is 1
total-most : (K : ℕ) (f : ℕ → ℕ) → ((i : ℕ) → f i ≤ 1) → total K f ≤ K
total-most zero f h = omega arith
total-most (suc K) f h = omega (arith, h K, total-most K f h)

pub total-full : (K : ℕ) (f : ℕ → ℕ) → ((i : ℕ) → f i ≤ 1) → total K f ≡ K → (i : ℕ) → i < K → f i ≡ 1
total-full zero f h e i l = absurd (omega arith)
total-full (suc K) f h e i l = go (eqb i K) refl (total-full K f h (omega (arith, h K, total-most K f h)) i)
  where
    go : (b : Bool) → eqb i K ≡ b → (i < K → f i ≡ 1) → f i ≡ 1
    go true w ih = ap f (eqb-true i K w) ∙ omega (arith, h K, total-most K f h)
    go false w ih = let z : i ≢ K = eqb-false i K w in ih (omega arith)

pub total-ones : (K : ℕ) (f : ℕ → ℕ) → ((i : ℕ) → i < K → f i ≡ 1) → total K f ≡ K
total-ones zero f h = refl
total-ones (suc K) f h = omega (arith, h K (omega arith), total-ones K f (λ i w. h i (omega arith)))
