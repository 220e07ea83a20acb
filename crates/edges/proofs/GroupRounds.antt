-- Slots go round the groups: after one slot of each other group a group is next again, and until then it is not. Assumes nothing.
use mathlib.Core.Path.{◌≡◌, refl}
use mathlib.Core.Bool.{Bool, true, false, cond}
use mathlib.Core.Logic.{◌⊎◌, inl, inr, ⊎_elim}
use Prim.Native.Nat.{ℕ, suc, ◌+◌, ◌-◌, ◌≤◌, ◌<◌}
use native.Mathlib.Omega.{arith}
use lib.Dec.{eqb}
use borrow.Author.Tests.{eqb-true, eqb-false}
use Rattle.rules.specs.Falling.{following}

-- group g is next after k slots more, where h is next: in this round or in the one after it
abbrev pub NextAfter : ℕ → ℕ → ℕ → ℕ → Type 0
NextAfter n g h k = (h + k ≡ g) ⊎ (h + k ≡ g + n)

module _ (n g : ℕ) (low : 1 ≤ g) (high : g ≤ n) where
  pub following_in : (h : ℕ) → h ≤ n → (1 ≤ following n h) × (following n h ≤ n)
  following_in h hh = go (eqb h n) refl
    where
      go : (b : Bool) → eqb h n ≡ b → (1 ≤ cond b 1 (h + 1)) × (cond b 1 (h + 1) ≤ n)
      go true e = omega arith
      go false e = omega (arith, eqb-false h n e)

  pub one_fewer : (h k : ℕ) → h ≤ n → NextAfter n g h (suc k) → NextAfter n g (following n h) k
  one_fewer h k hh a = go (eqb h n) refl a
    where
      go : (b : Bool) → eqb h n ≡ b → NextAfter n g h (suc k) → NextAfter n g (cond b 1 (h + 1)) k
      go true e a = let q = eqb-true h n e in inl (⊎_elim (λ x. absurd (omega arith)) (λ x. omega arith) a)
      go false e a = ⊎_elim (λ x. inl (omega arith)) (λ x. inr (omega arith)) a

  pub other : (h k : ℕ) → 1 ≤ h → suc k < n → NextAfter n g h (suc k) → g - 1 ≡ h - 1 → ⊥
  other h k hl few a e = ⊎_elim (λ x. omega arith) (λ x. omega arith) a
