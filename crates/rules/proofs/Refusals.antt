-- Laws of the order of checking: what a call leaves, test by test; the highest number; and that a call which went through has passed every test. Assumes nothing.
use mathlib.Core.Path.{◌≡◌, refl, sym, ap, ◌∙◌}
use mathlib.Core.Bool.{Bool, true, false, cond, false≢true}
use Prim.Native.Nat.{ℕ, ◌≤◌}
use lib.Dec.{eqb}
use borrow.Author.Tests.{eqb-true}
use Rattle.rules.specs.Refusing.{unless, or_next, by_number}

module _ {ℓ} {A : Type ℓ} (refusal : ℕ → A) (through : A) where
  -- a test of the list
  pub by_test : (b : Bool) (n after : ℕ) → eqb n 0 ≡ false → by_number (unless b n after) refusal through ≡ cond b (by_number after refusal through) (refusal n)
  by_test true n after e = refl
  by_test false n after e = rw e

  -- a number found elsewhere
  pub by-found : (n after : ℕ) → by_number (or_next n after) refusal through ≡ cond (eqb n 0) (by_number after refusal through) (refusal n)
  by-found n after = go (eqb n 0) refl
    where
      go : (b : Bool) → eqb n 0 ≡ b → by_number (cond b after n) refusal through ≡ cond b (by_number after refusal through) (refusal n)
      go true e = refl
      go false e = rw e

-- what goes by the number goes by it alone
pub by-ap {ℓ κ} : {A : Type ℓ} {B : Type κ} (f : A → B) (n : ℕ) (refusal : ℕ → A) (through : A)
    → f (by_number n refusal through) ≡ by_number n (λ k. f (refusal k)) (f through)
by-ap f n refusal through = go (eqb n 0)
  where
    go : (b : Bool) → f (cond b through (refusal n)) ≡ cond b (f through) (f (refusal n))
    go true = refl
    go false = refl

-- ---- what holds of every number of a list holds of the one that comes

module _ (P : ℕ → Type 0) where
  pub unless-by : (b : Bool) (n after : ℕ) → P n → P after → P (unless b n after)
  unless-by true n after h l = l
  unless-by false n after h l = h

  pub next-by : (n after : ℕ) → P n → P after → P (or_next n after)
  next-by n after h l = go (eqb n 0)
    where
      go : (b : Bool) → P (cond b after n)
      go true = l
      go false = h

-- none is above 19 if none of the tests' is
pub unless-low : (b : Bool) (n after : ℕ) → n ≤ 19 → after ≤ 19 → unless b n after ≤ 19
unless-low = unless-by (λ n. n ≤ 19)

-- ---- a call that went through

-- its number is 0
pub through-only : {A : Type 0} (P : A → Type 0) (n : ℕ) (refusal : ℕ → A) (through : A) → ((k : ℕ) → P (refusal k) → ⊥) → P (by_number n refusal through) → n ≡ 0
through-only P n refusal through never p = go (eqb n 0) refl p
  where
    go : (b : Bool) → eqb n 0 ≡ b → P (cond b through (refusal n)) → n ≡ 0
    go true e q = eqb-true n 0 e
    go false e q = absurd (never n q)

-- so each test holds
pub test_passed : (b : Bool) (n after : ℕ) → eqb n 0 ≡ false → unless b n after ≡ 0 → (b ≡ true) × (after ≡ 0)
test_passed true n after e z = (refl, z)
test_passed false n after e z = absurd (false≢true (sym e ∙ ap (λ (k : ℕ). eqb k 0) z))

pub none_found : (n after : ℕ) → or_next n after ≡ 0 → (n ≡ 0) × (after ≡ 0)
none_found n after z = go (eqb n 0) refl z
  where
    go : (b : Bool) → eqb n 0 ≡ b → cond b after n ≡ 0 → (n ≡ 0) × (after ≡ 0)
    go true e q = (eqb-true n 0 e, q)
    go false e q = absurd (false≢true (sym e ∙ ap (λ (k : ℕ). eqb k 0) q))
