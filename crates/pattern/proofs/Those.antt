-- The numbers of a range that pass a test, listed in rising order: they lie in the range, rise, pass, and are all that pass. And the
-- place of a number in a rising list. For any test and any range. By induction on the range or the list.
-- Assumes nothing.
use mathlib.Core.Path.{◌≡◌, refl, ap, ◌∙◌, subst}
use mathlib.Core.Bool.{Bool, true, false}
use mathlib.Core.List.{List, [], ◌∷◌}
use mathlib.Core.Logic.{⊎_elim}
use Prim.Native.Nat.{ℕ, zero, suc, ◌+◌, ◌≤◌, ◌<◌}
use native.Mathlib.Nat.{le_of_suc-le-suc, not-suc-le-zero, eq-or-lt_of_le}
use native.Mathlib.Omega.{arith}
use borrow.Author.Tests.{eq-eqb, ne_eqb}
use lib.ListN.{length, get_or}
use Rattle.listlaws.specs.Lists.{keep_if}
use Rattle.pattern.specs.Patterns.{those, place_of}

-- later entries are greater
abbrev pub Rises : List ℕ → Type 0
Rises l = (j k : ℕ) → j < k → k < length l → get_or l j 0 < get_or l k 0

-- where a number stands in a list
pub record Found (l : List ℕ) (x : ℕ) : Type 0 where
  pub at : ℕ
  pub within : at < length l
  pub here : get_or l at 0 ≡ x

-- ---- one number put in front, or not

keep_range : (b : Bool) (i m : ℕ) (l : List ℕ) → i < m → ((k : ℕ) → k < length l → (suc i ≤ get_or l k 0) × (get_or l k 0 < m))
    → (k : ℕ) → k < length (keep_if b i l) → (i ≤ get_or (keep_if b i l) k 0) × (get_or (keep_if b i l) k 0 < m)
keep_range true i m l h r zero q = omega arith
keep_range true i m l h r (suc k) q = omega (arith, r k (le_of_suc-le-suc q))
keep_range false i m l h r k q = omega (arith, r k q)

keep_rises : (b : Bool) (i : ℕ) (l : List ℕ) → ((k : ℕ) → k < length l → suc i ≤ get_or l k 0) → Rises l → Rises (keep_if b i l)
keep_rises true i l above r j zero h q = absurd (not-suc-le-zero h)
keep_rises true i l above r zero (suc k) h q = above k (le_of_suc-le-suc q)
keep_rises true i l above r (suc j) (suc k) h q = r j k (le_of_suc-le-suc h) (le_of_suc-le-suc q)
keep_rises false i l above r j k h q = r j k h q

keep_first : (b : Bool) (i : ℕ) (l : List ℕ) → b ≡ true → Found (keep_if b i l) i
keep_first true i l e = record { at = 0; within = omega arith; here = refl }
keep_first false i l e = let z : ◌≡◌ {A = ℕ} 0 1 = cc in absurd (omega arith)

keep_later : (b : Bool) (i x : ℕ) (l : List ℕ) → Found l x → Found (keep_if b i l) x
keep_later true i x l f = record { at = suc f.at; within = omega (arith, f.within); here = f.here }
keep_later false i x l f = f

module _ (p : ℕ → Bool) where
  keep_passes : (b : Bool) (i : ℕ) (l : List ℕ) → p i ≡ b → ((k : ℕ) → k < length l → p (get_or l k 0) ≡ true)
      → (k : ℕ) → k < length (keep_if b i l) → p (get_or (keep_if b i l) k 0) ≡ true
  keep_passes true i l e r zero q = e
  keep_passes true i l e r (suc k) q = r k (le_of_suc-le-suc q)
  keep_passes false i l e r k q = r k q

  -- ---- the list

  pub in-range : (i n k : ℕ) → k < length (those p i n) → (i ≤ get_or (those p i n) k 0) × (get_or (those p i n) k 0 < i + n)
  unfolding those
  in-range i zero k h = absurd (not-suc-le-zero h)
  in-range i (suc n) k h =
      keep_range (p i) i (i + suc n) (those p (suc i) n) (omega arith)
      (λ j q. let r = in-range (suc i) n j q in omega arith) k h

  pub rises : (i n : ℕ) → Rises (those p i n)
  unfolding those
  rises i zero j k h q = absurd (not-suc-le-zero q)
  rises i (suc n) j k h q =
      keep_rises (p i) i (those p (suc i) n) (λ m l. (in-range (suc i) n m l).0) (rises (suc i) n) j k h q

  pub passes : (i n k : ℕ) → k < length (those p i n) → p (get_or (those p i n) k 0) ≡ true
  unfolding those
  passes i zero k h = absurd (not-suc-le-zero h)
  passes i (suc n) k h = keep_passes (p i) i (those p (suc i) n) refl (passes (suc i) n) k h

  -- each number of the range that passes is there
  pub all_there : (i n x : ℕ) → i ≤ x → x < i + n → p x ≡ true → Found (those p i n) x
  unfolding those
  all_there i zero x h q t = absurd (omega arith)
  all_there i (suc n) x h q t =
      ⊎_elim {C = Found (keep_if (p i) i (those p (suc i) n)) x}
      (λ e. subst (λ (y : ℕ). Found (keep_if (p i) i (those p (suc i) n)) y) e (keep_first (p i) i (those p (suc i) n) (ap p e ∙ t)))
      (λ l. keep_later (p i) i x (those p (suc i) n) (all_there (suc i) n x l (omega arith) t))
      (eq-or-lt_of_le h)

-- ---- places

-- in a rising list each entry has its own index for its place
pub place_at : (l : List ℕ) → Rises l → (k : ℕ) → k < length l → place_of (get_or l k 0) l ≡ k
unfolding place_of
place_at [] r k h = absurd (not-suc-le-zero h)
place_at (y ∷ l) r zero h = rw (eq-eqb y y refl)
place_at (y ∷ l) r (suc k) h =
    let above : y < get_or l k 0 = r 0 (suc k) (omega arith) h in
    rw (ne_eqb y (get_or l k 0) (λ e. omega arith))
    (ap suc (place_at l (λ i j q w. r (suc i) (suc j) (omega arith) (omega arith)) k (le_of_suc-le-suc h)))

-- a number that is not in the list has the list's length for its place
pub place_none : (l : List ℕ) (x : ℕ) → ((k : ℕ) → k < length l → get_or l k 0 ≡ x → ⊥) → place_of x l ≡ length l
unfolding place_of
place_none [] x other = refl
place_none (y ∷ l) x other =
    rw (ne_eqb y x (other 0 (omega arith))) (ap suc (place_none l x (λ k h. other (suc k) (omega arith))))
