-- The laws of a list whose elements take a step one after the other, for a loop that makes the step at i in its turn i, and gathers what each gives.
--     length-first_steps, length-all_steps       the length stays
--     first_steps-at, set-first_steps            the element at i is as it was after i steps;  the step at i makes `first_steps (suc i)` of `first_steps i`
--     first_steps-take                          `first_steps i` is `all_steps` with the first c of the second list, where i is as far as the lists and c go
--     within-each_with, each_with-at, each_with-take      the same of what each gives
--     all_steps-none, all_steps-whole, over_first, take-set      no step;  a list of the same length written over the whole;  a list written over the first
-- Assumes nothing.
use mathlib.Core.Path.{◌≡◌, refl, ap}
use mathlib.Core.Logic.{◌⊎◌, inl, inr}
use Prim.Native.Nat.{ℕ, zero, suc, ◌<◌, ◌≤◌}
use native.Mathlib.Nat.{not-suc-le-zero, le_of_suc-le-suc}
use native.Mathlib.Omega.{arith}
use mathlib.Core.List.{List, [], ◌∷◌}
use lib.ListN.{length, get_or, set, take}
use Rattle.listlaws.specs.Steps.{all_steps, first_steps, latter, each_with}

-- i goes as far as the lists and c go
abbrev pub Far : {X Y : Type 0} → ℕ → ℕ → List X → List Y → Type 0
Far i c xs ps = (length xs ≤ i) ⊎ ((c ≤ i) ⊎ (length ps ≤ i))

nearer : {X Y : Type 0} (i c : ℕ) (x : X) (xs : List X) (p : Y) (ps : List Y) → Far (suc i) (suc c) (x ∷ xs) (p ∷ ps) → Far i c xs ps
nearer i c x xs p ps (inl h) = inl (le_of_suc-le-suc h)
nearer i c x xs p ps (inr (inl h)) = inr (inl (le_of_suc-le-suc h))
nearer i c x xs p ps (inr (inr h)) = inr (inr (le_of_suc-le-suc h))

module _ {X Y : Type 0} (f : X → Y → X) where
  pub length-first_steps : (i : ℕ) (xs : List X) (ps : List Y) → length (first_steps f i xs ps) ≡ length xs
  length-first_steps zero xs ps = refl
  length-first_steps (suc i) [] ps = refl
  length-first_steps (suc i) (x ∷ xs) [] = refl
  length-first_steps (suc i) (x ∷ xs) (p ∷ ps) = ap suc (length-first_steps i xs ps)

  pub length-all_steps : (xs : List X) (ps : List Y) → length (all_steps f xs ps) ≡ length xs
  unfolding all_steps
  length-all_steps [] ps = refl
  length-all_steps (x ∷ xs) [] = refl
  length-all_steps (x ∷ xs) (p ∷ ps) = ap suc (length-all_steps xs ps)

  pub first_steps-at : (i : ℕ) (xs : List X) (ps : List Y) (x₀ : X) → get_or (first_steps f i xs ps) i x₀ ≡ get_or xs i x₀
  first_steps-at zero xs ps x₀ = refl
  first_steps-at (suc i) [] ps x₀ = refl
  first_steps-at (suc i) (x ∷ xs) [] x₀ = refl
  first_steps-at (suc i) (x ∷ xs) (p ∷ ps) x₀ = first_steps-at i xs ps x₀

  pub set-first_steps : (i : ℕ) (xs : List X) (ps : List Y) (x₀ : X) (p₀ : Y) → i < length xs → i < length ps
      → set (first_steps f i xs ps) i (f (get_or (first_steps f i xs ps) i x₀) (get_or ps i p₀)) ≡ first_steps f (suc i) xs ps
  set-first_steps i [] ps x₀ p₀ l m = absurd (not-suc-le-zero l)
  set-first_steps i (x ∷ xs) [] x₀ p₀ l m = absurd (not-suc-le-zero m)
  set-first_steps zero (x ∷ xs) (p ∷ ps) x₀ p₀ l m = refl
  set-first_steps (suc i) (x ∷ xs) (p ∷ ps) x₀ p₀ l m =
      ap (λ (t : List X). f x p ∷ t) (set-first_steps i xs ps x₀ p₀ (le_of_suc-le-suc l) (le_of_suc-le-suc m))

  pub first_steps-take : (i c : ℕ) (xs : List X) (ps : List Y) → i ≤ c → Far i c xs ps → first_steps f i xs ps ≡ all_steps f xs (take c ps)
  unfolding all_steps
  first_steps-take zero c [] ps l far = refl
  first_steps-take zero zero (x ∷ xs) ps l far = refl
  first_steps-take zero (suc c) (x ∷ xs) [] l far = refl
  first_steps-take zero (suc c) (x ∷ xs) (p ∷ ps) l (inl h) = absurd (not-suc-le-zero h)
  first_steps-take zero (suc c) (x ∷ xs) (p ∷ ps) l (inr (inl h)) = absurd (not-suc-le-zero h)
  first_steps-take zero (suc c) (x ∷ xs) (p ∷ ps) l (inr (inr h)) = absurd (not-suc-le-zero h)
  first_steps-take (suc i) c [] ps l far = refl
  first_steps-take (suc i) zero (x ∷ xs) ps l far = absurd (not-suc-le-zero l)
  first_steps-take (suc i) (suc c) (x ∷ xs) [] l far = refl
  first_steps-take (suc i) (suc c) (x ∷ xs) (p ∷ ps) l far =
      ap (λ (t : List X). f x p ∷ t) (first_steps-take i c xs ps (le_of_suc-le-suc l) (nearer i c x xs p ps far))

  pub all_steps-none : (xs : List X) → all_steps f xs [] ≡ xs
  unfolding all_steps
  all_steps-none [] = refl
  all_steps-none (x ∷ xs) = refl

-- ---- what each element gives

module _ {X Y Z : Type 0} (f : X → Y → Z) where
  pub within-each_with : (i : ℕ) (xs : List X) (ps : List Y) → i < length xs → i < length ps → i < length (each_with f xs ps)
  within-each_with i [] ps l m = l
  within-each_with i (x ∷ xs) [] l m = m
  within-each_with zero (x ∷ xs) (p ∷ ps) l m = omega arith
  within-each_with (suc i) (x ∷ xs) (p ∷ ps) l m = omega (arith, within-each_with i xs ps (le_of_suc-le-suc l) (le_of_suc-le-suc m))

  pub each_with-at : (i : ℕ) (xs : List X) (ps : List Y) (x₀ : X) (p₀ : Y) (z₀ : Z) → i < length xs → i < length ps
      → get_or (each_with f xs ps) i z₀ ≡ f (get_or xs i x₀) (get_or ps i p₀)
  each_with-at i [] ps x₀ p₀ z₀ l m = absurd (not-suc-le-zero l)
  each_with-at i (x ∷ xs) [] x₀ p₀ z₀ l m = absurd (not-suc-le-zero m)
  each_with-at zero (x ∷ xs) (p ∷ ps) x₀ p₀ z₀ l m = refl
  each_with-at (suc i) (x ∷ xs) (p ∷ ps) x₀ p₀ z₀ l m = each_with-at i xs ps x₀ p₀ z₀ (le_of_suc-le-suc l) (le_of_suc-le-suc m)

  pub each_with-take : (i c : ℕ) (xs : List X) (ps : List Y) → i ≤ c → Far i c xs ps → take i (each_with f xs ps) ≡ each_with f xs (take c ps)
  each_with-take zero c [] ps l far = refl
  each_with-take zero zero (x ∷ xs) ps l far = refl
  each_with-take zero (suc c) (x ∷ xs) [] l far = refl
  each_with-take zero (suc c) (x ∷ xs) (p ∷ ps) l (inl h) = absurd (not-suc-le-zero h)
  each_with-take zero (suc c) (x ∷ xs) (p ∷ ps) l (inr (inl h)) = absurd (not-suc-le-zero h)
  each_with-take zero (suc c) (x ∷ xs) (p ∷ ps) l (inr (inr h)) = absurd (not-suc-le-zero h)
  each_with-take (suc i) c [] ps l far = refl
  each_with-take (suc i) zero (x ∷ xs) ps l far = absurd (not-suc-le-zero l)
  each_with-take (suc i) (suc c) (x ∷ xs) [] l far = refl
  each_with-take (suc i) (suc c) (x ∷ xs) (p ∷ ps) l far =
      ap (λ (t : List Z). f x p ∷ t) (each_with-take i c xs ps (le_of_suc-le-suc l) (nearer i c x xs p ps far))

-- ---- a list written over another

module _ {X : Type 0} where
  pub all_steps-whole : (ys zs : List X) → length ys ≡ length zs → all_steps latter ys zs ≡ zs
  unfolding all_steps
  all_steps-whole [] [] e = refl
  all_steps-whole [] (z ∷ zs) e = absurd (omega arith)
  all_steps-whole (y ∷ ys) [] e = absurd (omega arith)
  all_steps-whole (y ∷ ys) (z ∷ zs) e = ap (λ (l : List X). z ∷ l) (all_steps-whole ys zs (omega arith))

  pub over_first : (bs ys : List X) → length ys ≤ length bs → take (length ys) (all_steps latter bs ys) ≡ ys
  unfolding all_steps
  over_first bs [] l = refl
  over_first [] (y ∷ ys) l = absurd (omega arith)
  over_first (b ∷ bs) (y ∷ ys) l = ap (λ (l : List X). y ∷ l) (over_first bs ys (omega arith))

  pub take-set : (n : ℕ) (l : List X) (k : ℕ) (x : X) → take n (set l k x) ≡ set (take n l) k x
  take-set zero l k x = refl
  take-set (suc n) [] k x = refl
  take-set (suc n) (y ∷ l) zero x = refl
  take-set (suc n) (y ∷ l) (suc k) x = ap (λ (z : List X). y ∷ z) (take-set n l k x)
