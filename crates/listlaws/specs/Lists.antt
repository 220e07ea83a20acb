-- Tests and sums over a list, as the rules of a table use them; the library has more (`list_all`, `flat_map`). Assumes nothing.
use Rattle.std.specs.List.{list_all}
use Rattle.std.specs.Prelude.{Bool, true, false, ◌&&◌, cond, List, [], ◌∷◌, ◌++◌, ℕ, zero, suc, ◌+◌, ◌-◌, length, replicate}

module _ {A : Type 0} where
  -- every two elements, the earlier first, pass a test
  abbrev pub each_pair : (A → A → Bool) → List A → Bool
  each_pair test [] = true
  each_pair test (x ∷ l) = list_all (test x) l && each_pair test l

module _ {ℓ} {A : Type ℓ} where
  -- a number for each element, summed
  abbrev pub sum_of : (A → ℕ) → List A → ℕ
  sum_of f [] = 0
  sum_of f (x ∷ l) = f x + sum_of f l

  -- 1 if a test holds, 0 if not; how many elements pass a test
  abbrev pub count_of : (A → Bool) → List A → ℕ
  count_of test [] = 0
  count_of test (x ∷ l) = cond (test x) 1 0 + count_of test l

  -- the list if a test holds
  abbrev pub only_if : Bool → List A → List A
  only_if true l = l
  only_if false l = []

  abbrev pub keep_if : Bool → A → List A → List A
  keep_if true x l = x ∷ l
  keep_if false x l = l

  -- an array of n elements that holds a list in its front and d behind it
  abbrev pub padded : ℕ → A → List A → List A
  padded n d l = l ++ replicate (n - length l) d

  -- the list of f at 0, 1, .. below n
  abbrev pub tabulate : ℕ → (ℕ → A) → List A
  tabulate zero f = []
  tabulate (suc n) f = f 0 ∷ tabulate n (λ i. f (suc i))
