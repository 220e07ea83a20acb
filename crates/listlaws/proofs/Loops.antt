-- A loop that goes through a list from its front: what is left after i elements, and how the tests and sums over what is left fall by the next element. So a
-- loop's invariant is that what it holds, with the test or sum over the rest, makes that over the whole list. Assumes nothing.
use mathlib.Core.Path.{◌≡◌, ap, ◌∙◌}
use mathlib.Core.Bool.{Bool, true, false}
use mathlib.Core.List.{List, [], ◌∷◌}
use Prim.Native.Nat.{ℕ, suc, ◌+◌, ◌-◌, ◌≤◌, ◌<◌}
use native.Mathlib.Nat.{zero-add}
use native.Mathlib.Numerals.{add-one}
use native.Mathlib.Omega.{arith}
use lib.ListN.{length, get_or, take, drop, drop_of_length-le, length-drop}
use lib.Seq.{drop-cons, get_or-take, length-take-le, take_all}
use Rattle.std.specs.List.{list_all}
use Rattle.listlaws.specs.Lists.{each_pair, sum_of, count_of}

-- ---- the first n of a list, element by element

module _ {A : Type 0} (l : List A) (n : ℕ) (w : n ≤ length l) where
  -- the next of the first n
  pub first_rest : (i : ℕ) (d : A) → i < n → drop i (take n l) ≡ get_or l i d ∷ drop (i + 1) (take n l)
  first_rest i d h =
      rw add-one
      (drop-cons (take n l) i d (rw (length-take-le n l w) h)
      ∙ ap (λ (x : A). x ∷ drop (suc i) (take n l)) (get_or-take n l i d h))

  pub first-none : (i : ℕ) → n ≤ i → drop i (take n l) ≡ []
  first-none i h = let k : length (take n l) ≤ i = rw (length-take-le n l w) h in drop_of_length-le (take n l) k

-- ---- the next element of a list, and a lent list's part from a place to its end

module _ {A : Type 0} where
  pub rest : (l : List A) (i : ℕ) (d : A) → i < length l → drop i l ≡ get_or l i d ∷ drop (i + 1) l
  rest l i d h = rw add-one (drop-cons l i d h)

  pub to_end : (l : List A) (k : ℕ) → take (length l - k) (drop k l) ≡ drop k l
  to_end l k = take_all (length l - k) (drop k l) (rw length-drop (omega arith))

-- ---- tests and sums over what is left

module _ {A : Type 0} {l r : List A} {x : A} (e : l ≡ x ∷ r) where
  pub each_next : (test : A → Bool) → test x ≡ true → list_all test l ≡ list_all test r
  each_next test h = rw (e, h)

  pub each_stop : (test : A → Bool) → test x ≡ false → list_all test l ≡ false
  each_stop test h = rw (e, h)

  pub pairs_next : (test : A → A → Bool) → list_all (test x) r ≡ true → each_pair test l ≡ each_pair test r
  pairs_next test h = rw (e, h)

  pub pairs_stop : (test : A → A → Bool) → list_all (test x) r ≡ false → each_pair test l ≡ false
  pairs_stop test h = rw (e, h)

  pub sum-next : (f : A → ℕ) → sum_of f l ≡ f x + sum_of f r
  sum-next f = rw e

  pub count-one : (test : A → Bool) → test x ≡ true → count_of test l ≡ 1 + count_of test r
  count-one test h = rw (e, h)

  pub count_same : (test : A → Bool) → test x ≡ false → count_of test l ≡ count_of test r
  count_same test h = rw (e, h) (zero-add (count_of test r))
