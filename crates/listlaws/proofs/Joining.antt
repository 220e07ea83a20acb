-- Sums and gathered lists of two lists joined, or of one element more; tests of what the elements of a list hold. Assumes nothing.
use mathlib.Core.Path.{◌≡◌, refl, sym, ap, ◌∙◌}
use mathlib.Core.Bool.{Bool}
use mathlib.Core.List.{List, [], ◌∷◌, ◌++◌, map, append_assoc, append-nil}
use Prim.Native.Nat.{ℕ, suc, ◌+◌, ◌<◌}
use native.Mathlib.Omega.{arith}
use lib.ListN.{length, get_or, take}
use lib.Seq.{take-suc}
use Rattle.std.specs.List.{list_all, flat_map}
use Rattle.listlaws.specs.Lists.{each_pair, sum_of}

pub sum-append : {A : Type 0} (f : A → ℕ) (a b : List A) → sum_of f (a ++ b) ≡ sum_of f a + sum_of f b
sum-append f [] b = omega arith
sum-append f (x ∷ a) b = omega (arith, sum-append f a b)

module _ {A B : Type 0} (f : A → List B) where
  pub gather_append : (a b : List A) → flat_map f (a ++ b) ≡ flat_map f a ++ flat_map f b
  gather_append [] b = refl
  gather_append (x ∷ a) b = ap (λ (l : List B). f x ++ l) (gather_append a b) ∙ sym (append_assoc (f x) (flat_map f a) (flat_map f b))

  pub gather-last : (a : List A) (x : A) → flat_map f (a ++ (x ∷ [])) ≡ flat_map f a ++ f x
  gather-last a x = gather_append a (x ∷ []) ∙ ap (λ (l : List B). flat_map f a ++ l) (append-nil (f x))

  pub gather-more : (l : List A) (k : ℕ) (d : A) → k < length l → flat_map f (take (suc k) l) ≡ flat_map f (take k l) ++ f (get_or l k d)
  gather-more l k d h = ap (flat_map f) (take-suc l k d h) ∙ gather-last (take k l) (get_or l k d)

module _ {A B : Type 0} (f : A → B) where
  pub each_map : (test : B → Bool) (l : List A) → list_all test (map f l) ≡ list_all (λ (x : A). test (f x)) l
  each_map test [] = refl
  each_map test (x ∷ l) = rw (each_map test l)

  pub pairs-map : (test : B → B → Bool) (l : List A) → each_pair test (map f l) ≡ each_pair (λ (x y : A). test (f x) (f y)) l
  pairs-map test [] = refl
  pairs-map test (x ∷ l) = rw (each_map (test (f x)) l, pairs-map test l)
