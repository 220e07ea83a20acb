-- A list that a loop maps in place, one element after the other: what it holds after i elements. Assumes nothing.
use mathlib.Core.Path.{◌≡◌, refl, ap}
use mathlib.Core.List.{List, [], ◌∷◌, map}
use Prim.Native.Nat.{ℕ, zero, suc, ◌+◌, ◌≤◌, ◌<◌}
use native.Mathlib.Numerals.{add-one}
use native.Mathlib.Nat.{not-suc-le-zero, le_of_suc-le-suc}
use lib.ListN.{length, get_or, set}

module _ {A : Type 0} (f : A → A) where
  abbrev pub mapped_to : ℕ → List A → List A
  mapped_to zero l = l
  mapped_to (suc i) [] = []
  mapped_to (suc i) (x ∷ l) = f x ∷ mapped_to i l

  mapped_suc : (i : ℕ) (l : List A) (d : A) → i < length l → set (mapped_to i l) i (f (get_or l i d)) ≡ mapped_to (suc i) l
  mapped_suc i [] d h = absurd (not-suc-le-zero h)
  mapped_suc zero (x ∷ l) d h = refl
  mapped_suc (suc i) (x ∷ l) d h = ap (λ (t : List A). f x ∷ t) (mapped_suc i l d (le_of_suc-le-suc h))

  -- one element more
  pub mapped_more : (i : ℕ) (l : List A) (d : A) → i < length l → set (mapped_to i l) i (f (get_or l i d)) ≡ mapped_to (i + 1) l
  mapped_more i l d h = rw add-one (mapped_suc i l d h)

  pub mapped_all : (i : ℕ) (l : List A) → length l ≤ i → mapped_to i l ≡ map f l
  mapped_all zero [] h = refl
  mapped_all zero (x ∷ l) h = absurd (not-suc-le-zero h)
  mapped_all (suc i) [] h = refl
  mapped_all (suc i) (x ∷ l) h = ap (λ (t : List A). f x ∷ t) (mapped_all i l (le_of_suc-le-suc h))
