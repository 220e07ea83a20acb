-- A word in front of a list, as the library's tests of two lists have it: in the front of the list element by element, or all of it.
-- Assumes nothing.
use mathlib.Core.Bool.{Bool, true, false, ◌&&◌, and-false}
use mathlib.Core.Path.{◌≡◌, refl, sym, ◌∙◌}
use mathlib.Core.List.{List, [], ◌∷◌}
use Prim.Native.Nat.{ℕ, suc}
use native.Mathlib.Omega.{arith}
use borrow.Author.Tests.{eq-eqb, ne_eqb, eqb-true, eqb-false}
use lib.Dec.{eqb, eqb-suc-suc}
use lib.ListN.{length, take}
use lib.Pointwise.{pointwise}
use Rattle.prefixes.specs.Prefix.{prefixed}

eqb-flip : (a b : ℕ) → eqb a b ≡ eqb b a
eqb-flip a b = go (eqb a b) refl
  where
    go : (t : Bool) → eqb a b ≡ t → eqb a b ≡ eqb b a
    go true e = e ∙ sym (eq-eqb b a (sym (eqb-true a b e)))
    go false e = e ∙ sym (ne_eqb b a (λ f. eqb-false a b e (sym f)))

pub starts-prefixed : (word l : List ℕ) → pointwise eqb word (take (length word) l) ≡ prefixed word l
unfolding prefixed
starts-prefixed [] l = refl
starts-prefixed (w ∷ word) [] = refl
starts-prefixed (w ∷ word) (b ∷ l) = rw (eqb-flip w b, starts-prefixed word l)

swapped : (a b c : Bool) → (a && (b && c)) ≡ (b && (a && c))
swapped true b c = refl
swapped false b c = sym (and-false b)

pub same-word : (l word : List ℕ) → pointwise eqb l word ≡ (eqb (length l) (length word) && prefixed word l)
unfolding prefixed
same-word [] [] = refl
same-word [] (w ∷ word) = rw (ne_eqb 0 (suc (length word)) (λ e. omega arith))
same-word (b ∷ l) [] = rw (ne_eqb (suc (length l)) 0 (λ e. omega arith))
same-word (b ∷ l) (w ∷ word) =
    rw (same-word l word, eqb-suc-suc (length l) (length word)) (swapped (eqb b w) (eqb (length l) (length word)) (prefixed word l))
