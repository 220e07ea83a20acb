-- The line of a form, piece by piece: what stands at a place of the form and a place of the numbers, and what comes after it; and how much room is left
-- behind a piece. Each law opens the definition at that place.
-- Assumes nothing.
use mathlib.Core.Bool.{Bool, true, false}
use mathlib.Core.Path.{◌≡◌, refl, sym, ap, ◌∙◌}
use mathlib.Core.List.{List, [], ◌∷◌, ◌++◌}
use Prim.Native.Nat.{ℕ, ◌+◌, ◌-◌, ◌<◌, ◌≤◌}
use native.Mathlib.Omega.{arith}
use borrow.Author.Tests.{eq-eqb, ne_eqb, le-leb, lt-leb, leb-true, leb-false}
use lib.Dec.{leb}
use lib.ListN.{length, get_or, drop, length-append, drop_of_length-le}
use Rattle.decimals.specs.Decimal.{digits_of}
use Rattle.listlaws.proofs.Loops.{rest}
use Rattle.forms.specs.Form.{left_of, form_of}

-- ---- the end of a line

module _ (vs : List ℕ) (i : ℕ) where
  pub left-none : length vs ≤ i → left_of (drop i vs) ≡ 13 ∷ 10 ∷ []
  unfolding left_of
  left-none h = rw (drop_of_length-le vs h)

  pub left-next : i < length vs → left_of (drop i vs) ≡ 44 ∷ digits_of (get_or vs i 0) ++ left_of (drop (i + 1) vs)
  unfolding left_of
  left-next h = rw (rest vs i 0 h)

  pub left-size : i < length vs → length (left_of (drop i vs)) ≡ length (digits_of (get_or vs i 0)) + 1 + length (left_of (drop (i + 1) vs))
  left-size h = ap length (left-next h) ∙ rw length-append (omega arith)

-- ---- the line from place j of the form on

module _ (form : List ℕ) (j : ℕ) where
  pub form_end : (vs : List ℕ) → length form ≤ j → form_of (drop j form) vs ≡ left_of vs
  unfolding form_of
  form_end vs h = rw (drop_of_length-le form h)

  plain : (b : ℕ) (l vs : List ℕ) → (b ≡ 35 → ⊥) → form_of (b ∷ l) vs ≡ b ∷ form_of l vs
  unfolding form_of
  plain b l [] n = rw (ne_eqb b 35 n)
  plain b l (v ∷ vs) n = rw (ne_eqb b 35 n)

  pub form-byte : (vs : List ℕ) → j < length form → (get_or form j 0 ≡ 35 → ⊥) → form_of (drop j form) vs ≡ get_or form j 0 ∷ form_of (drop (j + 1) form) vs
  form-byte vs h n = rw (rest form j 0 h) (plain (get_or form j 0) (drop (j + 1) form) vs n)

  module _ (vs : List ℕ) (i : ℕ) (h : j < length form) (e : get_or form j 0 ≡ 35) where
    pub form-number : i < length vs → form_of (drop j form) (drop i vs) ≡ digits_of (get_or vs i 0) ++ form_of (drop (j + 1) form) (drop (i + 1) vs)
    unfolding form_of
    form-number k = rw (rest form j 0 h, rest vs i 0 k, eq-eqb (get_or form j 0) 35 e)

    pub number_size : i < length vs
        → length (form_of (drop j form) (drop i vs)) ≡ length (digits_of (get_or vs i 0)) + length (form_of (drop (j + 1) form) (drop (i + 1) vs))
    number_size k = ap length (form-number k) ∙ length-append (digits_of (get_or vs i 0)) (form_of (drop (j + 1) form) (drop (i + 1) vs))

    pub form_nothing : length vs ≤ i → form_of (drop j form) (drop i vs) ≡ form_of (drop (j + 1) form) (drop i vs)
    unfolding form_of
    form_nothing k = rw (rest form j 0 h, drop_of_length-le vs k, eq-eqb (get_or form j 0) 35 e)

-- ---- room, with a piece of c bytes taken from it

pub room-less : (a b c n : ℕ) → n ≡ c + a → c ≤ b → leb a (b - c) ≡ leb n b
room-less a b c n e h = go (leb a (b - c)) refl
  where
    go : (t : Bool) → leb a (b - c) ≡ t → leb a (b - c) ≡ leb n b
    go true f = let k : a ≤ b - c = leb-true _ _ f in f ∙ sym (le-leb n b (omega arith))
    go false f = let k : b - c < a = leb-false _ _ f in f ∙ sym (lt-leb n b (omega arith))
