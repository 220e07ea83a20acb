-- The line of a form as a record of fields, field by field: a mark and a comma are a number's field, text and a comma a field of text, and the text that ends a
-- form is a field before those of the numbers that no mark stands for. By induction on the text and on the numbers. A line so shown costs far less than one that
-- is computed whole. Assumes nothing.
use mathlib.Core.Path.{◌≡◌, refl, sym, ap, ◌∙◌}
use mathlib.Core.Bool.{Bool, true, false, cond, true≢false}
use mathlib.Core.List.{List, [], ◌∷◌, ◌++◌, map, append-nil}
use Prim.Native.Nat.{ℕ}
use lib.Dec.{eqb}
use Rattle.decimals.specs.Decimal.{digits_of}
use Rattle.decimals.specs.Printing.{record_of}
use Rattle.forms.specs.Form.{left_of, form_of}

-- no byte of it is the mark
abbrev pub is_text : List ℕ → Bool
is_text [] = true
is_text (b ∷ text) = cond (eqb b 35) false (is_text text)

no_mark : (marked text : Bool) → cond marked false text ≡ true → (marked ≡ false) × (text ≡ true)
no_mark true text h = absurd (true≢false (sym h))
no_mark false text h = (refl, h)

-- text stands for itself
text-byte : (b : ℕ) (form vs : List ℕ) → eqb b 35 ≡ false → form_of (b ∷ form) vs ≡ b ∷ form_of form vs
unfolding form_of
text-byte b form [] e = rw e
text-byte b form (v ∷ vs) e = rw e

form-text : (text form vs : List ℕ) → is_text text ≡ true → form_of (text ++ form) vs ≡ text ++ form_of form vs
form-text [] form vs h = refl
form-text (b ∷ text) form vs h =
    let w = no_mark (eqb b 35) (is_text text) h in
    text-byte b (text ++ form) vs w.0 ∙ ap (λ (l : List ℕ). b ∷ l) (form-text text form vs w.1)

-- a number's field, and one of text
pub field_number : (form vs : List ℕ) (v : ℕ) → form_of (35 ∷ 44 ∷ form) (v ∷ vs) ≡ digits_of v ++ (44 ∷ form_of form vs)
unfolding form_of
field_number form [] v = refl
field_number form (u ∷ us) v = refl

pub field_text : (text form vs : List ℕ) → is_text text ≡ true → form_of (text ++ (44 ∷ form)) vs ≡ text ++ (44 ∷ form_of form vs)
field_text text form vs h = form-text text (44 ∷ form) vs h ∙ ap (λ (l : List ℕ). text ++ l) (form-text (44 ∷ []) form vs refl)

-- a field and then numbers: the field, and the numbers as the end of a line
record_left : (f : List ℕ) (vs : List ℕ) → record_of (f ∷ map digits_of vs) ≡ f ++ left_of vs
unfolding record_of left_of
record_left f [] = refl
record_left f (v ∷ vs) = rw (record_left (digits_of v) vs)

-- the last text, with the numbers that are left
pub last-text : (text vs : List ℕ) → is_text text ≡ true → form_of text vs ≡ record_of (text ∷ map digits_of vs)
unfolding form_of
last-text text vs h =
    ap (λ (l : List ℕ). form_of l vs) (sym (append-nil text)) ∙ form-text text [] vs h ∙ sym (record_left text vs)

-- `#,word` with a number and then others
pub word-form : (word vs : List ℕ) (k : ℕ) → is_text word ≡ true → form_of (35 ∷ 44 ∷ word) (k ∷ vs) ≡ record_of (digits_of k ∷ word ∷ map digits_of vs)
unfolding record_of
word-form word vs k h = field_number word vs k ∙ ap (λ (l : List ℕ). digits_of k ++ (44 ∷ l)) (last-text word vs h)
