-- What is written reads back: fields with commas between them are split into the same fields, and numbers written in decimal are read as the same numbers.
-- Assumes nothing.
use mathlib.Core.Bool.{Bool, true, false, ◌&&◌, false≢true}
use mathlib.Core.Path.{◌≡◌, refl, sym, ◌∙◌}
use mathlib.Core.List.{List, [], ◌∷◌, ◌++◌, map, append_assoc}
use Prim.Native.Nat.{ℕ, ◌≤◌}
use native.Mathlib.Omega.{arith}
use borrow.Author.Tests.{ne_eqb, leb-true}
use lib.Dec.{leb}
use Rattle.fields.specs.Fields.{onto, parts, every, is_digit, numeral, fields_of}
use Rattle.decimals.specs.Decimal.{digits_of}
use Rattle.decimals.specs.Printing.{record_of}
use Rattle.decimals.proofs.Decimals.{all_digits, reads_back}

-- fields with a comma between each two; `record_of` adds CR LF
pub commas : List ℕ → List (List ℕ) → List ℕ
commas f [] = f
commas f (g ∷ fs) = f ++ (44 ∷ commas g fs)

pub record_commas : (f : List ℕ) (fs : List (List ℕ)) → record_of (f ∷ fs) ≡ commas f fs ++ (13 ∷ 10 ∷ [])
unfolding record_of commas
record_commas f [] = refl
record_commas f (g ∷ fs) = rw (record_commas g fs) (sym (append_assoc f (44 ∷ commas g fs) (13 ∷ 10 ∷ [])))

-- digits are no commas
both_true : (a b : Bool) → (a && b) ≡ true → (a ≡ true) × (b ≡ true)
both_true true b e = (refl, e)
both_true false b e = absurd (false≢true e)

digit_comma : (b : ℕ) → is_digit b ≡ true → b ≡ 44 → ⊥
unfolding is_digit
digit_comma b e h = let k : 48 ≤ b = leb-true 48 b (both_true (leb 48 b) (leb b 57) e).0 in omega arith

-- digits at the end, and digits in front of a comma, are one part
digits_end : (f : List ℕ) → every is_digit f ≡ true → parts f ≡ f ∷ []
unfolding parts every onto
digits_end [] e = refl
digits_end (b ∷ f) e =
    let d = both_true (is_digit b) (every is_digit f) e in
    rw (ne_eqb b 44 (digit_comma b d.0), digits_end f d.1)

digits_comma : (f l : List ℕ) → every is_digit f ≡ true → parts (f ++ (44 ∷ l)) ≡ f ∷ parts l
unfolding parts every onto
digits_comma [] l e = refl
digits_comma (b ∷ f) l e =
    let d = both_true (is_digit b) (every is_digit f) e in
    rw (ne_eqb b 44 (digit_comma b d.0), digits_comma f l d.1)

-- numbers written with commas between them are split into their digits, and read as the same numbers
pub parts-written : (v : ℕ) (vs : List ℕ) → parts (commas (digits_of v) (map digits_of vs)) ≡ digits_of v ∷ map digits_of vs
unfolding commas
parts-written v [] = digits_end (digits_of v) (all_digits v)
parts-written v (w ∷ vs) = digits_comma (digits_of v) (commas (digits_of w) (map digits_of vs)) (all_digits v) ∙ rw (parts-written w vs)

each_back : (vs : List ℕ) → map numeral (map digits_of vs) ≡ vs
each_back [] = refl
each_back (v ∷ vs) = rw (reads_back v, each_back vs)

pub fields-written : (v : ℕ) (vs : List ℕ) → fields_of (commas (digits_of v) (map digits_of vs)) ≡ v ∷ vs
unfolding fields_of
fields-written v vs = rw (parts-written v vs, reads_back v, each_back vs)
