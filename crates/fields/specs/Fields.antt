-- The fields of a record (paper: "comma-separated records", "a field is 1 to 5 digits; records have at most 128 bytes before CR LF").
-- Bytes are numbers: the comma is 44, the digits are 48 to 57.
use Rattle.std.specs.Prelude.{Bool, true, cond, ◌&&◌, ℕ, ◌+◌, ◌*◌, ◌-◌, eqb, leb, length}
use mathlib.Core.List.{List, [], ◌∷◌, map, foldl}

-- a byte in front of the first part
unfoldable pub onto : ℕ → List (List ℕ) → List (List ℕ)
onto b [] = (b ∷ []) ∷ []
onto b (p ∷ ps) = (b ∷ p) ∷ ps

-- the bytes between the commas: one part more than there are commas
unfoldable pub parts : List ℕ → List (List ℕ)
parts [] = [] ∷ []
parts (b ∷ rest) = cond (eqb b 44) ([] ∷ parts rest) (onto b (parts rest))

-- a test that each element passes
unfoldable pub every : {A : Type 0} → (A → Bool) → List A → Bool
every f [] = true
every f (x ∷ l) = f x && every f l

unfoldable pub is_digit : ℕ → Bool
is_digit b = leb 48 b && leb b 57

-- 1 to 5 digits
unfoldable pub is_field : List ℕ → Bool
is_field p = leb 1 (length p) && (leb (length p) 5 && every is_digit p)

-- the number so far, and one digit more
abbrev pub tenfold : ℕ → ℕ → ℕ
tenfold v b = v * 10 + (b - 48)

-- the number that digits write in decimal
unfoldable pub numeral : List ℕ → ℕ
numeral p = foldl tenfold 0 p

-- whether a record keeps to the form; one that does not is answered 19
unfoldable pub well_formed : List ℕ → Bool
well_formed bytes = leb (length bytes) 128 && every is_field (parts bytes)

-- the numbers of a record's fields, in order
unfoldable pub fields_of : List ℕ → List ℕ
fields_of bytes = map numeral (parts bytes)
