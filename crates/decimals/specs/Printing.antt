-- What lines are made of: fields with commas between them, and numbers. Bytes are numbers: the comma is 44, CR is 13, LF is 10.
use Rattle.std.specs.Prelude.{List, [], ◌∷◌, ◌++◌, ℕ}
use Rattle.decimals.specs.Decimal.{digits_of}

-- fields with a comma between each two, and CR LF at the end
unfoldable pub record_of : List (List ℕ) → List ℕ
record_of [] = 13 ∷ 10 ∷ []
record_of (f ∷ []) = f ++ (13 ∷ 10 ∷ [])
record_of (f ∷ g ∷ fs) = f ++ (44 ∷ record_of (g ∷ fs))

-- a number and one byte after it
abbrev pub field_bytes : ℕ → ℕ → List ℕ
field_bytes value after = digits_of value ++ (after ∷ [])
