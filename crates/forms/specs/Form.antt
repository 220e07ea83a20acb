-- A line by its form. Bytes are numbers: the mark `#` is 35, the comma is 44, CR is 13, LF is 10.
use Rattle.std.specs.Prelude.{cond, List, [], ◌∷◌, ◌++◌, ℕ, eqb}
use Rattle.decimals.specs.Decimal.{digits_of}

-- the end of a line: the numbers that are left, with a comma before each, and CR LF
unfoldable pub left_of : List ℕ → List ℕ
left_of [] = 13 ∷ 10 ∷ []
left_of (v ∷ vs) = 44 ∷ digits_of v ++ left_of vs

-- A line by its form: a mark stands for the next of the numbers, any other byte for itself; then comes the end of the line.
-- A mark with no number left stands for nothing.
unfoldable pub form_of : List ℕ → List ℕ → List ℕ
form_of [] vs = left_of vs
form_of (b ∷ form) [] = cond (eqb b 35) (form_of form []) (b ∷ form_of form [])
form_of (b ∷ form) (v ∷ vs) = cond (eqb b 35) (digits_of v ++ form_of form vs) (b ∷ form_of form (v ∷ vs))
