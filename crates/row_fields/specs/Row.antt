-- A row's record (paper: "then 2m fields a row, word and count in turn"; "19: .. a word above 65,535, a count above 255").
-- How many fields a row must have is asked later: here every field is looked at, however many there are.
use Rattle.std.specs.Prelude.{Bool, true, cond, ◌&&◌, Option, Some, None, List, [], ◌∷◌, ℕ, zero, suc, leb, length}
use Rattle.fields.specs.Fields.{well_formed, fields_of}
use Rattle.row_fields.specs.declared.RowFields.{RowFields}

-- the 1st, 3rd, 5th .. of the fields are words, the 2nd, 4th, 6th .. are counts
unfoldable pub words_of : List ℕ → List ℕ
words_of [] = []
words_of (w ∷ []) = w ∷ []
words_of (w ∷ c ∷ rest) = w ∷ words_of rest

unfoldable pub counts_of : List ℕ → List ℕ
counts_of [] = []
counts_of (w ∷ []) = []
counts_of (w ∷ c ∷ rest) = c ∷ counts_of rest

-- no word is above 65,535 and no count above 255
unfoldable pub within_range : List ℕ → Bool
within_range [] = true
within_range (w ∷ []) = leb w 65535
within_range (w ∷ c ∷ rest) = leb w 65535 && (leb c 255 && within_range rest)

-- the first n of a list, with 0 for those that it lacks
unfoldable pub first_ones : ℕ → List ℕ → List ℕ
first_ones zero l = []
first_ones (suc n) [] = 0 ∷ first_ones n []
first_ones (suc n) (x ∷ l) = x ∷ first_ones n l

-- a row of so many fields, these words and these counts
abbrev pub row_with : ℕ → List ℕ → List ℕ → RowFields
row_with n ws cs = record { fields = n; words = ws; counts = cs }

-- a row of these fields
unfoldable pub row_from : List ℕ → RowFields
row_from l = row_with (length l) (first_ones 8 (words_of l)) (first_ones 8 (counts_of l))

-- the row of a record, which is answered 19 where there is none
unfoldable pub row_of : List ℕ → Option RowFields
row_of bytes = cond (well_formed bytes && within_range (fields_of bytes)) (Some (row_from (fields_of bytes))) None
