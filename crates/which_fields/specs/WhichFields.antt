-- The index and the record's name of a commit and of a withdrawal, by the parts between a record's commas. An index that its parameter
-- can't hold (above 65,535) breaks the record, as a part that is no number does, and so does a name that is neither `short` nor `long`: it
-- is answered 19. Assumes nothing.
use Rattle.std.specs.Prelude.{cond, Option, Some, None, List, [], ◌∷◌, ℕ}
use Rattle.fields.specs.Fields.{numeral}
use Rattle.number_lists.specs.NumberList.{is_number}
use Rattle.prefixes.specs.Prefix.{is_word}
use Rattle.rules.specs.declared.Which.TheVariants.{ShortOne, LongOne}
use Rattle.which_fields.specs.declared.WhichFields.{WhichFields}

-- `short` and `long`
abbrev pub short_name : List ℕ
short_name = 115 ∷ 104 ∷ 111 ∷ 114 ∷ 116 ∷ []

abbrev pub long_name : List ℕ
long_name = 108 ∷ 111 ∷ 110 ∷ 103 ∷ []

-- the record of this name
unfoldable pub named : ℕ → List ℕ → Option WhichFields
named index name =
    cond (is_word short_name name) (Some (record { index = index; which = ShortOne }))
    (cond (is_word long_name name) (Some (record { index = index; which = LongOne }))
    None)

-- A COMMIT OR A WITHDRAWAL: two parts, the index and the record's name
unfoldable pub which_in : List (List ℕ) → Option WhichFields
which_in [] = None
which_in (i ∷ []) = None
which_in (i ∷ w ∷ []) = cond (is_number 65535 i) (named (numeral i) w) None
which_in (i ∷ w ∷ c ∷ ps) = None
