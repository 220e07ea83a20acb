-- The definition on samples, by computation: what is read from a place of a record on, and three lists that are answered 19.
-- Assumes nothing.
use Rattle.std.specs.Prelude.{Some, None}
use mathlib.Core.Path.{◌≡◌, refl}
use mathlib.Core.List.{[], ◌∷◌}
use lib.ListN.{drop}
use Rattle.fields.specs.Fields.{onto, parts, every, is_digit, is_field, numeral}
use Rattle.number_lists.specs.NumberList.{is_number, list_with, list_of}

-- `5,12,300` from its third byte on
two-numbers : list_of 300 (parts (drop 2 (53 ∷ 44 ∷ 49 ∷ 50 ∷ 44 ∷ 51 ∷ 48 ∷ 48 ∷ []))) ≡ Some (list_with (12 ∷ 300 ∷ []))
unfolding list_of is_number parts onto every is_field is_digit numeral
two-numbers = refl

-- the same with 300 above the most that a number may be; `7,` and nothing behind the comma; a place past the end
above : list_of 299 (parts (drop 2 (53 ∷ 44 ∷ 49 ∷ 50 ∷ 44 ∷ 51 ∷ 48 ∷ 48 ∷ []))) ≡ None
unfolding list_of is_number parts onto every is_field is_digit numeral
above = refl

comma_last : list_of 300 (parts (55 ∷ 44 ∷ [])) ≡ None
unfolding list_of is_number parts onto every is_field is_digit numeral
comma_last = refl

past_end : list_of 300 (parts (drop 9 (55 ∷ []))) ≡ None
unfolding list_of is_number parts onto every is_field is_digit numeral
past_end = refl
