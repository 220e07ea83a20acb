-- The definition on samples, by computation: a row of the paper's example, and two that break the form.
-- Assumes nothing.
use Rattle.std.specs.Prelude.{Some, None}
use mathlib.Core.Path.{◌≡◌, refl}
use mathlib.Core.List.{[], ◌∷◌}
use Rattle.fields.specs.Fields.{onto, parts, every, is_digit, is_field, numeral, well_formed, fields_of}
use Rattle.row_fields.specs.Row.{words_of, counts_of, within_range, first_ones, row_from, row_of}

-- `63,1,95,3`: four fields; `0,256` and an empty record: 19
third-row : row_of (54 ∷ 51 ∷ 44 ∷ 49 ∷ 44 ∷ 57 ∷ 53 ∷ 44 ∷ 51 ∷ []) ≡ Some (row_from (63 ∷ 1 ∷ 95 ∷ 3 ∷ []))
unfolding row_of row_from within_range words_of counts_of first_ones well_formed fields_of parts onto every is_field is_digit numeral
third-row = refl

count-over : row_of (48 ∷ 44 ∷ 50 ∷ 53 ∷ 54 ∷ []) ≡ None
unfolding row_of within_range well_formed fields_of parts onto every is_field is_digit numeral
count-over = refl

empty_record : row_of [] ≡ None
unfolding row_of within_range well_formed fields_of parts onto every is_field is_digit numeral
empty_record = refl
