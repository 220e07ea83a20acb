-- The definition on samples, by computation: the first record of the paper's example, and records of one field and of three.
-- Assumes nothing.
use Rattle.std.specs.Prelude.{Some, None}
use mathlib.Core.Path.{◌≡◌, refl}
use mathlib.Core.List.{[], ◌∷◌}
use Rattle.fields.specs.Fields.{onto, parts, every, is_digit, is_field, numeral, well_formed, fields_of}
use Rattle.fields.specs.First.{two_of, first_of}

-- `2,1` as the first record; `2`, and `2,1,0`, are not
two-one : first_of (50 ∷ 44 ∷ 49 ∷ []) ≡ Some (record { m = 2; n = 1 })
unfolding first_of two_of well_formed fields_of parts onto every is_field is_digit numeral
two-one = refl

one-alone : first_of (50 ∷ []) ≡ None
unfolding first_of two_of well_formed fields_of parts onto every is_field is_digit numeral
one-alone = refl

three : first_of (50 ∷ 44 ∷ 49 ∷ 44 ∷ 48 ∷ []) ≡ None
unfolding first_of two_of well_formed fields_of parts onto every is_field is_digit numeral
three = refl
