-- The definition on samples, by computation: more numbers than marks, no numbers, and a mark with no number left.
-- Assumes nothing.
use mathlib.Core.Path.{◌≡◌, refl}
use mathlib.Core.List.{[], ◌∷◌}
use Rattle.decimals.specs.Decimal.{digits_within, digits_of}
use Rattle.forms.specs.Form.{left_of, form_of}

-- `#,ok,#` with 12, 7 and 300: `12,ok,7,300` CR LF
one-over : form_of (35 ∷ 44 ∷ 111 ∷ 107 ∷ 44 ∷ 35 ∷ []) (12 ∷ 7 ∷ 300 ∷ []) ≡ 49 ∷ 50 ∷ 44 ∷ 111 ∷ 107 ∷ 44 ∷ 55 ∷ 44 ∷ 51 ∷ 48 ∷ 48 ∷ 13 ∷ 10 ∷ []
unfolding form_of left_of digits_of digits_within
one-over = refl

-- `ok` with no numbers: `ok` CR LF
none_at_all : form_of (111 ∷ 107 ∷ []) [] ≡ 111 ∷ 107 ∷ 13 ∷ 10 ∷ []
unfolding form_of left_of
none_at_all = refl

-- `#=#` with 0 alone: `0=` CR LF
one-short : form_of (35 ∷ 61 ∷ 35 ∷ []) (0 ∷ []) ≡ 48 ∷ 61 ∷ 13 ∷ 10 ∷ []
unfolding form_of left_of digits_of digits_within
one-short = refl
