-- The definition on a sample, by computation.
-- Assumes nothing.
use mathlib.Core.Path.{◌≡◌, refl}
use mathlib.Core.List.{[], ◌∷◌}
use Rattle.decimals.specs.Decimal.{digits_within, digits_of}
use Rattle.decimals.specs.Printing.{record_of}
use Rattle.refusals.specs.Refusal.{refusal_of}

-- `refused,19,10` CR LF
refused-line : refusal_of 19 10 ≡ 114 ∷ 101 ∷ 102 ∷ 117 ∷ 115 ∷ 101 ∷ 100 ∷ 44 ∷ 49 ∷ 57 ∷ 44 ∷ 49 ∷ 48 ∷ 13 ∷ 10 ∷ []
unfolding refusal_of record_of digits_of digits_within
refused-line = refl
