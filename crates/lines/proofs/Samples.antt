-- The definition on a sample, by computation: a line of the paper's example.
-- Assumes nothing.
use mathlib.Core.Path.{◌≡◌, refl}
use mathlib.Core.List.{[], ◌∷◌}
use Rattle.decimals.specs.Decimal.{digits_within, digits_of}
use Rattle.decimals.specs.Printing.{record_of}
use Rattle.lines.specs.Lines.{line_of}

-- `2,1,u,0,3,0` CR LF, the paper's second row
second-line : line_of 2 1 117 0 3 0 ≡ 50 ∷ 44 ∷ 49 ∷ 44 ∷ 117 ∷ 44 ∷ 48 ∷ 44 ∷ 51 ∷ 44 ∷ 48 ∷ 13 ∷ 10 ∷ []
unfolding line_of record_of digits_of digits_within
second-line = refl
