-- The line of a refusal (paper: "a refusal prints `refused,number,record`"; "lines end in CR LF"). Bytes are numbers: letters are ASCII.
use Rattle.std.specs.Prelude.{List, [], ◌∷◌, ℕ}
use Rattle.decimals.specs.Decimal.{digits_of}
use Rattle.decimals.specs.Printing.{record_of}

-- `refused,number,record`
unfoldable pub refusal_of : ℕ → ℕ → List ℕ
refusal_of number place = record_of ((114 ∷ 101 ∷ 102 ∷ 117 ∷ 115 ∷ 101 ∷ 100 ∷ []) ∷ digits_of number ∷ digits_of place ∷ [])
