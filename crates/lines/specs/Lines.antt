-- The lines that are written (paper: "The header comes first; each row prints slot number, group, turn (u, l, r or o), then H, N and RQ";
-- "lines end in CR LF"). Bytes are numbers: letters are ASCII.
use Rattle.std.specs.Prelude.{List, [], ◌∷◌, ℕ}
use Rattle.decimals.specs.Decimal.{digits_of}
use Rattle.decimals.specs.Printing.{record_of}

-- `slot,group,turn,H,N,RQ` of a row; `turn` is the letter
unfoldable pub line_of : ℕ → ℕ → ℕ → ℕ → ℕ → ℕ → List ℕ
line_of slot group turn urgent long resolution =
    record_of
    (digits_of slot ∷ digits_of group ∷ (turn ∷ []) ∷ digits_of urgent ∷ digits_of long ∷ digits_of resolution ∷ [])

-- `slot,group,turn,H,N,RQ` in these letters
unfoldable pub header_of : List ℕ
header_of =
    record_of
    (
    (115 ∷ 108 ∷ 111 ∷ 116 ∷ [])
    ∷ (103 ∷ 114 ∷ 111 ∷ 117 ∷ 112 ∷ [])
    ∷ (116 ∷ 117 ∷ 114 ∷ 110 ∷ [])
    ∷ (72 ∷ [])
    ∷ (78 ∷ [])
    ∷ (82 ∷ 81 ∷ [])
    ∷ []
    )
