-- The private steps on the way to `line_of`: what the writers of a line's two halves write.
use Rattle.std.specs.Prelude.{List, [], ◌∷◌, ◌++◌, ℕ}
use Rattle.decimals.specs.Printing.{field_bytes}

-- `slot,group,turn,`
unfoldable pub slot_bytes : ℕ → ℕ → ℕ → List ℕ
slot_bytes slot group turn = field_bytes slot 44 ++ field_bytes group 44 ++ (turn ∷ []) ++ (44 ∷ [])

-- `H,N,RQ` CR LF
unfoldable pub counter_bytes : ℕ → ℕ → ℕ → List ℕ
counter_bytes urgent long resolution = field_bytes urgent 44 ++ field_bytes long 44 ++ field_bytes resolution 13 ++ (10 ∷ [])
