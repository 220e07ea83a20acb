-- The first record (paper: "first `m,n`"; "19: .. a first record missing or without two fields").
use Rattle.std.specs.Prelude.{cond, ◌&&◌, Option, Some, None, List, [], ◌∷◌, ℕ, eqb, length}
use Rattle.fields.specs.Fields.{well_formed, fields_of}
use Rattle.fields.specs.declared.First.{First}

-- two fields, and neither fewer nor more
unfoldable pub two_of : List ℕ → Option First
two_of [] = None
two_of (m ∷ []) = None
two_of (m ∷ n ∷ []) = Some (record { m = m; n = n })
two_of (m ∷ n ∷ k ∷ rest) = None

unfoldable pub first_of : List ℕ → Option First
first_of bytes = cond (well_formed bytes) (two_of (fields_of bytes)) None

-- the paper's number of each answer (0 where there is none), and the values that it carries: m and n
abbrev pub first_answer : Option First → ℕ × List ℕ
first_answer (Some f) = (0, f.m ∷ f.n ∷ [])
first_answer None = (19, [])

-- the same of a record: the numbers of its two fields, or 19
unfoldable pub first_answer_of : List ℕ → ℕ × List ℕ
first_answer_of bytes = cond (well_formed bytes && eqb (length (fields_of bytes)) 2) (0, fields_of bytes) (19, [])
