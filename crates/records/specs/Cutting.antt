-- Where a record of the input ends (paper: "comma-separated records (RFC 4180, no quotes, CR LF, last one optional)",
-- "records have at most 128 bytes before CR LF"). How many bytes a record may have is each program's: `longest`. Bytes are numbers: CR is
-- 13, LF is 10.
use Rattle.std.specs.Prelude.{Bool, true, false, cond, not, ◌||◌, List, [], ◌∷◌, ℕ, zero, suc, ◌+◌, eqb, ltb, length, drop}
use Rattle.records.specs.declared.Cut.{Cut}
use Rattle.records.specs.declared.Cut.TheVariants.{Record, More, Done, Broken}

-- A CR stands at place `at`, with `rest` after it: LF ends the record; any other byte, or the input's end, breaks it.
unfoldable pub after_return : Bool → ℕ → List ℕ → Cut
after_return ended at [] = cond ended Broken More
after_return ended at (b ∷ rest) = cond (eqb b 10) (Record at (at + 2)) Broken

-- The record goes on at place `at` with the bytes `rest`, and may have `room` more of them before its CR LF.
-- The input's end ends it too, as the last CR LF is optional. An LF with no CR before it breaks it, and so does a byte too many.
unfoldable pub goes_on : Bool → ℕ → ℕ → List ℕ → Cut
goes_on ended at room [] = cond ended (Record at at) More
goes_on ended at zero (b ∷ rest) = cond (eqb b 13) (after_return ended at rest) Broken
goes_on ended at (suc room) (b ∷ rest) =
    cond (eqb b 13) (after_return ended at rest)
    (cond (eqb b 10) Broken
    (goes_on ended (at + 1) room rest))

-- The record that begins at place `at`, where `rest` stands: none where the input has ended; else one of `longest` bytes at most.
unfoldable pub begins : ℕ → Bool → ℕ → List ℕ → Cut
begins longest ended at [] = cond ended Done More
begins longest ended at (b ∷ rest) = goes_on ended at longest (b ∷ rest)

-- The record that begins at place `start` of `bytes`; `ended`: no byte comes after them.
unfoldable pub cut_of : ℕ → List ℕ → ℕ → Bool → Cut
cut_of longest bytes start ended = begins longest ended start (drop start bytes)

-- The paper's number of each answer (0 where there is none), and the places that it carries: where the record ends, and where the next
-- begins.
abbrev pub cut_answer : Cut → ℕ × List ℕ
cut_answer (Record end next) = (0, end ∷ next ∷ [])
cut_answer More = (0, [])
cut_answer Done = (0, [])
cut_answer Broken = (19, [])

-- The bytes before the first CR or LF.
unfoldable pub before_end : List ℕ → List ℕ
before_end [] = []
before_end (b ∷ rest) = cond (eqb b 13) [] (cond (eqb b 10) [] (b ∷ before_end rest))

-- What stands after those bytes breaks the record: an LF with no CR before it, or a CR with no LF after it.
unfoldable pub bad_end : Bool → List ℕ → Bool
bad_end ended [] = false
bad_end ended (b ∷ []) = cond (eqb b 13) ended true
bad_end ended (b ∷ c ∷ rest) = cond (eqb b 13) (not (eqb c 10)) true

-- The number of the record that begins at place `start`: 19 where it has more than `longest` bytes or ends badly.
unfoldable pub cut_number_of : ℕ → List ℕ → ℕ → Bool → ℕ
cut_number_of longest bytes start ended =
    let rest = drop start bytes in
    let size = length (before_end rest) in
    cond (ltb longest size || bad_end ended (drop size rest)) 19 0
