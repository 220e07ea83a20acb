-- Reading a minislot (paper 01, "Reading"; paper 02, T-01, for clicks): by the number of ones of its word, and by its count. Assumes
-- nothing.
use Rattle.std.specs.Prelude.{cond, not, ◌&&◌, List, [], ◌∷◌, ℕ, eqb, ltb}
use Rattle.std.specs.Int.Count.{ones}
use Rattle.pattern.specs.Patterns.{index_of}
use Rattle.minislot.specs.declared.Feedback.{Feedback}
use Rattle.minislot.specs.declared.Feedback.TheVariants.{Empty, Single, Collide}
use Rattle.minislot.specs.declared.Reading.{Reading}
use Rattle.minislot.specs.declared.Reading.TheVariants.{Heard, Refused}

-- six ones: Single, which carries the pattern's index and the count; 3 with count 0
abbrev pub single_of : ℕ → ℕ → Reading
single_of word count = cond (eqb count 0) (Refused 3) (Heard (Single (index_of word) count))

-- no ones: Empty; 4 with a count above 0
abbrev pub empty_of : ℕ → Reading
empty_of count = cond (eqb count 0) (Heard Empty) (Refused 4)

-- 1: a one above bit 11; none: Empty; one to five, a click: Collide; six: Single; seven to twelve: Collide. A Collide's count is ignored
unfoldable pub reading_of : ℕ → ℕ → Reading
reading_of word count =
    cond (ltb 4095 word) (Refused 1)
    (cond (eqb (ones word) 0) (empty_of count)
    (cond (ltb (ones word) 6) (Heard Collide)
    (cond (eqb (ones word) 6) (single_of word count)
    (Heard Collide))))

-- the paper's number of each case, 0 where the minislot is heard, and what is heard with it
abbrev pub reading_answer : Reading → ℕ × List Feedback
reading_answer (Heard f) = (0, f ∷ [])
reading_answer (Refused n) = (n, [])

abbrev pub number_of : Reading → ℕ
number_of r = (reading_answer r).0

-- the number of a word and a count, in the paper's order. 1: a one above bit 11. 3: Single with count 0. 4: Empty with count above 0
abbrev pub reading_number_of : ℕ → ℕ → ℕ
reading_number_of word count =
    cond (ltb 4095 word) 1
    (cond (eqb (ones word) 6 && eqb count 0) 3
    (cond (eqb (ones word) 0 && not (eqb count 0)) 4
    0))

-- what is heard where the number is 0: no ones Empty, six ones Single, any other number of them Collide
abbrev pub heard_of : ℕ → ℕ → Feedback
heard_of word count = cond (eqb (ones word) 0) Empty (cond (eqb (ones word) 6) (Single (index_of word) count) Collide)

unfoldable pub reading_answer_of : ℕ → ℕ → ℕ × List Feedback
reading_answer_of word count = (reading_number_of word count, cond (eqb (reading_number_of word count) 0) (heard_of word count ∷ []) [])
