-- A row as it is heard: the words and the counts of the wire's minislots, and what a row's reading holds. How a row is read (each
-- minislot's reading, the first refused one's number, the feedback) is minislot's. Assumes nothing.
use Rattle.std.specs.Prelude.{List, map, ℕ, ◌≤◌, get_or, take}
use Rattle.minislot.specs.declared.Minislot.{Minislot}
use Rattle.minislot.specs.declared.Feedback.{Feedback}
use Rattle.minislot.specs.declared.Feedback.TheVariants.{Empty, Single, Collide}
use Rattle.minislot.specs.declared.RowReading.{RowReading}
use Rattle.rows.specs.Row.{feedback_in}

abbrev pub words_of : List Minislot → List ℕ
words_of row = map (λ (s : Minislot). s.word) row

abbrev pub counts_of : List Minislot → List ℕ
counts_of row = map (λ (s : Minislot). s.count) row

-- the feedback of a row that was read: the first m of its array
abbrev pub feedback_of : ℕ → RowReading → List Feedback
feedback_of m row = take m (feedback_in row.minislots)

-- a Single counts one slot or more
abbrev pub Counted : Feedback → Type 0
Counted Empty = Unit {0}
Counted (Single i c) = 1 ≤ c
Counted Collide = Unit {0}

-- what holds of a row of m minislots that was read: its Singles count one slot or more
pub record ReadRow (m : ℕ) (row : RowReading) : Type 0 where
  pub counted : (k : ℕ) → Counted (get_or (feedback_of m row) k Empty)
