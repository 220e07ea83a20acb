-- Reading a row (paper: the m minislots heard from a group's last slot): 6, then the first bad minislot's number, else its weight and each
-- minislot's feedback. A row is heard as a list of words and a list of counts, maybe a stretch of a longer recording.
-- Assumes nothing.
use Rattle.std.specs.Prelude.{Bool, cond, ◌&&◌, List, [], ◌∷◌, map, ℕ, zero, suc, ◌+◌, eqb, leb, length, take, drop}
use Rattle.minislot.specs.declared.Feedback.{Feedback}
use Rattle.minislot.specs.declared.Feedback.TheVariants.{Empty, Single, Collide}
use Rattle.minislot.specs.declared.Reading.{Reading}
use Rattle.minislot.specs.declared.Reading.TheVariants.{Heard, Refused}
use Rattle.minislot.specs.declared.MinislotFeedback.{MinislotFeedback}
use Rattle.minislot.specs.declared.RowReading.{RowReading}
use Rattle.minislot.specs.Reading.{reading_of}

-- each minislot's reading, its word and its count taken together
unfoldable pub readings : List ℕ → List ℕ → List Reading
readings [] counts = []
readings (w ∷ words) [] = []
readings (w ∷ words) (c ∷ counts) = reading_of w c ∷ readings words counts

-- the number of the first refused minislot, 0 if there is none
unfoldable pub first_number : List Reading → ℕ
first_number [] = 0
first_number (Heard f ∷ l) = first_number l
first_number (Refused n ∷ l) = n

-- the feedback of the minislots that are heard
unfoldable pub feedbacks : List Reading → List Feedback
feedbacks [] = []
feedbacks (Heard f ∷ l) = f ∷ feedbacks l
feedbacks (Refused n ∷ l) = feedbacks l

-- the weight of a row: the number of Singles plus twice the number of Collides
abbrev pub weight_of : Feedback → ℕ
weight_of Empty = 0
weight_of (Single i c) = 1
weight_of Collide = 2

unfoldable pub weight : List Feedback → ℕ
weight [] = 0
weight (f ∷ l) = weight_of f + weight l

-- a list of feedback as an array of n holds it: Empty where the list has ended
unfoldable pub padded : ℕ → List Feedback → List MinislotFeedback
padded zero l = []
padded (suc n) [] = record { feedback = Empty } ∷ padded n []
padded (suc n) (f ∷ l) = record { feedback = f } ∷ padded n l

-- the feedback that an array holds
abbrev pub feedback_in : List MinislotFeedback → List Feedback
feedback_in l = map (λ (x : MinislotFeedback). x.feedback) l

-- a row's answer: its number, and where that is 0 its weight and feedback
abbrev pub row_answer : ℕ → List Feedback → RowReading
row_answer zero l = record { number = 0; weight = weight l; minislots = padded 8 l }
row_answer (suc n) l = record { number = suc n; weight = 0; minislots = padded 8 [] }

-- 1, 3 or 4 for the first bad minislot, else all of them
unfoldable pub minislots_of : List ℕ → List ℕ → RowReading
minislots_of words counts = row_answer (first_number (readings words counts)) (feedbacks (readings words counts))

-- a slot has 2 to 8 minislots, and this row has as many
abbrev pub has_minislots : ℕ → List ℕ → List ℕ → Bool
has_minislots m words counts = leb 2 m && leb m 8 && eqb (length words) m && eqb (length counts) m

-- 6: the row has not m minislots
unfoldable pub row_of : ℕ → List ℕ → List ℕ → RowReading
row_of m words counts = cond (has_minislots m words counts) (minislots_of words counts) (row_answer 6 [])

-- the row that begins at a place of a longer recording
unfoldable pub row_at_of : ℕ → ℕ → List ℕ → List ℕ → RowReading
row_at_of m start words counts = row_of m (take m (drop start words)) (take m (drop start counts))
