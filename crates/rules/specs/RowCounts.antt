-- What a row brings, counted: its Singles of count 1, the slots of its other Singles, its Collides. Assumes nothing.
use Rattle.std.specs.Prelude.{cond, List, [], ◌∷◌, ℕ, ◌+◌, eqb}
use Rattle.minislot.specs.declared.Feedback.{Feedback}
use Rattle.minislot.specs.declared.Feedback.TheVariants.{Empty, Single, Collide}

unfoldable pub short_singles : List Feedback → ℕ
short_singles [] = 0
short_singles (Empty ∷ row) = short_singles row
short_singles (Single i c ∷ row) = cond (eqb c 1) 1 0 + short_singles row
short_singles (Collide ∷ row) = short_singles row

unfoldable pub long_slots : List Feedback → ℕ
long_slots [] = 0
long_slots (Empty ∷ row) = long_slots row
long_slots (Single i c ∷ row) = cond (eqb c 1) 0 c + long_slots row
long_slots (Collide ∷ row) = long_slots row

unfoldable pub collides : List Feedback → ℕ
collides [] = 0
collides (Empty ∷ row) = collides row
collides (Single i c ∷ row) = collides row
collides (Collide ∷ row) = 1 + collides row
