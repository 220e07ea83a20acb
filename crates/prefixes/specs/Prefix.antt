-- A word in front of a list of bytes, which are numbers. Assumes nothing.
use Rattle.std.specs.Prelude.{Bool, true, false, ◌&&◌, List, [], ◌∷◌, ℕ, eqb, length}

-- whether a list begins with a word
unfoldable pub prefixed : List ℕ → List ℕ → Bool
prefixed [] l = true
prefixed (w ∷ word) [] = false
prefixed (w ∷ word) (b ∷ l) = eqb b w && prefixed word l

-- whether it is the word
unfoldable pub is_word : List ℕ → List ℕ → Bool
is_word word l = eqb (length l) (length word) && prefixed word l
