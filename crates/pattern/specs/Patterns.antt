-- The station patterns (paper: patterns): the twelve-bit words with exactly six ones, in rising order; a pattern's word and a word's index.
-- Assumes nothing.
use Rattle.std.specs.Prelude.{Bool, true, false, List, [], ◌∷◌, ℕ, zero, suc, eqb, get_or}
use Rattle.std.specs.Int.Count.{ones_in}
use Rattle.listlaws.specs.Lists.{keep_if}

-- those of the n numbers from i on that pass a test, in rising order
unfoldable pub those : (ℕ → Bool) → ℕ → ℕ → List ℕ
those p i zero = []
those p i (suc n) = keep_if (p i) i (those p (suc i) n)

-- six of the twelve lowest digits are ones
unfoldable pub six_ones : ℕ → Bool
unfolding ones_in
six_ones x = eqb (ones_in 12 x) 6

unfoldable pub patterns : List ℕ
unfolding those six_ones
patterns = those six_ones 0 4096

abbrev pub place_step : Bool → ℕ → ℕ
place_step true n = 0
place_step false n = suc n

-- how many entries of a list stand before the first that equals x: its place, counted from 0, or the list's length
unfoldable pub place_of : ℕ → List ℕ → ℕ
place_of x [] = 0
place_of x (y ∷ l) = place_step (eqb y x) (place_of x l)

-- the word of an index (0 above 923), and the index of a word (924 of a word that is no pattern)
unfoldable pub word_of : ℕ → ℕ
word_of i = get_or patterns i 0

unfoldable pub index_of : ℕ → ℕ
index_of w = place_of w patterns
