-- How many patterns come before each upper half of six digits, and before each lower half. Assumes nothing.
use Rattle.std.specs.Prelude.{List, [], ◌∷◌, map, ℕ, zero, suc, ◌+◌, ◌*◌, eqb, length}
use Rattle.std.specs.Int.Count.{ones_in}
use Rattle.pattern.specs.Patterns.{those, six_ones}

-- the n numbers from i on
unfoldable pub numbers : ℕ → ℕ → List ℕ
numbers i zero = []
numbers i (suc n) = i ∷ numbers (suc i) n

-- each number of a list replaced by n and the sum of those before it
unfoldable pub sums : ℕ → List ℕ → List ℕ
sums n [] = []
sums n (x ∷ l) = n ∷ sums (n + x) l

-- how many patterns have a smaller upper half than each of the 64: those of all upper halves before it
unfoldable pub patterns_before : List ℕ
unfolding numbers those six_ones sums
patterns_before = sums 0 (map (λ h. length (those six_ones (h * 64) 64)) (numbers 0 64))

-- the numbers of six digits below each of the 64 that have as many ones
unfoldable pub rank : List ℕ
unfolding numbers those ones_in
rank = map (λ l. length (those (λ x. eqb (ones_in 6 x) (ones_in 6 l)) 0 l)) (numbers 0 64)
