-- How many stations of a lent table step. Assumes nothing.
use Rattle.std.specs.Prelude.{ℕ, min}

-- no more than there are stations, picks and steps
unfoldable pub rounds_of : ℕ → ℕ → ℕ → ℕ
rounds_of n m steps = min (min n m) steps
