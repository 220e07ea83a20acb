-- Whether a word contains all ones of another. How many ones a number has is the kit's `ones` (lib.Count).
-- Assumes nothing.
use Rattle.std.specs.Prelude.{Bool, ℕ, eqb}
use Rattle.std.specs.Int.Bits.{bit_and}

-- each one of v is a one of w
unfoldable pub contains_ones : ℕ → ℕ → Bool
contains_ones w v = eqb (bit_and w v) v
