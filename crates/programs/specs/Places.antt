-- The numbers of records: from 1. A number is kept in 64 bits, and stays at the highest. Assumes nothing.
use Rattle.std.specs.Prelude.{cond, ℕ, ◌+◌, ltb}

abbrev pub place_following : ℕ → ℕ
place_following k = cond (ltb k 18446744073709551615) (k + 1) k
