-- A buffer with bytes put into it.
use Rattle.std.specs.Prelude.{cond, List, ◌++◌, ℕ, ◌+◌, leb, length, take, drop}

-- the buffer with the bytes in it from place `at` on, if all of them fit there; else the buffer as it was
unfoldable pub put_at : List ℕ → ℕ → List ℕ → List ℕ
put_at buffer at bytes =
    cond (leb (at + length bytes) (length buffer))
    (take at buffer ++ bytes ++ drop (at + length bytes) buffer)
    buffer

-- the place after the bytes, if they fit; else the same place
unfoldable pub place_after : List ℕ → ℕ → List ℕ → ℕ
place_after buffer at bytes = cond (leb (at + length bytes) (length buffer)) (at + length bytes) at
