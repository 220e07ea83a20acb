-- The bytes of a buffer that are not followed yet, kept at its front so that more can be read after them.
use Rattle.std.specs.Prelude.{List, ◌++◌, ℕ, ◌-◌, length, take, drop}

-- the bytes from place `from` up to place `to`, or to the end
abbrev pub rest_of : List ℕ → ℕ → ℕ → List ℕ
rest_of buffer from to = take (to - from) (drop from buffer)

-- the buffer with those bytes at its front, and the others as they were
unfoldable pub kept_of : List ℕ → ℕ → ℕ → List ℕ
kept_of buffer from to = rest_of buffer from to ++ drop (length (rest_of buffer from to)) buffer
