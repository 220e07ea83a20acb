-- A message's segments (paper 01, "The box", and "A segment", 10 and 13).
use Rattle.std.specs.Prelude.{ℕ, ◌*◌, ◌-◌, Bool, cond, ◌&&◌, List, [], leb, eqb, length, take, drop}
use Rattle.message.specs.Message.{fits_message, slots_for}

-- j is 1 up to the slot total
unfoldable pub is_segment : ℕ → ℕ → Bool
is_segment bytes j = leb 1 j && leb j (slots_for bytes)

-- the number of asking for segment j of a message of this many bytes: 10, then 13, and 0 for a part given
unfoldable pub segment_number : ℕ → ℕ → ℕ
segment_number bytes j = cond (fits_message bytes) (cond (is_segment bytes j) 0 13) 10

-- the bytes from 48(j−1) up to 48j or the end
unfoldable pub cut : List ℕ → ℕ → List ℕ
cut message j = drop (48 * (j - 1)) (take (48 * j) message)

-- segment j of a message, empty on a refusal
unfoldable pub segment_of : List ℕ → ℕ → List ℕ
segment_of message j = cond (eqb (segment_number (length message) j) 0) (cut message j) []
