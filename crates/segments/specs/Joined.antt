-- All segments of a message: joined again in order, and how long each is.
use Rattle.std.specs.Prelude.{ℕ, zero, suc, ◌≤◌, ◌<◌, ◌≡◌, length}
use mathlib.Core.List.{List, [], ◌∷◌, ◌++◌, map, flatten}
use Rattle.message.specs.Message.{slots_for}
use Rattle.segments.specs.Segment.{segment_of}

-- 1, 2, .. n
unfoldable pub count_to : ℕ → List ℕ
count_to zero = []
count_to (suc n) = count_to n ++ (suc n ∷ [])

-- segments 1 to the slot total
unfoldable pub segments_of : List ℕ → List (List ℕ)
segments_of message = map (segment_of message) (count_to (slots_for (length message)))

-- and joined in order
unfoldable pub joined : List ℕ → List ℕ
joined message = flatten (segments_of message)

-- each segment but the last has 48 bytes, and the last 1 to 48
pub record SegmentLengths (message : List ℕ) : Type 0 where
  pub full : (j : ℕ) → 1 ≤ j → j < slots_for (length message) → length (segment_of message j) ≡ 48
  pub last : (1 ≤ length (segment_of message (slots_for (length message)))) × (length (segment_of message (slots_for (length message))) ≤ 48)
