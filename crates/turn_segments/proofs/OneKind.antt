-- Laws of the message taken: outside its own kind it is refused by 10; within it the number and the part are those of the message alone.
-- Assumes nothing.
use Prim.Native.Nat.{ℕ}
use mathlib.Core.Path.{◌≡◌}
use mathlib.Core.Bool.{Bool, true, false}
use mathlib.Core.List.{List, []}
use lib.ListN.{length}
use Rattle.message.specs.Message.{fits_message}
use Rattle.segments.specs.Segment.{segment_number, segment_of}
use Rattle.turn_segments.specs.TurnSegment.{taken_number, taken_part}

-- a part and a number that are those of the message taken
unfoldable pub Answer : (ℕ → Bool) → List ℕ → ℕ → List ℕ → ℕ → Type 0
Answer kind message j part number = (part ≡ taken_part kind message j) × (number ≡ taken_number kind (length message) j)

-- 10 and an empty part, for a length outside the kind
pub outside : (kind : ℕ → Bool) (message : List ℕ) (j : ℕ) → kind (length message) ≡ false
    → (part : List ℕ) (number : ℕ) → (part ≡ []) × (number ≡ 10) → Answer kind message j part number
unfolding Answer taken_part taken_number
outside kind message j e part number p = rw e p

-- what is given of the message alone, for a length within the kind
pub alone : (kind : ℕ → Bool) (message : List ℕ) (j : ℕ) → kind (length message) ≡ true → fits_message (length message) ≡ true
    → (part : List ℕ) (number : ℕ) → (part ≡ segment_of message j) × (number ≡ segment_number (length message) j)
    → Answer kind message j part number
unfolding Answer taken_part taken_number segment_of segment_number
alone kind message j e f part number p = rw e (rw f at p)
