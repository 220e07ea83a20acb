-- The slot total of a message (paper 01, "The box", and "Offering a message", 10): a message of 1 to 12,240 bytes takes ⌈bytes ÷ 48⌉ slots.
use Rattle.std.specs.Prelude.{ℕ, ◌+◌, ◌/◌, ◌%◌, Bool, cond, ◌&&◌, leb, eqb}
use Rattle.message.specs.declared.SlotTotal.{SlotTotal}
use Rattle.message.specs.declared.SlotTotal.TheVariants.{Slots, Refused}

-- a message has 1 to 12,240 bytes
unfoldable pub fits_message : ℕ → Bool
fits_message bytes = leb 1 bytes && leb bytes 12240

-- a short message has 1 to 48 bytes, which one slot carries; a long one 49 to 12,240 (paper 02, T-04)
unfoldable pub fits_short : ℕ → Bool
fits_short bytes = leb 1 bytes && leb bytes 48

unfoldable pub fits_long : ℕ → Bool
fits_long bytes = leb 49 bytes && leb bytes 12240

-- ⌈n ÷ d⌉: the quotient, and one more where something is left over
unfoldable pub ceiling : ℕ → ℕ → ℕ
ceiling n d = cond (eqb (n % d) 0) (n / d) (n / d + 1)

-- ⌈bytes ÷ 48⌉
unfoldable pub slots_for : ℕ → ℕ
slots_for bytes = ceiling bytes 48

-- the answer to a message of this many bytes
unfoldable pub slot_total_of : ℕ → SlotTotal
slot_total_of bytes = cond (fits_message bytes) (Slots (slots_for bytes)) (Refused 10)

-- the paper's number of each answer, 0 where the message is taken
unfoldable pub number_of : SlotTotal → ℕ
number_of (Slots total) = 0
number_of (Refused number) = number

-- the slots of each answer, 0 where the message is refused
unfoldable pub total_of : SlotTotal → ℕ
total_of (Slots total) = total
total_of (Refused number) = 0

-- the number of a message of this many bytes: 10 where it does not fit
unfoldable pub slots_number_of : ℕ → ℕ
slots_number_of bytes = cond (fits_message bytes) 0 10

-- and the slots that are told with it
unfoldable pub slots_given_of : ℕ → ℕ
slots_given_of bytes = cond (fits_message bytes) (slots_for bytes) 0
