-- The calls that write one message record of one station: an offer, a hold, a commit and a withdrawal (paper 01, "Offering a message";
-- paper 02, T-04 and T-06). A refusal leaves the record as it was. Assumes nothing.
use Rattle.std.specs.Prelude.{Bool, true, false, cond, ℕ}
use Rattle.message.specs.Message.{fits_message, fits_short, slots_for}
pub use Rattle.rules.specs.declared.Which.{Which}
pub use Rattle.rules.specs.declared.Which.TheVariants.{ShortOne, LongOne}
pub use Rattle.rules.specs.declared.Writing.{Writing}
pub use Rattle.rules.specs.declared.Writing.TheVariants.{Offer, Hold, Commit, Withdraw}
use Rattle.rules.specs.declared.Station.{Station}
use Rattle.rules.specs.declared.StationWritten.{StationWritten}
use Rattle.rules.specs.declared.WriteAnswer.TheVariants.{Total, Refused}
use Rattle.rules.specs.Refusing.{unless, by_number}
use Rattle.rules.specs.StationLimits.{Condition, Free, Held, Fresh, Asked, Resolving, Urgent, Long, holding, station_within}
use Rattle.rules.specs.Requesting.{total_of}

-- ---- one of a station's two message records

-- the condition of its message
abbrev pub record_in : Which → Station → Condition
record_in ShortOne s = s.short.condition
record_in LongOne s = s.long.condition

-- the station with another condition there
abbrev pub with_record : Which → Station → Condition → Station
with_record ShortOne s k = record { counters = s.counters; index = s.index; short = holding k; long = s.long }
with_record LongOne s k = record { counters = s.counters; index = s.index; short = s.short; long = holding k }

abbrev pub is_free : Condition → Bool
is_free Free = true
is_free (Held t) = false
is_free (Fresh t) = false
is_free (Asked h j t) = false
is_free (Resolving h i t) = false
is_free (Urgent i) = false
is_free (Long f l t) = false

abbrev pub is_held : Condition → Bool
is_held Free = false
is_held (Held t) = true
is_held (Fresh t) = false
is_held (Asked h j t) = false
is_held (Resolving h i t) = false
is_held (Urgent i) = false
is_held (Long f l t) = false

-- ---- what a writing does to a record that stands at k

-- a message's length picks the record: the short one up to 48 bytes
abbrev pub record_for : ℕ → Which
record_for bytes = cond (fits_short bytes) ShortOne LongOne

-- the record that is written
abbrev pub writes : Writing → Which
writes (Offer bytes) = record_for bytes
writes (Hold bytes) = record_for bytes
writes (Commit o) = o
writes (Withdraw o) = o

-- a new message: 10 for a length that is no message's, 9 for a record in use
abbrev pub new_number_of : ℕ → Condition → ℕ
new_number_of bytes k =
    unless (fits_message bytes) 10
    (unless (is_free k) 9
    0)

-- a message that is held: 22 if the record isn't
abbrev pub held_number_of : Condition → ℕ
held_number_of k =
    unless (is_held k) 22
    0

-- an offer and a hold: 10, 9; a commit and a withdrawal: 22
abbrev pub writing_number_at : Writing → Condition → ℕ
writing_number_at (Offer bytes) k = new_number_of bytes k
writing_number_at (Hold bytes) k = new_number_of bytes k
writing_number_at (Commit o) k = held_number_of k
writing_number_at (Withdraw o) k = held_number_of k

-- the slot total that is answered: that of the length, or of the message that is held
abbrev pub writing_total_at : Writing → Condition → ℕ
writing_total_at (Offer bytes) k = slots_for bytes
writing_total_at (Hold bytes) k = slots_for bytes
writing_total_at (Commit o) k = total_of k
writing_total_at (Withdraw o) k = total_of k

-- where the record stands after it, by that total: an offer and a commit make it fresh, a hold keeps it held, a withdrawal frees it
abbrev pub written_as : Writing → ℕ → Condition
written_as (Offer bytes) t = Fresh t
written_as (Hold bytes) t = Held t
written_as (Commit o) t = Fresh t
written_as (Withdraw o) t = Free

-- ---- of a station: 18, then 10, 9 or 22

abbrev pub writing_number_of : Station → Writing → ℕ
writing_number_of s w = writing_number_at w (record_in (writes w) s)

abbrev pub writing_total_of : Station → Writing → ℕ
writing_total_of s w = writing_total_at w (record_in (writes w) s)

abbrev pub written_of : Station → Writing → Station
written_of s w = with_record (writes w) s (written_as w (writing_total_of s w))

abbrev pub refused_write : Station → ℕ → StationWritten
refused_write s n = record { answer = Refused n; station = s }

unfoldable pub write_number_of : Station → Writing → ℕ
write_number_of s w =
    unless (station_within s) 18
    (writing_number_of s w)

-- A WRITING OF A STATION
unfoldable pub write_of : Station → Writing → StationWritten
write_of s w =
    by_number (write_number_of s w) (refused_write s) (record { answer = Total (writing_total_of s w); station = written_of s w })
