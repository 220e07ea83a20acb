-- How soon a slot that no stream owns comes (paper 02, T-08), by the number of free positions alone. Assumes nothing.
use Rattle.std.specs.Prelude.{Bool, true, false, not, ◌&&◌, cond, List, [], ◌∷◌, ℕ, ◌+◌, ◌-◌, ◌*◌, ◌/◌, ◌%◌, eqb}
use Rattle.listlaws.specs.Lists.{count_of}
use Rattle.rules.specs.Calendars.{free_entry}
use Rattle.rules.specs.Calls.{Call, Write, Slot, Calendar}
use Rattle.channel_rules.specs.ChannelCalls.{Channel, channel_calendar_number_of, channel_call}

-- how many positions of a calendar are free
abbrev pub free_positions : List ℕ → ℕ
free_positions calendar = count_of (λ (x : ℕ). eqb x free_entry) calendar

-- the p-th slot that no stream owns is among the next so many, with f of 24 positions free: the p - 1 before it fill whole rounds of the
-- calendar, f of them each; in the last round all that are owned may come first, then the free ones up to its own
unfoldable pub within : ℕ → ℕ → ℕ
within f p = cond (eqb p 0) 0 (24 * ((p - 1) / f) + (24 - f) + (p - 1) % f + 1)

-- no call of a list sets a calendar
abbrev pub sets_calendar : Channel → Call → Bool
sets_calendar ch (Write x w) = false
sets_calendar ch (Slot picks) = false
sets_calendar ch (Calendar entries) = eqb (channel_calendar_number_of ch entries) 0

abbrev pub keeps_calendar : Channel → List Call → Bool
keeps_calendar ch [] = true
keeps_calendar ch (c ∷ l) = not (sets_calendar ch c) && keeps_calendar (channel_call ch c).state l
