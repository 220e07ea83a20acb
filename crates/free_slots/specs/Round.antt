-- The slots of a round of the calendar that no stream owns, as an array. Assumes nothing.
use Rattle.std.specs.Prelude.{List, ℕ, length}
use Rattle.listlaws.specs.Lists.{padded}
use Rattle.coming_rules.specs.Planned.{free_slots}
use Rattle.free_slots.specs.declared.FreeSlots.{FreeSlots}

-- these slots, with zeros behind them
abbrev pub slots_with : List ℕ → FreeSlots
slots_with l = record { count = length l; slots = padded 24 0 l }

-- the free ones of the next 24
unfoldable pub free_round : List ℕ → ℕ → FreeSlots
free_round calendar p = slots_with (free_slots calendar p 24)
