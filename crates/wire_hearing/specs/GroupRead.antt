-- The row that a slot hears, by the counters that all stations share. Assumes nothing.
use Rattle.std.specs.Prelude.{List, ℕ, ◌-◌, get_or, take}
use Rattle.minislot.specs.declared.Minislot.{Minislot}
use Rattle.minislot.specs.declared.RowReading.{RowReading}
use Rattle.rows.specs.Row.{row_of}
use Rattle.rules.specs.declared.Counters.{Counters}
use Rattle.rules.specs.declared.WireRow.{WireRow}
use Rattle.rules.specs.Hearing.{words_of, counts_of}
use Rattle.channel_rules.specs.ChannelCalls.{blank_row}

-- the first m minislots of a row
abbrev pub first_read : ℕ → List Minislot → RowReading
first_read m minislots = row_of m (words_of (take m minislots)) (counts_of (take m minislots))

-- the next group's row on the wire, read
abbrev pub group_read : Counters → List WireRow → RowReading
group_read c wire = first_read c.minislots (get_or wire (c.next - 1) blank_row).minislots
