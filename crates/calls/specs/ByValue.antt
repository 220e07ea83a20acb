-- The channel that a call is made on, its stations by value: an array of 64 records, and how many the table has. Assumes nothing.
use Rattle.std.specs.Prelude.{List, ◌++◌, ℕ, ◌-◌, take, replicate}
use Rattle.rules.specs.declared.Station.{Station}
use Rattle.rules.specs.declared.WireRow.{WireRow}
use Rattle.rules.specs.StationCalls.{no_station}
use Rattle.channel_rules.specs.ChannelCalls.{Channel}

abbrev pub channel_of : List Station → List WireRow → Channel
channel_of stations wire = record { stations = stations; wire = wire }

-- the first n records. Of a table of more than 64, which every call refuses, the records past the array are as if none of them were a
-- station: that they are there is all that counts
abbrev pub array_table : List Station → ℕ → List Station
array_table stations n = take n stations ++ replicate (n - 64) no_station

abbrev pub array_channel : List Station → ℕ → List WireRow → Channel
array_channel stations n wire = channel_of (array_table stations n) wire
