-- The clauses on stations together, and what of a record's limits is its own once counters are shared. Assumes nothing.
use Rattle.std.specs.Prelude.{Bool, ◌&&◌, List}
use Rattle.rules.specs.declared.Counters.{Counters}
use Rattle.rules.specs.declared.Station.{Station}
use Rattle.rules.specs.StationCalls.{is_index}
use Rattle.rules.specs.StationLimits.{messages_within}
use Rattle.channel_rules.specs.Soundness.{records_within, counters_shared, indexes_distinct}

-- index and message records, under counters that are within their limits
unfoldable pub beside_within : Counters → Station → Bool
beside_within shared s = is_index s.index && messages_within shared s.short.condition s.long.condition

unfoldable pub stations_sound : List Station → Bool
stations_sound stations = records_within stations && counters_shared stations && indexes_distinct stations
