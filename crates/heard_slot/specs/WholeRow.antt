-- What a station's steps ask for: its record is within its limits, and the row was read of its minislots.
-- Assumes nothing.
use Rattle.std.specs.Prelude.{◌≡◌, true}
use Rattle.minislot.specs.declared.RowReading.{RowReading}
use Rattle.rules.specs.declared.Station.{Station}
use Rattle.rules.specs.Hearing.{ReadRow}
use Rattle.rules.specs.StationLimits.{station_within}

pub record WholeRow (s : Station) (row : RowReading) : Type 0 where
  pub within : station_within s ≡ true
  pub read : ReadRow s.counters.minislots row
