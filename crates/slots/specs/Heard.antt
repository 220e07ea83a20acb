-- A row that can be heard, by the counters that all stations share. Assumes nothing.
use Rattle.std.specs.Prelude.{◌≡◌, true, List}
use Rattle.rules.specs.declared.Counters.{Counters}
use Rattle.rules.specs.declared.WireRow.{WireRow}
use Rattle.rules.specs.Limits.{within_limits}
use Rattle.wire_hearing.specs.GroupRead.{group_read}

-- counters within their limits, and a row in which no minislot is refused
pub record Readable (c : Counters) (wire : List WireRow) : Type 0 where
  pub within : within_limits c ≡ true
  pub read : (group_read c wire).number ≡ 0
