-- `table_counters` reads the first record's counters, and those of no station where there is no record. Assumes nothing.
use mathlib.Core.Path.{◌≡◌}
use native.Mathlib.Omega.{arith}
use borrow.Author.Rules.{rules}
use lib.ListN.{length}
use Rattle.sound_counters.proofs.FirstRecord.{first-counters}
use Rattle.sound_counters.proofs.table_counters.Goals as goal

pub returns-then-count-eq0 : goal.returns-then-count-eq0
returns-then-count-eq0 c = rw (c.if-count-eq0.true, c.no_station.ensures)

pub returns-else-count-eq0 : goal.returns-else-count-eq0
returns-else-count-eq0 c =
    let a = c.args in
    let full : length a.stations ≡ 64 = search rules in
    first-counters a.stations a.count (omega arith) (omega arith)
