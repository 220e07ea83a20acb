-- `blanks` has 64 records that stand for no station. Assumes nothing.
use Rattle.table.specs.Loading.{blank_stations}
use Rattle.table.proofs.blanks.Goals as goal

pub returns : goal.returns
unfolding blank_stations
returns c = rw c.no_station.ensures
