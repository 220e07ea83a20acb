-- `blank` has 65 records that stand for no station, and a silent wire. Assumes nothing.
use Rattle.rehearsing.proofs.blank.Goals as goal

pub returns : goal.returns
returns c = rw (c.no_station.ensures, c.blank_wire.ensures)
