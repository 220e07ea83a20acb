-- The loop of `cut_record`: what the record does from the place reached, with the room left, is what it does from its start. Assumes nothing.
use mathlib.Core.Path.{◌≡◌}
use lib.ListN.{drop}
use Rattle.records.specs.Cutting.{goes_on, cut_of}
use Rattle.records.proofs.cut_record.Given as goal

abbrev pub invariant-loop-at : goal.invariant-loop-at
invariant-loop-at l = goes_on l.ended l.at l.room (drop l.at l.bytes) ≡ cut_of l.longest l.bytes l.start l.ended
