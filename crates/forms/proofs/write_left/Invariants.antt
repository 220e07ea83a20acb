-- `write_left` meets its contract. The loop's invariant: with what is to come stored from where it stands, the buffer is what it is to be, and the end is
-- where it is to be. Assumes nothing.
use lib.ListN.{drop}
use Rattle.forms.specs.Form.{left_of}
use Rattle.forms.proofs.Begun.{Begun}
use Rattle.forms.proofs.write_left.Given as goal

abbrev pub invariant-loop-value : goal.invariant-loop-value
invariant-loop-value l = Begun l.initial.out l.at (left_of l.values) l.out l.to (left_of (drop l.value-index l.values))
