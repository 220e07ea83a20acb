-- `left_fits` meets its contract. The loop's invariant: what is to come fits the room that is left just if the whole fits the whole room.
-- Assumes nothing.
use mathlib.Core.Path.{◌≡◌}
use lib.Dec.{leb}
use lib.ListN.{length, drop}
use Rattle.forms.specs.Form.{left_of}
use Rattle.forms.proofs.left_fits.Given as goal

abbrev pub invariant-loop-value : goal.invariant-loop-value
invariant-loop-value l =
    leb (length (left_of (drop l.value-index l.values))) l.room_left ≡ leb (length (left_of l.values)) l.room
