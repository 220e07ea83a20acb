-- `form_fits` meets its contract. The loop's invariant: what is to come fits the room that is left just if the whole fits the whole room.
-- Assumes nothing.
use mathlib.Core.Path.{◌≡◌}
use lib.Dec.{leb}
use lib.ListN.{length, drop}
use Rattle.forms.specs.Form.{form_of}
use Rattle.forms.proofs.form_fits.Given as goal

abbrev pub invariant-loop-b : goal.invariant-loop-b
invariant-loop-b l =
    leb (length (form_of (drop l.b-index l.form) l.left)) l.room_left ≡ leb (length (form_of l.form l.values)) l.room
