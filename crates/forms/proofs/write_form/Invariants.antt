-- `write_form` meets its contract. The loop's invariant: with what is to come stored from where it stands, the buffer is what it is to be, and the end is
-- where it is to be. Assumes nothing.
use lib.ListN.{drop}
use Rattle.forms.specs.Form.{form_of}
use Rattle.forms.proofs.Begun.{Begun}
use Rattle.forms.proofs.write_form.Given as goal

abbrev pub invariant-loop-b : goal.invariant-loop-b
invariant-loop-b l = Begun l.initial.out l.at (form_of l.form l.values) l.out l.to (form_of (drop l.b-index l.form) l.left)
