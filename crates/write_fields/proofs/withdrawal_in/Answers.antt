-- `withdrawal_in` meets its contract: a withdrawal, by what was read. Assumes nothing.
use mathlib.Core.Path.{sym, ◌∙◌}
use Rattle.write_fields.specs.WriteFields.{held_by}
use Rattle.write_fields.proofs.withdrawal_in.Goals as goal

pub returns-in_err-read : goal.returns-in_err-read
unfolding held_by
returns-in_err-read c = c.from_residual.ensures ∙ rw (sym c.which_fields.ensures ∙ c.in_err-read.was)

pub returns : goal.returns
unfolding held_by
returns c = rw (sym c.which_fields.ensures ∙ c.in_ok-read.was)
