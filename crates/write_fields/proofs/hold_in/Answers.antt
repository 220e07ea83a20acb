-- `hold_in` meets its contract: a hold, by what was read. Assumes nothing.
use mathlib.Core.Path.{sym, ◌∙◌}
use Rattle.write_fields.specs.WriteFields.{new_by}
use Rattle.write_fields.proofs.hold_in.Goals as goal

pub returns-in_err-read : goal.returns-in_err-read
unfolding new_by
returns-in_err-read c = c.from_residual.ensures ∙ rw (sym c.offer_fields.ensures ∙ c.in_err-read.was)

pub returns : goal.returns
unfolding new_by
returns c = rw (sym c.offer_fields.ensures ∙ c.in_ok-read.was)
