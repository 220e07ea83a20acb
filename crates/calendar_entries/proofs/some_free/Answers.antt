-- `some_free` looks for a free entry. Assumes nothing.
use mathlib.Core.Path.{◌∙◌}
use Rattle.calendar_entries.proofs.Entries.{free-any}
use Rattle.calendar_entries.proofs.some_free.Goals as goal

pub returns : goal.returns
returns c = c.any_free.ensures ∙ free-any c.args.entries
