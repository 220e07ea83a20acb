-- `words` gives the list of the patterns: the one computation over the whole table.
-- Assumes nothing.
use mathlib.Core.Path.{refl}
use Rattle.pattern.specs.Patterns.{patterns}
use Rattle.pattern.proofs.words.Goals as goal

pub returns : goal.returns
unfolding patterns
returns c = refl
