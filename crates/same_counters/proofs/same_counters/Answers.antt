-- `same_counters` compares field by field, as the rule does. Assumes nothing.
use mathlib.Core.Path.{◌∙◌}
use Rattle.std.proofs.Math.Bool.{and_assoc}
use Rattle.channel_rules.specs.Soundness.{same_counters}
use Rattle.same_counters.proofs.Comparing.{numbers, marks}
use Rattle.same_counters.proofs.same_counters.Goals as goal

pub returns : goal.returns
unfolding same_counters
returns c = c.eq.ensures ∙ simp (numbers, marks, and_assoc)
