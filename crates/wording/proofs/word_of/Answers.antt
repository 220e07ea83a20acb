-- `word_of` gives an index's word: 0 past the last, else by the table of the patterns before each upper half, which is that list by computation.
-- Assumes nothing.
use mathlib.Core.Path.{refl, sym}
use native.Mathlib.Omega.{arith}
use Rattle.indexing.specs.Halves.{patterns_before}
use Rattle.pattern.proofs.Patterns.{no_pattern}
use Rattle.wording.proofs.word_of.Goals as goal

pub returns-then-index-gt923 : goal.returns-then-index-gt923
returns-then-index-gt923 c = sym (no_pattern c.args.index (omega arith))

pub word_at-requires : goal.word_at-requires
unfolding patterns_before
word_at-requires c = (refl, omega arith)
