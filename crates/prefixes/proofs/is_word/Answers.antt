-- `is_word` meets its contract: the library's equality compares element by element. Assumes nothing.
use mathlib.Core.Path.{◌∙◌}
use Rattle.prefixes.specs.Prefix.{is_word}
use Rattle.prefixes.proofs.Bytes.{same-word}
use Rattle.prefixes.proofs.is_word.Goals as goal

pub returns : goal.returns
unfolding is_word
returns c = c.eq.ensures ∙ same-word _ _
