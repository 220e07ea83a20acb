-- `begins_with` meets its contract: the library's test compares element by element. Assumes nothing.
use mathlib.Core.Path.{◌∙◌}
use Rattle.prefixes.proofs.Bytes.{starts-prefixed}
use Rattle.prefixes.proofs.begins_with.Goals as goal

pub returns : goal.returns
returns c = c.starts_with.ensures.value ∙ starts-prefixed _ _
