-- `join` is the OR of the words and the OR of the counts. Assumes nothing.
use mathlib.Core.Path.{refl}
use Rattle.requests.proofs.join.Goals as goal

pub returns : goal.returns
returns c = refl
