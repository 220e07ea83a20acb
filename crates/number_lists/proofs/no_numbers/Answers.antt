-- `no_numbers` gives the list of no numbers, by computation. Assumes nothing.
use mathlib.Core.Path.{refl}
use Rattle.number_lists.specs.NumberList.{list_with}
use Rattle.number_lists.proofs.no_numbers.Goals as goal

pub returns : goal.returns
unfolding list_with
returns c = refl
