-- `nobody_served` repeats what stands for nobody. Assumes nothing.
use mathlib.Core.Path.{refl}
use Rattle.message_places.specs.PlacesHad.{nobody_served}
use Rattle.message_places.proofs.nobody_served.Goals as goal

pub returns : goal.returns
unfolding nobody_served
returns c = refl
