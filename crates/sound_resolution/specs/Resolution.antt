-- Places in the resolution queues, each with its group, as the code draws them out of messages, and the clause on them. Assumes nothing.
use Rattle.std.specs.Prelude.{Bool, List, [], ◌∷◌, ℕ, suc, eqb}
use Rattle.listlaws.specs.Every.{every_from}
use Rattle.std.specs.List.{flat_map}
use Rattle.listlaws.specs.Lists.{only_if}
use Rattle.crowds.specs.Crowds.{crowded}
use Rattle.rules.specs.declared.TableMessage.{TableMessage}
use Rattle.rules.specs.declared.Condition.{Condition}
use Rattle.rules.specs.declared.Condition.TheVariants.{Free, Held, Fresh, Asked, Resolving, Urgent, Long}
use Rattle.channel_rules.specs.Soundness.{resolving_places}
use Rattle.sound_resolution.specs.declared.GroupPlace.{GroupPlace}

abbrev pub group_place : Condition → List GroupPlace
group_place Free = []
group_place (Held t) = []
group_place (Fresh t) = []
group_place (Asked g j t) = []
group_place (Resolving g i t) = record { group = g; place = i } ∷ []
group_place (Urgent i) = []
group_place (Long f l t) = []

abbrev pub group_places_of : List TableMessage → List GroupPlace
group_places_of messages = flat_map (λ (m : TableMessage). group_place m.condition) messages

-- the place, if it is of group g
abbrev pub place_in : ℕ → GroupPlace → List ℕ
place_in g s = only_if (eqb s.group g) (s.place ∷ [])

-- every group's queue, group g's length at g − 1
abbrev pub queues_sound : List TableMessage → List ℕ → Bool
queues_sound messages queues = every_from (λ i r. crowded (resolving_places (suc i) messages) r) 0 queues
