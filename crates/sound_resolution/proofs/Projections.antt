-- The places that messages hold in the resolution queues, as the code draws them out, are group by group those that the clause speaks of.
-- Assumes nothing.
use mathlib.Core.Path.{◌≡◌, refl, ◌∙◌}
use mathlib.Core.List.{List, [], ◌∷◌, append-nil}
use Prim.Native.Nat.{ℕ}
use lib.Dec.{eqb}
use Rattle.std.specs.List.{flat_map}
use Rattle.listlaws.specs.Lists.{only_if}
use Rattle.listlaws.proofs.Joining.{gather_append}
use Rattle.rules.specs.declared.Condition.{Condition}
use Rattle.rules.specs.declared.Condition.TheVariants.{Free, Held, Fresh, Asked, Resolving, Urgent, Long}
use Rattle.rules.specs.declared.TableMessage.{TableMessage}
use Rattle.channel_rules.specs.Soundness.{resolving_place, resolving_places}
use Rattle.sound_resolution.specs.Resolution.{group_place, group_places_of, place_in}

group-place : (g : ℕ) (k : Condition) → flat_map (place_in g) (group_place k) ≡ resolving_place g k
group-place g Free = refl
group-place g (Held t) = refl
group-place g (Fresh t) = refl
group-place g (Asked h j t) = refl
group-place g (Resolving h i t) = append-nil (only_if (eqb h g) (i ∷ []))
group-place g (Urgent i) = refl
group-place g (Long f l t) = refl

pub group-places : (g : ℕ) (l : List TableMessage) → flat_map (place_in g) (group_places_of l) ≡ resolving_places g l
group-places g [] = refl
group-places g (m ∷ l) = gather_append (place_in g) (group_place m.condition) (group_places_of l) ∙ rw (group-place g m.condition, group-places g l)
