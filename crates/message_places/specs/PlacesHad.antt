-- The places that a message has in H and N together, H's first (paper 02, T-07): those that `has_place` of crate `coming_rules` says it
-- has; and the list of who is served at each place before any message is put there. Assumes nothing.
use Rattle.std.specs.Prelude.{List, ℕ, ◌+◌, ◌-◌, replicate}
use Rattle.rules.specs.declared.Condition.{Condition}
use Rattle.rules.specs.declared.Condition.TheVariants.{Free, Held, Fresh, Asked, Resolving, Urgent, Long}
use Rattle.coming_rules.specs.Coming.{nobody}
use Rattle.message_places.specs.declared.Had.{Had}

abbrev pub no_places : Had
no_places = record { first = 0; count = 0 }

-- counted from 0, where H has h places
abbrev pub places_had : ℕ → Condition → Had
places_had h Free = no_places
places_had h (Held t) = no_places
places_had h (Fresh t) = no_places
places_had h (Asked g j t) = no_places
places_had h (Resolving g i t) = no_places
places_had h (Urgent i) = record { first = i - 1; count = 1 }
places_had h (Long f l t) = record { first = h + (f - 1); count = l }

-- nobody at any of the first 1,024 places
unfoldable pub nobody_served : List ℕ
nobody_served = replicate 1024 nobody
