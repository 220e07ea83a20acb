-- Who is served at each of the first w places of H and N together, H's first (paper 02, T-07), as a list of 1,024: nobody at first,
-- then each message puts its station's index at those of its places that are among the first w. That this is served_at of crate
-- `coming_rules`: proofs/ServedLaws. Assumes nothing.
use mathlib.Core.List.{List, foldl}
use Rattle.std.specs.Prelude.{ℕ, zero, suc, ◌-◌, min, set}
use Rattle.rules.specs.declared.Station.{Station}
use Rattle.rules.specs.declared.Condition.{Condition}
use Rattle.message_places.specs.PlacesHad.{places_had, nobody_served}

-- an index at so many places from one on; past the list's end nothing changes
abbrev pub put_of : List ℕ → ℕ → ℕ → ℕ → List ℕ
put_of list first zero index = list
put_of list first (suc n) index = put_of (set list first index) (suc first) n index

-- a message of the station with this index, as far as its places are among the first w; then a station's short one and its long one
unfoldable pub put_message_of : ℕ → ℕ → ℕ → List ℕ → Condition → List ℕ
put_message_of w h index list condition =
    let had = places_had h condition in
    put_of list had.first (min had.count (w - had.first)) index

unfoldable pub put_station_of : ℕ → ℕ → List ℕ → Station → List ℕ
put_station_of w h list s = put_message_of w h s.index (put_message_of w h s.index list s.short.condition) s.long.condition

-- ALL STATIONS, in order
unfoldable pub served_of : ℕ → ℕ → List Station → List ℕ
served_of w h stations = foldl (put_station_of w h) nobody_served stations
