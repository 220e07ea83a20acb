-- `served` meets its contract. The loop's invariant: the list has what the first `i` stations put. Assumes nothing.
use mathlib.Core.Path.{◌≡◌}
use mathlib.Core.List.{foldl}
use Prim.Native.Nat.{◌≤◌}
use lib.ListN.{length, take}
use Rattle.message_places.specs.PlacesHad.{nobody_served}
use Rattle.served_places.specs.Served.{put_station_of}
use Rattle.served_places.proofs.served.Given as goal

abbrev pub invariant-loop-i : goal.invariant-loop-i
invariant-loop-i l = (l.i ≤ l.n) × (length l.served ≡ 1024) × (l.served ≡ foldl (put_station_of l.w l.h) nobody_served (take l.i l.stations))
