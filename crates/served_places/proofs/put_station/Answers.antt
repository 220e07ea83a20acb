-- `put_station` puts the places of the short message, then those of the long one. Assumes nothing.
use mathlib.Core.Path.{◌∙◌}
use Rattle.served_places.specs.Served.{put_message_of, put_station_of}
use Rattle.served_places.proofs.put_station.Goals as goal

pub returns : goal.returns
unfolding put_station_of put_message_of
returns c =
    c.put-2.ensures ∙ rw (c.places_had-2.ensures, c.put.ensures, c.places_had.ensures)
