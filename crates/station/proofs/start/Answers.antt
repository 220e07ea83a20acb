-- `start` gives 5 or 8, or the station at its start. Assumes nothing.
use mathlib.Core.Path.{◌∙◌, sym}
use Rattle.rules.specs.StationCalls.{station_start_of, station_start_number_of}
use Rattle.station.proofs.Told.{start-both}
use Rattle.station.proofs.start.Goals as goal

pub returns-then-not-in_ranges : goal.returns-then-not-in_ranges
unfolding station_start_of station_start_number_of
returns-then-not-in_ranges c =
    let both = start-both _ _ _ (c.refused_start.ensures ∙ rw (sym c.in_ranges.ensures ∙ c.if-not-in_ranges.true)) in
    record { left = both.0; told = both.1 }

pub returns-then-not-is_index : goal.returns-then-not-is_index
unfolding station_start_of station_start_number_of
returns-then-not-is_index c =
    let both = start-both _ _ _
    (c.refused_start-then-not-is_index.ensures ∙ rw (sym c.in_ranges.ensures ∙ c.if-not-in_ranges.false, sym c.is_index.ensures ∙ c.if-not-is_index.true)) in
    record { left = both.0; told = both.1 }

pub returns : goal.returns
unfolding station_start_of station_start_number_of
returns c =
    let both = start-both _ _ _
    (rw (c.start.ensures, c.no_station.ensures, sym c.in_ranges.ensures ∙ c.if-not-in_ranges.false, sym c.is_index.ensures ∙ c.if-not-is_index.false)) in
    record { left = both.0; told = both.1 }
