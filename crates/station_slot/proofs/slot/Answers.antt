-- `slot` gives 18, or what the row leads to. Assumes nothing.
use mathlib.Core.Path.{◌∙◌, sym}
use Rattle.rules.proofs.StationLaws.{slot_18}
use Rattle.station_slot.proofs.Told.{slot-both}
use Rattle.station_slot.proofs.slot.Goals as goal

pub hear-requires : goal.hear-requires
hear-requires c = sym c.within.ensures ∙ c.if-within.true

pub returns-then-within : goal.returns-then-within
returns-then-within c =
    let both = slot-both _ _ _ _ c.hear.ensures in
    record { left = both.0; told = both.1 }

pub returns : goal.returns
returns c =
    let both = slot-both _ _ _ _ (c.refused_slot.ensures ∙ slot_18 _ _ _ _ (sym c.within.ensures ∙ c.if-within.false)) in
    record { left = both.0; told = both.1 }
