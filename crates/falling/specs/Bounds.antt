-- What the fall of the counters asks of the next group and of the position, so that the ones after them fit their types. Assumes nothing.
use Rattle.std.specs.Prelude.{◌≤◌}
use Rattle.rules.specs.declared.Counters.{Counters}

-- the next group is one of eight, and the position one of 24
abbrev pub ComingSlot : Counters → Type 0
ComingSlot c = (1 ≤ c.next) × (c.next ≤ 8) × (c.position ≤ 23)
