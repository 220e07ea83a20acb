-- `field_at` meets its contract. The loop's invariant: what the reader answers at the place reached, with the digits read, is what it answers at the start.
-- Assumes nothing.
use mathlib.Core.Path.{◌≡◌}
use Prim.Native.Nat.{◌^◌, ◌≤◌, ◌<◌}
use lib.ListN.{length, drop}
use Rattle.fields.specs.Fields.{parts}
use Rattle.fields.specs.Steps.{field_of}
use Rattle.fields.proofs.Parts.{read_from}
use Rattle.fields.proofs.field_at.Given as goal

abbrev pub invariant-loop-at : goal.invariant-loop-at
invariant-loop-at l =
    (l.digits ≤ 5)
    × (l.value < 10 ^ l.digits)
    × ((l.digits ≡ 0 → ⊥) → l.at ≤ length l.bytes)
    × (read_from l.at l.value l.digits (parts (drop l.at l.bytes)) ≡ field_of l.start (parts (drop l.start l.bytes)))
