-- `wire_sound` compares one row after the other with the one that its group's requests make: each one before g is the same, and one that is not
-- fails the clause. Assumes nothing.
use mathlib.Core.Path.{◌≡◌}
use mathlib.Core.Bool.{Bool, true}
use mathlib.Core.List.{List, []}
use Prim.Native.Nat.{ℕ, suc, ◌<◌}
use lib.ListN.{get_or}
use Rattle.rules.specs.declared.WireRow.{WireRow}
use Rattle.asked_rows.specs.declared.WireRequest.{WireRequest}
use Rattle.sound_wire.proofs.Carrying.{row_like}
use Rattle.sound_wire.proofs.wire_sound.Given as goal

abbrev pub empty_row : WireRow
empty_row = record { minislots = [] }

abbrev pub at : List WireRequest → ℕ → WireRow → Bool
at requests i row = row_like requests (suc i) row

abbrev pub invariant-loop-g : goal.invariant-loop-g
invariant-loop-g l = (k : ℕ) → k < l.g → at l.asked.items k (get_or l.wire k empty_row) ≡ true
