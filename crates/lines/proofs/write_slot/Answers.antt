-- `write_slot` meets its contract: two fields and two bytes, one after another.
-- Assumes nothing.
use mathlib.Core.Path.{sym, ap, ◌∙◌}
use mathlib.Core.List.{[], ◌∷◌, ◌++◌, append_assoc}
use native.Mathlib.Omega.{arith}
use lib.Seq.{sets}
use Rattle.decimals.specs.Printing.{field_bytes}
use Rattle.decimals.proofs.Stores.{Wrote, and_then, wrote_field}
use Rattle.lines.specs.Pieces.{slot_bytes}
use Rattle.lines.proofs.write_slot.Goals as goal

pub returns : goal.returns
unfolding slot_bytes
returns c =
    let a = c.args in
    let pre = c.requires in
    let end = c.write_bytes in
    let last : Wrote _ _ (a.turn ∷ 44 ∷ []) end.new.out end.result = record { stored = end.ensures.buffer; reached = end.ensures.reached } in
    let w =
    and_then
    (and_then (wrote_field a.slot 44 (c.write_field-first.ensures.buffer, c.write_field-first.ensures.reached) pre.0) (wrote_field a.group 44 (c.write_field-second.ensures.buffer, c.write_field-second.ensures.reached) pre.1))
    last in record {
      buffer = w.stored ∙ ap (sets a.out.now a.at) (sym (append_assoc (field_bytes a.slot 44 ++ field_bytes a.group 44) (a.turn ∷ []) (44 ∷ [])));
      reached = omega arith;
    }
