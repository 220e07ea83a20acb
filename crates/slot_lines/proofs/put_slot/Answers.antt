-- `put_slot` puts a slot's form, which is the slot's line. Assumes nothing.
use Rattle.slot_lines.proofs.SlotForms.{slot-form}
use Rattle.slot_lines.proofs.put_slot.Goals as goal

pub returns : goal.returns
returns c = record {
  buffer = rw (c.letter.ensures, c.resolution_of.ensures, slot-form _ _ _ _ _ _ _ _) at c.put_form.ensures.buffer;
  reached = rw (c.letter.ensures, c.resolution_of.ensures, slot-form _ _ _ _ _ _ _ _) at c.put_form.ensures.reached;
}
