-- `slots` meets its contract: each return is the slot total of its case, and so has its number and slots, and (bytes + 47) / 48 is the ceiling, the least number of slots that hold the bytes.
-- Assumes nothing.
use mathlib.Core.Path.{sym, ◌∙◌, ap}
use native.Mathlib.Omega.{arith}
use Rattle.message.specs.declared.SlotTotal.TheVariants.{Slots}
use Rattle.message.proofs.Totals.{fits, fits-none, fits-over, slots-least, taken, refused, slots-told}
use Rattle.message.proofs.slots.Goals as goal

pub returns-then-bytes-eq0 : goal.returns-then-bytes-eq0
returns-then-bytes-eq0 c =
    let all_told = slots-told _ _ (sym (refused _ (fits-none _ (omega arith)))) in
    record { answer = all_told.0; number = all_told.1.0; total = all_told.1.1 }

pub returns-then-bytes-gt12240 : goal.returns-then-bytes-gt12240
returns-then-bytes-gt12240 c =
    let all_told = slots-told _ _ (sym (refused _ (fits-over _ (omega arith)))) in
    record { answer = all_told.0; number = all_told.1.0; total = all_told.1.1 }

pub returns : goal.returns
returns c =
    let all_told = slots-told _ _
    (ap Slots (sym (slots-least c.args.bytes _ (omega arith) (omega arith)))
    ∙ sym (taken _ (fits _ (omega arith) (omega arith)))) in
    record { answer = all_told.0; number = all_told.1.0; total = all_told.1.1 }
