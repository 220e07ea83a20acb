-- `write_number` meets its contract, by the digits of a tenth of what is left; below ten, one digit is left. Assumes nothing.
use mathlib.Core.Path.{◌≡◌, ◌∙◌}
use Prim.Native.Nat.{◌+◌, ◌-◌, ◌/◌, ◌≤◌}
use native.Mathlib.Omega.{arith}
use lib.ListN.{length, length-set}
use Rattle.decimals.specs.Decimal.{digits_of}
use Rattle.decimals.proofs.Decimals.{digits-one, digits-shorter, digits-some, digits-lone, digits-ten}
use Rattle.decimals.proofs.Stores.{digit-last}
use Rattle.decimals.proofs.write_number.Goals as goal

pub loop-to-preserved : goal.loop-to-preserved
loop-to-preserved c =
    let l = c.loop-to in
    let a = c.args in
    let ten : 10 ≤ l.left = digits-ten l.left (omega arith) in
    let d : length (digits_of l.left) ≡ length (digits_of (l.left / 10)) + 1 = digits-shorter l.left ten in
    let e : l.to - 1 ≡ a.at + length (digits_of (l.left / 10)) = omega arith in record {
      place = e;
      within = rw length-set (omega arith);
      stored = rw e (digit-last l.out a.at l.left ten) ∙ l.invariant.stored;
    }

pub overflow_cast-out-2 : goal.overflow_cast-out-2
overflow_cast-out-2 c = omega (arith, digits-lone c.loop-to.left (omega arith))

pub overflow_add-out-2 : goal.overflow_add-out-2
overflow_add-out-2 c = omega (arith, digits-lone c.loop-to.left (omega arith))

pub bounds-out-at : goal.bounds-out-at
bounds-out-at c = omega (arith, digits-some c.loop-to.left)

pub returns-clause-buffer : goal.returns-clause-buffer
returns-clause-buffer c =
    let l = c.loop-to in
    rw (digits-one l.left (digits-lone l.left (omega arith))) at l.invariant.stored
