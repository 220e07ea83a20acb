-- `write_form` meets its contract, byte by byte of the form. Assumes nothing.
use mathlib.Core.Path.{◌≡◌, ap, ◌∙◌}
use Prim.Native.Nat.{ℕ, ◌+◌, ◌≤◌}
use native.Mathlib.Omega.{arith}
use lib.ListN.{length, drop}
use Rattle.decimals.specs.Decimal.{digits_of}
use Rattle.forms.specs.Form.{left_of}
use Rattle.forms.proofs.Begun.{begun-byte, begun_piece, begun-same}
use Rattle.listlaws.proofs.Loops.{to_end}
use Rattle.forms.proofs.FormLaws.{form_end, form-byte, form-number, number_size, form_nothing}
use Rattle.forms.proofs.write_form.Goals.{then-b-ne-MARK, else-b-ne-MARK+in_default, else-b-ne-MARK+in-len1-up}
use Rattle.forms.proofs.write_form.Goals as goal

pub bounds-out-to : goal.bounds-out-to
bounds-out-to c =
    let l = c.loop-b in
    let n = ap length (form-byte c.args.form.now l.b-index l.left.now (omega arith) c.if-b-ne-MARK.true) in
    omega arith

pub write_number-to-requires : goal.write_number-to-requires
write_number-to-requires c =
    let l = c.loop-b in
    let n = number_size c.args.form.now l.b-index l.left.now 0 (omega arith) c.if-b-ne-MARK.false (omega arith) in
    let d = c.digits-size.ensures.count in
    (d, omega arith)

pub loop-b-preserved : goal.loop-b-preserved
loop-b-preserved c =
    let l = c.loop-b in
    let f = c.args.form.now in
    elim c.if-b-ne-MARK.branch [
      | then-b-ne-MARK w ↦
          rw (w.out-is, w.to-is, w.left-is) (begun-byte l.invariant (form-byte f l.b-index l.left.now (omega arith) w.if-b-ne-MARK.true))
      | else-b-ne-MARK+in_default w ↦
          rw (w.out-is, w.to-is, w.left-is) (begun-same l.invariant (form_nothing f l.b-index l.left.now 0 (omega arith) w.if-b-ne-MARK.false (omega arith)))
      | else-b-ne-MARK+in-len1-up w ↦
          let others : c.if-b-ne-MARK.left.now ≡ drop 1 l.left.now = ap (λ b. b.now) w.left-is ∙ to_end l.left.now 1 in
          let e = form-number f l.b-index l.left.now 0 (omega arith) w.if-b-ne-MARK.false (omega arith) in
          rw (w.out-is, w.to-is, others)
          (begun_piece l.invariant (digits_of _) e w.write_number-to.ensures.buffer (w.write_number-to.ensures.reached ∙ ap (λ (k : ℕ). l.to + k) w.digits-size.ensures.count))
    ]

pub write_left-requires : goal.write_left-requires
write_left-requires c =
    let l = c.loop-b in
    let e = ap length (form_end c.args.form.now l.b-index l.left.now (omega arith)) in
    let n : l.to + length (left_of l.left.now) ≤ length l.out = omega arith in n

pub returns : goal.returns
returns c =
    let l = c.loop-b in
    let e = form_end c.args.form.now l.b-index l.left.now (omega arith) in record {
      buffer = c.write_left.ensures.buffer ∙ (rw e at l.invariant.stored);
      reached = omega (arith, c.write_left.ensures.reached, ap length e, l.invariant.place);
    }
