-- `form_fits` meets its contract, byte by byte of the form. Assumes nothing.
use borrow.Author.Tests.{lt-leb}
use mathlib.Core.Path.{◌≡◌, sym, ap, ◌∙◌}
use native.Mathlib.Omega.{arith}
use lib.ListN.{length, drop}
use Rattle.listlaws.proofs.Loops.{to_end}
use Rattle.forms.proofs.FormLaws.{form_end, form-byte, number_size, form_nothing, room-less}
use Rattle.forms.proofs.form_fits.Goals.{then-b-ne-MARK+else-room_left-eq0, else-b-ne-MARK+in_default, else-b-ne-MARK+in-len1-up+else-room_left-size}
use Rattle.forms.proofs.form_fits.Goals as goal

pub returns-then-room_left-eq0 : goal.returns-then-room_left-eq0
returns-then-room_left-eq0 c =
    let l = c.loop-b in
    let n = ap length (form-byte c.args.form.now l.b-index l.left.now (omega arith) c.if-b-ne-MARK.true) in
    sym (lt-leb _ l.room_left (omega (arith, n))) ∙ l.invariant

pub returns-then-room_left-size : goal.returns-then-room_left-size
returns-then-room_left-size c =
    let l = c.loop-b in
    let n = number_size c.args.form.now l.b-index l.left.now 0 (omega arith) c.if-b-ne-MARK.false (omega arith) in
    sym (lt-leb _ l.room_left (omega (arith, n, c.digits-size.ensures.count))) ∙ l.invariant

pub loop-b-preserved : goal.loop-b-preserved
loop-b-preserved c =
    let l = c.loop-b in
    let f = c.args.form.now in
    elim c.if-b-ne-MARK.branch [
      | then-b-ne-MARK+else-room_left-eq0 w ↦
          let n = ap length (form-byte f l.b-index l.left.now (omega arith) w.if-b-ne-MARK.true) in
          rw (w.room_left-is, w.left-is) (room-less _ l.room_left 1 _ (omega (arith, n)) (omega arith) ∙ l.invariant)
      | else-b-ne-MARK+in_default w ↦
          let e = form_nothing f l.b-index l.left.now 0 (omega arith) w.if-b-ne-MARK.false (omega arith) in
          rw (w.room_left-is, w.left-is) (rw e at l.invariant)
      | else-b-ne-MARK+in-len1-up+else-room_left-size w ↦
          let n = number_size f l.b-index l.left.now 0 (omega arith) w.if-b-ne-MARK.false (omega arith) in
          let others : c.if-b-ne-MARK.left.now ≡ drop 1 l.left.now = ap (λ b. b.now) w.left-is ∙ to_end l.left.now 1 in
          rw (w.room_left-is, others) (room-less _ l.room_left w.digits-size.result _ (omega (arith, n, w.digits-size.ensures.count)) (omega arith) ∙ l.invariant)
    ]

pub returns : goal.returns
returns c =
    let l = c.loop-b in
    c.left_fits.ensures ∙ (rw (form_end c.args.form.now l.b-index l.left.now (omega arith)) at l.invariant)
