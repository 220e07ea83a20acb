-- `field_at` meets its contract. The loop's invariant: what the reader answers at the place reached, with the digits read, is what it answers at the start.
-- Assumes nothing.
use mathlib.Core.Path.{◌≡◌, refl, sym, ◌∙◌}
use Prim.Native.Nat.{◌≤◌}
use native.Mathlib.Omega.{arith}
use lib.ListN.{length}
use Rattle.fields.proofs.Parts.{read-start, end_none, end_done, comma_none, comma_done, byte-other, byte_full, byte-digit, below-digits, above-digits, among-digits, grows}
use Rattle.fields.proofs.field_at.Goals as goal
use Rattle.fields.proofs.field_at.Goals.{then-b-lt48-via-then-b-lt48, then-b-lt48-via-else-b-lt48+then-b-gt57, then-b-lt48-via-else-b-lt48+else-b-gt57+then-digits-eq-MOST_DIGITS}

pub loop-at-init : goal.loop-at-init
loop-at-init c = (omega arith, omega arith, λ e. absurd (e refl), read-start c.args.start 0 0 c.args.bytes.now)

pub returns-then-digits-eq0 : goal.returns-then-digits-eq0
returns-then-digits-eq0 c =
    let l = c.loop-at in
    sym (comma_none l.at l.value l.digits _ c.loop-at-test.true c.if-b-eq44.true c.if-digits-eq0.true) ∙ l.invariant.3

pub returns-then-b-eq44 : goal.returns-then-b-eq44
returns-then-b-eq44 c =
    let l = c.loop-at in
    sym (comma_done l.at l.value l.digits _ c.loop-at-test.true c.if-b-eq44.true c.if-digits-eq0.false l.invariant.0) ∙ l.invariant.3

pub returns-then-b-lt48 : goal.returns-then-b-lt48
returns-then-b-lt48 c =
    let l = c.loop-at in
    let other = byte-other l.at l.value l.digits c.args.bytes.now c.loop-at-test.true c.if-b-eq44.false in
    elim c.then-b-lt48.branch [
      | then-b-lt48-via-then-b-lt48 w ↦ sym (other (below-digits _ w.if-b-lt48.true)) ∙ l.invariant.3
      | then-b-lt48-via-else-b-lt48+then-b-gt57 w ↦ sym (other (above-digits _ w.if-b-gt57.true)) ∙ l.invariant.3
      | then-b-lt48-via-else-b-lt48+else-b-gt57+then-digits-eq-MOST_DIGITS w ↦
          sym (byte_full l.at l.value l.digits _ c.loop-at-test.true c.if-b-eq44.false w.if-digits-eq-MOST_DIGITS.true) ∙ l.invariant.3
    ]

pub loop-at-preserved : goal.loop-at-preserved
loop-at-preserved c =
    let l = c.loop-at in (
      omega arith,
      rw c.from.ensures (grows l.value l.digits _ l.invariant.1 (omega arith)),
      λ e. omega arith,
      rw c.from.ensures (sym (byte-digit l.at l.value l.digits _ c.loop-at-test.true c.if-b-eq44.false (among-digits _ c.if-b-lt48.false c.if-b-gt57.false)) ∙ l.invariant.3),
    )

pub returns-then-digits-eq0-2 : goal.returns-then-digits-eq0-2
returns-then-digits-eq0-2 c =
    let l = c.loop-at in
    sym (end_none l.at l.value l.digits _ c.loop-at-test.false c.if-digits-eq0-2.true) ∙ l.invariant.3

pub returns : goal.returns
returns c =
    let l = c.loop-at in
    let n : l.at ≤ length c.args.bytes.now = l.invariant.2 c.if-digits-eq0-2.false in
    let k : length c.args.bytes.now ≡ l.at = omega arith in
    rw k (sym (end_done l.at l.value l.digits _ c.loop-at-test.false c.if-digits-eq0-2.false l.invariant.0) ∙ l.invariant.3)
