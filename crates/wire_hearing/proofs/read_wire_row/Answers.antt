-- `read_wire_row` copies the row of the wire as words and counts, and reads its first m minislots. Assumes nothing.
use Rattle.wire_hearing.proofs.Copying.{zeros, copied_more, copied_all}
use Rattle.listlaws.specs.Steps.{latter}
use Rattle.listlaws.proofs.Steps.{length-first_steps}
use Rattle.minislot.specs.declared.Minislot.{Minislot}
use lib.ListN.{length}
use native.Mathlib.Omega.{arith}
use Prim.Native.Nat.{◌-◌, min}
use mathlib.Core.Path.{◌≡◌, refl, ◌∙◌, ap}
use borrow.Author.Rules.{rules}
use Rattle.wire_hearing.proofs.read_wire_row.Goals as goal

pub loop-j-init : goal.loop-j-init
loop-j-init c = (omega arith, refl, refl)

pub loop-j-preserved : goal.loop-j-preserved
loop-j-preserved c = let a = c.args in
    let l = c.loop-j in
    let w : length a.minislots ≡ 8 = search rules in
    (omega arith, rw l.invariant.1 (copied_more (λ (x : Minislot). x.word) refl a.minislots w l.j (omega arith)), rw l.invariant.2 (copied_more (λ (x : Minislot). x.count) refl a.minislots w l.j (omega arith)))

pub slice_bounds-read_row-end : goal.slice_bounds-read_row-end
slice_bounds-read_row-end c = let l = c.loop-j in
    let q = c.held-end.ensures in
    let w : length l.words ≡ 8 = ap length l.invariant.1 ∙ length-first_steps latter l.j zeros _ in
    omega arith

pub slice_bounds-read_row-end-2 : goal.slice_bounds-read_row-end-2
slice_bounds-read_row-end-2 c = let l = c.loop-j in
    let q = c.held-end.ensures in
    let w : length l.counts ≡ 8 = ap length l.invariant.2 ∙ length-first_steps latter l.j zeros _ in
    omega arith

pub returns : goal.returns
returns c = let a = c.args in
    let l = c.loop-j in
    let end = c.held-end in
    let w : length a.minislots ≡ 8 = search rules in
    let z : end.result - 0 ≡ min a.m 8 = omega (arith, end.ensures) in
    let y : l.j ≡ 8 = omega arith in
    c.read_row.ensures ∙ rw (z, l.invariant.1, l.invariant.2, y, copied_all (λ (x : Minislot). x.word) refl a.minislots w a.m, copied_all (λ (x : Minislot). x.count) refl a.minislots w a.m)
