-- `write_left` meets its contract, number by number. Assumes nothing.
use mathlib.Core.Path.{refl, ap, ◌∙◌}
use mathlib.Core.List.{[], ◌∷◌}
use Prim.Native.Nat.{◌+◌}
use native.Mathlib.Omega.{arith}
use lib.ListN.{length, length-set}
use Rattle.decimals.specs.Decimal.{digits_of}
use Rattle.forms.proofs.Begun.{begun-byte, begun_piece, begun-whole, begun-same}
use Rattle.forms.proofs.FormLaws.{left-none, left-next, left-size}
use Rattle.forms.proofs.write_left.Goals as goal

pub bounds-out-to : goal.bounds-out-to
bounds-out-to c =
    let l = c.loop-value in
    let n = left-size c.args.values.now l.value-index (omega arith) in
    omega arith

pub write_number-to-requires : goal.write_number-to-requires
write_number-to-requires c =
    let l = c.loop-value in
    let n = left-size c.args.values.now l.value-index (omega arith) in
    let d = c.digits-size.ensures.count in
    (d, rw length-set (omega arith))

pub loop-value-preserved : goal.loop-value-preserved
loop-value-preserved c =
    let l = c.loop-value in
    let d = c.digits-size.ensures.count in
    begun_piece (begun-byte l.invariant (left-next c.args.values.now l.value-index (omega arith))) (digits_of _) refl c.write_number-to.ensures.buffer (c.write_number-to.ensures.reached ∙ ap (λ k. l.to + 1 + k) d)

pub write_bytes-requires : goal.write_bytes-requires
write_bytes-requires c =
    let l = c.loop-value in
    let n = ap length (left-none c.args.values.now l.value-index (omega arith)) in
    omega arith

pub returns : goal.returns
returns c =
    let l = c.loop-value in
    let e = left-none c.args.values.now l.value-index (omega arith) in
    let w = begun-whole (begun_piece (begun-same l.invariant e) (13 ∷ 10 ∷ []) refl c.write_bytes.ensures.buffer c.write_bytes.ensures.reached) refl in record {
      buffer = w.0;
      reached = w.1;
    }
