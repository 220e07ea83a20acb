-- `read_minislots` reads a row's minislots in order. After j of them all were heard, and the array is that of the first j readings; a
-- refused one gives its number, and after the last the answer is the whole row's, with the weight of the array.
-- Assumes nothing.
use mathlib.Core.Path.{◌≡◌, refl, ◌∙◌, sym}
use Prim.Native.Nat.{◌<◌}
use native.Mathlib.Numerals.{add-one}
use native.Mathlib.Omega.{arith}
use lib.ListN.{length, get_or, take}
use lib.Seq.{take-length}
use Rattle.minislot.specs.declared.Reading.TheVariants.{Heard, Refused}
use Rattle.rows.specs.Row.{readings, feedbacks, weight, padded}
use Rattle.minislot.proofs.Readings.{refusal-number}
use Rattle.rows.proofs.Row.{readings-length, readings-at, heard-count, heard-padded, refused-first, refused-answer, heard-answer}
use Rattle.rows.proofs.Weighing.{weight-padded}
use Rattle.row_reading.proofs.read_minislots.Goals as goal

pub loop-j-init : goal.loop-j-init
unfolding feedbacks padded
loop-j-init c = (refl, refl)

pub returns-in-Refused : goal.returns-in-Refused
returns-in-Refused c =
    let l = c.loop-j in
    let a = c in
    let here = readings-at a.args.words.now a.args.counts.now l.j (Refused 0) (omega arith) (omega arith)
    ∙ sym c.read.ensures.0 ∙ c.in-Refused.is in
    let first = refused-first (readings a.args.words.now a.args.counts.now) l.j c.in-Refused.number (Refused 0)
    (omega (arith, readings-length a.args.words.now a.args.counts.now (omega arith))) here l.invariant.0 in
    c.refused.ensures
    ∙ refused-answer a.args.words.now a.args.counts.now c.in-Refused.number
    (refusal-number _ _ _ (sym c.read.ensures.0 ∙ c.in-Refused.is)).low first

pub loop-j-preserved : goal.loop-j-preserved
loop-j-preserved c =
    let l = c.loop-j in
    let a = c in
    let f = c.in-Heard.feedback in
    let rs = readings a.args.words.now a.args.counts.now in
    let n : l.j < length rs = omega (arith, readings-length a.args.words.now a.args.counts.now (omega arith)) in
    let here : get_or rs l.j (Refused 0) ≡ Heard f =
    readings-at a.args.words.now a.args.counts.now l.j (Refused 0) (omega arith) (omega arith)
    ∙ sym c.read.ensures.0 ∙ c.in-Heard.is in (
      rw add-one (heard-count rs l.j f (Refused 0) n here l.invariant.0),
      rw (l.invariant.1, add-one) (sym (heard-padded rs l.j f (Refused 0) n here 8 l.invariant.0 (omega arith))),
    )

pub returns : goal.returns
returns c =
    let l = c.loop-j in
    let words = c.args.words.now in
    let counts = c.args.counts.now in
    let e : length (readings words counts) ≡ l.j = readings-length words counts (omega arith) ∙ omega arith in
    let all : take l.j (readings words counts) ≡ readings words counts = rw (← e) (take-length (readings words counts)) in
    let heard : length (feedbacks (readings words counts)) ≡ l.j = rw all at l.invariant.0 in
    let array : l.minislots ≡ padded 8 (feedbacks (readings words counts)) = rw all at l.invariant.1 in
    let weighed : c.weigh.result ≡ weight (feedbacks (readings words counts)) =
    c.weigh.ensures ∙ rw array (weight-padded 8 (feedbacks (readings words counts)) (omega (arith, heard))) in
    rw (weighed, array) (heard-answer words counts (heard ∙ sym e))
