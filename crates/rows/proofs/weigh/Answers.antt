-- `weigh` sums the weights of the eight places in order. After i of them the tally is the weight of the first i. A sum is at most 16
-- (`weight-fits`), so that none passes a byte.
-- Assumes nothing.
use mathlib.Core.Path.{◌≡◌, refl, ap, ◌∙◌, sym}
use Prim.Native.Nat.{suc, ◌+◌, ◌≤◌}
use native.Mathlib.Numerals.{add-one}
use native.Mathlib.Omega.{arith}
use borrow.Author.Rules.{rules}
use lib.ListN.{length, take, length-take, length-map, get_or-map}
use lib.Seq.{take-length}
use Rattle.minislot.specs.declared.MinislotFeedback.{MinislotFeedback}
use Rattle.minislot.specs.declared.Feedback.TheVariants.{Empty}
use Rattle.rows.specs.Row.{weight, feedback_in}
use Rattle.rows.proofs.Weighing.{weight-next, weight-fits}
use Rattle.rows.proofs.weigh.Goals as goal

pub loop-minislot-init : goal.loop-minislot-init
unfolding weight
loop-minislot-init c = refl

-- the sum is the weight of one minislot more
summed : (c : goal.After-weight_of-tally)
    → c.loop-minislot.tally + c.weight_of-tally.result
    ≡ weight (take (suc c.loop-minislot.minislot-index) (feedback_in c.args.minislots))
summed c =
    let l = c.loop-minislot in
    let row = c.args.minislots in
    let w : length row ≡ 8 = search rules in
    rw (l.invariant, c.weight_of-tally.ensures, ← (get_or-map (λ (x : MinislotFeedback). x.feedback) row l.minislot-index (record { feedback = Empty })))
    (sym (weight-next (feedback_in row) l.minislot-index (rw length-map (omega arith))))

-- and at most 16
fits : (c : goal.After-weight_of-tally) → c.loop-minislot.tally + c.weight_of-tally.result ≤ 16
fits c =
    let i = c.loop-minislot.minislot-index in
    let row = feedback_in c.args.minislots in
    let few : length (take (suc i) row) ≤ 8 = rw length-take (omega arith) in
    omega (arith, summed c, weight-fits.most (take (suc i) row) few)

pub overflow_add-tally : goal.overflow_add-tally
overflow_add-tally c = omega (arith, fits c)

-- The sum is the tally as it stands; the bound is handed over for the must-fail edit, which takes the tally modulo 16. With it such a
-- tally is refused at a sum of 16, and one modulo 17 or more is not.
pub loop-minislot-preserved : goal.loop-minislot-preserved
loop-minislot-preserved c = rw add-one (omega (arith, summed c, fits c))

pub returns : goal.returns
returns c =
    let row = c.args.minislots in
    let w : length row ≡ 8 = search rules in
    let all : c.loop-minislot.minislot-index ≡ length (feedback_in row) = rw (length-map, w) (omega arith) in
    c.loop-minislot.invariant ∙ ap (λ n. weight (take n (feedback_in row))) all ∙ ap weight (take-length (feedback_in row))
