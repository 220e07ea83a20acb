-- `queue_row` folds step 1 over the first m minislots. After j of them the lengths are those of the first j, and have grown by at most 1 a
-- minislot, or 255 for N.
-- Assumes nothing.
use mathlib.Core.Path.{◌≡◌, refl, ap, ◌∙◌}
use mathlib.Core.List.{List, foldl}
use Prim.Native.Nat.{◌≤◌, ◌<◌}
use native.Mathlib.Numerals.{add-one}
use native.Mathlib.Omega.{arith}
use borrow.Author.Rules.{rules}
use lib.ListN.{length, take, length-take, length-map, get_or-map}
use lib.Seq.{take_all}
use Rattle.listlaws.proofs.Fold.{fold_more}
use Rattle.minislot.specs.declared.Feedback.{Feedback}
use Rattle.minislot.specs.declared.Feedback.TheVariants.{Empty}
use Rattle.minislot.specs.declared.MinislotFeedback.{MinislotFeedback}
use Rattle.rows.specs.Row.{feedback_in}
use Rattle.rules.specs.Queueing.{queued, queued_row}
use Rattle.queueing.proofs.Rows.{blank, held-first}
use Rattle.queueing.proofs.queue_row.Goals as goal

pub loop-minislot-init : goal.loop-minislot-init
loop-minislot-init c = (refl, omega arith, omega arith, omega arith)

pub queue-p-requires : goal.queue-p-requires
queue-p-requires c =
    let w : length c.args.row ≡ 8 = search rules in
    let few : length (take c.held.result c.args.row) ≤ 8 = rw length-take (omega arith) in
    omega arith

pub loop-minislot-preserved : goal.loop-minislot-preserved
loop-minislot-preserved c =
    let l = c.loop-minislot in
    let a = c.args in
    let part = take c.held.result a.row in
    let n : l.minislot-index < length (feedback_in part) = rw length-map (omega arith) in (
      c.queue-p.ensures.value
          ∙ rw (l.invariant.0, add-one, ← (get_or-map (λ (x : MinislotFeedback). x.feedback) part l.minislot-index blank))
          (fold_more (queued a.success) a.before (feedback_in part) l.minislot-index Empty n),
      omega (arith, c.queue-p.ensures),
      omega (arith, c.queue-p.ensures),
      omega (arith, c.queue-p.ensures),
    )

pub returns : goal.returns
unfolding queued_row
returns c =
    let l = c.loop-minislot in
    let a = c.args in
    let w : length a.row ≡ 8 = search rules in
    let part = feedback_in (take c.held.result a.row) in
    let all : length part ≤ l.minislot-index = rw length-map (omega arith) in
    l.invariant.0 ∙ ap (λ (r : List Feedback). foldl (queued a.success) a.before r)
    (take_all l.minislot-index part all ∙ held-first c.held.result a.m a.row c.held.ensures w)
