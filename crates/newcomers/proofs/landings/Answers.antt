-- `landings` lands a newcomer of each minislot, one after the other: after j of them the lengths and the landings are those of the first j. Assumes nothing.
use mathlib.Core.Path.{◌≡◌, refl, subst, sym, ap, ◌∙◌}
use mathlib.Core.List.{List}
use Prim.Native.Nat.{◌-◌, ◌≤◌, ◌<◌}
use native.Mathlib.Numerals.{add-one}
use native.Mathlib.Omega.{arith}
use lib.ListN.{length, get_or, take}
use lib.Seq.{take_all}
use Rattle.listlaws.proofs.Fold.{fold_more}
use Rattle.minislot.specs.declared.Feedback.{Feedback}
use Rattle.minislot.specs.declared.Feedback.TheVariants.{Empty}
use Rattle.rules.specs.declared.Places.{Places}
use Rattle.rules.specs.Queueing.{queued, queued_row}
use Rattle.rules.specs.Landing.{landings as landings_of}
use Rattle.queueing.specs.Bounds.{Within}
use Rattle.queueing.proofs.Rows.{blank, first, first-length, feedback-at}
use Rattle.newcomers.specs.Landable.{MinislotFits}
use Rattle.newcomers.proofs.Minislots.{landing_none, landing_more, fits-at, narrow}
use borrow.Author.Rules.{rules}
use Rattle.newcomers.proofs.landings.Goals as goal

pub loop-j-init : goal.loop-j-init
unfolding queued_row
loop-j-init c = (refl, landing_none c.args.success c.args.before)

pub bounds-row-j : goal.bounds-row-j
bounds-row-j c = omega (arith, c.held-n.ensures)

pub land-landing-requires : goal.land-landing-requires
land-landing-requires c =
    let a = c.args in
    let l = c.loop-j in
    let w : length a.row ≡ 8 = search rules in
    let h : l.j < length (first a.m a.row) = omega (arith, first-length a.m a.row, c.held-n.ensures) in
    subst (λ (x : Places). MinislotFits a.success x (get_or a.row l.j blank).feedback) (sym l.invariant.0)
    (fits-at a.success a.before a.m l.j a.row h c.requires)

pub offset_bounds-landed-j : goal.offset_bounds-landed-j
offset_bounds-landed-j c = omega (arith, c.held-n.ensures)

pub bounds-landed-j : goal.bounds-landed-j
bounds-landed-j c = omega (arith, c.held-n.ensures)

pub queue-p-requires : goal.queue-p-requires
queue-p-requires c =
    let a = c.args in
    let l = c.loop-j in
    let w : length a.row ≡ 8 = search rules in
    let h : l.j < length (first a.m a.row) = omega (arith, first-length a.m a.row, c.held-n.ensures) in
    subst (Within 70000) (sym l.invariant.0)
    (narrow a.success (queued_row a.success a.before (take l.j (first a.m a.row))) (get_or a.row l.j blank).feedback (fits-at a.success a.before a.m l.j a.row h c.requires).0)

pub loop-j-preserved : goal.loop-j-preserved
unfolding queued_row
loop-j-preserved c =
    let a = c.args in
    let l = c.loop-j in
    let row = first a.m a.row in
    let w : length a.row ≡ 8 = search rules in
    let h : l.j < length row = omega (arith, first-length a.m a.row, c.held-n.ensures) in
    let f = feedback-at a.m l.j a.row (omega (arith, c.held-n.ensures)) in (
      c.queue-p.ensures.value ∙ rw (l.invariant.0, ← f, add-one) (fold_more (queued a.success) a.before row l.j Empty h),
      rw (c.land-landing.ensures, l.invariant.1, l.invariant.0, ← f, add-one) (landing_more a.success a.before row 8 l.j h (omega arith)),
    )

pub returns : goal.returns
returns c =
    let a = c.args in
    let l = c.loop-j in
    let w : length a.row ≡ 8 = search rules in
    let h : length (first a.m a.row) ≤ l.j = omega (arith, first-length a.m a.row, c.held-n.ensures) in
    l.invariant.1 ∙ ap (λ (r : List Feedback). landings_of a.success a.before r 8) (take_all l.j (first a.m a.row) h)
