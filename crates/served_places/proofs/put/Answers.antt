-- `put` meets its contract. The loop's invariant: with the places to come put from where it stands, the list is what it is to be. Assumes nothing.
use mathlib.Core.Path.{◌≡◌, refl, ap, ◌∙◌}
use Prim.Native.Nat.{ℕ, ◌-◌, ◌<◌, min}
use native.Mathlib.Omega.{arith}
use lib.ListN.{length, length-set}
use Rattle.served_places.proofs.Putting.{put_next, put-among}
use Rattle.served_places.proofs.put.Goals as goal

pub loop-k-init : goal.loop-k-init
loop-k-init c = (omega arith, refl, refl)

pub loop-k-preserved : goal.loop-k-preserved
loop-k-preserved c =
    let l = c.loop-k in
    let e : l.k < c.least-end.result = omega arith in
    (omega arith, rw length-set l.invariant.1, put_next _ l.served l.k _ e ∙ l.invariant.2)

pub returns : goal.returns
returns c =
    let l = c.loop-k in
    let r = c.least-end in
    let q = c.least-last in
    let a = c.args in
    let none : r.result - l.k ≡ 0 = omega arith in
    rw none at l.invariant.2 ∙ put-among a.index a.served.now a.had.first a.had.count a.w r.result (r.ensures ∙ ap (λ (m : ℕ). min m (length a.served.now)) q.ensures)
