-- `crowded` counts each place from the last one down: what is left of the queue tests as the whole. Assumes nothing.
use mathlib.Core.Path.{◌≡◌, sym, ap, ◌∙◌}
use Prim.Native.Nat.{◌+◌, ◌-◌, ◌≤◌, ◌<◌}
use native.Mathlib.Omega.{arith}
use lib.Dec.{eqb}
use Rattle.listlaws.specs.Lists.{count_of}
use Rattle.crowds.specs.Crowds.{crowded}
use Rattle.crowds.proofs.Counting.{crowded-next, crowded_stop}
use Rattle.crowds.proofs.crowded.Goals as goal

pub returns-then-times-lt2 : goal.returns-then-times-lt2
returns-then-times-lt2 c =
    let l = c.loop-passed in
    let a = c.args in
    let n : count_of (eqb (a.queue - l.passed)) a.places.now < 2 = omega (arith, c.times.ensures) in
    sym (sym l.invariant ∙ crowded_stop (a.queue - l.passed) a.places.now (omega arith) n)

pub loop-passed-preserved : goal.loop-passed-preserved
loop-passed-preserved c =
    let l = c.loop-passed in
    let a = c.args in
    let n : 2 ≤ count_of (eqb (a.queue - l.passed)) a.places.now = omega (arith, c.times.ensures) in
    let e : a.queue - l.passed - 1 ≡ a.queue - (l.passed + 1) = omega arith in
    sym (crowded-next (a.queue - l.passed) a.places.now (omega arith) n ∙ ap (crowded a.places.now) e) ∙ l.invariant

pub returns : goal.returns
returns c =
    let l = c.loop-passed in
    let a = c.args in
    let z : a.queue - l.passed ≡ 0 = omega arith in
    sym (ap (crowded a.places.now) z) ∙ l.invariant
