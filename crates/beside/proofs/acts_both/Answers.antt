-- `acts_both` takes the messages one after the other: those before i have acted. Assumes nothing.
use mathlib.Core.Path.{sym, ◌∙◌}
use Prim.Native.Nat.{◌<◌}
use native.Mathlib.Omega.{arith}
use Rattle.beside.proofs.Rounds.{pair, acted, passed, first-acts, both_act}
use Rattle.beside.proofs.acts_both.Goals as goal
use Rattle.beside.proofs.acts_both.Goals.{then-both_fresh, else-both_fresh, then-not-idle, else-not-idle}

pub loop-i-init : goal.loop-i-init
loop-i-init c = (
  elim c.if-both_fresh.branch [ then-both_fresh w ↦ omega arith | else-both_fresh w ↦ omega arith ],
  rw (c.stay.ensures, c.stay-2.ensures),
)

pub loop-i-preserved : goal.loop-i-preserved
loop-i-preserved c =
    let a = c.args in
    let l = c.loop-i in
    let low : l.i < 2 = omega arith in
    let idles = c.idle.ensures in (
      l.invariant.0,
      elim c.if-not-idle.branch [
        | then-not-idle w ↦ w.after-is ∙ acted a.o a.pick (pair a.o a.pick a.short a.long) l.i low l.invariant.1 w.acts.ensures
        | else-not-idle w ↦ w.after-is ∙ passed a.o a.pick (pair a.o a.pick a.short a.long) l.i low l.invariant.1 (sym idles ∙ w.if-not-idle.false)
      ],
    )

pub returns : goal.returns
returns c =
    let a = c.args in
    let l = c.loop-i in
    let fresh = c.both_fresh.ensures in
    elim c.if-both_fresh.branch [
      | then-both_fresh w ↦ l.invariant.1 ∙ first-acts a.o a.pick a.short a.long l.i (omega arith) (sym fresh ∙ w.if-both_fresh.true)
      | else-both_fresh w ↦ l.invariant.1 ∙ both_act a.o a.pick a.short a.long l.i (omega arith) (sym fresh ∙ w.if-both_fresh.false)
    ]
