-- `same_minislots` compares one minislot after the other: each one before j is the same, and one that is not fails the row. Assumes nothing.
use mathlib.Core.Path.{◌≡◌, sym, ◌∙◌}
use native.Mathlib.Omega.{arith}
use borrow.Author.Rules.{rules}
use borrow.Author.Count.{below_more}
use lib.ListN.{length}
use Rattle.listlaws.proofs.Table.{every_fails, every_holds}
use Rattle.requests.specs.Together.{silent}
use Rattle.sound_wire.proofs.same_minislots.Goals as goal
use Rattle.sound_wire.proofs.same_minislots.Invariants.{same}

pub returns-then-not-same_minislot : goal.returns-then-not-same_minislot
returns-then-not-same_minislot c =
    let l = c.loop-j in
    let a = c.args in
    let v : length a.a.now ≡ 8 = search rules in
    (v, sym (every_fails (same a.b.now) silent a.a.now l.j (omega arith) (sym c.same_minislot.ensures ∙ c.if-not-same_minislot.true)))

pub loop-j-preserved : goal.loop-j-preserved
loop-j-preserved c = below_more _ _ c.loop-j.invariant (sym c.same_minislot.ensures ∙ c.if-not-same_minislot.false)

pub returns : goal.returns
returns c =
    let l = c.loop-j in
    let a = c.args in
    let v : length a.a.now ≡ 8 = search rules in
    (v, sym (every_holds (same a.b.now) silent a.a.now (λ k h. l.invariant k (omega arith))))
