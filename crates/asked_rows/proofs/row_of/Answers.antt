-- `row_of` joins one request of the group after the other to the row: after i requests it is the row of the first i. Assumes nothing.
use mathlib.Core.Path.{◌≡◌, ap, ◌∙◌}
use native.Mathlib.Omega.{arith}
use lib.ListN.{get_or}
use Rattle.minislot.specs.declared.Minislot.{Minislot}
use Rattle.requests.specs.Together.{placed}
use Rattle.asked_rows.proofs.Rows.{no_request, sent, row-none, row_same, row_more}
use Rattle.asked_rows.proofs.row_of.Goals as goal
use Rattle.asked_rows.proofs.row_of.Goals.{then-a-group, else-a-group}

pub loop-a-init : goal.loop-a-init
loop-a-init c = row-none c.args.group

pub loop-a-preserved : goal.loop-a-preserved
loop-a-preserved c =
    let l = c.loop-a in
    let a = c.args in
    let s = get_or a.requests.now l.a-index no_request in
    elim c.if-a-group.branch [
      | then-a-group w ↦
          w.row-is
          ∙ w.place-joined.ensures
          ∙ ap (λ (x : Minislot). placed s.minislot x l.row) w.carry.ensures
          ∙ ap (placed s.minislot (sent s)) l.invariant
          ∙ row_more a.group a.requests.now l.a-index no_request (omega arith) w.if-a-group.true
      | else-a-group w ↦ rw w.row-is (l.invariant ∙ row_same a.group a.requests.now l.a-index no_request (omega arith) w.if-a-group.false)
    ]
