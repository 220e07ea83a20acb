-- `put_wire` meets its contract, line by line. Assumes nothing.
use native.Mathlib.Omega.{arith}
use Rattle.programs.proofs.LineRuns.{run_none, run-line, run-whole}
use Rattle.wire_lines.specs.WireLines.{wire_line}
use Rattle.wire_lines.proofs.GroupRuns.{next-group, no_group}
use Rattle.wire_lines.proofs.put_wire.Goals as goal

pub loop-i-init : goal.loop-i-init
loop-i-init c = run_none _ _ _

pub loop-i-preserved : goal.loop-i-preserved
loop-i-preserved c =
    let l = c.loop-i in
    let a = c.args in
    let e = next-group a.n (wire_line a.call a.m a.wire) l.i (omega arith) in
    run-line l.invariant e (c.put_row-to.ensures.buffer, c.put_row-to.ensures.reached)

pub returns : goal.returns
returns c =
    let l = c.loop-i in
    let a = c.args in
    let all_told = run-whole l.invariant (no_group a.n (wire_line a.call a.m a.wire) l.i (omega arith)) in
    record { buffer = all_told.0; reached = all_told.1 }
