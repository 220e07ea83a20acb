-- `put_groups` meets its contract, line by line. Assumes nothing.
use native.Mathlib.Omega.{arith}
use Rattle.programs.proofs.LineRuns.{run_none, run-line, run-whole}
use Rattle.wire_lines.proofs.GroupRuns.{next-group, no_group}
use Rattle.counter_lines.specs.CounterLines.{group_line}
use Rattle.counter_lines.proofs.put_groups.Goals as goal

pub loop-i-init : goal.loop-i-init
loop-i-init c = run_none _ _ _

pub loop-i-preserved : goal.loop-i-preserved
loop-i-preserved c =
    let l = c.loop-i in
    let a = c.args in
    let e = next-group a.c.groups (group_line a.call a.c) l.i (omega arith) in
    run-line l.invariant e (c.put_group-to.ensures.buffer, c.put_group-to.ensures.reached)

pub returns : goal.returns
returns c =
    let l = c.loop-i in
    let a = c.args in
    let all_told = run-whole l.invariant (no_group a.c.groups (group_line a.call a.c) l.i (omega arith)) in
    record { buffer = all_told.0; reached = all_told.1 }
