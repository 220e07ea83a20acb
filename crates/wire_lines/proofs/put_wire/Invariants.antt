-- `put_wire` meets its contract. The loop's invariant: with the lines to come put from where it stands, buffer and place are what they are to be.
-- Assumes nothing.
use lib.ListN.{drop}
use Rattle.programs.proofs.LineRuns.{Run}
use Rattle.wire_lines.specs.WireLines.{wire_line, groups_lines}
use Rattle.wire_lines.proofs.put_wire.Given as goal

abbrev pub invariant-loop-i : goal.invariant-loop-i
invariant-loop-i l =
    let lines = groups_lines l.n (wire_line l.call l.m l.wire) in Run l.initial.out l.at lines l.out l.to (drop l.i lines)
