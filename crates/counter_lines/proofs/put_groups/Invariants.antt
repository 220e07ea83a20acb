-- `put_groups` meets its contract. The loop's invariant: with the lines to come put from where it stands, buffer and place are what they are to be.
-- Assumes nothing.
use lib.ListN.{drop}
use Rattle.programs.proofs.LineRuns.{Run}
use Rattle.wire_lines.specs.WireLines.{groups_lines}
use Rattle.counter_lines.specs.CounterLines.{group_line}
use Rattle.counter_lines.proofs.put_groups.Given as goal

abbrev pub invariant-loop-i : goal.invariant-loop-i
invariant-loop-i l =
    let lines = groups_lines l.c.groups (group_line l.call l.c) in Run l.initial.out l.at lines l.out l.to (drop l.i lines)
