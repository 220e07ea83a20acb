-- `put_show` puts one run of lines after another, which is the run of all. Assumes nothing.
use lib.ListN.{take}
use Rattle.std.specs.List.{flat_map}
use Rattle.programs.proofs.LineRuns.{one_line, these-lines, then_lines}
use Rattle.counter_lines.specs.CounterLines.{group_line}
use Rattle.message_lines.specs.MessageLines.{message_lines}
use Rattle.wire_lines.specs.WireLines.{wire_line, groups_lines}
use Rattle.show_lines.specs.ShowLines.{show_lines}
use Rattle.show_lines.proofs.put_show.Goals as goal

pub returns : goal.returns
unfolding show_lines
returns c =
    let a = c.args in
    let owners = one_line (c.put_owners-second.ensures.buffer, c.put_owners-second.ensures.reached) in
    let groups = these-lines (groups_lines a.c.groups (group_line a.call a.c)) (c.put_groups-third.ensures.buffer, c.put_groups-third.ensures.reached) in
    let messages = these-lines (flat_map (message_lines a.call) (take a.count a.stations)) (c.put_messages-fourth.ensures.buffer, c.put_messages-fourth.ensures.reached) in
    let wire = these-lines (groups_lines a.c.groups (wire_line a.call a.c.minislots a.wire)) (c.put_wire.ensures.buffer, c.put_wire.ensures.reached) in
    let all = then_lines (then_lines (then_lines (then_lines (one_line (c.put_counters-first.ensures.buffer, c.put_counters-first.ensures.reached)) owners) groups) messages) wire in record {
      buffer = all.buffer;
      reached = all.reached;
    }
