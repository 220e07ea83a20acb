-- `put_messages` meets its contract. The loop's invariant: with the lines to come put from where it stands, buffer and place are what they are to be.
-- Assumes nothing.
use lib.ListN.{take, drop}
use Rattle.std.specs.List.{flat_map}
use Rattle.programs.proofs.LineRuns.{Run}
use Rattle.message_lines.specs.MessageLines.{message_lines}
use Rattle.message_lines.proofs.put_messages.Given as goal

abbrev pub invariant-loop-s : goal.invariant-loop-s
invariant-loop-s l =
    let lines = flat_map (message_lines l.call) (take l.count l.fn.stations) in
    Run l.initial.out l.at lines l.out l.to (flat_map (message_lines l.call) (drop l.s-index l.s-items))
