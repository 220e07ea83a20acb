-- `put_station` puts the line of one record after that of the other, which is the run of both. Assumes nothing.
use Rattle.programs.proofs.LineRuns.{one_line, then_lines}
use Rattle.message_lines.specs.MessageLines.{message_lines}
use Rattle.message_lines.proofs.put_station.Goals as goal

pub returns : goal.returns
unfolding message_lines
returns c =
    let short = one_line (c.put_message-second.ensures.buffer, c.put_message-second.ensures.reached) in
    let both = then_lines short (one_line (c.put_message.ensures.buffer, c.put_message.ensures.reached)) in record {
      buffer = both.buffer;
      reached = both.reached;
    }
