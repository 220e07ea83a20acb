-- The most that a record of `rehearse` prints: what `show` prints of a sound channel. Assumes nothing.
use Rattle.std.specs.Prelude.{ℕ, ◌≤◌, length}
use Rattle.programs.specs.Advancing.{joined}
use Rattle.channel_rules.specs.Soundness.{table_counters}
use Rattle.channel_rules.specs.SoundMeaning.{Sound}
use Rattle.channel_rules.specs.ChannelCalls.{Channel}
use Rattle.show_lines.specs.ShowLines.{show_lines}

-- a sound channel of 1 to 64 stations
pub record SoundChannel (ch : Channel) : Type 0 where
  pub some : 1 ≤ length ch.stations
  pub few : length ch.stations ≤ 64
  pub sound : Sound ch.stations ch.wire

-- all that is shown of it, as call `k` of 64 bits
abbrev pub ShownWithin : Type 0
ShownWithin = (ch : Channel) → SoundChannel ch → (k : ℕ) → k ≤ 18446744073709551615
    → length (joined (show_lines k (table_counters ch.stations) ch.stations ch.wire)) ≤ 23854
