-- All that `show` prints of a sound channel of 64 stations at most: no more than 23,854 bytes, which is 149 for the counters, 569 for the
-- owners, 107 for each of 8 groups, 149 for each of a station's two records and 401 for each of 8 rows.
-- Assumes nothing.
use mathlib.Core.List.{◌∷◌, ◌++◌}
use Prim.Native.Nat.{ℕ, ◌+◌, ◌*◌, ◌≤◌}
use native.Mathlib.Omega.{arith}
use lib.ListN.{length, length-append}
use Rattle.std.specs.List.{flat_map}
use Rattle.programs.specs.Advancing.{joined}
use Rattle.rules.specs.declared.Counters.{Counters}
use Rattle.rules.specs.StationCalls.{no_station}
use Rattle.rules.proofs.LimitLaws.{Within, within-limits, station_in}
use Rattle.channel_rules.specs.Soundness.{table_counters}
use Rattle.channel_rules.specs.SoundMeaning.{station_at}
use Rattle.channel_rules.specs.ChannelCalls.{Channel}
use Rattle.message_lines.specs.MessageLines.{message_lines}
use Rattle.wire_lines.specs.WireLines.{wire_line, groups_lines}
use Rattle.counter_lines.specs.CounterLines.{counters_line, owners_line, group_line}
use Rattle.show_lines.specs.ShowLines.{show_lines}
use Rattle.rehearse_reads.specs.Bounds.{SoundChannel, ShownWithin}
use Rattle.rehearse_reads.proofs.LineBounds.{In64, joined-two, gathered-within, tabulated_within}
use Rattle.rehearse_reads.proofs.StationBounds.{counters-line, owners-line, group-line, message-lines}
use Rattle.rehearse_reads.proofs.WireBounds.{wire-line}

-- the counters that all its stations share are within their limits
pub counters-within : (ch : Channel) → SoundChannel ch → Within (table_counters ch.stations)
counters-within ch s = within-limits (table_counters ch.stations) (station_in (station_at ch.stations 0) (s.sound.within 0 s.some)).counters

module _ (ch : Channel) (s : SoundChannel ch) (k : ℕ) (h : In64 k) where
  abbrev c : Counters
  c = table_counters ch.stations

  w : Within c
  w = counters-within ch s

  groups-within : length (joined (groups_lines c.groups (group_line k c))) ≤ c.groups * 107
  groups-within = tabulated_within 107 c.groups (λ i. group_line k c (i + 1)) (λ i q. group-line k c (i + 1) h w (omega (arith, w.groups)))

  messages-within : length (joined (flat_map (message_lines k) ch.stations)) ≤ length ch.stations * 298
  messages-within = gathered-within 298 (message_lines k) no_station ch.stations (λ i q. message-lines k (station_at ch.stations i) h (s.sound.within i q))

  rows-within : length (joined (groups_lines c.groups (wire_line k c.minislots ch.wire))) ≤ c.groups * 401
  rows-within =
      tabulated_within 401 c.groups (λ i. wire_line k c.minislots ch.wire (i + 1))
      (λ i q. wire-line ch.stations ch.wire s.sound (i + 1) (omega arith) (omega (arith, w.groups)) k c.minislots h w.minislots.1)

  all-within : length (joined (show_lines k c ch.stations ch.wire)) ≤ 23854
  unfolding show_lines
  all-within =
      let groups = groups_lines c.groups (group_line k c) in
      let messages = flat_map (message_lines k) ch.stations in
      let rows = groups_lines c.groups (wire_line k c.minislots ch.wire) in
      omega (
        arith,
        length-append (counters_line k c) (joined (owners_line k c ∷ groups ++ messages ++ rows)),
        length-append (owners_line k c) (joined (groups ++ messages ++ rows)),
        joined-two (groups ++ messages) rows,
        joined-two groups messages,
        counters-line k c h w,
        owners-line k c h w,
        groups-within,
        messages-within,
        rows-within,
        w.groups,
        s.few,
      )

pub show_within : ShownWithin
show_within = all-within
