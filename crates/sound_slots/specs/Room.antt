-- How long the queues of a sound table can be: each place of H is a station's, by its short record; each station has at most 255 slots in
-- N, by its long one; and each place of an RQ has two records or more, of which a station has two. So no queue of 64 stations is ever full
-- (proofs/NeverSeven). Assumes nothing.
use Rattle.std.specs.Prelude.{List, ℕ, ◌*◌, ◌≤◌, length}
use Rattle.rules.specs.declared.Station.{Station}
use Rattle.rules.specs.StationLimits.{resolution_at}
use Rattle.channel_rules.specs.Soundness.{table_counters}

pub record Room (stations : List Station) : Type 0 where
  pub urgent : (table_counters stations).urgent ≤ length stations
  pub long : (table_counters stations).long ≤ 255 * length stations
  pub resolution : (g : ℕ) → 1 ≤ g → g ≤ 8 → resolution_at (table_counters stations) g ≤ length stations
