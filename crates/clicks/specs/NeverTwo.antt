-- Number 2 is retired (paper 02, T-01): no reading, no row, no listening and no station's slot gives it, whatever its arguments. Of
-- `follow` the same is shown in crate `following`; a channel's calls never had it. Assumes nothing.
use Rattle.std.specs.Prelude.{List, ◌≢◌, ℕ}
use Rattle.minislot.specs.Reading.{reading_number_of}
use Rattle.rows.specs.Row.{row_of}
use Rattle.rules.specs.declared.Counters.{Counters}
use Rattle.rules.specs.declared.Station.{Station}
use Rattle.rules.specs.Listening.{listen_number_of}
use Rattle.rules.specs.StationCalls.{slot_number_of}

pub record NeverTwo : Type 0 where
  pub reading : (word count : ℕ) → reading_number_of word count ≢ 2
  pub row : (m : ℕ) (words counts : List ℕ) → (row_of m words counts).number ≢ 2
  pub listening : (c : Counters) (words counts : List ℕ) → listen_number_of c words counts ≢ 2
  pub slot : (s : Station) (words counts : List ℕ) (pick : ℕ) → slot_number_of s words counts pick ≢ 2
