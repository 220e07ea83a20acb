-- The table by value: how many stations it has; that it is the first of the records; and that, of a table that was loaded, it is that table,
-- or as long where there are more than 64. And what a refusal leaves. Assumes nothing.
use mathlib.Core.Path.{◌≡◌, sym, ap, ◌∙◌}
use mathlib.Core.Bool.{Bool, true, false}
use mathlib.Core.List.{List, ◌++◌, append-nil}
use Prim.Native.Nat.{ℕ, ◌-◌, ◌≤◌, ◌<◌}
use native.Mathlib.Omega.{arith}
use lib.ListN.{length, get_or, take, replicate, length-append, length-take, length-replicate}
use lib.Seq.{get_or-take}
use borrow.Author.Tests.{le-leb, lt-leb}
use Rattle.listlaws.specs.Steps.{latter}
use Rattle.listlaws.proofs.Beyond.{get_d_any}
use Rattle.listlaws.proofs.Steps.{length-all_steps}
use Rattle.rules.specs.declared.Station.{Station}
use Rattle.rules.specs.declared.WireRow.{WireRow}
use Rattle.rules.specs.Limits.{between}
use Rattle.channel_rules.specs.Soundness.{sound_table}
use Rattle.rules.specs.StationCalls.{no_station}
use Rattle.channel_rules.specs.ChannelCalls.{has_stations, refused}
use Rattle.rules.proofs.LimitLaws.{between-bounds}
use Rattle.table.specs.Loading.{absent, load_of}
use Rattle.table.proofs.Loading.{load-count, table-loaded, store-none}
use Rattle.calls.specs.ByValue.{channel_of, array_table}
use Rattle.calls.specs.Replies.{refused_decided, decided_left}

-- ---- 1 to 64

pub few_true : (n : ℕ) → between 1 n 64 ≡ true → (1 ≤ n) × (n ≤ 64)
few_true n e = between-bounds 1 n 64 e

pub many_false : (n : ℕ) → 64 < n → between 1 n 64 ≡ false
many_false n h = rw (le-leb 1 n (omega arith), lt-leb n 64 h)

-- ---- the table

module _ (stations : List Station) (n : ℕ) (full : length stations ≡ 64) where
  pub array-length : length (array_table stations n) ≡ n
  array-length = length-append (take n stations) (replicate (n - 64) no_station) ∙ rw (length-take, length-replicate (n - 64) no_station, full) (omega arith)

  pub array-first : n ≤ 64 → array_table stations n ≡ take n stations
  array-first h = ap (λ (k : ℕ). take n stations ++ replicate k no_station) (let e : n - 64 ≡ 0 = omega arith in e) ∙ append-nil (take n stations)

  -- a station of it, as the array is read
  pub array_at : n ≤ 64 → (k : ℕ) → k < n → get_or stations k absent ≡ get_or (array_table stations n) k no_station
  array_at h k w = get_d_any stations k absent no_station (omega arith) ∙ sym (get_or-take n stations k no_station w) ∙ ap (λ (l : List Station). get_or l k no_station) (sym (array-first h))

  -- its tests, as they are made of the array
  pub array-some : (b : Bool) → between 1 n 64 ≡ b → has_stations (array_table stations n) ≡ b
  array-some b e = rw array-length e

  pub array-sound : n ≤ 64 → (wire : List WireRow) (b : Bool) → sound_table (take n stations) wire ≡ b → sound_table (array_table stations n) wire ≡ b
  array-sound h wire b e = ap (λ (l : List Station). sound_table l wire) (array-first h) ∙ e

-- ---- a table that was loaded

pub load_full : (ys : List Station) → length (load_of ys).stations ≡ 64
unfolding load_of
load_full ys = length-all_steps latter (replicate 64 no_station) (take 64 ys) ∙ length-replicate 64 no_station

pub array-loaded : (ys : List Station) → length ys ≤ 64 → array_table (load_of ys).stations (load_of ys).count ≡ ys
array-loaded ys h = array-first (load_of ys).stations (load_of ys).count (load_full ys) (rw (load-count ys) h) ∙ table-loaded ys h

pub array-many : (ys : List Station) → length (array_table (load_of ys).stations (load_of ys).count) ≡ length ys
array-many ys = array-length (load_of ys).stations (load_of ys).count (load_full ys) ∙ load-count ys

-- a refusal leaves table and wire
pub refused-left : (ys : List Station) (wire : List WireRow) (k : ℕ) → decided_left ys (refused_decided wire k) ≡ refused (channel_of ys wire) k
refused-left ys wire k = rw (store-none ys)
