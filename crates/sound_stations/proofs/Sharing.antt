-- The limits of records that share their counters: those of the counters once, and each station's index and message records under them. And the three
-- clauses in the order in which the code tests them. Assumes nothing.
use mathlib.Core.Path.{◌≡◌, refl, sym, ap, ◌∙◌}
use mathlib.Core.Bool.{Bool, true, false, ◌&&◌}
use mathlib.Core.List.{List, [], ◌∷◌}
use Rattle.std.specs.List.{list_all}
use Rattle.std.specs.Prelude.{Some, None, slice_get}
use Rattle.rules.specs.declared.Counters.{Counters}
use Rattle.rules.specs.declared.Station.{Station}
use Rattle.rules.specs.Limits.{within_limits}
use Rattle.rules.specs.StationLimits.{messages_within, station_within}
use Rattle.rules.specs.StationCalls.{is_index}
use Rattle.rules.proofs.SlotStep.{and_both}
use Rattle.channel_rules.specs.Soundness.{table_counters, same_counters, records_within, counters_shared, indexes_distinct}
use Rattle.channel_rules.proofs.SoundLists.{counters_eq}
use Rattle.sound_stations.specs.Stations.{beside_within, stations_sound}

-- a record with the counters k, which are within their limits
beside : (k : Counters) (s : Station) → k ≡ s.counters → within_limits k ≡ true → station_within s ≡ beside_within k s
unfolding station_within beside_within
beside k s e w =
    ap (λ (c : Counters). within_limits c && is_index s.index && messages_within c s.short.condition s.long.condition) (sym e)
    ∙ ap (λ (b : Bool). b && is_index s.index && messages_within k s.short.condition s.long.condition) w

besides : (k : Counters) (l : List Station) → within_limits k ≡ true → list_all (λ (s : Station). same_counters k s.counters) l ≡ true
    → list_all station_within l ≡ list_all (beside_within k) l
besides k [] w e = refl
besides k (s ∷ l) w e =
    let (here, rest) = and_both (same_counters k s.counters) (list_all (λ (s : Station). same_counters k s.counters) l) e in
    rw (beside k s (counters_eq k s.counters here) w, besides k l w rest)

module _ (l : List Station) where
  pub none_within : None ≡ slice_get l 0 → true ≡ records_within l
  unfolding records_within
  none_within = go l
    where
      go : (l : List Station) → None ≡ slice_get l 0 → true ≡ list_all station_within l
      go [] e = refl
      go (s ∷ l) e = cc

  -- the first record's counters are outside their limits
  pub limits_fail : (first : Station) → Some first ≡ slice_get l 0 → within_limits (table_counters l) ≡ false → false ≡ records_within l
  unfolding records_within station_within
  limits_fail = go l
    where
      go : (l : List Station) (first : Station) → Some first ≡ slice_get l 0 → within_limits (table_counters l) ≡ false → false ≡ list_all station_within l
      go [] first h e = cc
      go (s ∷ l) first h e = rw e

  pub limits-hold : counters_shared l ≡ true → within_limits (table_counters l) ≡ true → list_all (beside_within (table_counters l)) l ≡ records_within l
  unfolding records_within counters_shared
  limits-hold e w = sym (besides (table_counters l) l w e)

-- ---- the three clauses

swap : (a b : Bool) → a && b ≡ b && a
swap true true = refl
swap true false = refl
swap false true = refl
swap false false = refl

-- in the order in which the code tests them
pub in_order : (l : List Station) → stations_sound l ≡ counters_shared l && records_within l && indexes_distinct l
unfolding stations_sound
in_order l = ap (λ (b : Bool). b && indexes_distinct l) (swap (records_within l) (counters_shared l))
