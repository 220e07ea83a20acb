-- The quieted channel of a sound one is sound, and quiet: no message outside H and N, empty resolution queues, a silent wire. Its counters are within their
-- limits, as are any that differ from such in the next group, H, N, a mark and the position alone. Assumes nothing.
use mathlib.Core.Path.{◌≡◌, refl, sym, ap, subst, ◌∙◌}
use mathlib.Core.Bool.{Bool, true, false, ◌&&◌, cond}
use mathlib.Core.List.{List, [], ◌∷◌, map}
use Prim.Native.Nat.{ℕ, zero, suc, ◌+◌, ◌-◌, ◌≤◌, ◌<◌}
use native.Mathlib.Omega.{arith}
use lib.Dec.{eqb, leb, ltb}
use lib.ListN.{length, set, replicate, length-map}
use borrow.Author.Tests.{le-leb, lt-ltb, eq-eqb}
use Rattle.listlaws.specs.Every.{every_from}
use Rattle.rules.specs.declared.Counters.{Counters}
use Rattle.rules.specs.declared.Station.{Station}
use Rattle.rules.specs.declared.Condition.{Condition}
use Rattle.rules.specs.declared.Condition.TheVariants.{Free, Held, Fresh, Asked, Resolving, Urgent, Long}
use Rattle.rules.specs.Calendars.{calendar_within, entries_within}
use Rattle.rules.specs.Limits.{between, resolution_within, opened_within, groups_within, within_limits}
use Rattle.rules.specs.StationLimits.{condition_within, short_within, long_within, records_apart}
use Rattle.channel_rules.specs.Soundness.{table_counters, sound_table}
use Rattle.channel_rules.specs.SoundMeaning.{at_urgent, covers_long, station_at, Sound}
use Rattle.channel_rules.specs.ChannelCalls.{Channel, has_stations, blank_wire}
use Rattle.rules.proofs.LimitLaws.{Within, within-limits, calendar-in, arrays-lengths, RecordsIn}
use Rattle.rules.proofs.SlotStep.{and_both}
use Rattle.channel_rules.proofs.SoundMeans.{sound-says}
use Rattle.sound_slots.proofs.ChannelLaws.{first-within}
use Rattle.sound_slots.proofs.Passing.{some-stations}
use Rattle.coming_rules.specs.Quiet.{quiet_condition, quiet_counters, quiet_station, quieted}
use Rattle.coming_rules.proofs.Redone.{at_same, redone, redone-sound}

-- ---- limits

-- the marks of groups above n stay as at the start
pub marks_of : (c : Counters) → groups_within c ≡ true → every_from (opened_within c.groups) 0 c.opened ≡ true
unfolding groups_within
marks_of c e = (and_both (eqb (length c.resolution) 8 && eqb (length c.opened) 8 && every_from (resolution_within c.groups) 0 c.resolution) _ e).1

pub marks_set : (n i j : ℕ) (b : Bool) (l : List Bool) → j + i < n → every_from (opened_within n) j l ≡ true → every_from (opened_within n) j (set l i b) ≡ true
marks_set n i j b [] h e = refl
marks_set n zero j b (x ∷ l) h e = rw (lt-ltb j n (omega arith)) (and_both (opened_within n j x) (every_from (opened_within n) (suc j) l) e).1
marks_set n (suc i) j b (x ∷ l) h e =
    let (here, rest) = and_both (opened_within n j x) (every_from (opened_within n) (suc j) l) e in
    rw here (marks_set n i (suc j) b l (omega arith) rest)

none-waits : (n k i : ℕ) → every_from (resolution_within n) i (replicate k 0) ≡ true
none-waits n zero i = refl
none-waits n (suc k) i = rw (go (ltb i n)) (none-waits n k (suc i))
  where
    go : (b : Bool) → cond b (leb 0 4095) (eqb 0 0) ≡ true
    go true = refl
    go false = refl

-- of counters with empty resolution queues
pub quiet-within : (c d : Counters) → Within c → d.minislots ≡ c.minislots → d.groups ≡ c.groups → (1 ≤ d.next) × (d.next ≤ d.groups) → d.urgent ≤ c.urgent → d.long ≤ c.long
    → d.resolution ≡ replicate 8 0 → (length d.opened ≡ 8) × (every_from (opened_within d.groups) 0 d.opened ≡ true) → d.calendar ≡ c.calendar → d.position ≤ 23
    → within_limits d ≡ true
unfolding within_limits groups_within calendar_within entries_within
quiet-within c d w m n next u l r o k p =
    let cal = calendar-in c w.calendar in
    rw (
      le-leb 2 d.minislots (omega (arith, m, w.minislots)),
      le-leb d.minislots 8 (omega (arith, m, w.minislots)),
      le-leb 1 d.groups (omega (arith, n, w.groups)),
      le-leb d.groups 8 (omega (arith, n, w.groups)),
      le-leb 1 d.next next.0,
      le-leb d.next d.groups next.1,
      le-leb d.urgent 4095 (omega (arith, u, w.urgent)),
      le-leb d.long 65535 (omega (arith, l, w.long)),
      r,
      none-waits d.groups 8 0,
      eq-eqb (length d.opened) 8 o.0,
      o.1,
      le-leb d.position 23 p,
      k,
      eq-eqb (length c.calendar) 24 cal.size,
      cal.entries,
      cal.free,
    )

-- ---- conditions of H and N

pub calm-apart : (a b : Condition) → quiet_condition a ≡ a → records_apart a b ≡ true
unfolding records_apart
calm-apart Free b e = refl
calm-apart (Held t) b e = refl
calm-apart (Fresh t) b e = refl
calm-apart (Asked g j t) b e = let z : ◌≡◌ {A = ℕ} 0 1 = cc in absurd (omega arith)
calm-apart (Resolving g i t) b e = let z : ◌≡◌ {A = ℕ} 0 1 = cc in absurd (omega arith)
calm-apart (Urgent i) b e = refl
calm-apart (Long f l t) b e = refl

pub quiet-twice : (k : Condition) → quiet_condition (quiet_condition k) ≡ quiet_condition k
quiet-twice Free = refl
quiet-twice (Held t) = refl
quiet-twice (Fresh t) = refl
quiet-twice (Asked g j t) = refl
quiet-twice (Resolving g i t) = refl
quiet-twice (Urgent i) = refl
quiet-twice (Long f l t) = refl

module _ (c : Counters) where
  quiet_in : (k : Condition) → condition_within c k ≡ true → condition_within (quiet_counters c) (quiet_condition k) ≡ true
  unfolding condition_within
  quiet_in Free e = refl
  quiet_in (Held t) e = refl
  quiet_in (Fresh t) e = refl
  quiet_in (Asked g j t) e = refl
  quiet_in (Resolving g i t) e = refl
  quiet_in (Urgent i) e = e
  quiet_in (Long f l t) e = e

  quiet_short : (k : Condition) → short_within k ≡ true → short_within (quiet_condition k) ≡ true
  unfolding short_within
  quiet_short Free e = refl
  quiet_short (Held t) e = refl
  quiet_short (Fresh t) e = refl
  quiet_short (Asked g j t) e = refl
  quiet_short (Resolving g i t) e = refl
  quiet_short (Urgent i) e = refl
  quiet_short (Long f l t) e = e

  quiet_long : (k : Condition) → long_within k ≡ true → long_within (quiet_condition k) ≡ true
  unfolding long_within
  quiet_long Free e = refl
  quiet_long (Held t) e = refl
  quiet_long (Fresh t) e = refl
  quiet_long (Asked g j t) e = refl
  quiet_long (Resolving g i t) e = refl
  quiet_long (Urgent i) e = e
  quiet_long (Long f l t) e = e

  quiet-records : (a b : Condition) → RecordsIn c a b → RecordsIn (quiet_counters c) (quiet_condition a) (quiet_condition b)
  quiet-records a b r =
      record {
        short = quiet_in a r.short;
        brief = quiet_short a r.brief;
        long = quiet_in b r.long;
        lengthy = quiet_long b r.lengthy;
        apart = calm-apart (quiet_condition a) (quiet_condition b) (quiet-twice a);
      }

pub quiet-urgent : (i : ℕ) (k : Condition) → at_urgent i (quiet_condition k) ≡ at_urgent i k
quiet-urgent i Free = refl
quiet-urgent i (Held t) = refl
quiet-urgent i (Fresh t) = refl
quiet-urgent i (Asked g j t) = refl
quiet-urgent i (Resolving g j t) = refl
quiet-urgent i (Urgent j) = refl
quiet-urgent i (Long f l t) = refl

pub quiet_covers : (i : ℕ) (k : Condition) → covers_long i (quiet_condition k) ≡ covers_long i k
quiet_covers i Free = refl
quiet_covers i (Held t) = refl
quiet_covers i (Fresh t) = refl
quiet_covers i (Asked g j t) = refl
quiet_covers i (Resolving g j t) = refl
quiet_covers i (Urgent j) = refl
quiet_covers i (Long f l t) = refl

-- ---- A QUIET CHANNEL

abbrev pub AllCalm : List Station → Type 0
AllCalm [] = Unit {0}
AllCalm (s ∷ l) = (quiet_condition s.short.condition ≡ s.short.condition) × (quiet_condition s.long.condition ≡ s.long.condition) × AllCalm l

pub record Quiet (ch : Channel) : Type 0 where
  pub some : has_stations ch.stations ≡ true
  pub sound : sound_table ch.stations ch.wire ≡ true
  pub wire : ch.wire ≡ blank_wire
  pub empty : (table_counters ch.stations).resolution ≡ replicate 8 0
  pub calm : AllCalm ch.stations

pub redone-calm : (d : Counters) (φ : Condition → Condition) → ((k : Condition) → quiet_condition k ≡ k → quiet_condition (φ k) ≡ φ k) → (l : List Station) → AllCalm l → AllCalm (map (redone d φ) l)
redone-calm d φ kept [] c = tt
redone-calm d φ kept (s ∷ l) c = (kept s.short.condition c.0, kept s.long.condition c.1, redone-calm d φ kept l c.2)

-- all stations of a sound table share their counters
quiet-redone : (c : Counters) (l : List Station) → ((k : ℕ) → k < length l → (station_at l k).counters ≡ c) → map quiet_station l ≡ map (redone (quiet_counters c) quiet_condition) l
quiet-redone c [] e = refl
quiet-redone c (s ∷ l) e = rw (e zero (omega arith), quiet-redone c l (λ k h. e (suc k) (omega arith)))

all-calm : (c : Counters) (l : List Station) → AllCalm (map (redone c quiet_condition) l)
all-calm c [] = tt
all-calm c (s ∷ l) = (quiet-twice s.short.condition, quiet-twice s.long.condition, all-calm c l)

module _ (ch : Channel) (here : has_stations ch.stations ≡ true) (sound : sound_table ch.stations ch.wire ≡ true) where
  there : 1 ≤ length ch.stations
  there = some-stations ch.stations here

  is : Sound ch.stations ch.wire
  is = sound-says ch.stations ch.wire sound

  within : Within (table_counters ch.stations)
  within = within-limits (table_counters ch.stations) (first-within ch.stations ch.wire there sound)

  pub stations-quieted : map quiet_station ch.stations ≡ map (redone (quiet_counters (table_counters ch.stations)) quiet_condition) ch.stations
  stations-quieted = quiet-redone (table_counters ch.stations) ch.stations is.shared

  sound-quieted : sound_table (map (redone (quiet_counters (table_counters ch.stations)) quiet_condition) ch.stations) blank_wire ≡ true
  sound-quieted =
      let k = table_counters ch.stations in
      redone-sound ch.stations ch.wire there is (quiet_counters k) quiet_condition quiet-twice
      (quiet-within k (quiet_counters k) within refl refl within.next (omega arith) (omega arith) refl ((arrays-lengths k within.arrays).1, marks_of k within.arrays) refl
      (calendar-in k within.calendar).position)
      refl (λ g. at_same 8 (g - 1) 0) (quiet-records k)
      (λ i lo hi. record { place = i; low = lo; high = hi; same = λ x e. quiet-urgent i x })
      (λ i lo hi. record { place = i; low = lo; high = hi; same = λ x e. quiet_covers i x })

  first-empty : (l : List Station) → 1 ≤ length l → (table_counters (map quiet_station l)).resolution ≡ replicate 8 0
  first-empty [] h = absurd (omega arith)
  first-empty (s ∷ l) h = refl

  pub quieted-quiet : Quiet (quieted ch)
  quieted-quiet =
      record {
        some = ap (λ (n : ℕ). between 1 n 64) (length-map ch.stations quiet_station) ∙ here;
        sound = rw stations-quieted sound-quieted;
        wire = refl;
        empty = first-empty ch.stations there;
        calm = subst AllCalm (sym stations-quieted) (all-calm (quiet_counters (table_counters ch.stations)) ch.stations);
      }
