-- What the limits' tests say: of a record of counters within its limits, of lengths that pass none, and of a station's record.
-- Assumes nothing.
use mathlib.Core.Path.{◌≡◌, refl}
use mathlib.Core.Bool.{Bool, true, false, ◌&&◌, ◌||◌, and-eq-true_iff}
use Prim.Native.Nat.{ℕ, ◌≤◌}
use lib.Dec.{leb, ltb, eqb}
use lib.ListN.{length}
use borrow.Author.Tests.{leb-true, ltb-false, eqb-true}
use Rattle.listlaws.specs.Every.{every_from}
use Rattle.std.specs.List.{list_all}
use Rattle.rules.specs.declared.Counters.{Counters}
use Rattle.rules.specs.declared.Places.{Places}
use Rattle.rules.specs.declared.Station.{Station}
use Rattle.rules.specs.Calendars.{entries_within, some_free, calendar_within, entry_within}
use Rattle.rules.specs.Limits.{within_limits, groups_within, between, resolution_within, opened_within}
use Rattle.rules.specs.Queueing.{passes}
use Rattle.rules.specs.StationLimits.{Condition, condition_within, short_within, long_within, records_apart, messages_within, station_within}

pub between-bounds : (low x high : ℕ) → between low x high ≡ true → (low ≤ x) × (x ≤ high)
between-bounds low x high e =
    let p = (and-eq-true_iff (leb low x) (leb x high)).0 e in
    (leb-true low x p.0, leb-true x high p.1)

-- a record within its limits: minislots, groups, next group, H, N, the two arrays' test and the calendar's
pub record Within (c : Counters) : Type 0 where
  pub minislots : (2 ≤ c.minislots) × (c.minislots ≤ 8)
  pub groups : (1 ≤ c.groups) × (c.groups ≤ 8)
  pub next : (1 ≤ c.next) × (c.next ≤ c.groups)
  pub urgent : c.urgent ≤ 4095
  pub long : c.long ≤ 65535
  pub arrays : groups_within c ≡ true
  pub calendar : calendar_within c ≡ true

pub within-limits : (c : Counters) → within_limits c ≡ true → Within c
unfolding within_limits
within-limits c e =
    let m = between 2 c.minislots 8 in
    let n = between 1 c.groups 8 in
    let g = between 1 c.next c.groups in
    let u = leb c.urgent 4095 in
    let l = leb c.long 65535 in
    let p₆ = (and-eq-true_iff (m && n && (g && u && l && groups_within c)) (calendar_within c)).0 e in
    let p₅ = (and-eq-true_iff (m && n) (g && u && l && groups_within c)).0 p₆.0 in
    let p₁ = (and-eq-true_iff m n).0 p₅.0 in
    let p₄ = (and-eq-true_iff (g && u && l) (groups_within c)).0 p₅.1 in
    let p₃ = (and-eq-true_iff (g && u) l).0 p₄.0 in
    let p₂ = (and-eq-true_iff g u).0 p₃.0 in
    record {
      minislots = between-bounds 2 c.minislots 8 p₁.0;
      groups = between-bounds 1 c.groups 8 p₁.1;
      next = between-bounds 1 c.next c.groups p₂.0;
      urgent = leb-true c.urgent 4095 p₂.1;
      long = leb-true c.long 65535 p₃.1;
      arrays = p₄.1;
      calendar = p₆.1;
    }

-- a calendar and a position within their limits
pub record CalendarIn (c : Counters) : Type 0 where
  pub position : c.position ≤ 23
  pub size : length c.calendar ≡ 24
  pub entries : list_all entry_within c.calendar ≡ true
  pub free : some_free c.calendar ≡ true

pub calendar-in : (c : Counters) → calendar_within c ≡ true → CalendarIn c
unfolding calendar_within entries_within
calendar-in c e =
    let p = (and-eq-true_iff (leb c.position 23 && entries_within c.calendar) (some_free c.calendar)).0 e in
    let q = (and-eq-true_iff (leb c.position 23) (entries_within c.calendar)).0 p.0 in
    let r = (and-eq-true_iff (eqb (length c.calendar) 24) (list_all entry_within c.calendar)).0 q.1 in
    record { position = leb-true c.position 23 q.0; size = eqb-true (length c.calendar) 24 r.0; entries = r.1; free = p.1 }

-- the two arrays have a place for each of eight groups
pub arrays-lengths : (c : Counters) → groups_within c ≡ true → (length c.resolution ≡ 8) × (length c.opened ≡ 8)
unfolding groups_within
arrays-lengths c e =
    let lr = eqb (length c.resolution) 8 in
    let lo = eqb (length c.opened) 8 in
    let er = every_from (resolution_within c.groups) 0 c.resolution in
    let eo = every_from (opened_within c.groups) 0 c.opened in
    let p₃ = (and-eq-true_iff (lr && lo && er) eo).0 e in
    let p₂ = (and-eq-true_iff (lr && lo) er).0 p₃.0 in
    let p₁ = (and-eq-true_iff lr lo).0 p₂.0 in
    (eqb-true (length c.resolution) 8 p₁.0, eqb-true (length c.opened) 8 p₁.1)

or_false : (a b : Bool) → a || b ≡ false → (a ≡ false) × (b ≡ false)
or_false true b e = (e, cc)
or_false false b e = (refl, e)

-- lengths of which none passes its limit
pub none_passes : (p : Places) → passes p ≡ false → (p.urgent ≤ 4095) × (p.long ≤ 65535) × (p.resolution ≤ 4095)
unfolding passes
none_passes p e =
    let q = or_false (ltb 4095 p.urgent || ltb 65535 p.long) (ltb 4095 p.resolution) e in
    let r = or_false (ltb 4095 p.urgent) (ltb 65535 p.long) q.0 in
    (ltb-false 4095 p.urgent r.0, ltb-false 65535 p.long r.1, ltb-false 4095 p.resolution q.1)

-- a station's two records within their limits: each condition, each kind, and apart
pub record RecordsIn (c : Counters) (a b : Condition) : Type 0 where
  pub short : condition_within c a ≡ true
  pub brief : short_within a ≡ true
  pub long : condition_within c b ≡ true
  pub lengthy : long_within b ≡ true
  pub apart : records_apart a b ≡ true

pub records_in : (c : Counters) (a b : Condition) → messages_within c a b ≡ true → RecordsIn c a b
unfolding messages_within
records_in c a b e =
    let p₄ = (and-eq-true_iff (condition_within c a && short_within a && condition_within c b && long_within b) (records_apart a b)).0 e in
    let p₃ = (and-eq-true_iff (condition_within c a && short_within a && condition_within c b) (long_within b)).0 p₄.0 in
    let p₂ = (and-eq-true_iff (condition_within c a && short_within a) (condition_within c b)).0 p₃.0 in
    let p₁ = (and-eq-true_iff (condition_within c a) (short_within a)).0 p₂.0 in
    record { short = p₁.0; brief = p₁.1; long = p₂.1; lengthy = p₃.1; apart = p₄.1 }

-- a station's record within its limits: its counters, its index, its two message records
pub record StationIn (s : Station) : Type 0 where
  pub counters : within_limits s.counters ≡ true
  pub index : s.index ≤ 923
  pub records : RecordsIn s.counters s.short.condition s.long.condition

pub station_in : (s : Station) → station_within s ≡ true → StationIn s
unfolding station_within
station_in s e =
    let k = messages_within s.counters s.short.condition s.long.condition in
    let p = (and-eq-true_iff (within_limits s.counters && leb s.index 923) k).0 e in
    let q = (and-eq-true_iff (within_limits s.counters) (leb s.index 923)).0 p.0 in
    record { counters = q.0; index = leb-true s.index 923 q.1; records = records_in s.counters s.short.condition s.long.condition p.1 }
