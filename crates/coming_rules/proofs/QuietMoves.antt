-- What a slot does to the places of a quiet table, by its turn: an urgent turn moves every message of H a place down, a long one every stretch of N, and the
-- others none. So records stay within their limits, each place after is one from before, and the table is sound again. Assumes nothing.
use mathlib.Core.Path.{◌≡◌, refl, sym, ap, subst, ◌∙◌}
use mathlib.Core.Bool.{Bool, true, false, ◌&&◌, cond}
use mathlib.Core.List.{List, ◌∷◌, map}
use Prim.Native.Nat.{ℕ, zero, suc, ◌+◌, ◌-◌, ◌≤◌}
use native.Mathlib.Omega.{arith}
use lib.Dec.{eqb, leb, ltb}
use lib.ListN.{length, get_or, set, replicate, length-set}
use borrow.Author.Tests.{le-leb, le-ltb, ne_eqb, eqb-true, eqb-false}
use Rattle.rules.specs.declared.Counters.{Counters}
use Rattle.rules.specs.declared.Station.{Station}
use Rattle.rules.specs.declared.WireRow.{WireRow}
use Rattle.rules.specs.declared.Condition.{Condition}
use Rattle.rules.specs.declared.Condition.TheVariants.{Free, Held, Fresh, Asked, Resolving, Urgent, Long}
use Rattle.rules.specs.declared.Turn.{Turn}
use Rattle.rules.specs.declared.Turn.TheVariants.{Owned as OwnedTurn, Urgent as UrgentTurn, Long as LongTurn}
use Rattle.rules.specs.declared.Turn.TheVariants.{Resolve as ResolveTurn, Open as OpenTurn}
use Rattle.rules.specs.Calendars.{owner_of, position_after}
use Rattle.rules.specs.Limits.{between, within_limits}
use Rattle.rules.specs.StationLimits.{condition_within, short_within, long_within}
use Rattle.rules.specs.Queueing.{places_of}
use Rattle.rules.specs.Turns.{turn_of}
use Rattle.rules.specs.Falling.{urgent_falls, long_falls, following, fallen}
use Rattle.rules.specs.Serving.{moved}
use Rattle.channel_rules.specs.Soundness.{table_counters, sound_table}
use Rattle.channel_rules.specs.SoundMeaning.{at_urgent, covers_long}
use Rattle.channel_rules.specs.ChannelCalls.{blank_wire}
use Rattle.rules.proofs.LimitLaws.{Within, calendar-in, arrays-lengths, between-bounds, RecordsIn}
use Rattle.rules.proofs.SlotStep.{and_both}
use Rattle.channel_rules.proofs.SoundLists.{long-parts}
use Rattle.channel_rules.proofs.SoundMeans.{sound-says}
use Rattle.coming_rules.specs.Quiet.{quiet_condition}
use Rattle.coming_rules.proofs.Comparing.{same-leb, same-ltb, same-eqb, both-same}
use Rattle.coming_rules.proofs.Redone.{at_same, redone, From, redone-sound}
use Rattle.coming_rules.proofs.Quieted.{marks_of, marks_set, quiet-within, calm-apart, quiet-twice, quiet-urgent, quiet_covers}

-- ---- a message of H or N, moved

abbrev pub shifted : Turn → Condition → Condition
shifted turn k = moved turn (quiet_condition k)

-- it stays one, or is done
pub moved-calm : (turn : Turn) (k : Condition) → quiet_condition k ≡ k → quiet_condition (moved turn k) ≡ moved turn k
unfolding moved
moved-calm (OwnedTurn x) k e = e
moved-calm UrgentTurn Free e = refl
moved-calm UrgentTurn (Held t) e = e
moved-calm UrgentTurn (Fresh t) e = e
moved-calm UrgentTurn (Asked g j t) e = e
moved-calm UrgentTurn (Resolving g i t) e = e
moved-calm UrgentTurn (Urgent i) e = go (eqb i 1)
  where
    go : (b : Bool) → quiet_condition (cond b Free (Urgent (i - 1))) ≡ cond b Free (Urgent (i - 1))
    go true = refl
    go false = refl
moved-calm UrgentTurn (Long f l t) e = refl
moved-calm LongTurn Free e = refl
moved-calm LongTurn (Held t) e = e
moved-calm LongTurn (Fresh t) e = e
moved-calm LongTurn (Asked g j t) e = e
moved-calm LongTurn (Resolving g i t) e = e
moved-calm LongTurn (Urgent i) e = refl
moved-calm LongTurn (Long f l t) e = go (eqb f 1) (eqb l 1)
  where
    go : (a b : Bool) → quiet_condition (cond a (cond b Free (Long 1 (l - 1) t)) (Long (f - 1) l t)) ≡ cond a (cond b Free (Long 1 (l - 1) t)) (Long (f - 1) l t)
    go true true = refl
    go true false = refl
    go false b = refl
moved-calm ResolveTurn k e = e
moved-calm OpenTurn k e = e

pub shifted-calm : (turn : Turn) (k : Condition) → quiet_condition (shifted turn k) ≡ shifted turn k
shifted-calm turn k = moved-calm turn (quiet_condition k) (quiet-twice k)

-- ---- limits

-- a condition of H or N goes by H and N alone
module _ (c d : Counters) (u : d.urgent ≡ c.urgent) (n : d.long ≡ c.long) where
  stays_in : (k : Condition) → condition_within c k ≡ true → condition_within d (quiet_condition k) ≡ true
  unfolding condition_within
  stays_in Free e = refl
  stays_in (Held t) e = refl
  stays_in (Fresh t) e = refl
  stays_in (Asked g j t) e = refl
  stays_in (Resolving g i t) e = refl
  stays_in (Urgent i) e = rw u e
  stays_in (Long f l t) e = rw n e

module _ (c d : Counters) (u : d.urgent ≡ c.urgent - 1) (n : d.long ≡ c.long) where
  urgent_in : (k : Condition) → condition_within c k ≡ true → condition_within d (shifted UrgentTurn k) ≡ true
  unfolding moved condition_within
  urgent_in Free e = refl
  urgent_in (Held t) e = refl
  urgent_in (Fresh t) e = refl
  urgent_in (Asked g j t) e = refl
  urgent_in (Resolving g i t) e = refl
  urgent_in (Urgent i) e = go (eqb i 1) refl
    where
      go : (b : Bool) → eqb i 1 ≡ b → condition_within d (cond b Free (Urgent (i - 1))) ≡ true
      go true q = refl
      go false q =
          let (lo, hi) = between-bounds 1 i c.urgent e in
          let z = eqb-false i 1 q in
          rw (le-leb 1 (i - 1) (omega (arith, lo)), le-leb (i - 1) d.urgent (omega (arith, hi, u)))
  urgent_in (Long f l t) e = rw n e

module _ (c d : Counters) (u : d.urgent ≡ c.urgent) (n : d.long ≡ c.long - 1) where
  long_in : (k : Condition) → condition_within c k ≡ true → condition_within d (shifted LongTurn k) ≡ true
  unfolding moved condition_within
  long_in Free e = refl
  long_in (Held t) e = refl
  long_in (Fresh t) e = refl
  long_in (Asked g j t) e = refl
  long_in (Resolving g i t) e = refl
  long_in (Urgent i) e = rw u e
  long_in (Long f l t) e = go (eqb f 1) refl (eqb l 1) refl
    where
      parts : (1 ≤ f) × (1 ≤ l) × (f + l ≤ c.long + 1) × (l ≤ 255)
      parts = long-parts c f l t e

      totals : (between 2 t 255 ≡ true) × (between 1 l t ≡ true)
      totals = and_both (between 2 t 255) (between 1 l t) (and_both (between 2 t 255 && between 1 l t) (leb 1 f) (and_both (between 2 t 255 && between 1 l t && leb 1 f) (leb (f + l) (c.long + 1)) e).0).0

      go : (a : Bool) → eqb f 1 ≡ a → (b : Bool) → eqb l 1 ≡ b → condition_within d (cond a (cond b Free (Long 1 (l - 1) t)) (Long (f - 1) l t)) ≡ true
      go true p true q = refl
      go true p false q =
          let one = eqb-true f 1 p in
          let z = eqb-false l 1 q in
          let (lo, hi) = between-bounds 1 l t totals.1 in
          rw (totals.0, le-leb 1 (l - 1) (omega (arith, lo)), le-leb (l - 1) t (omega (arith, hi)), le-leb (1 + (l - 1)) (d.long + 1) (omega (arith, parts, n)))
      go false p b q =
          let z = eqb-false f 1 p in
          rw (totals.0, totals.1, le-leb 1 (f - 1) (omega (arith, parts)), le-leb (f - 1 + l) (d.long + 1) (omega (arith, parts, n)))

pub shifted_in : (turn : Turn) (c d : Counters) → d.urgent ≡ urgent_falls turn c.urgent → d.long ≡ long_falls turn c.long → (k : Condition) → condition_within c k ≡ true → condition_within d (shifted turn k) ≡ true
unfolding moved
shifted_in (OwnedTurn x) c d u n k e = stays_in c d u n k e
shifted_in UrgentTurn c d u n k e = urgent_in c d u n k e
shifted_in LongTurn c d u n k e = long_in c d u n k e
shifted_in ResolveTurn c d u n k e = stays_in c d u n k e
shifted_in OpenTurn c d u n k e = stays_in c d u n k e

-- where there is no message none moves
pub none_moves : (turn : Turn) → moved turn Free ≡ Free
unfolding moved
none_moves (OwnedTurn x) = refl
none_moves UrgentTurn = refl
none_moves LongTurn = refl
none_moves ResolveTurn = refl
none_moves OpenTurn = refl

-- a short one is never long, a long one never urgent
shifted-short : (turn : Turn) (k : Condition) → short_within k ≡ true → short_within (shifted turn k) ≡ true
unfolding short_within moved
shifted-short turn Free e = ap short_within (none_moves turn)
shifted-short turn (Held t) e = ap short_within (none_moves turn)
shifted-short turn (Fresh t) e = ap short_within (none_moves turn)
shifted-short turn (Asked g j t) e = ap short_within (none_moves turn)
shifted-short turn (Resolving g i t) e = ap short_within (none_moves turn)
shifted-short (OwnedTurn x) (Urgent i) e = refl
shifted-short UrgentTurn (Urgent i) e = go (eqb i 1)
  where
    go : (b : Bool) → short_within (cond b Free (Urgent (i - 1))) ≡ true
    go true = refl
    go false = refl
shifted-short LongTurn (Urgent i) e = refl
shifted-short ResolveTurn (Urgent i) e = refl
shifted-short OpenTurn (Urgent i) e = refl
shifted-short turn (Long f l t) e = let z : ◌≡◌ {A = ℕ} 0 1 = cc in absurd (omega arith)

shifted-long : (turn : Turn) (k : Condition) → long_within k ≡ true → long_within (shifted turn k) ≡ true
unfolding long_within moved
shifted-long turn Free e = ap long_within (none_moves turn)
shifted-long turn (Held t) e = ap long_within (none_moves turn)
shifted-long turn (Fresh t) e = ap long_within (none_moves turn)
shifted-long turn (Asked g j t) e = ap long_within (none_moves turn)
shifted-long turn (Resolving g i t) e = ap long_within (none_moves turn)
shifted-long turn (Urgent i) e = let z : ◌≡◌ {A = ℕ} 0 1 = cc in absurd (omega arith)
shifted-long (OwnedTurn x) (Long f l t) e = e
shifted-long UrgentTurn (Long f l t) e = e
shifted-long LongTurn (Long f l t) e = go (eqb f 1) (eqb l 1)
  where
    go : (a b : Bool) → long_within (cond a (cond b Free (Long 1 (l - 1) t)) (Long (f - 1) l t)) ≡ true
    go true true = refl
    go true false = e
    go false b = e
shifted-long ResolveTurn (Long f l t) e = e
shifted-long OpenTurn (Long f l t) e = e

shifted-records : (turn : Turn) (c d : Counters) → d.urgent ≡ urgent_falls turn c.urgent → d.long ≡ long_falls turn c.long → (a b : Condition) → RecordsIn c a b → RecordsIn d (shifted turn a) (shifted turn b)
shifted-records turn c d u n a b r =
    record {
      short = shifted_in turn c d u n a r.short;
      brief = shifted-short turn a r.brief;
      long = shifted_in turn c d u n b r.long;
      lengthy = shifted-long turn b r.lengthy;
      apart = calm-apart (shifted turn a) (shifted turn b) (shifted-calm turn a);
    }

-- ---- each place after a slot is one from before

urgent-place : (i : ℕ) → 1 ≤ i → (c : Counters) (k : Condition) → condition_within c k ≡ true → at_urgent i (shifted UrgentTurn k) ≡ at_urgent (suc i) k
unfolding moved condition_within
urgent-place i lo c Free e = refl
urgent-place i lo c (Held t) e = refl
urgent-place i lo c (Fresh t) e = refl
urgent-place i lo c (Asked g j t) e = refl
urgent-place i lo c (Resolving g j t) e = refl
urgent-place i lo c (Urgent j) e = go (eqb j 1) refl
  where
    go : (b : Bool) → eqb j 1 ≡ b → at_urgent i (cond b Free (Urgent (j - 1))) ≡ eqb (suc i) j
    go true q = let z = eqb-true j 1 q in sym (ne_eqb (suc i) j (λ w. omega (arith, lo)))
    go false q = same-eqb i (j - 1) (suc i) j (let z = eqb-false j 1 q in let (a, b) = between-bounds 1 j c.urgent e in (λ w. omega (arith, a), λ w. omega (arith, a)))
urgent-place i lo c (Long f l t) e = refl

long-place : (i : ℕ) → 1 ≤ i → (c : Counters) (k : Condition) → condition_within c k ≡ true → covers_long i (shifted LongTurn k) ≡ covers_long (suc i) k
unfolding moved
long-place i lo c Free e = refl
long-place i lo c (Held t) e = refl
long-place i lo c (Fresh t) e = refl
long-place i lo c (Asked g j t) e = refl
long-place i lo c (Resolving g j t) e = refl
long-place i lo c (Urgent j) e = refl
long-place i lo c (Long f l t) e = go (eqb f 1) refl (eqb l 1) refl
  where
    parts : (1 ≤ f) × (1 ≤ l) × (f + l ≤ c.long + 1) × (l ≤ 255)
    parts = long-parts c f l t e

    go : (a : Bool) → eqb f 1 ≡ a → (b : Bool) → eqb l 1 ≡ b → covers_long i (cond a (cond b Free (Long 1 (l - 1) t)) (Long (f - 1) l t)) ≡ (leb f (suc i) && ltb (suc i) (f + l))
    go true p true q =
        let x = eqb-true f 1 p in
        let y = eqb-true l 1 q in
        rw (le-ltb (suc i) (f + l) (omega (arith, lo)), le-leb f (suc i) (omega arith))
    go true p false q =
        let x = eqb-true f 1 p in
        let y = eqb-false l 1 q in
        both-same (leb 1 i) (ltb i (1 + (l - 1))) (leb f (suc i)) (ltb (suc i) (f + l)) (le-leb 1 i lo ∙ sym (le-leb f (suc i) (omega arith))) (same-ltb i (1 + (l - 1)) (suc i) (f + l) (λ w. omega (arith, parts), λ w. omega (arith, parts)))
    go false p b q =
        let x = eqb-false f 1 p in
        both-same (leb (f - 1) i) (ltb i (f - 1 + l)) (leb f (suc i)) (ltb (suc i) (f + l)) (same-leb (f - 1) i f (suc i) (λ w. omega (arith, parts), λ w. omega (arith, parts))) (same-ltb i (f - 1 + l) (suc i) (f + l) (λ w. omega (arith, parts), λ w. omega (arith, parts)))

-- an urgent turn moves no stretch, a long one nobody of H
urgent_covers : (i : ℕ) (k : Condition) → covers_long i (shifted UrgentTurn k) ≡ covers_long i k
unfolding moved
urgent_covers i Free = refl
urgent_covers i (Held t) = refl
urgent_covers i (Fresh t) = refl
urgent_covers i (Asked g j t) = refl
urgent_covers i (Resolving g j t) = refl
urgent_covers i (Urgent j) = go (eqb j 1)
  where
    go : (b : Bool) → covers_long i (cond b Free (Urgent (j - 1))) ≡ false
    go true = refl
    go false = refl
urgent_covers i (Long f l t) = refl

long-urgent : (i : ℕ) (k : Condition) → at_urgent i (shifted LongTurn k) ≡ at_urgent i k
unfolding moved
long-urgent i Free = refl
long-urgent i (Held t) = refl
long-urgent i (Fresh t) = refl
long-urgent i (Asked g j t) = refl
long-urgent i (Resolving g j t) = refl
long-urgent i (Urgent j) = refl
long-urgent i (Long f l t) = go (eqb f 1) (eqb l 1)
  where
    go : (a b : Bool) → at_urgent i (cond a (cond b Free (Long 1 (l - 1) t)) (Long (f - 1) l t)) ≡ false
    go true true = refl
    go true false = refl
    go false b = refl

pub urgent-from : (turn : Turn) (c : Counters) (i : ℕ) → 1 ≤ i → i ≤ urgent_falls turn c.urgent → From c (shifted turn) (at_urgent i) at_urgent c.urgent
unfolding moved
urgent-from (OwnedTurn x) c i lo hi = record { place = i; low = lo; high = hi; same = λ k e. quiet-urgent i k }
urgent-from UrgentTurn c i lo hi = record { place = suc i; low = omega arith; high = omega (arith, lo, hi); same = urgent-place i lo c }
urgent-from LongTurn c i lo hi = record { place = i; low = lo; high = hi; same = λ k e. long-urgent i k }
urgent-from ResolveTurn c i lo hi = record { place = i; low = lo; high = hi; same = λ k e. quiet-urgent i k }
urgent-from OpenTurn c i lo hi = record { place = i; low = lo; high = hi; same = λ k e. quiet-urgent i k }

pub long-from : (turn : Turn) (c : Counters) (i : ℕ) → 1 ≤ i → i ≤ long_falls turn c.long → From c (shifted turn) (covers_long i) covers_long c.long
unfolding moved
long-from (OwnedTurn x) c i lo hi = record { place = i; low = lo; high = hi; same = λ k e. quiet_covers i k }
long-from UrgentTurn c i lo hi = record { place = i; low = lo; high = hi; same = λ k e. urgent_covers i k }
long-from LongTurn c i lo hi = record { place = suc i; low = omega arith; high = omega (arith, lo, hi); same = long-place i lo c }
long-from ResolveTurn c i lo hi = record { place = i; low = lo; high = hi; same = λ k e. quiet_covers i k }
long-from OpenTurn c i lo hi = record { place = i; low = lo; high = hi; same = λ k e. quiet_covers i k }

-- ---- the counters after a slot

pub set_same {ℓ} : {A : Type ℓ} (n i : ℕ) (x : A) → set (replicate n x) i x ≡ replicate n x
set_same zero i x = refl
set_same (suc n) zero x = refl
set_same {A = A} (suc n) (suc i) x = ap (λ (l : List A). x ∷ l) (set_same n i x)

falls-low : (turn : Turn) (n : ℕ) → (urgent_falls turn n ≤ n) × (long_falls turn n ≤ n)
falls-low (OwnedTurn x) n = (omega arith, omega arith)
falls-low UrgentTurn n = (omega arith, omega arith)
falls-low LongTurn n = (omega arith, omega arith)
falls-low ResolveTurn n = (omega arith, omega arith)
falls-low OpenTurn n = (omega arith, omega arith)

pub follows_in : (n g : ℕ) → 1 ≤ g → g ≤ n → (1 ≤ following n g) × (following n g ≤ n)
follows_in n g lo hi = go (eqb g n) refl
  where
    go : (b : Bool) → eqb g n ≡ b → (1 ≤ cond b 1 (g + 1)) × (cond b 1 (g + 1) ≤ n)
    go true q = (omega arith, omega (arith, lo, hi))
    go false q = let z = eqb-false g n q in (omega arith, omega (arith, hi))

pub position_in_lem : (p : ℕ) → p ≤ 23 → position_after p ≤ 23
position_in_lem p h = go (eqb p 23) refl
  where
    go : (b : Bool) → eqb p 23 ≡ b → cond b 0 (p + 1) ≤ 23
    go true q = omega arith
    go false q = let z = eqb-false p 23 q in omega (arith, h)

module _ (c : Counters) (within : Within c) (empty : c.resolution ≡ replicate 8 0) where
  pub no_place : get_or c.resolution (c.next - 1) 0 ≡ 0
  no_place = rw empty (at_same 8 (c.next - 1) 0)

  pub empty-after : (fallen c (places_of c)).resolution ≡ replicate 8 0
  unfolding fallen
  empty-after = rw (no_place, empty) (set_same 8 (c.next - 1) 0)

  pub fallen-within : within_limits (fallen c (places_of c)) ≡ true
  unfolding fallen
  fallen-within =
      quiet-within c (fallen c (places_of c)) within refl refl (follows_in c.groups c.next within.next.0 within.next.1)
      (falls-low (turn_of (owner_of c) (places_of c)) c.urgent).0 (falls-low (turn_of (owner_of c) (places_of c)) c.long).1 empty-after (
        length-set c.opened (c.next - 1) _ ∙ (arrays-lengths c within.arrays).1,
        marks_set c.groups (c.next - 1) 0 _ c.opened (omega (arith, within.next)) (marks_of c within.arrays),
      )
      refl (position_in_lem c.position (calendar-in c within.calendar).position)

pub urgent-is : (c : Counters) → (fallen c (places_of c)).urgent ≡ urgent_falls (turn_of (owner_of c) (places_of c)) c.urgent
unfolding fallen
urgent-is c = refl

pub long-is : (c : Counters) → (fallen c (places_of c)).long ≡ long_falls (turn_of (owner_of c) (places_of c)) c.long
unfolding fallen
long-is c = refl

-- what stays, and the next position
pub calendar-is : (c : Counters) → (fallen c (places_of c)).calendar ≡ c.calendar
unfolding fallen
calendar-is c = refl

pub minislots-is : (c : Counters) → (fallen c (places_of c)).minislots ≡ c.minislots
unfolding fallen
minislots-is c = refl

pub position-is : (c : Counters) → (fallen c (places_of c)).position ≡ position_after c.position
unfolding fallen
position-is c = refl

-- ---- THE TABLE AFTER A SLOT IS SOUND

pub after-sound : (stations : List Station) (wire : List WireRow) → 1 ≤ length stations → (sound : sound_table stations wire ≡ true) → Within (table_counters stations)
    → (table_counters stations).resolution ≡ replicate 8 0
    → sound_table (map (redone (fallen (table_counters stations) (places_of (table_counters stations))) (shifted (turn_of (owner_of (table_counters stations)) (places_of (table_counters stations))))) stations) blank_wire ≡ true
after-sound stations wire there sound within empty =
    let c = table_counters stations in
    let turn = turn_of (owner_of c) (places_of c) in
    redone-sound stations wire there (sound-says stations wire sound) (fallen c (places_of c)) (shifted turn) (shifted-calm turn) (fallen-within c within empty) (calendar-is c)
    (λ g. ap (λ (l : List ℕ). get_or l (g - 1) 0) (empty-after c within empty) ∙ at_same 8 (g - 1) 0)
    (shifted-records turn c (fallen c (places_of c)) (urgent-is c) (long-is c))
    (λ i lo hi. urgent-from turn c i lo (subst (λ (n : ℕ). i ≤ n) (urgent-is c) hi))
    (λ i lo hi. long-from turn c i lo (subst (λ (n : ℕ). i ≤ n) (long-is c) hi))
