-- The places of H and N together, counted from 0: each of a sound table's has one message, those beyond none; a slot that serves a place moves the others one
-- down; and whoever sends in it is the station of place 0. Assumes nothing.
use mathlib.Core.Path.{◌≡◌, refl, sym, ◌∙◌}
use mathlib.Core.Bool.{Bool, true, false, ◌&&◌, cond}
use mathlib.Core.List.{List, [], ◌∷◌, ◌++◌, map}
use mathlib.Core.Logic.{by_cases}
use Prim.Native.Nat.{ℕ, suc, ◌+◌, ◌-◌, ◌≤◌, ◌<◌}
use native.Mathlib.Omega.{arith}
use native.Mathlib.Decide.{dec_lt}
use lib.Dec.{eqb, leb, ltb}
use lib.ListN.{length}
use borrow.Author.Tests.{le-leb, le-ltb, lt-leb, ne_eqb, eqb-true, eqb-false}
use Rattle.listlaws.specs.Lists.{only_if}
use Rattle.rules.specs.declared.Counters.{Counters}
use Rattle.rules.specs.declared.Station.{Station}
use Rattle.rules.specs.declared.WireRow.{WireRow}
use Rattle.rules.specs.declared.Condition.{Condition}
use Rattle.rules.specs.declared.Condition.TheVariants.{Free, Held, Fresh, Asked, Resolving, Urgent, Long}
use Rattle.rules.specs.declared.Turn.TheVariants.{Urgent as UrgentTurn, Long as LongTurn}
use Rattle.rules.specs.StationLimits.{condition_within}
use Rattle.rules.specs.Serving.{moved}
use Rattle.channel_rules.specs.Soundness.{table_counters, sound_table}
use Rattle.channel_rules.specs.SoundMeaning.{at_urgent, covers_long, how_many, Sound}
use Rattle.rules.proofs.LimitLaws.{between-bounds}
use Rattle.channel_rules.proofs.SoundLists.{AllWithin, long-parts}
use Rattle.channel_rules.proofs.SoundMeans.{all_in, sound-says}
use Rattle.coming_rules.specs.Quiet.{quiet_condition}
use Rattle.coming_rules.specs.Planned.{has_place, holders_of}
use Rattle.coming_rules.proofs.Comparing.{same-leb, same-ltb, same-eqb, both-same}
use Rattle.coming_rules.proofs.Redone.{redone}
use Rattle.coming_rules.proofs.QuietMoves.{shifted}

-- ---- the places after a slot

pub quiet-place : (h p : ℕ) (k : Condition) → has_place h p (quiet_condition k) ≡ has_place h p k
quiet-place h p Free = refl
quiet-place h p (Held t) = refl
quiet-place h p (Fresh t) = refl
quiet-place h p (Asked g j t) = refl
quiet-place h p (Resolving g i t) = refl
quiet-place h p (Urgent i) = refl
quiet-place h p (Long f l t) = refl

module _ (c : Counters) (p : ℕ) where
  pub urgent_shift : 1 ≤ c.urgent → (k : Condition) → condition_within c k ≡ true → has_place (c.urgent - 1) p (shifted UrgentTurn k) ≡ has_place c.urgent (suc p) k
  unfolding moved condition_within
  urgent_shift lo Free e = refl
  urgent_shift lo (Held t) e = refl
  urgent_shift lo (Fresh t) e = refl
  urgent_shift lo (Asked g j t) e = refl
  urgent_shift lo (Resolving g i t) e = refl
  urgent_shift lo (Urgent i) e = go (eqb i 1) refl
    where
      go : (b : Bool) → eqb i 1 ≡ b → has_place (c.urgent - 1) p (cond b Free (Urgent (i - 1))) ≡ eqb (suc p) (i - 1)
      go true q = let z = eqb-true i 1 q in sym (ne_eqb (suc p) (i - 1) (λ w. omega arith))
      go false q = let z = eqb-false i 1 q in let b = (between-bounds 1 i c.urgent e).0 in same-eqb p (i - 1 - 1) (suc p) (i - 1) (λ w. omega (arith, b), λ w. omega (arith, b))
  urgent_shift lo (Long f l t) e =
      both-same (leb (c.urgent - 1 + (f - 1)) p) (ltb p (c.urgent - 1 + (f - 1) + l)) (leb (c.urgent + (f - 1)) (suc p)) (ltb (suc p) (c.urgent + (f - 1) + l))
      (same-leb (c.urgent - 1 + (f - 1)) p (c.urgent + (f - 1)) (suc p) (λ w. omega (arith, lo), λ w. omega (arith, lo)))
      (same-ltb p (c.urgent - 1 + (f - 1) + l) (suc p) (c.urgent + (f - 1) + l) (λ w. omega (arith, lo), λ w. omega (arith, lo)))

  pub long_shift : c.urgent ≡ 0 → (k : Condition) → condition_within c k ≡ true → has_place 0 p (shifted LongTurn k) ≡ has_place 0 (suc p) k
  unfolding moved condition_within
  long_shift z Free e = refl
  long_shift z (Held t) e = refl
  long_shift z (Fresh t) e = refl
  long_shift z (Asked g j t) e = refl
  long_shift z (Resolving g i t) e = refl
  long_shift z (Urgent i) e = absurd (let b = between-bounds 1 i c.urgent e in omega (arith, b, z))
  long_shift z (Long f l t) e = go (eqb f 1) refl (eqb l 1) refl
    where
      parts : (1 ≤ f) × (1 ≤ l) × (f + l ≤ c.long + 1) × (l ≤ 255)
      parts = long-parts c f l t e

      go : (a : Bool) → eqb f 1 ≡ a → (b : Bool) → eqb l 1 ≡ b
          → has_place 0 p (cond a (cond b Free (Long 1 (l - 1) t)) (Long (f - 1) l t)) ≡ (leb (0 + (f - 1)) (suc p) && ltb (suc p) (0 + (f - 1) + l))
      go true x true y =
          let u = eqb-true f 1 x in
          let v = eqb-true l 1 y in
          rw (le-leb (0 + (f - 1)) (suc p) (omega arith), le-ltb (suc p) (0 + (f - 1) + l) (omega arith))
      go true x false y =
          let u = eqb-true f 1 x in
          let v = eqb-false l 1 y in
          both-same (leb (0 + (1 - 1)) p) (ltb p (0 + (1 - 1) + (l - 1))) (leb (0 + (f - 1)) (suc p)) (ltb (suc p) (0 + (f - 1) + l))
          (le-leb (0 + (1 - 1)) p (omega arith) ∙ sym (le-leb (0 + (f - 1)) (suc p) (omega arith)))
          (same-ltb p (0 + (1 - 1) + (l - 1)) (suc p) (0 + (f - 1) + l) (λ w. omega (arith, parts), λ w. omega (arith, parts)))
      go false x b y =
          let u = eqb-false f 1 x in
          both-same (leb (0 + (f - 1 - 1)) p) (ltb p (0 + (f - 1 - 1) + l)) (leb (0 + (f - 1)) (suc p)) (ltb (suc p) (0 + (f - 1) + l))
          (same-leb (0 + (f - 1 - 1)) p (0 + (f - 1)) (suc p) (λ w. omega (arith, parts), λ w. omega (arith, parts)))
          (same-ltb p (0 + (f - 1 - 1) + l) (suc p) (0 + (f - 1) + l) (λ w. omega (arith, parts), λ w. omega (arith, parts)))

  -- where both queues are empty nobody has a place
  pub no_place-at : (h : ℕ) → c.urgent ≡ 0 → c.long ≡ 0 → (k : Condition) → condition_within c k ≡ true → has_place h p k ≡ false
  unfolding condition_within
  no_place-at h z y Free e = refl
  no_place-at h z y (Held t) e = refl
  no_place-at h z y (Fresh t) e = refl
  no_place-at h z y (Asked g j t) e = refl
  no_place-at h z y (Resolving g i t) e = refl
  no_place-at h z y (Urgent i) e = absurd (let b = between-bounds 1 i c.urgent e in omega (arith, b, z))
  no_place-at h z y (Long f l t) e = absurd (let b = long-parts c f l t e in omega (arith, b, y))

-- ---- holders

module _ (d : Counters) (φ : Condition → Condition) (c : Counters) (h p h' p' : ℕ) (same : (k : Condition) → condition_within c k ≡ true → has_place h p (φ k) ≡ has_place h' p' k) where
  pub holders_redone : (l : List Station) → AllWithin c l → holders_of h p (map (redone d φ) l) ≡ holders_of h' p' l
  holders_redone [] w = refl
  holders_redone (s ∷ l) w = rw (same s.short.condition w.0.short, same s.long.condition w.0.long, holders_redone l w.1)

-- as many as messages that have the place
pub holders_many : (h p : ℕ) (l : List Station) → length (holders_of h p l) ≡ how_many (has_place h p) l
holders_many h p [] = refl
holders_many h p (s ∷ l) = go (has_place h p s.short.condition) (has_place h p s.long.condition) (holders_many h p l)
  where
    go : (a b : Bool) → length (holders_of h p l) ≡ how_many (has_place h p) l
        → length (only_if a (s.index ∷ []) ++ (only_if b (s.index ∷ []) ++ holders_of h p l)) ≡ cond a 1 0 + (cond b 1 0 + how_many (has_place h p) l)
    go true true e = omega (arith, e)
    go true false e = omega (arith, e)
    go false true e = omega (arith, e)
    go false false e = omega (arith, e)

pub many-same : (c : Counters) (test before : Condition → Bool) → ((k : Condition) → condition_within c k ≡ true → test k ≡ before k) → (l : List Station) → AllWithin c l → how_many test l ≡ how_many before l
many-same c test before same [] w = refl
many-same c test before same (s ∷ l) w = rw (same s.short.condition w.0.short, same s.long.condition w.0.long, many-same c test before same l w.1)

none-many : (l : List Station) → how_many (λ k. false) l ≡ 0
none-many [] = refl
none-many (s ∷ l) = omega (arith, none-many l)

module _ (c : Counters) (p : ℕ) where
  place-urgent : p < c.urgent → (k : Condition) → condition_within c k ≡ true → has_place c.urgent p k ≡ at_urgent (suc p) k
  unfolding condition_within
  place-urgent lo Free e = refl
  place-urgent lo (Held t) e = refl
  place-urgent lo (Fresh t) e = refl
  place-urgent lo (Asked g j t) e = refl
  place-urgent lo (Resolving g i t) e = refl
  place-urgent lo (Urgent i) e = let b = (between-bounds 1 i c.urgent e).0 in same-eqb p (i - 1) (suc p) i (λ w. omega (arith, b), λ w. omega (arith, b))
  place-urgent lo (Long f l t) e = rw (lt-leb (c.urgent + (f - 1)) p (omega (arith, lo)))

  place-long : c.urgent ≤ p → (k : Condition) → condition_within c k ≡ true → has_place c.urgent p k ≡ covers_long (suc p - c.urgent) k
  unfolding condition_within
  place-long lo Free e = refl
  place-long lo (Held t) e = refl
  place-long lo (Fresh t) e = refl
  place-long lo (Asked g j t) e = refl
  place-long lo (Resolving g i t) e = refl
  place-long lo (Urgent i) e = let b = between-bounds 1 i c.urgent e in ne_eqb p (i - 1) (λ w. omega (arith, b, lo))
  place-long lo (Long f l t) e =
      let b = long-parts c f l t e in
      both-same (leb (c.urgent + (f - 1)) p) (ltb p (c.urgent + (f - 1) + l)) (leb f (suc p - c.urgent)) (ltb (suc p - c.urgent) (f + l))
      (same-leb (c.urgent + (f - 1)) p f (suc p - c.urgent) (λ w. omega (arith, lo, b), λ w. omega (arith, lo, b)))
      (same-ltb p (c.urgent + (f - 1) + l) (suc p - c.urgent) (f + l) (λ w. omega (arith, lo, b), λ w. omega (arith, lo, b)))

  place-beyond : c.urgent + c.long ≤ p → (k : Condition) → condition_within c k ≡ true → has_place c.urgent p k ≡ false
  unfolding condition_within
  place-beyond lo Free e = refl
  place-beyond lo (Held t) e = refl
  place-beyond lo (Fresh t) e = refl
  place-beyond lo (Asked g j t) e = refl
  place-beyond lo (Resolving g i t) e = refl
  place-beyond lo (Urgent i) e = let b = between-bounds 1 i c.urgent e in ne_eqb p (i - 1) (λ w. omega (arith, b, lo))
  place-beyond lo (Long f l t) e =
      let b = long-parts c f l t e in
      rw (le-leb (c.urgent + (f - 1)) p (omega (arith, lo, b)), le-ltb p (c.urgent + (f - 1) + l) (omega (arith, lo, b)))

-- EACH PLACE HAS ONE HOLDER, and none beyond them
module _ (stations : List Station) (wire : List WireRow) (sound : sound_table stations wire ≡ true) where
  is : Sound stations wire
  is = sound-says stations wire sound

  all : AllWithin (table_counters stations) stations
  all = all_in stations wire sound

  pub just-one : (p : ℕ) → p < (table_counters stations).urgent + (table_counters stations).long → length (holders_of (table_counters stations).urgent p stations) ≡ 1
  just-one p h =
      holders_many (table_counters stations).urgent p stations
      ∙ by_cases (dec_lt p (table_counters stations).urgent)
      (λ w. many-same (table_counters stations) (has_place (table_counters stations).urgent p) (at_urgent (suc p)) (place-urgent (table_counters stations) p w) stations all ∙ is.urgent (suc p) (omega arith) (omega (arith, w)))
      (λ w.
      many-same (table_counters stations) (has_place (table_counters stations).urgent p) (covers_long (suc p - (table_counters stations).urgent)) (place-long (table_counters stations) p (omega (arith, w))) stations all
      ∙ is.long (suc p - (table_counters stations).urgent) (omega (arith, w)) (omega (arith, h, w)))

  pub no_more : (p : ℕ) → (table_counters stations).urgent + (table_counters stations).long ≤ p → length (holders_of (table_counters stations).urgent p stations) ≡ 0
  no_more p h =
      holders_many (table_counters stations).urgent p stations
      ∙ many-same (table_counters stations) (has_place (table_counters stations).urgent p) (λ k. false) (place-beyond (table_counters stations) p h) stations all ∙ none-many stations

  pub most-one : (p : ℕ) → length (holders_of (table_counters stations).urgent p stations) ≤ 1
  most-one p =
      by_cases (dec_lt p ((table_counters stations).urgent + (table_counters stations).long)) (λ w. omega (arith, just-one p w)) (λ w. omega (arith, no_more p (omega (arith, w))))
