-- Who sends in a slot of a quiet channel: the owner in an owned one; else the station that has place 0, and nobody where both transmission queues are empty.
-- So the slot's lone sender is who is served at place 0. Assumes nothing.
use mathlib.Core.Path.{◌≡◌, refl, sym, ap, ◌∙◌}
use mathlib.Core.Bool.{Bool, true, false, ◌&&◌, ◌||◌, cond}
use mathlib.Core.List.{List, [], ◌∷◌, ◌++◌, map, map-append, append_assoc}
use mathlib.Core.Option.{none, some}
use Prim.Native.Nat.{ℕ, zero, suc, ◌+◌, ◌-◌, ◌≤◌}
use native.Mathlib.Omega.{arith}
use lib.Dec.{eqb, leb, ltb}
use lib.ListN.{length, replicate, length-map, length-replicate}
use borrow.Author.Tests.{le-leb, lt-ltb, lt-leb, eq-eqb, ne_eqb, eqb-true, eqb-false, ltb-true, ltb-false}
use Rattle.std.specs.List.{list_all}
use Rattle.listlaws.specs.Lists.{only_if}
use Rattle.rules.specs.declared.Counters.{Counters}
use Rattle.rules.specs.declared.Outcome.{Outcome}
use Rattle.rules.specs.declared.Station.{Station}
use Rattle.rules.specs.declared.Condition.{Condition}
use Rattle.rules.specs.declared.Condition.TheVariants.{Free, Held, Fresh, Asked, Resolving, Urgent, Long}
use Rattle.rules.specs.declared.Turn.TheVariants.{Urgent as UrgentTurn, Long as LongTurn}
use Rattle.rules.specs.declared.Turn.TheVariants.{Open as OpenTurn}
use Rattle.rules.specs.Calendars.{owner_of}
use Rattle.rules.specs.Limits.{between}
use Rattle.rules.specs.StationLimits.{condition_within, short_within, long_within}
use Rattle.rules.specs.Turns.{turn_of}
use Rattle.rules.specs.Serving.{urgent_segment, long_segment}
use Rattle.channel_rules.specs.Soundness.{table_counters}
use Rattle.channel_rules.specs.ChannelCalls.{Channel, ChannelResult, DataSent, speaks, data_in, data_sent, lone_index, outcome_heard}
use Rattle.rules.proofs.LimitLaws.{between-bounds, RecordsIn}
use Rattle.rules.proofs.SlotStep.{and_both}
use Rattle.channel_rules.proofs.SoundLists.{AllWithin, long-parts}
use Rattle.channel_rules.proofs.SoundMeans.{all_in}
use Rattle.sound_slots.proofs.OwnedSlotsHold.{owned-slots}
use Rattle.coming_rules.specs.Coming.{nobody, sender_in}
use Rattle.coming_rules.specs.ComingHolds.{Picks}
use Rattle.coming_rules.specs.Planned.{has_place, holders_of, first_of, served_at}
use Rattle.coming_rules.proofs.Quieted.{Quiet}
use Rattle.coming_rules.proofs.QuietMoves.{no_place}
use Rattle.coming_rules.proofs.QuietSlots.{segment_by, segments_by, calm_step, turn_here, quiet-limits, turn-here, answer_here, slot_is}
use Rattle.coming_rules.proofs.Served.{no_place-at, most-one}

-- ---- a station sends if one of its messages has place 0

or-segment : (u v : ℕ) → ltb 0 (cond (eqb u 0) v u) ≡ (ltb 0 u || ltb 0 v)
or-segment u v = go (eqb u 0) refl
  where
    go : (b : Bool) → eqb u 0 ≡ b → ltb 0 (cond b v u) ≡ (ltb 0 u || ltb 0 v)
    go true q = rw (eqb-true u 0 q)
    go false q = let z = eqb-false u 0 q in rw (lt-ltb 0 u (omega arith))

either-one : (a b : Bool) (x : ℕ) → (a && b) ≡ false → only_if (a || b) (x ∷ []) ≡ only_if a (x ∷ []) ++ only_if b (x ∷ [])
either-one true true x e = let z : ◌≡◌ {A = ℕ} 0 1 = cc in absurd (omega arith)
either-one true false x e = refl
either-one false b x e = refl

index-only : (b : Bool) (d : DataSent) → map (λ (x : DataSent). x.index) (only_if b (d ∷ [])) ≡ only_if b (d.index ∷ [])
index-only true d = refl
index-only false d = refl

-- in a slot whose turn is such that a message sends just if it has place 0
module _ (o : Outcome) (c : Counters) (h : ℕ) (heard : (x n : ℕ) → speaks o.turn x n ≡ ltb 0 n)
    (sends : (k : Condition) → condition_within c k ≡ true → ltb 0 (segment_by o.turn k) ≡ has_place h 0 k)
    (apart : (a b : Condition) → RecordsIn c a b → (has_place h 0 a && has_place h 0 b) ≡ false) where
  station-sends : (s : Station) → RecordsIn c s.short.condition s.long.condition
      → map (λ (x : DataSent). x.index) (data_in (calm_step o s) (calm_step o s).answer)
      ≡ only_if (has_place h 0 s.short.condition) (s.index ∷ []) ++ only_if (has_place h 0 s.long.condition) (s.index ∷ [])
  station-sends s r =
      index-only (speaks o.turn s.index (segments_by o.turn s)) (record { index = s.index; segment = segments_by o.turn s })
      ∙ ap (λ (b : Bool). only_if b (s.index ∷ []))
      (heard s.index (segments_by o.turn s) ∙ or-segment (segment_by o.turn s.short.condition) (segment_by o.turn s.long.condition)
      ∙ (λ i. sends s.short.condition r.short i || sends s.long.condition r.long i))
      ∙ either-one (has_place h 0 s.short.condition) (has_place h 0 s.long.condition) s.index (apart s.short.condition s.long.condition r)

  senders-hold : (l : List Station) → AllWithin c l → map (λ (x : DataSent). x.index) (data_sent (map (calm_step o) l)) ≡ holders_of h 0 l
  senders-hold [] w = refl
  senders-hold (s ∷ l) w =
      map-append (λ (x : DataSent). x.index) (data_in (calm_step o s) (calm_step o s).answer) (data_sent (map (calm_step o) l))
      ∙ (λ i. station-sends s w.0 i ++ senders-hold l w.1 i)
      ∙ append_assoc (only_if (has_place h 0 s.short.condition) (s.index ∷ [])) (only_if (has_place h 0 s.long.condition) (s.index ∷ [])) (holders_of h 0 l)

-- ---- by the turn

not-urgent : (i : ℕ) → long_within (Urgent i) ≡ true → ⊥
unfolding long_within
not-urgent i e = let z : ◌≡◌ {A = ℕ} 0 1 = cc in omega arith

not-long : (f l t : ℕ) → short_within (Long f l t) ≡ true → ⊥
unfolding short_within
not-long f l t e = let z : ◌≡◌ {A = ℕ} 0 1 = cc in omega arith

none-urgent : (c : Counters) → c.urgent ≡ 0 → (i : ℕ) → condition_within c (Urgent i) ≡ true → ⊥
unfolding condition_within
none-urgent c z i e = let b = between-bounds 1 i c.urgent e in omega (arith, b, z)

module _ (c : Counters) where
  urgent-sends : 1 ≤ c.urgent → (k : Condition) → condition_within c k ≡ true → ltb 0 (urgent_segment k) ≡ has_place c.urgent 0 k
  unfolding condition_within
  urgent-sends lo Free e = refl
  urgent-sends lo (Held t) e = refl
  urgent-sends lo (Fresh t) e = refl
  urgent-sends lo (Asked g j t) e = refl
  urgent-sends lo (Resolving g i t) e = refl
  urgent-sends lo (Urgent i) e = go (eqb i 1) refl
    where
      go : (b : Bool) → eqb i 1 ≡ b → ltb 0 (cond b 1 0) ≡ eqb 0 (i - 1)
      go true q = let z = eqb-true i 1 q in sym (eq-eqb 0 (i - 1) (omega arith))
      go false q = let z = eqb-false i 1 q in let b = (between-bounds 1 i c.urgent e).0 in sym (ne_eqb 0 (i - 1) (λ w. omega (arith, b)))
  urgent-sends lo (Long f l t) e = rw (lt-leb (c.urgent + (f - 1)) 0 (omega (arith, lo)))

  urgent-apart : 1 ≤ c.urgent → (a b : Condition) → RecordsIn c a b → (has_place c.urgent 0 a && has_place c.urgent 0 b) ≡ false
  urgent-apart lo a b r = go (has_place c.urgent 0 a) (never b r.lengthy)
    where
      never : (b : Condition) → long_within b ≡ true → has_place c.urgent 0 b ≡ false
      never Free e = refl
      never (Held t) e = refl
      never (Fresh t) e = refl
      never (Asked g j t) e = refl
      never (Resolving g i t) e = refl
      never (Urgent i) e = absurd (not-urgent i e)
      never (Long f l t) e = rw (lt-leb (c.urgent + (f - 1)) 0 (omega (arith, lo)))

      go : (x : Bool) {y : Bool} → y ≡ false → (x && y) ≡ false
      go true e = e
      go false e = refl

  long-sends : c.urgent ≡ 0 → (k : Condition) → condition_within c k ≡ true → ltb 0 (long_segment k) ≡ has_place 0 0 k
  unfolding condition_within
  long-sends z Free e = refl
  long-sends z (Held t) e = refl
  long-sends z (Fresh t) e = refl
  long-sends z (Asked g j t) e = refl
  long-sends z (Resolving g i t) e = refl
  long-sends z (Urgent i) e = absurd (let b = between-bounds 1 i c.urgent e in omega (arith, b, z))
  long-sends z (Long f l t) e = go (eqb f 1) refl
    where
      parts : (1 ≤ f) × (1 ≤ l) × (f + l ≤ c.long + 1) × (l ≤ 255)
      parts = long-parts c f l t e

      left : (1 ≤ l) × (l ≤ t)
      left = between-bounds 1 l t (and_both (between 2 t 255) (between 1 l t) (and_both (between 2 t 255 && between 1 l t) (leb 1 f) (and_both (between 2 t 255 && between 1 l t && leb 1 f) (leb (f + l) (c.long + 1)) e).0).0).1

      go : (b : Bool) → eqb f 1 ≡ b → ltb 0 (cond b (t - (l - 1)) 0) ≡ (leb (0 + (f - 1)) 0 && ltb 0 (0 + (f - 1) + l))
      go true q =
          let y = eqb-true f 1 q in
          lt-ltb 0 (t - (l - 1)) (omega (arith, left)) ∙ sym (rw (le-leb (0 + (f - 1)) 0 (omega arith)) (lt-ltb 0 (0 + (f - 1) + l) (omega (arith, parts))))
      go false q = let y = eqb-false f 1 q in sym (rw (lt-leb (0 + (f - 1)) 0 (omega (arith, parts))))

  long_apart : c.urgent ≡ 0 → (a b : Condition) → RecordsIn c a b → (has_place 0 0 a && has_place 0 0 b) ≡ false
  long_apart z a b r = rw (never a r.short r.brief)
    where
      never : (a : Condition) → condition_within c a ≡ true → short_within a ≡ true → has_place 0 0 a ≡ false
      never Free w e = refl
      never (Held t) w e = refl
      never (Fresh t) w e = refl
      never (Asked g j t) w e = refl
      never (Resolving g i t) w e = refl
      never (Urgent i) w e = absurd (none-urgent c z i w)
      never (Long f l t) w e = absurd (not-long f l t e)

-- ---- THE LONE SENDER

-- of one sender or none
lone-first : (l : List DataSent) → length (map (λ (x : DataSent). x.index) l) ≤ 1 → cond (eqb (length l) 1) (lone_index l) nobody ≡ first_of (map (λ (x : DataSent). x.index) l)
lone-first [] h = refl
lone-first (x ∷ []) h = refl
lone-first (x ∷ y ∷ l) h = absurd (omega (arith, h))

-- the turn of a slot that no stream owns, by H and N: no resolution queue holds a place
module _ (ch : Channel) (q : Quiet ch) (free : owner_of (table_counters ch.stations) ≡ none) where
  pub urgent-turn : ltb 0 (table_counters ch.stations).urgent ≡ true → turn_here ch ≡ UrgentTurn
  unfolding turn_of
  urgent-turn e = rw (free, e)

  pub long-turn : ltb 0 (table_counters ch.stations).urgent ≡ false → ltb 0 (table_counters ch.stations).long ≡ true → turn_here ch ≡ LongTurn
  unfolding turn_of
  long-turn e w = rw (free, e, w)

  pub open_turn : ltb 0 (table_counters ch.stations).urgent ≡ false → ltb 0 (table_counters ch.stations).long ≡ false → turn_here ch ≡ OpenTurn
  unfolding turn_of
  open_turn e w = rw (free, e, w, no_place (table_counters ch.stations) (quiet-limits ch q) q.empty)

  senders_are : map (λ (x : DataSent). x.index) (data_sent (map (calm_step (outcome_heard ch)) ch.stations)) ≡ holders_of (table_counters ch.stations).urgent 0 ch.stations
  senders_are = go (ltb 0 (table_counters ch.stations).urgent) refl (ltb 0 (table_counters ch.stations).long) refl
    where
      Holds : Type 0
      Holds = map (λ (x : DataSent). x.index) (data_sent (map (calm_step (outcome_heard ch)) ch.stations)) ≡ holders_of (table_counters ch.stations).urgent 0 ch.stations

      all : AllWithin (table_counters ch.stations) ch.stations
      all = all_in ch.stations ch.wire q.sound

      go : (a : Bool) → ltb 0 (table_counters ch.stations).urgent ≡ a → (b : Bool) → ltb 0 (table_counters ch.stations).long ≡ b → Holds
      go true e b w =
          let turn : (outcome_heard ch).turn ≡ UrgentTurn = turn-here ch q ∙ urgent-turn e in
          let c = table_counters ch.stations in
          let lo = ltb-true 0 c.urgent e in
          senders-hold (outcome_heard ch) c c.urgent (λ x n. rw turn) (λ k i. rw turn (urgent-sends c (omega (arith, lo)) k i)) (urgent-apart c (omega (arith, lo))) ch.stations all
      go false e true w =
          let turn : (outcome_heard ch).turn ≡ LongTurn = turn-here ch q ∙ long-turn e w in
          let c = table_counters ch.stations in
          let z : c.urgent ≡ 0 = omega (arith, ltb-false 0 c.urgent e) in
          senders-hold (outcome_heard ch) c c.urgent (λ x n. rw turn) (λ k i. rw (turn, z) (long-sends c z k i)) (λ a b r. rw z (long_apart c z a b r)) ch.stations all
      go false e false w =
          let turn : (outcome_heard ch).turn ≡ OpenTurn = turn-here ch q ∙ open_turn e w in
          let c = table_counters ch.stations in
          let z : c.urgent ≡ 0 = omega (arith, ltb-false 0 c.urgent e) in
          let y : c.long ≡ 0 = omega (arith, ltb-false 0 c.long w) in
          senders-hold (outcome_heard ch) c c.urgent (λ x n. rw turn) (λ k i. rw turn (sym (no_place-at c 0 c.urgent z y k i)))
          (λ a b r. rw (no_place-at c 0 c.urgent z y a r.short)) ch.stations all

  few : length (map (λ (x : DataSent). x.index) (data_sent (map (calm_step (outcome_heard ch)) ch.stations))) ≤ 1
  few = rw senders_are (most-one ch.stations ch.wire q.sound 0)

  -- who is served
  pub sender-served : sender_in (answer_here ch q) ≡ served_at (table_counters ch.stations).urgent ch.stations 0
  unfolding served_at
  sender-served = lone-first (data_sent (map (calm_step (outcome_heard ch)) ch.stations)) few ∙ ap first_of senders_are

  pub free-alone : length (data_sent (map (calm_step (outcome_heard ch)) ch.stations)) ≤ 1
  free-alone = omega (arith, few, length-map (data_sent (map (calm_step (outcome_heard ch)) ch.stations)) (λ (x : DataSent). x.index))

-- one pick a station, each of 1
pub ones-within : (m n : ℕ) → 1 ≤ m → list_all (λ (pick : ℕ). between 1 pick m) (replicate n 1) ≡ true
ones-within m zero h = refl
ones-within m (suc n) h = rw (le-leb 1 m h) (ones-within m n h)

pub ones-picks : (ch : Channel) → Quiet ch → Picks ch (replicate (length ch.stations) 1)
ones-picks ch q =
    record {
      all = length-replicate (length ch.stations) 1;
      within = ones-within (table_counters ch.stations).minislots (length ch.stations) (omega (arith, (quiet-limits ch q).minislots));
    }

-- the owner
pub sender-owner : (ch : Channel) (q : Quiet ch) (x : ℕ) → owner_of (table_counters ch.stations) ≡ some x → sender_in (answer_here ch q) ≡ x
sender-owner ch q x e =
    let picks : List ℕ = replicate (length ch.stations) 1 in
    let o = owned-slots ch picks x e _ _ _ _ _ (ap (λ (r : ChannelResult). r.answer) (slot_is ch q picks (ones-picks ch q))) in
    ap (λ (b : Bool). cond b (lone_index (data_sent (map (calm_step (outcome_heard ch)) ch.stations))) nobody) (eq-eqb _ 1 o.alone) ∙ o.owner
