-- Who sends in a slot that no stream owns: the one message at H place 1 where H holds a place, else the one whose stretch begins at N place 1. A newcomer of the
-- row stands behind both, so that places before the row decide; a sound table has one message at each. Assumes nothing.
use mathlib.Core.Path.{◌≡◌, refl, sym, ap, subst, ◌∙◌}
use mathlib.Core.Bool.{Bool, true, false, ◌&&◌, cond, false≢true}
use mathlib.Core.List.{List, [], ◌∷◌, ◌++◌}
use mathlib.Core.Logic.{◌⊎◌, inl, inr}
use mathlib.Core.Option.{none}
use Prim.Native.Nat.{ℕ, zero, suc, ◌+◌, ◌-◌, ◌≤◌, ◌<◌}
use native.Mathlib.Omega.{arith}
use lib.Dec.{eqb, leb, ltb}
use lib.ListN.{length}
use borrow.Author.Tests.{lt-ltb, le-leb, lt-leb, eqb-true, eqb-false, ne_eqb, ltb-false, leb-true}
use Rattle.minislot.specs.declared.Feedback.{Feedback}
use Rattle.std.specs.List.{flat_map}
use Rattle.listlaws.specs.Lists.{only_if}
use Rattle.rules.specs.declared.Answer.TheVariants.{Went}
use Rattle.rules.specs.declared.Acted.{Acted}
use Rattle.rules.specs.declared.Counters.{Counters}
use Rattle.rules.specs.declared.Outcome.{Outcome}
use Rattle.rules.specs.declared.Station.{Station}
use Rattle.rules.specs.declared.Condition.{Condition}
use Rattle.rules.specs.declared.Condition.TheVariants.{Free, Held, Fresh, Asked, Resolving, Urgent, Long}
use Rattle.rules.specs.declared.Turn.{Turn}
use Rattle.rules.specs.declared.Turn.TheVariants.{Urgent as UrgentTurn, Long as LongTurn}
use Rattle.rules.specs.Calendars.{owner_of}
use Rattle.rules.specs.Calls.{Slot}
use Rattle.rules.specs.Outcome.{outcome_of}
use Rattle.rules.specs.PlaceSteps.{acts_in, settles_in, PlaceSteps}
use Rattle.rules.specs.Queueing.{places_after}
use Rattle.rules.specs.Serving.{urgent_segment, long_segment, sends}
use Rattle.rules.specs.StationLimits.{condition_within, short_within, long_within}
use Rattle.rules.specs.Stepping.{settled_in, is_fresh, stays, sender, acts_of, acts_beside, step_of}
use Rattle.channel_rules.specs.Soundness.{table_counters}
use Rattle.channel_rules.specs.SoundMeaning.{station_at, at_urgent, covers_long, how_many}
use Rattle.channel_rules.specs.ChannelCalls.{Channel, ChannelResult, DataSent, speaks, data_in, data_sent, lone_index, lone_segment, delivered_now, feedback_heard, outcome_heard, channel_call}
use Rattle.rules.proofs.LimitLaws.{RecordsIn}
use Rattle.rules.proofs.PlaceLaws.{turn-urgent, turn-long, urgent-there, long-there, not_first}
use Rattle.rules.proofs.SlotStep.{and_both}
use Rattle.rules.proofs.Views.{eqb-sym}
use Rattle.channel_rules.proofs.SoundLists.{AllWithin, long-parts}
use Rattle.coming_rules.proofs.Served.{many-same}
use Rattle.sound_slots.proofs.Passing.{Passed}
use Rattle.place_waits.specs.Continuing.{short_at, long_at, index_at, Tells}
use Rattle.place_waits.proofs.Conditions.{StretchIn, stretch_in}
use Rattle.place_waits.proofs.SlotLeaves.{steps_by, all-within, means, laws, result-is}

-- ---- what a message sends, by where it stood before the row

-- a stretch that does not begin at place 1 sends nothing
not_first-long : (k : Condition) → ((f l t : ℕ) → k ≡ Long f l t → 1 < f) → long_segment k ≡ 0
not_first-long Free h = refl
not_first-long (Held t) h = refl
not_first-long (Fresh t) h = refl
not_first-long (Asked g j t) h = refl
not_first-long (Resolving g i t) h = refl
not_first-long (Urgent i) h = refl
not_first-long (Long f l t) h = let w = h f l t refl in rw (ne_eqb f 1 (λ e. omega (arith, w)))

module _ (c : Counters) (row : List Feedback) (steps : PlaceSteps c row) (pick : ℕ) where
  segment-urgent : (outcome_of c row).turn ≡ UrgentTurn → 1 ≤ c.urgent → (k : Condition) → (acts_in c row k pick).segment ≡ urgent_segment k
  unfolding acts_of settled_in sends
  segment-urgent e h Free = rw e
  segment-urgent e h (Held t) = rw e
  segment-urgent e h (Fresh t) = rw e
  segment-urgent e h (Asked g j t) = rw e (not_first (settles_in c row (Asked g j t)) (λ q w. let z = steps.joins-urgent g j t q w in omega (arith, h, z)))
  segment-urgent e h (Resolving g i t) = rw e
  segment-urgent e h (Urgent i) = rw e
  segment-urgent e h (Long f l t) = rw e

  segment-long : (outcome_of c row).turn ≡ LongTurn → 1 ≤ c.long → (k : Condition) → (acts_in c row k pick).segment ≡ long_segment k
  unfolding acts_of settled_in sends
  segment-long e h Free = rw e
  segment-long e h (Held t) = rw e
  segment-long e h (Fresh t) = rw e
  segment-long e h (Asked g j t) = rw e (not_first-long (settles_in c row (Asked g j t)) (λ f l n w. let z = steps.joins_long g j t f l n w in omega (arith, h, z)))
  segment-long e h (Resolving g i t) = rw e
  segment-long e h (Urgent i) = rw e
  segment-long e h (Long f l t) = rw e

-- ---- what the stations send

sender-sends : (x y : Acted) (u v : ℕ) → x.segment ≡ u → y.segment ≡ v → (sender x y).segment ≡ cond (eqb u 0) v u
sender-sends x y u v e f = ap (λ (n : ℕ). (cond (eqb n 0) y x).segment) e ∙ go (eqb u 0)
  where
    go : (b : Bool) → (cond b y x).segment ≡ cond b v u
    go true = f
    go false = e

module _ (seg : Condition → ℕ) where
  -- of a station's two messages the one that sends
  abbrev pub sent_by : Station → ℕ
  sent_by s = cond (eqb (seg s.short.condition) 0) (seg s.long.condition) (seg s.short.condition)

  abbrev pub data_by : Station → List DataSent
  data_by s = only_if (ltb 0 (sent_by s)) (record { index = s.index; segment = sent_by s } ∷ [])

  -- how many messages send
  abbrev pub sending : Condition → Bool
  sending k = ltb 0 (seg k)

  module _ (o : Outcome) (heard : (x n : ℕ) → speaks o.turn x n ≡ ltb 0 n) (fresh : (k : Condition) → is_fresh k ≡ true → seg k ≡ 0)
      (acts : (k : Condition) (pick : ℕ) → (acts_of o k pick).segment ≡ seg k) where
    beside-acts : (a b : Condition) (pick : ℕ) → (acts_beside o a b pick).segment ≡ seg b
    unfolding acts_beside
    beside-acts a b pick = go (is_fresh a) (is_fresh b) refl
      where
        go : (x y : Bool) → is_fresh b ≡ y → (cond (x && y) (stays b) (acts_of o b pick)).segment ≡ seg b
        go true true e = sym (fresh b e)
        go true false e = acts b pick
        go false y e = acts b pick

    step-sends : (s : Station) (pick : ℕ) → data_in (step_of o s pick) (step_of o s pick).answer ≡ data_by s
    unfolding step_of
    step-sends s pick =
        ap (λ (n : ℕ). only_if (speaks o.turn s.index n) (record { index = s.index; segment = n } ∷ []))
        (sender-sends (acts_of o s.short.condition pick) (acts_beside o s.short.condition s.long.condition pick) (seg s.short.condition) (seg s.long.condition) (acts s.short.condition pick)
        (beside-acts s.short.condition s.long.condition pick))
        ∙ ap (λ (b : Bool). only_if b (record { index = s.index; segment = sent_by s } ∷ [])) (heard s.index (sent_by s))

    pub all_send : (l : List Station) (picks : List ℕ) → length picks ≡ length l → data_sent (steps_by o l picks) ≡ flat_map data_by l
    all_send [] picks e = refl
    all_send (s ∷ l) [] e = absurd (omega arith)
    all_send (s ∷ l) (pick ∷ picks) e = λ i. step-sends s pick i ++ all_send l picks (omega arith) i

  -- where one message sends, its station's data is all
  none-sends : (l : List Station) → how_many sending l ≡ 0 → flat_map data_by l ≡ []
  none-sends [] e = refl
  none-sends (s ∷ l) e = go (none-sends l) (ltb 0 (seg s.short.condition)) refl (ltb 0 (seg s.long.condition)) refl e
    where
      go : (how_many sending l ≡ 0 → flat_map data_by l ≡ []) → (a : Bool) → ltb 0 (seg s.short.condition) ≡ a → (b : Bool) → ltb 0 (seg s.long.condition) ≡ b → cond a 1 0 + (cond b 1 0 + how_many sending l) ≡ 0 → data_by s ++ flat_map data_by l ≡ []
      go ih true x b y w = absurd (omega arith)
      go ih false x true y w = absurd (omega arith)
      go ih false x false y w =
          let u : seg s.short.condition ≡ 0 = omega (arith, ltb-false 0 (seg s.short.condition) x) in
          rw (u, y) (ih (omega (arith, w)))

  -- whether a station sends, by its messages
  sent-none : (s : Station) → sending s.short.condition ≡ false → sending s.long.condition ≡ false → ltb 0 (sent_by s) ≡ false
  sent-none s x y = let u : seg s.short.condition ≡ 0 = omega (arith, ltb-false 0 (seg s.short.condition) x) in rw u y

  sent-some : (s : Station) (a b : Bool) → sending s.short.condition ≡ a → sending s.long.condition ≡ b → ltb 0 (sent_by s) ≡ true → 1 ≤ cond a 1 0 + cond b 1 0
  sent-some s true b x y e = omega arith
  sent-some s false true x y e = omega arith
  sent-some s false false x y e = absurd (false≢true (sym (sent-none s x y) ∙ e))

  some_send : (l : List Station) (k : ℕ) → ltb 0 (sent_by (station_at l k)) ≡ true → k < length l → 1 ≤ how_many sending l
  some_send [] k w h = absurd (omega arith)
  some_send (s ∷ l) zero w h = let z = sent-some s (sending s.short.condition) (sending s.long.condition) refl refl w in omega (arith, z)
  some_send (s ∷ l) (suc k) w h = let z = some_send l k w (omega arith) in omega (arith, z)

  pub one-sends : (l : List Station) → how_many sending l ≡ 1 → (k : ℕ) → k < length l → ltb 0 (sent_by (station_at l k)) ≡ true
      → flat_map data_by l ≡ record { index = (station_at l k).index; segment = sent_by (station_at l k) } ∷ []
  one-sends [] e k h w = absurd (omega arith)
  one-sends (s ∷ l) e zero h w =
      let z = sent-some s (sending s.short.condition) (sending s.long.condition) refl refl w in
      rw (w, none-sends l (omega (arith, e, z)))
  one-sends (s ∷ l) e (suc k) h w = go (λ q. one-sends l q k (omega arith) w) (sending s.short.condition) refl (sending s.long.condition) refl e
    where
      there : 1 ≤ how_many sending l
      there = some_send l k w (omega arith)

      go : (how_many sending l ≡ 1 → flat_map data_by l ≡ record { index = (station_at l k).index; segment = sent_by (station_at l k) } ∷ []) → (a : Bool) → sending s.short.condition ≡ a → (b : Bool) → sending s.long.condition ≡ b
          → cond a 1 0 + (cond b 1 0 + how_many sending l) ≡ 1
          → data_by s ++ flat_map data_by l ≡ record { index = (station_at l k).index; segment = sent_by (station_at l k) } ∷ []
      go ih true x b y q = absurd (let z = there in omega (arith, q, z))
      go ih false x true y q = absurd (let z = there in omega (arith, q, z))
      go ih false x false y q = rw (sent-none s x y) (ih (omega (arith, q)))

-- ---- as many as stand at place 1

urgent_at-one : (k : Condition) → ltb 0 (urgent_segment k) ≡ at_urgent 1 k
urgent_at-one Free = refl
urgent_at-one (Held t) = refl
urgent_at-one (Fresh t) = refl
urgent_at-one (Asked g j t) = refl
urgent_at-one (Resolving g i t) = refl
urgent_at-one (Urgent i) = go (eqb i 1) ∙ eqb-sym i 1
  where
    go : (b : Bool) → ltb 0 (cond b 1 0) ≡ b
    go true = refl
    go false = refl
urgent_at-one (Long f l t) = refl

long_at-one : (c : Counters) (k : Condition) → condition_within c k ≡ true → ltb 0 (long_segment k) ≡ covers_long 1 k
long_at-one c Free e = refl
long_at-one c (Held t) e = refl
long_at-one c (Fresh t) e = refl
long_at-one c (Asked g j t) e = refl
long_at-one c (Resolving g i t) e = refl
long_at-one c (Urgent i) e = refl
long_at-one c (Long f l t) e = go (eqb f 1) refl
  where
    lies : StretchIn c.long f l t
    lies = stretch_in c f l t e

    go : (b : Bool) → eqb f 1 ≡ b → ltb 0 (cond b (t - (l - 1)) 0) ≡ (leb f 1 && ltb 1 (f + l))
    go true q =
        let y = eqb-true f 1 q in
        lt-ltb 0 (t - (l - 1)) (omega (arith, lies.left, lies.most)) ∙ sym (rw (le-leb f 1 (omega arith)) (lt-ltb 1 (f + l) (omega (arith, lies.left))))
    go false q = let y = eqb-false f 1 q in sym (rw (lt-leb f 1 (omega (arith, lies.first))))

-- the records of station k
pub within-at : (c : Counters) (l : List Station) → AllWithin c l → (k : ℕ) → k < length l → RecordsIn c (station_at l k).short.condition (station_at l k).long.condition
within-at c [] w k h = absurd (omega arith)
within-at c (s ∷ l) w zero h = w.0
within-at c (s ∷ l) w (suc k) h = within-at c l w.1 k (omega arith)

-- what the tests say
at_urgent-is : (i : ℕ) (k : Condition) → at_urgent i k ≡ true → k ≡ Urgent i
at_urgent-is i Free e = absurd (false≢true e)
at_urgent-is i (Held t) e = absurd (false≢true e)
at_urgent-is i (Fresh t) e = absurd (false≢true e)
at_urgent-is i (Asked g j t) e = absurd (false≢true e)
at_urgent-is i (Resolving g j t) e = absurd (false≢true e)
at_urgent-is i (Urgent j) e = ap Urgent (sym (eqb-true i j e))
at_urgent-is i (Long f l t) e = absurd (false≢true e)

never-urgent : (k : Condition) (i : ℕ) → long_within k ≡ true → k ≡ Urgent i → ⊥
unfolding long_within
never-urgent k i e w = false≢true (sym (ap long_within w) ∙ e)

short-silent : (k : Condition) → short_within k ≡ true → long_segment k ≡ 0
unfolding short_within
short-silent Free e = refl
short-silent (Held t) e = refl
short-silent (Fresh t) e = refl
short-silent (Asked g j t) e = refl
short-silent (Resolving g i t) e = refl
short-silent (Urgent i) e = refl
short-silent (Long f l t) e = absurd (false≢true e)

-- a stretch that covers place 1 begins there
pub record BeginsAt (f : ℕ) (k : Condition) : Type 0 where
  pub left : ℕ
  pub total : ℕ
  pub stands : k ≡ Long f left total

covers_one : (c : Counters) (k : Condition) → condition_within c k ≡ true → covers_long 1 k ≡ true → BeginsAt 1 k
covers_one c Free w e = absurd (false≢true e)
covers_one c (Held t) w e = absurd (false≢true e)
covers_one c (Fresh t) w e = absurd (false≢true e)
covers_one c (Asked g j t) w e = absurd (false≢true e)
covers_one c (Resolving g i t) w e = absurd (false≢true e)
covers_one c (Urgent i) w e = absurd (false≢true e)
covers_one c (Long f l t) w e =
    let lo = (long-parts c f l t w).0 in
    let hi = leb-true f 1 (and_both (leb f 1) (ltb 1 (f + l)) e).0 in
    let z : f ≡ 1 = omega (arith, lo, hi) in
    record { left = l; total = t; stands = ap (λ (x : ℕ). Long x l t) z }

-- and there is one
find : (test : Condition → Bool) (l : List Station) → 1 ≤ how_many test l → (k : ℕ) × (k < length l) × ((test (station_at l k).short.condition ≡ true) ⊎ (test (station_at l k).long.condition ≡ true))
find test [] h = absurd (omega arith)
find test (s ∷ l) h = go (test s.short.condition) refl (test s.long.condition) refl h (find test l)
  where
    go : (a : Bool) → test s.short.condition ≡ a → (b : Bool) → test s.long.condition ≡ b → 1 ≤ cond a 1 0 + (cond b 1 0 + how_many test l)
        → (1 ≤ how_many test l → (k : ℕ) × (k < length l) × ((test (station_at l k).short.condition ≡ true) ⊎ (test (station_at l k).long.condition ≡ true)))
        → (k : ℕ) × (k < suc (length l)) × ((test (station_at (s ∷ l) k).short.condition ≡ true) ⊎ (test (station_at (s ∷ l) k).long.condition ≡ true))
    go true x b y w ih = (zero, omega arith, inl x)
    go false x true y w ih = (zero, omega arith, inr y)
    go false x false y w ih = let r = ih (omega (arith, w)) in (suc r.0, omega (arith, r.1), r.2)

-- ---- THE LONE SENDER

-- the answer of a slot with one sender
module _ (ch : Channel) (picks : List ℕ) (passed : Passed ch picks) where
  abbrev c : Counters
  c = table_counters ch.stations

  alone : (turn : Turn) → (outcome_heard ch).turn ≡ turn → delivered_now turn 1 ≡ 1 → (x s : ℕ) → data_sent (steps_by (outcome_heard ch) ch.stations picks) ≡ record { index = x; segment = s } ∷ []
      → Tells turn x s (channel_call ch (Slot picks)).answer
  alone turn e d x s sent =
      record {
        delivered = (outcome_heard ch).delivered + delivered_now turn 1;
        some = omega (arith, d);
        told = ap (λ (r : ChannelResult). r.answer) (result-is ch picks passed)
            ∙ (λ i. Went (e i) (length (sent i)) (lone_index (sent i)) (lone_segment (sent i)) ((outcome_heard ch).delivered + delivered_now (e i) (length (sent i))));
      }

  fresh-urgent : (k : Condition) → is_fresh k ≡ true → urgent_segment k ≡ 0
  fresh-urgent Free e = refl
  fresh-urgent (Held t) e = refl
  fresh-urgent (Fresh t) e = refl
  fresh-urgent (Asked g j t) e = refl
  fresh-urgent (Resolving g i t) e = refl
  fresh-urgent (Urgent i) e = absurd (false≢true e)
  fresh-urgent (Long f l t) e = refl

  fresh-long : (k : Condition) → is_fresh k ≡ true → long_segment k ≡ 0
  fresh-long Free e = refl
  fresh-long (Held t) e = refl
  fresh-long (Fresh t) e = refl
  fresh-long (Asked g j t) e = refl
  fresh-long (Resolving g i t) e = refl
  fresh-long (Urgent i) e = refl
  fresh-long (Long f l t) e = absurd (false≢true e)

  module _ (free : owner_of c ≡ none) where
    -- H
    module _ (some : 1 ≤ c.urgent) where
      urgent-now : (outcome_heard ch).turn ≡ UrgentTurn
      urgent-now = turn-urgent c (feedback_heard ch) free (urgent-there c (feedback_heard ch) some)

      one-urgent : how_many (sending urgent_segment) ch.stations ≡ 1
      one-urgent = many-same c (sending urgent_segment) (at_urgent 1) (λ k e. urgent_at-one k) ch.stations (all-within ch picks passed) ∙ (means ch picks passed).urgent 1 (omega arith) some

      pub tells-urgent : (k : ℕ) → k < length ch.stations → short_at ch k ≡ Urgent 1 → Tells UrgentTurn (index_at ch k) 1 (channel_call ch (Slot picks)).answer
      tells-urgent k h e =
          let sent : sent_by urgent_segment (station_at ch.stations k) ≡ 1 = ap (λ (x : Condition). cond (eqb (urgent_segment x) 0) (urgent_segment (long_at ch k)) (urgent_segment x)) e in
          alone UrgentTurn urgent-now refl (index_at ch k) 1
          (all_send urgent_segment (outcome_heard ch) (λ x n. rw urgent-now) fresh-urgent (λ x pick. segment-urgent c (feedback_heard ch) (laws ch picks passed) pick urgent-now some x) ch.stations picks passed.picked
          ∙ one-sends urgent_segment ch.stations one-urgent k h (ap (ltb 0) sent)
          ∙ ap (λ (n : ℕ). record { index = index_at ch k; segment = n } ∷ []) sent)

      -- and someone is first
      pub first-urgent : (j : ℕ) × (j < length ch.stations) × (short_at ch j ≡ Urgent 1)
      first-urgent =
          let r = find (at_urgent 1) ch.stations (omega (arith, (means ch picks passed).urgent 1 (omega arith) some)) in
          go r.0 r.1 r.2
        where
          go : (j : ℕ) → j < length ch.stations → (at_urgent 1 (short_at ch j) ≡ true) ⊎ (at_urgent 1 (long_at ch j) ≡ true) → (j : ℕ) × (j < length ch.stations) × (short_at ch j ≡ Urgent 1)
          go j h (inl e) = (j, h, at_urgent-is 1 (short_at ch j) e)
          go j h (inr e) = absurd (never-urgent (long_at ch j) 1 (within-at c ch.stations (all-within ch picks passed) j h).lengthy (at_urgent-is 1 (long_at ch j) e))

    -- N
    module _ (none-urgent : (places_after c (feedback_heard ch)).urgent ≡ 0) (some : 1 ≤ c.long) where
      long-now : (outcome_heard ch).turn ≡ LongTurn
      long-now = turn-long c (feedback_heard ch) free none-urgent (long-there c (feedback_heard ch) some)

      one-long : how_many (sending long_segment) ch.stations ≡ 1
      one-long = many-same c (sending long_segment) (covers_long 1) (long_at-one c) ch.stations (all-within ch picks passed) ∙ (means ch picks passed).long 1 (omega arith) some

      pub tells-long : (k l t : ℕ) → k < length ch.stations → long_at ch k ≡ Long 1 l t → Tells LongTurn (index_at ch k) (t - (l - 1)) (channel_call ch (Slot picks)).answer
      tells-long k l t h e =
          let records = within-at c ch.stations (all-within ch picks passed) k h in
          let sent : sent_by long_segment (station_at ch.stations k) ≡ t - (l - 1)
          = ap (λ (n : ℕ). cond (eqb n 0) (long_segment (long_at ch k)) n) (short-silent (short_at ch k) records.brief) ∙ ap long_segment e in
          alone LongTurn long-now refl (index_at ch k) (t - (l - 1))
          (all_send long_segment (outcome_heard ch) (λ x n. rw long-now) fresh-long (λ x pick. segment-long c (feedback_heard ch) (laws ch picks passed) pick long-now some x) ch.stations picks passed.picked
          ∙ one-sends long_segment ch.stations one-long k h
          (ap (ltb 0) sent ∙ ap (λ (x : Condition). ltb 0 (long_segment x)) (sym e) ∙ long_at-one c (long_at ch k) records.long ∙ begins (long_at ch k) records.long e)
          ∙ ap (λ (n : ℕ). record { index = index_at ch k; segment = n } ∷ []) sent)
        where
          begins : (x : Condition) → condition_within c x ≡ true → x ≡ Long 1 l t → covers_long 1 x ≡ true
          begins x w q = let p = long-parts c 1 l t (subst (λ (y : Condition). condition_within c y ≡ true) q w) in ap (covers_long 1) q ∙ lt-ltb 1 (1 + l) (omega (arith, p))

      pub first-long : (j : ℕ) × (j < length ch.stations) × BeginsAt 1 (long_at ch j)
      first-long =
          let r = find (covers_long 1) ch.stations (omega (arith, (means ch picks passed).long 1 (omega arith) some)) in
          go r.0 r.1 r.2
        where
          no_short : (x : Condition) → condition_within c x ≡ true → short_within x ≡ true → covers_long 1 x ≡ true → ⊥
          no_short x w b q = false≢true (ap (ltb 0) (sym (short-silent x b)) ∙ long_at-one c x w ∙ q)

          go : (j : ℕ) → j < length ch.stations → (covers_long 1 (short_at ch j) ≡ true) ⊎ (covers_long 1 (long_at ch j) ≡ true) → (j : ℕ) × (j < length ch.stations) × BeginsAt 1 (long_at ch j)
          go j h (inl e) = let records = within-at c ch.stations (all-within ch picks passed) j h in absurd (no_short (short_at ch j) records.short records.brief e)
          go j h (inr e) = (j, h, covers_one c (long_at ch j) (within-at c ch.stations (all-within ch picks passed) j h).long e)
