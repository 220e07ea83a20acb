-- A slot that goes through: each station's slot on the wire's row is its step by the outcome, so the records after, and what is sent, are those of the
-- channel's definition. Assumes nothing.
use mathlib.Core.Path.{◌≡◌, refl, sym, ap, subst, ◌∙◌}
use mathlib.Core.Bool.{Bool, true, false, ◌&&◌, cond}
use mathlib.Core.List.{List, [], ◌∷◌, map, foldl}
use Prim.Native.Nat.{ℕ, zero, suc, ◌≤◌, ◌<◌}
use native.Mathlib.Omega.{arith}
use lib.Dec.{eqb}
use lib.ListN.{length, get_or, length-map}
use borrow.Author.Tests.{not-true}
use Rattle.minislot.specs.declared.Feedback.{Feedback}
use Rattle.minislot.specs.declared.Feedback.TheVariants.{Empty, Single, Collide}
use Rattle.minislot.specs.declared.Minislot.{Minislot}
use Rattle.std.specs.List.{list_all}
use Rattle.listlaws.specs.Steps.{all_steps, each_with}
use Rattle.rules.specs.declared.Acted.{Acted}
use Rattle.rules.specs.declared.Condition.{Condition}
use Rattle.rules.specs.declared.Outcome.{Outcome}
use Rattle.rules.specs.declared.Station.{Station}
use Rattle.rules.specs.declared.StationSlot.{StationSlot}
use Rattle.rules.specs.declared.WireRow.{WireRow}
use Rattle.rules.specs.Hearing.{words_of, counts_of}
use Rattle.rules.specs.Limits.{between}
use Rattle.rules.specs.Outcome.{success_in, successes, outcome_by}
use Rattle.rules.specs.Queueing.{places_after, passes, step_one_of}
use Rattle.rules.specs.Requesting.{requests}
use Rattle.channel_rules.specs.Soundness.{table_counters}
use Rattle.rules.specs.StationCalls.{no_station, slot_of}
use Rattle.rules.specs.Stepping.{request_minislot, settled_in, acts_of, stays, is_fresh, acts_beside, asker, step_of}
use Rattle.channel_rules.specs.ChannelCalls.{Channel, heard_row, feedback_heard, outcome_heard, slots_of, slots_heard, sent_of}
use Rattle.sound_slots.proofs.ChannelLaws.{limits, row-length, station-goes}
use Rattle.channel_rules.proofs.Gathering.{slots_length, InRow}
use Rattle.rules.proofs.LimitLaws.{between-bounds}
use Rattle.rules.proofs.SlotStep.{and_both}
use Rattle.channel_rules.proofs.SoundMeans.{all-at}
use Rattle.rules.proofs.Walking.{feedbacks-short}
use Rattle.sending.specs.Gathered.{silence, gathered}
use Rattle.sending.proofs.Forward.{AllInRow, gathers, senders-few}
use Rattle.calls.specs.ByValue.{channel_of}
use Rattle.calls.proofs.ByValue.{few_true}
use Rattle.slots.specs.Stepped.{station_after}
use Rattle.slots.proofs.Numbers.{Passed}

-- ---- lists of stations, each with its pick

-- where each station's slot is its step, all are
all-step : (f : Station → ℕ → StationSlot) (words counts : List ℕ) (l : List Station) (ks : List ℕ) → length ks ≡ length l
    → ((i : ℕ) → i < length l → slot_of (get_or l i no_station) words counts (get_or ks i 0) ≡ f (get_or l i no_station) (get_or ks i 0))
    → slots_of words counts l ks ≡ each_with f l ks
all-step f words counts [] ks e h = refl
all-step f words counts (s ∷ l) [] e h = absurd (omega arith)
all-step f words counts (s ∷ l) (k ∷ ks) e h = rw (h zero (omega arith), all-step f words counts l ks (omega arith) (λ i w. h (suc i) (omega arith)))

-- the records after are those of the steps
records_are : (o : Outcome) (l : List Station) (ks : List ℕ) → length ks ≡ length l
    → all_steps (station_after o) l ks ≡ map (λ (r : StationSlot). r.station) (each_with (step_of o) l ks)
unfolding all_steps
records_are o [] ks e = refl
records_are o (s ∷ l) [] e = absurd (omega arith)
records_are o (s ∷ l) (k ∷ ks) e = ap (λ (z : List Station). station_after o s k ∷ z) (records_are o l ks (omega arith))

-- a pick of eight minislots is the minislot of the request, or there is none
acts_in-row : (o : Outcome) (c : Condition) (k : ℕ) → k ≤ 8 → (acts_of o c k).minislot ≤ 8
unfolding acts_of
acts_in-row o c k h = go (requests o.resolution o.group (settled_in o.landed o.group c))
  where
    go : (b : Bool) → request_minislot b k ≤ 8
    go true = h
    go false = omega arith

beside_in_row : (o : Outcome) (a b : Condition) (k : ℕ) → k ≤ 8 → (acts_beside o a b k).minislot ≤ 8
unfolding acts_beside
beside_in_row o a b k h = go (is_fresh a && is_fresh b)
  where
    go : (both : Bool) → (cond both (stays b) (acts_of o b k)).minislot ≤ 8
    go true = omega arith
    go false = acts_in-row o b k h

asker_in_row : (x y : Acted) → x.minislot ≤ 8 → y.minislot ≤ 8 → (asker x y).minislot ≤ 8
asker_in_row x y p q = go (eqb x.minislot 0)
  where
    go : (none : Bool) → (cond none y x).minislot ≤ 8
    go true = q
    go false = p

step_in_row : (o : Outcome) (s : Station) (k : ℕ) → k ≤ 8 → InRow (step_of o s k).answer
unfolding step_of
step_in_row o s k h =
    asker_in_row (acts_of o s.short.condition k) (acts_beside o s.short.condition s.long.condition k)
    (acts_in-row o s.short.condition k h) (beside_in_row o s.short.condition s.long.condition k h)

all_in-row : (o : Outcome) (m : ℕ) → m ≤ 8 → (l : List Station) (ks : List ℕ) → list_all (λ (pick : ℕ). between 1 pick m) ks ≡ true → AllInRow (each_with (step_of o) l ks)
all_in-row o m h [] ks e = tt
all_in-row o m h (s ∷ l) [] e = tt
all_in-row o m h (s ∷ l) (k ∷ ks) e =
    let p = and_both (between 1 k m) (list_all (λ (pick : ℕ). between 1 pick m) ks) e in
    (step_in_row o s k (omega (arith, between-bounds 1 k m p.0)), all_in-row o m h l ks p.1)

-- ---- what the row delivers

success_small : (b : Bool) (f : Feedback) → success_in b f ≤ 1
success_small b Empty = omega arith
success_small b (Single i c) = go (b && eqb c 1)
  where
    go : (x : Bool) → cond x 1 0 ≤ 1
    go true = omega arith
    go false = omega arith
success_small b Collide = omega arith

successes-few : (b : Bool) (row : List Feedback) → successes b row ≤ length row
successes-few b [] = omega arith
successes-few b (f ∷ row) = omega (arith, success_small b f, successes-few b row)

-- ---- a slot that goes through

module _ (ys : List Station) (wire : List WireRow) (picks : List ℕ) (passed : Passed (channel_of ys wire) picks) where
  abbrev ch : Channel
  ch = channel_of ys wire

  some : 1 ≤ length ys
  some = (few_true (length ys) passed.some).0

  pub few : length ys ≤ 64
  few = (few_true (length ys) passed.some).1

  narrow : (table_counters ys).minislots ≤ 8
  narrow = (limits ys wire some passed.sound).minislots.1

  none_passes : passes (places_after (table_counters ys) (feedback_heard ch)) ≡ false
  unfolding step_one_of
  none_passes = not-true (passes (places_after (table_counters ys) (feedback_heard ch))) passed.fits

  -- every station's slot is its step by the outcome
  pub steps_are : each_with (step_of (outcome_heard ch)) ys picks ≡ slots_heard ch picks
  steps_are =
      sym
      (all-step (step_of (outcome_heard ch)) (words_of (heard_row ch)) (counts_of (heard_row ch)) ys picks passed.same
      (λ i h. station-goes ys wire some passed.sound none_passes i h (get_or picks i 0) (all-at (λ (pick : ℕ). between 1 pick (table_counters ys).minislots) 0 picks passed.picked i (omega (arith, passed.same)))))

  pub stations_are : all_steps (station_after (outcome_heard ch)) ys picks ≡ map (λ (r : StationSlot). r.station) (slots_heard ch picks)
  stations_are = records_are (outcome_heard ch) ys picks passed.same ∙ ap (map (λ (r : StationSlot). r.station)) steps_are

  pub sent_is : foldl gathered silence (each_with (step_of (outcome_heard ch)) ys picks) ≡ sent_of (slots_heard ch picks)
  sent_is =
      gathers (each_with (step_of (outcome_heard ch)) ys picks)
      (subst (λ (l : List StationSlot). length l ≤ 64) (sym steps_are) (rw (slots_length (words_of (heard_row ch)) (counts_of (heard_row ch)) ys picks passed.same) few))
      (all_in-row (outcome_heard ch) (table_counters ys).minislots narrow ys picks passed.picked)
      ∙ ap sent_of steps_are

  -- not more than 64 send, and the row delivers not more than eight
  pub senders-most : (sent_of (slots_heard ch picks)).senders ≤ 64
  senders-most =
      let e : length (slots_heard ch picks) ≡ length ys = slots_length (words_of (heard_row ch)) (counts_of (heard_row ch)) ys picks passed.same in
      omega (arith, senders-few (slots_heard ch picks), e, few)

  pub row-most : length (feedback_heard ch) ≤ 8
  row-most =
      let w : length (words_of (heard_row ch)) ≡ length (heard_row ch) = length-map (heard_row ch) (λ (x : Minislot). x.word) in
      omega (arith, feedbacks-short (words_of (heard_row ch)) (counts_of (heard_row ch)), w, row-length ys wire some passed.sound, narrow)

  pub delivered-most : (outcome_heard ch).delivered ≤ 8
  unfolding outcome_by
  delivered-most = omega (arith, successes-few (step_one_of (table_counters ys) (feedback_heard ch)).success (feedback_heard ch), row-most)
