-- Demand 2's account of the row, for every sound table: the requests that the stations send in a minislot have different indexes and a slot or more, so what
-- they leave together reads as it should. Assumes nothing.
use mathlib.Core.Path.{◌≡◌, refl, sym, ap, subst, ◌∙◌}
use mathlib.Core.Bool.{Bool, true, false, not, cond, ◌&&◌, false≢true}
use mathlib.Core.List.{List, [], ◌∷◌, ◌++◌, map}
use mathlib.Core.Logic.{◌≢◌, ◌⊎◌, inl, inr}
use Prim.Native.Nat.{ℕ, zero, suc, ◌+◌, ◌-◌, ◌≤◌, ◌<◌}
use native.Mathlib.Omega.{arith}
use lib.Dec.{eqb, leb}
use lib.ListN.{length, get_or, set}
use lib.Seq.{get_or-set_same}
use borrow.Author.Tests.{eqb-true, leb-true}
use Rattle.minislot.specs.declared.Minislot.{Minislot}
use Rattle.minislot.specs.declared.Feedback.{Feedback}
use Rattle.minislot.specs.declared.Feedback.TheVariants.{Empty, Single, Collide}
use Rattle.rows.specs.Row.{readings, feedbacks}
use Rattle.minislot.specs.Click.{Click}
use Rattle.minislot.specs.Reading.{reading_of}
use Rattle.requests.specs.Together.{Request, carries, silent, together, Apart, Proper}
use Rattle.requests.proofs.Senders.{together-reads, no_click}
use Rattle.rules.specs.declared.Counters.{Counters}
use Rattle.rules.specs.declared.Station.{Station}
use Rattle.rules.specs.declared.StationSlot.{StationSlot}
use Rattle.rules.specs.declared.SlotAnswer.{SlotAnswer}
use Rattle.rules.specs.declared.SlotAnswer.TheVariants.{Went as WentSlot, Refused as RefusedSlot}
use Rattle.rules.specs.declared.Places.{Places}
use Rattle.rules.specs.declared.WireRow.{WireRow}
use Rattle.std.specs.List.{list_all}
use Rattle.listlaws.specs.Lists.{each_pair, only_if}
use Rattle.rules.specs.Limits.{between, within_limits}
use Rattle.rules.specs.Hearing.{words_of, counts_of}
use Rattle.rules.specs.Queueing.{places_before, places_after, immediate_of, places_of}
use Rattle.rules.specs.declared.Turn.{Turn}
use Rattle.rules.specs.declared.Turn.TheVariants.{Owned as OwnedTurn, Urgent as UrgentTurn, Long as LongTurn, Resolve as ResolveTurn, Open as OpenTurn}
use Rattle.rules.specs.Turns.{turn_of}
use Rattle.rules.specs.Listening.{has_row}
use Rattle.rules.specs.declared.Condition.{Condition}
use Rattle.rules.specs.declared.Condition.TheVariants.{Free, Held, Fresh, Asked, Resolving, Urgent, Long}
use Rattle.rules.specs.StationLimits.{is_total, condition_within, station_within}
use Rattle.rules.specs.Calendars.{owner_of}
use Rattle.rules.specs.Requesting.{waits_in, requests, requested, total_of}
use Rattle.rules.specs.Serving.{moved}
use Rattle.rules.specs.Outcome.{outcome_by, outcome_of}
use Rattle.rules.specs.StationCalls.{slot_number_of, slot_of, refused_slot}
use Rattle.channel_rules.specs.Soundness.{other_index, indexes_distinct, records_within, table_counters, sound_table}
use Rattle.channel_rules.specs.ChannelCalls.{Channel, blank_row, has_stations, heard_row, slots_of, request_in, requests_in, new_row, channel_slot_of}
use Rattle.channel_rules.specs.SoundMeaning.{station_at, Sound}
use Rattle.sound_slots.specs.RowAccount.{RowAccount, RowAccountHolds}
use Rattle.rules.proofs.SlotStep.{and_both}
use Rattle.rules.proofs.LimitLaws.{within-limits, station_in}
use Rattle.channel_rules.proofs.SoundTests.{sound-tests}
use Rattle.channel_rules.proofs.SoundMeans.{not_eq, sound-says}
use Rattle.rules.proofs.Settled.{stands_alone, stands_after, feedback_at, settled_by, settled_of, requesting, condition_after, acted_by, beside_by, station_after, went_by, step_is}
use Rattle.rules.specs.declared.Acted.{Acted}
use Rattle.rules.specs.Stepping.{request_minislot, is_fresh, stays, asker, request_total, step_of}
use Rattle.rules.proofs.Refusals.{test_passed}
use Rattle.sound_slots.proofs.Passing.{some-stations, slot-passed}
use Rattle.rules.proofs.Walking.{row_fits}

-- ---- one station: who requests has a message of a slot or more, and keeps its total

total_kept : (turn : Turn) (r g pick : ℕ) (c : Condition) → requests r g c ≡ true → total_of (moved turn (requested r g pick c)) ≡ total_of c
unfolding requests requested moved
total_kept turn r g pick Free e = cc
total_kept turn r g pick (Held t) e = cc
total_kept turn r g pick (Fresh t) e = rw e (go turn)
  where
    go : (turn : Turn) → total_of (moved turn (Asked g pick t)) ≡ t
    go (OwnedTurn x) = refl
    go UrgentTurn = refl
    go LongTurn = refl
    go ResolveTurn = refl
    go OpenTurn = refl
total_kept turn r g pick (Asked h j t) e = cc
total_kept turn r g pick (Resolving h i t) e = let (a, b) = and_both (waits_in r g h) (eqb i 1) e in rw (a, b) (go turn)
  where
    go : (turn : Turn) → total_of (moved turn (Asked g pick t)) ≡ t
    go (OwnedTurn x) = refl
    go UrgentTurn = refl
    go LongTurn = refl
    go ResolveTurn = refl
    go OpenTurn = refl
total_kept turn r g pick (Urgent i) e = cc
total_kept turn r g pick (Long f l t) e = cc

some-total : (t : ℕ) → is_total t ≡ true → 1 ≤ t
some-total t e = leb-true 1 t (and_both (leb 1 t) (leb t 255) e).0

alone-silent : (r g : ℕ) (b o : Bool) (p : Places) (t : ℕ) → requests r g (stands_alone b o p t) ≡ true → 1 ≤ total_of (stands_alone b o p t)
unfolding requests
alone-silent r g true true p t e = absurd (false≢true e)
alone-silent r g false true p t e = absurd (false≢true e)
alone-silent r g b false p t e = absurd (false≢true e)

after-total : (r g h : ℕ) (b : Bool) (p : Places) (f : Feedback) (t : ℕ) → 1 ≤ t → requests r g (stands_after b h p f t) ≡ true → 1 ≤ total_of (stands_after b h p f t)
unfolding requests
after-total r g h b p Empty t lo e = absurd (false≢true e)
after-total r g h b p (Single i c) t lo e = alone-silent r g b (eqb c 1) p t e
after-total r g h b p Collide t lo e = lo

settled-total : (c : Counters) (r g : ℕ) (b : Bool) (p : Places) (row : List Feedback) (k : Condition) → condition_within c k ≡ true
    → requests r g (settled_by b g p row k) ≡ true → 1 ≤ total_of (settled_by b g p row k)
unfolding requests settled_by condition_within
settled-total c r g b p row Free w e = absurd (false≢true e)
settled-total c r g b p row (Held t) w e = absurd (false≢true e)
settled-total c r g b p row (Fresh t) w e = some-total t w
settled-total c r g b p row (Asked h j t) w e = go (eqb h g) e
  where
    lo : 1 ≤ t
    lo = some-total t (and_both (between 1 h c.groups && between 1 j c.minislots) (is_total t) w).1

    go : (x : Bool) → requests r g (cond x (stands_after b g (places_before b p row j) (feedback_at row j) t) (Asked h j t)) ≡ true
        → 1 ≤ total_of (cond x (stands_after b g (places_before b p row j) (feedback_at row j) t) (Asked h j t))
    go true e = after-total r g g b (places_before b p row j) (feedback_at row j) t lo e
    go false e = lo
settled-total c r g b p row (Resolving h i t) w e =
    some-total t (and_both (between 1 h c.groups && _) (is_total t) w).1
settled-total c r g b p row (Urgent i) w e = absurd (false≢true e)
settled-total c r g b p row (Long f l t) w e = absurd (false≢true e)

-- ---- one station's slot: its index, and a total of one or more with a request

abbrev Sends : SlotAnswer → ℕ → Type 0
Sends (WentSlot turn minislot segment) total = 1 ≤ minislot → 1 ≤ total
Sends (RefusedSlot n) total = Unit {0}

pub record Fair (s : Station) (r : StationSlot) : Type 0 where
  pub index : r.station.index ≡ s.index
  pub sends : Sends r.answer r.request

fair_refused : (s : Station) (n : ℕ) → Fair s (refused_slot s n)
fair_refused s n = record { index = refl; sends = tt }

-- a record that requests has a total of one or more
acted-total : (c : Counters) (row : List Feedback) (pick : ℕ) (k : Condition) → condition_within c k ≡ true → 1 ≤ (acted_by c row pick k).minislot → 1 ≤ total_of (acted_by c row pick k).condition
unfolding acted_by
acted-total c row pick k w lo = asks (requesting c row k) refl lo
  where
    asks : (b : Bool) → requesting c row k ≡ b → 1 ≤ request_minislot b pick → 1 ≤ total_of (condition_after c row pick k)
    asks true e lo =
        rw (total_kept (turn_of (owner_of c) (places_after c row)) (places_after c row).resolution c.next pick (settled_of c row k) e)
        (settled-total c (places_after c row).resolution c.next (immediate_of c row) (places_of c) row k w e)
    asks false e lo = absurd (omega arith)

beside-total : (c : Counters) (row : List Feedback) (pick : ℕ) (a b : Condition) → condition_within c b ≡ true → 1 ≤ (beside_by c row pick a b).minislot → 1 ≤ total_of (beside_by c row pick a b).condition
unfolding beside_by
beside-total c row pick a b w = go (is_fresh a && is_fresh b)
  where
    go : (x : Bool) → 1 ≤ (cond x (stays b) (acted_by c row pick b)).minislot → 1 ≤ total_of (cond x (stays b) (acted_by c row pick b)).condition
    go true lo = absurd (omega arith)
    go false lo = acted-total c row pick b w lo

-- so the station's request has
asker-total : (x y : Acted) → (1 ≤ x.minislot → 1 ≤ total_of x.condition) → (1 ≤ y.minislot → 1 ≤ total_of y.condition) → 1 ≤ (asker x y).minislot → 1 ≤ request_total (asker x y)
asker-total x y p q = go (eqb x.minislot 0)
  where
    one : (z : Acted) → (1 ≤ z.minislot → 1 ≤ total_of z.condition) → (b : Bool) → eqb z.minislot 0 ≡ b → 1 ≤ z.minislot → 1 ≤ cond b 0 (total_of z.condition)
    one z h true e lo = let w : z.minislot ≡ 0 = eqb-true z.minislot 0 e in absurd (omega arith)
    one z h false e lo = h lo

    go : (b : Bool) → 1 ≤ (cond b y x).minislot → 1 ≤ request_total (cond b y x)
    go true lo = one y q (eqb y.minislot 0) refl lo
    go false lo = one x p (eqb x.minislot 0) refl lo

pub slot_fair : (s : Station) (words counts : List ℕ) (pick : ℕ) → Fair s (slot_of s words counts pick)
unfolding slot_of slot_number_of station_after
slot_fair s words counts pick = go (eqb (slot_number_of s words counts pick) 0) refl
  where
    row : List Feedback
    row = feedbacks (readings words counts)

    through : station_within s ≡ true → Fair s (went_by s row pick)
    through w =
        record {
          index = refl;
          sends =
              asker-total (acted_by s.counters row pick s.short.condition) (beside_by s.counters row pick s.short.condition s.long.condition)
              (acted-total s.counters row pick s.short.condition (station_in s w).records.short)
              (beside-total s.counters row pick s.short.condition s.long.condition (station_in s w).records.long);
        }

    go : (b : Bool) → eqb (slot_number_of s words counts pick) 0 ≡ b
        → Fair s (cond b (step_of (outcome_of s.counters row) s pick) (refused_slot s (slot_number_of s words counts pick)))
    go false e = fair_refused s (slot_number_of s words counts pick)
    go true e =
        let (e18, after18) = test_passed (station_within s) 18 _ refl (eqb-true (slot_number_of s words counts pick) 0 e) in
        let (e6, _) = test_passed (has_row s.counters.minislots words counts) 6 _ refl after18 in
        subst (Fair s) (sym (step_is s row pick (row_fits s words counts e18 e6))) (through e18)

-- ---- all stations

abbrev request_as : ℕ → ℕ → Request
request_as i v = record { index = i; total = v }

module _ (words counts : List ℕ) (j : ℕ) (lo : 1 ≤ j) where
  -- a station's request in minislot j
  one : (s : Station) (r : StationSlot) → Fair s r → (request_in j r r.answer ≡ []) ⊎ ((v : ℕ) × (1 ≤ v) × (request_in j r r.answer ≡ request_as s.index v ∷ []))
  one s r f = go r.answer f.sends
    where
      go : (a : SlotAnswer) → Sends a r.request → (request_in j r a ≡ []) ⊎ ((v : ℕ) × (1 ≤ v) × (request_in j r a ≡ request_as s.index v ∷ []))
      go (WentSlot turn minislot segment) h = at (eqb minislot j) refl
        where
          at : (b : Bool) → eqb minislot j ≡ b
              → (only_if b (request_as r.station.index r.request ∷ []) ≡ [])
              ⊎ ((v : ℕ) × (1 ≤ v) × (only_if b (request_as r.station.index r.request ∷ []) ≡ request_as s.index v ∷ []))
          at true e =
              let w : minislot ≡ j = eqb-true minislot j e in
              inr (r.request, h (omega arith), ap (λ (i : ℕ). request_as i r.request ∷ []) f.index)
          at false e = inl refl
      go (RefusedSlot n) h = inl refl

  apart_from : (i : ℕ) (l : List Station) (picks : List ℕ) → list_all (λ (b : Station). not (eqb i b.index)) l ≡ true → Apart i (requests_in j (slots_of words counts l picks))
  apart_from i [] picks e = tt
  apart_from i (s ∷ l) [] e = tt
  apart_from i (s ∷ l) (x ∷ picks) e =
      let (a, b) = and_both (not (eqb i s.index)) (list_all (λ (b : Station). not (eqb i b.index)) l) e in
      add (request_in j (slot_of s words counts x) (slot_of s words counts x).answer) (one s (slot_of s words counts x) (slot_fair s words counts x)) (not_eq i s.index a) (apart_from i l picks b)
    where
      add : (y : List Request) → (y ≡ []) ⊎ ((v : ℕ) × (1 ≤ v) × (y ≡ request_as s.index v ∷ [])) → i ≢ s.index → Apart i (requests_in j (slots_of words counts l picks))
          → Apart i (y ++ requests_in j (slots_of words counts l picks))
      add y (inl q) ne ih = rw q ih
      add y (inr (v, lo, q)) ne ih = rw q ((λ w. ne (sym w)), ih)

  proper : (l : List Station) (picks : List ℕ) → each_pair other_index l ≡ true → list_all station_within l ≡ true → Proper (requests_in j (slots_of words counts l picks))
  proper [] picks e w = tt
  proper (s ∷ l) [] e w = tt
  proper (s ∷ l) (x ∷ picks) e w =
      let (a, b) = and_both (list_all (other_index s) l) (each_pair other_index l) e in
      let (c, d) = and_both (station_within s) (list_all station_within l) w in
      add (request_in j (slot_of s words counts x) (slot_of s words counts x).answer) (one s (slot_of s words counts x) (slot_fair s words counts x)) (let z = (station_in s c).index in omega arith) (apart_from s.index l picks a) (proper l picks b d)
    where
      add : (y : List Request) → (y ≡ []) ⊎ ((v : ℕ) × (1 ≤ v) × (y ≡ request_as s.index v ∷ [])) → s.index < 924 → Apart s.index (requests_in j (slots_of words counts l picks))
          → Proper (requests_in j (slots_of words counts l picks)) → Proper (y ++ requests_in j (slots_of words counts l picks))
      add y (inl q) small ap ih = rw q ih
      add y (inr (v, lo, q)) small ap ih = rw q (small, lo, ap, ih)

-- ---- THE ROW

length-new : (results : List StationSlot) (n i : ℕ) → length (new_row results n i) ≡ n
length-new results zero i = refl
length-new results (suc n) i = ap suc (length-new results n (suc i))

new-at : (results : List StationSlot) (n i k : ℕ) → k < n → get_or (new_row results n i) k silent ≡ together (map carries (requests_in (i + k) results))
new-at results zero i k h = absurd (omega arith)
new-at results (suc n) i zero h = ap (λ (x : ℕ). together (map carries (requests_in x results))) (omega arith)
new-at results (suc n) i (suc k) h = new-at results n (suc i) k (omega arith) ∙ ap (λ (x : ℕ). together (map carries (requests_in x results))) (omega arith)

account : (stations : List Station) (words counts picks : List ℕ) → each_pair other_index stations ≡ true → list_all station_within stations ≡ true
    → RowAccount (slots_of words counts stations picks) (new_row (slots_of words counts stations picks) 8 1)
account stations words counts picks e w =
    record {
      size = length-new (slots_of words counts stations picks) 8 1;
      made = at;
      read = λ j lo hi.
          ap (λ (s : Minislot). reading_of s.word s.count) (at j lo hi) ∙ together-reads (requests_in j (slots_of words counts stations picks)) (proper words counts j lo stations picks e w);
      no_click = λ j lo hi k.
          no_click (requests_in j (slots_of words counts stations picks)) (proper words counts j lo stations picks e w) (subst (λ (s : Minislot). Click s.word) (at j lo hi) k);
    }
  where
    at : (j : ℕ) → 1 ≤ j → j ≤ 8 → get_or (new_row (slots_of words counts stations picks) 8 1) (j - 1) silent ≡ together (map carries (requests_in j (slots_of words counts stations picks)))
    at j lo hi =
        new-at (slots_of words counts stations picks) 8 1 (j - 1) (omega arith)
        ∙ ap (λ (x : ℕ). together (map carries (requests_in x (slots_of words counts stations picks)))) (let z : 1 + (j - 1) ≡ j = omega arith in z)

-- what the slot that went through leaves on the wire
module _ (ch : Channel) (picks : List ℕ) (e14 : has_stations ch.stations ≡ true) (e18 : sound_table ch.stations ch.wire ≡ true) where
  says : Sound ch.stations ch.wire
  says = sound-says ch.stations ch.wire e18

  limits : within_limits (table_counters ch.stations) ≡ true
  limits = (station_in (station_at ch.stations 0) (says.within 0 (some-stations ch.stations e14))).counters

  pub on_the_wire : RowAccount (slots_of (words_of (heard_row ch)) (counts_of (heard_row ch)) ch.stations picks)
      (get_or (set ch.wire ((table_counters ch.stations).next - 1) (record { minislots = new_row (slots_of (words_of (heard_row ch)) (counts_of (heard_row ch)) ch.stations picks) 8 1 })) ((table_counters ch.stations).next - 1) blank_row).minislots
  unfolding indexes_distinct records_within
  on_the_wire =
      let w = within-limits (table_counters ch.stations) limits in
      let (lo, hi) = w.next in
      let n8 = w.groups.1 in
      let t = sound-tests ch.stations ch.wire e18 in
      subst (λ (r : WireRow). RowAccount (slots_of (words_of (heard_row ch)) (counts_of (heard_row ch)) ch.stations picks) r.minislots)
      (sym (get_or-set_same ch.wire ((table_counters ch.stations).next - 1) (record { minislots = new_row (slots_of (words_of (heard_row ch)) (counts_of (heard_row ch)) ch.stations picks) 8 1 }) blank_row (omega (arith, says.size.0))))
      (account ch.stations (words_of (heard_row ch)) (counts_of (heard_row ch)) picks t.distinct t.within)

pub row-account : RowAccountHolds
unfolding channel_slot_of outcome_by
row-account ch picks turn n i s d e =
    let passed = slot-passed ch picks turn n i s d e in
    rw passed.number (on_the_wire ch picks passed.stations passed.sound)
