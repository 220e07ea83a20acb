-- An open slot of a sound table: every station's slot goes through by the shared counters (ChannelLaws) and is a step of an open slot (OpenSteps). So as many
-- stations send as there are requests of one slot, counted minislot by minislot; and in a row without Collides each minislot has one request at most, its
-- Single. The same count of what one index sends says whose the one is.
-- Assumes nothing.
use mathlib.Core.Path.{◌≡◌, refl, sym, ap, subst, ◌∙◌}
use mathlib.Core.Bool.{Bool, true, false, ◌&&◌, cond}
use mathlib.Core.List.{List, [], ◌∷◌, ◌++◌}
use mathlib.Core.Logic.{◌⊎◌, inl, inr}
use Prim.Native.Nat.{ℕ, zero, suc, ◌+◌, ◌-◌, ◌≤◌, ◌<◌}
use native.Mathlib.Omega.{arith}
use lib.Dec.{eqb, leb}
use lib.ListN.{length, get_or, take}
use borrow.Author.Tests.{eqb-true, eqb-false, eq-eqb, ne_eqb, leb-true}
use Rattle.minislot.specs.declared.Minislot.{Minislot}
use Rattle.minislot.specs.declared.Feedback.{Feedback}
use Rattle.minislot.specs.declared.Feedback.TheVariants.{Empty, Single, Collide}
use Rattle.minislot.specs.declared.Reading.TheVariants.{Heard}
use Rattle.minislot.specs.Reading.{reading_of}
use Rattle.rows.specs.Row.{readings, feedbacks}
use Rattle.requests.specs.Together.{Request, silent, spoken}
use Rattle.std.specs.List.{list_all}
use Rattle.listlaws.specs.Lists.{count_of, only_if}
use Rattle.rules.specs.declared.Outcome.{Outcome}
use Rattle.rules.specs.declared.Station.{Station}
use Rattle.rules.specs.declared.StationSlot.{StationSlot}
use Rattle.rules.specs.declared.SlotAnswer.{SlotAnswer}
use Rattle.rules.specs.declared.SlotAnswer.TheVariants.{Went as WentSlot}
use Rattle.rules.specs.declared.Turn.TheVariants.{Open as OpenTurn}
use Rattle.rules.specs.Limits.{between}
use Rattle.rules.specs.Hearing.{words_of, counts_of}
use Rattle.rules.specs.RowCounts.{short_singles, collides}
use Rattle.rules.specs.Outcome.{outcome_by, outcome_of}
use Rattle.rules.specs.Stepping.{step_of}
use Rattle.rules.specs.StationCalls.{slot_of}
use Rattle.channel_rules.specs.Soundness.{table_counters}
use Rattle.channel_rules.specs.SoundMeaning.{station_at}
use Rattle.channel_rules.specs.ChannelCalls.{DataSent, blank_row, heard_row, feedback_heard, slots_of, slots_heard, request_in, requests_in, data_in, data_sent, lone_index, lone_segment, channel_slot_of}
use Rattle.rules.proofs.SlotStep.{and_both}
use Rattle.rules.proofs.QueueingLaws.{fits-says}
use Rattle.sound_slots.specs.OpenSlots.{row_made, OpenSlotsHold}
use Rattle.sound_slots.proofs.Passing.{some-stations, slot-passed}
use Rattle.sound_slots.proofs.ChannelLaws.{limits, station-goes}
use Rattle.sound_slots.proofs.OpenSteps.{open_none, Opens, station_opens}
use Rattle.sound_slots.proofs.Transmission.{row-account}

-- ---- requests of one slot, minislot by minislot

count-append {ℓ} : {A : Type ℓ} (test : A → Bool) (a b : List A) → count_of test (a ++ b) ≡ count_of test a + count_of test b
count-append test [] b = omega arith
count-append test (x ∷ a) b = omega (arith, count-append test a b)

count-all {ℓ} : {A : Type ℓ} (l : List A) → count_of (λ (x : A). true) l ≡ length l
count-all [] = refl
count-all (x ∷ l) = omega (arith, count-all l)

-- what an index sends as its one segment
abbrev data_of : ℕ → DataSent
data_of i = record { index = i; segment = 1 }

module _ (test : DataSent → Bool) where
  -- a request of one slot whose data passes the test
  abbrev short : Request → Bool
  short q = eqb q.total 1 && test (data_of q.index)

  -- f gives the requests of a minislot: how many of these in n minislots from j
  abbrev shorts : (ℕ → List Request) → ℕ → ℕ → ℕ
  shorts f zero j = 0
  shorts f (suc n) j = count_of short (f j) + shorts f n (suc j)

  shorts-none : (n j : ℕ) → shorts (λ k. []) n j ≡ 0
  shorts-none zero j = refl
  shorts-none (suc n) j = omega (arith, shorts-none n (suc j))

  shorts-append : (f g : ℕ → List Request) (n j : ℕ) → shorts (λ k. f k ++ g k) n j ≡ shorts f n j + shorts g n j
  shorts-append f g zero j = refl
  shorts-append f g (suc n) j = omega (arith, count-append short (f j) (g j), shorts-append f g n (suc j))

  -- a request that stands in minislot k
  before : (q : Request) (k n j : ℕ) → k < j → shorts (λ i. only_if (eqb k i) (q ∷ [])) n j ≡ 0
  before q k zero j h = refl
  before q k (suc n) j h = rw (ne_eqb k j (λ e. omega arith)) (omega (arith, before q k n (suc j) (omega arith)))

  inside : (q : Request) (k n j : ℕ) → j ≤ k → k < j + n → shorts (λ i. only_if (eqb k i) (q ∷ [])) n j ≡ cond (short q) 1 0
  inside q k zero j lo hi = absurd (omega arith)
  inside q k (suc n) j lo hi = go (inside q k n (suc j)) (eqb k j) refl
    where
      go : (suc j ≤ k → k < suc j + n → shorts (λ i. only_if (eqb k i) (q ∷ [])) n (suc j) ≡ cond (short q) 1 0) → (b : Bool) → eqb k j ≡ b
          → count_of short (only_if b (q ∷ [])) + shorts (λ i. only_if (eqb k i) (q ∷ [])) n (suc j) ≡ cond (short q) 1 0
      go ih true e = let w : k ≡ j = eqb-true k j e in omega (arith, before q k n (suc j) (omega arith))
      go ih false e = let w : (k ≡ j → ⊥) = eqb-false k j e in omega (arith, ih (omega arith) (omega arith))

  -- ---- one station: it sends just if it requests one slot

  told : (r : StationSlot) (k t m : ℕ) → r.request ≡ t → (pick : ℕ) → 1 ≤ pick → pick ≤ m → (k ≡ pick) ⊎ ((k ≡ 0) × (t ≡ 0))
      → shorts (λ j. request_in j r (WentSlot OpenTurn k (cond (eqb t 1) 1 0))) m 1 ≡ count_of test (data_in r (WentSlot OpenTurn k (cond (eqb t 1) 1 0)))
  told r k t m e pick lo hi (inl p) =
      inside (record { index = r.station.index; total = r.request }) k m 1 (omega arith) (omega arith)
      ∙ rw e (go (eqb t 1))
    where
      go : (b : Bool) → cond (b && test (data_of r.station.index)) 1 0 ≡ count_of test (data_in r (WentSlot OpenTurn k (cond b 1 0)))
      go true = omega arith
      go false = refl
  told r k t m e pick lo hi (inr (p, z)) =
      before (record { index = r.station.index; total = r.request }) k m 1 (omega arith)
      ∙ rw z refl

  tells : (s : Station) (pick m : ℕ) (r : StationSlot) → Opens s pick r → 1 ≤ pick → pick ≤ m
      → shorts (λ j. request_in j r r.answer) m 1 ≡ count_of test (data_in r r.answer)
  tells s pick m r o lo hi =
      subst (λ (a : SlotAnswer). shorts (λ j. request_in j r a) m 1 ≡ count_of test (data_in r a)) (sym o.answer)
      (told r o.minislot o.total m o.request pick lo hi o.picked)

  -- ---- all stations

  module _ (o : Outcome) (words counts : List ℕ) (m : ℕ) (opening : o.turn ≡ OpenTurn) (none_left : o.resolution ≡ 0) where
    senders_are : (l : List Station) (picks : List ℕ) → length picks ≡ length l → list_all (λ (pick : ℕ). between 1 pick m) picks ≡ true
        → ((k : ℕ) → k < length l → (pick : ℕ) → between 1 pick m ≡ true → slot_of (station_at l k) words counts pick ≡ step_of o (station_at l k) pick)
        → shorts (λ j. requests_in j (slots_of words counts l picks)) m 1 ≡ count_of test (data_sent (slots_of words counts l picks))
    senders_are [] picks e w goes = shorts-none m 1
    senders_are (s ∷ l) [] e w goes = absurd (omega arith)
    senders_are (s ∷ l) (pick ∷ picks) e w goes =
        let (here, rest) = and_both (between 1 pick m) (list_all (λ (pick : ℕ). between 1 pick m) picks) w in
        let (lo, hi) = and_both (leb 1 pick) (leb pick m) here in
        let r = slot_of s words counts pick in
        let opens : Opens s pick r = subst (Opens s pick) (sym (goes zero (omega arith) pick here)) (station_opens o opening none_left s pick (leb-true 1 pick lo)) in
        shorts-append (λ j. request_in j r r.answer) (λ j. requests_in j (slots_of words counts l picks)) m 1
        ∙ ap (λ (n : ℕ). n + shorts (λ j. requests_in j (slots_of words counts l picks)) m 1) (tells s pick m r opens (leb-true 1 pick lo) (leb-true pick m hi))
        ∙ ap (λ (n : ℕ). count_of test (data_in r r.answer) + n) (senders_are l picks (omega arith) rest (λ k h. goes (suc k) (omega arith)))
        ∙ sym (count-append test (data_in r r.answer) (data_sent (slots_of words counts l picks)))

-- ---- the row: each minislot reads as who spoke there

abbrev spoken_in : (ℕ → List Request) → ℕ → ℕ → List Feedback
spoken_in f zero j = []
spoken_in f (suc n) j = spoken (f j) ∷ spoken_in f n (suc j)

reads : (row : List Minislot) (f : ℕ → List Request) (n j : ℕ) → n ≤ length row
    → ((k : ℕ) → k < n → reading_of (get_or row k silent).word (get_or row k silent).count ≡ Heard (spoken (f (j + k))))
    → feedbacks (readings (words_of (take n row)) (counts_of (take n row))) ≡ spoken_in f n j
unfolding readings feedbacks
reads [] f zero j h e = refl
reads (x ∷ row) f zero j h e = refl
reads [] f (suc n) j h e = absurd (omega arith)
reads (x ∷ row) f (suc n) j h e =
    let here : reading_of x.word x.count ≡ Heard (spoken (f j)) = e 0 (omega arith) ∙ ap (λ (i : ℕ). Heard (spoken (f i))) (omega arith) in
    rw here
    (ap (λ (l : List Feedback). spoken (f j) ∷ l)
    (reads row f n (suc j) (omega arith) (λ k q. e (suc k) (omega arith) ∙ ap (λ (i : ℕ). Heard (spoken (f i))) (omega arith))))

-- where nobody met, as many Singles of count 1 as requests of one slot
singles_are : (f : ℕ → List Request) (n j : ℕ) → collides (spoken_in f n j) ≡ 0 → shorts (λ d. true) f n j ≡ short_singles (spoken_in f n j)
unfolding collides short_singles
singles_are f zero j e = refl
singles_are f (suc n) j e = go (f j) (singles_are f n (suc j)) e
  where
    one : (b : Bool) (x y : ℕ) → x ≡ y → cond (b && true) 1 0 + 0 + x ≡ cond b 1 0 + y
    one true x y e = omega arith
    one false x y e = omega arith

    go : (l : List Request) → (collides (spoken_in f n (suc j)) ≡ 0 → shorts (λ d. true) f n (suc j) ≡ short_singles (spoken_in f n (suc j)))
        → collides (spoken l ∷ spoken_in f n (suc j)) ≡ 0
        → count_of (short (λ d. true)) l + shorts (λ d. true) f n (suc j) ≡ short_singles (spoken l ∷ spoken_in f n (suc j))
    go [] ih e = omega (arith, ih e)
    go (q ∷ []) ih e = one (eqb q.total 1) _ _ (ih e)
    go (q ∷ p ∷ l) ih e = absurd (omega arith)

-- a Single of count 1 is a request of one slot, of its index
abbrev own_data : ℕ → DataSent → Bool
own_data x d = eqb d.index x && eqb d.segment 1

spoke_alone : (l : List Request) (x : ℕ) → spoken l ≡ Single x 1 → count_of (short (own_data x)) l ≡ 1
spoke_alone [] x e = let z : ◌≡◌ {A = ℕ} 0 1 = cc in absurd (omega arith)
spoke_alone (q ∷ []) x e =
    let i : q.index ≡ x = cc in
    let t : q.total ≡ 1 = cc in
    rw (eq-eqb q.total 1 t, eq-eqb q.index x i)
spoke_alone (q ∷ p ∷ l) x e = let z : ◌≡◌ {A = ℕ} 0 1 = cc in absurd (omega arith)

requested-there : (f : ℕ → List Request) (x n j k : ℕ) → get_or (spoken_in f n j) k Empty ≡ Single x 1 → 1 ≤ shorts (own_data x) f n j
requested-there f x zero j k e = let z : ◌≡◌ {A = ℕ} 0 1 = cc in absurd (omega arith)
requested-there f x (suc n) j zero e = omega (arith, spoke_alone (f j) x e)
requested-there f x (suc n) j (suc k) e = omega (arith, requested-there f x n (suc j) k e)

-- a row with a Single of count 1 shows one
record Found (row : List Feedback) : Type 0 where
  place : ℕ
  index : ℕ
  small : place < length row
  there : get_or row place Empty ≡ Single index 1

find : (row : List Feedback) → 1 ≤ short_singles row → Found row
unfolding short_singles
find [] h = absurd (omega arith)
find (Empty ∷ row) h = let r = find row h in record { place = suc r.place; index = r.index; small = omega (arith, r.small); there = r.there }
find (Single i c ∷ row) h = go (find row) (eqb c 1) refl h
  where
    go : (1 ≤ short_singles row → Found row) → (b : Bool) → eqb c 1 ≡ b → 1 ≤ cond b 1 0 + short_singles row → Found (Single i c ∷ row)
    go ih true e h = let w : c ≡ 1 = eqb-true c 1 e in record { place = 0; index = i; small = omega arith; there = ap (λ (n : ℕ). Single i n) w }
    go ih false e h = let r = ih (omega arith) in record { place = suc r.place; index = r.index; small = omega (arith, r.small); there = r.there }
find (Collide ∷ row) h = let r = find row h in record { place = suc r.place; index = r.index; small = omega (arith, r.small); there = r.there }

-- ---- a lone sender is whoever is among the senders

lone_is : (x : ℕ) (l : List DataSent) → length l ≡ 1 → 1 ≤ count_of (own_data x) l → (lone_index l ≡ x) × (lone_segment l ≡ 1)
lone_is x [] e h = absurd (omega arith)
lone_is x (d ∷ []) e h = go (own_data x d) refl h
  where
    go : (b : Bool) → own_data x d ≡ b → 1 ≤ cond b 1 0 + 0 → (d.index ≡ x) × (d.segment ≡ 1)
    go true q h = let (i, s) = and_both (eqb d.index x) (eqb d.segment 1) q in (eqb-true d.index x i, eqb-true d.segment 1 s)
    go false q h = absurd (omega arith)
lone_is x (c ∷ d ∷ l) e h = absurd (omega arith)

-- ---- THE SLOT

pub open_slots : OpenSlotsHold
unfolding channel_slot_of outcome_by
open_slots ch picks n i s d went none-met one =
    let c = table_counters ch.stations in
    let o = outcome_of c (feedback_heard ch) in
    let results = slots_heard ch picks in
    let f : ℕ → List Request = λ j. requests_in j results in
    let passed = slot-passed ch picks OpenTurn n i s d went in
    let told = rw passed.number at went in
    let opening : o.turn ≡ OpenTurn = cc in
    let none_left : o.resolution ≡ 0 = open_none _ _ opening in
    let some = some-stations ch.stations passed.stations in
    let goes = station-goes ch.stations ch.wire some passed.sound (fits-says c (feedback_heard ch) passed.fits) in
    let m8 = (limits ch.stations ch.wire some passed.sound).minislots in
    let account = row-account ch picks OpenTurn n i s d went in
    let row = (get_or (channel_slot_of ch picks).state.wire (c.next - 1) blank_row).minislots in
    let row_is : row_made ch picks ≡ spoken_in f c.minislots 1 =
    reads row f c.minislots 1 (omega (arith, account.size))
    (λ k h. ap (λ (x : ℕ). reading_of (get_or row x silent).word (get_or row x silent).count) (let z : k ≡ 1 + k - 1 = omega arith in z) ∙ account.read (1 + k) (omega arith) (omega arith)) in
    let sent-by : (test : DataSent → Bool) → shorts test f c.minislots 1 ≡ count_of test (data_sent results) =
    λ test. senders_are test o (words_of (heard_row ch)) (counts_of (heard_row ch)) c.minislots opening none_left ch.stations picks passed.picked passed.within goes in
    let alone : length (data_sent results) ≡ 1 =
    sym (count-all (data_sent results)) ∙ sym (sent-by (λ d. true)) ∙ singles_are f c.minislots 1 (ap collides (sym row_is) ∙ none-met) ∙ ap short_singles (sym row_is) ∙ one in
    let whose : (k x : ℕ) → get_or (row_made ch picks) k Empty ≡ Single x 1 → (lone_index (data_sent results) ≡ x) × (lone_segment (data_sent results) ≡ 1) =
    λ k x e. lone_is x (data_sent results) alone
    (subst (λ (y : ℕ). 1 ≤ y) (sent-by (own_data x)) (requested-there f x c.minislots 1 k (ap (λ (l : List Feedback). get_or l k Empty) (sym row_is) ∙ e))) in
    let found = find (row_made ch picks) (omega (arith, one)) in
    let lone : lone_index (data_sent results) ≡ i = cc in
    let mine = whose found.place found.index found.there in
    record {
      alone = (let z : length (data_sent results) ≡ n = cc in sym z) ∙ alone;
      first = (let z : lone_segment (data_sent results) ≡ s = cc in sym z) ∙ mine.1;
      which = suc found.place;
      inside = (omega arith, omega (arith, found.small));
      shown = ap (λ (k : ℕ). get_or (row_made ch picks) k Empty) (let z : suc found.place - 1 ≡ found.place = omega arith in z) ∙ found.there ∙ ap (λ (x : ℕ). Single x 1) (sym mine.0 ∙ lone);
      own = λ j x e. sym (whose (j - 1) x e).0 ∙ lone;
    }
