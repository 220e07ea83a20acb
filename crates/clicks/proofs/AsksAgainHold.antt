-- A message at place 1 of a resolution queue, its station's short one or long one, is asked for in the station's pick and is asked there when its group
-- returns, with the group's mark no; so its own Single there is queued. The slots of the other groups leave an asked message and another group's mark alone.
-- Assumes nothing.
use mathlib.Core.Path.{◌≡◌, refl, sym, ap, subst, ◌∙◌}
use mathlib.Core.Bool.{Bool, true, false, cond, and-false}
use mathlib.Core.List.{List, [], ◌∷◌}
use mathlib.Core.Logic.{◌≢◌, inr, ⊎_elim}
use mathlib.Core.Option.{Option, none, some as owned}
use Prim.Native.Nat.{ℕ, zero, suc, ◌+◌, ◌-◌, ◌<◌, ◌≤◌}
use native.Mathlib.Omega.{arith}
use lib.Dec.{eqb, ltb}
use lib.ListN.{length}
use borrow.Author.Tests.{lt-ltb, ne_eqb, eqb-true, eqb-false}
use Rattle.rules.specs.declared.Counters.{Counters}
use Rattle.rules.specs.declared.Places.{Places}
use Rattle.rules.specs.declared.Station.{Station}
use Rattle.rules.specs.declared.StationSlot.{StationSlot}
use Rattle.rules.specs.Calendars.{owner_of}
use Rattle.rules.specs.Limits.{between}
use Rattle.rules.specs.Queueing.{opened_of, places_of, immediate_of, places_after}
use Rattle.rules.specs.declared.Turn.{Turn}
use Rattle.rules.specs.declared.Turn.TheVariants.{Owned as OwnedTurn, Urgent as UrgentTurn, Long as LongTurn, Resolve as ResolveTurn, Open as OpenTurn}
use Rattle.rules.specs.Turns.{turn_of, is_open}
use Rattle.rules.specs.Falling.{fallen, following}
use Rattle.rules.specs.declared.Acted.{Acted}
use Rattle.rules.specs.declared.Condition.{Condition}
use Rattle.rules.specs.declared.Condition.TheVariants.{Asked, Resolving, Urgent, Long}
use Rattle.rules.specs.Listening.{has_row}
use Rattle.rules.specs.StationLimits.{condition_within, station_within}
use Rattle.rules.specs.StationCalls.{slot_number_of}
use Rattle.rules.specs.Stepping.{is_fresh, request_minislot, asker, sender, request_total}
use Rattle.rules.specs.Requesting.{waits_in, requests, requested, total_of}
use Rattle.rules.specs.Serving.{sends, moved}
use Rattle.rules.specs.Numbers.{slot_told}
use Rattle.rules.proofs.LimitLaws.{between-bounds, within-limits, station_in}
use Rattle.rules.proofs.QueueingLaws.{row-grows}
use Rattle.rules.proofs.ClauseLaws.{settle_is}
use Rattle.rules.proofs.Parting.{stands_in, Parted, apart-parted, settle-parted}
use Rattle.rules.proofs.RecordKinds.{resolving-one}
use Rattle.rules.proofs.Refusals.{test_passed}
use Rattle.rules.proofs.Settled.{stands_alone, settled_by, settled_of, requesting, condition_after, acted_by, beside_by, station_after, went_by, acts-is}
use Rattle.rules.proofs.Walking.{row_fits}
use Rattle.rules.proofs.Views.{eqb_self}
use Rattle.edges.specs.Changes.{mark_of, after_slot, Changes}
use Rattle.edges.proofs.ChangesHold.{changes-within}
use Rattle.edges.proofs.EdgesAnyHold.{shut}
use Rattle.edges.proofs.GroupRounds.{NextAfter, following_in, one_fewer, other as other-group}
use Rattle.rules.specs.declared.Which.{Which}
use Rattle.rules.specs.declared.Which.TheVariants.{ShortOne, LongOne}
use Rattle.rules.specs.Writing.{record_in}
use Rattle.clicks.specs.OwnClicks.{lengths_before}
use Rattle.clicks.specs.AsksAgain.{HeardSlot, row_heard, number_hearing, slot_hearing, other, sent_beside, after_slots, AllGo, last_places, HearsItsSingle, Queued, AsksAgainHolds}
use Rattle.clicks.proofs.HeardSlots.{place_inside, within-placed, Whole, whole_of, goes, settles, within_of}

-- ---- a place in the resolution queue: the turn is not open

not_open : (o : Option ℕ) (p : Places) → 1 ≤ p.resolution → is_open (turn_of o p) ≡ false
unfolding turn_of
not_open (owned x) p h = refl
not_open none p h = rw (lt-ltb 0 p.resolution h) (go (ltb 0 p.urgent) (ltb 0 p.long))
  where
    go : (a b : Bool) → is_open (cond a UrgentTurn (cond b LongTurn ResolveTurn)) ≡ false
    go true b = refl
    go false true = refl
    go false false = refl

silent-unless_open : (turn : Turn) (r g h i t : ℕ) → is_open turn ≡ false → sends turn r g (Resolving h i t) ≡ 0
unfolding sends
silent-unless_open (OwnedTurn x) r g h i t e = refl
silent-unless_open UrgentTurn r g h i t e = refl
silent-unless_open LongTurn r g h i t e = refl
silent-unless_open ResolveTurn r g h i t e = refl
silent-unless_open OpenTurn r g h i t e = cc

asked-stays : (turn : Turn) (h j t : ℕ) → moved turn (Asked h j t) ≡ Asked h j t
unfolding moved
asked-stays (OwnedTurn x) h j t = refl
asked-stays UrgentTurn h j t = refl
asked-stays LongTurn h j t = refl
asked-stays ResolveTurn h j t = refl
asked-stays OpenTurn h j t = refl

-- ---- a record after a slot: by itself, unless it is fresh

-- what the long record does where it, or the short one, is not fresh
module _ (s : Station) (x : HeardSlot) (a b : Condition) where
  beside-alone : is_fresh b ≡ false → beside_by s.counters (row_heard x) x.pick a b ≡ acted_by s.counters (row_heard x) x.pick b
  unfolding beside_by
  beside-alone e = rw (e, and-false (is_fresh a))

  short-not-fresh : is_fresh a ≡ false → beside_by s.counters (row_heard x) x.pick a b ≡ acted_by s.counters (row_heard x) x.pick b
  unfolding beside_by
  short-not-fresh e = rw e

module _ (s : Station) (x : HeardSlot) (z : number_hearing s x ≡ 0) where
  record_after : (o : Which) → is_fresh (record_in o s) ≡ false → record_in o (slot_hearing s x).station ≡ condition_after s.counters (row_heard x) x.pick (record_in o s)
  unfolding station_after acted_by
  record_after ShortOne e = ap (λ (r : StationSlot). r.station.short.condition) (goes s x.words x.counts x.pick z)
  record_after LongOne e =
      ap (λ (r : StationSlot). r.station.long.condition) (goes s x.words x.counts x.pick z)
      ∙ ap (λ (y : Acted). y.condition) (beside-alone s x s.short.condition s.long.condition e)

-- ---- the slot in which it asks

module _ (o : Which) (s : Station) (t : ℕ) (x : HeardSlot) (first : record_in o s ≡ Resolving s.counters.next 1 t) (z : number_hearing s x ≡ 0) where
  w : Whole s x.words x.counts
  w = whole_of s x.words x.counts x.pick z

  some : 1 ≤ (places_after s.counters (row_heard x)).resolution
  unfolding condition_within places_after
  some =
      let here = place_inside s.counters s.counters.next 1 (record_in o s) (within_of s x.words x.counts w o) (rw (first, eqb_self s.counters.next)) in
      let grows = (row-grows (immediate_of s.counters (row_heard x)) (places_of s.counters) (row_heard x)).resolution in
      omega (arith, here, grows)

  waits : waits_in (places_after s.counters (row_heard x)).resolution s.counters.next s.counters.next ≡ true
  waits = rw (lt-ltb 0 (places_after s.counters (row_heard x)).resolution some, eqb_self s.counters.next)

  went : slot_hearing s x ≡ went_by s (row_heard x) x.pick
  went = goes s x.words x.counts x.pick z

  -- what it does by itself
  abbrev does : Acted
  does = acted_by s.counters (row_heard x) x.pick (record_in o s)

  does_ask : does.minislot ≡ x.pick
  unfolding acted_by settled_by requests
  does_ask = rw (first, waits)

  does-not_send : does.segment ≡ 0
  unfolding acted_by settled_by
  does-not_send =
      rw first
      (silent-unless_open (turn_of (owner_of s.counters) (places_after s.counters (row_heard x))) (places_after s.counters (row_heard x)).resolution s.counters.next s.counters.next 1 t
      (not_open (owner_of s.counters) (places_after s.counters (row_heard x)) some))

  does-stand : does.condition ≡ Asked s.counters.next x.pick t
  unfolding acted_by settled_by requested
  does-stand = rw (first, waits) (asked-stays (turn_of (owner_of s.counters) (places_after s.counters (row_heard x))) s.counters.next x.pick t)

  picked : eqb x.pick 0 ≡ false
  unfolding slot_number_of
  picked =
      let (e18, after18) = test_passed (station_within s) 18 _ refl z in
      let (e6, after6) = test_passed (has_row s.counters.minislots x.words x.counts) 6 _ refl after18 in
      let (e11, after11) = test_passed (between 1 x.pick s.counters.minislots) 11 _ refl after6 in
      ne_eqb x.pick 0 (λ q. omega (arith, q, (between-bounds 1 x.pick s.counters.minislots e11).0))

  asked-after : record_in o (slot_hearing s x).station ≡ Asked s.counters.next x.pick t
  unfolding settled_by requested
  asked-after =
      record_after s x z o (rw first)
      ∙ rw (first, waits) (asked-stays (turn_of (owner_of s.counters) (places_after s.counters (row_heard x))) s.counters.next x.pick t)

  -- the other record by itself
  abbrev beside : Acted
  beside = acted_by s.counters (row_heard x) x.pick (record_in (other o) s)

  beside-is : sent_beside o s x ≡ beside.segment
  beside-is = ap (λ (y : Acted). y.segment) (acts-is s.counters (row_heard x) x.pick (record_in (other o) s) (row_fits s x.words x.counts w.within w.row))

-- ---- the station in that slot: its request is that record's, its segment the other's

-- where the long one asks again, the short one does not ask: no other of the station's stands at place 1, and none that is fresh asks
module _ (s : Station) (t : ℕ) (x : HeardSlot) (first : s.long.condition ≡ Resolving s.counters.next 1 t) (z : number_hearing s x ≡ 0) where
  settled-apart : Parted (settled_of s.counters (row_heard x) s.short.condition) (settled_of s.counters (row_heard x) s.long.condition)
  settled-apart =
      let wh = w LongOne s t x first z in
      let c = s.counters in
      let b = immediate_of c (row_heard x) in
      rw (
        settle_is b c.next (places_of c) (row_heard x) s.short.condition (within-placed c s.short.condition (within_of s x.words x.counts wh ShortOne)),
        settle_is b c.next (places_of c) (row_heard x) s.long.condition (within-placed c s.long.condition (within_of s x.words x.counts wh LongOne)),
      )
      (settle-parted b c.next (row_heard x) (places_of c) s.short.condition s.long.condition
      (λ i. place_inside c c.next i s.short.condition (within_of s x.words x.counts wh ShortOne)) (λ i. place_inside c c.next i s.long.condition (within_of s x.words x.counts wh LongOne))
      (apart-parted s.short.condition s.long.condition (station_in s wh.within).records.apart))

  at_one : stands_in s.counters.next 1 (settled_of s.counters (row_heard x) s.long.condition) ≡ true
  unfolding settled_by
  at_one = rw (first, eqb_self s.counters.next)

  short-silent : (acted_by s.counters (row_heard x) x.pick s.short.condition).minislot ≡ 0
  unfolding acted_by
  short-silent = go (requesting s.counters (row_heard x) s.short.condition) refl
    where
      not_there : (r : ℕ) → 1 ≤ r → requests r s.counters.next (settled_of s.counters (row_heard x) s.short.condition) ≡ true → ⊥
      not_there zero lo e = omega arith
      not_there (suc r) lo e = settled-apart.place s.counters.next 1 (resolving-one s.counters.next r (settled_of s.counters (row_heard x) s.short.condition) e) at_one

      go : (b : Bool) → requesting s.counters (row_heard x) s.short.condition ≡ b → request_minislot b x.pick ≡ 0
      go true e = absurd (not_there (places_after s.counters (row_heard x)).resolution (some LongOne s t x first z) e)
      go false e = refl

-- of two records' acts: whose request and whose segment are the station's
module _ (x y : Acted) where
  first-asks : eqb x.minislot 0 ≡ false → asker x y ≡ x
  first-asks e = rw e

  second-asks : x.minislot ≡ 0 → asker x y ≡ y
  second-asks e = go (eqb x.minislot 0) refl
    where
      go : (b : Bool) → eqb x.minislot 0 ≡ b → cond b y x ≡ y
      go true w = refl
      go false w = absurd (eqb-false x.minislot 0 w e)

  first-silent : x.segment ≡ 0 → (sender x y).segment ≡ y.segment
  first-silent e = go (eqb x.segment 0) refl
    where
      go : (b : Bool) → eqb x.segment 0 ≡ b → (cond b y x).segment ≡ y.segment
      go true w = refl
      go false w = absurd (eqb-false x.segment 0 w e)

  second-silent : y.segment ≡ 0 → (sender x y).segment ≡ x.segment
  second-silent e = go (eqb x.segment 0) refl
    where
      go : (b : Bool) → eqb x.segment 0 ≡ b → (cond b y x).segment ≡ x.segment
      go true w = e ∙ sym (eqb-true x.segment 0 w)
      go false w = refl

values_are : (a b c d : ℕ) → a ≡ c → b ≡ d → ◌≡◌ {A = List ℕ} (a ∷ b ∷ []) (c ∷ d ∷ [])
values_are a b c d p q = rw (p, q)

-- the request of a record that asks again carries its whole message
carries-all : (z : Acted) (p g t : ℕ) → z.minislot ≡ p → eqb p 0 ≡ false → z.condition ≡ Asked g p t → request_total z ≡ t
carries-all z p g t a n e = ap (λ (m : ℕ). cond (eqb m 0) 0 (total_of z.condition)) a ∙ ap (λ (b : Bool). cond b 0 (total_of z.condition)) n ∙ ap total_of e

asks-here : (o : Which) (s : Station) (t : ℕ) (x : HeardSlot) (first : record_in o s ≡ Resolving s.counters.next 1 t) (z : number_hearing s x ≡ 0)
    → ((slot_told (slot_hearing s x).answer).values ≡ x.pick ∷ sent_beside o s x ∷ []) × ((slot_hearing s x).request ≡ t)
asks-here ShortOne s t x first z =
    let e = goes s x.words x.counts x.pick z in (
      ap (λ (r : StationSlot). (slot_told r.answer).values) e
          ∙ values_are _ _ x.pick (sent_beside ShortOne s x) (ap (λ (a : Acted). a.minislot) (first-asks X Y asks) ∙ does_ask ShortOne s t x first z)
          (first-silent X Y (does-not_send ShortOne s t x first z) ∙ ap (λ (a : Acted). a.segment) long-alone ∙ sym (beside-is ShortOne s t x first z)),
      ap (λ (r : StationSlot). r.request) e ∙ ap request_total (first-asks X Y asks)
          ∙ carries-all X x.pick s.counters.next t (does_ask ShortOne s t x first z) (picked ShortOne s t x first z) (does-stand ShortOne s t x first z),
    )
  where
    X : Acted
    X = acted_by s.counters (row_heard x) x.pick s.short.condition

    Y : Acted
    Y = beside_by s.counters (row_heard x) x.pick s.short.condition s.long.condition

    asks : eqb X.minislot 0 ≡ false
    asks = ap (λ (m : ℕ). eqb m 0) (does_ask ShortOne s t x first z) ∙ picked ShortOne s t x first z

    long-alone : Y ≡ acted_by s.counters (row_heard x) x.pick s.long.condition
    long-alone = short-not-fresh s x s.short.condition s.long.condition (rw first)
asks-here LongOne s t x first z =
    let e = goes s x.words x.counts x.pick z in (
      ap (λ (r : StationSlot). (slot_told r.answer).values) e
          ∙ values_are _ _ x.pick (sent_beside LongOne s x) (ap (λ (a : Acted). a.minislot) (second-asks X Y (short-silent s t x first z) ∙ long-alone) ∙ does_ask LongOne s t x first z)
          (second-silent X Y (ap (λ (a : Acted). a.segment) long-alone ∙ does-not_send LongOne s t x first z) ∙ sym (beside-is LongOne s t x first z)),
      ap (λ (r : StationSlot). r.request) e ∙ ap request_total (second-asks X Y (short-silent s t x first z) ∙ long-alone)
          ∙ carries-all (does LongOne s t x first z) x.pick s.counters.next t (does_ask LongOne s t x first z) (picked LongOne s t x first z) (does-stand LongOne s t x first z),
    )
  where
    X : Acted
    X = acted_by s.counters (row_heard x) x.pick s.short.condition

    Y : Acted
    Y = beside_by s.counters (row_heard x) x.pick s.short.condition s.long.condition

    long-alone : Y ≡ does LongOne s t x first z
    long-alone = beside-alone s x s.short.condition s.long.condition (rw first)

-- the counters after any slot that goes through
module _ (s : Station) (x : HeardSlot) (z : number_hearing s x ≡ 0) where
  counters-after : (slot_hearing s x).station.counters ≡ after_slot s.counters (row_heard x)
  unfolding station_after
  counters-after = ap (λ (r : StationSlot). r.station.counters) (goes s x.words x.counts x.pick z)

  changed : Changes s.counters (row_heard x)
  changed = changes-within s.counters (row_heard x) (station_in s (whole_of s x.words x.counts x.pick z).within).counters

-- ---- the slots of the other groups

module _ (o : Which) (n g j t : ℕ) (low : 1 ≤ g) (high : g ≤ n) where
  -- asked in minislot j of group g, whose mark is no, and one of the n groups is next
  pub record Waits (s : Station) : Type 0 where
    pub groups : s.counters.groups ≡ n
    pub next : (1 ≤ s.counters.next) × (s.counters.next ≤ n)
    pub asked : record_in o s ≡ Asked g j t
    pub mark : mark_of s.counters g ≡ false

  asked-kept : (s : Station) (x : HeardSlot) → number_hearing s x ≡ 0 → record_in o s ≡ Asked g j t → g ≢ s.counters.next
      → record_in o (slot_hearing s x).station ≡ Asked g j t
  unfolding settled_by requested
  asked-kept s x z e ne =
      record_after s x z o (rw e)
      ∙ rw (e, ne_eqb g s.counters.next ne) (asked-stays (turn_of (owner_of s.counters) (places_after s.counters (row_heard x))) g j t)

  groups-kept : (s : Station) (x : HeardSlot) → number_hearing s x ≡ 0 → (slot_hearing s x).station.counters.groups ≡ s.counters.groups
  unfolding fallen
  groups-kept s x z = ap (λ (c : Counters). c.groups) (counters-after s x z)

  next-is : (s : Station) (x : HeardSlot) → number_hearing s x ≡ 0 → s.counters.groups ≡ n
      → (slot_hearing s x).station.counters.next ≡ following n s.counters.next
  next-is s x z e =
      ap (λ (c : Counters). c.next) (counters-after s x z) ∙ (changed s x z).next ∙ ap (λ (k : ℕ). following k s.counters.next) e

  next_in : (s : Station) (x : HeardSlot) → number_hearing s x ≡ 0 → s.counters.groups ≡ n → s.counters.next ≤ n
      → (1 ≤ (slot_hearing s x).station.counters.next) × ((slot_hearing s x).station.counters.next ≤ n)
  next_in s x z e h = subst (λ (k : ℕ). (1 ≤ k) × (k ≤ n)) (sym (next-is s x z e)) (following_in n g low high s.counters.next h)

  next_fewer : (s : Station) (x : HeardSlot) (k : ℕ) → number_hearing s x ≡ 0 → s.counters.groups ≡ n → s.counters.next ≤ n
      → NextAfter n g s.counters.next (suc k) → NextAfter n g (slot_hearing s x).station.counters.next k
  next_fewer s x k z e h a =
      subst (λ (i : ℕ). NextAfter n g i k) (sym (next-is s x z e)) (one_fewer n g low high s.counters.next k h a)

  others_pass : (others : List HeardSlot) (s : Station) → Waits s → length others < n → NextAfter n g s.counters.next (length others)
      → AllGo s others → ((after_slots s others).counters.next ≡ g) × Waits (after_slots s others)
  others_pass [] s W few a go = (⊎_elim (λ q. omega arith) (λ q. absurd (omega (arith, W.next))) a, W)
  others_pass (x ∷ others) s W few a go =
      let z = go.0 in
      let ne : g - 1 ≡ s.counters.next - 1 → ⊥ = other-group n g low high s.counters.next (length others) W.next.0 few a in
      others_pass others (slot_hearing s x).station
      (record {
        groups = groups-kept s x z ∙ W.groups;
        next = next_in s x z W.groups W.next.1;
        asked = asked-kept s x z W.asked (λ e. ne (ap (λ (i : ℕ). i - 1) e));
        mark = ap (λ (c : Counters). mark_of c g) (counters-after s x z) ∙ ((changed s x z).others g ne).1 ∙ W.mark;
      })
      (omega arith)
      (next_fewer s x (length others) z W.groups W.next.1 a)
      go.1

-- ---- heard alone

single-stands : (b : Bool) (p : Places) (t : ℕ) → b ≡ false → stands_alone b (eqb t 1) p t ≡ last_places p t
single-stands b p t e = rw e (go (eqb t 1))
  where
    go : (o : Bool) → stands_alone false o p t ≡ cond o (Urgent (p.urgent + 1)) (Long (p.long + 1) t t)
    go true = refl
    go false = refl

heard-alone : (o : Which) (s : Station) (t j : ℕ) (y : HeardSlot) → record_in o s ≡ Asked s.counters.next j t → opened_of s.counters ≡ false
    → HearsItsSingle s t j y → Queued o s t j (row_heard y)
unfolding settled_by
heard-alone o s t j y asked m h =
    let no = shut s.counters (row_heard y) m in
    record {
      no_success = no;
      stands =
          settles s y.words y.counts (whole_of s y.words y.counts y.pick h.through) o
          ∙ rw (asked, eqb_self s.counters.next, h.single) (single-stands (immediate_of s.counters (row_heard y)) (lengths_before s.counters (row_heard y) j) t no);
    }

pub asks_again : AsksAgainHolds
asks_again o s t x others R =
    let z = R.through.0 in
    let n = s.counters.groups in
    let g = s.counters.next in
    let lim = within-limits s.counters (station_in s (whole_of s x.words x.counts x.pick z).within).counters in
    let low = lim.next.0 in
    let high = lim.next.1 in
    let W : Waits o n g x.pick t low high (slot_hearing s x).station =
    record {
      groups = groups-kept o n g x.pick t low high s x z;
      next = next_in o n g x.pick t low high s x z refl high;
      asked = asked-after o s t x R.first z;
      mark =
          ap (λ (c : Counters). mark_of c g) (counters-after s x z) ∙ (changed s x z).mark
          ∙ not_open (owner_of s.counters) (places_after s.counters (row_heard x)) (some o s t x R.first z);
    } in
    let (e, last) =
    others_pass o n g x.pick t low high others (slot_hearing s x).station W (omega (arith, R.all))
    (next_fewer o n g x.pick t low high s x (length others) z refl high (inr (omega (arith, R.all)))) R.through.1 in
    let m : opened_of (after_slots s (x ∷ others)).counters ≡ false =
    subst (λ (i : ℕ). mark_of (after_slots s (x ∷ others)).counters i ≡ false) (sym e) last.mark in
    let asked : record_in o (after_slots s (x ∷ others)) ≡ Asked (after_slots s (x ∷ others)).counters.next x.pick t =
    last.asked ∙ ap (λ (i : ℕ). Asked i x.pick t) (sym e) in
    record {
      asks = (asks-here o s t x R.first z).0;
      carries = (asks-here o s t x R.first z).1;
      returns = e;
      asked = last.asked;
      mark = m;
      queued = λ y h. heard-alone o (after_slots s (x ∷ others)) t x.pick y asked m h;
    }
