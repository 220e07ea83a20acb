-- A station's record beside the shared table: its slot, from its own counters alone, makes it the record of the table's next state, and sends what the
-- table says; and each of its message records stands there as it stands in the table. Assumes nothing.
use mathlib.Core.Path.{◌≡◌, refl, sym, ap, subst, ◌∙◌}
use mathlib.Core.Bool.{Bool, true, false, ◌&&◌, cond}
use mathlib.Core.List.{List, [], ◌∷◌}
use mathlib.Core.Logic.{◌≢◌}
use Prim.Native.Nat.{ℕ, zero, suc, ◌-◌, ◌≤◌, ◌<◌}
use native.Mathlib.Omega.{arith}
use lib.Dec.{eqb}
use lib.ListN.{length, get_or, set, length-set}
use lib.Seq.{get_or-set_same, get_or-set_other}
use borrow.Author.Tests.{eqb-true, eqb-false}
use Rattle.minislot.specs.declared.Feedback.{Feedback}
use Rattle.minislot.specs.declared.Reading.{Reading}
use Rattle.minislot.specs.declared.Reading.TheVariants.{Heard, Refused}
use Rattle.minislot.specs.Reading.{reading_of}
use Rattle.rows.specs.Row.{readings, first_number, feedbacks}
use Rattle.rules.specs.declared.Station.{Station}
use Rattle.rules.specs.declared.Places.{Places}
use Rattle.rules.specs.Calendars.{owner_of}
use Rattle.rules.specs.Limits.{between}
use Rattle.rules.specs.Queueing.{queued_row, immediate, places_of, immediate_of, places_after, passes}
use Rattle.rules.specs.Turns.{turn_of, is_open}
use Rattle.rules.specs.Falling.{fallen}
use Rattle.rules.specs.Listening.{has_row}
use Rattle.rules.specs.StationLimits.{Condition, Free, Held, Fresh, Asked, Resolving, Urgent, Long, station_within}
use Rattle.rules.specs.declared.Acted.{Acted}
use Rattle.rules.specs.Messages.{short_record, long_record}
use Rattle.rules.specs.Requesting.{requests}
use Rattle.rules.specs.OwnHearing.{hears_itself}
use Rattle.rules.specs.Serving.{moved}
use Rattle.rules.specs.StationCalls.{heard_slot_number_of, slot_number_of, slot_of}
use Rattle.rules.specs.Writing.{Which, ShortOne, LongOne, record_in}
use Rattle.rules.specs.Plain.{record_named}
use Rattle.rules.specs.Outcome.{outcome_of}
use Rattle.rules.specs.Stepping.{is_fresh, stays, step_of}
use Rattle.rules.specs.Calls.{Start, index}
use Rattle.rules.proofs.Views.{Sender}
use Rattle.rules.proofs.Clauses.{settle, asks, falls, heeded, less, request_sender}
use Rattle.rules.proofs.Records.{holder, holder-short, holder-long, kind_short, kind_long}
use Rattle.rules.proofs.Parting.{fresh-settled}
use Rattle.rules.proofs.ClauseLaws.{Placed, settle_is, asks-is, falls-is, sends-is, less-is, urgent_falls-is, long_falls-is}
use Rattle.rules.proofs.Shared.{Table, table_places, table_success, table_owner, table_condition, table_held, table_went, table_sends}
use Rattle.rules.proofs.Settled.{settled_of, requesting, segment_sent, condition_after, acted_by, beside_by, station_after, went_by, step_is}
use Rattle.rules.proofs.QueueingLaws.{fits_if}
use Rattle.rules.proofs.LimitLaws.{within-limits, station_in}
use Rattle.rules.proofs.SlotStep.{and_both}

-- an array by groups, counted from 1
pub get_set {ℓ} : {A : Type ℓ} (l : List A) (g h : ℕ) (v d : A) → 1 ≤ g → 1 ≤ h → g - 1 < length l → get_or (set l (g - 1) v) (h - 1) d ≡ cond (eqb h g) v (get_or l (h - 1) d)
get_set l g h v d gl hl i = go (eqb h g) refl
  where
    go : (b : Bool) → eqb h g ≡ b → get_or (set l (g - 1) v) (h - 1) d ≡ cond b v (get_or l (h - 1) d)
    go true e = rw (eqb-true h g e) (get_or-set_same l (g - 1) v d i)
    go false e = let w : h ≢ g = eqb-false h g e in get_or-set_other l (g - 1) (h - 1) v d (λ x. w (omega arith))

-- a record is station k of the table t
pub record IsStation (S : Start) (t : Table) (k : ℕ) (s : Station) : Type 0 where
  pub index : s.index ≡ index S k
  pub minislots : s.counters.minislots ≡ S.m
  pub groups : s.counters.groups ≡ S.n
  pub next : s.counters.next ≡ t.next
  pub urgent : s.counters.urgent ≡ t.h
  pub long-queue : s.counters.long ≡ t.n
  pub arrays : (length s.counters.resolution ≡ 8) × (length s.counters.opened ≡ 8)
  pub resolution : (g : ℕ) → 1 ≤ g → g ≤ 8 → get_or s.counters.resolution (g - 1) 0 ≡ t.rq g
  pub mark : (g : ℕ) → 1 ≤ g → g ≤ 8 → get_or s.counters.opened (g - 1) false ≡ t.opened g
  pub calendar : s.counters.calendar ≡ t.calendar
  pub position : s.counters.position ≡ t.position
  pub short : s.short.condition ≡ t.condition (short_record k)
  pub long : s.long.condition ≡ t.condition (long_record k)

-- the list from station j on
abbrev pub AreStations : Start → Table → ℕ → List Station → Type 0
AreStations S t j [] = Unit {0}
AreStations S t j (s ∷ l) = IsStation S t j s × AreStations S t (suc j) l

-- the lengths after step 1
abbrev pub table_queued : Table → List Feedback → Places
table_queued t heard = queued_row (table_success t heard) (table_places t) heard

abbrev pub table_settled_by : Table → List Feedback → ℕ → Condition
table_settled_by t heard k = settle (table_success t heard) t.next heard (table_places t) (t.condition k)

-- record r after the slot, held back or not
abbrev pub table_moved : Table → List Feedback → Bool → ℕ → ℕ → Condition
table_moved t heard b pick r =
    falls (heeded (table_owner t) (table_queued t heard).urgent) (heeded (table_owner t) (table_queued t heard).long)
    (asks b (table_queued t heard).resolution t.next pick (table_settled_by t heard r))

-- record r's request in minislot i
abbrev pub table_request : Table → List Feedback → (ℕ → ℕ) → ℕ → ℕ → List Sender
table_request t heard pick i r =
    request_sender (table_held t r) (table_queued t heard).resolution t.next (pick (holder r)) i r (table_settled_by t heard r)

-- every place of every record counts from 1, before the slot, after step 1 and after step 3
pub record Steady (t : Table) (heard : List Feedback) (pick : ℕ → ℕ) : Type 0 where
  pub before : (r : ℕ) → Placed (t.condition r)
  pub settled : (r : ℕ) → Placed (table_settled_by t heard r)
  pub asked : (r : ℕ) (b : Bool) → Placed (asks b (table_queued t heard).resolution t.next (pick (holder r)) (table_settled_by t heard r))

-- a fresh message that is held back stays; one that is not fresh is never held back
held_stays : (r g pick t h n : ℕ) → Fresh t ≡ falls h n (asks true r g pick (Fresh t))
held_stays zero g pick t h n = refl
held_stays (suc r) g pick t h n = refl

pub held-other : (r g pick : ℕ) (c : Condition) → is_fresh c ≡ false → asks true r g pick c ≡ asks false r g pick c
held-other zero g pick Free e = refl
held-other zero g pick (Held t) e = refl
held-other zero g pick (Fresh t) e = cc
held-other zero g pick (Asked h i t) e = refl
held-other zero g pick (Resolving h i t) e = refl
held-other zero g pick (Urgent i) e = refl
held-other zero g pick (Long f l t) e = refl
held-other (suc r) g pick Free e = refl
held-other (suc r) g pick (Held t) e = refl
held-other (suc r) g pick (Fresh t) e = cc
held-other (suc r) g pick (Asked h i t) e = refl
held-other (suc r) g pick (Resolving h i t) e = refl
held-other (suc r) g pick (Urgent i) e = refl
held-other (suc r) g pick (Long f l t) e = refl

module _ (b : Bool) (g : ℕ) (row : List Feedback) (p : Places) (r pick h n : ℕ) where
  beside-is : (x : Bool) (c : Condition) (y : Acted) → y.condition ≡ falls h n (asks false r g pick (settle b g row p c))
      → (cond (x && is_fresh c) (stays c) y).condition ≡ falls h n (asks x r g pick (settle b g row p c))
  beside-is false c y e = e
  beside-is true c y e = go c e (is_fresh c) refl
    where
      go : (c : Condition) → y.condition ≡ falls h n (asks false r g pick (settle b g row p c)) → (f : Bool) → is_fresh c ≡ f
          → (cond f (stays c) y).condition ≡ falls h n (asks true r g pick (settle b g row p c))
      go c e false f = e ∙ ap (falls h n) (sym (held-other r g pick (settle b g row p c) (fresh-settled b g row p c ∙ f)))
      go Free e true f = cc
      go (Held t) e true f = cc
      go (Fresh t) e true f = held_stays r g pick t h n
      go (Asked x i t) e true f = cc
      go (Resolving x i t) e true f = cc
      go (Urgent i) e true f = cc
      go (Long x l t) e true f = cc

module _ (S : Start) (t : Table) (gl : 1 ≤ t.next) (gh : t.next ≤ 8) (heard : List Feedback) (k : ℕ) (s : Station) (a : IsStation S t k s) where
  pub places_is : places_of s.counters ≡ table_places t
  places_is = rw (a.next, a.urgent, a.long-queue, a.resolution t.next gl gh)

  pub owner-is : owner_of s.counters ≡ table_owner t
  owner-is = rw (a.calendar, a.position)

  pub success_is : immediate_of s.counters heard ≡ table_success t heard
  unfolding immediate_of
  success_is =
      ap (λ (b : Bool). immediate b heard) (ap (λ (g : ℕ). get_or s.counters.opened (g - 1) false) a.next ∙ a.mark t.next gl gh)

  pub queued-is : places_after s.counters heard ≡ table_queued t heard
  unfolding places_after
  queued-is = rw (success_is, places_is)

  -- one of its records, r, in condition c
  module _ (r : ℕ) (c : Condition) (e : c ≡ t.condition r) (w₀ : Placed (t.condition r)) where
    pub settled_is : settled_of s.counters heard c ≡ table_settled_by t heard r
    settled_is = rw (success_is, places_is, a.next, e) (settle_is (table_success t heard) t.next (table_places t) heard (t.condition r) w₀)

    pub requesting-is : requesting s.counters heard c ≡ requests (table_queued t heard).resolution t.next (table_settled_by t heard r)
    requesting-is = rw (queued-is, settled_is, a.next)

    module _ (w₁ : Placed (table_settled_by t heard r)) where
      pub sent_is : segment_sent s.counters heard c ≡ table_sends t heard (table_success t heard) (table_queued t heard) r
      sent_is =
          rw (queued-is, settled_is, a.next, owner-is)
          (sends-is (table_owner t) t.next (table_queued t heard).urgent (table_queued t heard).long (table_queued t heard).resolution (table_settled_by t heard r) w₁)

      pub condition-is : (pick : ℕ) → Placed (asks false (table_queued t heard).resolution t.next pick (table_settled_by t heard r))
          → condition_after s.counters heard pick c ≡ table_moved t heard false pick r
      condition-is pick w₂ =
          rw (queued-is, settled_is, a.next, owner-is)
          (ap (moved (turn_of (table_owner t) (table_queued t heard))) (asks-is (table_queued t heard).resolution t.next pick (table_settled_by t heard r) w₁)
          ∙ falls-is (table_owner t) (table_queued t heard).urgent (table_queued t heard).long (table_queued t heard).resolution
          (asks false (table_queued t heard).resolution t.next pick (table_settled_by t heard r)) w₂)

  -- both records after the slot, and so the station
  module _ (pick : ℕ → ℕ) (w : Steady t heard pick) where
    pub short-is : (acted_by s.counters heard (pick k) s.short.condition).condition ≡ table_condition pick t heard (table_success t heard) (table_queued t heard) (short_record k)
    unfolding acted_by
    short-is =
        condition-is (short_record k) s.short.condition a.short (w.before (short_record k)) (w.settled (short_record k)) (pick k)
        (subst (λ (z : ℕ). Placed (asks false (table_queued t heard).resolution t.next (pick z) (table_settled_by t heard (short_record k)))) (holder-short k) (w.asked (short_record k) false))
        ∙ rw (kind_short k, holder-short k)

    pub long-is : (beside_by s.counters heard (pick k) s.short.condition s.long.condition).condition
        ≡ table_condition pick t heard (table_success t heard) (table_queued t heard) (long_record k)
    unfolding beside_by acted_by
    long-is =
        rw (kind_long k, holder-long k, ← a.short)
        (ap (λ (c : Condition). (cond (is_fresh s.short.condition && is_fresh c) (stays c) (acted_by s.counters heard (pick k) s.long.condition)).condition) a.long
        ∙ beside-is (table_success t heard) t.next heard (table_places t) (table_queued t heard).resolution (pick k) (heeded (table_owner t) (table_queued t heard).urgent)
        (heeded (table_owner t) (table_queued t heard).long) (is_fresh s.short.condition) (t.condition (long_record k)) (acted_by s.counters heard (pick k) s.long.condition)
        (condition-is (long_record k) s.long.condition a.long (w.before (long_record k)) (w.settled (long_record k)) (pick k)
        (subst (λ (z : ℕ). Placed (asks false (table_queued t heard).resolution t.next (pick z) (table_settled_by t heard (long_record k)))) (holder-long k) (w.asked (long_record k) false))))

    pub station-is : IsStation S (table_went S pick t heard (table_success t heard) (table_queued t heard)) k (station_after s heard (pick k))
    unfolding station_after fallen
    station-is =
        record {
          index = a.index;
          minislots = a.minislots;
          groups = a.groups;
          next = rw (a.groups, a.next);
          urgent = rw (queued-is, owner-is) (urgent_falls-is (table_owner t) (table_queued t heard).urgent (table_queued t heard).long (table_queued t heard).resolution);
          long-queue = rw (queued-is, owner-is) (long_falls-is (table_owner t) (table_queued t heard).urgent (table_queued t heard).long (table_queued t heard).resolution);
          arrays = (length-set s.counters.resolution (s.counters.next - 1) _ ∙ a.arrays.0, length-set s.counters.opened (s.counters.next - 1) _ ∙ a.arrays.1);
          resolution = λ g l h.
              rw (queued-is, a.next, less-is (table_queued t heard).resolution)
              (get_set s.counters.resolution t.next g (less-of) 0 gl l (omega (arith, a.arrays.0)) ∙ ap (cond (eqb g t.next) less-of) (a.resolution g l h));
          mark = λ g l h.
              rw (queued-is, a.next, owner-is)
              (get_set s.counters.opened t.next g (mark_of) false gl l (omega (arith, a.arrays.1)) ∙ ap (cond (eqb g t.next) mark_of) (a.mark g l h));
          calendar = a.calendar;
          position = rw a.position;
          short = short-is;
          long = long-is;
        }
      where
        less-of : ℕ
        less-of = less (table_queued t heard).resolution

        mark_of : Bool
        mark_of = is_open (turn_of (table_owner t) (table_queued t heard))

-- a row of m minislots or fewer is heard in m or fewer
pub feedbacks-short : (words counts : List ℕ) → length (feedbacks (readings words counts)) ≤ length words
unfolding readings feedbacks
feedbacks-short [] counts = omega arith
feedbacks-short (w ∷ words) [] = omega arith
feedbacks-short (w ∷ words) (c ∷ counts) = go (reading_of w c) (feedbacks-short words counts)
  where
    go : (r : Reading) → length (feedbacks (readings words counts)) ≤ length words → length (feedbacks (r ∷ readings words counts)) ≤ suc (length words)
    go (Heard f) h = omega arith
    go (Refused n) h = omega arith

-- the row of a station within its limits has 8 minislots or fewer
pub row_fits : (s : Station) (words counts : List ℕ) → station_within s ≡ true → has_row s.counters.minislots words counts ≡ true
    → length (feedbacks (readings words counts)) ≤ 8
row_fits s words counts e18 e6 =
    let w = (within-limits s.counters (station_in s e18).counters).minislots.1 in
    let l = eqb-true (length words) s.counters.minislots (and_both _ (eqb (length counts) s.counters.minislots) e6).0 in
    omega (arith, feedbacks-short words counts)

-- a station's slot whose tests all pass is its step, by its own counters
module _ (s : Station) (words counts : List ℕ) (row : List Feedback) (pick : ℕ) (e18 : station_within s ≡ true)
    (e6 : has_row s.counters.minislots words counts ≡ true) (e11 : between 1 pick s.counters.minislots ≡ true)
    (e1 : first_number (readings words counts) ≡ 0) (ef : feedbacks (readings words counts) ≡ row) (e7 : passes (places_after s.counters row) ≡ false)
    (e12 : hears_itself s words row ≡ true) where
  pub slot-steps : slot_of s words counts pick ≡ step_of (outcome_of s.counters row) s pick
  unfolding slot_of slot_number_of heard_slot_number_of
  slot-steps = rw (e18, e6, e11, e1, ef, fits_if s.counters row e7, e12)

  pub slot-passes : slot_of s words counts pick ≡ went_by s row pick
  slot-passes = slot-steps ∙ step_is s row pick (subst (λ (r : List Feedback). length r ≤ 8) ef (row_fits s words counts e18 e6))

-- where a record stands in the table is where it stands in the station
pub record_is : (t : Table) (k : ℕ) (s : Station) → s.short.condition ≡ t.condition (short_record k) → s.long.condition ≡ t.condition (long_record k)
    → (o : Which) → t.condition (record_named k o) ≡ record_in o s
record_is t k s x y ShortOne = sym x
record_is t k s x y LongOne = sym y
