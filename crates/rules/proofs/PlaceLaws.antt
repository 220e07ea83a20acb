-- One slot of a message in a transmission queue (specs/PlaceSteps). Served and moved: by the turn, which goes by the lengths after step 1, and these only grow.
-- Joining: a minislot lands its newcomer behind the lengths before it, and these have the newcomers of every lower minislot. Assumes nothing.
use mathlib.Core.Path.{◌≡◌, refl, sym, ap, ◌∙◌}
use mathlib.Core.Bool.{Bool, true, false, cond}
use mathlib.Core.List.{List, [], ◌∷◌}
use mathlib.Core.Option.{Option, none, some}
use Prim.Native.Nat.{ℕ, zero, suc, ◌+◌, ◌-◌, ◌≤◌, ◌<◌}
use native.Mathlib.Omega.{arith}
use lib.Dec.{eqb}
use lib.ListN.{length, get_or, take}
use borrow.Author.Tests.{lt-ltb, le-ltb, ne_eqb}
use Rattle.minislot.specs.declared.Feedback.{Feedback}
use Rattle.minislot.specs.declared.Feedback.TheVariants.{Empty, Single, Collide}
use Rattle.rules.specs.declared.Counters.{Counters}
use Rattle.rules.specs.declared.Places.{Places}
use Rattle.rules.specs.StationLimits.{Condition, Free, Held, Fresh, Asked, Resolving, Urgent, Long}
use Rattle.rules.specs.Calendars.{owner_of}
use Rattle.rules.specs.Queueing.{queued_single, queued, queued_row, places_before, places_of, immediate_of, places_after, step_one_of}
use Rattle.rules.specs.declared.Landed.{Landed}
use Rattle.rules.specs.Landing.{Gone, lands_alone, lands_after, at, landings, stands}
use Rattle.rules.specs.Turns.{OwnedTurn, UrgentTurn, LongTurn, turn_of}
use Rattle.rules.specs.Requesting.{requests, requested}
use Rattle.rules.specs.Serving.{urgent_segment, sends, moved}
use Rattle.rules.specs.Outcome.{outcome_by, outcome_of}
use Rattle.rules.specs.Stepping.{settled_in, stays, acts_of}
use Rattle.rules.specs.PlaceSteps.{acts_in, settles_in, PlaceStepsHold}
use Rattle.rules.proofs.QueueingLaws.{Grows, row-grows}
use Rattle.rules.proofs.Settled.{feedback_at, landing_at}

-- ---- the turn

module _ (c : Counters) (row : List Feedback) where
  grows : Grows (places_of c) (places_after c row)
  unfolding places_after
  grows = row-grows (immediate_of c row) (places_of c) row

  turn_is : (outcome_of c row).turn ≡ turn_of (owner_of c) (places_after c row)
  unfolding outcome_by step_one_of
  turn_is = refl

  pub turn-owned : (x : ℕ) → owner_of c ≡ some x → (outcome_of c row).turn ≡ OwnedTurn x
  unfolding turn_of
  turn-owned x e = turn_is ∙ ap (λ (o : Option ℕ). turn_of o (places_after c row)) e

  pub turn-urgent : owner_of c ≡ none → 1 ≤ (places_after c row).urgent → (outcome_of c row).turn ≡ UrgentTurn
  unfolding turn_of
  turn-urgent e h = turn_is ∙ rw (e, lt-ltb 0 (places_after c row).urgent (omega arith))

  pub turn-long : owner_of c ≡ none → (places_after c row).urgent ≡ 0 → 1 ≤ (places_after c row).long → (outcome_of c row).turn ≡ LongTurn
  unfolding turn_of
  turn-long e z h = turn_is ∙ rw (e, le-ltb 0 (places_after c row).urgent (omega arith), lt-ltb 0 (places_after c row).long (omega arith))

  -- H and N hold a place after step 1 where they held one before
  pub urgent-there : 1 ≤ c.urgent → 1 ≤ (places_after c row).urgent
  urgent-there h = omega (arith, grows.urgent)

  pub long-there : 1 ≤ c.long → 1 ≤ (places_after c row).long
  long-there h = omega (arith, grows.long)

  -- ---- served, moved, or waiting

  first-urgent : (pick : ℕ) → (outcome_of c row).turn ≡ UrgentTurn → acts_in c row (Urgent 1) pick ≡ record { condition = Free; minislot = 0; segment = 1 }
  unfolding acts_of settled_in requests requested sends moved
  first-urgent pick e = rw e

  next-urgent : (p pick : ℕ) → 1 ≤ p → (outcome_of c row).turn ≡ UrgentTurn → acts_in c row (Urgent (suc p)) pick ≡ stays (Urgent p)
  unfolding acts_of settled_in requests requested sends moved
  next-urgent p pick lo e = let z : eqb (suc p) 1 ≡ false = ne_eqb (suc p) 1 (λ q. omega arith) in let y : suc p - 1 ≡ p = omega arith in rw (e, z, y)

  owned-urgent : (x p pick : ℕ) → (outcome_of c row).turn ≡ OwnedTurn x → acts_in c row (Urgent p) pick ≡ stays (Urgent p)
  unfolding acts_of settled_in requests requested sends moved
  owned-urgent x p pick e = rw e

  first-long : (l t pick : ℕ) → (outcome_of c row).turn ≡ LongTurn → acts_in c row (Long 1 l t) pick ≡ record { condition = cond (eqb l 1) Free (Long 1 (l - 1) t); minislot = 0; segment = t - (l - 1) }
  unfolding acts_of settled_in requests requested sends moved
  first-long l t pick e = rw e

  next-long : (f l t pick : ℕ) → 1 ≤ f → (outcome_of c row).turn ≡ LongTurn → acts_in c row (Long (suc f) l t) pick ≡ stays (Long f l t)
  unfolding acts_of settled_in requests requested sends moved
  next-long f l t pick lo e = let z : eqb (suc f) 1 ≡ false = ne_eqb (suc f) 1 (λ q. omega arith) in let y : suc f - 1 ≡ f = omega arith in rw (e, z, y)

  waits-long : (f l t pick : ℕ) → (outcome_of c row).turn ≡ UrgentTurn → acts_in c row (Long f l t) pick ≡ stays (Long f l t)
  unfolding acts_of settled_in requests requested sends moved
  waits-long f l t pick e = rw e

  owned_long : (x f l t pick : ℕ) → (outcome_of c row).turn ≡ OwnedTurn x → acts_in c row (Long f l t) pick ≡ stays (Long f l t)
  unfolding acts_of settled_in requests requested sends moved
  owned_long x f l t pick e = rw e

-- ---- joining

-- by what is heard in the minislot that it asked in, p being the lengths before it
abbrev lands_as : Bool → ℕ → Places → Feedback → ℕ → Condition
lands_as b g p f t = stands g (lands_after b p f) t

joined-urgent : (b : Bool) (g : ℕ) (p : Places) (f : Feedback) (t i : ℕ) → lands_as b g p f t ≡ Urgent i → (i ≡ p.urgent + 1) × ((queued b p f).urgent ≡ p.urgent + 1)
joined-urgent b g p Empty t i e = absurd (let z : ◌≡◌ {A = ℕ} 0 1 = cc in omega arith)
joined-urgent b g p (Single x c) t i e = go b (eqb c 1) e
  where
    go : (b o : Bool) → stands g (lands_alone b o p) t ≡ Urgent i → (i ≡ p.urgent + 1) × ((queued_single b o c p).urgent ≡ p.urgent + 1)
    go true true e = absurd (let z : ◌≡◌ {A = ℕ} 0 1 = cc in omega arith)
    go false true e = (let z : p.urgent + 1 ≡ i = cc in sym z, refl)
    go true false e = absurd (let z : ◌≡◌ {A = ℕ} 0 1 = cc in omega arith)
    go false false e = absurd (let z : ◌≡◌ {A = ℕ} 0 1 = cc in omega arith)
joined-urgent b g p Collide t i e = absurd (let z : ◌≡◌ {A = ℕ} 0 1 = cc in omega arith)

-- a long one with all its slots, which are counted if its Single counts them
record JoinedLong (b : Bool) (p : Places) (f : Feedback) (t i l n : ℕ) : Type 0 where
  place : i ≡ p.long + 1
  left : l ≡ t
  total : n ≡ t
  counts : ((x c : ℕ) → f ≡ Single x c → c ≡ t) → (queued b p f).long ≡ p.long + t

joined-long : (b : Bool) (g : ℕ) (p : Places) (f : Feedback) (t i l n : ℕ) → lands_as b g p f t ≡ Long i l n → JoinedLong b p f t i l n
joined-long b g p Empty t i l n e = absurd (let z : ◌≡◌ {A = ℕ} 0 1 = cc in omega arith)
joined-long b g p (Single y c) t i l n e = go b (eqb c 1) refl e
  where
    go : (b o : Bool) → eqb c 1 ≡ o → stands g (lands_alone b o p) t ≡ Long i l n → JoinedLong b p (Single y c) t i l n
    go true true q e = absurd (let z : ◌≡◌ {A = ℕ} 0 1 = cc in omega arith)
    go false true q e = absurd (let z : ◌≡◌ {A = ℕ} 0 1 = cc in omega arith)
    go true false q e =
        record { place = let z : p.long + 1 ≡ i = cc in sym z; left = let z : t ≡ l = cc in sym z; total = let z : t ≡ n = cc in sym z; counts = λ heard. rw q (ap (λ (k : ℕ). p.long + k) (heard y c refl)) }
    go false false q e =
        record { place = let z : p.long + 1 ≡ i = cc in sym z; left = let z : t ≡ l = cc in sym z; total = let z : t ≡ n = cc in sym z; counts = λ heard. rw q (ap (λ (k : ℕ). p.long + k) (heard y c refl)) }
joined-long b g p Collide t i l n e = absurd (let z : ◌≡◌ {A = ℕ} 0 1 = cc in omega arith)

-- the lengths before a minislot have those of each lower one, counted
lower-counted : (b : Bool) (p : Places) (row : List Feedback) (i j : ℕ) → i < j → Grows (queued b (queued_row b p (take i row)) (get_or row i Empty)) (queued_row b p (take j row))
unfolding queued_row
lower-counted b p [] zero (suc j) h = record { urgent = omega arith; long = omega arith; resolution = omega arith }
lower-counted b p [] (suc i) (suc j) h = record { urgent = omega arith; long = omega arith; resolution = omega arith }
lower-counted b p (f ∷ row) zero (suc j) h = row-grows b (queued b p f) (take j row)
lower-counted b p (f ∷ row) (suc i) (suc j) h = lower-counted b (queued b p f) row i j (omega arith)
lower-counted b p row zero zero h = absurd (omega arith)
lower-counted b p row (suc i) zero h = absurd (omega arith)

-- and the lengths after the row have those before any minislot
part-grows : (b : Bool) (p : Places) (row : List Feedback) (n : ℕ) → Grows (queued_row b p (take n row)) (queued_row b p row)
unfolding queued_row
part-grows b p [] zero = row-grows b p []
part-grows b p [] (suc n) = row-grows b p []
part-grows b p (f ∷ row) zero = row-grows b p (f ∷ row)
part-grows b p (f ∷ row) (suc n) = part-grows b (queued b p f) row n

-- whoever is not first in H sends nothing on an urgent turn
pub not_first : (k : Condition) → ((q : ℕ) → k ≡ Urgent q → 1 < q) → urgent_segment k ≡ 0
not_first Free h = refl
not_first (Held t) h = refl
not_first (Fresh t) h = refl
not_first (Asked g j t) h = refl
not_first (Resolving g i t) h = refl
not_first (Urgent i) h = let w = h i refl in rw (ne_eqb i 1 (λ e. omega (arith, w)))
not_first (Long f l t) h = refl

module _ (c : Counters) (row : List Feedback) (short : length row ≤ 8) where
  -- only one that asked in the slot's group joins
  heard-there : (g j t : ℕ) (k : Condition) → ((h i s : ℕ) → k ≡ Asked h i s → ⊥) → settles_in c row (Asked g j t) ≡ k
      → lands_as (immediate_of c row) c.next (places_before (immediate_of c row) (places_of c) row j) (feedback_at row j) t ≡ k
  unfolding settled_in outcome_by step_one_of
  heard-there g j t k other e = go (eqb g c.next) e
    where
      go : (b : Bool) → cond b (stands c.next (get_or (landings (immediate_of c row) (places_of c) row 8) (j - 1) (at Gone)).landing t) (Asked g j t) ≡ k
          → lands_as (immediate_of c row) c.next (places_before (immediate_of c row) (places_of c) row j) (feedback_at row j) t ≡ k
      go true q = ap (λ (x : Landed). stands c.next x.landing t) (sym (landing_at (immediate_of c row) (places_of c) row 8 (j - 1) short)) ∙ q
      go false q = absurd (other g j t (sym q))

  abbrev before : ℕ → Places
  before j = places_before (immediate_of c row) (places_of c) row j

  urgent-at : (g j t p : ℕ) → settles_in c row (Asked g j t) ≡ Urgent p → (p ≡ (before j).urgent + 1) × ((queued (immediate_of c row) (before j) (feedback_at row j)).urgent ≡ (before j).urgent + 1)
  urgent-at g j t p e = joined-urgent (immediate_of c row) c.next (before j) (feedback_at row j) t p (heard-there g j t (Urgent p) (λ h i s q. let z : ◌≡◌ {A = ℕ} 0 1 = cc in omega arith) e)

  long-at : (g j t f l n : ℕ) → settles_in c row (Asked g j t) ≡ Long f l n → JoinedLong (immediate_of c row) (before j) (feedback_at row j) t f l n
  long-at g j t f l n e = joined-long (immediate_of c row) c.next (before j) (feedback_at row j) t f l n (heard-there g j t (Long f l n) (λ h i s q. let z : ◌≡◌ {A = ℕ} 0 1 = cc in omega arith) e)

  behind : (j : ℕ) → Grows (places_of c) (before j)
  behind j = row-grows (immediate_of c row) (places_of c) (take (j - 1) row)

  in_front : (i j : ℕ) → 1 ≤ i → i < j → Grows (queued (immediate_of c row) (before i) (feedback_at row i)) (before j)
  in_front i j lo h = lower-counted (immediate_of c row) (places_of c) row (i - 1) (j - 1) (omega arith)

  -- while the one in front joins H the slot's turn is urgent or owned, and the other is not first
  later-silent : (g h i j s t p pick : ℕ) → 1 ≤ i → i < j → settles_in c row (Asked g i s) ≡ Urgent p → (acts_in c row (Asked h j t) pick).segment ≡ 0
  unfolding acts_of sends places_after
  later-silent g h i j s t p pick lo less e =
      let x = urgent-at g i s p e in
      let y = (in_front i j lo less).urgent in
      let z = (part-grows (immediate_of c row) (places_of c) row (j - 1)).urgent in
      go (owner_of c) refl (omega (arith, x, y, z))
      (not_first (settles_in c row (Asked h j t)) (λ q w. let v = urgent-at h j t q w in omega (arith, v, x, y)))
    where
      go : (o : Option ℕ) → owner_of c ≡ o → 1 ≤ (places_after c row).urgent → urgent_segment (settles_in c row (Asked h j t)) ≡ 0
          → sends (outcome_of c row).turn (outcome_of c row).resolution (outcome_of c row).group (settles_in c row (Asked h j t)) ≡ 0
      go (some x) w u n = rw (turn-owned c row x w)
      go none w u n = rw (turn-urgent c row w u) n

-- ONE SLOT of a message in a transmission queue
pub place-steps : PlaceStepsHold
place-steps c row short =
    record {
      urgent-first = λ pick e h. first-urgent c row pick (turn-urgent c row e (urgent-there c row h));
      urgent-next = λ p pick e h lo. next-urgent c row p pick lo (turn-urgent c row e (urgent-there c row h));
      long-first = λ l t pick e z h. first-long c row l t pick (turn-long c row e z (long-there c row h));
      long-next = λ f l t pick e z h lo. next-long c row f l t pick lo (turn-long c row e z (long-there c row h));
      long-waits = λ f l t pick e h. waits-long c row f l t pick (turn-urgent c row e h);
      urgent-owned = λ x p pick e. owned-urgent c row x p pick (turn-owned c row x e);
      long-owned = λ x f l t pick e. owned_long c row x f l t pick (turn-owned c row x e);
      joins-urgent = λ g j t p e. omega (arith, (urgent-at c row short g j t p e).0, (behind c row short j).urgent);
      joins_long = λ g j t f l n e. let w = long-at c row short g j t f l n e in (omega (arith, w.place, (behind c row short j).long), w.left, w.total);
      row-urgent = λ g h i j s t p q lo less a b.
          let x = urgent-at c row short g i s p a in
          let y = urgent-at c row short h j t q b in
          omega (arith, x, y, (in_front c row short i j lo less).urgent);
      row-later = λ g h i j s t p pick lo less e. later-silent c row short g h i j s t p pick lo less e;
      row-long = λ g h i j s t p l m q k n lo less heard a b.
          let u = long-at c row short g i s p l m a in
          let v = long-at c row short h j t q k n b in
          omega (arith, u.place, u.left, u.counts heard, v.place, (in_front c row short i j lo less).long);
    }
