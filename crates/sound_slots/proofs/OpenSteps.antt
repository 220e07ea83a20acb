-- One station's step in an open slot: with RQ 0 only fresh messages ask, of a station's two at most one, and a message that asks sends data just if it has
-- one slot. Assumes nothing.
use mathlib.Core.Path.{◌≡◌, refl, sym}
use mathlib.Core.Bool.{Bool, true, false, cond, false≢true}
use mathlib.Core.Logic.{◌⊎◌, inl, inr}
use mathlib.Core.Option.{Option, none, some}
use Prim.Native.Nat.{ℕ, ◌-◌, ◌≤◌}
use native.Mathlib.Omega.{arith}
use lib.Dec.{eqb, ltb}
use lib.ListN.{get_or}
use borrow.Author.Tests.{ne_eqb, ltb-false}
use Rattle.rules.specs.declared.Acted.{Acted}
use Rattle.rules.specs.declared.Outcome.{Outcome}
use Rattle.rules.specs.declared.Places.{Places}
use Rattle.rules.specs.declared.Station.{Station}
use Rattle.rules.specs.declared.StationSlot.{StationSlot}
use Rattle.rules.specs.declared.SlotAnswer.TheVariants.{Went as WentSlot}
use Rattle.rules.specs.declared.Condition.{Condition}
use Rattle.rules.specs.declared.Condition.TheVariants.{Free, Held, Fresh, Asked, Resolving, Urgent, Long}
use Rattle.rules.specs.declared.Landing.{Landing}
use Rattle.rules.specs.declared.Landing.TheVariants.{Gone, ToUrgent, ToLong, ToResolution}
use Rattle.rules.specs.declared.Turn.TheVariants.{Urgent as UrgentTurn, Long as LongTurn, Resolve as ResolveTurn, Open as OpenTurn}
use Rattle.rules.specs.Turns.{turn_of}
use Rattle.rules.specs.Landing.{at, stands}
use Rattle.rules.specs.Requesting.{requests, requested}
use Rattle.rules.specs.Serving.{sends, moved}
use Rattle.rules.specs.Stepping.{settled_in, is_fresh, stays, asker, sender, request_total, with_acted, acts_of, acts_beside, step_of}

-- an open turn leaves no place in the resolution queue
pub open_none : (o : Option ℕ) (p : Places) → turn_of o p ≡ OpenTurn → p.resolution ≡ 0
unfolding turn_of
open_none (some x) p e = cc
open_none none p e = go (ltb 0 p.urgent) (ltb 0 p.long) (ltb 0 p.resolution) refl e
  where
    go : (x y z : Bool) → ltb 0 p.resolution ≡ z → cond x UrgentTurn (cond y LongTurn (cond z ResolveTurn OpenTurn)) ≡ OpenTurn → p.resolution ≡ 0
    go true y z q e = cc
    go false true z q e = cc
    go false false true q e = cc
    go false false false q e = omega (arith, ltb-false 0 p.resolution q)

-- THE STATION: it asks in its pick with a total, or not at all, and sends just if the total is 1
pub record Opens (s : Station) (pick : ℕ) (r : StationSlot) : Type 0 where
  pub minislot : ℕ
  pub total : ℕ
  pub index : r.station.index ≡ s.index
  pub answer : r.answer ≡ WentSlot OpenTurn minislot (cond (eqb total 1) 1 0)
  pub request : r.request ≡ total
  pub picked : (minislot ≡ pick) ⊎ ((minislot ≡ 0) × (total ≡ 0))

module _ (o : Outcome) (opening : o.turn ≡ OpenTurn) (none_left : o.resolution ≡ 0) where
  -- a fresh message asks, and sends its data if it has one slot
  abbrev asking : ℕ → ℕ → Acted
  asking t pick = record { condition = Asked o.group pick t; minislot = pick; segment = cond (eqb t 1) 1 0 }

  acts-fresh : (t pick : ℕ) → acts_of o (Fresh t) pick ≡ asking t pick
  unfolding acts_of settled_in requests requested sends moved
  acts-fresh t pick = rw (opening, none_left)

  -- any other does neither
  record Idle (x : Acted) : Type 0 where
    minislot : x.minislot ≡ 0
    segment : x.segment ≡ 0

  acts-other : (k : Condition) → is_fresh k ≡ false → (pick : ℕ) → Idle (acts_of o k pick)
  unfolding acts_of settled_in requests sends
  acts-other Free e pick = record { minislot = refl; segment = rw opening }
  acts-other (Held t) e pick = record { minislot = refl; segment = rw opening }
  acts-other (Fresh t) e pick = absurd (false≢true (sym e))
  acts-other (Asked h j t) e pick = go (eqb h o.group) (get_or o.landed (j - 1) (at Gone)).landing
    where
      go : (b : Bool) (x : Landing) → Idle (record {
        condition = moved o.turn (requested o.resolution o.group pick (cond b (stands o.group x t) (Asked h j t)));
        minislot = cond (requests o.resolution o.group (cond b (stands o.group x t) (Asked h j t))) pick 0;
        segment = sends o.turn o.resolution o.group (cond b (stands o.group x t) (Asked h j t));
      })
      go true Gone = record { minislot = refl; segment = rw opening }
      go true (ToUrgent i) = record { minislot = refl; segment = rw opening }
      go true (ToLong f) = record { minislot = refl; segment = rw opening }
      go true (ToResolution i) = record { minislot = rw none_left; segment = rw (opening, none_left) }
      go false x = record { minislot = refl; segment = rw opening }
  acts-other (Resolving h i t) e pick = record { minislot = rw none_left; segment = rw (opening, none_left) }
  acts-other (Urgent i) e pick = record { minislot = refl; segment = rw opening }
  acts-other (Long f l t) e pick = record { minislot = refl; segment = rw opening }

  -- beside a fresh short message the long one does neither
  beside-other : (a b : Condition) → is_fresh a ≡ true → (pick : ℕ) → Idle (acts_beside o a b pick)
  unfolding acts_beside
  beside-other a b e pick = rw e (go (is_fresh b) refl)
    where
      go : (x : Bool) → is_fresh b ≡ x → Idle (cond x (stays b) (acts_of o b pick))
      go true q = record { minislot = refl; segment = refl }
      go false q = acts-other b q pick

  -- by what its two records do
  both : (s : Station) (pick : ℕ) (x y : Acted) (j t : ℕ) → (asker x y).minislot ≡ j → (sender x y).segment ≡ cond (eqb t 1) 1 0 → request_total (asker x y) ≡ t
      → (j ≡ pick) ⊎ ((j ≡ 0) × (t ≡ 0)) → Opens s pick (with_acted o s x y)
  both s pick x y j t e f g h = record { minislot = j; total = t; index = refl; answer = rw (opening, e, f); request = g; picked = h }

  asks-first : (s : Station) (t pick : ℕ) (y : Acted) → 1 ≤ pick → Idle y → Opens s pick (with_acted o s (acts_of o (Fresh t) pick) y)
  asks-first s t pick y lo idle =
      let some : eqb pick 0 ≡ false = ne_eqb pick 0 (λ e. omega arith) in
      rw (acts-fresh t pick) (both s pick (asking t pick) y pick t (rw some) (sent (eqb t 1)) (rw (some, some)) (inl refl))
    where
      sent : (b : Bool) → (cond (eqb (cond b 1 0) 0) y (record { condition = Asked o.group pick t; minislot = pick; segment = cond b 1 0 })).segment ≡ cond b 1 0
      sent true = refl
      sent false = idle.segment

  asks-second : (s : Station) (t pick : ℕ) (x : Acted) → 1 ≤ pick → Idle x → Opens s pick (with_acted o s x (acts_of o (Fresh t) pick))
  asks-second s t pick x lo idle =
      let some : eqb pick 0 ≡ false = ne_eqb pick 0 (λ e. omega arith) in
      both s pick x _ pick t (rw (idle.minislot, acts-fresh t pick)) (rw (idle.segment, acts-fresh t pick)) (rw (idle.minislot, acts-fresh t pick, some)) (inl refl)

  asks-not : (s : Station) (pick : ℕ) (x y : Acted) → Idle x → Idle y → Opens s pick (with_acted o s x y)
  asks-not s pick x y p q =
      both s pick x y 0 0 (rw p.minislot q.minislot) (rw p.segment q.segment) (rw (p.minislot, q.minislot)) (inr (refl, refl))

  -- where the short message is not fresh
  long_opens : (s : Station) (pick : ℕ) → 1 ≤ pick → (a b : Condition) → is_fresh a ≡ false → Opens s pick (with_acted o s (acts_of o a pick) (acts_beside o a b pick))
  unfolding acts_beside
  long_opens s pick lo a (Fresh t) e = rw e (asks-second s t pick (acts_of o a pick) lo (acts-other a e pick))
  long_opens s pick lo a Free e = rw e (asks-not s pick _ _ (acts-other a e pick) (acts-other Free refl pick))
  long_opens s pick lo a (Held t) e = rw e (asks-not s pick _ _ (acts-other a e pick) (acts-other (Held t) refl pick))
  long_opens s pick lo a (Asked h j t) e = rw e (asks-not s pick _ _ (acts-other a e pick) (acts-other (Asked h j t) refl pick))
  long_opens s pick lo a (Resolving h i t) e = rw e (asks-not s pick _ _ (acts-other a e pick) (acts-other (Resolving h i t) refl pick))
  long_opens s pick lo a (Urgent i) e = rw e (asks-not s pick _ _ (acts-other a e pick) (acts-other (Urgent i) refl pick))
  long_opens s pick lo a (Long f l t) e = rw e (asks-not s pick _ _ (acts-other a e pick) (acts-other (Long f l t) refl pick))

  pub station_opens : (s : Station) (pick : ℕ) → 1 ≤ pick → Opens s pick (step_of o s pick)
  unfolding step_of
  station_opens s pick lo = go s.short.condition
    where
      go : (a : Condition) → Opens s pick (with_acted o s (acts_of o a pick) (acts_beside o a s.long.condition pick))
      go Free = long_opens s pick lo Free s.long.condition refl
      go (Held t) = long_opens s pick lo (Held t) s.long.condition refl
      go (Fresh t) = asks-first s t pick (acts_beside o (Fresh t) s.long.condition pick) lo (beside-other (Fresh t) s.long.condition refl pick)
      go (Asked h j t) = long_opens s pick lo (Asked h j t) s.long.condition refl
      go (Resolving h i t) = long_opens s pick lo (Resolving h i t) s.long.condition refl
      go (Urgent i) = long_opens s pick lo (Urgent i) s.long.condition refl
      go (Long f l t) = long_opens s pick lo (Long f l t) s.long.condition refl
