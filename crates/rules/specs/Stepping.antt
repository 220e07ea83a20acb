-- One station's slot by the slot's outcome: all that a station does after the checks (paper 01, "One slot of group g", 1 and 3 to 5;
-- paper 02, T-04 and T-06). Assumes nothing.
use Rattle.std.specs.Prelude.{Bool, true, false, ◌&&◌, cond, List, ℕ, ◌-◌, eqb, get_or}
use Rattle.rules.specs.declared.Acted.{Acted}
use Rattle.rules.specs.declared.Landed.{Landed}
use Rattle.rules.specs.declared.Outcome.{Outcome}
use Rattle.rules.specs.declared.Station.{Station}
use Rattle.rules.specs.declared.StationSlot.{StationSlot}
use Rattle.rules.specs.declared.SlotAnswer.TheVariants.{Went}
use Rattle.rules.specs.StationLimits.{Condition, Free, Held, Fresh, Asked, Resolving, Urgent, Long, holding}
use Rattle.rules.specs.Landing.{Gone, at, stands}
use Rattle.rules.specs.Requesting.{requests, requested, total_of}
use Rattle.rules.specs.Serving.{sends, moved}

-- step 1: a message that asked in the slot's group g stands where its minislot lands it
unfoldable pub settled_in : List Landed → ℕ → Condition → Condition
settled_in landed g Free = Free
settled_in landed g (Held t) = Held t
settled_in landed g (Fresh t) = Fresh t
settled_in landed g (Asked h j t) = cond (eqb h g) (stands g (get_or landed (j - 1) (at Gone)).landing t) (Asked h j t)
settled_in landed g (Resolving h i t) = Resolving h i t
settled_in landed g (Urgent i) = Urgent i
settled_in landed g (Long f l t) = Long f l t

-- the minislot of a request, 0 for none
abbrev pub request_minislot : Bool → ℕ → ℕ
request_minislot requesting pick = cond requesting pick 0

-- steps 3 to 5, from the condition k after step 1
abbrev pub acts_after : Outcome → Condition → ℕ → Acted
acts_after o k pick =
    record {
      condition = moved o.turn (requested o.resolution o.group pick k);
      minislot = request_minislot (requests o.resolution o.group k) pick;
      segment = sends o.turn o.resolution o.group k;
    }

-- what a condition does in a slot, its counters kept elsewhere
unfoldable pub acts_of : Outcome → Condition → ℕ → Acted
acts_of o k pick = acts_after o (settled_in o.landed o.group k) pick

-- a message that does nothing in a slot
abbrev pub stays : Condition → Acted
stays k = record { condition = k; minislot = 0; segment = 0 }

abbrev pub is_fresh : Condition → Bool
is_fresh Free = false
is_fresh (Held t) = false
is_fresh (Fresh t) = true
is_fresh (Asked h j t) = false
is_fresh (Resolving h i t) = false
is_fresh (Urgent i) = false
is_fresh (Long f l t) = false

-- in a slot a station asks for at most one message: of two fresh ones the short one asks, and the long one stays as it is
unfoldable pub acts_beside : Outcome → Condition → Condition → ℕ → Acted
acts_beside o short long pick = cond (is_fresh short && is_fresh long) (stays long) (acts_of o long pick)

-- of what its two records do, first the short one: the station's request is that of the record that asks, its segment that of the record
-- that sends
abbrev pub asker : Acted → Acted → Acted
asker x y = cond (eqb x.minislot 0) y x

abbrev pub sender : Acted → Acted → Acted
sender x y = cond (eqb x.segment 0) y x

-- the slot total that a request carries, 0 for none
abbrev pub request_total : Acted → ℕ
request_total x = cond (eqb x.minislot 0) 0 (total_of x.condition)

abbrev pub with_acted : Outcome → Station → Acted → Acted → StationSlot
with_acted o s x y =
    record {
      answer = Went o.turn (asker x y).minislot (sender x y).segment;
      request = request_total (asker x y);
      station =
          record { counters = o.counters; index = s.index; short = holding x.condition; long = holding y.condition };
    }

-- A STATION'S STEP
unfoldable pub step_of : Outcome → Station → ℕ → StationSlot
step_of o s pick =
    with_acted o s (acts_of o s.short.condition pick) (acts_beside o s.short.condition s.long.condition pick)
