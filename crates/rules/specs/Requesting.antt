-- Step 3, requests (RTR), and RQ's part of step 5 (paper 01, "One slot of group g", 3 and 5; paper 02, T-06: a held
-- message does not ask). r is RQ of the slot's group g after step 1.
-- Assumes nothing.
use Rattle.std.specs.Prelude.{Bool, false, ◌&&◌, cond, ℕ, ◌-◌, eqb, ltb}
use Rattle.rules.specs.StationLimits.{Condition, Free, Held, Fresh, Asked, Resolving, Urgent, Long}

-- at a place of group g's resolution queue while it holds a place
abbrev pub waits_in : ℕ → ℕ → ℕ → Bool
waits_in r g h = ltb 0 r && eqb h g

-- RQ > 0: the stations at place 1 of RQ request. RQ = 0: those with a fresh message do
unfoldable pub requests : ℕ → ℕ → Condition → Bool
requests r g Free = false
requests r g (Held t) = false
requests r g (Fresh t) = eqb r 0
requests r g (Asked h j t) = false
requests r g (Resolving h i t) = waits_in r g h && eqb i 1
requests r g (Urgent i) = false
requests r g (Long f l t) = false

-- the message's whole slot count, which a request carries
abbrev pub total_of : Condition → ℕ
total_of Free = 0
total_of (Held t) = t
total_of (Fresh t) = t
total_of (Asked h j t) = t
total_of (Resolving h i t) = t
total_of (Urgent i) = 1
total_of (Long f l t) = t

-- who requests is asked in its picked minislot; the other places of the group's resolution queue move down by 1
unfoldable pub requested : ℕ → ℕ → ℕ → Condition → Condition
requested r g pick Free = Free
requested r g pick (Held t) = Held t
requested r g pick (Fresh t) = cond (eqb r 0) (Asked g pick t) (Fresh t)
requested r g pick (Asked h j t) = Asked h j t
requested r g pick (Resolving h i t) = cond (waits_in r g h) (cond (eqb i 1) (Asked g pick t) (Resolving h (i - 1) t)) (Resolving h i t)
requested r g pick (Urgent i) = Urgent i
requested r g pick (Long f l t) = Long f l t
