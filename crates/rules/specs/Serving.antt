-- Step 4, data (DTR), and the transmission queues' part of step 5 (paper 01, "One slot of group g", 4 and 5;
-- paper 02, T-02 and T-06). Assumes nothing.
use Rattle.std.specs.Prelude.{Bool, ◌&&◌, cond, ℕ, ◌-◌, eqb}
use Rattle.rules.specs.Turns.{Turn, OwnedTurn, UrgentTurn, LongTurn, ResolveTurn, OpenTurn}
use Rattle.rules.specs.StationLimits.{Condition, Free, Held, Fresh, Asked, Resolving, Urgent, Long}
use Rattle.rules.specs.Requesting.{requests, total_of}

-- urgent: the station at H place 1 sends its one segment
abbrev pub urgent_segment : Condition → ℕ
urgent_segment Free = 0
urgent_segment (Held t) = 0
urgent_segment (Fresh t) = 0
urgent_segment (Asked h j t) = 0
urgent_segment (Resolving h i t) = 0
urgent_segment (Urgent i) = cond (eqb i 1) 1 0
urgent_segment (Long f l t) = 0

-- long: the station whose stretch begins at N place 1 sends its next segment, before which all but l are sent
abbrev pub long_segment : Condition → ℕ
long_segment Free = 0
long_segment (Held t) = 0
long_segment (Fresh t) = 0
long_segment (Asked h j t) = 0
long_segment (Resolving h i t) = 0
long_segment (Urgent i) = 0
long_segment (Long f l t) = cond (eqb f 1) (t - (l - 1)) 0

-- open: each station that requests one slot here also sends its data
abbrev pub open_segment : Bool → ℕ → ℕ
open_segment requesting total = cond (requesting && eqb total 1) 1 0

-- the segment of its message that a station sends, 0 for none, from its condition after step 1. An owned slot carries no message: its
-- owner's stream is apart
unfoldable pub sends : Turn → ℕ → ℕ → Condition → ℕ
sends (OwnedTurn x) r g k = 0
sends UrgentTurn r g k = urgent_segment k
sends LongTurn r g k = long_segment k
sends ResolveTurn r g k = 0
sends OpenTurn r g k = open_segment (requests r g k) (total_of k)

-- places in a queue that fell move down by 1; the one at place 1 of the urgent queue is done
abbrev pub urgent_moves : Condition → Condition
urgent_moves Free = Free
urgent_moves (Held t) = Held t
urgent_moves (Fresh t) = Fresh t
urgent_moves (Asked h j t) = Asked h j t
urgent_moves (Resolving h i t) = Resolving h i t
urgent_moves (Urgent i) = cond (eqb i 1) Free (Urgent (i - 1))
urgent_moves (Long f l t) = Long f l t

-- the stretch that sent keeps place 1 with one slot fewer, and is done after its last
abbrev pub long_moves : Condition → Condition
long_moves Free = Free
long_moves (Held t) = Held t
long_moves (Fresh t) = Fresh t
long_moves (Asked h j t) = Asked h j t
long_moves (Resolving h i t) = Resolving h i t
long_moves (Urgent i) = Urgent i
long_moves (Long f l t) = cond (eqb f 1) (cond (eqb l 1) Free (Long 1 (l - 1) t)) (Long (f - 1) l t)

unfoldable pub moved : Turn → Condition → Condition
moved (OwnedTurn x) k = k
moved UrgentTurn k = urgent_moves k
moved LongTurn k = long_moves k
moved ResolveTurn k = k
moved OpenTurn k = k

-- the slots of a message that wait in a station (paper 01, "The channel": the waiting total): none of one that is held, which joins the
-- total at its commit
abbrev pub waiting : Condition → ℕ
waiting Free = 0
waiting (Held t) = 0
waiting (Fresh t) = t
waiting (Asked h j t) = t
waiting (Resolving h i t) = t
waiting (Urgent i) = 1
waiting (Long f l t) = l
