-- HOW LONG A PLACE WAITS (paper 02, T-08): of every channel of 1 to 64 stations whose table is sound, one that no start leads to too, and
-- every list of calls from it, refused calls, offers, holds, commits, withdrawals and new calendars among them. Each field is a sentence of
-- the request. An operator reads a place off the table and counts from the next slot that goes through:
--   place 3 in H   the third slot from now that no stream owns;
--   place 3 in N   the third such slot from now that is no urgent turn: with two urgent turns until then, the fifth.
-- Whoever asks, joins or is refused meanwhile, that stays so. Assumes nothing.
use Rattle.std.specs.Prelude.{◌≡◌, Bool, true, false, cond, List, ◌++◌, ℕ, ◌+◌, ◌-◌, ◌≤◌, ◌<◌, ltb, length, get_or, take}
use Rattle.rules.specs.declared.Answer.{Answer}
use Rattle.rules.specs.declared.Condition.{Condition}
use Rattle.rules.specs.declared.Condition.TheVariants.{Free, Held, Fresh, Asked, Resolving, Urgent, Long}
use Rattle.rules.specs.declared.StartAnswer.TheVariants.{Ready}
use Rattle.rules.specs.declared.Turn.TheVariants.{Urgent as UrgentTurn, Long as LongTurn}
use Rattle.rules.specs.Calls.{Call, Slot}
use Rattle.rules.specs.Stepping.{acts_of}
use Rattle.channel_rules.specs.Soundness.{sound_table, table_counters}
use Rattle.channel_rules.specs.ChannelCalls.{Channel, has_stations, outcome_heard}
use Rattle.channel_rules.specs.ChannelCalls.{channel_start_of, channel_slot_number_of, channel_call, channel_after}
use Rattle.coming_rules.specs.Coming.{places_in, coming_until}
use Rattle.coming_rules.specs.ComingHolds.{Picks}
use Rattle.shown_tables.specs.Kept.{IsSound}
use Rattle.place_waits.specs.Continuing.{short_at, long_at, index_at, is_taken, slots_taken, unowned_answers}
use Rattle.place_waits.specs.Continuing.{numbered, Tells, urgent_turns, other_turns}
use Rattle.place_waits.specs.Bounds.{free_positions, within, keeps_calendar}

-- ---- the words of the statement

-- a message stands in H; in N
abbrev pub in_urgent : Condition → Bool
in_urgent Free = false
in_urgent (Held t) = false
in_urgent (Fresh t) = false
in_urgent (Asked g j t) = false
in_urgent (Resolving g i t) = false
in_urgent (Urgent i) = true
in_urgent (Long f l t) = false

abbrev pub in_long : Condition → Bool
in_long Free = false
in_long (Held t) = false
in_long (Fresh t) = false
in_long (Asked g j t) = false
in_long (Resolving g i t) = false
in_long (Urgent i) = false
in_long (Long f l t) = true

-- the number of the slot, among those that no stream owns, in which place p of H's h places is served: from the front, however many there
-- are
abbrev pub served_in : ℕ → ℕ → ℕ
served_in h p = p

abbrev pub urgent_number : Channel → ℕ → ℕ
urgent_number ch p = served_in (table_counters ch.stations).urgent p

-- a stretch of l slots from place f on is wholly in front of one that begins at g, of which so many slots are sent
abbrev pub InFront : ℕ → ℕ → ℕ → ℕ → Type 0
InFront f l g sent = f + l + sent ≤ g

-- of a stretch of l slots left of t from place f on: the segment at place p
abbrev pub segment_in : ℕ → ℕ → ℕ → ℕ → ℕ
segment_in f l t p = t - l + 1 + (p - f)

-- a stretch when so many other turns than urgent ones have passed
abbrev pub stretch_after : ℕ → ℕ → ℕ → ℕ → Condition
stretch_after f l t n = Long (cond (ltb n f) (f - n) 1) (l - (n + 1 - f)) t

-- segment s of the station with index x, at N place p, is sent in one of these slots, which no stream owns: number p and one more for each
-- urgent turn until then; and in none before
pub record LongSends (x s p : ℕ) (answers : List Answer) : Type 0 where
  pub slot : ℕ
  pub low : 1 ≤ slot
  pub there : slot ≤ length answers
  pub number : slot ≡ p + urgent_turns (take slot answers)
  pub sends : Tells LongTurn x s (numbered answers slot)
  pub before : (i : ℕ) → 1 ≤ i → i < slot → Tells LongTurn x s (numbered answers i) → ⊥

-- of two messages the first is sent in slot i, the second in slot j after it
pub record InOrder (x i y j : ℕ) (answers : List Answer) : Type 0 where
  pub less : i < j
  pub first : Tells UrgentTurn x 1 (numbered answers i)
  pub second : Tells UrgentTurn y 1 (numbered answers j)

-- ---- THE CLAIM, of a list of calls from a channel

pub record PlacesWait (ch : Channel) (calls : List Call) : Type 0 where
  -- H: a message at place p sends, and is delivered, in exactly the p-th later slot that has no stream owner, if there are so many; and in
  -- none before. Until then its place is p less the slots gone by
  pub urgent-sends : (k p : ℕ) → short_at ch k ≡ Urgent p → urgent_number ch p ≤ length (unowned_answers ch calls)
      → Tells UrgentTurn (index_at ch k) 1 (numbered (unowned_answers ch calls) (urgent_number ch p))
  pub urgent-before : (k p i : ℕ) → short_at ch k ≡ Urgent p → 1 ≤ i → i < urgent_number ch p → i ≤ length (unowned_answers ch calls)
      → Tells UrgentTurn (index_at ch k) 1 (numbered (unowned_answers ch calls) i) → ⊥
  pub urgent-waits : (k p : ℕ) → short_at ch k ≡ Urgent p → length (unowned_answers ch calls) < p
      → short_at (channel_after ch calls) k ≡ Urgent (p - length (unowned_answers ch calls))
  -- N: a segment at place p sends in exactly the slot that is number p + u among the later unowned ones, u being the urgent turns among
  -- them until then, if there are so many; and in none before. Until its last the stretch waits, less the turns that were not urgent
  pub long-sends : (k f l t p : ℕ) → long_at ch k ≡ Long f l t → f ≤ p → p < f + l
      → p + urgent_turns (unowned_answers ch calls) ≤ length (unowned_answers ch calls)
      → LongSends (index_at ch k) (segment_in f l t p) p (unowned_answers ch calls)
  pub long-before : (k f l t p i : ℕ) → long_at ch k ≡ Long f l t → f ≤ p → p < f + l
      → length (unowned_answers ch calls) < p + urgent_turns (unowned_answers ch calls) → 1 ≤ i → i ≤ length (unowned_answers ch calls)
      → Tells LongTurn (index_at ch k) (segment_in f l t p) (numbered (unowned_answers ch calls) i) → ⊥
  pub long-waits : (k f l t : ℕ) → long_at ch k ≡ Long f l t → other_turns (unowned_answers ch calls) + 1 < f + l
      → long_at (channel_after ch calls) k ≡ stretch_after f l t (other_turns (unowned_answers ch calls))
  -- no overtaking in H: a is there, b is not and joins during the calls; then a is sent before b, whose slot is counted from the same one
  pub urgent-order : (a b p r : ℕ) (more : List Call) → short_at ch a ≡ Urgent p → in_urgent (short_at ch b) ≡ false
      → short_at (channel_after ch calls) b ≡ Urgent r
      → length (unowned_answers ch calls) + r ≤ length (unowned_answers ch (calls ++ more))
      → InOrder (index_at ch a) p (index_at ch b) (length (unowned_answers ch calls) + r) (unowned_answers ch (calls ++ more))
  -- no overtaking in N: likewise; a's last place is before b's first, counted from the same slot without urgent turns, of what is sent of b
  -- already too; so each segment of a is sent before each of b
  pub long-behind : (a b f l t g m n : ℕ) → long_at ch a ≡ Long f l t → in_long (long_at ch b) ≡ false
      → long_at (channel_after ch calls) b ≡ Long g m n → InFront f l (other_turns (unowned_answers ch calls) + g) (n - m)
  pub long_order : (a b f l t g m n p q : ℕ) (more : List Call) → long_at ch a ≡ Long f l t → in_long (long_at ch b) ≡ false
      → long_at (channel_after ch calls) b ≡ Long g m n → f ≤ p → p < f + l → g ≤ q → q < g + m
      → (u : LongSends (index_at ch a) (segment_in f l t p) p (unowned_answers ch (calls ++ more)))
      (v : LongSends (index_at ch b) (segment_in g m n q) q (unowned_answers (channel_after ch calls) more))
      → u.slot < length (unowned_answers ch calls) + v.slot
  -- of two that join in one row, in minislots i and j, the one of the lower minislot is in front, and the other sends nothing in that slot
  pub urgent-row : (a b g i j s t p q : ℕ) (picks : List ℕ) → is_taken ch (Slot picks) ≡ true
      → short_at ch a ≡ Asked g i s → short_at ch b ≡ Asked g j t → i < j → short_at (channel_call ch (Slot picks)).state a ≡ Urgent p
      → ((acts_of (outcome_heard ch) (short_at ch b) (get_or picks b 0)).segment ≡ 0)
      × (short_at (channel_call ch (Slot picks)).state b ≡ Urgent q → p < q)
  pub long-row : (a b g i j s t p l m q k n : ℕ) (picks : List ℕ) → is_taken ch (Slot picks) ≡ true
      → long_at ch a ≡ Asked g i s → long_at ch b ≡ Asked g j t → i < j → long_at (channel_call ch (Slot picks)).state a ≡ Long p l m
      → long_at (channel_call ch (Slot picks)).state b ≡ Long q k n → (p + l ≤ q) × (k ≡ n)
  -- one that joins later never changes the earlier one's number, urgent turns aside: whatever other calls follow in their place
  pub urgent-same : (k p : ℕ) (others : List Call) → short_at ch k ≡ Urgent p
      → p ≤ length (unowned_answers ch calls) → p ≤ length (unowned_answers ch others)
      → Tells UrgentTurn (index_at ch k) 1 (numbered (unowned_answers ch calls) p)
      × Tells UrgentTurn (index_at ch k) 1 (numbered (unowned_answers ch others) p)
  pub long_same : (x s p : ℕ) (others : List Call) (u : LongSends x s p (unowned_answers ch calls))
      (v : LongSends x s p (unowned_answers ch others))
      → u.slot - urgent_turns (take u.slot (unowned_answers ch calls)) ≡ v.slot - urgent_turns (take v.slot (unowned_answers ch others))
  -- and the list can always go on: the table stays sound, and a slot with one pick a station, each of 1 to m, goes through
  pub sound : IsSound (channel_after ch calls)
  pub goes : (picks : List ℕ) → Picks ch picks → channel_slot_number_of (channel_after ch calls) picks ≡ 0
  -- for a quoter: while no calendar is set, the p-th slot that no stream owns is among the first `within` slots, by the free positions; and
  -- the number of slots until H and N are 0 (T-07) is never above that of p = H + N
  pub soon : (p : ℕ) → keeps_calendar ch calls ≡ true
      → within (free_positions (table_counters ch.stations).calendar) p ≤ slots_taken ch calls → p ≤ length (unowned_answers ch calls)
  pub until_soon : coming_until ch ≤ within (free_positions (table_counters ch.stations).calendar) (places_in ch)

-- of every channel of 1 to 64 stations whose table is sound, and every list of calls
abbrev pub PlacesWaitHolds : Type 0
PlacesWaitHolds = (ch : Channel) → has_stations ch.stations ≡ true → sound_table ch.stations ch.wire ≡ true → (calls : List Call)
    → PlacesWait ch calls

-- so of every list that goes on after a list from a start that goes through
abbrev pub PlacesWaitEver : Type 0
PlacesWaitEver = (before : Channel) (m n : ℕ) (indexes : List ℕ) → (channel_start_of before m n indexes).answer ≡ Ready
    → (earlier calls : List Call) → PlacesWait (channel_after (channel_start_of before m n indexes).state earlier) calls
