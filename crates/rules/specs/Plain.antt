-- THE PLAIN CHANNEL (paper 01, "The plain channel"; paper 02, T-02 and T-04 to T-06): queues of messages and of segments, fed the start's
-- m, n and indexes and each call's arguments, nothing from table or wire. Assumes nothing.
use Rattle.std.specs.Prelude.{Bool, true, false, not, ◌&&◌, ◌||◌, cond, List, [], ◌∷◌, ◌++◌, map, ℕ, zero, suc, ◌+◌, ◌-◌, ◌%◌, leb, ltb, eqb, length, get_or, replicate}
use Rattle.std.proofs.Math.Option.{Option, none, some}
use Rattle.message.specs.Message.{fits_message, slots_for}
use Rattle.listlaws.specs.Lists.{keep_if}
use Rattle.rules.specs.Messages.{Message, Segment, segment, segments_from, short_record, long_record, record_of, of, delivered_of}
use Rattle.rules.specs.Calendars.{owner_in}
use Rattle.rules.specs.Turns.{Turn, OwnedTurn, UrgentTurn, LongTurn, ResolveTurn, OpenTurn}
use Rattle.rules.specs.declared.Which.{Which}
use Rattle.rules.specs.declared.Which.TheVariants.{ShortOne, LongOne}
use Rattle.rules.specs.declared.Writing.{Writing}
use Rattle.rules.specs.declared.Writing.TheVariants.{Offer, Hold, Commit, Withdraw}
use Rattle.rules.specs.Calls.{Start, index, Answer, Refused, Taken, OnHold, Committed, Withdrawn, Set, Went}
use Rattle.rules.specs.Calls.{Call, Write, Slot, Calendar}

-- ---- what it keeps

-- for each group its Open mark, the messages asking in each minislot, and a resolution queue whose places are sets of messages
pub record Group : Type 0 where
  pub opened : Bool
  pub asking : List (List Message)
  pub resolution : List (List Message)

-- messages that are held, which nobody has taken yet; fresh messages, an urgent queue of messages, a long queue of segments, the next
-- group, the groups; the calendar as it was set and the slots since the start; all messages taken; the history of deliveries
pub record Plain : Type 0 where
  pub held : List Message
  pub fresh : List Message
  pub urgent : List Message
  pub long : List Segment
  pub next : ℕ
  pub group : ℕ → Group
  pub calendar : List ℕ
  pub slots : ℕ
  pub taken : List Message
  pub history : List Segment

pub record PlainResult : Type 0 where
  pub state : Plain
  pub answer : Answer

-- ---- a slot, step 1: the group's minislots are emptied, 1 to m

-- the queues that a slot of one group works on, and the deliveries so far
pub record Queues : Type 0 where
  pub urgent : List Message
  pub long : List Segment
  pub resolution : List (List Message)
  pub history : List Segment

-- in step 1's test a lone message is a Single, more are a Collide: no minislot has two messages or more
abbrev pub none_met : List (List Message) → Bool
none_met [] = true
none_met ([] ∷ row) = none_met row
none_met ((m ∷ []) ∷ row) = none_met row
none_met ((m ∷ n ∷ l) ∷ row) = false

-- the lone messages of one slot
abbrev pub lone_short : List (List Message) → List Message
lone_short [] = []
lone_short ([] ∷ row) = lone_short row
lone_short ((m ∷ []) ∷ row) = keep_if (eqb m.slots 1) m (lone_short row)
lone_short ((m ∷ n ∷ l) ∷ row) = lone_short row

-- exactly one of them
abbrev pub just_one : List Message → Bool
just_one [] = false
just_one (m ∷ []) = true
just_one (m ∷ n ∷ l) = false

-- immediate success: the group's last slot was open, no messages met, and exactly one lone message has one slot
abbrev pub plain_success : Group → Bool
plain_success G = G.opened && none_met G.asking && just_one (lone_short G.asking)

-- a lone message: whether success is immediate, whether it has one slot. One slot: delivered on immediate success, else it joins the
-- urgent queue; a longer one's segments join the long queue in order
abbrev pub join_alone : Bool → Bool → Message → Queues → Queues
join_alone true true m q =
    record { urgent = q.urgent; long = q.long; resolution = q.resolution; history = q.history ++ (segment m 1 ∷ []) }
join_alone false true m q = record { urgent = q.urgent ++ (m ∷ []); long = q.long; resolution = q.resolution; history = q.history }
join_alone b false m q =
    record { urgent = q.urgent; long = q.long ++ segments_from m m.slots 1; resolution = q.resolution; history = q.history }

-- one minislot: a Collide's messages join the resolution queue as one place
abbrev pub join_minislot : Bool → List Message → Queues → Queues
join_minislot b [] q = q
join_minislot b (m ∷ []) q = join_alone b (eqb m.slots 1) m q
join_minislot b (m ∷ n ∷ l) q =
    record { urgent = q.urgent; long = q.long; resolution = q.resolution ++ ((m ∷ n ∷ l) ∷ []); history = q.history }

abbrev pub join_row : Bool → List (List Message) → Queues → Queues
join_row b [] q = q
join_row b (l ∷ row) q = join_row b row (join_minislot b l q)

abbrev pub queues_of : Plain → Group → Queues
queues_of p G = record { urgent = p.urgent; long = p.long; resolution = G.resolution; history = p.history }

-- the queues after step 1 of the next group's slot
abbrev pub plain_settled : Plain → Queues
plain_settled p = join_row (plain_success (p.group p.next)) (p.group p.next).asking (queues_of p (p.group p.next))

-- refusal 7: a length would pass its limit in step 1
abbrev pub overflows : Queues → Bool
overflows q = not (leb (length q.urgent) 4095 && leb (length q.long) 65535 && leb (length q.resolution) 4095)

-- ---- steps 2 to 5

-- the slots since the start, modulo 24, give the calendar's position; 65,535 stands for free
abbrev pub plain_owner : Plain → Option ℕ
plain_owner p = owner_in (get_or p.calendar (p.slots % 24) 65535)

-- an owned slot's turn names the owner; else turn and mark are step 2's, lengths being counters
abbrev pub plain_turn : Option ℕ → List Message → List Segment → List (List Message) → Turn
plain_turn (some x) u l r = OwnedTurn x
plain_turn none (m ∷ u) l r = UrgentTurn
plain_turn none [] (s ∷ l) r = LongTurn
plain_turn none [] [] (x ∷ r) = ResolveTurn
plain_turn none [] [] [] = OpenTurn

abbrev pub plain_mark : Turn → Bool
plain_mark (OwnedTurn x) = false
plain_mark UrgentTurn = false
plain_mark LongTurn = false
plain_mark ResolveTurn = false
plain_mark OpenTurn = true

-- of two fresh messages of one station only the short one asks: a longer one is held back while a short one of its station is fresh
abbrev pub some_of : List Message → Bool
some_of [] = false
some_of (m ∷ l) = true

abbrev pub held_back : List Message → Message → Bool
held_back fresh m = not (eqb m.slots 1) && some_of (of (short_record m.station) fresh)

-- the messages of a list that pass a test
abbrev pub those : (Message → Bool) → List Message → List Message
those test [] = []
those test (m ∷ l) = keep_if (test m) m (those test l)

-- the first place of the resolution queue leaves and asks, or, if there is none, all fresh messages ask that are not held back
abbrev pub askers : List (List Message) → List Message → List Message
askers [] fresh = those (λ m. not (held_back fresh m)) fresh
askers (x ∷ r) fresh = x

abbrev pub stays_fresh : List (List Message) → List Message → List Message
stays_fresh [] fresh = those (held_back fresh) fresh
stays_fresh (x ∷ r) fresh = fresh

-- all but the first entry
abbrev pub rest {ℓ} : {A : Type ℓ} → List A → List A
rest [] = []
rest (x ∷ r) = r

-- each in its station's pick: the messages asking in minislot j, and minislots j, j + 1, .., n of them
abbrev pub picked_in : (ℕ → ℕ) → ℕ → List Message → List Message
picked_in pick j l = those (λ m. eqb (pick m.station) j) l

abbrev pub asking_row : (ℕ → ℕ) → List Message → ℕ → ℕ → List (List Message)
asking_row pick l zero j = []
asking_row pick l (suc n) j = picked_in pick j l ∷ asking_row pick l n (suc j)

-- urgent or long: the first entry leaves, is sent and delivered; in an owned slot none does
abbrev pub urgent_left : Option ℕ → List Message → List Message
urgent_left (some x) u = u
urgent_left none u = rest u

abbrev pub long_left : Option ℕ → List Message → List Segment → List Segment
long_left (some x) u l = l
long_left none [] l = rest l
long_left none (m ∷ u) l = l

abbrev pub served : Option ℕ → List Message → List Segment → List Segment
served (some x) u l = []
served none (m ∷ u) l = segment m 1 ∷ []
served none [] (s ∷ l) = s ∷ []
served none [] [] = []

-- open: each one-slot message that began to ask in this slot is sent
abbrev pub one_slot : List Message → List Message
one_slot l = those (λ m. eqb m.slots 1) l

abbrev pub sent : Option ℕ → List Message → List Segment → List (List Message) → List Message → List Segment
sent (some x) u l r fresh = []
sent none (m ∷ u) l r fresh = segment m 1 ∷ []
sent none [] (s ∷ l) r fresh = s ∷ []
sent none [] [] (x ∷ r) fresh = []
sent none [] [] [] fresh = map (λ (m : Message). segment m 1) (one_slot (askers [] fresh))

-- the next group follows: 1, 2, .. n, 1, ..
abbrev pub next_group : ℕ → ℕ → ℕ
next_group n g = cond (ltb g n) (g + 1) 1

abbrev pub renewed : Start → (ℕ → ℕ) → Plain → Queues → Group
renewed S pick p q =
    record {
      opened = plain_mark (plain_turn (plain_owner p) q.urgent q.long q.resolution);
      asking = asking_row pick (askers q.resolution p.fresh) S.m 1;
      resolution = rest q.resolution;
    }

abbrev pub plain_went : Start → (ℕ → ℕ) → Plain → Queues → Plain
plain_went S pick p q =
    record {
      held = p.held;
      fresh = stays_fresh q.resolution p.fresh;
      urgent = urgent_left (plain_owner p) q.urgent;
      long = long_left (plain_owner p) q.urgent q.long;
      next = next_group S.n p.next;
      group = λ g. cond (eqb g p.next) (renewed S pick p q) (p.group g);
      calendar = p.calendar;
      slots = p.slots + 1;
      taken = p.taken;
      history = q.history ++ served (plain_owner p) q.urgent q.long;
    }

-- ---- answers

abbrev pub plain_refuse : Plain → ℕ → PlainResult
plain_refuse p n = record { state = p; answer = Refused n }

-- the number of data senders: an owned slot has one, its owner, with its stream; else those that sent these segments
abbrev pub plain_senders : Option ℕ → List Segment → ℕ
plain_senders (some x) l = 1
plain_senders none l = length l

-- the index and the segment of a lone sender, 0 and 0 if there isn't just one; a stream is no segment
abbrev pub plain_lone_index : Start → Option ℕ → List Segment → ℕ
plain_lone_index S (some x) l = x
plain_lone_index S none [] = 0
plain_lone_index S none (s ∷ []) = index S s.message.station
plain_lone_index S none (s ∷ t ∷ l) = 0

abbrev pub plain_lone_segment : List Segment → ℕ
plain_lone_segment [] = 0
plain_lone_segment (s ∷ []) = s.number
plain_lone_segment (s ∷ t ∷ l) = 0

-- the slots delivered in a call: the history's growth
abbrev pub grown : List Segment → List Segment → ℕ
grown before after = length after - length before

abbrev pub plain_answer : Start → Plain → Plain → Queues → Answer
plain_answer S p p' q =
    let o = plain_owner p in
    let x = sent o q.urgent q.long q.resolution p.fresh in
    Went (plain_turn o q.urgent q.long q.resolution) (plain_senders o x) (plain_lone_index S o x) (plain_lone_segment x)
    (grown p.history p'.history)

abbrev pub plain_slot : Start → (ℕ → ℕ) → Plain → PlainResult
plain_slot S pick p =
    record {
      state = plain_went S pick p (plain_settled p);
      answer = plain_answer S p (plain_went S pick p (plain_settled p)) (plain_settled p);
    }

-- 11: a pick outside 1 to m
abbrev pub in_range : ℕ → List ℕ → Bool
in_range m [] = true
in_range m (x ∷ l) = leb 1 x && leb x m && in_range m l

-- ---- offers, holds, commits and withdrawals

-- the station of an index: the first, counted from k
abbrev pub station_from : ℕ → List ℕ → ℕ → Option ℕ
station_from k [] x = none
station_from k (i ∷ l) x = cond (eqb i x) (some k) (station_from (suc k) l x)

-- all slots of some messages
abbrev pub slot_sum : List Message → ℕ
slot_sum [] = 0
slot_sum (m ∷ l) = m.slots + slot_sum l

-- a message of record k, which is one of a station and a kind, is not all delivered, told by the totals (`nine` of Demand3: they tell the
-- same)
abbrev pub waits : Plain → ℕ → Bool
waits p k = not (eqb (slot_sum (of k p.taken)) (length (delivered_of k p.history)))

-- 9: a message of record k is held or not all delivered
abbrev pub in_use : Plain → ℕ → Bool
in_use p k = some_of (of k p.held) || waits p k

-- other messages are held, fresh and taken, and nothing else changes
abbrev pub plain_with : Plain → List Message → List Message → List Message → Plain
plain_with p held fresh taken =
    record {
      held = held;
      fresh = fresh;
      urgent = p.urgent;
      long = p.long;
      next = p.next;
      group = p.group;
      calendar = p.calendar;
      slots = p.slots;
      taken = taken;
      history = p.history;
    }

-- a message taken is fresh, and so has its turn to ask; these messages are held
abbrev pub plain_takes : Plain → Message → Plain
plain_takes p m = plain_with p p.held (p.fresh ++ (m ∷ [])) (p.taken ++ (m ∷ []))

abbrev pub plain_holds : Plain → List Message → Plain
plain_holds p held = plain_with p held p.fresh p.taken

-- a message of so many slots, of station k, numbered after all that were taken
abbrev pub newcomer : Plain → ℕ → ℕ → Message
newcomer p k slots = record { serial = length p.taken; station = k; slots = slots }

-- an offer: the message is taken; a hold: it is kept apart
abbrev pub plain_offer : Plain → Message → PlainResult
plain_offer p m = record { state = plain_takes p m; answer = Taken m.slots }

abbrev pub plain_hold : Plain → Message → PlainResult
plain_hold p m = record { state = plain_holds p (p.held ++ (m ∷ [])); answer = OnHold m.slots }

-- a new message of station k: 10, 9, or what is done with it
abbrev pub plain_new : Plain → ℕ → ℕ → (Message → PlainResult) → PlainResult
plain_new p k bytes done =
    cond (fits_message bytes)
    (cond (in_use p (record_of (newcomer p k (slots_for bytes)))) (plain_refuse p 9) (done (newcomer p k (slots_for bytes))))
    (plain_refuse p 10)

-- the messages that are held, but for those of record k
abbrev pub held_else : Plain → ℕ → List Message
held_else p k = those (λ m. not (eqb (record_of m) k)) p.held

-- a commit of record k: the message is taken, and numbered then; a withdrawal: it goes, and was never taken
abbrev pub plain_commit : Plain → ℕ → Message → PlainResult
plain_commit p k m =
    record { state = plain_takes (plain_holds p (held_else p k)) (newcomer p m.station m.slots); answer = Committed m.slots }

abbrev pub plain_withdraw : Plain → ℕ → Message → PlainResult
plain_withdraw p k m = record { state = plain_holds p (held_else p k); answer = Withdrawn m.slots }

-- a message that is held of record k: 22 if there is none, or what is done with it
abbrev pub plain_held : Plain → (Message → PlainResult) → List Message → PlainResult
plain_held p done [] = plain_refuse p 22
plain_held p done (m ∷ l) = done m

-- the record of station k that is named
abbrev pub record_named : ℕ → Which → ℕ
record_named k ShortOne = short_record k
record_named k LongOne = long_record k

-- of station k
abbrev pub plain_writing : Plain → ℕ → Writing → PlainResult
plain_writing p k (Offer bytes) = plain_new p k bytes (plain_offer p)
plain_writing p k (Hold bytes) = plain_new p k bytes (plain_hold p)
plain_writing p k (Commit o) = plain_held p (plain_commit p (record_named k o)) (of (record_named k o) p.held)
plain_writing p k (Withdraw o) = plain_held p (plain_withdraw p (record_named k o)) (of (record_named k o) p.held)

abbrev pub plain_write : Plain → Writing → Option ℕ → PlainResult
plain_write p w none = plain_refuse p 16
plain_write p w (some k) = plain_writing p k w

-- ---- calendars

-- a number is in a list
abbrev pub among : List ℕ → ℕ → Bool
among [] x = false
among (i ∷ l) x = eqb i x || among l x

-- 20: not 24 entries, each free or the index of a station of the channel
abbrev pub on_channel : List ℕ → List ℕ → Bool
on_channel indexes [] = true
on_channel indexes (x ∷ l) = (eqb x 65535 || among indexes x) && on_channel indexes l

-- the calendar is replaced whole, and the slots since the start stay
abbrev pub plain_set : Plain → List ℕ → PlainResult
plain_set p entries =
    record {
      state =
          record {
            held = p.held;
            fresh = p.fresh;
            urgent = p.urgent;
            long = p.long;
            next = p.next;
            group = p.group;
            calendar = entries;
            slots = p.slots;
            taken = p.taken;
            history = p.history;
          };
      answer = Set;
    }

-- ---- the start, a call, and lists of calls

abbrev pub plain_start : Start → Plain
plain_start S =
    record {
      held = [];
      fresh = [];
      urgent = [];
      long = [];
      next = 1;
      group = λ g. record { opened = true; asking = asking_row (λ k. 0) [] S.m 1; resolution = [] };
      calendar = replicate 24 65535;
      slots = 0;
      taken = [];
      history = [];
    }

-- a call refused changes nothing: 16, 10, 9 or 16, 22; 17, 11, 7; 20, 21. 14 and 18 never come
abbrev pub plain_call : Start → Plain → Call → PlainResult
plain_call S p (Write x w) = plain_write p w (station_from 0 S.indexes x)
plain_call S p (Slot picks) =
    cond (eqb (length picks) (length S.indexes))
    (cond (in_range S.m picks) (cond (overflows (plain_settled p)) (plain_refuse p 7) (plain_slot S (λ k. get_or picks k 1) p))
    (plain_refuse p 11))
    (plain_refuse p 17)
plain_call S p (Calendar entries) =
    cond (eqb (length entries) 24 && on_channel S.indexes entries)
    (cond (among entries 65535) (plain_set p entries) (plain_refuse p 21))
    (plain_refuse p 20)

abbrev pub plain_after : Start → Plain → List Call → Plain
plain_after S p [] = p
plain_after S p (c ∷ l) = plain_after S (plain_call S p c).state l

abbrev pub plain_answers : Start → Plain → List Call → List Answer
plain_answers S p [] = []
plain_answers S p (c ∷ l) = (plain_call S p c).answer ∷ plain_answers S (plain_call S p c).state l
