-- The station's rules by clauses on places and lengths, as the proof by induction takes them apart. Each is the rule of specs/ in another shape:
-- proofs/ClauseLaws proves them equal. Assumes nothing.
use mathlib.Core.Bool.{Bool, true, false, not, cond}
use mathlib.Core.List.{List, [], ◌∷◌, map}
use mathlib.Core.Option.{Option, none, some}
use Prim.Native.Nat.{ℕ, zero, suc, ◌-◌}
use lib.Dec.{eqb}
use Rattle.minislot.specs.declared.Feedback.{Feedback}
use Rattle.minislot.specs.declared.Feedback.TheVariants.{Empty, Single, Collide}
use Rattle.rules.specs.declared.Places.{Places}
use Rattle.listlaws.specs.Lists.{only_if}
use Rattle.rules.specs.Messages.{Message}
use Rattle.rules.specs.Queueing.{queued}
use Rattle.rules.specs.StationLimits.{Condition, Free, Held, Fresh, Asked, Resolving, Urgent, Long}
use Rattle.rules.proofs.Views.{Sender, sender_at, request_from}
use Rattle.rules.proofs.Settled.{stands_after}

-- what is read of these senders; `index` is the table's
abbrev pub hearing : (ℕ → ℕ) → List Sender → Feedback
hearing index [] = Empty
hearing index (x ∷ []) = Single (index x.position) x.value
hearing index (x ∷ y ∷ l) = Collide

abbrev pub read : (ℕ → ℕ) → List Message → Feedback
read index l = hearing index (map request_from l)

abbrev pub lone_index_of : Feedback → ℕ
lone_index_of Empty = 0
lone_index_of (Single i s) = i
lone_index_of Collide = 0

abbrev pub lone_number_of : Feedback → ℕ
lone_number_of Empty = 0
lone_number_of (Single i s) = s
lone_number_of Collide = 0

-- the record asked in minislot j (from 1) of the row: its minislot, with the lengths of the minislots before
abbrev pub after : Bool → ℕ → List Feedback → Places → ℕ → ℕ → Condition
after b g [] c j t = Free
after b g (f ∷ row) c zero t = Free
after b g (f ∷ row) c (suc zero) t = stands_after b g c f t
after b g (f ∷ row) c (suc (suc j)) t = after b g row (queued b c f) (suc j) t

-- step 1 for any condition
abbrev pub settle : Bool → ℕ → List Feedback → Places → Condition → Condition
settle b g row c Free = Free
settle b g row c (Held t) = Held t
settle b g row c (Fresh t) = Fresh t
settle b g row c (Asked h j t) = cond (eqb h g) (after b g row c j t) (Asked h j t)
settle b g row c (Resolving h i t) = Resolving h i t
settle b g row c (Urgent i) = Urgent i
settle b g row c (Long f l t) = Long f l t

-- step 3 and RQ's part of step 5
abbrev pub front : Bool → ℕ → ℕ → ℕ → ℕ → ℕ → Condition
front false g j h i t = Resolving h i t
front true g j h zero t = Resolving h zero t
front true g j h (suc zero) t = Asked g j t
front true g j h (suc (suc i)) t = Resolving h (suc i) t

-- a fresh message is held back, or it asks
abbrev pub fresh_asks : Bool → ℕ → ℕ → ℕ → Condition
fresh_asks true g j t = Fresh t
fresh_asks false g j t = Asked g j t

abbrev pub asks : Bool → ℕ → ℕ → ℕ → Condition → Condition
asks b zero g j Free = Free
asks b zero g j (Held t) = Held t
asks b zero g j (Fresh t) = fresh_asks b g j t
asks b zero g j (Asked h i t) = Asked h i t
asks b zero g j (Resolving h i t) = Resolving h i t
asks b zero g j (Urgent i) = Urgent i
asks b zero g j (Long f l t) = Long f l t
asks b (suc r) g j Free = Free
asks b (suc r) g j (Held t) = Held t
asks b (suc r) g j (Fresh t) = Fresh t
asks b (suc r) g j (Asked h i t) = Asked h i t
asks b (suc r) g j (Resolving h i t) = front (eqb h g) g j h i t
asks b (suc r) g j (Urgent i) = Urgent i
asks b (suc r) g j (Long f l t) = Long f l t

-- step 4 and the rest of step 5, by H and N after step 1 as the slot's data heeds them: an owned slot serves neither queue
abbrev pub heeded : Option ℕ → ℕ → ℕ
heeded none h = h
heeded (some x) h = 0

abbrev pub lower : ℕ → Condition
lower zero = Urgent zero
lower (suc zero) = Free
lower (suc (suc i)) = Urgent (suc i)

abbrev pub shorter : ℕ → ℕ → ℕ → Condition
shorter zero l t = Long zero l t
shorter (suc zero) zero t = Free
shorter (suc zero) (suc zero) t = Free
shorter (suc zero) (suc (suc l)) t = Long 1 (suc l) t
shorter (suc (suc f)) l t = Long (suc f) l t

abbrev pub falls : ℕ → ℕ → Condition → Condition
falls h n Free = Free
falls h n (Held t) = Held t
falls h n (Fresh t) = Fresh t
falls h n (Asked g j t) = Asked g j t
falls h n (Resolving g i t) = Resolving g i t
falls zero n (Urgent i) = Urgent i
falls (suc h) n (Urgent i) = lower i
falls zero zero (Long f l t) = Long f l t
falls zero (suc n) (Long f l t) = shorter f l t
falls (suc h) n (Long f l t) = Long f l t

-- step 4: the segment that a station sends, 0 for none; the slots that the queues deliver
abbrev pub sends_by : ℕ → ℕ → ℕ → Condition → ℕ
sends_by h n r Free = 0
sends_by h n r (Held t) = 0
sends_by zero zero zero (Fresh t) = cond (eqb t 1) 1 0
sends_by zero zero (suc r) (Fresh t) = 0
sends_by zero (suc n) r (Fresh t) = 0
sends_by (suc h) n r (Fresh t) = 0
sends_by h n r (Asked g j t) = 0
sends_by h n r (Resolving g i t) = 0
sends_by zero n r (Urgent i) = 0
sends_by (suc h) n r (Urgent i) = cond (eqb i 1) 1 0
sends_by (suc h) n r (Long f l t) = 0
sends_by zero zero r (Long f l t) = 0
sends_by zero (suc n) r (Long f l t) = cond (eqb f 1) (suc (t - l)) 0

abbrev pub serves : ℕ → ℕ → ℕ
serves (suc h) n = 1
serves zero (suc n) = 1
serves zero zero = 0

-- step 5: a counter that falls if it is not 0; H and N after the slot
abbrev pub less : ℕ → ℕ
less zero = zero
less (suc n) = n

abbrev pub h_left : Option ℕ → ℕ → ℕ
h_left none h = less h
h_left (some x) h = h

abbrev pub n_left : Option ℕ → ℕ → ℕ → ℕ
n_left none zero n = less n
n_left none (suc h) n = n
n_left (some x) h n = n

-- the segment that a station sends, none of its message in an owned slot
abbrev pub sends_in : Option ℕ → ℕ → ℕ → ℕ → Condition → ℕ
sends_in none h n r c = sends_by h n r c
sends_in (some x) h n r c = 0

-- what an owned slot answers of its owner, or else what the senders make it
abbrev pub owned_or : Option ℕ → (ℕ → ℕ) → ℕ → ℕ
owned_or (some x) f d = f x
owned_or none f d = d

-- step 3: record k's request in minislot j of group g, whether it is held back if it is fresh, with RQ r after step 1, its pick, and its condition
-- after step 1
abbrev pub request_sender : Bool → ℕ → ℕ → ℕ → ℕ → ℕ → Condition → List Sender
request_sender b r g pick j k Free = []
request_sender b r g pick j k (Held t) = []
request_sender b zero g pick j k (Fresh t) = only_if (not b) (only_if (eqb pick j) (sender_at k t ∷ []))
request_sender b (suc r) g pick j k (Fresh t) = []
request_sender b r g pick j k (Asked h i t) = []
request_sender b zero g pick j k (Resolving h i t) = []
request_sender b (suc r) g pick j k (Resolving h i t) = only_if (eqb h g) (only_if (eqb i 1) (only_if (eqb pick j) (sender_at k t ∷ [])))
request_sender b r g pick j k (Urgent i) = []
request_sender b r g pick j k (Long f l t) = []
