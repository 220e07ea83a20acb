-- The rules of specs/ and their shape by clauses are equal: step by step, for conditions whose places count from 1. Assumes nothing.
use mathlib.Core.Path.{◌≡◌, refl, sym, ap, ◌∙◌}
use mathlib.Core.Bool.{Bool, true, false, cond}
use mathlib.Core.List.{List, [], ◌∷◌}
use mathlib.Core.Option.{Option, none, some}
use Prim.Native.Nat.{ℕ, zero, suc, ◌-◌, ◌≤◌}
use native.Mathlib.Omega.{arith}
use lib.Dec.{ltb, eqb}
use lib.ListN.{get_or, take}
use borrow.Author.Tests.{lt-ltb, ne_eqb}
use Rattle.minislot.specs.declared.Feedback.{Feedback}
use Rattle.minislot.specs.declared.Feedback.TheVariants.{Empty}
use Rattle.rules.specs.declared.Places.{Places}
use Rattle.rules.specs.Queueing.{queued, queued_row}
use Rattle.rules.specs.Turns.{Turn, UrgentTurn, LongTurn, ResolveTurn, OpenTurn, turn_of}
use Rattle.rules.specs.Falling.{urgent_falls, long_falls}
use Rattle.rules.specs.StationLimits.{Condition, Free, Held, Fresh, Asked, Resolving, Urgent, Long}
use Rattle.rules.specs.Requesting.{requests, requested}
use Rattle.rules.specs.Serving.{sends, moved}
use Rattle.rules.proofs.Clauses.{after, settle, front, asks, lower, shorter, falls, heeded, sends_by, sends_in, less, h_left, n_left}
use Rattle.rules.proofs.FallViews.{falls-still}
use Rattle.rules.proofs.Settled.{stands_after, settled_by}

-- a place, a minislot and a stretch count from 1, and a stretch has no more left than its total
abbrev pub Placed : Condition → Type 0
Placed Free = Unit {0}
Placed (Held t) = Unit {0}
Placed (Fresh t) = Unit {0}
Placed (Asked g j t) = 1 ≤ j
Placed (Resolving g i t) = 1 ≤ i
Placed (Urgent i) = 1 ≤ i
Placed (Long f l t) = (1 ≤ f) × (1 ≤ l) × (l ≤ t)

abbrev places : ℕ → ℕ → ℕ → Places
places h n r = record { urgent = h; long = n; resolution = r }

-- ---- step 1

after_is : (b : Bool) (g : ℕ) (row : List Feedback) (p : Places) (j t : ℕ) → stands_after b g (queued_row b p (take j row)) (get_or row j Empty) t ≡ after b g row p (suc j) t
unfolding queued_row
after_is b g [] p zero t = refl
after_is b g [] p (suc j) t = refl
after_is b g (f ∷ row) p zero t = refl
after_is b g (f ∷ row) p (suc j) t = after_is b g row (queued b p f) j t

pub settle_is : (b : Bool) (g : ℕ) (p : Places) (row : List Feedback) (c : Condition) → Placed c → settled_by b g p row c ≡ settle b g row p c
unfolding settled_by
settle_is b g p row Free w = refl
settle_is b g p row (Held t) w = refl
settle_is b g p row (Fresh t) w = refl
settle_is b g p row (Asked h zero t) w = absurd (omega arith)
settle_is b g p row (Asked h (suc j) t) w =
    ap (λ (k : Condition). cond (eqb h g) k (Asked h (suc j) t))
    (ap (λ (i : ℕ). stands_after b g (queued_row b p (take i row)) (get_or row i Empty) t) (let e : suc j - 1 ≡ j = omega arith in e) ∙ after_is b g row p j t)
settle_is b g p row (Resolving h i t) w = refl
settle_is b g p row (Urgent i) w = refl
settle_is b g p row (Long f l t) w = refl

-- ---- step 2

pub turn-urgent : (h n r : ℕ) → turn_of none (places (suc h) n r) ≡ UrgentTurn
unfolding turn_of
turn-urgent h n r = rw (lt-ltb 0 (suc h) (omega arith))

pub turn-long : (n r : ℕ) → turn_of none (places 0 (suc n) r) ≡ LongTurn
unfolding turn_of
turn-long n r = rw (lt-ltb 0 (suc n) (omega arith))

pub turn-resolve : (r : ℕ) → turn_of none (places 0 0 (suc r)) ≡ ResolveTurn
unfolding turn_of
turn-resolve r = rw (lt-ltb 0 (suc r) (omega arith))

pub turn_open : turn_of none (places 0 0 0) ≡ OpenTurn
unfolding turn_of
turn_open = refl

-- one law for what goes by the turn
module _ {ℓ} {A : Type ℓ} (f : Turn → A) (by : ℕ → ℕ → ℕ → A) (u : (h n r : ℕ) → f UrgentTurn ≡ by (suc h) n r) (l : (n r : ℕ) → f LongTurn ≡ by 0 (suc n) r)
    (s : (r : ℕ) → f ResolveTurn ≡ by 0 0 (suc r)) (o : f OpenTurn ≡ by 0 0 0) where
  by_turn_lem : (h n r : ℕ) → f (turn_of none (places h n r)) ≡ by h n r
  by_turn_lem (suc h) n r = ap f (turn-urgent h n r) ∙ u h n r
  by_turn_lem zero (suc n) r = ap f (turn-long n r) ∙ l n r
  by_turn_lem zero zero (suc r) = ap f (turn-resolve r) ∙ s r
  by_turn_lem zero zero zero = ap f turn_open ∙ o

-- ---- step 3

past_one : (i : ℕ) → eqb (suc (suc i)) 1 ≡ false
past_one i = ne_eqb (suc (suc i)) 1 (λ e. omega arith)

some-places : (r : ℕ) → ltb 0 (suc r) ≡ true
some-places r = lt-ltb 0 (suc r) (omega arith)

not_none : (r : ℕ) → eqb (suc r) 0 ≡ false
not_none r = ne_eqb (suc r) 0 (λ e. omega arith)

front-is : (x : Bool) (g pick h i t : ℕ) → 1 ≤ i → cond x (cond (eqb i 1) (Asked g pick t) (Resolving h (i - 1) t)) (Resolving h i t) ≡ front x g pick h i t
front-is false g pick h i t w = refl
front-is true g pick h zero t w = absurd (omega arith)
front-is true g pick h (suc zero) t w = refl
front-is true g pick h (suc (suc i)) t w = rw (past_one i) (ap (λ (x : ℕ). Resolving h x t) (omega arith))

pub asks-is : (r g pick : ℕ) (c : Condition) → Placed c → requested r g pick c ≡ asks false r g pick c
unfolding requested
asks-is zero g pick Free w = refl
asks-is zero g pick (Held t) w = refl
asks-is zero g pick (Fresh t) w = refl
asks-is zero g pick (Asked h i t) w = refl
asks-is zero g pick (Resolving h i t) w = refl
asks-is zero g pick (Urgent i) w = refl
asks-is zero g pick (Long f l t) w = refl
asks-is (suc r) g pick Free w = refl
asks-is (suc r) g pick (Held t) w = refl
asks-is (suc r) g pick (Fresh t) w = rw (not_none r)
asks-is (suc r) g pick (Asked h i t) w = refl
asks-is (suc r) g pick (Resolving h i t) w = rw (some-places r) (front-is (eqb h g) g pick h i t w)
asks-is (suc r) g pick (Urgent i) w = refl
asks-is (suc r) g pick (Long f l t) w = refl

-- ---- step 4

pub sends-is : (o : Option ℕ) (g h n r : ℕ) (c : Condition) → Placed c → sends (turn_of o (places h n r)) r g c ≡ sends_in o h n r c
unfolding sends requests turn_of
sends-is (some x) g h n r c w = refl
sends-is none g h n r c w = go h n r c w
  where
    open_is : (c : Condition) → sends OpenTurn 0 g c ≡ sends_by 0 0 0 c
    open_is Free = refl
    open_is (Held t) = refl
    open_is (Fresh t) = refl
    open_is (Asked x j t) = refl
    open_is (Resolving x i t) = refl
    open_is (Urgent i) = refl
    open_is (Long f l t) = refl

    resolve-is : (r : ℕ) (c : Condition) → 0 ≡ sends_by 0 0 (suc r) c
    resolve-is r Free = refl
    resolve-is r (Held t) = refl
    resolve-is r (Fresh t) = refl
    resolve-is r (Asked x j t) = refl
    resolve-is r (Resolving x i t) = refl
    resolve-is r (Urgent i) = refl
    resolve-is r (Long f l t) = refl

    long-is : (n r : ℕ) (c : Condition) → Placed c → sends LongTurn r g c ≡ sends_by 0 (suc n) r c
    long-is n r Free w = refl
    long-is n r (Held t) w = refl
    long-is n r (Fresh t) w = refl
    long-is n r (Asked x j t) w = refl
    long-is n r (Resolving x i t) w = refl
    long-is n r (Urgent i) w = refl
    long-is n r (Long f l t) (lo, least, most) = ap (λ (x : ℕ). cond (eqb f 1) x 0) (let e : t - (l - 1) ≡ suc (t - l) = omega arith in e)

    urgent-is : (h n r : ℕ) (c : Condition) → sends UrgentTurn r g c ≡ sends_by (suc h) n r c
    urgent-is h n r Free = refl
    urgent-is h n r (Held t) = refl
    urgent-is h n r (Fresh t) = refl
    urgent-is h n r (Asked x j t) = refl
    urgent-is h n r (Resolving x i t) = refl
    urgent-is h n r (Urgent i) = refl
    urgent-is h n r (Long f l t) = refl

    go : (h n r : ℕ) (c : Condition) → Placed c → sends (turn_of none (places h n r)) r g c ≡ sends_by h n r c
    go (suc h) n r c w = rw (turn-urgent h n r) (urgent-is h n r c)
    go zero (suc n) r c w = rw (turn-long n r) (long-is n r c w)
    go zero zero (suc r) c w = rw (turn-resolve r) (resolve-is r c)
    go zero zero zero c w = open_is c

-- ---- steps 4 and 5

lower-is : (i : ℕ) → 1 ≤ i → cond (eqb i 1) Free (Urgent (i - 1)) ≡ lower i
lower-is zero w = absurd (omega arith)
lower-is (suc zero) w = refl
lower-is (suc (suc i)) w = rw (past_one i) (ap Urgent (omega arith))

shorter-is : (f l t : ℕ) → 1 ≤ f → 1 ≤ l → cond (eqb f 1) (cond (eqb l 1) Free (Long 1 (l - 1) t)) (Long (f - 1) l t) ≡ shorter f l t
shorter-is zero l t w v = absurd (omega arith)
shorter-is (suc zero) zero t w v = absurd (omega arith)
shorter-is (suc zero) (suc zero) t w v = refl
shorter-is (suc zero) (suc (suc l)) t w v = rw (past_one l) (ap (λ (x : ℕ). Long 1 x t) (omega arith))
shorter-is (suc (suc f)) l t w v = rw (past_one f) (ap (λ (x : ℕ). Long x l t) (omega arith))

pub falls-is : (o : Option ℕ) (h n r : ℕ) (c : Condition) → Placed c → moved (turn_of o (places h n r)) c ≡ falls (heeded o h) (heeded o n) c
unfolding moved turn_of
falls-is (some x) h n r c w = sym (falls-still c)
falls-is none h n r c w =
    by_turn_lem (λ x. moved x c) (λ h n r. falls h n c) (λ h n r. urgent-is h n c w) (λ n r. long-is n c w) (λ r. sym (falls-still c)) (sym (falls-still c)) h n r
  where
    urgent-is : (h n : ℕ) (c : Condition) → Placed c → moved UrgentTurn c ≡ falls (suc h) n c
    urgent-is h n Free w = refl
    urgent-is h n (Held t) w = refl
    urgent-is h n (Fresh t) w = refl
    urgent-is h n (Asked x j t) w = refl
    urgent-is h n (Resolving x i t) w = refl
    urgent-is h n (Urgent i) w = lower-is i w
    urgent-is h n (Long f l t) w = refl

    long-is : (n : ℕ) (c : Condition) → Placed c → moved LongTurn c ≡ falls 0 (suc n) c
    long-is n Free w = refl
    long-is n (Held t) w = refl
    long-is n (Fresh t) w = refl
    long-is n (Asked x j t) w = refl
    long-is n (Resolving x i t) w = refl
    long-is n (Urgent i) w = refl
    long-is n (Long f l t) w = shorter-is f l t w.0 w.1

-- the counters
pub less-is : (n : ℕ) → n - 1 ≡ less n
less-is zero = refl
less-is (suc n) = omega arith

pub urgent_falls-is : (o : Option ℕ) (h n r : ℕ) → urgent_falls (turn_of o (places h n r)) h ≡ h_left o h
unfolding turn_of
urgent_falls-is (some x) h n r = refl
urgent_falls-is none (suc h) n r = rw (turn-urgent h n r) (less-is (suc h))
urgent_falls-is none zero (suc n) r = rw (turn-long n r)
urgent_falls-is none zero zero (suc r) = rw (turn-resolve r)
urgent_falls-is none zero zero zero = refl

pub long_falls-is : (o : Option ℕ) (h n r : ℕ) → long_falls (turn_of o (places h n r)) n ≡ n_left o h n
unfolding turn_of
long_falls-is (some x) h n r = refl
long_falls-is none (suc h) n r = rw (turn-urgent h n r)
long_falls-is none zero (suc n) r = rw (turn-long n r) (less-is (suc n))
long_falls-is none zero zero (suc r) = rw (turn-resolve r)
long_falls-is none zero zero zero = refl
