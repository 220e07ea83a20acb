-- What a condition inside its table says of its record's message, as the plain channel made of the table has it: the message is the record's and fits the
-- condition, nothing stands past a queue's end, what was delivered and what remains are the whole message, and the messages taken are numbered. By cases of the
-- condition. Assumes nothing.
use mathlib.Core.Path.{◌≡◌, refl, sym, ap, subst, ◌∙◌}
use mathlib.Core.Bool.{Bool, true, false, cond}
use mathlib.Core.List.{List, [], ◌∷◌, ◌++◌, append-nil}
use Prim.Native.Nat.{ℕ, zero, suc, ◌+◌, ◌-◌, ◌≤◌}
use native.Mathlib.Omega.{arith}
use lib.Dec.{eqb}
use borrow.Author.Tests.{eq-eqb, ne_eqb, eqb-true, ltb-true}
use Rattle.listlaws.specs.Lists.{only_if}
use Rattle.listlaws.proofs.Totals.{total}
use Rattle.rules.specs.Calls.{Start}
use Rattle.rules.specs.Messages.{Message, Segment, segment, segments_from, record_of, short_record, long_record}
use Rattle.rules.specs.StationLimits.{short_within, long_within}
use Rattle.rules.specs.declared.Condition.{Condition}
use Rattle.rules.specs.declared.Condition.TheVariants.{Free, Held, Fresh, Asked, Resolving, Urgent, Long}
use Rattle.rules.proofs.Parting.{no_true}
use Rattle.rules.proofs.Records.{holder, is_long_record, holder-short, holder-long, kind_short, kind_long, by_kind}
use Rattle.rules.proofs.Relation.{asked_of, resolving_of, urgent_of, long_of, remaining, whole, Fits, Numbered}
use Rattle.rules.proofs.Shared.{Table, collect}
use Rattle.rules.proofs.Views.{at_first, at_place, run}
use Rattle.channel_rules.proofs.Sounding.{InsideTable}
use Rattle.shown_tables.proofs.Tabled.{shifted_past}
use Rattle.shown_tables.proofs.Made.{slots_in, busy, message_in, taken_of, past_of}

-- ---- the message is the record's

slots-short : (x : Condition) → short_within x ≡ true → slots_in false x ≡ 1
unfolding short_within
slots-short Free e = refl
slots-short (Held t) e = eqb-true t 1 e
slots-short (Fresh t) e = eqb-true t 1 e
slots-short (Asked g j t) e = eqb-true t 1 e
slots-short (Resolving g i t) e = eqb-true t 1 e
slots-short (Urgent i) e = refl
slots-short (Long f l t) e = absurd (no_true e)

slots-long : (x : Condition) → long_within x ≡ true → 2 ≤ slots_in true x
unfolding long_within
slots-long Free e = omega arith
slots-long (Held t) e = omega (arith, ltb-true 1 t e)
slots-long (Fresh t) e = omega (arith, ltb-true 1 t e)
slots-long (Asked g j t) e = omega (arith, ltb-true 1 t e)
slots-long (Resolving g i t) e = omega (arith, ltb-true 1 t e)
slots-long (Urgent i) e = absurd (no_true e)
slots-long (Long f l t) e = omega (arith, ltb-true 1 t e)

module _ (c : ℕ → Condition) (brief : (s : ℕ) → short_within (c (short_record s)) ≡ true) (lengthy : (s : ℕ) → long_within (c (long_record s)) ≡ true) where
  pub message-mine : (k : ℕ) → record_of (message_in c k) ≡ k
  unfolding record_of
  message-mine k = by_kind (λ (k : ℕ). record_of (message_in c k) ≡ k) short long k
    where
      short : (s : ℕ) → record_of (message_in c (short_record s)) ≡ short_record s
      short s =
          ap (λ (b : Bool). cond b (short_record (holder (short_record s))) (long_record (holder (short_record s))))
          (eq-eqb (slots_in (is_long_record (short_record s)) (c (short_record s))) 1 (ap (λ (b : Bool). slots_in b (c (short_record s))) (kind_short s) ∙ slots-short (c (short_record s)) (brief s)))
          ∙ ap short_record (holder-short s)

      long : (s : ℕ) → record_of (message_in c (long_record s)) ≡ long_record s
      long s =
          ap (λ (b : Bool). cond b (short_record (holder (long_record s))) (long_record (holder (long_record s))))
          (ne_eqb (slots_in (is_long_record (long_record s)) (c (long_record s))) 1
          (λ e. let w : slots_in (is_long_record (long_record s)) (c (long_record s)) ≡ slots_in true (c (long_record s)) = ap (λ (b : Bool). slots_in b (c (long_record s))) (kind_long s) in omega (arith, slots-long (c (long_record s)) (lengthy s), w, e)))
          ∙ ap long_record (holder-long s)

-- ---- the messages taken are numbered

number-next : (x : Condition) (m : Message) (n : ℕ) (rest : List Message) → m.serial ≡ n → ((z : ℕ) → z ≡ busy x + n → Numbered z rest) → Numbered n (taken_of m x ++ rest)
number-next Free m n rest e h = h n (omega arith)
number-next (Held t) m n rest e h = h n (omega arith)
number-next (Fresh t) m n rest e h = (e, h (suc n) (omega arith))
number-next (Asked g j t) m n rest e h = (e, h (suc n) (omega arith))
number-next (Resolving g i t) m n rest e h = (e, h (suc n) (omega arith))
number-next (Urgent i) m n rest e h = (e, h (suc n) (omega arith))
number-next (Long f l t) m n rest e h = (e, h (suc n) (omega arith))

pub numbered-from : (c : ℕ → Condition) (n j : ℕ) → Numbered (total j (λ i. busy (c i))) (collect (λ k. taken_of (message_in c k) (c k)) n j)
numbered-from c zero j = tt
numbered-from c (suc n) j =
    number-next (c j) (message_in c j) (total j (λ i. busy (c i))) (collect (λ k. taken_of (message_in c k) (c k)) n (suc j)) refl
    (λ z e. subst (λ (z : ℕ). Numbered z (collect (λ k. taken_of (message_in c k) (c k)) n (suc j))) (sym e) (numbered-from c n (suc j)))

-- ---- a condition inside the table

segments_join : (m : Message) (a b s : ℕ) → segments_from m a s ++ segments_from m b (s + a) ≡ segments_from m (a + b) s
segments_join m zero b s =
    ap (λ (z : ℕ). segments_from m b z) (let w : s + 0 ≡ s = omega arith in w) ∙ ap (λ (z : ℕ). segments_from m z s) (let w : b ≡ 0 + b = omega arith in w)
segments_join m (suc a) b s =
    ap (λ (z : List Segment). segment m s ∷ z) (ap (λ (z : ℕ). segments_from m a (suc s) ++ segments_from m b z) (let w : s + suc a ≡ suc s + a = omega arith in w) ∙ segments_join m a b (suc s))
    ∙ ap (λ (z : ℕ). segments_from m z s) (let w : suc (a + b) ≡ suc a + b = omega arith in w)

run_past : (m : Message) (l s i : ℕ) → l ≤ i → run m l s i ≡ []
run_past m zero s i h = refl
run_past m (suc l) s zero h = absurd (omega arith)
run_past m (suc l) s (suc i) h = run_past m l (suc s) i (omega arith)

first_past {ℓ} : {A : Type ℓ} (x : List A) (i : ℕ) → 1 ≤ i → at_first x i ≡ []
first_past x zero h = absurd (omega arith)
first_past x (suc i) h = refl

place-past {ℓ} : {A : Type ℓ} (x : List A) (j i : ℕ) → j ≤ i → at_place j (at_first x) i ≡ []
place-past x zero i h = refl
place-past x (suc j) i h = shifted_past (at_first x) 1 (first_past x) j i (omega arith)

if_past {ℓ} : {A : Type ℓ} (b : Bool) (l : List A) → (b ≡ true → l ≡ []) → only_if b l ≡ []
if_past true l h = h refl
if_past false l h = refl

module _ (S : Start) (t : Table) where
  pub slots_range : (b : Bool) (x : Condition) → InsideTable S t x → (1 ≤ slots_in b x) × (slots_in b x ≤ 255)
  slots_range true Free w = (omega arith, omega arith)
  slots_range false Free w = (omega arith, omega arith)
  slots_range b (Held s) w = w
  slots_range b (Fresh s) w = w
  slots_range b (Asked g j s) w = (w.4, w.5)
  slots_range b (Resolving g i s) w = (w.4, w.5)
  slots_range b (Urgent i) w = (omega arith, omega arith)
  slots_range b (Long f l s) w = (omega (arith, w.4), w.5)

  module _ (m : Message) (b : Bool) where
    pub fits_in : (x : Condition) → m.slots ≡ slots_in b x → InsideTable S t x → Fits S m x
    fits_in Free e w = tt
    fits_in (Held s) e w = sym e
    fits_in (Fresh s) e w = sym e
    fits_in (Asked g j s) e w = (sym e, w.0, w.1, w.2, w.3)
    fits_in (Resolving g i s) e w = (sym e, w.0, w.1, w.2)
    fits_in (Urgent i) e w = (e, w.0)
    fits_in (Long f l s) e w = (sym e, w.0, w.2, w.3, w.4)

    -- what was delivered, then what remains
    pub owed_in : (x : Condition) → m.slots ≡ slots_in b x → InsideTable S t x → past_of m x ++ remaining m x ≡ whole (taken_of m x)
    owed_in Free e w = refl
    owed_in (Held s) e w = refl
    owed_in (Fresh s) e w = sym (append-nil (segments_from m m.slots 1))
    owed_in (Asked g j s) e w = sym (append-nil (segments_from m m.slots 1))
    owed_in (Resolving g i s) e w = sym (append-nil (segments_from m m.slots 1))
    owed_in (Urgent i) e w = sym (append-nil (segments_from m m.slots 1))
    owed_in (Long f l s) e w =
        ap (λ (z : ℕ). segments_from m (s - l) 1 ++ segments_from m l z) (let v : suc (s - l) ≡ 1 + (s - l) = omega arith in v)
        ∙ segments_join m (s - l) l 1
        ∙ ap (λ (z : ℕ). segments_from m z 1) (let v : s - l + l ≡ m.slots = omega (arith, w.3, e) in v)
        ∙ sym (append-nil (segments_from m m.slots 1))

  -- nothing past the end of a queue
  module _ (m : Message) (i : ℕ) where
    pub urgent-past : (x : Condition) → InsideTable S t x → t.h ≤ i → urgent_of m x i ≡ []
    urgent-past Free w h = refl
    urgent-past (Held s) w h = refl
    urgent-past (Fresh s) w h = refl
    urgent-past (Asked g j s) w h = refl
    urgent-past (Resolving g j s) w h = refl
    urgent-past (Urgent j) w h = place-past (m ∷ []) j i (omega (arith, w.1))
    urgent-past (Long f l s) w h = refl

    pub long-past : (x : Condition) → InsideTable S t x → t.n ≤ i → long_of m x i ≡ []
    long-past Free w h = refl
    long-past (Held s) w h = refl
    long-past (Fresh s) w h = refl
    long-past (Asked g j s) w h = refl
    long-past (Resolving g j s) w h = refl
    long-past (Urgent j) w h = refl
    long-past (Long zero l s) w h = refl
    long-past (Long (suc f) l s) w h = shifted_past (run m l (suc (s - l))) l (run_past m l (suc (s - l))) f i (omega (arith, w.1))

    pub asked-past : (g : ℕ) (x : Condition) → InsideTable S t x → S.m ≤ i → asked_of g m x i ≡ []
    asked-past g Free w h = refl
    asked-past g (Held s) w h = refl
    asked-past g (Fresh s) w h = refl
    asked-past g (Asked f j s) w h = if_past (eqb f g) (at_place j (at_first (m ∷ [])) i) (λ e. place-past (m ∷ []) j i (omega (arith, w.3)))
    asked-past g (Resolving f j s) w h = refl
    asked-past g (Urgent j) w h = refl
    asked-past g (Long f l s) w h = refl

    pub resolving-past : (g : ℕ) (x : Condition) → InsideTable S t x → t.rq g ≤ i → resolving_of g m x i ≡ []
    resolving-past g Free w h = refl
    resolving-past g (Held s) w h = refl
    resolving-past g (Fresh s) w h = refl
    resolving-past g (Asked f j s) w h = refl
    resolving-past g (Resolving f j s) w h =
        if_past (eqb f g) (at_place j (at_first (m ∷ [])) i) (λ e. place-past (m ∷ []) j i (omega (arith, w.3, h, ap t.rq (eqb-true f g e))))
    resolving-past g (Urgent j) w h = refl
    resolving-past g (Long f l s) w h = refl
