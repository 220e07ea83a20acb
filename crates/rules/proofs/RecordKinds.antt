-- The kinds of a station's two records: the short one's message has one slot and is never long, the long one's has more and is never urgent. So in a slot
-- at most one of the two sends a segment, and at most one asks. Assumes nothing.
use mathlib.Core.Path.{◌≡◌, refl, sym, ap, ◌∙◌}
use mathlib.Core.Bool.{Bool, true, false, not}
use mathlib.Core.List.{[], ◌∷◌}
use mathlib.Core.Logic.{◌⊎◌, inl, inr, ◌≢◌}
use mathlib.Core.Option.{Option, none, some}
use Prim.Native.Nat.{ℕ, zero, suc, ◌≤◌, ◌<◌}
use native.Mathlib.Omega.{arith}
use lib.Dec.{eqb, ltb}
use borrow.Author.Tests.{eq-eqb, ne_eqb, lt-ltb, ltb-true, eqb-true, eqb-false}
use Rattle.listlaws.specs.Lists.{only_if}
use Rattle.rules.specs.Calls.{Start}
use Rattle.rules.specs.Messages.{Message, short_record, long_record, record_of}
use Rattle.rules.specs.Requesting.{requests}
use Rattle.rules.specs.StationLimits.{Condition, Free, Held, Fresh, Asked, Resolving, Urgent, Long, short_within, long_within}
use Rattle.rules.specs.Stepping.{is_fresh}
use Rattle.rules.proofs.Clauses.{sends_by, sends_in, request_sender}
use Rattle.rules.proofs.Parting.{no_true, stands_in, Parted}
use Rattle.rules.proofs.Records.{is_long_record, kind_short, kind_long, kind-of}
use Rattle.rules.proofs.Relation.{Fits}
use Rattle.rules.proofs.Views.{sender_at}

-- a message by the record that holds it
pub one-slot : (m : Message) (k : ℕ) → record_of m ≡ short_record k → m.slots ≡ 1
one-slot m k e = go (eqb m.slots 1) refl (sym (kind-of m) ∙ ap is_long_record e ∙ kind_short k)
  where
    go : (b : Bool) → eqb m.slots 1 ≡ b → not b ≡ false → m.slots ≡ 1
    go true w q = eqb-true m.slots 1 w
    go false w q = absurd (no_true (sym q))

pub more-slots : (m : Message) (k : ℕ) → record_of m ≡ long_record k → m.slots ≢ 1
more-slots m k e = go (eqb m.slots 1) refl (sym (kind-of m) ∙ ap is_long_record e ∙ kind_long k)
  where
    go : (b : Bool) → eqb m.slots 1 ≡ b → not b ≡ true → m.slots ≢ 1
    go true w q = absurd (no_true q)
    go false w q = eqb-false m.slots 1 w

-- so its condition is of the record's kind
pub fits-short : (S : Start) (m : Message) (k : ℕ) (c : Condition) → record_of m ≡ short_record k → Fits S m c → short_within c ≡ true
unfolding short_within
fits-short S m k Free e f = refl
fits-short S m k (Held t) e f = eq-eqb t 1 (f ∙ one-slot m k e)
fits-short S m k (Fresh t) e f = eq-eqb t 1 (f ∙ one-slot m k e)
fits-short S m k (Asked g j t) e f = eq-eqb t 1 (f.0 ∙ one-slot m k e)
fits-short S m k (Resolving g i t) e f = eq-eqb t 1 (f.0 ∙ one-slot m k e)
fits-short S m k (Urgent i) e f = refl
fits-short S m k (Long x l t) e f = absurd (omega (arith, f.0, f.4, one-slot m k e))

more_than : (S : Start) (m : Message) (k t : ℕ) → record_of m ≡ long_record k → 1 ≤ m.slots → t ≡ m.slots → ltb 1 t ≡ true
more_than S m k t e lo q = let w : m.slots ≢ 1 = more-slots m k e in lt-ltb 1 t (omega arith)

pub fits-long : (S : Start) (m : Message) (k : ℕ) (c : Condition) → record_of m ≡ long_record k → 1 ≤ m.slots → Fits S m c → long_within c ≡ true
unfolding long_within
fits-long S m k Free e lo f = refl
fits-long S m k (Held t) e lo f = more_than S m k t e lo f
fits-long S m k (Fresh t) e lo f = more_than S m k t e lo f
fits-long S m k (Asked g j t) e lo f = more_than S m k t e lo f.0
fits-long S m k (Resolving g i t) e lo f = more_than S m k t e lo f.0
fits-long S m k (Urgent i) e lo f = absurd (more-slots m k e f.0)
fits-long S m k (Long x l t) e lo f = more_than S m k t e lo f.0

-- ---- data: an urgent or open turn is the short record's, a long one the long record's

short-silent : (n r : ℕ) (a : Condition) → short_within a ≡ true → sends_by zero (suc n) r a ≡ 0
unfolding short_within
short-silent n r Free e = refl
short-silent n r (Held t) e = refl
short-silent n r (Fresh t) e = refl
short-silent n r (Asked g j t) e = refl
short-silent n r (Resolving g i t) e = refl
short-silent n r (Urgent i) e = refl
short-silent n r (Long f l t) e = absurd (no_true e)

long-silent : (h n r : ℕ) (b : Condition) → long_within b ≡ true → sends_by (suc h) n r b ≡ 0
unfolding long_within
long-silent h n r Free e = refl
long-silent h n r (Held t) e = refl
long-silent h n r (Fresh t) e = refl
long-silent h n r (Asked g j t) e = refl
long-silent h n r (Resolving g i t) e = refl
long-silent h n r (Urgent i) e = absurd (no_true e)
long-silent h n r (Long f l t) e = refl

pub long_open : (r : ℕ) (b : Condition) → long_within b ≡ true → sends_by zero zero r b ≡ 0
unfolding long_within
long_open r Free e = refl
long_open r (Held t) e = refl
long_open zero (Fresh t) e = let w : 1 < t = ltb-true 1 t e in rw (ne_eqb t 1 (λ q. omega arith))
long_open (suc r) (Fresh t) e = refl
long_open r (Asked g j t) e = refl
long_open r (Resolving g i t) e = refl
long_open r (Urgent i) e = refl
long_open r (Long f l t) e = refl

pub one-sends : (o : Option ℕ) (h n r : ℕ) (a b : Condition) → short_within a ≡ true → long_within b ≡ true → (sends_in o h n r a ≡ 0) ⊎ (sends_in o h n r b ≡ 0)
one-sends (some x) h n r a b p q = inl refl
one-sends none (suc h) n r a b p q = inr (long-silent h n r b q)
one-sends none zero (suc n) r a b p q = inl (short-silent n r a p)
one-sends none zero zero r a b p q = inr (long_open r b q)

-- a fresh message of the long record sends nothing
pub fresh-silent : (o : Option ℕ) (h n r : ℕ) (b : Condition) → long_within b ≡ true → is_fresh b ≡ true → sends_in o h n r b ≡ 0
fresh-silent (some x) h n r b q f = refl
fresh-silent none h n r Free q f = absurd (no_true f)
fresh-silent none h n r (Held t) q f = absurd (no_true f)
fresh-silent none (suc h) n r (Fresh t) q f = refl
fresh-silent none zero (suc n) r (Fresh t) q f = refl
fresh-silent none zero zero r (Fresh t) q f = long_open r (Fresh t) q
fresh-silent none h n r (Asked g j t) q f = absurd (no_true f)
fresh-silent none h n r (Resolving g i t) q f = absurd (no_true f)
fresh-silent none h n r (Urgent i) q f = absurd (no_true f)
fresh-silent none h n r (Long x l t) q f = absurd (no_true f)

-- ---- requests: if the short record asks, the long one does not

-- with a place in the resolution queue only its first ones ask
pub resolving-one : (g r : ℕ) (a : Condition) → requests (suc r) g a ≡ true → stands_in g 1 a ≡ true
unfolding requests
resolving-one g r Free e = absurd (no_true e)
resolving-one g r (Held t) e = absurd (no_true e)
resolving-one g r (Fresh t) e = absurd (no_true (sym (ne_eqb (suc r) 0 (λ q. omega arith)) ∙ e))
resolving-one g r (Asked h j t) e = absurd (no_true e)
resolving-one g r (Resolving h i t) e = rw (lt-ltb 0 (suc r) (omega arith)) at e
resolving-one g r (Urgent i) e = absurd (no_true e)
resolving-one g r (Long f l t) e = absurd (no_true e)

fresh-one : (g : ℕ) (a : Condition) → requests zero g a ≡ true → is_fresh a ≡ true
unfolding requests
fresh-one g Free e = absurd (no_true e)
fresh-one g (Held t) e = absurd (no_true e)
fresh-one g (Fresh t) e = refl
fresh-one g (Asked h j t) e = absurd (no_true e)
fresh-one g (Resolving h i t) e = absurd (no_true e)
fresh-one g (Urgent i) e = absurd (no_true e)
fresh-one g (Long f l t) e = absurd (no_true e)

pub one-asks : (r g pick j k : ℕ) (a b : Condition) → Parted a b → requests r g a ≡ true → request_sender (is_fresh a) r g pick j k b ≡ []
one-asks r g pick j k a Free p e = refl
one-asks r g pick j k a (Held t) p e = refl
one-asks zero g pick j k a (Fresh t) p e = rw (fresh-one g a e)
one-asks (suc r) g pick j k a (Fresh t) p e = refl
one-asks r g pick j k a (Asked h i t) p e = refl
one-asks zero g pick j k a (Resolving h i t) p e = refl
one-asks (suc r) g pick j k a (Resolving h i t) p e = go (eqb h g) refl (eqb i 1) refl
  where
    go : (x : Bool) → eqb h g ≡ x → (y : Bool) → eqb i 1 ≡ y → only_if x (only_if y (only_if (eqb pick j) (sender_at k t ∷ []))) ≡ []
    go true w true v = absurd (p.place g 1 (resolving-one g r a e) (rw (w, v)))
    go true w false v = refl
    go false w y v = refl
one-asks r g pick j k a (Urgent i) p e = refl
one-asks r g pick j k a (Long f l t) p e = refl
