-- A table's lists of places beside its stations: each place is named as often as messages stand there, and lies inside its queue if every record is within
-- its limits; and as many stations stand at a resolution place as messages, since the two records of one never share it. Assumes nothing.
use mathlib.Core.Path.{◌≡◌, refl, sym, ap, subst, ◌∙◌}
use mathlib.Core.Bool.{Bool, true, false, cond, ◌&&◌, ◌||◌, beq}
use mathlib.Core.List.{List, [], ◌∷◌, ◌++◌, append-nil}
use Prim.Native.Nat.{ℕ, zero, suc, ◌+◌, ◌≤◌}
use native.Mathlib.Omega.{arith}
use lib.Dec.{eqb, leb}
use borrow.Author.Tests.{eqb-true, leb-true}
use Rattle.rules.specs.declared.Counters.{Counters}
use Rattle.rules.specs.declared.Station.{Station}
use Rattle.std.specs.List.{flat_map}
use Rattle.listlaws.specs.Lists.{only_if}
use Rattle.rules.specs.Limits.{between}
use Rattle.rules.specs.declared.Condition.{Condition}
use Rattle.rules.specs.declared.Condition.TheVariants.{Free, Held, Fresh, Asked, Resolving, Urgent, Long}
use Rattle.rules.specs.StationLimits.{resolution_at, condition_within}
use Rattle.stretches.specs.declared.Stretch.{Stretch}
use Rattle.channel_rules.specs.Soundness.{messages_of, same_numbers, same_marks, same_counters, urgent_place, urgent_places, long_stretch, long_stretches, resolving_place, resolving_places}
use Rattle.channel_rules.specs.SoundMeaning.{at_urgent, covers_long, at_resolving, how_many, how_many_stations}
use Rattle.rules.proofs.Views.{eqb_self, eqb-sym}
use Rattle.rules.proofs.Parting.{stands_in, Parted, apart-parted}
use Rattle.rules.proofs.LimitLaws.{between-bounds, RecordsIn}
use Rattle.rules.proofs.SlotStep.{and_both}
use Rattle.listlaws.proofs.Joining.{gather_append}
use Rattle.places.proofs.Counting.{times, Inside, times-append, inside-append}
use Rattle.stretches.proofs.Counting.{up_from, spread, times-spread, AllLeft}

-- both records of every station are within their limits under the counters c
abbrev pub AllWithin : Counters → List Station → Type 0
AllWithin c [] = Unit {0}
AllWithin c (s ∷ l) = RecordsIn c s.short.condition s.long.condition × AllWithin c l

-- ---- the urgent queue

urgent-inside : (c : Counters) (k : Condition) → condition_within c k ≡ true → Inside c.urgent (urgent_place k)
unfolding condition_within
urgent-inside c Free e = tt
urgent-inside c (Held t) e = tt
urgent-inside c (Fresh t) e = tt
urgent-inside c (Asked g j t) e = tt
urgent-inside c (Resolving g i t) e = tt
urgent-inside c (Urgent i) e = let (a, b) = between-bounds 1 i c.urgent e in (a, b, tt)
urgent-inside c (Long f l t) e = tt

pub urgents_inside : (c : Counters) (l : List Station) → AllWithin c l → Inside c.urgent (urgent_places (messages_of l))
urgents_inside c [] w = tt
urgents_inside c (s ∷ l) w =
    inside-append c.urgent (urgent_place s.short.condition) (urgent_place s.long.condition ++ urgent_places (messages_of l)) (urgent-inside c s.short.condition w.0.short)
    (inside-append c.urgent (urgent_place s.long.condition) (urgent_places (messages_of l)) (urgent-inside c s.long.condition w.0.long) (urgents_inside c l w.1))

urgent-times : (i : ℕ) (k : Condition) → times i (urgent_place k) ≡ cond (at_urgent i k) 1 0
urgent-times i Free = refl
urgent-times i (Held t) = refl
urgent-times i (Fresh t) = refl
urgent-times i (Asked g j t) = refl
urgent-times i (Resolving g j t) = refl
urgent-times i (Urgent j) = omega arith
urgent-times i (Long f l t) = refl

pub urgents_times : (i : ℕ) (l : List Station) → times i (urgent_places (messages_of l)) ≡ how_many (at_urgent i) l
urgents_times i [] = refl
urgents_times i (s ∷ l) =
    times-append i (urgent_place s.short.condition) (urgent_place s.long.condition ++ urgent_places (messages_of l))
    ∙ rw (times-append i (urgent_place s.long.condition) (urgent_places (messages_of l)), urgent-times i s.short.condition, urgent-times i s.long.condition, urgents_times i l)

-- ---- the long queue

up-inside : (N f l : ℕ) → 1 ≤ f → f + l ≤ N + 1 → Inside N (up_from f l)
up-inside N f zero lo hi = tt
up-inside N f (suc l) lo hi = (lo, omega arith, up-inside N (suc f) l (omega arith) (omega arith))

pub long-parts : (c : Counters) (f l t : ℕ) → condition_within c (Long f l t) ≡ true → (1 ≤ f) × (1 ≤ l) × (f + l ≤ c.long + 1) × (l ≤ 255)
unfolding condition_within
long-parts c f l t e =
    let (x, y) = and_both (between 2 t 255 && between 1 l t && leb 1 f) (leb (f + l) (c.long + 1)) e in
    let (u, v) = and_both (between 2 t 255 && between 1 l t) (leb 1 f) x in
    let (p, q) = and_both (between 2 t 255) (between 1 l t) u in
    let (_, few) = between-bounds 2 t 255 p in
    let (some, most) = between-bounds 1 l t q in
    (leb-true 1 f v, some, leb-true (f + l) (c.long + 1) y, omega arith)

long-inside : (c : Counters) (k : Condition) → condition_within c k ≡ true → Inside c.long (flat_map spread (long_stretch k))
long-inside c Free e = tt
long-inside c (Held t) e = tt
long-inside c (Fresh t) e = tt
long-inside c (Asked g j t) e = tt
long-inside c (Resolving g i t) e = tt
long-inside c (Urgent i) e = tt
long-inside c (Long f l t) e = let (a, b, d, most) = long-parts c f l t e in inside-append c.long (up_from f l) [] (up-inside c.long f l a d) tt

pub longs_inside : (c : Counters) (l : List Station) → AllWithin c l → Inside c.long (flat_map spread (long_stretches (messages_of l)))
longs_inside c [] w = tt
longs_inside c (s ∷ l) w =
    rw (
      gather_append spread (long_stretch s.short.condition) (long_stretch s.long.condition ++ long_stretches (messages_of l)),
      gather_append spread (long_stretch s.long.condition) (long_stretches (messages_of l)),
    )
    (inside-append c.long (flat_map spread (long_stretch s.short.condition)) _ (long-inside c s.short.condition w.0.short)
    (inside-append c.long (flat_map spread (long_stretch s.long.condition)) (flat_map spread (long_stretches (messages_of l))) (long-inside c s.long.condition w.0.long) (longs_inside c l w.1)))

left-append : (a b : List Stretch) → AllLeft a → AllLeft b → AllLeft (a ++ b)
left-append [] b p q = q
left-append (s ∷ a) b p q = (p.0, left-append a b p.1 q)

long-left : (c : Counters) (k : Condition) → condition_within c k ≡ true → AllLeft (long_stretch k)
long-left c Free e = tt
long-left c (Held t) e = tt
long-left c (Fresh t) e = tt
long-left c (Asked g j t) e = tt
long-left c (Resolving g i t) e = tt
long-left c (Urgent i) e = tt
long-left c (Long f l t) e = ((long-parts c f l t e).1, tt)

pub longs_left : (c : Counters) (l : List Station) → AllWithin c l → AllLeft (long_stretches (messages_of l))
longs_left c [] w = tt
longs_left c (s ∷ l) w =
    left-append (long_stretch s.short.condition) (long_stretch s.long.condition ++ long_stretches (messages_of l)) (long-left c s.short.condition w.0.short)
    (left-append (long_stretch s.long.condition) (long_stretches (messages_of l)) (long-left c s.long.condition w.0.long) (longs_left c l w.1))

long-times : (i : ℕ) (k : Condition) → times i (flat_map spread (long_stretch k)) ≡ cond (covers_long i k) 1 0
long-times i Free = refl
long-times i (Held t) = refl
long-times i (Fresh t) = refl
long-times i (Asked g j t) = refl
long-times i (Resolving g j t) = refl
long-times i (Urgent j) = refl
long-times i (Long f l t) = ap (times i) (append-nil (up_from f l)) ∙ times-spread (record { first = f; left = l }) i

pub longs_times : (i : ℕ) (l : List Station) → times i (flat_map spread (long_stretches (messages_of l))) ≡ how_many (covers_long i) l
longs_times i [] = refl
longs_times i (s ∷ l) =
    ap (times i)
    (gather_append spread (long_stretch s.short.condition) (long_stretch s.long.condition ++ long_stretches (messages_of l))
    ∙ ap (λ (z : List ℕ). flat_map spread (long_stretch s.short.condition) ++ z) (gather_append spread (long_stretch s.long.condition) (long_stretches (messages_of l))))
    ∙ times-append i (flat_map spread (long_stretch s.short.condition)) _
    ∙ rw (
      times-append i (flat_map spread (long_stretch s.long.condition)) (flat_map spread (long_stretches (messages_of l))),
      long-times i s.short.condition,
      long-times i s.long.condition,
      longs_times i l,
    )

-- ---- a resolution queue

resolving-inside : (c : Counters) (g : ℕ) (k : Condition) → condition_within c k ≡ true → Inside (resolution_at c g) (resolving_place g k)
unfolding condition_within
resolving-inside c g Free e = tt
resolving-inside c g (Held t) e = tt
resolving-inside c g (Fresh t) e = tt
resolving-inside c g (Asked h j t) e = tt
resolving-inside c g (Resolving h i t) e = go (eqb h g) refl
  where
    go : (b : Bool) → eqb h g ≡ b → Inside (resolution_at c g) (only_if b (i ∷ []))
    go true w =
        let (x, y) = and_both (between 1 h c.groups && between 1 i (resolution_at c h)) (between 1 t 255) e in
        let (u, v) = and_both (between 1 h c.groups) (between 1 i (resolution_at c h)) x in
        let (a, b) = between-bounds 1 i (resolution_at c h) v in
        (a, subst (λ (z : ℕ). i ≤ resolution_at c z) (eqb-true h g w) b, tt)
    go false w = tt
resolving-inside c g (Urgent i) e = tt
resolving-inside c g (Long f l t) e = tt

pub resolvings_inside : (c : Counters) (g : ℕ) (l : List Station) → AllWithin c l → Inside (resolution_at c g) (resolving_places g (messages_of l))
resolvings_inside c g [] w = tt
resolvings_inside c g (s ∷ l) w =
    inside-append (resolution_at c g) (resolving_place g s.short.condition) (resolving_place g s.long.condition ++ resolving_places g (messages_of l)) (resolving-inside c g s.short.condition w.0.short)
    (inside-append (resolution_at c g) (resolving_place g s.long.condition) (resolving_places g (messages_of l)) (resolving-inside c g s.long.condition w.0.long) (resolvings_inside c g l w.1))

resolving-times : (g i : ℕ) (k : Condition) → times i (resolving_place g k) ≡ cond (at_resolving g i k) 1 0
resolving-times g i Free = refl
resolving-times g i (Held t) = refl
resolving-times g i (Fresh t) = refl
resolving-times g i (Asked h j t) = refl
resolving-times g i (Resolving h j t) = go (eqb h g)
  where
    go : (b : Bool) → times i (only_if b (j ∷ [])) ≡ cond (b && eqb i j) 1 0
    go true = omega arith
    go false = refl
resolving-times g i (Urgent j) = refl
resolving-times g i (Long f l t) = refl

pub resolvings_times : (g i : ℕ) (l : List Station) → times i (resolving_places g (messages_of l)) ≡ how_many (at_resolving g i) l
resolvings_times g i [] = refl
resolvings_times g i (s ∷ l) =
    times-append i (resolving_place g s.short.condition) (resolving_place g s.long.condition ++ resolving_places g (messages_of l))
    ∙ rw (
      times-append i (resolving_place g s.long.condition) (resolving_places g (messages_of l)),
      resolving-times g i s.short.condition,
      resolving-times g i s.long.condition,
      resolvings_times g i l,
    )

-- a station's two records never stand at one place, so its messages there are counted as its stations are
resolving-stands : (g i : ℕ) (k : Condition) → at_resolving g i k ≡ stands_in g i k
resolving-stands g i Free = refl
resolving-stands g i (Held t) = refl
resolving-stands g i (Fresh t) = refl
resolving-stands g i (Asked h j t) = refl
resolving-stands g i (Resolving h j t) = ap (λ (b : Bool). eqb h g && b) (eqb-sym i j)
resolving-stands g i (Urgent j) = refl
resolving-stands g i (Long f l t) = refl

pub stations-messages : (c : Counters) (g i : ℕ) (l : List Station) → AllWithin c l → how_many (at_resolving g i) l ≡ how_many_stations (at_resolving g i) l
stations-messages c g i [] w = refl
stations-messages c g i (s ∷ l) w =
    rw (resolving-stands g i s.short.condition, resolving-stands g i s.long.condition, stations-messages c g i l w.1)
    (go (stands_in g i s.short.condition) (stands_in g i s.long.condition) (p.place g i))
  where
    p : Parted s.short.condition s.long.condition
    p = apart-parted s.short.condition s.long.condition w.0.apart

    go : (a b : Bool) → (a ≡ true → b ≡ true → ⊥) → cond a 1 0 + (cond b 1 0 + how_many_stations (at_resolving g i) l) ≡ cond (a || b) 1 0 + how_many_stations (at_resolving g i) l
    go true true h = absurd (h refl refl)
    go true false h = omega arith
    go false b h = omega arith

-- ---- counters that are equal, as a test

numbers_eq : (a b : List ℕ) → same_numbers a b ≡ true → a ≡ b
numbers_eq [] [] e = refl
numbers_eq [] (y ∷ b) e = cc
numbers_eq (x ∷ a) [] e = cc
numbers_eq (x ∷ a) (y ∷ b) e =
    let (p, q) = and_both (eqb x y) (same_numbers a b) e in
    rw (eqb-true x y p, numbers_eq a b q)

numbers_self : (a : List ℕ) → same_numbers a a ≡ true
numbers_self [] = refl
numbers_self (x ∷ a) = rw (eqb_self x) (numbers_self a)

beq_eq : (a b : Bool) → beq a b ≡ true → a ≡ b
beq_eq true true e = refl
beq_eq true false e = sym e
beq_eq false true e = e
beq_eq false false e = refl

beq_self : (a : Bool) → beq a a ≡ true
beq_self true = refl
beq_self false = refl

marks_eq : (a b : List Bool) → same_marks a b ≡ true → a ≡ b
marks_eq [] [] e = refl
marks_eq [] (y ∷ b) e = cc
marks_eq (x ∷ a) [] e = cc
marks_eq (x ∷ a) (y ∷ b) e =
    let (p, q) = and_both (beq x y) (same_marks a b) e in
    rw (beq_eq x y p, marks_eq a b q)

marks_self : (a : List Bool) → same_marks a a ≡ true
marks_self [] = refl
marks_self (x ∷ a) = rw (beq_self x) (marks_self a)

abbrev pub counters_from : ℕ → ℕ → ℕ → ℕ → ℕ → List ℕ → List Bool → List ℕ → ℕ → Counters
counters_from m n g h l r o c p =
    record { minislots = m; groups = n; next = g; urgent = h; long = l; resolution = r; opened = o; calendar = c; position = p }

pub counters-cong : (m m' n n' g g' h h' l l' : ℕ) (r r' : List ℕ) (o o' : List Bool) (c c' : List ℕ) (p p' : ℕ)
    → m ≡ m' → n ≡ n' → g ≡ g' → h ≡ h' → l ≡ l' → r ≡ r' → o ≡ o' → c ≡ c' → p ≡ p'
    → counters_from m n g h l r o c p ≡ counters_from m' n' g' h' l' r' o' c' p'
counters-cong m m' n n' g g' h h' l l' r r' o o' c c' p p' q₁ q₂ q₃ q₄ q₅ q₆ q₇ q₈ q₉ = rw (q₁, q₂, q₃, q₄, q₅, q₆, q₇, q₈, q₉)

pub counters_eq : (a b : Counters) → same_counters a b ≡ true → a ≡ b
unfolding same_counters
counters_eq a b e =
    let t₁ = eqb a.minislots b.minislots in
    let t₂ = eqb a.groups b.groups in
    let t₃ = eqb a.next b.next in
    let t₄ = eqb a.urgent b.urgent in
    let t₅ = eqb a.long b.long in
    let t₆ = same_numbers a.resolution b.resolution in
    let t₇ = same_marks a.opened b.opened in
    let t₈ = same_numbers a.calendar b.calendar in
    let x8 = and_both (t₁ && t₂ && t₃ && t₄ && t₅ && t₆ && t₇ && t₈) (eqb a.position b.position) e in
    let x7 = and_both (t₁ && t₂ && t₃ && t₄ && t₅ && t₆ && t₇) t₈ x8.0 in
    let x6 = and_both (t₁ && t₂ && t₃ && t₄ && t₅ && t₆) t₇ x7.0 in
    let x5 = and_both (t₁ && t₂ && t₃ && t₄ && t₅) t₆ x6.0 in
    let x4 = and_both (t₁ && t₂ && t₃ && t₄) t₅ x5.0 in
    let x3 = and_both (t₁ && t₂ && t₃) t₄ x4.0 in
    let x2 = and_both (t₁ && t₂) t₃ x3.0 in
    let x1 = and_both t₁ t₂ x2.0 in
    counters-cong a.minislots b.minislots a.groups b.groups a.next b.next a.urgent b.urgent a.long b.long a.resolution b.resolution a.opened b.opened
    a.calendar b.calendar a.position b.position
    (eqb-true a.minislots b.minislots x1.0) (eqb-true a.groups b.groups x1.1) (eqb-true a.next b.next x2.1) (eqb-true a.urgent b.urgent x3.1)
    (eqb-true a.long b.long x4.1) (numbers_eq a.resolution b.resolution x5.1) (marks_eq a.opened b.opened x6.1)
    (numbers_eq a.calendar b.calendar x7.1) (eqb-true a.position b.position x8.1)

pub counters_self : (a : Counters) → same_counters a a ≡ true
unfolding same_counters
counters_self a =
    rw (
      eqb_self a.minislots,
      eqb_self a.groups,
      eqb_self a.next,
      eqb_self a.urgent,
      eqb_self a.long,
      numbers_self a.resolution,
      marks_self a.opened,
      numbers_self a.calendar,
      eqb_self a.position,
    )
