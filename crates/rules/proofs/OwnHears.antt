-- No station of a channel misses itself: it hears its own request in its minislot, alone or in a Collide that contains all its ones, and itself nowhere
-- else. So refusal 12 never comes. Assumes nothing.
use mathlib.Core.Path.{◌≡◌, refl, sym, ap, ◌∙◌}
use mathlib.Core.Bool.{Bool, true, false, not, cond, ◌&&◌}
use mathlib.Core.List.{List, [], ◌∷◌}
use mathlib.Core.Logic.{by_cases, ◌≢◌}
use Prim.Native.Nat.{ℕ, zero, suc, ◌+◌, ◌≤◌, ◌<◌}
use native.Mathlib.Omega.{arith}
use native.Mathlib.Decide.{dec_lt}
use lib.Bits.{bit_or, or_comm}
use lib.Dec.{eqb}
use borrow.Author.Tests.{eqb-true, ne_eqb, eqb-false}
use Rattle.pattern.specs.Ones.{contains_ones}
use Rattle.pattern.specs.Patterns.{word_of}
use Rattle.pattern.proofs.Ones.{or-contains, or_assoc}
use Rattle.pattern.proofs.Patterns.{pattern-below}
use Rattle.requests.specs.Together.{together}
use Rattle.listlaws.specs.Lists.{keep_if, only_if}
use Rattle.rules.specs.Messages.{of_by, short_record, long_record}
use Rattle.rules.specs.Hearing.{words_of}
use Rattle.rules.specs.StationLimits.{Condition, Free, Held, Fresh, Asked, Resolving, Urgent, Long, records_apart}
use Rattle.rules.specs.OwnHearing.{own_minislot, own_total, hears_here, hears_elsewhere, hears_at, hears_from}
use Rattle.rules.proofs.Views.{Sender, sender_at, eqb_self}
use Rattle.rules.proofs.Clauses.{hearing}
use Rattle.rules.proofs.Shared.{gather, asked_sender, asked_pair, asked_row}
use Rattle.rules.proofs.Census.{gather-of}
use Rattle.rules.proofs.AskedRows.{asked-own}
use Rattle.rules.proofs.WireRows.{leaves, minislot_row, gather_pairs, Indexes}
use Rattle.rules.proofs.Records.{holder, holder-short, holder-long}
use Rattle.rules.proofs.Parting.{asks_in, apart-parted}

abbrev keyed : ℕ → List Sender → List Sender
keyed k l = of_by (λ s. s.position) k l

-- a sender's word is a part of what all leave
part_of : (ix : ℕ → ℕ) (k : ℕ) (x : Sender) (l : List Sender) → keyed k l ≡ x ∷ [] → (b : ℕ) × ((leaves ix l).word ≡ bit_or (word_of (ix k)) b)
unfolding together
part_of ix k x [] e = let z : ◌≡◌ {A = ℕ} 0 1 = cc in absurd (omega arith)
part_of ix k x (y ∷ l) e = go (eqb y.position k) refl e (part_of ix k x l)
  where
    go : (c : Bool) → eqb y.position k ≡ c → keep_if c y (keyed k l) ≡ x ∷ [] → (keyed k l ≡ x ∷ [] → (b : ℕ) × ((leaves ix l).word ≡ bit_or (word_of (ix k)) b))
        → (b : ℕ) × (bit_or (word_of (ix y.position)) (leaves ix l).word ≡ bit_or (word_of (ix k)) b)
    go true w e ih = ((leaves ix l).word, ap (λ (i : ℕ). bit_or (word_of (ix i)) (leaves ix l).word) (eqb-true y.position k w))
    go false w e ih =
        let (b, q) = ih e in (
          bit_or (word_of (ix y.position)) b,
          ap (bit_or (word_of (ix y.position))) q ∙ sym (or_assoc (word_of (ix y.position)) (word_of (ix k)) b)
              ∙ ap (λ (a : ℕ). bit_or a b) (or_comm (word_of (ix y.position)) (word_of (ix k))) ∙ or_assoc (word_of (ix k)) (word_of (ix y.position)) b,
        )

-- ---- a record's own minislot: asked there, and nowhere else in the group

own-mine : (g j r : ℕ) (c : Condition) → 1 ≤ j → eqb j (own_minislot g c) ≡ true → asked_sender g j r c ≡ sender_at r (own_total c) ∷ []
own-mine g j r Free lo w = let z : j ≡ 0 = eqb-true j 0 w in absurd (omega arith)
own-mine g j r (Held t) lo w = let z : j ≡ 0 = eqb-true j 0 w in absurd (omega arith)
own-mine g j r (Fresh t) lo w = let z : j ≡ 0 = eqb-true j 0 w in absurd (omega arith)
own-mine g j r (Asked h i t) lo w = at (eqb h g) w
  where
    at : (b : Bool) → eqb j (cond b i 0) ≡ true → only_if b (only_if (eqb i j) (sender_at r t ∷ [])) ≡ sender_at r t ∷ []
    at true w = rw (eqb-true j i w, eqb_self i)
    at false w = let z : j ≡ 0 = eqb-true j 0 w in absurd (omega arith)
own-mine g j r (Resolving h i t) lo w = let z : j ≡ 0 = eqb-true j 0 w in absurd (omega arith)
own-mine g j r (Urgent i) lo w = let z : j ≡ 0 = eqb-true j 0 w in absurd (omega arith)
own-mine g j r (Long f l t) lo w = let z : j ≡ 0 = eqb-true j 0 w in absurd (omega arith)

own-other : (g j r : ℕ) (c : Condition) → eqb j (own_minislot g c) ≡ false → asked_sender g j r c ≡ []
own-other g j r Free w = refl
own-other g j r (Held t) w = refl
own-other g j r (Fresh t) w = refl
own-other g j r (Asked h i t) w = at (eqb h g) w
  where
    at : (b : Bool) → eqb j (cond b i 0) ≡ false → only_if b (only_if (eqb i j) (sender_at r t ∷ [])) ≡ []
    at true w = rw (ne_eqb i j (λ e. eqb-false j i w (sym e)))
    at false w = refl
own-other g j r (Resolving h i t) w = refl
own-other g j r (Urgent i) w = refl
own-other g j r (Long f l t) w = refl

-- a record that listens is asked in the group, and one that is not asked there sends nothing there
own-asks : (g : ℕ) (c : Condition) → eqb (own_minislot g c) 0 ≡ false → asks_in g c ≡ true
own-asks g Free w = sym w
own-asks g (Held t) w = sym w
own-asks g (Fresh t) w = sym w
own-asks g (Asked h i t) w = at (eqb h g) w
  where
    at : (b : Bool) → eqb (cond b i 0) 0 ≡ false → b ≡ true
    at true w = refl
    at false w = sym w
own-asks g (Resolving h i t) w = sym w
own-asks g (Urgent i) w = sym w
own-asks g (Long f l t) w = sym w

not-asked : (g j r : ℕ) (c : Condition) → (asks_in g c ≡ true → ⊥) → asked_sender g j r c ≡ []
not-asked g j r Free n = refl
not-asked g j r (Held t) n = refl
not-asked g j r (Fresh t) n = refl
not-asked g j r (Asked h i t) n = at (eqb h g) n
  where
    at : (b : Bool) → (b ≡ true → ⊥) → only_if b (only_if (eqb i j) (sender_at r t ∷ [])) ≡ []
    at true n = absurd (n refl)
    at false n = refl
not-asked g j r (Resolving h i t) n = refl
not-asked g j r (Urgent i) n = refl
not-asked g j r (Long f l t) n = refl

module _ (ix : ℕ → ℕ) (K k : ℕ) (I : Indexes ix K) (here : k < K) where
  -- the index that a record sends
  abbrev jx : ℕ → ℕ
  jx r = ix (holder r)

  -- the request of its record r among the senders
  hears-here : (r t : ℕ) (l : List Sender) → holder r ≡ k → keyed r l ≡ sender_at r t ∷ [] → hears_here (ix k) t (leaves jx l).word (hearing jx l) ≡ true
  hears-here r t [] q e = cc
  hears-here r t (x ∷ []) q e = go (eqb x.position r) e
    where
      go : (b : Bool) → keep_if b x [] ≡ sender_at r t ∷ [] → (eqb (ix (holder x.position)) (ix k) && eqb x.value t) ≡ true
      go true e = let z : x ≡ sender_at r t = cc in rw (z, q, eqb_self (ix k), eqb_self t)
      go false e = cc
  hears-here r t (x ∷ y ∷ l) q e =
      let (b, w) = part_of jx r (sender_at r t) (x ∷ y ∷ l) e in
      ap (λ (w : ℕ). contains_ones w (word_of (ix k))) (w ∙ ap (λ (i : ℕ). bit_or (word_of (ix i)) b) q) ∙ or-contains 12 (word_of (ix k)) b (pattern-below (ix k) (I.below k here))

  -- no request of its own among the senders
  hears-elsewhere : (l : List Sender) → keyed (short_record k) l ≡ [] → keyed (long_record k) l ≡ [] → ((i : ℕ) → short_record K ≤ i → keyed i l ≡ []) → hears_elsewhere (ix k) (hearing jx l) ≡ true
  hears-elsewhere [] e f o = refl
  hears-elsewhere (x ∷ []) e f o = go (eqb (ix (holder x.position)) (ix k)) refl
    where
      below : x.position < short_record K
      below =
          by_cases (dec_lt x.position (short_record K)) (λ l. l)
          (λ l. let z : ◌≡◌ {A = ℕ} 0 1 = cc (o x.position (omega arith), eqb_self x.position) in absurd (omega arith))

      none : (r : ℕ) → keyed r (x ∷ []) ≡ [] → x.position ≢ r
      none r e w = let z : ◌≡◌ {A = ℕ} 0 1 = cc (e, eqb_self r, w) in omega arith

      other : holder x.position ≡ k → ⊥
      other w =
          let a : x.position ≢ k + k = none (short_record k) e in
          let b : x.position ≢ suc (k + k) = none (long_record k) f in
          omega arith

      go : (b : Bool) → eqb (ix (holder x.position)) (ix k) ≡ b → not b ≡ true
      go true w = absurd (other (I.distinct (holder x.position) k (omega (arith, below)) here (eqb-true (ix (holder x.position)) (ix k) w)))
      go false w = refl
  hears-elsewhere (x ∷ y ∷ l) e f o = refl

  -- one minislot of group g, by the records' conditions
  module _ (condition : ℕ → Condition) (outside : (i : ℕ) → short_record K ≤ i → condition i ≡ Free) (apart : records_apart (condition (short_record k)) (condition (long_record k)) ≡ true) (g : ℕ) where
    abbrev senders_in : ℕ → List Sender
    senders_in j = gather (λ i. asked_sender g j i (condition i)) (short_record K)

    list_all : (j i : ℕ) → keyed i (senders_in j) ≡ asked_sender g j i (condition i)
    list_all j i = gather-of (λ s. s.position) (λ i. asked_sender g j i (condition i)) (λ a b. asked-own g j a b (condition a)) (short_record K) (λ i l. rw (outside i l)) i

    none : (j i : ℕ) → short_record K ≤ i → keyed i (senders_in j) ≡ []
    none j i l = list_all j i ∙ rw (outside i l)

    -- the record that listens, and the other one, which sends nothing in the group
    by_record : (r o j : ℕ) → 1 ≤ j → holder r ≡ k → asked_sender g j o (condition o) ≡ []
        → (asked_sender g j r (condition r) ≡ [] → hears_elsewhere (ix k) (hearing jx (senders_in j)) ≡ true)
        → hears_at (ix k) (own_minislot g (condition r)) (own_total (condition r)) j (leaves jx (senders_in j)).word (hearing jx (senders_in j)) ≡ true
    by_record r o j lo q n away = go (eqb j (own_minislot g (condition r))) refl
      where
        go : (b : Bool) → eqb j (own_minislot g (condition r)) ≡ b
            → cond b (hears_here (ix k) (own_total (condition r)) (leaves jx (senders_in j)).word (hearing jx (senders_in j))) (hears_elsewhere (ix k) (hearing jx (senders_in j))) ≡ true
        go true w = hears-here r (own_total (condition r)) (senders_in j) q (list_all j r ∙ own-mine g j r (condition r) lo w)
        go false w = away (own-other g j r (condition r) w)

    -- the record that is asked in the group, as specs/OwnHearing has it
    abbrev pub listening : Condition
    listening = cond (eqb (own_minislot g (condition (short_record k))) 0) (condition (long_record k)) (condition (short_record k))

    hears-at : (j : ℕ) → 1 ≤ j → hears_at (ix k) (own_minislot g listening) (own_total listening) j (leaves jx (senders_in j)).word (hearing jx (senders_in j)) ≡ true
    hears-at j lo = go (eqb (own_minislot g (condition (short_record k))) 0) refl
      where
        elsewhere : asked_sender g j (short_record k) (condition (short_record k)) ≡ [] → asked_sender g j (long_record k) (condition (long_record k)) ≡ [] → hears_elsewhere (ix k) (hearing jx (senders_in j)) ≡ true
        elsewhere a b = hears-elsewhere (senders_in j) (list_all j (short_record k) ∙ a) (list_all j (long_record k) ∙ b) (none j)

        go : (b : Bool) → eqb (own_minislot g (condition (short_record k))) 0 ≡ b
            → hears_at (ix k) (own_minislot g (cond b (condition (long_record k)) (condition (short_record k)))) (own_total (cond b (condition (long_record k)) (condition (short_record k)))) j
            (leaves jx (senders_in j)).word (hearing jx (senders_in j)) ≡ true
        go true w =
            let z : own_minislot g (condition (short_record k)) ≡ 0 = eqb-true _ 0 w in
            let n : asked_sender g j (short_record k) (condition (short_record k)) ≡ [] = own-other g j (short_record k) (condition (short_record k)) (ne_eqb j _ (λ e. omega (arith, e))) in
            by_record (long_record k) (short_record k) j lo (holder-long k) n (elsewhere n)
        go false w =
            let p = apart-parted (condition (short_record k)) (condition (long_record k)) apart in
            let n : asked_sender g j (long_record k) (condition (long_record k)) ≡ [] =
            not-asked g j (long_record k) (condition (long_record k)) (p.asked g (own-asks g (condition (short_record k)) w)) in
            by_record (short_record k) (long_record k) j lo (holder-short k) n (λ m. elsewhere m n)

    -- the whole row
    pub hears-row : (n j : ℕ) → 1 ≤ j
        → hears_from (ix k) (own_minislot g listening) (own_total listening) j (words_of (minislot_row jx K (asked_pair g condition) n j)) (asked_row jx (short_record K) condition g n j) ≡ true
    hears-row zero j lo = refl
    hears-row (suc n) j lo = rw (gather_pairs (λ i. asked_sender g j i (condition i)) K, hears-at j lo) (hears-row n (suc j) (omega arith))
