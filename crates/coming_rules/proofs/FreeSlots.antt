-- The calendar's slots that no stream owns (paper 02, T-07): how they are counted from one slot to the next, and that the number of slots
-- until so many places are served is the first that has so many of them. After 24 slots the calendar stands where it stood, so whole rounds
-- count alike, and the r-th free slot of a round, from 0, has r free ones before it. Assumes nothing.
use mathlib.Core.Path.{◌≡◌, refl, ap, sym, ◌∙◌}
use mathlib.Core.Bool.{Bool, true, false, cond}
use mathlib.Core.List.{List, [], ◌∷◌, ◌++◌}
use Prim.Native.Nat.{ℕ, zero, suc, ◌+◌, ◌-◌, ◌*◌, ◌/◌, ◌%◌, ◌≤◌, ◌<◌}
use native.Mathlib.Numerals.{add-one, one-add}
use native.Mathlib.Nat.{add-suc, add-zero, zero-add, zero-mul, suc-mul, mod-lt, div-add-mod', div-le_self}
use native.Mathlib.Omega.{arith}
use borrow.Author.Tests.{eqb-true, eqb-false, eq-eqb, ltb-true, ltb-false}
use lib.Dec.{eqb, ltb, eqb-suc-zero}
use lib.ListN.{length, get_or, length-append, get_or-append}
use lib.Seq.{get_or_at}
use Rattle.listlaws.specs.Lists.{only_if}
use Rattle.rules.specs.Calendars.{free_entry, position_after, some_free}
use Rattle.coming_rules.specs.Planned.{position_in, entry_in, free_in, free_slots, planned_until}

-- ---- positions: so many slots further on

position-add : (p k i : ℕ) → position_in p (k + i) ≡ position_in (position_in p k) i
position-add p k zero = ap (position_in p) (add-zero k)
position-add p k (suc i) = ap (position_in p) (add-suc k i) ∙ ap position_after (position-add p k i)

pub position-next : (p i : ℕ) → position_in p (suc i) ≡ position_in (position_after p) i
position-next p zero = refl
position-next p (suc i) = ap position_after (position-next p i)

pub entry_next : (cal : List ℕ) (p i : ℕ) → entry_in cal p (suc i) ≡ entry_in cal (position_after p) i
entry_next cal p i = ap (λ (k : ℕ). get_or cal k free_entry) (position-next p i)

-- a position moves round the 24
pub position_mod : (p : ℕ) → p ≤ 23 → (i : ℕ) → position_in p i ≡ (p + i) % 24
position_mod p h zero = omega arith
position_mod p h (suc i) = ap position_after (position_mod p h i) ∙ go (eqb ((p + i) % 24) 23) refl
  where
    go : (b : Bool) → eqb ((p + i) % 24) 23 ≡ b → position_after ((p + i) % 24) ≡ (p + suc i) % 24
    go true w = let e : (p + i) % 24 ≡ 23 = eqb-true _ _ w in rw w (omega arith)
    go false w = let e : (p + i) % 24 ≡ 23 → ⊥ = eqb-false _ _ w in rw w (omega arith)

pub position-within : (p : ℕ) → p ≤ 23 → (i : ℕ) → position_in p i ≤ 23
position-within p h i = omega (arith, position_mod p h i)

-- after whole rounds it is where it was
position-rounds : (p : ℕ) → p ≤ 23 → (q o : ℕ) → position_in p (24 * q + o) ≡ position_in p o
position-rounds p h q o =
    let e : (p + (24 * q + o)) % 24 ≡ (p + o) % 24 = omega arith in
    position_mod p h (24 * q + o) ∙ e ∙ sym (position_mod p h o)

-- each position is met within 24 slots
slots_to : ℕ → ℕ → ℕ
slots_to p k = (k + (24 - p)) % 24

slots_to_less : (p k : ℕ) → slots_to p k < 24
unfolding slots_to
slots_to_less p k = omega arith

position_met : (p k : ℕ) → p ≤ 23 → k ≤ 23 → position_in p (slots_to p k) ≡ k
unfolding slots_to
position_met p k h w = position_mod p h ((k + (24 - p)) % 24) ∙ omega arith

-- ---- counting slots that are free

free_one : (cal : List ℕ) (p i : ℕ) → entry_in cal p i ≡ free_entry → free_in cal p (suc i) ≡ free_in cal p i + 1
free_one cal p i e = rw (eq-eqb _ _ e)

pub free-add : (cal : List ℕ) (p k i : ℕ) → free_in cal p (k + i) ≡ free_in cal p k + free_in cal (position_in p k) i
free-add cal p k zero = ap (free_in cal p) (add-zero k) ∙ sym (add-zero (free_in cal p k))
free-add cal p k (suc i) =
    ap (free_in cal p) (add-suc k i)
    ∙ ap (λ (x : ℕ). free_in cal p (k + i) + cond (eqb (get_or cal x free_entry) free_entry) 1 0) (position-add p k i)
    ∙ omega (arith, free-add cal p k i)

pub free-next : (cal : List ℕ) (p n : ℕ) → free_in cal p (suc n) ≡ cond (eqb (entry_in cal p 0) free_entry) 1 0 + free_in cal (position_after p) n
free-next cal p n = ap (free_in cal p) (sym (one-add n)) ∙ free-add cal p 1 n ∙ ap (λ (x : ℕ). x + free_in cal (position_after p) n) (zero-add _)

pub free-rises : (cal : List ℕ) (p i j : ℕ) → i ≤ j → free_in cal p i ≤ free_in cal p j
free-rises cal p i j h =
    let e : i + (j - i) ≡ j = omega arith in
    let w : free_in cal p j ≡ free_in cal p i + free_in cal (position_in p i) (j - i) = ap (free_in cal p) (sym e) ∙ free-add cal p i (j - i) in
    omega arith

pub free-most : (cal : List ℕ) (p n : ℕ) → free_in cal p n ≤ n
free-most cal p zero = omega arith
free-most cal p (suc n) = go (eqb (entry_in cal p n) free_entry) (free-most cal p n)
  where
    go : (b : Bool) → free_in cal p n ≤ n → free_in cal p n + cond b 1 0 ≤ suc n
    go true ih = omega arith
    go false ih = omega arith

-- whole rounds count alike
pub free-rounds : (cal : List ℕ) (p : ℕ) → p ≤ 23 → (q o : ℕ) → free_in cal p (24 * q + o) ≡ q * free_in cal p 24 + free_in cal p o
free-rounds cal p h zero o =
    let e : 24 * 0 + o ≡ o = omega arith in
    ap (free_in cal p) e ∙ omega (arith, zero-mul (free_in cal p 24))
free-rounds cal p h (suc q) o =
    let e : 24 * suc q + o ≡ 24 + (24 * q + o) = omega arith in
    ap (free_in cal p) e
    ∙ free-add cal p 24 (24 * q + o)
    ∙ ap (λ (x : ℕ). free_in cal p 24 + free_in cal x (24 * q + o)) (position-rounds p h 1 0)
    ∙ omega (arith, free-rounds cal p h q o, suc-mul q (free_in cal p 24))

-- some position is free, and 24 slots meet each
free-at : (cal : List ℕ) → some_free cal ≡ true → (k : ℕ) × (k < length cal) × (get_or cal k free_entry ≡ free_entry)
unfolding some_free
free-at [] e = let z : ◌≡◌ {A = ℕ} 0 1 = cc in absurd (omega arith)
free-at (x ∷ l) e = go (eqb x free_entry) refl (free-at l)
  where
    go : (b : Bool) → eqb x free_entry ≡ b → (some_free l ≡ true → (k : ℕ) × (k < length l) × (get_or l k free_entry ≡ free_entry))
        → (k : ℕ) × (k < suc (length l)) × (get_or (x ∷ l) k free_entry ≡ free_entry)
    go true w ih = (0, omega arith, eqb-true _ _ w)
    go false w ih = let h : some_free l ≡ true = (rw w at e) in let r = ih h in (suc r.0, omega arith, r.2)

pub free-some : (cal : List ℕ) (p : ℕ) → p ≤ 23 → length cal ≡ 24 → some_free cal ≡ true → 1 ≤ free_in cal p 24
free-some cal p h w s =
    let k = free-at cal s in
    let l : k.0 ≤ 23 = omega (arith, k.1) in
    let e : entry_in cal p (slots_to p k.0) ≡ free_entry = ap (λ (x : ℕ). get_or cal x free_entry) (position_met p k.0 h l) ∙ k.2 in
    omega (arith, free_one cal p (slots_to p k.0) e, free-rises cal p (suc (slots_to p k.0)) 24 (slots_to_less p k.0))

-- ---- the free slots, one after the other

pub free-length : (cal : List ℕ) (p n : ℕ) → length (free_slots cal p n) ≡ free_in cal p n
free-length cal p zero = refl
free-length cal p (suc n) =
    length-append (free_slots cal p n) _ ∙ go (eqb (entry_in cal p n) free_entry) (free-length cal p n)
  where
    go : (b : Bool) → length (free_slots cal p n) ≡ free_in cal p n → length (free_slots cal p n) + length (only_if b (n ∷ [])) ≡ free_in cal p n + cond b 1 0
    go true ih = omega arith
    go false ih = omega arith

-- a slot of the next n that is free, with r free ones before it
pub record NthFree (cal : List ℕ) (p n r o : ℕ) : Type 0 where
  pub within : o < n
  pub before : free_in cal p o ≡ r
  pub free : entry_in cal p o ≡ free_entry

pub nth_free : (cal : List ℕ) (p n r : ℕ) → r < free_in cal p n → NthFree cal p n r (get_or (free_slots cal p n) r 0)
nth_free cal p zero r h = absurd (omega arith)
nth_free cal p (suc n) r h = go (eqb (entry_in cal p n) free_entry) refl (ltb r (free_in cal p n)) refl (nth_free cal p n r)
  where
    go : (b : Bool) → eqb (entry_in cal p n) free_entry ≡ b → (t : Bool) → ltb r (free_in cal p n) ≡ t
        → (r < free_in cal p n → NthFree cal p n r (get_or (free_slots cal p n) r 0))
        → NthFree cal p (suc n) r (get_or (free_slots cal p (suc n)) r 0)
    go b w true v ih =
        let g : r < free_in cal p n = ltb-true _ _ v in
        let d = ih g in
        let i : r < length (free_slots cal p n) = omega (arith, free-length cal p n) in
        rw (get_or-append (free_slots cal p n) (only_if (eqb (entry_in cal p n) free_entry) (n ∷ [])) 0 r i)
        (record { within = omega (arith, d.within); before = d.before; free = d.free })
    go true w false v ih =
        let g : free_in cal p n ≤ r = ltb-false _ _ v in
        let i : free_in cal p n ≡ r = omega (arith, free_one cal p n (eqb-true _ _ w)) in
        let z : get_or (free_slots cal p n ++ (n ∷ [])) r 0 ≡ n = get_or_at (free_slots cal p n) n [] 0 r (free-length cal p n ∙ i) in
        rw (w, z) (record { within = omega arith; before = i; free = eqb-true _ _ w })
    go false w false v ih =
        let g : free_in cal p n ≤ r = ltb-false _ _ v in
        let i : free_in cal p (suc n) ≡ free_in cal p n + 0 = rw w in
        absurd (omega arith)

-- ---- when so many places are served

-- the closed form over any list of slots
until_list : (l : List ℕ) (f m : ℕ) → length l ≡ f
    → cond (eqb (suc m) 0) 0 (24 * ((suc m - 1) / length l) + get_or l ((suc m - 1) % length l) 0 + 1) ≡ suc (24 * (m / f) + get_or l (m % f) 0)
until_list l f m e =
    let z : suc m - 1 ≡ m = omega arith in
    rw (eqb-suc-zero m, z, e) (add-one (24 * (m / f) + get_or l (m % f) 0))

pub until_none : (cal : List ℕ) (p : ℕ) → planned_until cal p 0 ≡ 0
unfolding planned_until
until_none cal p = refl

module _ (cal : List ℕ) (p : ℕ) (h : p ≤ 23) (w : length cal ≡ 24) (s : some_free cal ≡ true) where
  -- the slot that serves the place after m others: a free one, with m free ones before it
  last-served : ℕ → ℕ
  last-served m = 24 * (m / free_in cal p 24) + get_or (free_slots cal p 24) (m % free_in cal p 24) 0

  last_nth : (m : ℕ) → NthFree cal p 24 (m % free_in cal p 24) (get_or (free_slots cal p 24) (m % free_in cal p 24) 0)
  last_nth m = nth_free cal p 24 (m % free_in cal p 24) (mod-lt m (free-some cal p h w s))

  last-before : (m : ℕ) → free_in cal p (last-served m) ≡ m
  unfolding last-served
  last-before m =
      free-rounds cal p h (m / free_in cal p 24) (get_or (free_slots cal p 24) (m % free_in cal p 24) 0)
      ∙ ap (λ (x : ℕ). m / free_in cal p 24 * free_in cal p 24 + x) (last_nth m).before
      ∙ div-add-mod' m (free_in cal p 24)

  last-free : (m : ℕ) → entry_in cal p (last-served m) ≡ free_entry
  unfolding last-served
  last-free m =
      ap (λ (x : ℕ). get_or cal x free_entry) (position-rounds p h (m / free_in cal p 24) (get_or (free_slots cal p 24) (m % free_in cal p 24) 0))
      ∙ (last_nth m).free

  last-most : (m : ℕ) → last-served m < 24 * suc m
  unfolding last-served
  last-most m = omega (arith, (last_nth m).within, div-le_self m (free_in cal p 24))

  until_last : (m : ℕ) → planned_until cal p (suc m) ≡ suc (last-served m)
  unfolding last-served planned_until
  until_last m = until_list (free_slots cal p 24) (free_in cal p 24) m (free-length cal p 24)

pub until_serves : (cal : List ℕ) (p places : ℕ) → p ≤ 23 → length cal ≡ 24 → some_free cal ≡ true → free_in cal p (planned_until cal p places) ≡ places
until_serves cal p zero h w s = ap (free_in cal p) (until_none cal p)
until_serves cal p (suc m) h w s =
    ap (free_in cal p) (until_last cal p h w s m)
    ∙ free_one cal p (last-served cal p h w s m) (last-free cal p h w s m)
    ∙ omega (arith, last-before cal p h w s m)

pub until_first : (cal : List ℕ) (p places : ℕ) → p ≤ 23 → length cal ≡ 24 → some_free cal ≡ true
    → (j : ℕ) → j < planned_until cal p places → free_in cal p j < places
until_first cal p zero h w s j l = absurd (omega (arith, until_none cal p))
until_first cal p (suc m) h w s j l =
    let e : j ≤ last-served cal p h w s m = omega (arith, until_last cal p h w s m) in
    omega (arith, last-before cal p h w s m, free-rises cal p j (last-served cal p h w s m) e)

pub until_most : (cal : List ℕ) (p places : ℕ) → p ≤ 23 → length cal ≡ 24 → some_free cal ≡ true → planned_until cal p places ≤ 24 * places
until_most cal p zero h w s = omega (arith, until_none cal p)
until_most cal p (suc m) h w s = omega (arith, until_last cal p h w s m, last-most cal p h w s m)
