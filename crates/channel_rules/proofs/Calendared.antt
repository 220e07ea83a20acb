-- A calendar on a table and on the plain channel: the tests of its entries are the same on both sides, and so a channel's calendar is within its limits
-- and its owners stand on the table. And in an owned slot the owner is the one sender, since indexes are distinct. Assumes nothing.
use mathlib.Core.Path.{◌≡◌, refl, sym, ap, subst, ◌∙◌}
use mathlib.Core.Bool.{Bool, true, false, ◌||◌, cond}
use mathlib.Core.List.{List, [], ◌∷◌, ◌++◌, map}
use mathlib.Core.Logic.{◌≢◌}
use mathlib.Core.Option.{none, some}
use Prim.Native.Nat.{ℕ, zero, suc, ◌+◌, ◌≤◌, ◌<◌}
use native.Mathlib.Omega.{arith}
use lib.Dec.{eqb, ltb, leb}
use lib.ListN.{length, get_or}
use borrow.Author.Tests.{eqb-true, eqb-false, ne_eqb, le-leb, lt-ltb, le-ltb, ltb-true, ltb-false}
use Rattle.rules.specs.declared.Station.{Station}
use Rattle.std.specs.List.{list_all}
use Rattle.listlaws.specs.Lists.{only_if}
use Rattle.rules.specs.Calendars.{free_entry, owner_in, entry_within, some_free}
use Rattle.rules.specs.Messages.{short_record}
use Rattle.rules.specs.Plain.{among, on_channel}
use Rattle.rules.proofs.Views.{Sender, sender_at, eqb_self}
use Rattle.rules.proofs.Shared.{collect, gather}
use Rattle.rules.proofs.SlotStep.{and_both}
use Rattle.channel_rules.specs.Soundness.{position_of, is_on_table, entry_on}

-- ---- the tests of entries

-- a table has a station of an index just if the index is among its indexes
pub on-among : (l : List Station) (x : ℕ) → is_on_table l x ≡ among (map (λ (s : Station). s.index) l) x
on-among [] x = refl
on-among (s ∷ l) x = go (eqb s.index x) ∙ ap (λ (b : Bool). eqb s.index x || b) (on-among l x)
  where
    deeper : (b : Bool) → ltb (position_of x l) (length l) ≡ b → ltb (suc (position_of x l)) (suc (length l)) ≡ b
    deeper true e = let w = ltb-true (position_of x l) (length l) e in lt-ltb (suc (position_of x l)) (suc (length l)) (omega arith)
    deeper false e = let w = ltb-false (position_of x l) (length l) e in le-ltb (suc (position_of x l)) (suc (length l)) (omega arith)

    go : (b : Bool) → ltb (cond b 0 (suc (position_of x l))) (suc (length l)) ≡ b || is_on_table l x
    go true = lt-ltb 0 (suc (length l)) (omega arith)
    go false = deeper (is_on_table l x) refl

pub entries-same : (l : List Station) (entries : List ℕ) → list_all (entry_on l) entries ≡ on_channel (map (λ (s : Station). s.index) l) entries
entries-same l [] = refl
entries-same l (x ∷ entries) = rw (on-among l x, entries-same l entries)

pub free-same : (entries : List ℕ) → some_free entries ≡ among entries 65535
unfolding some_free
free-same [] = refl
free-same (x ∷ entries) = ap (λ (b : Bool). eqb x 65535 || b) (free-same entries)

-- an index of the channel is one of the start's
pub among-at : (l : List ℕ) (x : ℕ) → among l x ≡ true → (i : ℕ) × (i < length l) × (get_or l i 0 ≡ x)
among-at [] x e = let z : ◌≡◌ {A = ℕ} 0 1 = cc in absurd (omega arith)
among-at (y ∷ l) x e = go (among-at l x) (eqb y x) refl e
  where
    go : (among l x ≡ true → (i : ℕ) × (i < length l) × (get_or l i 0 ≡ x)) → (b : Bool) → eqb y x ≡ b → (b || among l x) ≡ true
        → (i : ℕ) × (i < suc (length l)) × (get_or (y ∷ l) i 0 ≡ x)
    go ih true w e = (0, omega arith, eqb-true y x w)
    go ih false w e = let (i, h, q) = ih e in (suc i, omega arith, q)

-- so the entries are within their limits
pub entries-within : (indexes entries : List ℕ) → ((i : ℕ) → i < length indexes → get_or indexes i 0 < 924) → on_channel indexes entries ≡ true → list_all entry_within entries ≡ true
entries-within indexes [] b e = refl
entries-within indexes (x ∷ entries) b e =
    let (here, rest) = and_both (eqb x 65535 || among indexes x) (on_channel indexes entries) e in
    rw (go (eqb x 65535) here) (entries-within indexes entries b rest)
  where
    go : (a : Bool) → (a || among indexes x) ≡ true → (a || leb x 923) ≡ true
    go true w = refl
    go false w = let (i, h, q) = among-at indexes x w in let l = b i h in le-leb x 923 (omega arith)

-- and an owner is among the channel's indexes
pub owner-among : (indexes entries : List ℕ) → on_channel indexes entries ≡ true → (i x : ℕ) → owner_in (get_or entries i free_entry) ≡ some x → among indexes x ≡ true
owner-among indexes [] e i x o = let z : ◌≡◌ {A = ℕ} 0 1 = cc in absurd (omega arith)
owner-among indexes (y ∷ entries) e zero x o = go (eqb y 65535) (and_both (eqb y 65535 || among indexes y) (on_channel indexes entries) e).0 o
  where
    go : (a : Bool) → (a || among indexes y) ≡ true → cond a none (some y) ≡ some x → among indexes x ≡ true
    go true w o = let z : ◌≡◌ {A = ℕ} 0 1 = cc in absurd (omega arith)
    go false w o = let z : y ≡ x = cc in subst (λ (v : ℕ). among indexes v ≡ true) z w
owner-among indexes (y ∷ entries) e (suc i) x o = owner-among indexes entries (and_both (eqb y 65535 || among indexes y) (on_channel indexes entries) e).1 i x o

-- ---- the one sender of an owned slot

-- the station of an index, if station k has it; its short record's number stands for it
abbrev pub owner_sends : (ℕ → ℕ) → ℕ → ℕ → List Sender
owner_sends ix x k = only_if (eqb (ix k) x) (sender_at (short_record k) 0 ∷ [])

-- a walk in which nobody sends, and one in which just one station does
none-sends : (f : ℕ → List Sender) (n j : ℕ) → ((k : ℕ) → j ≤ k → k < j + n → f k ≡ []) → collect f n j ≡ []
none-sends f zero j h = refl
none-sends f (suc n) j h = rw (h j (omega arith) (omega arith)) (none-sends f n (suc j) (λ k a b. h k (omega arith) (omega arith)))

one-sends : (f : ℕ → List Sender) (i : ℕ) (v : Sender) → f i ≡ v ∷ [] → (n j : ℕ) → ((k : ℕ) → j ≤ k → k < j + n → k ≢ i → f k ≡ []) → j ≤ i → i < j + n
    → collect f n j ≡ v ∷ []
one-sends f i v e zero j h lo hi = absurd (omega arith)
one-sends f i v e (suc n) j h lo hi = go (one-sends f i v e n (suc j) (λ k a b. h k (omega arith) (omega arith))) (eqb j i) refl
  where
    go : (suc j ≤ i → i < suc j + n → collect f n (suc j) ≡ v ∷ []) → (b : Bool) → eqb j i ≡ b → f j ++ collect f n (suc j) ≡ v ∷ []
    go ih true w =
        let z : j ≡ i = eqb-true j i w in
        rw (none-sends f n (suc j) (λ k a b. h k (omega arith) (omega arith) (λ q. omega arith))) (ap (λ (k : ℕ). f k ++ []) z ∙ rw e)
    go ih false w = let z : j ≢ i = eqb-false j i w in rw (h j (omega arith) (omega arith) z) (ih (omega arith) (omega arith))

pub owner-alone : (ix : ℕ → ℕ) (K x i : ℕ) → ((a b : ℕ) → a < K → b < K → ix a ≡ ix b → a ≡ b) → i < K → ix i ≡ x → gather (owner_sends ix x) K ≡ sender_at (short_record i) 0 ∷ []
owner-alone ix K x i distinct h e =
    one-sends (owner_sends ix x) i (sender_at (short_record i) 0) (rw (e, eqb_self x)) K 0
    (λ k a b ne. rw (ne_eqb (ix k) x (λ q. ne (distinct k i (omega arith) h (q ∙ sym e))))) (omega arith) (omega arith)
