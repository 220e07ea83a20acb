-- A row of the wire: what the stations asked in each of its minislots left there, and what is read of it. By minislot's law of senders.
-- Assumes nothing.
use mathlib.Core.Path.{◌≡◌, refl, sym, ap, ◌∙◌}
use mathlib.Core.List.{List, [], ◌∷◌, ◌++◌, map, append_assoc}
use mathlib.Core.Logic.{◌⊎◌, inl, inr}
use Prim.Native.Nat.{ℕ, zero, suc, ◌+◌, ◌≤◌, ◌<◌}
use native.Mathlib.Omega.{arith}
use lib.ListN.{length, take, get_or}
use Rattle.minislot.specs.declared.Minislot.{Minislot}
use Rattle.minislot.specs.declared.Feedback.{Feedback}
use Rattle.minislot.specs.declared.Reading.TheVariants.{Heard}
use Rattle.minislot.specs.Click.{Click}
use Rattle.minislot.specs.Reading.{reading_of}
use Rattle.rows.specs.Row.{readings, first_number, feedbacks}
use Rattle.requests.specs.Together.{Request, carries, together, spoken, Apart, Proper}
use Rattle.requests.proofs.Senders.{together-reads, no_click}
use Rattle.rules.specs.Hearing.{words_of, counts_of}
use Rattle.rules.specs.Messages.{short_record, long_record}
use Rattle.rules.proofs.Views.{Sender}
use Rattle.rules.proofs.Clauses.{hearing}
use Rattle.rules.proofs.Shared.{collect, gather, pair_of}

-- the request of a sender, by the table's indexes, and what senders leave in a minislot
abbrev pub as_request : (ℕ → ℕ) → Sender → Request
as_request ix s = record { index = ix s.position; total = s.value }

abbrev pub leaves : (ℕ → ℕ) → List Sender → Minislot
leaves ix l = together (map carries (map (as_request ix) l))

-- a row of n minislots from j on, of the stations' requests in each
abbrev pub minislot_row : (ℕ → ℕ) → ℕ → (ℕ → ℕ → List Sender) → ℕ → ℕ → List Minislot
minislot_row ix K f zero j = []
minislot_row ix K f (suc n) j = leaves ix (gather (f j) K) ∷ minislot_row ix K f n (suc j)

pub length-row : (ix : ℕ → ℕ) (K : ℕ) (f : ℕ → ℕ → List Sender) (n j : ℕ) → length (minislot_row ix K f n j) ≡ n
length-row ix K f zero j = refl
length-row ix K f (suc n) j = ap suc (length-row ix K f n (suc j))

-- the first m of n minislots
pub take_row : (ix : ℕ → ℕ) (K : ℕ) (f : ℕ → ℕ → List Sender) (m n j : ℕ) → m ≤ n → take m (minislot_row ix K f n j) ≡ minislot_row ix K f m j
take_row ix K f zero n j h = refl
take_row ix K f (suc m) zero j h = absurd (omega arith)
take_row ix K f (suc m) (suc n) j h = ap (λ (l : List Minislot). leaves ix (gather (f j) K) ∷ l) (take_row ix K f m n (suc j) (omega arith))

-- minislot i of a row
pub row_at : (ix : ℕ → ℕ) (K : ℕ) (f : ℕ → ℕ → List Sender) (n j i : ℕ) (d : Minislot) → i < n → get_or (minislot_row ix K f n j) i d ≡ leaves ix (gather (f (j + i)) K)
row_at ix K f zero j i d h = absurd (omega arith)
row_at ix K f (suc n) j zero d h = ap (λ (x : ℕ). leaves ix (gather (f x) K)) (omega arith)
row_at ix K f (suc n) j (suc i) d h = row_at ix K f n (suc j) i d (omega arith) ∙ ap (λ (x : ℕ). leaves ix (gather (f x) K)) (omega arith)

-- a walk over the stations, both records of each, is a walk over the records
collect-pairs {ℓ} : {A : Type ℓ} (f : ℕ → List A) (n j : ℕ) → collect (pair_of f) n j ≡ collect f (n + n) (j + j)
collect-pairs f zero j = refl
collect-pairs f (suc n) j =
    append_assoc (f (j + j)) (f (suc (j + j))) (collect (pair_of f) n (suc j))
    ∙ rw (collect-pairs f n (suc j), let e : suc n + suc n ≡ suc (suc (n + n)) = omega arith in e, let e : suc j + suc j ≡ suc (suc (j + j)) = omega arith in e)

pub gather_pairs {ℓ} : {A : Type ℓ} (f : ℕ → List A) (K : ℕ) → gather (pair_of f) K ≡ gather f (short_record K)
gather_pairs f K = collect-pairs f K 0

-- rows of equal requests are equal
collect-cong : (f g : ℕ → List Sender) → ((k : ℕ) → f k ≡ g k) → (n j : ℕ) → collect f n j ≡ collect g n j
collect-cong f g h zero j = refl
collect-cong f g h (suc n) j = rw (h j, collect-cong f g h n (suc j))

pub pair-cong : {f g : ℕ → List Sender} → ((r : ℕ) → f r ≡ g r) → (k : ℕ) → pair_of f k ≡ pair_of g k
pair-cong h k = rw (h (short_record k), h (long_record k))

pub row-cong : (ix : ℕ → ℕ) (K : ℕ) (f g : ℕ → ℕ → List Sender) → ((j k : ℕ) → f j k ≡ g j k) → (n j : ℕ) → minislot_row ix K f n j ≡ minislot_row ix K g n j
row-cong ix K f g h zero j = refl
row-cong ix K f g h (suc n) j = rw (collect-cong (f j) (g j) (h j) K 0, row-cong ix K f g h n (suc j))

-- ---- what is read

-- the station of an index sends nothing, or one request of a slot or more, whichever of its records asks
abbrev pub AsksOnce : (ℕ → ℕ) → ℕ → List Sender → Type 0
AsksOnce jx i l = (l ≡ []) ⊎ ((x : Sender) × (jx x.position ≡ i) × (1 ≤ x.value) × (l ≡ x ∷ []))

-- the indexes of the stations below K: patterns' indexes, each once
pub record Indexes (ix : ℕ → ℕ) (K : ℕ) : Type 0 where
  pub below : (k : ℕ) → k < K → ix k < 924
  pub distinct : (i k : ℕ) → i < K → k < K → ix i ≡ ix k → i ≡ k

spoken-is : (ix : ℕ → ℕ) (l : List Sender) → spoken (map (as_request ix) l) ≡ hearing ix l
spoken-is ix [] = refl
spoken-is ix (x ∷ []) = refl
spoken-is ix (x ∷ y ∷ l) = refl

module _ (ix jx : ℕ → ℕ) (K : ℕ) (I : Indexes ix K) (f : ℕ → List Sender) (once : (k : ℕ) → AsksOnce jx (ix k) (f k)) where
  apart : (k n j : ℕ) → k < j → j + n ≤ K → Apart (ix k) (map (as_request jx) (collect f n j))
  apart k zero j h l = tt
  apart k (suc n) j h l = go (f j) (once j) (apart k n (suc j) (omega arith) (omega arith))
    where
      go : (x : List Sender) → AsksOnce jx (ix j) x → Apart (ix k) (map (as_request jx) (collect f n (suc j))) → Apart (ix k) (map (as_request jx) (x ++ collect f n (suc j)))
      go x (inl e) ih = rw e ih
      go x (inr (v, q, lo, e)) ih = rw e ((λ w. let z : j ≡ k = I.distinct j k (omega arith) (omega arith) (sym q ∙ w) in omega arith), ih)

  proper : (n j : ℕ) → j + n ≤ K → Proper (map (as_request jx) (collect f n j))
  proper zero j l = tt
  proper (suc n) j l = go (f j) (once j) (proper n (suc j) (omega arith))
    where
      go : (x : List Sender) → AsksOnce jx (ix j) x → Proper (map (as_request jx) (collect f n (suc j))) → Proper (map (as_request jx) (x ++ collect f n (suc j)))
      go x (inl e) ih = rw e ih
      go x (inr (v, q, lo, e)) ih =
          rw (e, q) (I.below j (omega arith), lo, apart j n (suc j) (omega arith) (omega arith), ih)

  pub minislot-reads : reading_of (leaves jx (gather f K)).word (leaves jx (gather f K)).count ≡ Heard (hearing jx (gather f K))
  minislot-reads = together-reads (map (as_request jx) (gather f K)) (proper K 0 (omega arith)) ∙ ap Heard (spoken-is jx (gather f K))

  pub minislot_no_click : Click (leaves jx (gather f K)).word → ⊥
  minislot_no_click = no_click (map (as_request jx) (gather f K)) (proper K 0 (omega arith))

-- a row of it
module _ (ix jx : ℕ → ℕ) (K : ℕ) (I : Indexes ix K) (f : ℕ → ℕ → List Sender) (once : (j k : ℕ) → AsksOnce jx (ix k) (f j k)) where
  abbrev pub feedback_row : ℕ → ℕ → List Feedback
  feedback_row zero j = []
  feedback_row (suc n) j = hearing jx (gather (f j) K) ∷ feedback_row n (suc j)

  pub row_reads : (n j : ℕ) → readings (words_of (minislot_row jx K f n j)) (counts_of (minislot_row jx K f n j)) ≡ map Heard (feedback_row n j)
  unfolding readings
  row_reads zero j = refl
  row_reads (suc n) j = rw (minislot-reads ix jx K I (f j) (once j), row_reads n (suc j))

pub heard-number : (l : List Feedback) → first_number (map Heard l) ≡ 0
unfolding first_number
heard-number [] = refl
heard-number (f ∷ l) = heard-number l

pub heard-feedbacks : (l : List Feedback) → feedbacks (map Heard l) ≡ l
unfolding feedbacks
heard-feedbacks [] = refl
heard-feedbacks (f ∷ l) = ap (λ (x : List Feedback). f ∷ x) (heard-feedbacks l)
