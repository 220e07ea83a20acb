-- What stations send, gathered one station after the other: the new row request by request, the data senders counted, and a lone one's index and segment.
-- Assumes nothing.
use mathlib.Core.Path.{◌≡◌, refl, ap, ◌∙◌}
use mathlib.Core.Bool.{cond}
use mathlib.Core.List.{List, [], ◌∷◌, ◌++◌, map, append-nil, map-append}
use Prim.Native.Nat.{ℕ, zero, suc, ◌+◌, ◌≤◌, ◌<◌}
use native.Mathlib.Omega.{arith}
use lib.Dec.{eqb}
use lib.ListN.{length, get_or, set}
use borrow.Author.Tests.{ne_eqb, eq-eqb}
use Rattle.minislot.specs.declared.Minislot.{Minislot}
use Rattle.requests.specs.Together.{Request, carries, silent, joined, together, placed}
use Rattle.requests.proofs.Senders.{joined_comm, joined-silent, together-append}
use Rattle.rules.specs.declared.Station.{Station}
use Rattle.rules.specs.declared.StationSlot.{StationSlot}
use Rattle.rules.specs.declared.SlotAnswer.{SlotAnswer}
use Rattle.rules.specs.declared.SlotAnswer.TheVariants.{Went as WentSlot, Refused as RefusedSlot}
use Rattle.listlaws.specs.Lists.{only_if}
use Rattle.channel_rules.specs.ChannelCalls.{slots_of, request_in, requests_in, new_row, DataSent, data_in, data_sent, lone_index, lone_segment}
use Rattle.listlaws.proofs.Joining.{gather-last}

-- ---- the stations' slots, one by one

pub slots_length : (words counts : List ℕ) (l : List Station) (picks : List ℕ) → length picks ≡ length l → length (slots_of words counts l picks) ≡ length l
slots_length words counts [] picks e = refl
slots_length words counts (s ∷ l) [] e = absurd (omega arith)
slots_length words counts (s ∷ l) (x ∷ picks) e = ap suc (slots_length words counts l picks (omega arith))

-- ---- what some senders leave, and one more

lone : (a : Minislot) → together (a ∷ []) ≡ a
unfolding together
lone a = joined_comm a silent ∙ joined-silent a

pub together-last : (l : List Request) (r : Request) → together (map carries (l ++ (r ∷ []))) ≡ joined (together (map carries l)) (carries r)
together-last l r = ap together (map-append carries l (r ∷ [])) ∙ together-append (map carries l) (carries r ∷ []) ∙ ap (joined (together (map carries l))) (lone (carries r))

-- ---- the new row, request by request

abbrev pub request_as : StationSlot → Request
request_as r = record { index = r.station.index; total = r.request }

-- one minislot, by the request of one station more
one_more_lem : (results : List StationSlot) (r : StationSlot) (j : ℕ) → requests_in j (results ++ (r ∷ [])) ≡ requests_in j results ++ request_in j r r.answer
one_more_lem results r j = gather-last (λ (x : StationSlot). request_in j x x.answer) results r

row_same : (results : List StationSlot) (r : StationSlot) → ((j : ℕ) → 1 ≤ j → request_in j r r.answer ≡ []) → (n i : ℕ) → 1 ≤ i → new_row (results ++ (r ∷ [])) n i ≡ new_row results n i
row_same results r h zero i lo = refl
row_same results r h (suc n) i lo =
    rw (one_more_lem results r i, h i lo, append-nil (requests_in i results), row_same results r h n (suc i) (omega arith))

-- the station's request stands in minislot i + k
row-set : (results : List StationSlot) (r : StationSlot) (n i k : ℕ) → k < n → ((j : ℕ) → request_in j r r.answer ≡ only_if (eqb (i + k) j) (request_as r ∷ []))
    → new_row (results ++ (r ∷ [])) n i ≡ set (new_row results n i) k (joined (get_or (new_row results n i) k silent) (carries (request_as r)))
row-set results r zero i k h e = absurd (omega arith)
row-set results r (suc n) i zero h e =
    rw (one_more_lem results r i, e i, eq-eqb (i + 0) i (omega arith), together-last (requests_in i results) (request_as r))
    (ap (λ (l : List Minislot). joined (together (map carries (requests_in i results))) (carries (request_as r)) ∷ l) (past n (suc i) (omega arith)))
  where
    past : (n j : ℕ) → i < j → new_row (results ++ (r ∷ [])) n j ≡ new_row results n j
    past zero j w = refl
    past (suc n) j w = rw (one_more_lem results r j, e j, ne_eqb (i + 0) j (λ q. omega arith), append-nil (requests_in j results), past n (suc j) (omega arith))
row-set results r (suc n) i (suc k) h e =
    rw (one_more_lem results r i, e i, ne_eqb (i + suc k) i (λ q. omega arith), append-nil (requests_in i results))
    (ap (λ (l : List Minislot). together (map carries (requests_in i results)) ∷ l)
    (row-set results r n (suc i) k (omega arith) (λ j. e j ∙ ap (λ (x : ℕ). only_if (eqb x j) (request_as r ∷ [])) (let w : i + suc k ≡ suc i + k = omega arith in w))))

-- a minislot of a request is one of eight
abbrev pub InRow : SlotAnswer → Type 0
InRow (WentSlot turn minislot segment) = minislot ≤ 8
InRow (RefusedSlot n) = Unit {0}

-- the row by one station more: its request is placed
abbrev pub written : StationSlot → SlotAnswer → List Minislot → List Minislot
written r (WentSlot turn minislot segment) row = placed minislot (carries (request_as r)) row
written r (RefusedSlot n) row = row

pub row_more : (results : List StationSlot) (r : StationSlot) → InRow r.answer → new_row (results ++ (r ∷ [])) 8 1 ≡ written r r.answer (new_row results 8 1)
row_more results r w = go r.answer refl w
  where
    went : (minislot : ℕ) → minislot ≤ 8 → ((j : ℕ) → request_in j r r.answer ≡ only_if (eqb minislot j) (request_as r ∷ []))
        → new_row (results ++ (r ∷ [])) 8 1 ≡ placed minislot (carries (request_as r)) (new_row results 8 1)
    went zero h e = row_same results r (λ j lo. e j ∙ rw (ne_eqb 0 j (λ q. omega arith))) 8 1 (omega arith)
    went (suc k) h e =
        row-set results r 8 1 k (omega arith) (λ j. e j ∙ ap (λ (x : ℕ). only_if (eqb x j) (request_as r ∷ [])) (let v : suc k ≡ 1 + k = omega arith in v))

    go : (a : SlotAnswer) → r.answer ≡ a → InRow a → new_row (results ++ (r ∷ [])) 8 1 ≡ written r a (new_row results 8 1)
    go (WentSlot turn minislot segment) e w = went minislot w (λ j. ap (request_in j r) e)
    go (RefusedSlot n) e w = row_same results r (λ j lo. ap (request_in j r) e) 8 1 (omega arith)

-- ---- the data senders

pub data_more : (results : List StationSlot) (r : StationSlot) → data_sent (results ++ (r ∷ [])) ≡ data_sent results ++ data_in r r.answer
data_more results r = gather-last (λ (x : StationSlot). data_in x x.answer) results r

-- a lone sender is alone as long as no other has sent
pub lone_index-more : (l : List DataSent) (x : DataSent) → lone_index (l ++ (x ∷ [])) ≡ cond (eqb (length l) 0) x.index 0
lone_index-more [] x = refl
lone_index-more (y ∷ []) x = refl
lone_index-more (y ∷ z ∷ l) x = rw (ne_eqb (suc (suc (length l))) 0 (λ e. omega arith))

pub lone_segment-more : (l : List DataSent) (x : DataSent) → lone_segment (l ++ (x ∷ [])) ≡ cond (eqb (length l) 0) x.segment 0
lone_segment-more [] x = refl
lone_segment-more (y ∷ []) x = refl
lone_segment-more (y ∷ z ∷ l) x = rw (ne_eqb (suc (suc (length l))) 0 (λ e. omega arith))
