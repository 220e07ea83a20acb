-- Laws of the segments: the number of each case in the paper's order, and the part that is given.
-- Assumes nothing.
use Prim.Native.Nat.{ℕ, zero, suc, ◌+◌, ◌*◌, ◌-◌, ◌≤◌, ◌<◌, min}
use native.Mathlib.Nat.{zero-add, suc-add}
use native.Mathlib.Omega.{arith}
use mathlib.Core.Path.{◌≡◌, refl, sym, ◌∙◌, ap}
use mathlib.Core.Bool.{Bool, true, false}
use mathlib.Core.List.{List, [], ◌∷◌}
use lib.Dec.{leb}
use lib.ListN.{length, take, drop, length-drop}
use lib.Seq.{take-nil, take_all}
use borrow.Author.Tests.{leb-true, leb-false, le-leb, lt-leb, ne_eqb}
use Rattle.message.specs.Message.{fits_message, slots_for}
use Rattle.segments.specs.Segment.{is_segment, segment_number, cut, segment_of}

-- from n up to n + k, or the end, is k elements from n, or those that are left
pub drop-take : {A : Type 0} (n k : ℕ) (l : List A) → drop n (take (n + k) l) ≡ take k (drop n l)
drop-take zero k l = ap (λ (m : ℕ). take m l) (zero-add k)
drop-take (suc n) k [] = ap (λ (m : List _). drop (suc n) m) (take-nil (suc n + k)) ∙ sym (take-nil k)
drop-take (suc n) k (x ∷ l) = ap (λ (m : ℕ). drop (suc n) (take m (x ∷ l))) (suc-add n k) ∙ drop-take n k l

-- up to n + k or the end, whichever comes first, is the same
pub take_to : {A : Type 0} (n k t : ℕ) (l : List A) → t ≡ min (n + k) (length l) → take (t - n) (drop n l) ≡ take k (drop n l)
take_to n k t l e = go (leb (n + k) (length l)) refl
  where
    go : (b : Bool) → leb (n + k) (length l) ≡ b → take (t - n) (drop n l) ≡ take k (drop n l)
    go true h =
        let z : n + k ≤ length l = leb-true _ _ h in
        let q : t - n ≡ k = omega arith in
        ap (λ (m : ℕ). take m (drop n l)) q
    go false h =
        let z : length l < n + k = leb-false _ _ h in
        take_all (t - n) (drop n l) (omega (arith, length-drop n l)) ∙ sym (take_all k (drop n l) (omega (arith, length-drop n l)))

-- 10 comes first
pub number_size : (bytes j : ℕ) → fits_message bytes ≡ false → segment_number bytes j ≡ 10
unfolding segment_number
number_size bytes j e = rw e

-- then 13 for j 0
pub number-none : (bytes j : ℕ) → fits_message bytes ≡ true → j ≡ 0 → segment_number bytes j ≡ 13
unfolding segment_number is_segment
number-none bytes j e h = rw (e, lt-leb 1 j (omega arith))

-- and for j above the slot total
pub number-over : (bytes j : ℕ) → fits_message bytes ≡ true → slots_for bytes < j → segment_number bytes j ≡ 13
unfolding segment_number is_segment
number-over bytes j e h = rw (e, le-leb 1 j (omega arith), lt-leb j (slots_for bytes) h)

-- 0 for a part given
pub number-given : (bytes j : ℕ) → fits_message bytes ≡ true → 1 ≤ j → j ≤ slots_for bytes → segment_number bytes j ≡ 0
unfolding segment_number is_segment
number-given bytes j e low high = rw (e, le-leb 1 j low, le-leb j (slots_for bytes) high)

-- a refusal hands back an empty part
pub segment-refused : (message : List ℕ) (j : ℕ) → (segment_number (length message) j ≡ 0 → ⊥) → segment_of message j ≡ []
unfolding segment_of
segment-refused message j h = rw (ne_eqb (segment_number (length message) j) 0 h)

-- from 48(j−1) up to 48j, or the end, is 48 bytes from 48(j−1), or those that are left
cut-is : (message : List ℕ) (j : ℕ) → 1 ≤ j → cut message j ≡ take 48 (drop (48 * (j - 1)) message)
unfolding cut
cut-is message j low =
    let e : 48 * j ≡ 48 * (j - 1) + 48 = omega arith in
    ap (λ (m : ℕ). drop (48 * (j - 1)) (take m message)) e ∙ drop-take (48 * (j - 1)) 48 message

-- which is the part given
pub segment-given : (message : List ℕ) (j : ℕ) → segment_number (length message) j ≡ 0 → 1 ≤ j
    → segment_of message j ≡ take 48 (drop (48 * (j - 1)) message)
unfolding segment_of
segment-given message j e low = rw e (cut-is message j low)
