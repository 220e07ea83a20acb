-- Numbers as bytes: one store more of the loop that fills the bytes, and that numbers of at most 255 stay what they are.
-- Assumes nothing.
use mathlib.Core.Bool.{true}
use mathlib.Core.Path.{◌≡◌, refl, ap, ◌∙◌}
use mathlib.Core.List.{List, [], ◌∷◌, ◌++◌, map, map-append, append-nil}
use Prim.Native.Nat.{ℕ, zero, suc, ◌+◌, ◌-◌, ◌≤◌, ◌<◌}
use native.Mathlib.Nat.{mod-eq_of_lt}
use native.Mathlib.Numerals.{add-one}
use native.Mathlib.Omega.{arith}
use borrow.Author.Tests.{leb-true, le-leb}
use lib.Dec.{leb}
use lib.ListN.{length, get_or, take, drop, set, replicate, length-map}
use lib.Seq.{sets}
use Rattle.fields.specs.Fields.{every, numeral}
use Rattle.listlaws.specs.Lists.{padded}
use Rattle.listlaws.proofs.Loops.{rest}
use Rattle.number_lists.specs.declared.NumberList.{NumberList}
use Rattle.number_lists.specs.NumberList.{low_byte, list_with}
use Rattle.number_lists.proofs.Listing.{sets-padded}
use Rattle.number_lists.proofs.ListLaws.{and_both, Listed, numbers-within}

-- all of them are to come
pub low-start : (values : List ℕ) → length values ≡ 256 → sets (replicate 256 0) 0 (map low_byte values) ≡ map low_byte values
low-start values e =
    let k : length (map low_byte values) ≡ 256 = length-map values low_byte ∙ e in
    sets-padded 256 (map low_byte values) (omega arith)
    ∙ ap (λ (n : ℕ). map low_byte values ++ replicate (256 - n) 0) k
    ∙ append-nil (map low_byte values)

-- one store more
pub low-next : (bytes values : List ℕ) (i : ℕ) → i < length values
    → sets (set bytes i (low_byte (get_or values i 0))) (i + 1) (map low_byte (drop (i + 1) values)) ≡ sets bytes i (map low_byte (drop i values))
low-next bytes values i h = rw (rest values i 0 h, add-one i)

-- NUMBERS OF AT MOST 255 STAY WHAT THEY ARE
pub low_same : (l : List ℕ) → every (λ (v : ℕ). leb v 255) l ≡ true → map low_byte l ≡ l
unfolding every
low_same [] e = refl
low_same (v ∷ l) e =
    let b = and_both (leb v 255) (every (λ (w : ℕ). leb w 255) l) e in
    let k : v ≤ 255 = leb-true v 255 b.0 in
    rw (mod-eq_of_lt {n = v} {m = 256} (omega arith), low_same l b.1)

-- a list that is answered, read with a `most` of at most 255: all its array stays
within_higher : (a b : ℕ) → a ≤ b → (l : List ℕ) → every (λ (v : ℕ). leb v a) l ≡ true → every (λ (v : ℕ). leb v b) l ≡ true
unfolding every
within_higher a b h [] e = refl
within_higher a b h (v ∷ l) e =
    let t = and_both (leb v a) (every (λ (w : ℕ). leb w a) l) e in
    let k : v ≤ a = leb-true v a t.0 in
    rw (le-leb v b (omega arith)) (within_higher a b h l t.1)

low_zeros : (n : ℕ) → map low_byte (replicate n 0) ≡ replicate n 0
low_zeros zero = refl
low_zeros (suc n) = ap (λ (l : List ℕ). 0 ∷ l) (low_zeros n)

low-padded : (n : ℕ) (l : List ℕ) → map low_byte l ≡ l → map low_byte (padded n 0 l) ≡ padded n 0 l
low-padded n l e = map-append low_byte l (replicate (n - length l) 0) ∙ rw (e, low_zeros (n - length l))

pub low-list : {most : ℕ} {ps : List (List ℕ)} {l : NumberList} → most ≤ 255 → Listed most ps l → map low_byte l.values ≡ l.values
unfolding list_with
low-list {most} {ps} h g =
    rw g.whole (low-padded 256 (map numeral ps) (low_same (map numeral ps) (within_higher most 255 h (map numeral ps) (numbers-within most ps g.list_all))))

-- and so the numbers are in the front of the bytes
pub low-used : {most : ℕ} {ps : List (List ℕ)} {l : NumberList} → most ≤ 255 → Listed most ps l
    → take l.count (map low_byte l.values) ≡ map numeral ps
low-used h g = rw (low-list h g) g.used
