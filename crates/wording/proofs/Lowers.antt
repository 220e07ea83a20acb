-- An index's word has the last upper half with no more patterns before it, and the lower half of the index's rank there: by one test that
-- is computed over the 924 patterns, and carried to each of them.
-- Assumes nothing.
use mathlib.Core.Path.{◌≡◌, refl, ap, ◌∙◌}
use mathlib.Core.Bool.{Bool, true, ◌&&◌, and-eq-true_iff}
use mathlib.Core.List.{List}
use Prim.Native.Nat.{ℕ, ◌+◌, ◌*◌, ◌-◌, ◌/◌, ◌≤◌, ◌<◌}
use native.Mathlib.Omega.{arith}
use borrow.Author.Tests.{eqb-true, leb-true, ltb-true}
use lib.Count.{ones, ones_in}
use lib.Dec.{eqb, leb, ltb}
use lib.ListN.{length, get_or}
use Rattle.listlaws.specs.Every.{every_from}
use Rattle.listlaws.proofs.Table.{every-at}
use Rattle.pattern.specs.Patterns.{patterns, word_of}
use Rattle.pattern.proofs.Patterns.{count_of-patterns}
use Rattle.indexing.specs.Halves.{patterns_before}
use Rattle.wording.specs.Lowers.{reached_of, lowers, firsts, place_of_lower}

pub count_of_uppers : length patterns_before ≡ 64
unfolding patterns_before
count_of_uppers = refl

-- index i reaches the word's upper half and no further, its patterns begin at or before i, and the two halves give the word
halves_of : ℕ → ℕ → Bool
halves_of i w =
    let u = w / 64 in
    let r = i - get_or patterns_before u 0 in
    eqb (reached_of patterns_before i) (u + 1)
    && (leb (get_or patterns_before u 0) i && (ltb (place_of_lower u r) 64 && eqb (u * 64 + get_or lowers (place_of_lower u r) 0) w))

halves_of-each : every_from halves_of 0 patterns ≡ true
unfolding patterns halves_of patterns_before lowers firsts place_of_lower reached_of ones ones_in
halves_of-each = refl

pub word_in_halves : (before : List ℕ) (i n : ℕ) → before ≡ patterns_before → i < 924 → n ≡ reached_of before i
    → (1 ≤ n)
    × (get_or before (n - 1) 0 ≤ i)
    × (place_of_lower (n - 1) (i - get_or before (n - 1) 0) < 64)
    × ((n - 1) * 64 + get_or lowers (place_of_lower (n - 1) (i - get_or before (n - 1) 0)) 0 ≡ word_of i)
unfolding halves_of word_of
word_in_halves before i n b h e =
    let w = every-at halves_of 0 patterns halves_of-each i (rw count_of-patterns h) in
    let o = (and-eq-true_iff _ _).0 w in
    let p = (and-eq-true_iff _ _).0 o.1 in
    let q = (and-eq-true_iff _ _).0 p.1 in
    let k : n ≡ word_of i / 64 + 1 = e ∙ ap (λ (l : List ℕ). reached_of l i) b ∙ eqb-true _ _ o.0 in
    let u : n - 1 ≡ word_of i / 64 = omega (arith, k) in
    rw (u, b) (omega (arith, k), leb-true _ _ p.0, ltb-true _ _ q.0, eqb-true _ _ q.1)

-- a lower half has six digits
count_of-lowers : length lowers ≡ 64
unfolding lowers
count_of-lowers = refl

small : ℕ → ℕ → Bool
small k l = ltb l 64

all_small : every_from small 0 lowers ≡ true
unfolding small lowers
all_small = refl

pub lower-below : (k : ℕ) → k < 64 → get_or lowers k 0 < 64
unfolding small
lower-below k h = ltb-true _ _ (every-at small 0 lowers all_small k (rw count_of-lowers h))
