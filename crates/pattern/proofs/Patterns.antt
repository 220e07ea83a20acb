-- The 924 patterns: they rise, have six ones, lie below 4096, and every such word is one of them, once. So a word's index and an index's
-- word are inverse. From the laws on the numbers of a range that pass a test, and the count computed once.
-- Assumes nothing.
use mathlib.Core.Path.{◌≡◌, refl, ap, ◌∙◌, sym, subst}
use Prim.Native.Nat.{ℕ, ◌≤◌, ◌<◌}
use native.Mathlib.Omega.{arith}
use borrow.Author.Tests.{eq-eqb, eqb-true}
use lib.Count.{ones, ones_in}
use lib.ListN.{length, get_or-eq_default}
use Rattle.pattern.specs.Patterns.{six_ones, patterns, word_of, index_of}
use Rattle.pattern.proofs.Ones.{ones-within}
use Rattle.pattern.proofs.Those.{Found, in-range, rises, passes, all_there, place_at, place_none}

pub count_of-patterns : length patterns ≡ 924
unfolding patterns
count_of-patterns = refl

-- ---- the rule of the table, at each index

pub pattern-below : (i : ℕ) → i < 924 → word_of i < 4096
unfolding patterns word_of
pattern-below i h = (in-range six_ones 0 4096 i (rw count_of-patterns h)).1

pub pattern-ones : (i : ℕ) → i < 924 → ones (word_of i) ≡ 6
unfolding patterns word_of six_ones
pattern-ones i h =
    sym (ones-within 12 (word_of i) (pattern-below i h))
    ∙ eqb-true (ones_in 12 (word_of i)) 6 (passes six_ones 0 4096 i (rw count_of-patterns h))

pub patterns_rise : (i j : ℕ) → i < j → j < 924 → word_of i < word_of j
unfolding patterns word_of
patterns_rise i j h q = rises six_ones 0 4096 i j h (rw count_of-patterns q)

-- an index above 923 has no word
pub no_pattern : (i : ℕ) → 924 ≤ i → word_of i ≡ 0
unfolding word_of
no_pattern i h = get_or-eq_default patterns 0 (rw count_of-patterns h)

-- ---- word and index

-- the index of a pattern's word is the pattern's
pub index_of-word : (i : ℕ) → i < 924 → index_of (word_of i) ≡ i
unfolding patterns word_of index_of
index_of-word i h = place_at patterns (rises six_ones 0 4096) i (rw count_of-patterns h)

-- no word stands there twice
pub pattern-once : (i j : ℕ) → i < 924 → j < 924 → word_of i ≡ word_of j → i ≡ j
pattern-once i j hi hj e = sym (index_of-word i hi) ∙ ap index_of e ∙ index_of-word j hj

found : (w : ℕ) → w < 4096 → ones w ≡ 6 → Found patterns w
unfolding patterns six_ones
found w h e =
    all_there six_ones 0 4096 w (omega arith) h (eq-eqb (ones_in 12 w) 6 (ones-within 12 w h ∙ e))

-- each word of twelve digits with six ones is the pattern of its index
pub pattern-of : (w : ℕ) → w < 4096 → ones w ≡ 6 → (index_of w < 924) × (word_of (index_of w) ≡ w)
unfolding word_of
pattern-of w h e =
    let f = found w h e in
    let i : index_of w ≡ f.at = ap index_of (sym f.here) ∙ index_of-word f.at (rw count_of-patterns at f.within) in
    (rw i (rw count_of-patterns at f.within), rw i f.here)

-- any other word has no index
pub no_index : (w : ℕ) → ((w < 4096) × (ones w ≡ 6) → ⊥) → index_of w ≡ 924
unfolding index_of word_of
no_index w other =
    place_none patterns w (λ k h e.
    let q : k < 924 = rw count_of-patterns at h in
    other (subst (λ (x : ℕ). x < 4096) e (pattern-below k q), ap ones (sym e) ∙ pattern-ones k q))
    ∙ count_of-patterns
