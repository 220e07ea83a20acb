-- A part has no comma: if a list has one part only, that part is the list, and otherwise the first part is shorter. So a list of two parts or
-- more is no word that has no comma.
-- Assumes nothing.
use mathlib.Core.Bool.{Bool, true, false, cond, true≢false, false≢true}
use mathlib.Core.Path.{◌≡◌, refl, ap}
use mathlib.Core.List.{List, [], ◌∷◌}
use Prim.Native.Nat.{ℕ, ◌<◌}
use native.Mathlib.Omega.{arith}
use borrow.Author.Tests.{eqb-true}
use lib.Dec.{eqb}
use lib.ListN.{length}
use Rattle.fields.specs.Fields.{onto, parts}
use Rattle.fields.specs.Steps.{none}
use Rattle.number_lists.proofs.ListLaws.{and_both}
use Rattle.prefixes.specs.Prefix.{prefixed, is_word}

-- a list beside its parts
abbrev pub Parted : List ℕ → List (List ℕ) → Type 0
Parted l [] = ⊥
Parted l (p ∷ []) = l ≡ p
Parted l (p ∷ q ∷ qs) = length p < length l

-- a byte in front, which is a comma or not
front : (t : Bool) (b : ℕ) (l : List ℕ) (ps : List (List ℕ)) → Parted l ps → Parted (b ∷ l) (cond t ([] ∷ ps) (onto b ps))
unfolding onto
front t b l [] h = absurd h
front true b l (p ∷ ps) h = omega arith
front false b l (p ∷ []) h = ap (λ (k : List ℕ). b ∷ k) h
front false b l (p ∷ q ∷ ps) h = omega arith

pub parted : (l : List ℕ) → Parted l (parts l)
unfolding parts
parted [] = refl
parted (b ∷ l) = front (eqb b 44) b l (parts l) (parted l)

-- where more parts come, the list is longer than the first
pub first-shorter : (l p : List ℕ) (qs : List (List ℕ)) → parts l ≡ p ∷ qs → none qs ≡ false → length p < length l
unfolding none
first-shorter l p [] e n = absurd (true≢false n)
first-shorter l p (q ∷ qs) e n = rw e at (parted l)

-- a list that passes a word's test is the word
prefix_same : (word l : List ℕ) → length l ≡ length word → prefixed word l ≡ true → l ≡ word
unfolding prefixed
prefix_same [] [] n e = refl
prefix_same [] (b ∷ l) n e = absurd (omega arith)
prefix_same (w ∷ word) [] n e = absurd (false≢true e)
prefix_same (w ∷ word) (b ∷ l) n e =
    let t = and_both (eqb b w) (prefixed word l) e in
    rw (eqb-true b w t.0, prefix_same word l (omega arith) t.1)

word_same : (word l : List ℕ) → is_word word l ≡ true → l ≡ word
unfolding is_word
word_same word l e =
    let t = and_both (eqb (length l) (length word)) (prefixed word l) e in
    prefix_same word l (eqb-true _ _ t.0) t.1

pub not-word : (word l p q : List ℕ) (qs : List (List ℕ)) → parts word ≡ word ∷ [] → parts l ≡ p ∷ q ∷ qs → is_word word l ≡ false
not-word word l p q qs w e = go (is_word word l) refl
  where
    go : (t : Bool) → is_word word l ≡ t → is_word word l ≡ false
    go true f =
        let s : l ≡ word = word_same word l f in
        let z : ◌≡◌ {A = ℕ} 0 1 = cc in
        absurd (omega arith)
    go false f = f
