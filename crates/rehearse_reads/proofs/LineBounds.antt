-- How long lines can be: a line whose fields have at most 20 bytes each, as every number of 64 bits has, has at most 21 bytes for a field and
-- 2 more; lines, or runs of lines, that are each within a bound are together within so many times it. By induction on the fields, and on the lines.
-- Assumes nothing.
use mathlib.Core.Path.{◌≡◌}
use mathlib.Core.List.{List, [], ◌∷◌, ◌++◌, map}
use Prim.Native.Nat.{ℕ, zero, suc, ◌+◌, ◌*◌, ◌<◌, ◌≤◌}
use native.Mathlib.Omega.{arith}
use lib.ListN.{length, get_or, length-append}
use Rattle.std.specs.List.{flat_map}
use Rattle.listlaws.specs.Lists.{tabulate}
use Rattle.decimals.specs.Decimal.{digits_of}
use Rattle.decimals.specs.Printing.{record_of}
use Rattle.decimals.proofs.Decimals.{digits-few}
use Rattle.programs.specs.Advancing.{joined}

-- ---- a line

-- fields of at most 20 bytes
abbrev pub Short : List (List ℕ) → Type 0
Short [] = Unit {0}
Short (f ∷ fs) = (length f ≤ 20) × Short fs

pub line-within : (fields : List (List ℕ)) → Short fields → length (record_of fields) ≤ 21 * length fields + 2
unfolding record_of
line-within [] s = omega arith
line-within (f ∷ []) s = omega (arith, length-append f (13 ∷ 10 ∷ []), s.0)
line-within (f ∷ g ∷ fs) s = omega (arith, length-append f (44 ∷ record_of (g ∷ fs)), s.0, line-within (g ∷ fs) s.1)

-- a number of 64 bits
abbrev pub In64 : ℕ → Type 0
In64 n = n ≤ 18446744073709551615

abbrev pub AllIn64 : List ℕ → Type 0
AllIn64 [] = Unit {0}
AllIn64 (n ∷ l) = In64 n × AllIn64 l

pub number_short : (n : ℕ) → In64 n → length (digits_of n) ≤ 20
number_short n h = digits-few 19 n (omega arith)

pub numbers-short : (l : List ℕ) → AllIn64 l → Short (map digits_of l)
numbers-short [] h = tt
numbers-short (n ∷ l) h = (number_short n h.0, numbers-short l h.1)

-- ---- lines, each within a bound

pub joined-two : (a b : List (List ℕ)) → length (joined (a ++ b)) ≡ length (joined a) + length (joined b)
joined-two [] b = omega arith
joined-two (l ∷ a) b = omega (arith, length-append l (joined (a ++ b)), length-append l (joined a), joined-two a b)

module _ (most : ℕ) where
  pub gathered-within : {A : Type 0} (lines : A → List (List ℕ)) (d : A) (l : List A) → ((k : ℕ) → k < length l → length (joined (lines (get_or l k d))) ≤ most)
      → length (joined (flat_map lines l)) ≤ length l * most
  gathered-within lines d [] h = omega arith
  gathered-within lines d (x ∷ l) h =
      omega (arith, joined-two (lines x) (flat_map lines l), h zero (omega arith), gathered-within lines d l (λ k w. h (suc k) (omega arith)))

  pub tabulated_within : (n : ℕ) (line : ℕ → List ℕ) → ((i : ℕ) → i < n → length (line i) ≤ most)
      → length (joined (tabulate n line)) ≤ n * most
  tabulated_within zero line h = omega arith
  tabulated_within (suc n) line h =
      let rest = tabulated_within n (λ i. line (suc i)) (λ i w. h (suc i) (omega arith)) in
      omega (arith, length-append (line 0) (joined (tabulate n (λ i. line (suc i)))), h zero (omega arith), rest)
