-- What a caller needs of `row_of`: a row that is answered and has 2m fields, m at most 8, gives the m words and the m counts.
-- Assumes nothing.
use Rattle.std.specs.Prelude.{Some, None}
use mathlib.Core.Bool.{Bool, true, false, cond, ◌&&◌}
use mathlib.Core.Path.{◌≡◌, refl, ap}
use mathlib.Core.List.{List, [], ◌∷◌}
use Prim.Native.Nat.{ℕ, zero, suc, ◌*◌, ◌≤◌}
use native.Mathlib.Omega.{arith}
use lib.ListN.{length, take}
use Rattle.fields.specs.Fields.{well_formed, fields_of}
use Rattle.row_fields.specs.declared.RowFields.{RowFields}
use Rattle.row_fields.specs.Row.{words_of, counts_of, within_range, first_ones, row_from, row_of}

-- the two halves of an even number of fields
pub words-length : (m : ℕ) (l : List ℕ) → length l ≡ m * 2 → length (words_of l) ≡ m
unfolding words_of
words-length zero [] h = refl
words-length zero (w ∷ l) h = absurd (omega arith)
words-length (suc m) [] h = absurd (omega arith)
words-length (suc m) (w ∷ []) h = absurd (omega arith)
words-length (suc m) (w ∷ c ∷ l) h = ap suc (words-length m l (omega arith))

pub counts-length : (m : ℕ) (l : List ℕ) → length l ≡ m * 2 → length (counts_of l) ≡ m
unfolding counts_of
counts-length zero [] h = refl
counts-length zero (w ∷ l) h = absurd (omega arith)
counts-length (suc m) [] h = absurd (omega arith)
counts-length (suc m) (w ∷ []) h = absurd (omega arith)
counts-length (suc m) (w ∷ c ∷ l) h = ap suc (counts-length m l (omega arith))

-- the first m of the eight, where there are m
pub take-ones : (n m : ℕ) (l : List ℕ) → length l ≡ m → m ≤ n → take m (first_ones n l) ≡ l
unfolding first_ones
take-ones n zero [] h k = refl
take-ones n zero (x ∷ l) h k = absurd (omega arith)
take-ones n (suc m) [] h k = absurd (omega arith)
take-ones zero (suc m) (x ∷ l) h k = absurd (omega arith)
take-ones (suc n) (suc m) (x ∷ l) h k = ap (λ (r : List ℕ). x ∷ r) (take-ones n m l (omega arith) (omega arith))

-- a row that is answered is the row of its fields
good-cond : (t : Bool) (l : List ℕ) (r : RowFields) → cond t (Some (row_from l)) None ≡ Some r → r ≡ row_from l
good-cond true l r e = cc
good-cond false l r e = cc

pub row-good : (bytes : List ℕ) (r : RowFields) → row_of bytes ≡ Some r → r ≡ row_from (fields_of bytes)
unfolding row_of
row-good bytes r e = good-cond (well_formed bytes && within_range (fields_of bytes)) (fields_of bytes) r e

pub record Halves (bytes : List ℕ) (m : ℕ) (r : RowFields) : Type 0 where
  pub fields : length (fields_of bytes) ≡ m * 2
  pub words : take m r.words ≡ words_of (fields_of bytes)
  pub counts : take m r.counts ≡ counts_of (fields_of bytes)
  pub all_words : length (words_of (fields_of bytes)) ≡ m
  pub all-counts : length (counts_of (fields_of bytes)) ≡ m

pub row-halves : (bytes : List ℕ) (m : ℕ) (r : RowFields) → row_of bytes ≡ Some r → r.fields ≡ m * 2 → m ≤ 8 → Halves bytes m r
unfolding row_from
row-halves bytes m r z f h =
    let e = row-good bytes r z in
    let n : length (fields_of bytes) ≡ m * 2 = rw e at f in
    record {
      fields = n;
      words = rw e (take-ones 8 m (words_of (fields_of bytes)) (words-length m (fields_of bytes) n) h);
      counts = rw e (take-ones 8 m (counts_of (fields_of bytes)) (counts-length m (fields_of bytes) n) h);
      all_words = words-length m (fields_of bytes) n;
      all-counts = counts-length m (fields_of bytes) n;
    }
