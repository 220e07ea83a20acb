-- A run of stores: one run after another, the last store first, and a buffer that bytes were put into.
-- Assumes nothing.
use mathlib.Core.Bool.{Bool, true, false}
use mathlib.Core.Path.{◌≡◌, refl, ◌∙◌}
use mathlib.Core.List.{List, [], ◌∷◌, ◌++◌}
use Prim.Native.Nat.{ℕ, suc, ◌+◌, ◌/◌, ◌%◌, ◌≤◌}
use native.Mathlib.Omega.{arith}
use borrow.Author.Tests.{leb-true}
use lib.Dec.{leb}
use lib.ListN.{length, set, length-append}
use lib.Seq.{sets, sets-eq, set_comm}
use Rattle.decimals.specs.Decimal.{digits_of}
use Rattle.decimals.specs.Putting.{put_at, place_after}
use Rattle.decimals.proofs.Decimals.{digits_more}

-- one run and then another is one run
pub sets-append : (xs ys l : List ℕ) (i : ℕ) → sets (sets l i xs) (i + length xs) ys ≡ sets l i (xs ++ ys)
sets-append [] ys l i = let z : i + 0 ≡ i = omega arith in rw z
sets-append (x ∷ xs) ys l i =
    let z : i + suc (length xs) ≡ suc i + length xs = omega arith in
    rw z (sets-append xs ys (set l i x) (suc i))

-- the last store may come first
pub sets_last : (xs l : List ℕ) (i y : ℕ) → sets (set l (i + length xs) y) i xs ≡ sets l i (xs ++ (y ∷ []))
sets_last [] l i y = let z : i + 0 ≡ i = omega arith in rw z
sets_last (x ∷ xs) l i y =
    let z : i + suc (length xs) ≡ suc i + length xs = omega arith in
    rw (z, set_comm l (suc i + length xs) i y x (λ e. omega arith)) (sets_last xs (set l i x) (suc i) y)

-- a number's digits, the last of them first
pub digit-last : (l : List ℕ) (i n : ℕ) → 10 ≤ n
    → sets (set l (i + length (digits_of (n / 10))) (48 + n % 10)) i (digits_of (n / 10)) ≡ sets l i (digits_of n)
digit-last l i n h = sets_last (digits_of (n / 10)) l i (48 + n % 10) ∙ rw (digits_more n h)

-- bytes that fit, and bytes that do not
module _ (buffer : List ℕ) (at : ℕ) (bytes : List ℕ) where
  pub put-fits : leb (at + length bytes) (length buffer) ≡ true
      → (sets buffer at bytes ≡ put_at buffer at bytes) × (at + length bytes ≡ place_after buffer at bytes)
  unfolding put_at place_after
  put-fits e = (rw e (sets-eq bytes buffer at (leb-true _ _ e)), rw e)

  pub put-none : leb (at + length bytes) (length buffer) ≡ false
      → (buffer ≡ put_at buffer at bytes) × (at ≡ place_after buffer at bytes)
  unfolding put_at place_after
  put-none e = (rw e, rw e)

-- no bytes change neither the buffer nor the place in it
pub put_nothing : (buffer : List ℕ) (at : ℕ) → (buffer ≡ put_at buffer at []) × (at ≡ place_after buffer at [])
put_nothing buffer at = go (leb (at + length {A = ℕ} []) (length buffer)) refl
  where
    go : (t : Bool) → leb (at + length {A = ℕ} []) (length buffer) ≡ t → (buffer ≡ put_at buffer at []) × (at ≡ place_after buffer at [])
    go true e = let p = put-fits buffer at [] e in (p.0, omega (arith, p.1))
    go false e = put-none buffer at [] e

-- bytes written from place i of the buffer l on: the buffer l' after, and the place j after them
pub record Wrote (l : List ℕ) (i : ℕ) (bytes l' : List ℕ) (j : ℕ) : Type 0 where
  pub stored : l' ≡ sets l i bytes
  pub reached : j ≡ i + length bytes

-- one piece and then another
pub and_then : {l l' l'' xs ys : List ℕ} {i j k : ℕ} → Wrote l i xs l' j → Wrote l' j ys l'' k → Wrote l i (xs ++ ys) l'' k
and_then {l} {l'} {l''} {xs} {ys} {i} {j} {k} a b = record {
  stored = b.stored ∙ rw (a.stored, a.reached) (sets-append xs ys l i);
  reached = rw length-append (omega (arith, a.reached, b.reached));
}

-- a number and a byte after it; one byte
pub wrote_field : (v b : ℕ) {l l' : List ℕ} {i j size : ℕ} → (l' ≡ sets l i (digits_of v ++ (b ∷ []))) × (j ≡ i + size + 1) → size ≡ length (digits_of v)
    → Wrote l i (digits_of v ++ (b ∷ [])) l' j
wrote_field v b w e = record { stored = w.0; reached = rw length-append (omega (arith, w.1, e)) }

pub wrote_byte : (l : List ℕ) (i b : ℕ) → Wrote l i (b ∷ []) (set l i b) (i + 1)
wrote_byte l i b = record { stored = refl; reached = refl }

-- all of them fit
pub put_whole : {l l' bytes : List ℕ} {i j : ℕ} → Wrote l i bytes l' j → leb (i + length bytes) (length l) ≡ true
    → (l' ≡ put_at l i bytes) × (j ≡ place_after l i bytes)
put_whole {l} {l'} {bytes} {i} {j} w e = let p = put-fits l i bytes e in (w.stored ∙ p.0, w.reached ∙ p.1)
