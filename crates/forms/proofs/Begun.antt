-- A line that is written piece by piece: part of it stands in the buffer, and the rest is to be stored from the place reached on.
-- One law for a piece of any length, one for a byte, and one for the end.
-- Assumes nothing.
use mathlib.Core.Path.{◌≡◌, refl, ap, ◌∙◌}
use mathlib.Core.List.{List, [], ◌∷◌, ◌++◌}
use Prim.Native.Nat.{ℕ, ◌+◌}
use native.Mathlib.Numerals.{add-one}
use native.Mathlib.Omega.{arith}
use lib.ListN.{length, set, length-append, length-set}
use lib.Seq.{sets, length-sets}
use Rattle.decimals.proofs.Stores.{sets-append}

-- the line is to stand in the buffer l from place i on; in the buffer l' its rest is to be stored from place j on
pub record Begun (l : List ℕ) (i : ℕ) (line l' : List ℕ) (j : ℕ) (rest : List ℕ) : Type 0 where
  pub place : j + length rest ≡ i + length line
  pub size : length l' ≡ length l
  pub stored : sets l' j rest ≡ sets l i line

pub begun-none : (l : List ℕ) (i : ℕ) (line : List ℕ) → Begun l i line l i line
begun-none l i line = record { place = refl; size = refl; stored = refl }

module _ {l line l' r : List ℕ} {i j : ℕ} (w : Begun l i line l' j r) where
  pub begun_piece : (piece : List ℕ) {r' l'' : List ℕ} {k : ℕ} → r ≡ piece ++ r' → l'' ≡ sets l' j piece → k ≡ j + length piece → Begun l i line l'' k r'
  begun_piece piece {r'} {l''} {k} e s p = record {
    place = omega (arith, w.place, simp length-append at (ap length e), p);
    size = ap length s ∙ length-sets l' j piece ∙ w.size;
    stored = rw (s, p, sets-append piece r' l' j, ← e) w.stored;
  }

  pub begun-byte : {b : ℕ} {r' : List ℕ} → r ≡ b ∷ r' → Begun l i line (set l' j b) (j + 1) r'
  begun-byte {b} {r'} e = record {
    place = omega (arith, w.place, ap length e);
    size = length-set l' j b ∙ w.size;
    stored = rw add-one (rw e at w.stored);
  }

  -- nothing is left
  pub begun-whole : r ≡ [] → (l' ≡ sets l i line) × (j ≡ i + length line)
  begun-whole e = (rw e at w.stored, omega (arith, w.place, ap length e))

  -- the rest is the same in other words
  pub begun-same : {r' : List ℕ} → r ≡ r' → Begun l i line l' j r'
  begun-same e = rw e at w
