-- Lines put into a buffer one after another: the buffer keeps its length, two runs of lines are one, and what a loop that puts a line in each turn keeps:
-- the lines to come, put from the place reached on, make the buffer and the place of the whole run. By induction on the lines, and by whether a line fits.
-- Assumes nothing.
use mathlib.Core.Path.{◌≡◌, refl, sym, ap, ◌∙◌}
use mathlib.Core.Bool.{Bool, true, false}
use mathlib.Core.List.{List, [], ◌∷◌, ◌++◌}
use Prim.Native.Nat.{ℕ, ◌+◌}
use borrow.Author.Tests.{leb-true}
use lib.Dec.{leb}
use lib.ListN.{length}
use Rattle.decimals.specs.Putting.{put_at, place_after}
use Rattle.decimals.proofs.Stores.{put-none}
use Rattle.decimals.proofs.Puts.{put-length}
use Rattle.programs.specs.Buffering.{put_lines, place_after_lines}

-- ---- the length

pub put-size : (buffer : List ℕ) (at : ℕ) (line : List ℕ) → length (put_at buffer at line) ≡ length buffer
put-size buffer at line = go (leb (at + length line) (length buffer)) refl
  where
    go : (t : Bool) → leb (at + length line) (length buffer) ≡ t → length (put_at buffer at line) ≡ length buffer
    go true e = put-length buffer at line (leb-true _ _ e)
    go false e = sym (ap length (put-none buffer at line e).0)

pub lines-size : (buffer : List ℕ) (at : ℕ) (lines : List (List ℕ)) → length (put_lines buffer at lines) ≡ length buffer
lines-size buffer at [] = refl
lines-size buffer at (l ∷ ls) = lines-size (put_at buffer at l) (place_after buffer at l) ls ∙ put-size buffer at l

-- ---- one run and then another

pub put-append : (xs ys : List (List ℕ)) (buffer : List ℕ) (at : ℕ)
    → put_lines (put_lines buffer at xs) (place_after_lines buffer at xs) ys ≡ put_lines buffer at (xs ++ ys)
put-append [] ys buffer at = refl
put-append (x ∷ xs) ys buffer at = put-append xs ys (put_at buffer at x) (place_after buffer at x)

pub place-append : (xs ys : List (List ℕ)) (buffer : List ℕ) (at : ℕ)
    → place_after_lines (put_lines buffer at xs) (place_after_lines buffer at xs) ys ≡ place_after_lines buffer at (xs ++ ys)
place-append [] ys buffer at = refl
place-append (x ∷ xs) ys buffer at = place-append xs ys (put_at buffer at x) (place_after buffer at x)

-- lines put from place i of the buffer b on: the buffer b' after, and the place j after them
pub record PutLines (b : List ℕ) (i : ℕ) (lines : List (List ℕ)) (b' : List ℕ) (j : ℕ) : Type 0 where
  pub buffer : b' ≡ put_lines b i lines
  pub reached : j ≡ place_after_lines b i lines

pub one_line : {b line b' : List ℕ} {i j : ℕ} → (b' ≡ put_at b i line) × (j ≡ place_after b i line) → PutLines b i (line ∷ []) b' j
one_line e = record { buffer = e.0; reached = e.1 }

pub these-lines : (lines : List (List ℕ)) {b b' : List ℕ} {i j : ℕ} → (b' ≡ put_lines b i lines) × (j ≡ place_after_lines b i lines) → PutLines b i lines b' j
these-lines lines e = record { buffer = e.0; reached = e.1 }

pub then_lines : {b b' b'' : List ℕ} {xs ys : List (List ℕ)} {i j k : ℕ} → PutLines b i xs b' j → PutLines b' j ys b'' k → PutLines b i (xs ++ ys) b'' k
then_lines {b} {b'} {b''} {xs} {ys} {i} {j} {k} p q = record {
  buffer = q.buffer ∙ rw (p.buffer, p.reached) (put-append xs ys b i);
  reached = q.reached ∙ rw (p.buffer, p.reached) (place-append xs ys b i);
}

-- ---- a loop: the lines are to stand in the buffer b from place i on; in the buffer b' the rest of them is to be put from place j on

pub record Run (b : List ℕ) (i : ℕ) (lines : List (List ℕ)) (b' : List ℕ) (j : ℕ) (rest : List (List ℕ)) : Type 0 where
  pub size : length b' ≡ length b
  pub buffer : put_lines b' j rest ≡ put_lines b i lines
  pub reached : place_after_lines b' j rest ≡ place_after_lines b i lines

pub run_none : (b : List ℕ) (i : ℕ) (lines : List (List ℕ)) → Run b i lines b i lines
run_none b i lines = record { size = refl; buffer = refl; reached = refl }

module _ {b b' : List ℕ} {lines rest : List (List ℕ)} {i j : ℕ} (r : Run b i lines b' j rest) where
  -- one line more
  pub run-line : {line b'' : List ℕ} {k : ℕ} {rest' : List (List ℕ)} → rest ≡ line ∷ rest' → (b'' ≡ put_at b' j line) × (k ≡ place_after b' j line)
      → Run b i lines b'' k rest'
  run-line {line} {b''} {k} {rest'} e w = record {
    size = ap length w.0 ∙ put-size b' j line ∙ r.size;
    buffer = rw (w.0, w.1) (rw e at r.buffer);
    reached = rw (w.0, w.1) (rw e at r.reached);
  }

  -- no line is left
  pub run-whole : rest ≡ [] → (b' ≡ put_lines b i lines) × (j ≡ place_after_lines b i lines)
  run-whole e = (rw e at r.buffer, rw e at r.reached)
