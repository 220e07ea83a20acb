-- A whole input that stands in one stretch of bytes, with room for all that is printed: by any program, `buffered_of` puts exactly the bytes
-- of `printed_of` into the buffer. Assumes nothing.
use mathlib.Core.Bool.{Bool, true, false}
use mathlib.Core.Path.{◌≡◌, refl, ap, sym, ◌∙◌}
use mathlib.Core.List.{List, ◌++◌, append-nil}
use Prim.Native.Nat.{ℕ, zero, suc, ◌+◌, ◌<◌, ◌≤◌}
use native.Mathlib.Omega.{arith}
use borrow.Author.Tests.{le-leb}
use lib.ListN.{length, length-append}
use Rattle.decimals.specs.Putting.{put_at}
use Rattle.decimals.proofs.Stores.{put_nothing}
use Rattle.decimals.proofs.Puts.{put-length}
use Rattle.programs.specs.declared.Progress.{Progress}
use Rattle.programs.specs.declared.Progress.TheVariants.{Went, More, Done, Refused}
use Rattle.programs.specs.Program.{Program}
use Rattle.programs.specs.Advancing.{Advance, goes_on, joined, advance_of, lines_from, printed_of}
use Rattle.programs.specs.Buffering.{Reached, Buffered, place_after_lines, room_for, buffered_step, buffered_from, buffered_of}
use Rattle.programs.specs.Whole.{finished, WholeInput}
use Rattle.programs.proofs.Pieces.{further, whole-input}
use Rattle.programs.proofs.PutLines.{put_both, lines-put, lines_reach, lines-length}

module _ {S : Type 0} (P : Program S) where
  -- the lines of k records at most, put into the buffer one after another
  record Lines (k : ℕ) (input buffer : List ℕ) (n : Reached S) : Type 0 where
    written : (buffered_from P k input true buffer n).buffer ≡ put_at buffer n.at (lines_from P true k n.state input n.next)
    reached-place : (buffered_from P k input true buffer n).answer.at ≡ n.at + length (lines_from P true k n.state input n.next)

  -- the record at the answer's place
  abbrev ahead : List ℕ → Reached S → Advance S
  ahead input n = advance_of P n.state input n.next true

  module _ (input buffer : List ℕ) (k : ℕ) (n : Reached S) (room : n.at + length (lines_from P true (suc k) n.state input n.next) + P.room ≤ length buffer) where
    has_room : room_for P (length buffer) n.at ≡ true
    has_room = le-leb (n.at + P.room) (length buffer) (omega arith)

    module _ (on : goes_on (ahead input n).progress ≡ true) where
      lines_more : lines_from P true (suc k) n.state input n.next
          ≡ joined (ahead input n).lines ++ lines_from P true k (ahead input n).state input (ahead input n).next
      unfolding lines_from
      lines_more = rw on

      lengths : length (lines_from P true (suc k) n.state input n.next)
          ≡ length (joined (ahead input n).lines) + length (lines_from P true k (ahead input n).state input (ahead input n).next)
      lengths = ap length lines_more ∙ length-append (joined (ahead input n).lines) _

      line-fits : n.at + length (joined (ahead input n).lines) ≤ length buffer
      line-fits = omega (arith, lengths)

      next_place : place_after_lines buffer n.at (ahead input n).lines ≡ n.at + length (joined (ahead input n).lines)
      next_place = lines_reach (ahead input n).lines buffer n.at line-fits

      more_room : (buffered_step P input true buffer n).answer.at + length (lines_from P true k (ahead input n).state input (ahead input n).next) + P.room
          ≤ length (buffered_step P input true buffer n).buffer
      more_room = omega (arith, lengths, next_place, lines-length (ahead input n).lines buffer n.at line-fits)

      buffered-more : buffered_from P (suc k) input true buffer n ≡ buffered_from P k input true (buffered_step P input true buffer n).buffer (buffered_step P input true buffer n).answer
      unfolding buffered_from
      buffered-more = rw (has_room, on)

      more-lines : Lines k input (buffered_step P input true buffer n).buffer (buffered_step P input true buffer n).answer → Lines (suc k) input buffer n
      more-lines rest =
          let line = joined (ahead input n).lines in
          let others = lines_from P true k (ahead input n).state input (ahead input n).next in
          let fits : n.at + length (line ++ others) ≤ length buffer = omega (arith, length-append line others, lengths) in
          record {
            written =
                ap (λ (h : Buffered S). h.buffer) buffered-more
                ∙ rest.written
                ∙ ap (λ (b : List ℕ). put_at b (buffered_step P input true buffer n).answer.at others) (lines-put (ahead input n).lines buffer n.at line-fits)
                ∙ ap (λ (p : ℕ). put_at (put_at buffer n.at line) p others) next_place
                ∙ put_both buffer n.at line others fits
                ∙ ap (λ (l : List ℕ). put_at buffer n.at l) (sym lines_more);
            reached-place = ap (λ (h : Buffered S). h.answer.at) buffered-more ∙ rest.reached-place ∙ omega (arith, next_place, lengths);
          }

    module _ (off : goes_on (ahead input n).progress ≡ false) where
      lines-last : lines_from P true (suc k) n.state input n.next ≡ joined (ahead input n).lines
      unfolding lines_from
      lines-last = rw off (append-nil (joined (ahead input n).lines))

      buffered-last : buffered_from P (suc k) input true buffer n ≡ buffered_step P input true buffer n
      unfolding buffered_from
      buffered-last = rw (has_room, off)

      last_line : Lines (suc k) input buffer n
      last_line =
          let line = joined (ahead input n).lines in
          let l : length (lines_from P true (suc k) n.state input n.next) ≡ length line = ap length lines-last in
          let fits : n.at + length line ≤ length buffer = omega arith in
          record {
            written = ap (λ (h : Buffered S). h.buffer) buffered-last
                ∙ lines-put (ahead input n).lines buffer n.at fits
                ∙ ap (λ (x : List ℕ). put_at buffer n.at x) (sym lines-last);
            reached-place = ap (λ (h : Buffered S). h.answer.at) buffered-last ∙ lines_reach (ahead input n).lines buffer n.at fits ∙ omega arith;
          }

  no_lines : (input buffer : List ℕ) (n : Reached S) → Lines zero input buffer n
  unfolding buffered_from lines_from
  no_lines input buffer n = record { written = (put_nothing buffer n.at).0; reached-place = omega arith }

  lines-written : (input : List ℕ) (k : ℕ) (buffer : List ℕ) (n : Reached S) → n.at + length (lines_from P true k n.state input n.next) + P.room ≤ length buffer
      → Lines k input buffer n
  lines-written input zero buffer n h = no_lines input buffer n
  lines-written input (suc k) buffer n h = go (goes_on (ahead input n).progress) refl (lines-written input k (buffered_step P input true buffer n).buffer (buffered_step P input true buffer n).answer)
    where
      go : (b : Bool) → goes_on (ahead input n).progress ≡ b
          → ((buffered_step P input true buffer n).answer.at + length (lines_from P true k (ahead input n).state input (ahead input n).next) + P.room
          ≤ length (buffered_step P input true buffer n).buffer → Lines k input (buffered_step P input true buffer n).buffer (buffered_step P input true buffer n).answer)
          → Lines (suc k) input buffer n
      go true e ih = more-lines input buffer k n h e (ih (more_room input buffer k n h e))
      go false e ih = last_line input buffer k n h e

  -- one round more than there are bytes is enough to come to the end
  ended_so : (p : Progress) → goes_on p ≡ false → (p ≡ More → ⊥) → finished p ≡ true
  ended_so Went e m = let z : ◌≡◌ {A = ℕ} 0 1 = cc in absurd (omega arith)
  ended_so More e m = absurd (m refl)
  ended_so Done e m = refl
  ended_so (Refused number) e m = refl

  comes_to_end : (input : List ℕ) (k : ℕ) (buffer : List ℕ) (n : Reached S) → n.next ≤ length input → length input < n.next + k
      → n.at + length (lines_from P true k n.state input n.next) + P.room ≤ length buffer → finished (buffered_from P k input true buffer n).answer.progress ≡ true
  comes_to_end input zero buffer n i j h = absurd (omega arith)
  comes_to_end input (suc k) buffer n i j h = go (goes_on (ahead input n).progress) refl (comes_to_end input k (buffered_step P input true buffer n).buffer (buffered_step P input true buffer n).answer)
    where
      go : (b : Bool) → goes_on (ahead input n).progress ≡ b
          → ((ahead input n).next ≤ length input → length input < (ahead input n).next + k
          → (buffered_step P input true buffer n).answer.at + length (lines_from P true k (ahead input n).state input (ahead input n).next) + P.room
          ≤ length (buffered_step P input true buffer n).buffer
          → finished (buffered_from P k input true (buffered_step P input true buffer n).buffer (buffered_step P input true buffer n).answer).answer.progress ≡ true)
          → finished (buffered_from P (suc k) input true buffer n).answer.progress ≡ true
      go true e ih =
          let x = further P n.state input n.next true e in
          ap (λ (s : Buffered S). finished s.answer.progress) (buffered-more input buffer k n h e)
          ∙ ih x.1 (omega (arith, x.0)) (more_room input buffer k n h e)
      go false e ih =
          ap (λ (s : Buffered S). finished s.answer.progress) (buffered-last input buffer k n h e)
          ∙ ended_so (ahead input n).progress e (whole-input P n.state input n.next)

  -- THE THEOREM
  pub whole-input-written : (input buffer : List ℕ) → length (printed_of P input) + P.room ≤ length buffer → WholeInput P input buffer
  unfolding printed_of buffered_of
  whole-input-written input buffer h =
      let lines = lines_from P true (suc (length input)) P.begin input 0 in
      let l : length (P.header ++ lines) ≡ length P.header + length lines = length-append P.header lines in
      let fits : 0 + length P.header ≤ length buffer = omega arith in
      let whole : 0 + length (P.header ++ lines) ≤ length buffer = omega arith in
      let start : Reached S = record { progress = Went; state = P.begin; next = 0; at = length P.header } in
      let room : length P.header + length lines + P.room ≤ length (put_at buffer 0 P.header) = omega (arith, put-length buffer 0 P.header fits) in
      let w = lines-written input (suc (length input)) (put_at buffer 0 P.header) start room in
      let z : 0 + length P.header ≡ length P.header = omega arith in
      record {
        written = w.written ∙ (rw z at (put_both buffer 0 P.header lines whole));
        reached = w.reached-place ∙ sym l;
        ended = comes_to_end input (suc (length input)) (put_at buffer 0 P.header) start (omega arith) (omega arith) room;
      }
