-- A RUN IN PIECES, of any lawful program: however an input is divided into reads, what is written is what `printed_of` says of the whole; and
-- where a read fails, all that can be said of what was read. By induction on the rounds: what the output buffer holds and what is still to be
-- printed of the bytes that are there and those to come stay together the same, and each round goes on. Assumes nothing.
use mathlib.Core.Bool.{Bool, true, false, not, cond, true≢false}
use mathlib.Core.Path.{◌≡◌, refl, ap, sym, ◌∙◌}
use mathlib.Core.List.{List, [], ◌∷◌, ◌++◌, append-nil, append_assoc}
use Prim.Native.Nat.{ℕ, zero, suc, ◌+◌, ◌-◌, ◌*◌, ◌≤◌}
use native.Mathlib.Omega.{arith}
use borrow.Author.Tests.{le-leb, ne_eqb}
use lib.Dec.{eqb}
use lib.ListN.{length, take, drop, length-append, length-take, length-drop}
use lib.Seq.{take_at, take-nil, length-take-le, length_front}
use Rattle.decimals.proofs.Puts.{put_reaches, put-length, put-shows}
use Rattle.buffers.specs.Keeping.{rest_of, kept_of}
use Rattle.programs.specs.declared.Progress.{Progress}
use Rattle.programs.specs.declared.Progress.TheVariants.{Went, More, Done, Refused}
use Rattle.programs.specs.Program.{Program}
use Rattle.programs.specs.Advancing.{printed_of, so_far_of}
use Rattle.programs.specs.Buffering.{Reached, Buffered, buffered_from, buffered_of}
use Rattle.programs.specs.Whole.{finished}
use Rattle.programs.proofs.Lines.{lines_of}
use Rattle.standing.specs.declared.Wants.{Wants}
use Rattle.standing.specs.declared.Wants.TheVariants.{End}
use Rattle.standing.specs.Standing.{Stand, most_read}
use Rattle.round_steps.specs.Rounds.{wants_by, filled_of, passed_of, round_by, round_of}
use Rattle.reads.specs.Lawful.{Lawful}
use Rattle.reads.specs.Reads.{read_in, buffered, wrote_out, served_by, written_by, begun_stand, Pieces, whole_of, rounds_for, InPiecesHolds}
use Rattle.reads.proofs.RoundLoop.{remaining, nothing_remains, Left, loop-left}
use Rattle.reads.proofs.RoundMoves.{full, cost, loop-moves}

-- what is left of the first bytes of a list
drop-take : (a b : ℕ) (l : List ℕ) → drop a (take b l) ≡ take (b - a) (drop a l)
drop-take zero b l = let z : b ≡ b - 0 = omega arith in ap (λ (n : ℕ). take n l) z
drop-take (suc a) zero l = let z : 0 ≡ 0 - suc a = omega arith in ap (λ (n : ℕ). take n (drop (suc a) l)) z
drop-take (suc a) (suc b) [] = sym (take-nil (suc b - suc a))
drop-take (suc a) (suc b) (x ∷ l) = let z : b - a ≡ suc b - suc a = omega arith in drop-take a b l ∙ ap (λ (n : ℕ). take n (drop a l)) z

module _ {S : Type 0} (P : Program S) (L : Lawful P) where
  -- the bytes that the input buffer is filled with, and those of them that are still to be followed
  abbrev filled_bytes : Stand S → List ℕ
  filled_bytes s = take (filled_of s) s.input

  abbrev left : Stand S → List ℕ
  left s = drop s.run.from (filled_bytes s)

  -- what holds between two rounds
  record Sound (fails : Bool) (s : Stand S) (pieces : List (List ℕ)) : Type 0 where
    order : s.run.from ≤ filled_of s
    input : most_read + suc P.longest ≤ length s.input
    output : P.room ≤ length s.output
    place : s.run.at ≤ length s.output
    good : L.Good s.state
    over : s.run.ended ≡ true → (pieces ≡ []) × (fails ≡ false)

  -- how many rounds may come
  abbrev unended : Bool → ℕ
  unended ended = cond ended 0 1

  abbrev to_do : Stand S → List (List ℕ) → ℕ
  to_do s pieces = 2 * length (left s) + 2 * length (whole_of pieces) + full P (length s.output) s.run.at + length pieces + unended s.run.ended + 1

  -- what is written: what the output buffer holds, and the lines of all bytes that are there and to come
  abbrev Writes : ℕ → Bool → Stand S → List (List ℕ) → Type 0
  Writes k fails s pieces =
      written_by P k fails s pieces ≡ buffered s ++ lines_of P (not fails) s.state (left s ++ whole_of pieces)

  module _ (fails : Bool) (s : Stand S) (pieces : List (List ℕ)) (sound : Sound fails s pieces) where
    -- the round's loop
    abbrev start : Reached S
    start = record { progress = Went; state = s.state; next = s.run.from; at = s.run.at }

    abbrev loop : Buffered S
    loop = buffered_from P (suc (length (filled_bytes s))) (filled_bytes s) s.run.ended s.output start

    none_to_come : s.run.ended ≡ true → (whole_of pieces ≡ []) × (not fails ≡ true)
    none_to_come e = let o = sound.over e in (ap whole_of o.0, ap not o.1)

    filled_length : length (filled_bytes s) ≡ filled_of s
    filled_length = omega (arith, length-take (filled_of s) s.input, length-take s.run.filled s.input)

    inside : s.run.from ≤ length (filled_bytes s)
    inside = omega (arith, filled_length, sound.order)

    done : Left P L (not fails) s.run.ended (filled_bytes s) (whole_of pieces) none_to_come s.output start loop
    done =
        loop-left P L (not fails) s.run.ended (filled_bytes s) (whole_of pieces) none_to_come (suc (length (filled_bytes s))) s.output start refl inside
        sound.place sound.good

    moves : finished loop.answer.progress ≡ false
        → s.run.from + cost loop.answer.progress (full P (length s.output) loop.answer.at) ≤ loop.answer.next + full P (length s.output) s.run.at
    moves = loop-moves P L s.run.ended (filled_bytes s) s.output start refl inside sound.place sound.good (length (filled_bytes s))

    passed_is : passed_of P s ≡ loop
    unfolding buffered_of
    passed_is = refl

    -- a round more, by what became of the last record
    served : (k : ℕ) (p : Progress) → loop.answer.progress ≡ p
        → written_by P (suc k) fails s pieces ≡ served_by (wants_by p) fails (round_by p s loop) pieces (written_by P k fails)
    unfolding written_by round_of
    served k p e =
        ap (λ (b : Buffered S). served_by (round_by b.answer.progress s b).run.wants fails (round_by b.answer.progress s b) pieces
        (written_by P k fails)) passed_is
        ∙ ap (λ (q : Progress). served_by (wants_by q) fails (round_by q s loop) pieces (written_by P k fails)) e

    -- the output is written: its buffer was full
    module _ (k : ℕ) (few : to_do s pieces ≤ suc k) (e : loop.answer.progress ≡ Went) where
      abbrev rested : Stand S
      rested = wrote_out (round_by Went s loop)

      is_filled : filled_of rested ≡ filled_of s
      is_filled = omega (arith, length-take (filled_of s) s.input, length-take s.run.filled s.input)

      left-rested : left rested ≡ drop loop.answer.next (filled_bytes s)
      left-rested = ap (λ (n : ℕ). drop loop.answer.next (take n s.input)) is_filled

      on : finished loop.answer.progress ≡ false
      on = ap finished e

      rested-sound : Sound fails rested pieces
      rested-sound =
          record {
            order = omega (arith, done.inside on, filled_length, is_filled);
            input = sound.input;
            output = omega (arith, done.size, sound.output);
            place = omega arith;
            good = done.good;
            over = sound.over;
          }

      rested-few : to_do rested pieces ≤ k
      rested-few =
          let room : full P (length loop.buffer) 0 ≡ 0 = ap (λ (b : Bool). cond b 0 1) (le-leb (0 + P.room) (length loop.buffer) (omega (arith, done.size, sound.output))) in
          let m = moves on in
          let c : cost loop.answer.progress (full P (length s.output) loop.answer.at) ≡ 1
          = ap (λ (p : Progress). cost p (full P (length s.output) loop.answer.at)) e in
          omega (
            arith,
            room,
            m,
            c,
            ap length left-rested,
            length-drop loop.answer.next (filled_bytes s),
            length-drop s.run.from (filled_bytes s),
            done.inside on,
            done.onward on,
          )

      write-case : Writes k fails rested pieces → Writes (suc k) fails s pieces
      write-case ih =
          served k Went e
          ∙ ap (λ (l : List ℕ). take loop.answer.at loop.buffer ++ l) ih
          ∙ ap (λ (l : List ℕ). take loop.answer.at loop.buffer ++ lines_of P (not fails) loop.answer.state (l ++ whole_of pieces)) left-rested
          ∙ ap (λ (p : Progress). take loop.answer.at loop.buffer
          ++ remaining p (lines_of P (not fails) loop.answer.state (drop loop.answer.next (filled_bytes s) ++ whole_of pieces))) (sym e)
          ∙ done.written

    -- the run is over
    end_case : (k : ℕ) → finished loop.answer.progress ≡ true → wants_by loop.answer.progress ≡ End → Writes (suc k) fails s pieces
    end_case k d w =
        served k loop.answer.progress refl
        ∙ ap (λ (x : Wants). served_by x fails (round_by loop.answer.progress s loop) pieces (written_by P k fails)) w
        ∙ sym (append-nil (take loop.answer.at loop.buffer))
        ∙ ap (λ (l : List ℕ). take loop.answer.at loop.buffer ++ l)
        (sym (nothing_remains loop.answer.progress d (lines_of P (not fails) loop.answer.state (drop loop.answer.next (filled_bytes s) ++ whole_of pieces))))
        ∙ done.written

    -- bytes are read behind those that are left
    module _ (piece : List ℕ) (short : length piece ≤ most_read) (e : loop.answer.progress ≡ More) where
      abbrev asking : Stand S
      asking = round_by More s loop

      abbrev rest : List ℕ
      rest = rest_of s.input loop.answer.next (filled_of s)

      abbrev refilled : Stand S
      refilled = read_in asking piece

      going : finished loop.answer.progress ≡ false
      going = ap finished e

      rest-is : rest ≡ drop loop.answer.next (filled_bytes s)
      rest-is = sym (drop-take loop.answer.next (filled_of s) s.input)

      rest-length : length rest ≡ length (filled_bytes s) - loop.answer.next
      rest-length = ap length rest-is ∙ length-drop loop.answer.next (filled_bytes s)

      kept-length : length asking.input ≡ length s.input
      unfolding kept_of
      kept-length =
          length_front s.input rest (length rest)
          (sym (length-take-le (length rest) s.input (omega (arith, (done.few e).1, rest-length, sound.input))))

      front : take (length rest) asking.input ≡ rest
      unfolding kept_of
      front = take_at rest (drop (length rest) s.input) (length rest) refl

      piece_fits : length rest + length piece ≤ length asking.input
      piece_fits = omega (arith, kept-length, (done.few e).1, rest-length, sound.input)

      refilled-length : length refilled.input ≡ length s.input
      refilled-length = put-length asking.input (length rest) piece piece_fits ∙ kept-length

      filled_both : take (length rest + length piece) refilled.input ≡ rest ++ piece
      filled_both =
          ap (λ (n : ℕ). take n refilled.input) (sym (put_reaches asking.input (length rest) piece piece_fits))
          ∙ put-shows asking.input (length rest) piece piece_fits
          ∙ ap (λ (l : List ℕ). l ++ piece) front

      filled_count : filled_of refilled ≡ length rest + length piece
      filled_count =
          omega (
            arith,
            piece_fits,
            kept-length,
            refilled-length,
            length-take (length rest + length piece) refilled.input,
            length-take (length (take (length rest + length piece) refilled.input)) refilled.input,
          )

      left-refilled : left refilled ≡ rest ++ piece
      left-refilled = ap (λ (n : ℕ). take n refilled.input) filled_count ∙ filled_both

      refilled-sound : (pieces' : List (List ℕ)) → (eqb (length piece) 0 ≡ true → (pieces' ≡ []) × (fails ≡ false)) → Sound fails refilled pieces'
      refilled-sound pieces' o =
          record {
            order = omega arith;
            input = omega (arith, refilled-length, sound.input);
            output = omega (arith, done.size, sound.output);
            place = omega (arith, done.within, done.size);
            good = done.good;
            over = o;
          }

      refilled-few : (k : ℕ) (pieces' : List (List ℕ)) → to_do s pieces ≤ suc k → whole_of pieces ≡ piece ++ whole_of pieces'
          → length pieces' + unended (eqb (length piece) 0) ≤ length pieces → to_do refilled pieces' ≤ k
      refilled-few k pieces' few w h =
          let m = moves going in
          let c : cost loop.answer.progress (full P (length s.output) loop.answer.at) ≡ full P (length s.output) loop.answer.at
          = ap (λ (p : Progress). cost p (full P (length s.output) loop.answer.at)) e in
          let f : full P (length loop.buffer) loop.answer.at ≡ full P (length s.output) loop.answer.at
          = ap (λ (n : ℕ). full P n loop.answer.at) done.size in
          let u : unended s.run.ended ≡ 1 = ap unended (done.few e).0 in
          omega (
            arith,
            m,
            c,
            f,
            u,
            h,
            few,
            ap length left-refilled,
            length-append rest piece,
            rest-length,
            ap length w,
            length-append piece (whole_of pieces'),
            length-drop s.run.from (filled_bytes s),
            done.inside going,
            done.onward going,
          )

      read-case : (k : ℕ) (pieces' : List (List ℕ)) → whole_of pieces ≡ piece ++ whole_of pieces' → written_by P (suc k) fails s pieces ≡ written_by P k fails refilled pieces'
          → Writes k fails refilled pieces' → Writes (suc k) fails s pieces
      read-case k pieces' w step ih =
          let fin = not fails in
          let after = loop.answer.state in
          let held = take loop.answer.at loop.buffer in
          step
          ∙ ih
          ∙ ap (λ (l : List ℕ). held ++ lines_of P fin after (l ++ whole_of pieces')) left-refilled
          ∙ ap (λ (l : List ℕ). held ++ lines_of P fin after l) (append_assoc rest piece (whole_of pieces') ∙ ap (λ (l : List ℕ). rest ++ l) (sym w))
          ∙ ap (λ (l : List ℕ). held ++ lines_of P fin after (l ++ whole_of pieces)) rest-is
          ∙ ap (λ (p : Progress). held ++ remaining p (lines_of P fin after (drop loop.answer.next (filled_bytes s) ++ whole_of pieces))) (sym e)
          ∙ done.written

    -- a read fails: nothing is known of the bytes that are left
    fail_case : (k : ℕ) → loop.answer.progress ≡ More → whole_of pieces ≡ [] → not fails ≡ false
        → written_by P (suc k) fails s pieces ≡ take loop.answer.at loop.buffer → Writes (suc k) fails s pieces
    fail_case k e w x step =
        let held = take loop.answer.at loop.buffer in
        let bytes = drop loop.answer.next (filled_bytes s) in
        step
        ∙ sym (append-nil held)
        ∙ ap (λ (l : List ℕ). held ++ l) (sym (done.none e))
        ∙ ap (λ (b : Bool). held ++ lines_of P b loop.answer.state bytes) (sym x)
        ∙ ap (λ (l : List ℕ). held ++ lines_of P (not fails) loop.answer.state l) (sym (append-nil bytes) ∙ ap (λ (l : List ℕ). bytes ++ l) (sym w))
        ∙ ap (λ (p : Progress). held ++ remaining p (lines_of P (not fails) loop.answer.state (bytes ++ whole_of pieces))) (sym e)
        ∙ done.written

  -- THE RUN
  run-writes : (k : ℕ) (fails : Bool) (s : Stand S) (pieces : List (List ℕ)) → Sound fails s pieces → Pieces pieces → to_do s pieces ≤ k → Writes k fails s pieces
  run-writes zero fails s pieces sound p few = absurd (omega arith)
  run-writes (suc k) fails s pieces sound p few = go (loop fails s pieces sound).answer.progress refl fails pieces sound p few (run-writes k)
    where
      go : (q : Progress) → (loop fails s pieces sound).answer.progress ≡ q → (fails : Bool) (pieces : List (List ℕ)) (sound : Sound fails s pieces) → Pieces pieces → to_do s pieces ≤ suc k
          → ((fails : Bool) (s : Stand S) (pieces : List (List ℕ)) → Sound fails s pieces → Pieces pieces → to_do s pieces ≤ k → Writes k fails s pieces)
          → Writes (suc k) fails s pieces
      go Went e fails pieces sound p few ih =
          write-case fails s pieces sound k few e
          (ih fails _ pieces (rested-sound fails s pieces sound k few e) p (rested-few fails s pieces sound k few e))
      go More e fails (piece ∷ pieces) sound p few ih =
          let one : eqb (length piece) 0 ≡ false = ne_eqb (length piece) 0 (λ z. omega (arith, p.0)) in
          let w : whole_of (piece ∷ pieces) ≡ piece ++ whole_of pieces = refl in
          let few' = refilled-few fails s (piece ∷ pieces) sound piece p.1 e k pieces few w (omega (arith, ap unended one)) in
          read-case fails s (piece ∷ pieces) sound piece p.1 e k pieces w (served fails s (piece ∷ pieces) sound k More e)
          (ih fails _ pieces (refilled-sound fails s (piece ∷ pieces) sound piece p.1 e pieces (λ z. absurd (true≢false (sym z ∙ one)))) p.2 few')
      go More e false [] sound p few ih =
          let few' = refilled-few false s [] sound [] (omega arith) e k [] few refl (omega arith) in
          read-case false s [] sound [] (omega arith) e k [] refl (served false s [] sound k More e)
          (ih false _ [] (refilled-sound false s [] sound [] (omega arith) e [] (λ z. (refl, refl))) p few')
      go More e true [] sound p few ih = fail_case true s [] sound k e refl refl (served true s [] sound k More e)
      go Done e fails pieces sound p few ih = end_case fails s pieces sound k (ap finished e) (ap wants_by e)
      go (Refused n) e fails pieces sound p few ih = end_case fails s pieces sound k (ap finished e) (ap wants_by e)

  -- before the first round
  module _ (fails : Bool) (input output : List ℕ) (roomy : most_read + suc P.longest ≤ length input) (wide : length P.header + P.room ≤ length output) (pieces : List (List ℕ)) (p : Pieces pieces) where
    abbrev begun : Stand S
    begun = begun_stand P input output

    header-fits : 0 + length P.header ≤ length output
    header-fits = omega arith

    header-place : begun.run.at ≡ length P.header
    header-place = put_reaches output 0 P.header header-fits ∙ omega arith

    begun-length : length begun.output ≡ length output
    begun-length = put-length output 0 P.header header-fits

    begun-sound : Sound fails begun pieces
    begun-sound =
        record {
          order = omega arith;
          input = roomy;
          output = omega (arith, begun-length);
          place = omega (arith, begun-length, header-place);
          good = L.begins;
          over = λ e. absurd (true≢false (sym e));
        }

    few_pieces : (l : List (List ℕ)) → Pieces l → length l ≤ length (whole_of l)
    few_pieces [] q = omega arith
    few_pieces (piece ∷ l) q = omega (arith, few_pieces l q.2, q.0, length-append piece (whole_of l))

    begun-few : (k : ℕ) → rounds_for (whole_of pieces) ≤ k → to_do begun pieces ≤ k
    begun-few k h =
        let room : full P (length begun.output) begun.run.at ≡ 0
        = ap (λ (b : Bool). cond b 0 1) (le-leb (begun.run.at + P.room) (length begun.output) (omega (arith, begun-length, header-place))) in
        omega (arith, room, few_pieces pieces p)

    begun-writes : (k : ℕ) → rounds_for (whole_of pieces) ≤ k → written_by P k fails begun pieces ≡ P.header ++ lines_of P (not fails) P.begin (whole_of pieces)
    begun-writes k h =
        run-writes k fails begun pieces begun-sound p (begun-few k h)
        ∙ ap (λ (l : List ℕ). l ++ lines_of P (not fails) P.begin (whole_of pieces)) (put-shows output 0 P.header header-fits)

  -- THE THEOREM
  pub in_pieces : InPiecesHolds P
  unfolding printed_of so_far_of
  in_pieces input output roomy wide pieces p =
      record { whole = begun-writes false input output roomy wide pieces p; failed = begun-writes true input output roomy wide pieces p }
