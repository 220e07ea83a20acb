-- One round of the loop over the records in a buffer, by any program: no room, a record that went through, one that did not, and no round left.
-- Assumes nothing.
use mathlib.Core.Bool.{Bool, true, false}
use mathlib.Core.Path.{◌≡◌, refl, ap, sym, ◌∙◌}
use mathlib.Core.List.{List}
use Prim.Native.Nat.{ℕ, zero, suc, ◌+◌, ◌<◌, ◌≤◌}
use native.Mathlib.Numerals.{add-one}
use native.Mathlib.Omega.{arith}
use lib.ListN.{length}
use Rattle.programs.specs.declared.Progress.TheVariants.{Went}
use Rattle.programs.specs.Program.{Program}
use Rattle.programs.specs.Advancing.{goes_on, advance_of}
use Rattle.programs.specs.Buffering.{put_lines, Reached, Buffered, reached, room_for, buffered_step, buffered_from, buffered_of}

module _ {S : Type 0} (P : Program S) where
  -- the loop begins with one round more than there are bytes
  pub begun : (s : S) (bytes : List ℕ) (start : ℕ) (ended : Bool) (buffer : List ℕ) (at k : ℕ) → k ≡ length bytes + 1
      → buffered_from P k bytes ended buffer (record { progress = Went; state = s; next = start; at = at }) ≡ buffered_of P s bytes start ended buffer at
  unfolding buffered_of
  begun s bytes start ended buffer at k h = rw (h, add-one)

  -- what is equal has equal parts
  pub parts_are : {buffer : List ℕ} {n : Reached S} {h : Buffered S} → ◌≡◌ {A = Buffered S} (record { buffer = buffer; answer = n }) h → (buffer ≡ h.buffer) × (n ≡ h.answer)
  parts_are e = (ap (λ (s : Buffered S). s.buffer) e, ap (λ (s : Buffered S). s.answer) e)

  module _ (bytes : List ℕ) (ended : Bool) (buffer : List ℕ) (n : Reached S) where
    pub no_round : (k : ℕ) → k ≤ 0 → buffered_from P k bytes ended buffer n ≡ record { buffer = buffer; answer = n }
    unfolding buffered_from
    no_round zero h = refl
    no_round (suc k) h = absurd (omega arith)

    pub no_room : (k : ℕ) → 0 < k → room_for P (length buffer) n.at ≡ false → buffered_from P k bytes ended buffer n ≡ record { buffer = buffer; answer = n }
    unfolding buffered_from
    no_room zero h e = absurd (omega arith)
    no_room (suc k) h e = rw e

    -- the buffer and the answer after the record at the answer's place
    module _ (buffer' : List ℕ) (n' : Reached S) (stored : buffer' ≡ put_lines buffer n.at (advance_of P n.state bytes n.next ended).lines)
        (answered : n' ≡ reached (advance_of P n.state bytes n.next ended) buffer n.at) (room : room_for P (length buffer) n.at ≡ true) where
      step_is : ◌≡◌ {A = Buffered S} (record { buffer = buffer'; answer = n' }) (buffered_step P bytes ended buffer n)
      step_is = rw (stored, answered)

      pub went_on : (k left : ℕ) → k ≡ left + 1 → goes_on n'.progress ≡ true → buffered_from P k bytes ended buffer n ≡ buffered_from P left bytes ended buffer' n'
      unfolding buffered_from
      went_on k left h e =
          let g : goes_on (buffered_step P bytes ended buffer n).answer.progress ≡ true = ap (λ (s : Buffered S). goes_on s.answer.progress) (sym step_is) ∙ e in
          rw (h, add-one, room, g) (ap (λ (s : Buffered S). buffered_from P left bytes ended s.buffer s.answer) (sym step_is))

      pub stopped : (k : ℕ) → 0 < k → goes_on n'.progress ≡ false → buffered_from P k bytes ended buffer n ≡ record { buffer = buffer'; answer = n' }
      unfolding buffered_from
      stopped zero h e = absurd (omega arith)
      stopped (suc k) h e =
          let g : goes_on (buffered_step P bytes ended buffer n).answer.progress ≡ false = ap (λ (s : Buffered S). goes_on s.answer.progress) (sym step_is) ∙ e in
          rw (room, g) (sym step_is)
