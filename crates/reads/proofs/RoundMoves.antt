-- Each round of a run of a lawful program goes on: a record is read, or the output buffer was full and is written, or bytes are missing and
-- are read. Assumes nothing.
use mathlib.Core.Bool.{Bool, true, false, cond}
use mathlib.Core.Path.{◌≡◌, refl, ap, ◌∙◌}
use mathlib.Core.List.{List, []}
use Prim.Native.Nat.{ℕ, suc, ◌+◌, ◌<◌, ◌≤◌}
use native.Mathlib.Omega.{arith}
use lib.ListN.{length}
use Rattle.programs.specs.declared.Progress.{Progress}
use Rattle.programs.specs.declared.Progress.TheVariants.{Went, More, Done, Refused}
use Rattle.programs.specs.Program.{Program}
use Rattle.programs.specs.Advancing.{Advance, goes_on, advance_of}
use Rattle.programs.specs.Buffering.{place_after_lines, Reached, Buffered, room_for, buffered_step, buffered_from}
use Rattle.programs.specs.Whole.{finished}
use Rattle.programs.proofs.Pieces.{further, asks-more}
use Rattle.reads.specs.Lawful.{Lawful}
use Rattle.reads.proofs.RoundLoop.{goes-went, step-size, step-within, step-good, loop-left}

-- 1 where the output buffer has no room for another line
abbrev pub full : {S : Type 0} → Program S → ℕ → ℕ → ℕ
full P room at = cond (room_for P room at) 0 1

-- what a round that does not end has to show for itself
abbrev pub cost : Progress → ℕ → ℕ
cost Went x = 1
cost More x = x
cost Done x = 0
cost (Refused n) x = 0

full-most : (b : Bool) → cond b 0 1 ≤ 1
full-most true = omega arith
full-most false = omega arith

cost-most : {S : Type 0} (P : Program S) (p : Progress) (room at : ℕ) → cost p (full P room at) ≤ 1
cost-most P Went room at = omega arith
cost-most P More room at = full-most (room_for P room at)
cost-most P Done room at = omega arith
cost-most P (Refused n) room at = omega arith

module _ {S : Type 0} (P : Program S) (L : Lawful P) (ended : Bool) (bytes buffer : List ℕ) (n : Reached S) (w : n.progress ≡ Went) (i : n.next ≤ length bytes)
    (a : n.at ≤ length buffer) (p : L.Good n.state) where
  -- the first record
  abbrev this : Advance S
  this = advance_of P n.state bytes n.next ended

  abbrev step : Buffered S
  step = buffered_step P bytes ended buffer n

  -- the loop goes on after it
  pub more-records : (k : ℕ) → room_for P (length buffer) n.at ≡ true → goes_on this.progress ≡ true
      → finished (buffered_from P k bytes ended step.buffer step.answer).answer.progress ≡ false
      → n.next < (buffered_from P k bytes ended step.buffer step.answer).answer.next
  more-records k r e d =
      let o : ended ≡ true → (◌≡◌ {A = List ℕ} [] []) × (ended ≡ true) = λ z. (refl, z) in
      let x = further P n.state bytes n.next ended e in
      let l = loop-left P L ended ended bytes [] o k step.buffer step.answer (goes-went _ e) x.1
      (omega (arith, step-within P L ended ended bytes [] o buffer n i p r, step-size P L ended ended bytes [] o buffer n i p r))
      (step-good P L ended ended bytes [] o buffer n i p r) in
      omega (arith, l.onward d, x.0)

  -- it is the last one: it asks for more bytes, and nothing was written
  last_record : room_for P (length buffer) n.at ≡ true → goes_on this.progress ≡ false → finished this.progress ≡ false
      → n.next + cost this.progress (full P (length buffer) step.answer.at) ≤ this.next
  last_record r g d = go this.progress refl g d
    where
      go : (q : Progress) → this.progress ≡ q → goes_on q ≡ false → finished q ≡ false
          → n.next + cost q (full P (length buffer) step.answer.at) ≤ this.next
      go Went e g d = let z : ◌≡◌ {A = ℕ} 0 1 = cc in absurd (omega arith)
      go More e g d =
          let k = asks-more P n.state bytes n.next ended e in
          let same : this.next ≡ n.next = ap (λ (a : Advance S). a.next) k.stays in
          let place : step.answer.at ≡ n.at = ap (λ (a : Advance S). place_after_lines buffer n.at a.lines) k.stays in
          let none : full P (length buffer) step.answer.at ≡ 0 = ap (full P (length buffer)) place ∙ ap (λ (b : Bool). cond b 0 1) r in
          omega (arith, same, none)
      go Done e g d = let z : ◌≡◌ {A = ℕ} 0 1 = cc in absurd (omega arith)
      go (Refused n) e g d = let z : ◌≡◌ {A = ℕ} 0 1 = cc in absurd (omega arith)

  pub loop-moves : (k : ℕ) → finished (buffered_from P (suc k) bytes ended buffer n).answer.progress ≡ false
      → n.next + cost (buffered_from P (suc k) bytes ended buffer n).answer.progress (full P (length buffer) (buffered_from P (suc k) bytes ended buffer n).answer.at)
      ≤ (buffered_from P (suc k) bytes ended buffer n).answer.next + full P (length buffer) n.at
  unfolding buffered_from
  loop-moves k = go (room_for P (length buffer) n.at) refl (goes_on this.progress) refl
    where
      left : Bool → Bool → Buffered S
      left b g = cond b (cond g (buffered_from P k bytes ended step.buffer step.answer) step) (record { buffer = buffer; answer = n })

      go : (b : Bool) → room_for P (length buffer) n.at ≡ b → (g : Bool) → goes_on this.progress ≡ g → finished (left b g).answer.progress ≡ false
          → n.next + cost (left b g).answer.progress (full P (length buffer) (left b g).answer.at) ≤ (left b g).answer.next + cond b 0 1
      go false r g e d = omega (arith, cost-most P n.progress (length buffer) n.at)
      go true r true e d =
          let on = buffered_from P k bytes ended step.buffer step.answer in
          omega (arith, more-records k r e d, cost-most P on.answer.progress (length buffer) on.answer.at)
      go true r false e d = omega (arith, last_record r e d)
