-- The lines of the records of some bytes, by any program, wherever the bytes stand and however long the count of records is:
-- `lines_step`: the first record's lines, and then the lines of what is left. Assumes nothing.
use mathlib.Core.Bool.{Bool, true, false, cond}
use mathlib.Core.Path.{◌≡◌, refl, ap, sym, ◌∙◌}
use mathlib.Core.List.{List, [], ◌++◌}
use Prim.Native.Nat.{ℕ, zero, suc, ◌+◌, ◌<◌, ◌≤◌}
use native.Mathlib.Omega.{arith}
use lib.ListN.{length, take, drop, take-append-drop, length-drop}
use lib.Seq.{length-take-le}
use Rattle.programs.specs.Program.{Program}
use Rattle.programs.specs.Advancing.{Advance, goes_on, joined, advance_of, lines_from}
use Rattle.programs.proofs.Pieces.{further}
use Rattle.programs.proofs.Shifts.{shifted_advance}

module _ {S : Type 0} (P : Program S) where
  module _ (ended : Bool) where
    -- one round more than there are bytes left is enough, and more change nothing
    enough-rounds : (input : List ℕ) (j k : ℕ) (s : S) (start : ℕ) → start ≤ length input → length input < start + j → length input < start + k
        → lines_from P ended j s input start ≡ lines_from P ended k s input start
    unfolding lines_from
    enough-rounds input zero k s start i h₁ h₂ = absurd (omega arith)
    enough-rounds input (suc j) zero s start i h₁ h₂ = absurd (omega arith)
    enough-rounds input (suc j) (suc k) s start i h₁ h₂ = go (goes_on (advance_of P s input start ended).progress) refl
        (enough-rounds input j k (advance_of P s input start ended).state (advance_of P s input start ended).next)
      where
        go : (b : Bool) → goes_on (advance_of P s input start ended).progress ≡ b
            → ((advance_of P s input start ended).next ≤ length input → length input < (advance_of P s input start ended).next + j
            → length input < (advance_of P s input start ended).next + k
            → lines_from P ended j (advance_of P s input start ended).state input (advance_of P s input start ended).next
            ≡ lines_from P ended k (advance_of P s input start ended).state input (advance_of P s input start ended).next)
            → joined (advance_of P s input start ended).lines
            ++ cond b (lines_from P ended j (advance_of P s input start ended).state input (advance_of P s input start ended).next) []
            ≡ joined (advance_of P s input start ended).lines
            ++ cond b (lines_from P ended k (advance_of P s input start ended).state input (advance_of P s input start ended).next) []
        go true e ih =
            let x = further P s input start ended e in
            ap (λ (l : List ℕ). joined (advance_of P s input start ended).lines ++ l) (ih x.1 (omega (arith, x.0)) (omega (arith, x.0)))
        go false e ih = refl

    -- bytes in front of them change nothing
    lines-shifted : (before input : List ℕ) (k : ℕ) (s : S) (start : ℕ)
        → lines_from P ended k s (before ++ input) (length before + start) ≡ lines_from P ended k s input start
    unfolding lines_from
    lines-shifted before input zero s start = refl
    lines-shifted before input (suc k) s start =
        ap (λ (a : Advance S). joined a.lines ++ cond (goes_on a.progress) (lines_from P ended k a.state (before ++ input) a.next) [])
        (shifted_advance P s before input start ended)
        ∙ ap (λ (l : List ℕ). joined (advance_of P s input start ended).lines ++ cond (goes_on (advance_of P s input start ended).progress) l [])
        (lines-shifted before input k (advance_of P s input start ended).state (advance_of P s input start ended).next)

    -- the first record
    abbrev pub ahead : S → List ℕ → Advance S
    ahead s input = advance_of P s input 0 ended

    -- all lines of some bytes
    abbrev pub lines_of : S → List ℕ → List ℕ
    lines_of s input = lines_from P ended (suc (length input)) s input 0

    module _ (s : S) (input : List ℕ) where
      left_over : (ahead s input).next ≤ length input → 0 < (ahead s input).next
          → lines_from P ended (length input) (ahead s input).state input (ahead s input).next
          ≡ lines_of (ahead s input).state (drop (ahead s input).next input)
      left_over i h =
          let next = (ahead s input).next in
          let after = (ahead s input).state in
          let t : length (take next input) ≡ next = length-take-le next input i in
          let z : length (take next input) + 0 ≡ next = omega arith in
          let d = length-drop next input in
          ap (λ (p : ℕ). lines_from P ended (length input) after input p) (sym z)
          ∙ ap (λ (l : List ℕ). lines_from P ended (length input) after l (length (take next input) + 0)) (sym (take-append-drop next input))
          ∙ lines-shifted (take next input) (drop next input) (length input) after 0
          ∙ enough-rounds (drop next input) (length input) (suc (length (drop next input))) after 0 (omega arith) (omega (arith, d)) (omega arith)

      pub lines_step : lines_of s input
          ≡ joined (ahead s input).lines
          ++ cond (goes_on (ahead s input).progress) (lines_of (ahead s input).state (drop (ahead s input).next input)) []
      unfolding lines_from
      lines_step = go (goes_on (ahead s input).progress) refl
        where
          go : (b : Bool) → goes_on (ahead s input).progress ≡ b
              → joined (ahead s input).lines ++ cond b (lines_from P ended (length input) (ahead s input).state input (ahead s input).next) []
              ≡ joined (ahead s input).lines ++ cond b (lines_of (ahead s input).state (drop (ahead s input).next input)) []
          go true e = let x = further P s input 0 ended e in ap (λ (l : List ℕ). joined (ahead s input).lines ++ l) (left_over x.1 x.0)
          go false e = refl
