-- What is left of a sum that a loop takes away from a number. Assumes nothing.
use mathlib.Core.Path.{◌≡◌, sym, ◌∙◌}
use Prim.Native.Nat.{ℕ, zero, suc, ◌+◌}
use native.Mathlib.Omega.{arith}
use lib.Dec.{eqb}
use borrow.Author.Tests.{eq-eqb, ne_eqb}
use Rattle.stretches.specs.declared.Stretch.{Stretch}

-- what a read past the end of a list of stretches would give
abbrev pub no_stretch : Stretch
no_stretch = record { first = 0; left = 0 }

pub left_over : (s free q : ℕ) → s + free ≡ q → eqb free 0 ≡ eqb s q
left_over s zero q e = sym (eq-eqb s q (omega arith))
left_over s (suc n) q e = ne_eqb (suc n) 0 (λ z. omega arith) ∙ sym (ne_eqb s q (λ z. omega arith))
