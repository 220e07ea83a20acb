-- Two tests on numbers are the same where each says what the other says. Assumes nothing.
use mathlib.Core.Path.{◌≡◌, refl, sym}
use mathlib.Core.Bool.{Bool, true, false, ◌&&◌}
use Prim.Native.Nat.{ℕ, ◌≤◌, ◌<◌}
use lib.Dec.{eqb, leb, ltb}
use borrow.Author.Tests.{le-leb, lt-ltb, eq-eqb, leb-true, ltb-true, eqb-true}

same_test : (a b : Bool) → (a ≡ true → b ≡ true) → (b ≡ true → a ≡ true) → a ≡ b
same_test true b f g = sym (f refl)
same_test false true f g = g refl
same_test false false f g = refl

pub same-leb : (a b c d : ℕ) → (a ≤ b → c ≤ d) × (c ≤ d → a ≤ b) → leb a b ≡ leb c d
same-leb a b c d (f, g) = same_test (leb a b) (leb c d) (λ e. le-leb c d (f (leb-true a b e))) (λ e. le-leb a b (g (leb-true c d e)))

pub same-ltb : (a b c d : ℕ) → (a < b → c < d) × (c < d → a < b) → ltb a b ≡ ltb c d
same-ltb a b c d (f, g) = same_test (ltb a b) (ltb c d) (λ e. lt-ltb c d (f (ltb-true a b e))) (λ e. lt-ltb a b (g (ltb-true c d e)))

pub same-eqb : (a b c d : ℕ) → (a ≡ b → c ≡ d) × (c ≡ d → a ≡ b) → eqb a b ≡ eqb c d
same-eqb a b c d (f, g) = same_test (eqb a b) (eqb c d) (λ e. eq-eqb c d (f (eqb-true a b e))) (λ e. eq-eqb a b (g (eqb-true c d e)))

pub both-same : (a b c d : Bool) → a ≡ c → b ≡ d → (a && b) ≡ (c && d)
both-same a b c d p q = rw (p, q)
