-- A number in decimal: its digits as bytes, the highest first, no 0 in front. The byte of the digit d is 48 + d.
use Rattle.std.specs.Prelude.{cond, ◌≡◌, List, [], ◌∷◌, ◌++◌, ℕ, zero, suc, ◌+◌, ◌/◌, ◌%◌, ltb, length}

-- below ten one digit; else those of a tenth, and then the last digit. The first argument bounds how often; the number itself is enough.
unfoldable pub digits_within : ℕ → ℕ → List ℕ
digits_within zero n = (48 + n) ∷ []
digits_within (suc k) n =
    let tenth = digits_within k (n / 10) in
    cond (ltb n 10) ((48 + n) ∷ []) (tenth ++ ((48 + n % 10) ∷ []))

unfoldable pub digits_of : ℕ → List ℕ
digits_of n = digits_within n n

-- a number has so many digits
abbrev pub HasDigits : ℕ → ℕ → Type 0
HasDigits value size = size ≡ length (digits_of value)
