-- Decimal numbers: what their digits are, how many they are, and that they read back as the number.
-- Each law goes by tenths: below ten, and from a tenth to the number.
-- Assumes nothing.
use mathlib.Core.Bool.{Bool, true, false, ◌&&◌, and-true, and_assoc}
use mathlib.Core.Path.{◌≡◌, refl, sym, ◌∙◌}
use mathlib.Core.List.{List, [], ◌∷◌, ◌++◌}
use Prim.Native.Nat.{ℕ, zero, suc, ◌+◌, ◌*◌, ◌/◌, ◌%◌, ◌^◌, ◌<◌, ◌≤◌, max}
use native.Mathlib.Nat.{div-add-mod, mod-lt, pow-suc}
use native.Mathlib.Omega.{arith}
use borrow.Author.Tests.{lt-ltb, le-ltb, le-leb, ltb-true, ltb-false}
use lib.Dec.{ltb}
use lib.ListN.{length, get_or, length-append, get_or-append}
use Rattle.listlaws.proofs.Fold.{foldl_snoc}
use Rattle.fields.specs.Fields.{every, is_digit, is_field, tenfold, numeral}
use Rattle.decimals.specs.Decimal.{digits_within, digits_of}

-- a tenth and what is left of it
tenth_less : (n k : ℕ) → 10 ≤ n → n ≤ suc k → n / 10 ≤ k
tenth_less n k h l = omega (arith, div-add-mod n 10, mod-lt n {m = 10} (omega arith))

-- enough is enough
enough : (k j n : ℕ) → n ≤ k → n ≤ j → digits_within k n ≡ digits_within j n
unfolding digits_within
enough zero zero n h l = refl
enough zero (suc j) n h l = rw (lt-ltb n 10 (omega arith))
enough (suc k) zero n h l = rw (lt-ltb n 10 (omega arith))
enough (suc k) (suc j) n h l = go (ltb n 10) refl (λ g. enough k j (n / 10) (tenth_less n k g h) (tenth_less n j g l))
  where
    go : (t : Bool) → ltb n 10 ≡ t → (10 ≤ n → digits_within k (n / 10) ≡ digits_within j (n / 10)) → digits_within (suc k) n ≡ digits_within (suc j) n
    go true e ih = rw e
    go false e ih = rw (e, ih (ltb-false n 10 e))

pub digits-one : (n : ℕ) → n < 10 → digits_of n ≡ (48 + n) ∷ []
unfolding digits_of digits_within
digits-one zero h = refl
digits-one (suc n) h = rw (lt-ltb (suc n) 10 h)

pub digits_more : (n : ℕ) → 10 ≤ n → digits_of n ≡ digits_of (n / 10) ++ ((48 + n % 10) ∷ [])
unfolding digits_of digits_within
digits_more zero h = absurd (omega arith)
digits_more (suc n) h = rw (le-ltb (suc n) 10 h, enough n (suc n / 10) (suc n / 10) (tenth_less (suc n) n h (omega arith)) (omega arith))

-- what holds below ten, and of a number where it holds of its tenth, holds of every number
by-tenths : (P : ℕ → Type 0) → ((n : ℕ) → n < 10 → P n) → ((n : ℕ) → 10 ≤ n → P (n / 10) → P n) → (k n : ℕ) → n ≤ k → P n
by-tenths P low high zero n h = low n (omega arith)
by-tenths P low high (suc k) n h = go (ltb n 10) refl (λ g. by-tenths P low high k (n / 10) (tenth_less n k g h))
  where
    go : (t : Bool) → ltb n 10 ≡ t → (10 ≤ n → P (n / 10)) → P n
    go true e ih = low n (ltb-true n 10 e)
    go false e ih = high n (ltb-false n 10 e) (ih (ltb-false n 10 e))

module _ (P : ℕ → Type 0) (low : (n : ℕ) → n < 10 → P n) (high : (n : ℕ) → 10 ≤ n → P (n / 10) → P n) where
  tenths : (n : ℕ) → P n
  tenths n = by-tenths P low high n n (omega arith)

-- THE DIGITS READ BACK AS THE NUMBER
pub reads_back : (n : ℕ) → numeral (digits_of n) ≡ n
unfolding numeral
reads_back = tenths (λ (n : ℕ). numeral (digits_of n) ≡ n)
    (λ n h. rw (digits-one n h) (omega arith))
    (λ n h e. rw (digits_more n h, foldl_snoc tenfold, e) (omega (arith, div-add-mod n 10)))

-- they are digits
every_snoc : (l : List ℕ) (b : ℕ) → every is_digit (l ++ (b ∷ [])) ≡ (every is_digit l && is_digit b)
unfolding every
every_snoc [] b = and-true (is_digit b)
every_snoc (x ∷ l) b = rw (every_snoc l b) (sym (and_assoc (is_digit x) (every is_digit l) (is_digit b)))

digit : (d : ℕ) → d < 10 → is_digit (48 + d) ≡ true
unfolding is_digit
digit d h = rw (le-leb 48 (48 + d) (omega arith), le-leb (48 + d) 57 (omega arith))

pub all_digits : (n : ℕ) → every is_digit (digits_of n) ≡ true
unfolding every
all_digits = tenths (λ (n : ℕ). every is_digit (digits_of n) ≡ true)
    (λ n h. rw (digits-one n h, digit n h))
    (λ n h e. rw (digits_more n h, every_snoc, e, digit (n % 10) (mod-lt n (omega arith))))

-- how many they are
pub digits-some : (n : ℕ) → 1 ≤ length (digits_of n)
digits-some = tenths (λ (n : ℕ). 1 ≤ length (digits_of n))
    (λ n h. rw (digits-one n h) (omega arith))
    (λ n h e. rw (digits_more n h, length-append) (omega arith))

pub digits-shorter : (n : ℕ) → 10 ≤ n → length (digits_of n) ≡ length (digits_of (n / 10)) + 1
digits-shorter n h = rw (digits_more n h, length-append)

tenth_below : (k n : ℕ) → n < 10 ^ suc (suc k) → n / 10 < 10 ^ suc k
tenth_below k n h =
    let p : 10 ^ suc (suc k) ≡ 10 ^ suc k * 10 = pow-suc 10 (suc k) in
    omega (arith, div-add-mod n 10)

pub digits-few : (k n : ℕ) → n < 10 ^ suc k → length (digits_of n) ≤ suc k
digits-few zero n h = rw (digits-one n h) (omega arith)
digits-few (suc k) n h = go (ltb n 10) refl (λ g. digits-few k (n / 10) (tenth_below k n h))
  where
    go : (t : Bool) → ltb n 10 ≡ t → (10 ≤ n → length (digits_of (n / 10)) ≤ suc k) → length (digits_of n) ≤ suc (suc k)
    go true e ih = rw (digits-one n (ltb-true n 10 e)) (omega arith)
    go false e ih = rw (digits-shorter n (ltb-false n 10 e)) (omega (arith, ih (ltb-false n 10 e)))

ten_some : (k : ℕ) → 1 ≤ 10 ^ k
ten_some zero = omega arith
ten_some (suc k) =
    let p : 10 ^ suc k ≡ 10 ^ k * 10 = pow-suc 10 k in
    omega (arith, ten_some k)

pub digits-many : (k n : ℕ) → 10 ^ k ≤ n → suc k ≤ length (digits_of n)
digits-many zero n h = digits-some n
digits-many (suc k) n h =
    let p : 10 ^ suc k ≡ 10 ^ k * 10 = pow-suc 10 k in
    let one : 1 ≤ 10 ^ k = ten_some k in
    let tenth : 10 ^ k ≤ n / 10 = omega (arith, div-add-mod n 10, mod-lt n {m = 10} (omega arith)) in
    rw (digits-shorter n (omega arith)) (omega (arith, digits-many k (n / 10) tenth))

-- the power of ten that a number reaches tells how many, where 0 counts as 1
pub digits-log : (k n : ℕ) → 10 ^ k ≤ max n 1 → max n 1 < 10 * 10 ^ k → length (digits_of n) ≡ k + 1
digits-log k zero h l =
    let one : length (digits_of 1) ≡ 1 = rw (digits-one 1 (omega arith)) in
    rw (digits-one 0 (omega arith)) (omega (arith, digits-many k 1 h))
digits-log k (suc n) h l =
    let p : 10 ^ suc k ≡ 10 ^ k * 10 = pow-suc 10 k in
    omega (arith, digits-many k (suc n) (omega arith), digits-few k (suc n) (omega arith))

pub digits-lone : (n : ℕ) → length (digits_of n) ≤ 1 → n < 10
digits-lone n h = go (ltb n 10) refl
  where
    go : (t : Bool) → ltb n 10 ≡ t → n < 10
    go true e = ltb-true n 10 e
    go false e = omega (arith, digits-shorter n (ltb-false n 10 e), digits-some (n / 10), ltb-false n 10 e)

pub digits-ten : (n : ℕ) → 1 < length (digits_of n) → 10 ≤ n
digits-ten n h = go (ltb n 10) refl
  where
    go : (t : Bool) → ltb n 10 ≡ t → 10 ≤ n
    go true e = let one : length (digits_of n) ≡ 1 = rw (digits-one n (ltb-true n 10 e)) in absurd (omega arith)
    go false e = ltb-false n 10 e

-- a number below 100,000 is written as a field that reads back
pub digits_field : (n : ℕ) → n < 100000 → is_field (digits_of n) ≡ true
unfolding is_field
digits_field n h = rw (le-leb 1 (length (digits_of n)) (digits-some n), le-leb (length (digits_of n)) 5 (digits-few 4 n h), all_digits n)

-- and 0 stands in front of no other digit
pub no_zero_first : (n : ℕ) → 0 < n → get_or (digits_of n) 0 0 ≡ 48 → ⊥
no_zero_first = tenths (λ (n : ℕ). 0 < n → get_or (digits_of n) 0 0 ≡ 48 → ⊥)
    (λ n h p e. let f : 48 + n ≡ 48 = rw (digits-one n h) at e in omega arith)
    (λ n h ih p e.
    let f : get_or (digits_of (n / 10)) 0 0 ≡ 48
    = sym (get_or-append (digits_of (n / 10)) ((48 + n % 10) ∷ []) 0 0 (digits-some (n / 10))) ∙ (rw (digits_more n h) at e) in
    ih (omega (arith, div-add-mod n 10, mod-lt n {m = 10} (omega arith))) f)
