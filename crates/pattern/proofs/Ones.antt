-- What an OR does to the number of ones, for numbers of any width k: it has at least the ones of each part, more than either where
-- two different parts have equally many, and it contains each part's ones. By induction on the width, one digit at a time.
-- Assumes nothing.
use mathlib.Core.Path.{◌≡◌, refl, ap, ◌∙◌, sym}
use mathlib.Core.Bool.{true}
use Prim.Native.Nat.{ℕ, zero, suc, ◌+◌, ◌/◌, ◌%◌, ◌^◌, ◌≤◌, ◌<◌, max}
use native.Mathlib.Nat.{pow-suc}
use native.Mathlib.Omega.{arith}
use lib.Bits.{bit_and, bit_or, and_step, or_step, or_comm, or_zero_l, and_zero_r, and_shr, and_mod, and_le_l, or_add_and}
use lib.Count.{ones, ones_in, ones_step}
use borrow.Author.Tests.{eq-eqb, eqb-true}
use Rattle.pattern.specs.Ones.{contains_ones}

-- half of a number of k + 1 digits has k
half : (k n : ℕ) → n < 2 ^ suc k → n / 2 < 2 ^ k
half k n h = omega (arith, rw pow-suc at h)

-- the ones among the k lowest digits of a number of k digits are all its ones
pub ones-within : (k n : ℕ) → n < 2 ^ k → ones_in k n ≡ ones n
unfolding ones_in ones
ones-within zero n h = let z : n ≡ 0 = omega arith in rw z
ones-within (suc k) n h = ap (λ (x : ℕ). n % 2 + x) (ones-within k (n / 2) (half k n h)) ∙ sym (ones_step n)

pub ones_of_zero : ones 0 ≡ 0
unfolding ones ones_in
ones_of_zero = refl

-- an OR's lowest digit, and its rest
or_lowest : (a b : ℕ) → bit_or a b % 2 ≡ max (a % 2) (b % 2)
or_lowest a b = omega (arith, or_step a b)

or-rest : (a b : ℕ) → bit_or a b / 2 ≡ bit_or (a / 2) (b / 2)
or-rest a b = omega (arith, or_step a b)

or-ones : (a b : ℕ) → ones (bit_or a b) ≡ max (a % 2) (b % 2) + ones (bit_or (a / 2) (b / 2))
or-ones a b = ones_step (bit_or a b) ∙ rw (or_lowest a b, or-rest a b)

-- an OR has at least the ones of each part
pub or-at-least : (k a b : ℕ) → a < 2 ^ k → ones a ≤ ones (bit_or a b)
or-at-least zero a b h =
    let z : a ≡ 0 = omega arith in
    omega (arith, ap ones z, ones_of_zero)
or-at-least (suc k) a b h =
    omega (arith, or-ones a b, ones_step a, or-at-least k (a / 2) (b / 2) (half k a h))

pub or-at-least_right : (k a b : ℕ) → b < 2 ^ k → ones b ≤ ones (bit_or a b)
or-at-least_right k a b h = rw or_comm (or-at-least k b a h)

-- an OR with no more ones than one part is that part
or-no_more : (k a b : ℕ) → a < 2 ^ k → b < 2 ^ k → ones (bit_or a b) ≡ ones a → bit_or a b ≡ a
or-no_more zero a b ha hb e =
    let x : a ≡ 0 = omega arith in
    let y : b ≡ 0 = omega arith in
    rw (x, y)
or-no_more (suc k) a b ha hb e =
    let least = or-at-least k (a / 2) (b / 2) (half k a ha) in
    let rest : ones (bit_or (a / 2) (b / 2)) ≡ ones (a / 2) = omega (arith, or-ones a b, ones_step a) in
    let low : max (a % 2) (b % 2) ≡ a % 2 = omega (arith, or-ones a b, ones_step a) in
    omega (arith, or_step a b, or-no_more k (a / 2) (b / 2) (half k a ha) (half k b hb) rest)

-- of two different numbers with equally many ones the OR has more
pub or-more : (k a b : ℕ) → a < 2 ^ k → b < 2 ^ k → ones a ≡ ones b → (a ≡ b → ⊥) → ones a < ones (bit_or a b)
or-more k a b ha hb e differ =
    let unequal : ones a ≡ ones (bit_or a b) → ⊥ =
    λ q. differ (sym (or-no_more k a b ha hb (sym q)) ∙ or_comm a b ∙ or-no_more k b a hb ha (ap ones (or_comm b a) ∙ sym q ∙ e)) in
    omega (arith, or-at-least k a b ha)

-- an OR of three, grouped either way
or_assoc-within : (k a b c : ℕ) → a < 2 ^ k → bit_or (bit_or a b) c ≡ bit_or a (bit_or b c)
or_assoc-within zero a b c h =
    let z : a ≡ 0 = omega arith in
    rw (z, or_zero_l b, or_zero_l (bit_or b c))
or_assoc-within (suc k) a b c h =
    let left : bit_or (bit_or a b / 2) (c / 2) ≡ bit_or (a / 2) (bit_or (b / 2) (c / 2)) =
    rw (or-rest a b) (or_assoc-within k (a / 2) (b / 2) (c / 2) (half k a h)) in
    let right : bit_or (a / 2) (bit_or b c / 2) ≡ bit_or (a / 2) (bit_or (b / 2) (c / 2)) = rw (or-rest b c) in
    omega (arith, or_step (bit_or a b) c, or_step a (bit_or b c), or_lowest a b, or_lowest b c)

-- a number has no more digits than its own value
own_width : (n : ℕ) → n < 2 ^ n
own_width zero = omega arith
own_width (suc n) = rw pow-suc (omega (arith, own_width n))

pub or_assoc : (a b c : ℕ) → bit_or (bit_or a b) c ≡ bit_or a (bit_or b c)
or_assoc a b c = or_assoc-within a a b c (own_width a)

-- an OR contains each part's ones
or_absorbs : (k a b : ℕ) → a < 2 ^ k → bit_and (bit_or a b) a ≡ a
or_absorbs zero a b h =
    let z : a ≡ 0 = omega arith in
    rw z (and_zero_r (bit_or 0 b))
or_absorbs (suc k) a b h =
    let below : bit_and (bit_or a b / 2) (a / 2) ≡ a / 2 = rw (or-rest a b) (or_absorbs k (a / 2) (b / 2) (half k a h)) in
    omega (arith, and_step (bit_or a b) a, or_lowest a b)

pub or-contains : (k a b : ℕ) → a < 2 ^ k → contains_ones (bit_or a b) a ≡ true
unfolding contains_ones
or-contains k a b h = eq-eqb (bit_and (bit_or a b) a) a (or_absorbs k a b h)

pub or-contains_right : (k a b : ℕ) → b < 2 ^ k → contains_ones (bit_or a b) b ≡ true
or-contains_right k a b h = rw or_comm (or-contains k b a h)

-- what containing says of each digit, counted from 0: where v has a one, w has one
pub contains-digit : (w v i : ℕ) → contains_ones w v ≡ true → v / 2 ^ i % 2 ≤ w / 2 ^ i % 2
unfolding contains_ones
contains-digit w v i h =
    let e : bit_and w v ≡ v = eqb-true (bit_and w v) v h in
    let d : v / 2 ^ i % 2 ≡ bit_and (w / 2 ^ i % 2) (v / 2 ^ i % 2) =
    ap (λ (x : ℕ). x / 2 ^ i % 2) (sym e) ∙ ap (λ (x : ℕ). x % 2) (and_shr w v i) ∙ and_mod (w / 2 ^ i) (v / 2 ^ i) 1 in
    omega (arith, d, and_le_l (w / 2 ^ i % 2) (v / 2 ^ i % 2))

-- who contains a number's ones is not changed by an OR with it, and has at least as many
pub contains-or : (w v : ℕ) → contains_ones w v ≡ true → bit_or w v ≡ w
unfolding contains_ones
contains-or w v h = omega (arith, eqb-true (bit_and w v) v h, or_add_and w v)

pub contains-ones : (k w v : ℕ) → v < 2 ^ k → contains_ones w v ≡ true → ones v ≤ ones w
contains-ones k w v small h = omega (arith, or-at-least_right k w v small, ap ones (contains-or w v h))
