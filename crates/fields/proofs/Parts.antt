-- The parts of a record, at the place of the bytes that a reader of one field has reached: one law for each way that the next byte, or the end, can go.
-- `read_from at v d ps` is what the reader answers at place `at`, with v read so far of d digits, where the parts ps begin there.
-- Assumes nothing.
use Rattle.std.specs.Prelude.{Option, Some, None}
use mathlib.Core.Bool.{Bool, true, false, cond, ◌&&◌, and-false, true≢false}
use mathlib.Core.Path.{◌≡◌, refl, ◌∙◌}
use mathlib.Core.List.{List, [], ◌∷◌, foldl}
use Prim.Native.Nat.{ℕ, zero, suc, ◌+◌, ◌*◌, ◌^◌, ◌<◌, ◌≤◌}
use native.Mathlib.Nat.{pow-suc, pow-le-pow_right, lt_of_lt_of_le}
use native.Mathlib.Numerals.{add-one}
use native.Mathlib.Omega.{arith}
use borrow.Author.Tests.{eq-eqb, ne_eqb, le-leb, lt-leb}
use lib.Dec.{leb, eqb}
use lib.ListN.{length, get_or, drop, drop_of_length-le}
use Rattle.fields.specs.Fields.{onto, parts, every, is_digit, is_field, tenfold, numeral}
use Rattle.fields.specs.Steps.{none, field_of}
use Rattle.fields.specs.declared.Field.{Field}
use Rattle.listlaws.proofs.Loops.{rest}

-- a record has one part at least
some-onto : (b : ℕ) (ps : List (List ℕ)) → none (onto b ps) ≡ false
unfolding onto none
some-onto b [] = refl
some-onto b (p ∷ ps) = refl

some-cond : (t : Bool) (b : ℕ) (ps : List (List ℕ)) → none (cond t ([] ∷ ps) (onto b ps)) ≡ false
unfolding none
some-cond true b ps = refl
some-cond false b ps = some-onto b ps

pub some-parts : (l : List ℕ) → none (parts l) ≡ false
unfolding parts none
some-parts [] = refl
some-parts (b ∷ l) = some-cond (eqb b 44) b (parts l)

-- the rest p of a field whose first d digits are v
one : ℕ → ℕ → ℕ → List ℕ → Bool → Option Field
one at v d p last =
    cond (leb 1 (d + length p) && (leb (d + length p) 5 && every is_digit p))
    (Some (record { value = foldl tenfold v p; next = at + length p + 1; last = last }))
    None

pub read_from : ℕ → ℕ → ℕ → List (List ℕ) → Option Field
read_from at v d [] = one at v d [] true
read_from at v d (p ∷ ps) = one at v d p (none ps)

-- no digit is left: the field ends here
one_none : (at v d : ℕ) (last : Bool) → d ≡ 0 → one at v d [] last ≡ None
unfolding one
one_none at v d last e = rw e

one-done : (at v d : ℕ) (last : Bool) → (d ≡ 0 → ⊥) → d ≤ 5 → one at v d [] last ≡ Some (record { value = v; next = at + 1; last = last })
unfolding one every
one-done at v zero last e h = absurd (e refl)
one-done at v (suc d) last e h =
    let n : suc d + 0 ≡ suc d = omega arith in
    let z : at + 0 ≡ at = omega arith in
    rw (n, z, le-leb 1 (suc d) (omega arith), le-leb (suc d) 5 h)

-- one byte more of the field
one-digit : (at v d b : ℕ) (p : List ℕ) (last : Bool) → is_digit b ≡ true → one at v d (b ∷ p) last ≡ one (at + 1) (tenfold v b) (d + 1) p last
unfolding one every
one-digit at v d b p last e =
    let n : d + suc (length p) ≡ d + 1 + length p = omega arith in
    let z : at + suc (length p) ≡ at + 1 + length p = omega arith in
    rw (n, z, e)

one-other : (at v d b : ℕ) (p : List ℕ) (last : Bool) → is_digit b ≡ false → one at v d (b ∷ p) last ≡ None
unfolding one every
one-other at v d b p last e = simp (e, and-false)

one-full : (at v d b : ℕ) (p : List ℕ) (last : Bool) → d ≡ 5 → one at v d (b ∷ p) last ≡ None
unfolding one every
one-full at v d b p last e = simp (lt-leb (d + suc (length p)) 5 (omega arith), and-false)

module _ (at v d : ℕ) (b : ℕ) where
  onto-digit : (ps : List (List ℕ)) → is_digit b ≡ true → read_from at v d (onto b ps) ≡ read_from (at + 1) (tenfold v b) (d + 1) ps
  unfolding read_from onto none
  onto-digit [] e = one-digit at v d b [] true e
  onto-digit (p ∷ ps) e = one-digit at v d b p (none ps) e

  onto-other : (ps : List (List ℕ)) → is_digit b ≡ false → read_from at v d (onto b ps) ≡ None
  unfolding read_from onto none
  onto-other [] e = one-other at v d b [] true e
  onto-other (p ∷ ps) e = one-other at v d b p (none ps) e

  onto-full : (ps : List (List ℕ)) → d ≡ 5 → read_from at v d (onto b ps) ≡ None
  unfolding read_from onto none
  onto-full [] e = one-full at v d b [] true e
  onto-full (p ∷ ps) e = one-full at v d b p (none ps) e

-- which bytes are digits
pub below-digits : (b : ℕ) → b < 48 → is_digit b ≡ false
unfolding is_digit
below-digits b h = rw (lt-leb 48 b h)

pub above-digits : (b : ℕ) → 57 < b → is_digit b ≡ false
unfolding is_digit
above-digits b h = rw (lt-leb b 57 h) (and-false (leb 48 b))

pub among-digits : (b : ℕ) → 48 ≤ b → b ≤ 57 → is_digit b ≡ true
unfolding is_digit
among-digits b h k = rw (le-leb 48 b h, le-leb b 57 k)

starts : (at : ℕ) (ps : List (List ℕ)) → none ps ≡ false → read_from at 0 0 ps ≡ field_of at ps
unfolding read_from one field_of is_field numeral none
starts at [] e = absurd (true≢false e)
starts at (p ∷ ps) e = let z : 0 + length p ≡ length p = omega arith in rw z

-- the reader at place `at` of the bytes
module _ (at v d : ℕ) (bytes : List ℕ) where
  pub read-start : read_from at 0 0 (parts (drop at bytes)) ≡ field_of at (parts (drop at bytes))
  read-start = starts at (parts (drop at bytes)) (some-parts (drop at bytes))

  at_end : length bytes ≤ at → read_from at v d (parts (drop at bytes)) ≡ one at v d [] true
  unfolding read_from parts none
  at_end h = rw (drop_of_length-le bytes h)

  pub end_none : length bytes ≤ at → d ≡ 0 → read_from at v d (parts (drop at bytes)) ≡ None
  end_none h e = at_end h ∙ one_none at v d true e

  pub end_done : length bytes ≤ at → (d ≡ 0 → ⊥) → d ≤ 5 → read_from at v d (parts (drop at bytes)) ≡ Some (record { value = v; next = at + 1; last = true })
  end_done h e k = at_end h ∙ one-done at v d true e k

  at_comma : at < length bytes → get_or bytes at 0 ≡ 44 → read_from at v d (parts (drop at bytes)) ≡ one at v d [] false
  unfolding read_from parts
  at_comma h e = rw (rest bytes at 0 h, eq-eqb _ _ e, some-parts (drop (at + 1) bytes))

  pub comma_none : at < length bytes → get_or bytes at 0 ≡ 44 → d ≡ 0 → read_from at v d (parts (drop at bytes)) ≡ None
  comma_none h c e = at_comma h c ∙ one_none at v d false e

  pub comma_done : at < length bytes → get_or bytes at 0 ≡ 44 → (d ≡ 0 → ⊥) → d ≤ 5 → read_from at v d (parts (drop at bytes)) ≡ Some (record { value = v; next = at + 1; last = false })
  comma_done h c e k = at_comma h c ∙ one-done at v d false e k

  at_byte : at < length bytes → (get_or bytes at 0 ≡ 44 → ⊥) → parts (drop at bytes) ≡ onto (get_or bytes at 0) (parts (drop (at + 1) bytes))
  unfolding parts
  at_byte h n = rw (rest bytes at 0 h, ne_eqb _ _ n)

  pub byte-other : at < length bytes → (get_or bytes at 0 ≡ 44 → ⊥) → is_digit (get_or bytes at 0) ≡ false → read_from at v d (parts (drop at bytes)) ≡ None
  byte-other h n e = rw (at_byte h n) (onto-other at v d _ _ e)

  pub byte_full : at < length bytes → (get_or bytes at 0 ≡ 44 → ⊥) → d ≡ 5 → read_from at v d (parts (drop at bytes)) ≡ None
  byte_full h n e = rw (at_byte h n) (onto-full at v d _ _ e)

  pub byte-digit : at < length bytes → (get_or bytes at 0 ≡ 44 → ⊥) → is_digit (get_or bytes at 0) ≡ true
      → read_from at v d (parts (drop at bytes)) ≡ read_from (at + 1) (tenfold v (get_or bytes at 0)) (d + 1) (parts (drop (at + 1) bytes))
  byte-digit h n e = rw (at_byte h n) (onto-digit at v d _ _ e)

-- what d digits can write
pub grows : (v d x : ℕ) → v < 10 ^ d → x ≤ 9 → v * 10 + x < 10 ^ (d + 1)
grows v d x h k = let p : 10 ^ suc d ≡ 10 ^ d * 10 = pow-suc 10 d in rw (add-one, p) (omega arith)

pub four_digits : (v d : ℕ) → v < 10 ^ d → d ≤ 4 → v < 10000
four_digits v d h k = lt_of_lt_of_le h (pow-le-pow_right (omega arith) k)
