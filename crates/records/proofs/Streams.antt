-- What a program that reads the input piece by piece needs of `cut_of`:
-- `settled`: an answer other than More stays as it is, whatever bytes come after; so it does not depend on how the input is divided into reads;
-- `enough_bytes`: More is answered only of few bytes, one more than a record may have, so a buffer of two more is enough;
-- `extent`, `inside`: a record lies inside the bytes, has no more of them than it may, and the next begins after its start.
-- `begins-moved`: bytes in front of a record move its places by as many and change nothing else;
-- `moved_on`: where the bytes before the record are dropped, every place is that much lower, so a buffer may be moved up.
-- Assumes nothing.
use mathlib.Core.Bool.{Bool, true, false, cond}
use mathlib.Core.Path.{◌≡◌, refl, ap, sym, ◌∙◌}
use mathlib.Core.List.{List, [], ◌∷◌, ◌++◌}
use Prim.Native.Nat.{ℕ, zero, suc, ◌+◌, ◌-◌, ◌<◌, ◌≤◌}
use native.Mathlib.Omega.{arith}
use borrow.Author.Tests.{ltb-true, ltb-false}
use lib.Dec.{eqb, ltb}
use lib.ListN.{length, drop, length-drop, drop_of_length-le}
use lib.Seq.{drop-append-le}
use Rattle.records.proofs.Cuts.{begins-none}
use Rattle.records.specs.Cutting.{after_return, goes_on, begins, cut_of}
use Rattle.records.specs.declared.Cut.{Cut}
use Rattle.records.specs.declared.Cut.TheVariants.{Record, More, Done, Broken}

-- More bytes change no answer but More.
module _ (longest : ℕ) (ended : Bool) (more : List ℕ) (c : Cut) (some : More ≡ c → ⊥) where
  return_settled : (at : ℕ) (l : List ℕ) → after_return false at l ≡ c → after_return ended at (l ++ more) ≡ c
  unfolding after_return
  return_settled at [] e = absurd (some e)
  return_settled at (b ∷ l) e = e

  goes-settled : (at room : ℕ) (l : List ℕ) → goes_on false at room l ≡ c → goes_on ended at room (l ++ more) ≡ c
  unfolding goes_on
  goes-settled at room [] e = absurd (some e)
  goes-settled at zero (b ∷ l) e = go (eqb b 13) e
    where
      go : (t : Bool) → cond t (after_return false at l) Broken ≡ c → cond t (after_return ended at (l ++ more)) Broken ≡ c
      go true e = return_settled at l e
      go false e = e
  goes-settled at (suc room) (b ∷ l) e = go (eqb b 13) (eqb b 10) (goes-settled (at + 1) room l) e
    where
      go : (t u : Bool) → (goes_on false (at + 1) room l ≡ c → goes_on ended (at + 1) room (l ++ more) ≡ c)
          → cond t (after_return false at l) (cond u Broken (goes_on false (at + 1) room l)) ≡ c
          → cond t (after_return ended at (l ++ more)) (cond u Broken (goes_on ended (at + 1) room (l ++ more))) ≡ c
      go true u ih e = return_settled at l e
      go false true ih e = e
      go false false ih e = ih e

  begins-settled : (at : ℕ) (l : List ℕ) → begins longest false at l ≡ c → begins longest ended at (l ++ more) ≡ c
  unfolding begins
  begins-settled at [] e = absurd (some e)
  begins-settled at (b ∷ l) e = goes-settled at longest (b ∷ l) e

  pub settled : (bytes : List ℕ) (start : ℕ) → cut_of longest bytes start false ≡ c → cut_of longest (bytes ++ more) start ended ≡ c
  unfolding cut_of begins
  settled bytes start e = go (ltb start (length bytes)) refl
    where
      go : (t : Bool) → ltb start (length bytes) ≡ t → begins longest ended start (drop start (bytes ++ more)) ≡ c
      go true h = let k : start ≤ length bytes = omega (arith, ltb-true start (length bytes) h) in
          rw (drop-append-le start bytes more k) (begins-settled start (drop start bytes) e)
      go false h = absurd (some (rw (drop_of_length-le bytes (ltb-false start (length bytes) h)) at e))

-- More is answered of few bytes only.
return_few : (at : ℕ) (l : List ℕ) → after_return false at l ≡ More → length l ≡ 0
unfolding after_return
return_few at [] e = refl
return_few at (b ∷ l) e = go (eqb b 10) e
  where
    go : (t : Bool) → cond t (Record at (at + 2)) Broken ≡ More → suc (length l) ≡ 0
    go true e = let z : ◌≡◌ {A = ℕ} 0 1 = cc in absurd (omega arith)
    go false e = let z : ◌≡◌ {A = ℕ} 0 1 = cc in absurd (omega arith)

goes-few : (at room : ℕ) (l : List ℕ) → goes_on false at room l ≡ More → length l ≤ suc room
unfolding goes_on
goes-few at room [] e = omega arith
goes-few at zero (b ∷ l) e = go (eqb b 13) e
  where
    go : (t : Bool) → cond t (after_return false at l) Broken ≡ More → suc (length l) ≤ 1
    go true e = omega (arith, return_few at l e)
    go false e = let z : ◌≡◌ {A = ℕ} 0 1 = cc in absurd (omega arith)
goes-few at (suc room) (b ∷ l) e = go (eqb b 13) (eqb b 10) (goes-few (at + 1) room l) e
  where
    go : (t u : Bool) → (goes_on false (at + 1) room l ≡ More → length l ≤ suc room)
        → cond t (after_return false at l) (cond u Broken (goes_on false (at + 1) room l)) ≡ More → suc (length l) ≤ suc (suc room)
    go true u ih e = omega (arith, return_few at l e)
    go false true ih e = let z : ◌≡◌ {A = ℕ} 0 1 = cc in absurd (omega arith)
    go false false ih e = omega (arith, ih e)

begins-few : (longest at : ℕ) (l : List ℕ) → begins longest false at l ≡ More → length l ≤ suc longest
unfolding begins
begins-few longest at [] e = omega arith
begins-few longest at (b ∷ l) e = goes-few at longest (b ∷ l) e

pub enough_bytes : (longest : ℕ) (bytes : List ℕ) (start : ℕ) → cut_of longest bytes start false ≡ More → length bytes - start ≤ suc longest
unfolding cut_of
enough_bytes longest bytes start e = rw length-drop at (begins-few longest start (drop start bytes) e)

-- Where a record lies that begins at place `at`, may have `room` bytes, and of which `count` bytes are there.
pub record Extent (at room count end next : ℕ) : Type 0 where
  pub from : at ≤ end
  pub short : end ≤ at + room
  pub order : end ≤ next
  pub inside : next ≤ at + count
  pub onward : 0 < count → at < next

return_extent : (ended : Bool) (at room end next : ℕ) (l : List ℕ) → after_return ended at l ≡ Record end next → Extent at room (suc (length l)) end next
unfolding after_return
return_extent ended at room end next [] e = go ended e
  where
    go : (t : Bool) → cond t Broken More ≡ Record end next → Extent at room 1 end next
    go true e = let z : ◌≡◌ {A = ℕ} 0 1 = cc in absurd (omega arith)
    go false e = let z : ◌≡◌ {A = ℕ} 0 1 = cc in absurd (omega arith)
return_extent ended at room end next (b ∷ l) e = go (eqb b 10) e
  where
    go : (t : Bool) → cond t (Record at (at + 2)) Broken ≡ Record end next → Extent at room (suc (suc (length l))) end next
    go true e =
        let p : at ≡ end = cc in
        let q : at + 2 ≡ next = cc in
        record { from = omega arith; short = omega arith; order = omega arith; inside = omega arith; onward = λ h. omega arith }
    go false e = let z : ◌≡◌ {A = ℕ} 0 1 = cc in absurd (omega arith)

goes-extent : (ended : Bool) (at room end next : ℕ) (l : List ℕ) → goes_on ended at room l ≡ Record end next → Extent at room (length l) end next
unfolding goes_on
goes-extent ended at room end next [] e = go ended e
  where
    go : (t : Bool) → cond t (Record at at) More ≡ Record end next → Extent at room 0 end next
    go true e =
        let p : at ≡ end = cc in
        let q : at ≡ next = cc in
        record { from = omega arith; short = omega arith; order = omega arith; inside = omega arith; onward = λ h. absurd (omega arith) }
    go false e = let z : ◌≡◌ {A = ℕ} 0 1 = cc in absurd (omega arith)
goes-extent ended at zero end next (b ∷ l) e = go (eqb b 13) e
  where
    go : (t : Bool) → cond t (after_return ended at l) Broken ≡ Record end next → Extent at zero (suc (length l)) end next
    go true e = return_extent ended at zero end next l e
    go false e = let z : ◌≡◌ {A = ℕ} 0 1 = cc in absurd (omega arith)
goes-extent ended at (suc room) end next (b ∷ l) e = go (eqb b 13) (eqb b 10) (goes-extent ended (at + 1) room end next l) e
  where
    go : (t u : Bool) → (goes_on ended (at + 1) room l ≡ Record end next → Extent (at + 1) room (length l) end next)
        → cond t (after_return ended at l) (cond u Broken (goes_on ended (at + 1) room l)) ≡ Record end next → Extent at (suc room) (suc (length l)) end next
    go true u ih e = return_extent ended at (suc room) end next l e
    go false true ih e = let z : ◌≡◌ {A = ℕ} 0 1 = cc in absurd (omega arith)
    go false false ih e =
        let x = ih e in
        let f : at + 1 ≤ end = x.from in
        let s : end ≤ at + 1 + room = x.short in
        let o : end ≤ next = x.order in
        let i : next ≤ at + 1 + length l = x.inside in
        record { from = omega arith; short = omega arith; order = omega arith; inside = omega arith; onward = λ h. omega arith }

begins-extent : (longest : ℕ) (ended : Bool) (at end next : ℕ) (l : List ℕ) → begins longest ended at l ≡ Record end next
    → Extent at longest (length l) end next
unfolding begins
begins-extent longest ended at end next [] e = go ended e
  where
    go : (t : Bool) → cond t Done More ≡ Record end next → Extent at longest 0 end next
    go true e = let z : ◌≡◌ {A = ℕ} 0 1 = cc in absurd (omega arith)
    go false e = let z : ◌≡◌ {A = ℕ} 0 1 = cc in absurd (omega arith)
begins-extent longest ended at end next (b ∷ l) e = goes-extent ended at longest end next (b ∷ l) e

pub extent : (longest : ℕ) (bytes : List ℕ) (start : ℕ) (ended : Bool) (end next : ℕ) → cut_of longest bytes start ended ≡ Record end next
    → Extent start longest (length bytes - start) end next
unfolding cut_of
extent longest bytes start ended end next e = rw length-drop at (begins-extent longest ended start end next (drop start bytes) e)

-- So it lies inside the bytes that it was cut from.
pub inside : (longest : ℕ) (bytes : List ℕ) (start : ℕ) (ended : Bool) (end next : ℕ) → cut_of longest bytes start ended ≡ Record end next
    → (start ≤ end) × (end ≤ next) × (next ≤ length bytes)
inside longest bytes start ended end next e = go (ltb start (length bytes)) refl
  where
    none : (t : Bool) → cond t Done More ≡ Record end next → ⊥
    none true z = let z₁ : ◌≡◌ {A = ℕ} 0 1 = cc in omega arith
    none false z = let z₁ : ◌≡◌ {A = ℕ} 0 1 = cc in omega arith

    go : (t : Bool) → ltb start (length bytes) ≡ t → (start ≤ end) × (end ≤ next) × (next ≤ length bytes)
    go true h =
        let x = extent longest bytes start ended end next e in
        let k : start < length bytes = ltb-true start (length bytes) h in
        let i : next ≤ start + (length bytes - start) = x.inside in
        (x.from, x.order, omega arith)
    go false h = absurd (none ended (sym (begins-none ended start bytes longest (ltb-false start (length bytes) h)) ∙ e))

-- An answer with every place that much higher.
unfoldable pub moved : ℕ → Cut → Cut
moved k (Record end next) = Record (k + end) (k + next)
moved k More = More
moved k Done = Done
moved k Broken = Broken

moved_cond : (k : ℕ) (t : Bool) (c d : Cut) → moved k (cond t c d) ≡ cond t (moved k c) (moved k d)
moved_cond k true c d = refl
moved_cond k false c d = refl

return_moved : (ended : Bool) (k at : ℕ) (l : List ℕ) → after_return ended (k + at) l ≡ moved k (after_return ended at l)
unfolding after_return moved
return_moved ended k at [] = sym (moved_cond k ended Broken More)
return_moved ended k at (b ∷ l) = let z : k + at + 2 ≡ k + (at + 2) = omega arith in rw (moved_cond k (eqb b 10) (Record at (at + 2)) Broken, z)

goes_moved : (ended : Bool) (k at room : ℕ) (l : List ℕ) → goes_on ended (k + at) room l ≡ moved k (goes_on ended at room l)
unfolding goes_on moved
goes_moved ended k at room [] = sym (moved_cond k ended (Record at at) More)
goes_moved ended k at zero (b ∷ l) = rw (moved_cond k (eqb b 13) (after_return ended at l) Broken, return_moved ended k at l)
goes_moved ended k at (suc room) (b ∷ l) =
    let z : k + at + 1 ≡ k + (at + 1) = omega arith in
    rw (
      moved_cond k (eqb b 13) (after_return ended at l) (cond (eqb b 10) Broken (goes_on ended (at + 1) room l)),
      moved_cond k (eqb b 10) Broken (goes_on ended (at + 1) room l),
      return_moved ended k at l,
      z,
      goes_moved ended k (at + 1) room l,
    )

pub begins-moved : (longest : ℕ) (ended : Bool) (k at : ℕ) (l : List ℕ) → begins longest ended (k + at) l ≡ moved k (begins longest ended at l)
unfolding begins moved
begins-moved longest ended k at [] = sym (moved_cond k ended Done More)
begins-moved longest ended k at (b ∷ l) = goes_moved ended k at longest (b ∷ l)

pub moved_on : (longest : ℕ) (bytes : List ℕ) (start : ℕ) (ended : Bool) → cut_of longest bytes start ended ≡ moved start (cut_of longest (drop start bytes) 0 ended)
unfolding cut_of
moved_on longest bytes start ended =
    let z : start ≡ start + 0 = omega arith in
    ap (λ (n : ℕ). begins longest ended n (drop start bytes)) z ∙ begins-moved longest ended start 0 (drop start bytes)
