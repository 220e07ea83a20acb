-- An index put at a message's places, one after the other, as far as the list goes: one place more, and that what is past the end changes
-- nothing. Assumes nothing.
use mathlib.Core.Path.{◌≡◌, refl, sym, ap, ◌∙◌}
use mathlib.Core.Bool.{Bool, true, false}
use mathlib.Core.List.{List}
use Prim.Native.Nat.{ℕ, zero, suc, ◌+◌, ◌-◌, ◌≤◌, ◌<◌, min}
use native.Mathlib.Numerals.{add-one}
use native.Mathlib.Omega.{arith}
use lib.Dec.{leb}
use lib.ListN.{length, set, length-set}
use lib.Seq.{set_out}
use borrow.Author.Tests.{leb-true, leb-false}
use Rattle.served_places.specs.Served.{put_of}

module _ (x : ℕ) where
  pub length-put : (l : List ℕ) (k n : ℕ) → length (put_of l k n x) ≡ length l
  length-put l k zero = refl
  length-put l k (suc n) = length-put (set l k x) (suc k) n ∙ length-set l k x

  -- past the end
  put_out : (l : List ℕ) (k n : ℕ) → length l ≤ k → put_of l k n x ≡ l
  put_out l k zero h = refl
  put_out l k (suc n) h = put_out (set l k x) (suc k) n (rw length-set (omega arith)) ∙ set_out l k x h

  -- as far as the list goes
  put-far : (l : List ℕ) (k m n : ℕ) → m ≤ n → length l ≤ k + m → put_of l k m x ≡ put_of l k n x
  put-far l k zero n h w = sym (put_out l k n (omega arith))
  put-far l k (suc m) zero h w = absurd (omega arith)
  put-far l k (suc m) (suc n) h w = put-far (set l k x) (suc k) m n (omega arith) (rw length-set (omega arith))

  -- ALL OF THEM are put once those before the list's end are
  put_clipped : (l : List ℕ) (k n end : ℕ) → end ≡ min (k + n) (length l) → put_of l k (end - k) x ≡ put_of l k n x
  put_clipped l k n end e = go (leb (k + n) (length l)) refl
    where
      go : (b : Bool) → leb (k + n) (length l) ≡ b → put_of l k (end - k) x ≡ put_of l k n x
      go true w = ap (λ (m : ℕ). put_of l k m x) (let q : end - k ≡ n = omega (arith, leb-true (k + n) (length l) w) in q)
      go false w = let q : length l < k + n = leb-false _ _ w in put-far l k (end - k) n (omega arith) (omega arith)

  -- and of those among the first w
  pub put-among : (l : List ℕ) (k n w end : ℕ) → end ≡ min (min (k + n) w) (length l) → put_of l k (end - k) x ≡ put_of l k (min n (w - k)) x
  put-among l k n w end e = go (leb k w) refl
    where
      go : (b : Bool) → leb k w ≡ b → put_of l k (end - k) x ≡ put_of l k (min n (w - k)) x
      go true h = put_clipped l k (min n (w - k)) end (let q : k + min n (w - k) ≡ min (k + n) w = omega (arith, leb-true k w h) in e ∙ ap (λ (m : ℕ). min m (length l)) (sym q))
      go false h = let q : w < k = leb-false k w h in ap (λ (m : ℕ). put_of l k m x) (let z : end - k ≡ min n (w - k) = omega (arith, e, q) in z)

  -- one place more
  pub put_next : (l : List ℕ) (k end : ℕ) → k < end → put_of (set l k x) (k + 1) (end - (k + 1)) x ≡ put_of l k (end - k) x
  put_next l k end h =
      let q : end - k ≡ suc (end - (k + 1)) = omega arith in
      rw q (ap (λ (j : ℕ). put_of (set l k x) j (end - (k + 1)) x) (add-one k))
