-- The bytes that `keep_rest` moves are those that its definition keeps.
-- Assumes nothing.
use mathlib.Core.Path.{◌≡◌, refl, ap}
use mathlib.Core.List.{List, [], ◌∷◌}
use Prim.Native.Nat.{ℕ, zero, suc, ◌+◌, ◌-◌}
use native.Mathlib.Omega.{arith}
use lib.ListN.{length, take, drop, length-drop}
use lib.Seq.{paste}
use Rattle.std.proofs.lemmas.List.{take_all}
use Rattle.buffers.specs.Keeping.{rest_of, kept_of}

-- as many as were taken
take-length : (n : ℕ) (l : List ℕ) → take (length (take n l)) l ≡ take n l
take-length zero l = refl
take-length (suc n) [] = refl
take-length (suc n) (x ∷ l) = ap (λ (r : List ℕ). x ∷ r) (take-length n l)

drop-length : (n : ℕ) (l : List ℕ) → drop (length (take n l)) l ≡ drop n l
drop-length zero l = refl
drop-length (suc n) [] = refl
drop-length (suc n) (x ∷ l) = drop-length n l

module _ (buffer : List ℕ) (from to start count : ℕ) where
  pub kept_whole : start ≡ length (take from buffer) → count ≡ length (take (to - from) (take (length buffer - start) (drop start buffer)))
      → paste buffer 0 (drop start buffer) (start + count - start) ≡ kept_of buffer from to
  unfolding kept_of
  kept_whole e f =
      let g : start + count - start ≡ count = omega arith in
      let all : take (length buffer - start) (drop start buffer) ≡ drop start buffer = take_all _ _ (omega (arith, length-drop start buffer)) in
      let z : 0 + length (rest_of buffer from to) ≡ length (rest_of buffer from to) = omega arith in
      rw (g, f, all, e, drop-length from buffer, take-length (to - from) (drop from buffer), z)
