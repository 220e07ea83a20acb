-- A row of the wire copied as words or as counts, one minislot after the other. Assumes nothing.
use mathlib.Core.Path.{◌≡◌, refl, sym, ap, ◌∙◌}
use mathlib.Core.List.{List, [], ◌∷◌, map}
use mathlib.Core.Logic.{inl}
use Prim.Native.Nat.{ℕ, zero, suc, ◌+◌, ◌<◌, min}
use native.Mathlib.Numerals.{add-one}
use native.Mathlib.Omega.{arith}
use lib.ListN.{length, get_or, set, take, replicate, length-map, get_or-map}
use lib.Seq.{take_all}
use Rattle.listlaws.specs.Steps.{first_steps, latter}
use Rattle.listlaws.proofs.Beyond.{take-most}
use Rattle.listlaws.proofs.Steps.{set-first_steps, first_steps-take, all_steps-whole}
use Rattle.minislot.specs.declared.Minislot.{Minislot}
use Rattle.requests.specs.Together.{silent}

abbrev pub zeros : List ℕ
zeros = replicate 8 0

map-take : {A B : Type 0} (f : A → B) (n : ℕ) (l : List A) → take n (map f l) ≡ map f (take n l)
map-take f zero l = refl
map-take f (suc n) [] = refl
map-take {B = B} f (suc n) (x ∷ l) = ap (λ (z : List B). f x ∷ z) (map-take f n l)

module _ (f : Minislot → ℕ) (blank : f silent ≡ 0) (ms : List Minislot) (eight : length ms ≡ 8) where
  same : length (map f ms) ≡ 8
  same = length-map ms f ∙ eight

  pub copied_more : (j : ℕ) → j < 8 → set (first_steps latter j zeros (map f ms)) j (f (get_or ms j silent)) ≡ first_steps latter (j + 1) zeros (map f ms)
  copied_more j h =
      ap (λ (v : ℕ). set (first_steps latter j zeros (map f ms)) j v) (sym (get_or-map f ms j silent) ∙ ap (λ (d : ℕ). get_or (map f ms) j d) blank)
      ∙ set-first_steps latter j zeros (map f ms) 0 0 h (rw same h)
      ∙ ap (λ (k : ℕ). first_steps latter k zeros (map f ms)) (sym (add-one j))

  -- the first m of them, of which there are no more than 8
  pub copied_all : (m : ℕ) → take (min m 8) (first_steps latter 8 zeros (map f ms)) ≡ map f (take m ms)
  copied_all m =
      ap (take (min m 8)) (first_steps-take latter 8 8 zeros (map f ms) (omega arith) (inl (omega arith)) ∙ rw (take_all 8 (map f ms) (omega (arith, same))) (all_steps-whole zeros (map f ms) (sym same)))
      ∙ map-take f (min m 8) ms
      ∙ ap (map f) (take-most m 8 ms eight)
