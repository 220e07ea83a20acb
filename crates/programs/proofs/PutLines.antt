-- Lines put into a buffer one after another. Where all of them fit, that is their bytes put at once: `lines-put`, `lines_reach`; so the
-- buffer keeps its length and shows what it held and then the lines (`lines-length`, `lines_show`). `put_both`: one piece and then another
-- is both. Assumes nothing.
use mathlib.Core.Path.{◌≡◌, ap, sym, ◌∙◌}
use mathlib.Core.List.{List, [], ◌∷◌, ◌++◌}
use Prim.Native.Nat.{ℕ, ◌+◌, ◌≤◌}
use native.Mathlib.Omega.{arith}
use lib.ListN.{length, take, length-append}
use lib.Seq.{sets}
use Rattle.decimals.specs.Putting.{put_at, place_after}
use Rattle.decimals.proofs.Stores.{sets-append, put_nothing}
use Rattle.decimals.proofs.Puts.{put_stores, put_reaches, put-length, put-shows}
use Rattle.programs.specs.Advancing.{joined}
use Rattle.programs.specs.Buffering.{put_lines, place_after_lines}

-- one piece and then another is both
pub put_both : (buffer : List ℕ) (at : ℕ) (xs ys : List ℕ) → at + length (xs ++ ys) ≤ length buffer
    → put_at (put_at buffer at xs) (at + length xs) ys ≡ put_at buffer at (xs ++ ys)
put_both buffer at xs ys h =
    let l = length-append xs ys in
    let h₁ : at + length xs ≤ length buffer = omega arith in
    let h₂ : (at + length xs) + length ys ≤ length (put_at buffer at xs) = omega (arith, put-length buffer at xs h₁) in
    sym (put_stores (put_at buffer at xs) (at + length xs) ys h₂)
    ∙ ap (λ (b : List ℕ). sets b (at + length xs) ys) (sym (put_stores buffer at xs h₁))
    ∙ sets-append xs ys buffer at
    ∙ put_stores buffer at (xs ++ ys) h

-- the first of some lines that fit: it fits, the place after it is reached, and the others fit after it
module _ (buffer : List ℕ) (at : ℕ) (l : List ℕ) (ls : List (List ℕ)) (fits : at + length (l ++ joined ls) ≤ length buffer) where
  first_fits : at + length l ≤ length buffer
  first_fits = omega (arith, length-append l (joined ls))

  first_reaches : place_after buffer at l ≡ at + length l
  first_reaches = put_reaches buffer at l first_fits

  others-fit : place_after buffer at l + length (joined ls) ≤ length (put_at buffer at l)
  others-fit = omega (arith, first_reaches, put-length buffer at l first_fits, length-append l (joined ls))

pub lines-put : (ls : List (List ℕ)) (buffer : List ℕ) (at : ℕ) → at + length (joined ls) ≤ length buffer → put_lines buffer at ls ≡ put_at buffer at (joined ls)
lines-put [] buffer at h = (put_nothing buffer at).0
lines-put (l ∷ ls) buffer at h =
    lines-put ls (put_at buffer at l) (place_after buffer at l) (others-fit buffer at l ls h)
    ∙ ap (λ (p : ℕ). put_at (put_at buffer at l) p (joined ls)) (first_reaches buffer at l ls h)
    ∙ put_both buffer at l (joined ls) h

pub lines_reach : (ls : List (List ℕ)) (buffer : List ℕ) (at : ℕ) → at + length (joined ls) ≤ length buffer
    → place_after_lines buffer at ls ≡ at + length (joined ls)
lines_reach [] buffer at h = omega arith
lines_reach (l ∷ ls) buffer at h =
    let r = lines_reach ls (put_at buffer at l) (place_after buffer at l) (others-fit buffer at l ls h) in
    r ∙ omega (arith, first_reaches buffer at l ls h, length-append l (joined ls))

module _ (ls : List (List ℕ)) (buffer : List ℕ) (at : ℕ) (fits : at + length (joined ls) ≤ length buffer) where
  pub lines-length : length (put_lines buffer at ls) ≡ length buffer
  lines-length = ap length (lines-put ls buffer at fits) ∙ put-length buffer at (joined ls) fits

  pub lines_show : take (place_after_lines buffer at ls) (put_lines buffer at ls) ≡ take at buffer ++ joined ls
  lines_show =
      ap (λ (n : ℕ). take n (put_lines buffer at ls)) (lines_reach ls buffer at fits ∙ sym (put_reaches buffer at (joined ls) fits))
      ∙ ap (λ (b : List ℕ). take (place_after buffer at (joined ls)) b) (lines-put ls buffer at fits)
      ∙ put-shows buffer at (joined ls) fits
