-- Bytes that fit a buffer, put into it: they are stored, the place after them is reached, and the buffer before that place is what it was
-- and then the bytes. Assumes nothing.
use mathlib.Core.Path.{◌≡◌, ap, sym, ◌∙◌}
use mathlib.Core.List.{List, ◌++◌}
use Prim.Native.Nat.{ℕ, ◌+◌, ◌≤◌}
use native.Mathlib.Omega.{arith}
use borrow.Author.Tests.{le-leb}
use lib.ListN.{length, take, drop, length-append}
use lib.Seq.{sets, sets-eq, length-sets, take_at, length-take-le}
use Rattle.decimals.specs.Putting.{put_at, place_after}
use Rattle.decimals.proofs.Stores.{put-fits}

-- bytes that fit are stored, and the place after them is reached
module _ (buffer : List ℕ) (at : ℕ) (bytes : List ℕ) (fits : at + length bytes ≤ length buffer) where
  pub put_stores : sets buffer at bytes ≡ put_at buffer at bytes
  put_stores = (put-fits buffer at bytes (le-leb _ _ fits)).0

  pub put_reaches : place_after buffer at bytes ≡ at + length bytes
  put_reaches = sym (put-fits buffer at bytes (le-leb _ _ fits)).1

  pub put-length : length (put_at buffer at bytes) ≡ length buffer
  put-length = ap length (sym put_stores) ∙ length-sets buffer at bytes

  pub put-shows : take (place_after buffer at bytes) (put_at buffer at bytes) ≡ take at buffer ++ bytes
  put-shows =
      let t : length (take at buffer) ≡ at = length-take-le at buffer (omega arith) in
      let e : place_after buffer at bytes ≡ at + length bytes = put_reaches in
      ap (λ (n : ℕ). take n (put_at buffer at bytes)) e
      ∙ ap (λ (l : List ℕ). take (at + length bytes) l) (sym put_stores ∙ sets-eq bytes buffer at fits)
      ∙ take_at (take at buffer ++ bytes) (drop (at + length bytes) buffer) (at + length bytes) (omega (arith, length-append (take at buffer) bytes))
