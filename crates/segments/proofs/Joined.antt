-- A message's segments, joined in order, are the message; each but the last has 48 bytes, and the last 1 to 48.
-- The first k segments joined are the first 48k bytes, by induction on k, and the slots hold all the bytes.
-- Assumes nothing.
use Prim.Native.Nat.{ℕ, zero, suc, ◌+◌, ◌*◌, ◌-◌, ◌≤◌, ◌<◌, min}
use native.Mathlib.Nat.{min-eq_left}
use native.Mathlib.Omega.{arith}
use mathlib.Core.Path.{◌≡◌, refl, sym, ◌∙◌, ap}
use mathlib.Core.Bool.{true}
use mathlib.Core.List.{List, [], ◌∷◌, ◌++◌, map, flatten, map-append, append-nil, append_assoc}
use lib.ListN.{length, take, drop, length-take, length-drop}
use lib.Seq.{take-add, take_all}
use Rattle.message.specs.Message.{fits_message, slots_for}
use Rattle.segments.specs.Segment.{segment_of}
use Rattle.segments.specs.Joined.{count_to, segments_of, joined, SegmentLengths}
use Rattle.message.proofs.Totals.{slots-hold, slots-bounds}
use Rattle.segments.proofs.Cuts.{number-given, segment-given}

-- two runs of lists joined are the one joined, then the other
pub flatten_append : {A : Type 0} (L M : List (List A)) → flatten (L ++ M) ≡ flatten L ++ flatten M
unfolding flatten
flatten_append [] M = refl
flatten_append (l ∷ L) M = ap (λ (m : List _). l ++ m) (flatten_append L M) ∙ sym (append_assoc l (flatten L) (flatten M))

module _ (message : List ℕ) (f : fits_message (length message) ≡ true) where
  -- segment k + 1 is the 48 bytes after the first 48k, or those that are left
  segment-next : (k : ℕ) → k < slots_for (length message) → segment_of message (suc k) ≡ take 48 (drop (48 * k) message)
  segment-next k h =
      let e : 48 * (suc k - 1) ≡ 48 * k = omega arith in
      segment-given message (suc k) (number-given (length message) (suc k) f (omega arith) (omega arith)) (omega arith)
      ∙ ap (λ (n : ℕ). take 48 (drop n message)) e

  -- the first k segments joined are the first 48k bytes
  joined-first : (k : ℕ) → k ≤ slots_for (length message) → flatten (map (segment_of message) (count_to k)) ≡ take (48 * k) message
  unfolding count_to flatten
  joined-first zero h = refl
  joined-first (suc k) h =
      let e : 48 * k + 48 ≡ 48 * suc k = omega arith in
      ap flatten (map-append (segment_of message) (count_to k) (suc k ∷ []))
      ∙ flatten_append (map (segment_of message) (count_to k)) (segment_of message (suc k) ∷ [])
      ∙ ap (λ (l : List ℕ). flatten (map (segment_of message) (count_to k)) ++ l) (append-nil (segment_of message (suc k)))
      ∙ ap (λ (l : List ℕ). l ++ segment_of message (suc k)) (joined-first k (omega arith))
      ∙ ap (λ (l : List ℕ). take (48 * k) message ++ l) (segment-next k h)
      ∙ sym (take-add (48 * k) 48 message)
      ∙ ap (λ (n : ℕ). take n message) e

  -- the segments of a message, joined in order, are the message
  pub joined-is-message : joined message ≡ message
  unfolding joined segments_of
  joined-is-message =
      joined-first (slots_for (length message)) (omega arith)
      ∙ take_all (48 * slots_for (length message)) message (slots-hold (length message)).0

  -- the bytes of segment k + 1
  segment-length : (k : ℕ) → k < slots_for (length message) → length (segment_of message (suc k)) ≡ min 48 (length message - 48 * k)
  segment-length k h = ap length (segment-next k h) ∙ simp (length-take, length-drop)

  full : (j : ℕ) → 1 ≤ j → j < slots_for (length message) → length (segment_of message j) ≡ 48
  full zero low high = absurd (omega arith)
  full (suc k) low high = segment-length k (omega arith) ∙ min-eq_left (omega (arith, slots-hold (length message)))

  last : (j : ℕ) → j ≡ slots_for (length message) → (1 ≤ length (segment_of message j)) × (length (segment_of message j) ≤ 48)
  last zero e = absurd (omega (arith, slots-bounds (length message) f))
  last (suc k) e =
      let l : length (segment_of message (suc k)) ≡ min 48 (length message - 48 * k) = segment-length k (omega arith) in
      omega (arith, slots-hold (length message))

  -- each segment but the last has 48 bytes, and the last 1 to 48
  pub segment-lengths : SegmentLengths message
  segment-lengths = record { full = full; last = last (slots_for (length message)) refl }
