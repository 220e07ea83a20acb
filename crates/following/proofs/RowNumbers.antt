-- What a record's number says: it is at most 19 and never 2, and a row of number 0 has passed the test of the limits and step 1's.
-- Assumes nothing.
use mathlib.Core.Bool.{Bool, true, false, cond, not}
use mathlib.Core.Path.{◌≡◌, refl, sym}
use mathlib.Core.List.{List}
use mathlib.Core.Logic.{◌≢◌}
use Prim.Native.Nat.{ℕ, ◌≤◌}
use native.Mathlib.Omega.{arith}
use lib.Dec.{ltb}
use Rattle.minislot.proofs.Readings.{Listed}
use Rattle.rows.specs.Row.{readings, first_number, feedbacks}
use Rattle.rules.specs.declared.Counters.{Counters}
use Rattle.rules.specs.Limits.{within_limits}
use Rattle.rules.specs.Starting.{in_ranges, start_number_of}
use Rattle.rules.specs.Queueing.{passes, step_one_of, places_after}
use Rattle.rules.specs.Listening.{has_row, heard_number_of, listen_number_of}
use Rattle.rules.proofs.ListeningLaws.{listen-by}
use Rattle.rules.proofs.Refusals.{unless-by, test_passed, none_found}
use Rattle.following.specs.declared.Follower.{Follower}
use Rattle.following.specs.RecordNumbers.{first_minislots, first_groups, row_words, row_counts, is_first, is_row, has_fields, first_number_of, row_number_of, record_number_of}
use Rattle.following.specs.Following.{row_places}

-- what holds of 0 and of every number of a row's list holds of the row's number
row_by : (P : ℕ → Type 0) → P 0 → P 19 → P 18 → P 6 → ((n : ℕ) → Listed n → P n) → P 7 → (f : Follower) (bytes : List ℕ) → P (row_number_of f bytes)
unfolding row_number_of
row_by P none p19 p18 p6 listed p7 f bytes =
    unless-by P (is_row bytes) 19 _ p19
    (unless-by P (has_fields f bytes) 6 _ p6 (listen-by P none p18 p6 listed p7 f.counters (row_words bytes) (row_counts bytes)))

pub row_low : (f : Follower) (bytes : List ℕ) → row_number_of f bytes ≤ 19
row_low = row_by (λ n. n ≤ 19) (omega arith) (omega arith) (omega arith) (omega arith) (λ n l. omega (arith, l.high)) (omega arith)

-- 2 is retired: no record gives it
pub record_never_2 : (f : Follower) (bytes : List ℕ) → record_number_of f bytes ≢ 2
unfolding record_number_of first_number_of start_number_of
record_never_2 f bytes = go (ltb 1 f.place)
  where
    Other : ℕ → Type 0
    Other n = n ≢ 2

    of-first : first_number_of bytes ≢ 2
    of-first =
        unless-by Other (is_first bytes) 19 _ (λ e. omega arith)
        (unless-by Other (in_ranges (first_minislots bytes) (first_groups bytes)) 5 0 (λ e. omega arith) (λ e. omega arith))

    go : (b : Bool) → cond b (row_number_of f bytes) (first_number_of bytes) ≢ 2
    go true = row_by Other (λ e. omega arith) (λ e. omega arith) (λ e. omega arith) (λ e. omega arith) (λ n l. l.not_2) (λ e. omega arith) f bytes
    go false = of-first

-- a row of number 0 has passed the test of the limits and step 1's
heard-within : (c : Counters) (words counts : List ℕ) → listen_number_of c words counts ≡ 0
    → (within_limits c ≡ true) × (passes (step_one_of c (feedbacks (readings words counts))).after ≡ false)
unfolding listen_number_of heard_number_of step_one_of
heard-within c words counts z =
    let row = feedbacks (readings words counts) in
    let p₁ = test_passed (within_limits c) 18 _ refl z in
    let p₂ = test_passed (has_row c.minislots words counts) 6 _ refl p₁.1 in
    let p₃ = none_found (first_number (readings words counts)) _ p₂.1 in
    let p₄ = test_passed (not (passes (places_after c row))) 7 0 refl p₃.1 in
    (p₁.0, go (passes (places_after c row)) p₄.0)
  where
    go : (b : Bool) → not b ≡ true → b ≡ false
    go true e = sym e
    go false e = refl

pub row_within : (f : Follower) (bytes : List ℕ) → row_number_of f bytes ≡ 0 → (within_limits f.counters ≡ true) × (passes (row_places f bytes) ≡ false)
unfolding row_number_of row_places
row_within f bytes z =
    let p₁ = test_passed (is_row bytes) 19 _ refl z in
    let p₂ = test_passed (has_fields f bytes) 6 _ refl p₁.1 in
    heard-within f.counters (row_words bytes) (row_counts bytes) p₂.1
