-- Listening by the row's reading, for whoever reads the row first: 18 outside the limits; a row that is refused is refused with its number; one that is
-- heard is listened to. And what holds of every number of its list holds of its number. Assumes nothing.
use mathlib.Core.Path.{◌≡◌, refl}
use mathlib.Core.Bool.{Bool, true, false}
use mathlib.Core.List.{List}
use mathlib.Core.Logic.{◌≢◌}
use Prim.Native.Nat.{ℕ}
use borrow.Author.Tests.{le-leb, ne_eqb}
use Rattle.minislot.proofs.Readings.{Listed}
use Rattle.rows.specs.Row.{readings, first_number, feedbacks, has_minislots, row_of}
use Rattle.rows.proofs.Answers.{first_by, number_zero, number_short, number-whole}
use Rattle.rules.specs.declared.Counters.{Counters}
use Rattle.rules.specs.Limits.{within_limits}
use Rattle.rules.specs.Hearing.{feedback_of}
use Rattle.rules.specs.Queueing.{step_one_of}
use Rattle.rules.specs.Listening.{refused_listening, heard_number_of, listen_of, has_row, listen_number_of, listening_of}
use Rattle.rules.proofs.LimitLaws.{within-limits}
use Rattle.rules.proofs.Refusals.{unless-by, next-by}
use Rattle.rules.proofs.RowReads.{none-refused, feedback_is}

-- within the limits m is 2 to 8, so a row is short exactly where it has not m words and m counts
pub same_test : (c : Counters) (words counts : List ℕ) → within_limits c ≡ true
    → has_minislots c.minislots words counts ≡ has_row c.minislots words counts
same_test c words counts within =
    let w = within-limits c within in
    rw (le-leb 2 c.minislots w.minislots.0, le-leb c.minislots 8 w.minislots.1)

-- its number is 0, 18, 6, one of a reading's, or 7
pub listen-by : (P : ℕ → Type 0) → P 0 → P 18 → P 6 → ((n : ℕ) → Listed n → P n) → P 7
    → (c : Counters) (words counts : List ℕ) → P (listen_number_of c words counts)
unfolding listen_number_of heard_number_of
listen-by P none p18 p6 listed p7 c words counts =
    unless-by P (within_limits c) 18 _ p18
    (unless-by P (has_row c.minislots words counts) 6 _ p6
    (next-by P (first_number (readings words counts)) _ (first_by P none listed words counts)
    (unless-by P (step_one_of c (feedbacks (readings words counts))).fits 7 0 p7 none)))

module _ (c : Counters) (words counts : List ℕ) where
  pub listening_18 : within_limits c ≡ false → refused_listening c 18 ≡ listening_of c words counts
  unfolding listening_of listen_number_of
  listening_18 e = rw e

  module _ (within : within_limits c ≡ true) where
    pub listening-bad : (row_of c.minislots words counts).number ≢ 0 → refused_listening c (row_of c.minislots words counts).number ≡ listening_of c words counts
    unfolding listening_of listen_number_of
    listening-bad some = go (has_minislots c.minislots words counts) refl
      where
        bad : (n : ℕ) → (row_of c.minislots words counts).number ≡ n → n ≢ 0
        bad n e z = some (rw (e, z))

        go : (b : Bool) → has_minislots c.minislots words counts ≡ b → refused_listening c (row_of c.minislots words counts).number ≡ listening_of c words counts
        go false q = rw (number_short c.minislots words counts q, within, ← (same_test c words counts within), q)
        go true q =
            let e = number-whole c.minislots words counts q in
            rw (e, within, ← (same_test c words counts within), q, ne_eqb (first_number (readings words counts)) 0 (bad _ e), ne_eqb (first_number (readings words counts)) 0 (bad _ e))

    pub listening-heard : (row_of c.minislots words counts).number ≡ 0 → listen_of c (feedback_of c.minislots (row_of c.minislots words counts)) ≡ listening_of c words counts
    unfolding listening_of listen_number_of listen_of
    listening-heard none =
        rw (
          feedback_is c.minislots words counts none,
          within,
          ← (same_test c words counts within),
          number_zero c.minislots words counts none,
          none-refused c.minislots words counts none,
        )
