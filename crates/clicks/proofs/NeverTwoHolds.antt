-- Number 2 never comes: the first bad minislot's number is 1, 3 or 4, and every other number of a call's list is another. Assumes nothing.
use mathlib.Core.Path.{◌≡◌, refl, sym, ◌∙◌}
use mathlib.Core.Bool.{Bool, true, false, cond, not, ◌&&◌}
use mathlib.Core.List.{List}
use mathlib.Core.Logic.{◌≢◌}
use Prim.Native.Nat.{ℕ}
use native.Mathlib.Omega.{arith}
use lib.Count.{ones}
use lib.Dec.{eqb, ltb}
use Rattle.rows.specs.Row.{readings, first_number, feedbacks, has_minislots, row_of}
use Rattle.rows.proofs.Answers.{first_by, number_short, number-whole}
use Rattle.rules.specs.declared.Station.{Station}
use Rattle.rules.specs.Limits.{between}
use Rattle.rules.specs.Queueing.{step_one_of}
use Rattle.rules.specs.Listening.{has_row}
use Rattle.rules.specs.StationLimits.{station_within}
use Rattle.rules.specs.OwnHearing.{hears_itself}
use Rattle.rules.specs.StationCalls.{heard_slot_number_of, slot_number_of}
use Rattle.rules.proofs.ListeningLaws.{listen-by}
use Rattle.rules.proofs.Refusals.{unless-by, next-by}
use Rattle.clicks.specs.NeverTwo.{NeverTwo}

abbrev Other : ℕ → Type 0
Other n = n ≢ 2

first-not : (words counts : List ℕ) → Other (first_number (readings words counts))
first-not = first_by Other (λ e. omega arith) (λ n l. l.not_2)

reading-not : (a b c : Bool) → Other (cond a 1 (cond b 3 (cond c 4 0)))
reading-not true b c e = omega arith
reading-not false true c e = omega arith
reading-not false false true e = omega arith
reading-not false false false e = omega arith

row-not : (m : ℕ) (words counts : List ℕ) → Other (row_of m words counts).number
row-not m words counts = go (has_minislots m words counts) refl
  where
    go : (b : Bool) → has_minislots m words counts ≡ b → Other (row_of m words counts).number
    go true e two = first-not words counts (sym (number-whole m words counts e) ∙ two)
    go false e two = omega (arith, number_short m words counts e, two)

slot-not : (s : Station) (words counts : List ℕ) (pick : ℕ) → Other (slot_number_of s words counts pick)
unfolding slot_number_of heard_slot_number_of
slot-not s words counts pick =
    unless-by Other (station_within s) 18 _ (λ e. omega arith)
    (unless-by Other (has_row s.counters.minislots words counts) 6 _ (λ e. omega arith)
    (unless-by Other (between 1 pick s.counters.minislots) 11 _ (λ e. omega arith)
    (next-by Other (first_number (readings words counts)) _ (first-not words counts)
    (unless-by Other (step_one_of s.counters (feedbacks (readings words counts))).fits 7 _ (λ e. omega arith)
    (unless-by Other (hears_itself s words (feedbacks (readings words counts))) 12 0 (λ e. omega arith) (λ e. omega arith))))))

pub never-two : NeverTwo
never-two =
    record {
      reading = λ word count. reading-not (ltb 4095 word) (eqb (ones word) 6 && eqb count 0) (eqb (ones word) 0 && not (eqb count 0));
      row = row-not;
      listening = listen-by Other (λ e. omega arith) (λ e. omega arith) (λ e. omega arith) (λ n l. l.not_2) (λ e. omega arith);
      slot = slot-not;
    }
