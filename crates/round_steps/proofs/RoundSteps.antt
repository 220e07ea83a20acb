-- What a round of any program leaves, from the parts that its calls leave: the records that are read, and then `after_round`. So a program's
-- round meets its contract by `stand-parts (round_is ..)`. Assumes nothing.
use mathlib.Core.Path.{◌≡◌, ap}
use mathlib.Core.List.{List}
use Prim.Native.Nat.{ℕ}
use lib.ListN.{length, take}
use Rattle.programs.specs.Program.{Program}
use Rattle.programs.specs.Buffering.{Reached, Buffered, buffered_of}
use Rattle.standing.specs.declared.Run.{Run}
use Rattle.standing.specs.Standing.{Stand, standing}
use Rattle.round_steps.specs.Rounds.{input_after, run_after, passed_of, round_by, round_of}

-- what is equal has equal parts
pub stand-parts : {S : Type 0} {k : S} {r : Run} {input output : List ℕ} {s : Stand S} → standing k r input output ≡ s
    → (input ≡ s.input) × ((output ≡ s.output) × ((k ≡ s.state) × (r ≡ s.run)))
stand-parts {S} e =
    (ap (λ (s : Stand S). s.input) e, (ap (λ (s : Stand S). s.output) e, (ap (λ (s : Stand S). s.state) e, ap (λ (s : Stand S). s.run) e)))

module _ {S : Type 0} (P : Program S) (k : S) (r : Run) (input output : List ℕ) (filled : ℕ) (is_filled : filled ≡ length (take r.filled input))
    (output' : List ℕ) (n : Reached S) (stored : output' ≡ (buffered_of P k (take filled input) r.from r.ended output r.at).buffer)
    (answered : n ≡ (buffered_of P k (take filled input) r.from r.ended output r.at).answer) where
  passed_is : ◌≡◌ {A = Buffered S} (record { buffer = output'; answer = n }) (passed_of P (standing k r input output))
  passed_is = rw (stored, answered, is_filled)

  pub round_is : (input' : List ℕ) (r' : Run) → input' ≡ input_after n.progress input n.next filled
      → r' ≡ run_after r input filled n.progress n.next n.at
      → standing n.state r' input' output' ≡ round_of P (standing k r input output)
  unfolding round_of
  round_is input' r' kept moved =
      rw (kept, moved, is_filled) (ap (λ (b : Buffered S). round_by b.answer.progress (standing k r input output) b) passed_is)
