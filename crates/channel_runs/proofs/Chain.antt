-- DEMAND 3 OF THE CODE: of every run of the calls, by their contracts alone, from a start that goes through. The tables, wires and answers that the calls
-- leave are the channel's, of which demand 3 is proved. Assumes nothing.
use mathlib.Core.Path.{◌≡◌, refl, sym, ap, subst, ◌∙◌}
use mathlib.Core.List.{List, [], ◌∷◌, map}
use Prim.Native.Nat.{ℕ}
use Rattle.rules.specs.declared.Answer.{Answer}
use Rattle.rules.specs.declared.StartAnswer.TheVariants.{Ready}
use Rattle.rules.specs.Calls.{Call}
use Rattle.channel_rules.specs.ChannelCalls.{Channel, ChannelResult, ChannelStarted, channel_after, channel_answers}
use Rattle.channel_rules.specs.Demand3.{Demand3After}
use Rattle.channel_rules.proofs.Theorem.{demand3}
use Rattle.channel_runs.specs.Runs.{StartMet, Ran, finally}

-- what the calls leave is what the channel's calls leave, one after the other
pub run-state : (ch : Channel) (calls : List Call) (left : List ChannelResult) → Ran ch calls left
    → (finally ch left ≡ channel_after ch calls) × (map (λ (r : ChannelResult). r.answer) left ≡ channel_answers ch calls)
run-state ch [] [] w = (refl, refl)
run-state ch [] (r ∷ rest) w = absurd w
run-state ch (c ∷ l) [] w = absurd w
run-state ch (c ∷ l) (r ∷ rest) w =
    let (x, y) = run-state r.state l rest w.1 in
    let e = w.0.0 in (
      x ∙ ap (λ (z : ChannelResult). channel_after z.state l) e,
      ap (λ (z : List Answer). r.answer ∷ z) y ∙ ap (λ (z : ChannelResult). z.answer ∷ channel_answers z.state l) e,
    )

-- DEMAND 3, of the code
pub record OfCode (m n : ℕ) (indexes : List ℕ) (begun : Channel) (calls : List Call) (left : List ChannelResult) : Type 0 where
  -- the table and the wire after the list, and every answer, are the channel's
  pub after : finally begun left ≡ channel_after begun calls
  pub answers : map (λ (r : ChannelResult). r.answer) left ≡ channel_answers begun calls
  -- of which demand 3 holds
  pub claim : Demand3After (record { m = m; n = n; indexes = indexes }) begun calls

pub of_code : (before : Channel) (m n : ℕ) (indexes : List ℕ) (r : ChannelStarted) → StartMet before m n indexes r → r.answer ≡ Ready
    → (calls : List Call) (left : List ChannelResult) → Ran r.state calls left → OfCode m n indexes r.state calls left
of_code before m n indexes r s ready calls left w =
    let (x, y) = run-state r.state calls left w in
    record {
      after = x;
      answers = y;
      claim = subst (λ (z : ChannelStarted). Demand3After (record { m = m; n = n; indexes = indexes }) z.state calls) (sym s.0)
          (demand3 before m n indexes (ap (λ (z : ChannelStarted). z.answer) (sym s.0) ∙ ready) calls);
    }
