-- Reading a whole input, record after record: the record that begins at a place of it, and all that is printed (paper 01, "`follow`"). A
-- record that breaks the form, or a first record missing, is 19; a refusal prints `refused,number,record` and ends the output. Assumes
-- nothing.
use Rattle.std.specs.Prelude.{Bool, true, false, cond, List, [], ◌∷◌, ◌++◌, ℕ, zero, suc, ◌-◌, ltb, length, take, drop}
use Rattle.records.specs.Cutting.{cut_of}
use Rattle.records.specs.declared.Cut.{Cut}
use Rattle.records.specs.declared.Cut.TheVariants as cut
use Rattle.refusals.specs.Refusal.{refusal_of}
use Rattle.programs.specs.declared.Progress.{Progress}
use Rattle.programs.specs.declared.Progress.TheVariants.{Went, More, Done, Refused}
use Rattle.programs.specs.Program.{Result, Goes, Ends, Program}

-- the record that begins at a place: what became of it, what is known after it, where the next begins, and its lines
pub record Advance (S : Type 0) : Type 0 where
  pub progress : Progress
  pub state : S
  pub next : ℕ
  pub lines : List (List ℕ)

-- the record went through, so the next is to be read
abbrev pub goes_on : Progress → Bool
goes_on Went = true
goes_on More = false
goes_on Done = false
goes_on (Refused number) = false

-- all lines, one after another
abbrev pub joined : List (List ℕ) → List ℕ
joined [] = []
joined (l ∷ ls) = l ++ joined ls

module _ {S : Type 0} (P : Program S) where
  -- a refusal ends the output; what is known stays as it was
  abbrev pub refused_advance : S → ℕ → ℕ → Advance S
  refused_advance s number next =
      record { progress = Refused number; state = s; next = next; lines = refusal_of number (P.place s) ∷ [] }

  -- nothing is printed, and nothing changed
  abbrev pub stay_advance : Progress → S → ℕ → Advance S
  stay_advance p s start = record { progress = p; state = s; next = start; lines = [] }

  -- a record was read, with the next one at place `next`
  abbrev pub step_advance : S → Result S → ℕ → Advance S
  step_advance s (Goes after lines) next = record { progress = Went; state = after; next = next; lines = lines }
  step_advance s (Ends number) next = refused_advance s number next

  -- the input ended: a first record missing is 19
  abbrev pub done_advance : S → ℕ → Advance S
  done_advance s start = cond (ltb 1 (P.place s)) (stay_advance Done s start) (refused_advance s 19 start)

  -- the record that begins at place `start`, by where it ends: no record there, or one that breaks the form (19), or one to be read
  abbrev pub advance_by : S → List ℕ → ℕ → Cut → Advance S
  advance_by s bytes start (cut.Record end next) = step_advance s (P.step s (take (end - start) (drop start bytes))) next
  advance_by s bytes start cut.More = stay_advance More s start
  advance_by s bytes start cut.Done = done_advance s start
  advance_by s bytes start cut.Broken = refused_advance s 19 start

  -- THE RECORD THAT BEGINS AT PLACE `start` of `bytes`; `ended`: no byte comes after them
  unfoldable pub advance_of : S → List ℕ → ℕ → Bool → Advance S
  advance_of s bytes start ended = advance_by s bytes start (cut_of P.longest bytes start ended)

  -- the lines of the records from place `start` of the input on, of k records at most: till the input is used up or a record is refused;
  -- `ended`: no byte comes after it
  unfoldable pub lines_from : Bool → ℕ → S → List ℕ → ℕ → List ℕ
  lines_from ended zero s input start = []
  lines_from ended (suc k) s input start =
      let a = advance_of s input start ended in
      joined a.lines ++ cond (goes_on a.progress) (lines_from ended k a.state input a.next) []

  -- WHAT IS PRINTED FOR AN INPUT: the header comes first. No input has more records than bytes.
  unfoldable pub printed_of : List ℕ → List ℕ
  printed_of input = P.header ++ lines_from true (suc (length input)) P.begin input 0

  -- what can be said of an input so far, of which more may come: the header, and the lines of the records that are whole
  unfoldable pub so_far_of : List ℕ → List ℕ
  so_far_of input = P.header ++ lines_from false (suc (length input)) P.begin input 0
