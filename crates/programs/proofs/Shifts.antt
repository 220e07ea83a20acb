-- A record is read in the same way wherever it stands in a buffer, by any program: bytes in front of it shift its places and change nothing
-- else. Assumes nothing.
use mathlib.Core.Bool.{Bool, true, false, cond}
use mathlib.Core.Path.{◌≡◌, refl, ap, ◌∙◌}
use mathlib.Core.List.{List, ◌++◌}
use Prim.Native.Nat.{ℕ, ◌+◌, ◌-◌}
use native.Mathlib.Omega.{arith}
use lib.Dec.{ltb}
use lib.ListN.{length, take, drop}
use lib.Seq.{drop-append-add}
use Rattle.records.specs.Cutting.{cut_of, begins}
use Rattle.records.specs.declared.Cut.{Cut}
use Rattle.records.specs.declared.Cut.TheVariants.{Record, More, Done, Broken}
use Rattle.records.proofs.Streams.{moved, begins-moved}
use Rattle.programs.specs.declared.Progress.TheVariants as progress
use Rattle.programs.specs.Program.{Result, Goes, Ends, Program}
use Rattle.programs.specs.Advancing.{Advance, refused_advance, step_advance, stay_advance, advance_by, advance_of}

abbrev pub shifted : {S : Type 0} → ℕ → Advance S → Advance S
shifted d a = record { progress = a.progress; state = a.state; next = d + a.next; lines = a.lines }

module _ {S : Type 0} (P : Program S) (s : S) (before bytes : List ℕ) (start : ℕ) (ended : Bool) where
  cut_shift : cut_of P.longest (before ++ bytes) (length before + start) ended ≡ moved (length before) (cut_of P.longest bytes start ended)
  unfolding cut_of
  cut_shift =
      ap (λ (l : List ℕ). begins P.longest ended (length before + start) l) (drop-append-add before bytes start)
      ∙ begins-moved P.longest ended (length before) start (drop start bytes)

  pub shifted_advance : advance_of P s (before ++ bytes) (length before + start) ended ≡ shifted (length before) (advance_of P s bytes start ended)
  unfolding advance_of moved
  shifted_advance = ap (λ (c : Cut). advance_by P s (before ++ bytes) (length before + start) c) cut_shift ∙ go (cut_of P.longest bytes start ended)
    where
      over : (t : Bool) → cond t (stay_advance P progress.Done s (length before + start)) (refused_advance P s 19 (length before + start))
          ≡ shifted (length before) (cond t (stay_advance P progress.Done s start) (refused_advance P s 19 start))
      over true = refl
      over false = refl

      step : (r : Result S) (next : ℕ) → step_advance P s r (length before + next) ≡ shifted (length before) (step_advance P s r next)
      step (Goes after lines) next = refl
      step (Ends number) next = refl

      go : (c : Cut) → advance_by P s (before ++ bytes) (length before + start) (moved (length before) c)
          ≡ shifted (length before) (advance_by P s bytes start c)
      go (Record end next) =
          let z : length before + end - (length before + start) ≡ end - start = omega arith in
          rw (z, drop-append-add before bytes start) (step (P.step s (take (end - start) (drop start bytes))) next)
      go More = refl
      go Done = over (ltb 1 (P.place s))
      go Broken = refl
