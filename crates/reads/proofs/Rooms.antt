-- Of a lawful program: the lines of the record that begins at a place fit into the program's room, and what is known after it is good again.
-- Assumes nothing.
use mathlib.Core.Bool.{Bool, true, false, cond}
use mathlib.Core.Path.{ap}
use mathlib.Core.List.{List, append-nil}
use Prim.Native.Nat.{ℕ, ◌-◌, ◌≤◌}
use native.Mathlib.Omega.{arith}
use lib.Dec.{ltb}
use lib.ListN.{length, take, drop}
use Rattle.records.specs.Cutting.{cut_of}
use Rattle.records.specs.declared.Cut.{Cut}
use Rattle.records.specs.declared.Cut.TheVariants as cut
use Rattle.refusals.specs.Refusal.{refusal_of}
use Rattle.programs.specs.declared.Progress.TheVariants.{Done}
use Rattle.programs.specs.Program.{Result, Goes, Ends, Program}
use Rattle.programs.specs.Advancing.{Advance, joined, refused_advance, stay_advance, step_advance, advance_by, advance_of}
use Rattle.reads.specs.Lawful.{Allowed, Lawful}

module _ {S : Type 0} (P : Program S) (L : Lawful P) (s : S) (good : L.Good s) where
  abbrev Fits : Advance S → Type 0
  Fits a = (length (joined a.lines) ≤ P.room) × L.Good a.state

  refused-fits : (number next : ℕ) → length (refusal_of number (P.place s)) ≤ P.room → Fits (refused_advance P s number next)
  refused-fits number next h = (omega (arith, ap length (append-nil (refusal_of number (P.place s)))), good)

  step_fits : (r : Result S) (next : ℕ) → Allowed P L.Good s r → Fits (step_advance P s r next)
  step_fits (Goes after lines) next h = (h.1, h.0)
  step_fits (Ends number) next h = refused-fits number next h

  module _ (bytes : List ℕ) (start : ℕ) (ended : Bool) where
    advance_fits : Fits (advance_of P s bytes start ended)
    unfolding advance_of
    advance_fits = go (cut_of P.longest bytes start ended)
      where
        over : (t : Bool) → Fits (cond t (stay_advance P Done s start) (refused_advance P s 19 start))
        over true = (omega arith, good)
        over false = refused-fits 19 start (L.broken s good)

        go : (c : Cut) → Fits (advance_by P s bytes start c)
        go (cut.Record end next) = let part = take (end - start) (drop start bytes) in step_fits (P.step s part) next (L.steps s good part)
        go cut.More = (omega arith, good)
        go cut.Done = over (ltb 1 (P.place s))
        go cut.Broken = refused-fits 19 start (L.broken s good)

    pub lines-room : length (joined (advance_of P s bytes start ended).lines) ≤ P.room
    lines-room = advance_fits.0

    pub good-kept : L.Good (advance_of P s bytes start ended).state
    good-kept = advance_fits.1
