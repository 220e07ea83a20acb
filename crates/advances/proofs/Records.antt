-- A record that was followed is what the program leads to: a refusal leaves what is known as it was, and the line of any other is printed.
-- Assumes nothing.
use mathlib.Core.Bool.{Bool, true, false, cond}
use mathlib.Core.Path.{◌≡◌, refl}
use mathlib.Core.List.{List}
use Prim.Native.Nat.{ℕ}
use lib.Dec.{ltb, eqb}
use Rattle.programs.specs.Advancing.{step_advance}
use Rattle.following.specs.declared.Follower.{Follower}
use Rattle.following.specs.RecordNumbers.{record_number_of}
use Rattle.following.specs.Following.{refused_step, row_went, first_went, follow_record}
use Rattle.following.specs.FollowProgram.{result_of, follow_program}
use Rattle.advances.specs.Advanced.{stepped_of, advanced}

pub record_advanced : (f : Follower) (bytes : List ℕ) (next : ℕ)
    → advanced (stepped_of (follow_record f bytes) next) ≡ step_advance follow_program f (result_of (follow_record f bytes)) next
unfolding follow_record
record_advanced f bytes next = go (eqb (record_number_of f bytes) 0) (ltb 1 f.place)
  where
    go : (none later : Bool)
        → advanced (stepped_of (cond none (cond later (row_went f bytes) (first_went f bytes)) (refused_step f (record_number_of f bytes))) next)
        ≡ step_advance follow_program f (result_of (cond none (cond later (row_went f bytes) (first_went f bytes)) (refused_step f (record_number_of f bytes)))) next
    go true true = refl
    go true false = refl
    go false later = refl
