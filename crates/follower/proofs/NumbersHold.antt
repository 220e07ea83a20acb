-- What is followed tells the number of the record's own list, whatever the record: what goes by the number goes by it alone.
-- Assumes nothing.
use mathlib.Core.Bool.{Bool, true, false, cond}
use mathlib.Core.Path.{◌≡◌, refl, ap, sym, ◌∙◌}
use mathlib.Core.List.{List, []}
use Prim.Native.Nat.{ℕ, ◌-◌}
use lib.Dec.{ltb}
use lib.ListN.{take, drop}
use Rattle.records.specs.Cutting.{cut_of}
use Rattle.records.specs.declared.Cut.{Cut}
use Rattle.records.specs.declared.Cut.TheVariants as cut
use Rattle.rules.specs.Numbers.{Told}
use Rattle.rules.specs.Answered.{told}
use Rattle.rules.specs.Refusing.{by_number, unless}
use Rattle.rules.proofs.Refusals.{by-ap}
use Rattle.following.specs.declared.Follower.{Follower}
use Rattle.following.specs.declared.Step.{Step}
use Rattle.programs.specs.declared.Progress.TheVariants.{Done}
use Rattle.programs.specs.Advancing.{Advance, refused_advance, stay_advance, advance_by, advance_of}
use Rattle.following.specs.RecordNumbers.{record_number_of}
use Rattle.follower.specs.Answered.{next_number_by, next_number_of}
use Rattle.following.specs.Following.{refused_step, row_went, first_went, follow_record}
use Rattle.following.specs.FollowProgram.{follow_program}
use Rattle.advances.specs.Advanced.{progress_of}
use Rattle.advances.proofs.Records.{record_advanced}
use Rattle.follower.specs.Answered.{progress_told, record_told_of, next_told_of}

-- what a step tells
abbrev step_told : Step → Told
step_told s = progress_told (progress_of s.line)

module _ (f : Follower) where
  pub record_told : (bytes : List ℕ) → progress_told (progress_of (follow_record f bytes).line) ≡ record_told_of f bytes
  unfolding follow_record record_told_of
  record_told bytes = go (ltb 1 f.place)
    where
      go : (t : Bool) → step_told (by_number (record_number_of f bytes) (refused_step f) (cond t (row_went f bytes) (first_went f bytes)))
          ≡ told (record_number_of f bytes) [] []
      go true = by-ap step_told (record_number_of f bytes) (refused_step f) (row_went f bytes)
      go false = by-ap step_told (record_number_of f bytes) (refused_step f) (first_went f bytes)

  pub next-told : (bytes : List ℕ) (start : ℕ) (ended : Bool) → progress_told (advance_of follow_program f bytes start ended).progress ≡ next_told_of f bytes start ended
  unfolding advance_of next_told_of next_number_of record_told_of
  next-told bytes start ended = go (cut_of follow_program.longest bytes start ended)
    where
      over : (t : Bool) → progress_told (cond t (stay_advance follow_program Done f start) (refused_advance follow_program f 19 start)).progress ≡ told (unless t 19 0) [] []
      over true = refl
      over false = refl

      go : (c : Cut) → progress_told (advance_by follow_program f bytes start c).progress ≡ told (next_number_by f bytes start c) [] []
      go (cut.Record end next) =
          let part = take (end - start) (drop start bytes) in
          ap (λ (a : Advance Follower). progress_told a.progress) (sym (record_advanced f part next)) ∙ record_told part
      go cut.More = refl
      go cut.Done = over (ltb 1 f.place)
      go cut.Broken = refl
