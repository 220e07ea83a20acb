-- What is answered of a record, as the paper's number and values (paper 01, "Operations and their numbers"): a refusal answers its number,
-- and a record that goes through 0. Its values (slot number, group, turn, H, N and RQ) stand in the line that the same call writes, which
-- the contract settles. Assumes nothing.
use Rattle.std.specs.Prelude.{Bool, List, [], ℕ, ◌-◌, ltb, take, drop}
use Rattle.records.specs.Cutting.{cut_of}
use Rattle.records.specs.declared.Cut.{Cut}
use Rattle.records.specs.declared.Cut.TheVariants as cut
use Rattle.rules.specs.Refusing.{unless}
use Rattle.rules.specs.Numbers.{Told, refusal, went}
use Rattle.rules.specs.Answered.{told}
use Rattle.following.specs.declared.Follower.{Follower}
use Rattle.programs.specs.declared.Progress.{Progress}
use Rattle.programs.specs.declared.Progress.TheVariants.{Went, More, Done, Refused}
use Rattle.following.specs.RecordNumbers.{record_number_of}
use Rattle.following.specs.FollowProgram.{follow_program}

-- ---- the number of the record that begins at a place; that of a record by itself: following/specs/RecordNumbers

-- by where the record ends: one that breaks the form is 19, and so is a first record missing; none is refused where more bytes are needed
abbrev pub next_number_by : Follower → List ℕ → ℕ → Cut → ℕ
next_number_by f bytes start (cut.Record end next) = record_number_of f (take (end - start) (drop start bytes))
next_number_by f bytes start cut.More = 0
next_number_by f bytes start cut.Done = unless (ltb 1 f.place) 19 0
next_number_by f bytes start cut.Broken = 19

-- THE RECORD THAT BEGINS AT PLACE `start` of `bytes`; `ended`: no byte comes after them
unfoldable pub next_number_of : Follower → List ℕ → ℕ → Bool → ℕ
next_number_of f bytes start ended = next_number_by f bytes start (cut_of follow_program.longest bytes start ended)

-- ---- what is answered

-- the number of each case: none where the record went through, where it is not whole yet, and where no record is left
abbrev pub progress_told : Progress → Told
progress_told Went = went [] []
progress_told More = went [] []
progress_told Done = went [] []
progress_told (Refused n) = refusal n

-- a record
unfoldable pub record_told_of : Follower → List ℕ → Told
record_told_of f bytes = told (record_number_of f bytes) [] []

-- the record that begins at place `start`
unfoldable pub next_told_of : Follower → List ℕ → ℕ → Bool → Told
next_told_of f bytes start ended = told (next_number_of f bytes start ended) [] []
