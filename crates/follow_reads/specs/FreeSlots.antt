-- `follow` sets no calendar (paper 02, T-02), so its lines are those of paper 01: before every row of every recording all positions are
-- free, and the row's turn and counters go by the lengths of the queues alone. Assumes nothing.
use Rattle.std.specs.Prelude.{cond, List, [], ◌∷◌, ◌≡◌, ℕ, ◌-◌, ◌<◌, ltb}
use Rattle.std.proofs.Math.Option.{none}
use Rattle.rules.specs.declared.Places.{Places}
use Rattle.rules.specs.Calendars.{free_calendar, owner_of}
use Rattle.following.specs.declared.Follower.{Follower}
use Rattle.following.specs.declared.Line.{Line}
use Rattle.following.specs.declared.Line.TheVariants.{Row}
use Rattle.following.specs.RecordNumbers.{row_number_of}
use Rattle.following.specs.Following.{at_begin, row_places, follow_record}

-- what is known after some records, one after another; a record that is refused leaves it as it was
abbrev pub known_from : Follower → List (List ℕ) → Follower
known_from f [] = f
known_from f (bytes ∷ records) = known_from (follow_record f bytes).follower records

abbrev pub known_after : List (List ℕ) → Follower
known_after = known_from at_begin

-- a row's line by H, N and RQ after step 1: the turn is u for H > 0, else l for N > 0, else r for RQ > 0, else o; of H and N the first
-- that is not 0 falls by 1, and so does RQ
abbrev pub free_letter : Places → ℕ
free_letter p = cond (ltb 0 p.urgent) 117 (cond (ltb 0 p.long) 108 (cond (ltb 0 p.resolution) 114 111))

abbrev pub free_line : Follower → Places → Line
free_line f p =
    let long = cond (ltb 0 p.urgent) p.long (p.long - 1) in
    Row (f.place - 1) f.counters.next (free_letter p) (p.urgent - 1) long (p.resolution - 1)

-- A ROW THAT IS TO COME: no position has an owner, and if it goes through, its line is that of paper 01
pub record FreeRow (f : Follower) (bytes : List ℕ) : Type 0 where
  pub calendar : f.counters.calendar ≡ free_calendar
  pub unowned : owner_of f.counters ≡ none
  pub line : row_number_of f bytes ≡ 0 → (follow_record f bytes).line ≡ free_line f (row_places f bytes)

-- of every recording, at each of its rows
abbrev pub FollowFree : Type 0
FollowFree = (records : List (List ℕ)) → 1 < (known_after records).place → (bytes : List ℕ) → FreeRow (known_after records) bytes
