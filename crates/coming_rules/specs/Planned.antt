-- Who sends in the coming slots, by places and calendar, with no slot run (paper 02, T-07: "Worked out without running the channel"):
-- the slots that no stream owns serve the places of H, one after the other, and then those of N; an owned slot is its owner's and
-- serves none. That this is the run of Coming: proofs/Planning. Assumes nothing.
use Rattle.std.specs.Prelude.{Bool, false, ◌&&◌, cond, List, [], ◌∷◌, ◌++◌, ℕ, zero, suc, ◌+◌, ◌-◌, ◌*◌, ◌/◌, ◌%◌, eqb, leb, ltb, length, get_or}
use Rattle.std.specs.List.{flat_map}
use Rattle.listlaws.specs.Lists.{only_if, tabulate}
use Rattle.rules.specs.declared.Station.{Station}
use Rattle.rules.specs.declared.TableMessage.{TableMessage}
use Rattle.rules.specs.declared.Condition.{Condition}
use Rattle.rules.specs.declared.Condition.TheVariants.{Free, Held, Fresh, Asked, Resolving, Urgent, Long}
use Rattle.rules.specs.Calendars.{free_entry, position_after}
use Rattle.channel_rules.specs.Soundness.{messages_of}
use Rattle.coming_rules.specs.Coming.{nobody}

-- ---- places: those of H, then those of N, counted from 0

-- a message has the k-th place, where H has h of them
abbrev pub has_place : ℕ → ℕ → Condition → Bool
has_place h k Free = false
has_place h k (Held t) = false
has_place h k (Fresh t) = false
has_place h k (Asked g j t) = false
has_place h k (Resolving g i t) = false
has_place h k (Urgent i) = eqb k (i - 1)
has_place h k (Long f l t) = leb (h + (f - 1)) k && ltb k (h + (f - 1) + l)

-- the indexes of the stations that have it
abbrev pub holders_of : ℕ → ℕ → List Station → List ℕ
holders_of h k stations =
    flat_map (λ (m : TableMessage). only_if (has_place h k m.condition) (m.index ∷ [])) (messages_of stations)

-- the first of a list, nobody if there is none
abbrev pub first_of : List ℕ → ℕ
first_of [] = nobody
first_of (x ∷ l) = x

-- the station that is served at the k-th place
unfoldable pub served_at : ℕ → List Station → ℕ → ℕ
served_at h stations k = first_of (holders_of h k stations)

-- ---- the calendar's slots: p is the position of the next one

-- the position of the i-th slot, from 0, and its entry
abbrev pub position_in : ℕ → ℕ → ℕ
position_in p zero = p
position_in p (suc i) = position_after (position_in p i)

abbrev pub entry_in : List ℕ → ℕ → ℕ → ℕ
entry_in calendar p i = get_or calendar (position_in p i) free_entry

-- how many of the next n slots no stream owns, and which
abbrev pub free_in : List ℕ → ℕ → ℕ → ℕ
free_in calendar p zero = 0
free_in calendar p (suc n) = free_in calendar p n + cond (eqb (entry_in calendar p n) free_entry) 1 0

abbrev pub free_slots : List ℕ → ℕ → ℕ → List ℕ
free_slots calendar p zero = []
free_slots calendar p (suc n) = free_slots calendar p n ++ only_if (eqb (entry_in calendar p n) free_entry) (n ∷ [])

-- ---- who sends in the i-th slot: its owner, or whoever has the place whose turn it is

abbrev pub planned_at : List ℕ → ℕ → (ℕ → ℕ) → ℕ → ℕ
planned_at calendar p served i =
    cond (eqb (entry_in calendar p i) free_entry) (served (free_in calendar p i)) (entry_in calendar p i)

-- in each of the next w slots
unfoldable pub planned_list : List ℕ → ℕ → (ℕ → ℕ) → ℕ → List ℕ
planned_list calendar p served w = tabulate w (planned_at calendar p served)

-- ---- the slots until so many places are served: whole rounds of the calendar, and of the last one as many slots as there are up to the
-- ---- last place's own

unfoldable pub planned_until : List ℕ → ℕ → ℕ → ℕ
planned_until calendar p places =
    let free = free_slots calendar p 24 in
    cond (eqb places 0) 0 (24 * ((places - 1) / length free) + get_or free ((places - 1) % length free) 0 + 1)
