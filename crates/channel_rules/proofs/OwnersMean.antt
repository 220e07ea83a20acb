-- Every owner is the index of a station of the table: the test of a calendar's entries and what it means, position by position, both ways; by the
-- first station of an index, which there is just if some station has it. Assumes nothing.
use mathlib.Core.Path.{◌≡◌, refl, subst}
use mathlib.Core.Bool.{Bool, true, false, ◌||◌, cond}
use mathlib.Core.List.{List, [], ◌∷◌}
use mathlib.Core.Option.{none, some}
use Prim.Native.Nat.{ℕ, zero, suc, ◌<◌}
use native.Mathlib.Omega.{arith}
use lib.Dec.{eqb}
use lib.ListN.{length}
use borrow.Author.Tests.{eqb-true, eqb-false, lt-ltb, ltb-true}
use Rattle.rules.specs.declared.Station.{Station}
use Rattle.rules.specs.Calendars.{free_entry, owner_in}
use Rattle.channel_rules.specs.Soundness.{position_of, is_on_table, entry_on}
use Rattle.channel_rules.specs.SoundMeaning.{station_at, HasStation}

-- the first station of an index has it
pub found_at : (x : ℕ) (l : List Station) → position_of x l < length l → (station_at l (position_of x l)).index ≡ x
found_at x [] h = absurd (omega arith)
found_at x (s ∷ l) h = go (found_at x l) (eqb s.index x) refl h
  where
    go : (position_of x l < length l → (station_at l (position_of x l)).index ≡ x) → (b : Bool) → eqb s.index x ≡ b → cond b 0 (suc (position_of x l)) < suc (length l) → (station_at (s ∷ l) (cond b 0 (suc (position_of x l)))).index ≡ x
    go ih true e h = eqb-true s.index x e
    go ih false e h = ih (omega arith)

-- and there is one if any station has it
pub found-by : (x : ℕ) (l : List Station) (k : ℕ) → k < length l → (station_at l k).index ≡ x → position_of x l < length l
found-by x [] k h e = absurd (omega arith)
found-by x (s ∷ l) k h e = go (found-by x l) (eqb s.index x) refl k h e
  where
    go : ((k : ℕ) → k < length l → (station_at l k).index ≡ x → position_of x l < length l) → (b : Bool) → eqb s.index x ≡ b → (k : ℕ) → k < suc (length l) → (station_at (s ∷ l) k).index ≡ x → cond b 0 (suc (position_of x l)) < suc (length l)
    go ih true w k h e = omega arith
    go ih false w zero h e = absurd (eqb-false s.index x w e)
    go ih false w (suc k) h e = omega (arith, ih k (omega arith) e)

pub on-table : (stations : List Station) (x : ℕ) → is_on_table stations x ≡ true → HasStation stations x
on-table stations x e =
    let h = ltb-true (position_of x stations) (length stations) e in
    record { which = position_of x stations; there = h; named = found_at x stations h }

pub table-has : (stations : List Station) (x : ℕ) → HasStation stations x → is_on_table stations x ≡ true
table-has stations x w = lt-ltb (position_of x stations) (length stations) (found-by x stations w.which w.there w.named)

-- an entry that passes the test: its owner, if it has one, is a station of the table
pub owner-on : (stations : List Station) (e x : ℕ) → entry_on stations e ≡ true → owner_in e ≡ some x → HasStation stations x
owner-on stations e x w o = go (eqb e free_entry) w o
  where
    go : (b : Bool) → (b || is_on_table stations e) ≡ true → cond b none (some e) ≡ some x → HasStation stations x
    go true w o = let z : ◌≡◌ {A = ℕ} 0 1 = cc in absurd (omega arith)
    go false w o = let z : e ≡ x = cc in subst (HasStation stations) z (on-table stations e w)

-- and an entry whose owner, if it has one, is a station of the table passes it
pub on-owner : (stations : List Station) (e : ℕ) → ((x : ℕ) → owner_in e ≡ some x → HasStation stations x) → entry_on stations e ≡ true
on-owner stations e h = go (eqb e free_entry) refl
  where
    go : (b : Bool) → eqb e free_entry ≡ b → (b || is_on_table stations e) ≡ true
    go true w = refl
    go false w = table-has stations e (h e (rw w))
