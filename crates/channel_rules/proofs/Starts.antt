-- A start that goes through: its arguments are within their limits, and the new channel is the start's table with a silent wire. Assumes nothing.
use mathlib.Core.Path.{◌≡◌, refl, sym, ap, ◌∙◌}
use mathlib.Core.Bool.{true, false, ◌&&◌}
use mathlib.Core.List.{List, [], ◌∷◌, map}
use mathlib.Core.Logic.{by_cases}
use Prim.Native.Nat.{ℕ, zero, suc, ◌+◌, ◌-◌, ◌≤◌, ◌<◌}
use native.Mathlib.Omega.{arith}
use native.Mathlib.Nat.{zero-add}
use native.Mathlib.Decide.{dec_lt}
use lib.Dec.{eqb}
use lib.ListN.{length, get_or, replicate, get_or-replicate}
use borrow.Author.Tests.{eqb-true, leb-true}
use Rattle.minislot.specs.declared.Minislot.{Minislot}
use Rattle.requests.specs.Together.{silent, together}
use Rattle.rules.specs.declared.Station.{Station}
use Rattle.rules.specs.declared.StartAnswer.TheVariants.{Ready}
use Rattle.std.specs.List.{list_all}
use Rattle.listlaws.specs.Lists.{each_pair}
use Rattle.rules.specs.Limits.{between}
use Rattle.rules.specs.Starting.{in_ranges}
use Rattle.rules.specs.StationCalls.{start_station, is_index}
use Rattle.places.specs.Places.{differ}
use Rattle.channel_rules.specs.ChannelCalls.{Channel, blank_row, new_channel, has_stations, ChannelStarted, channel_start_number_of, channel_start_of, refused_beginning}
use Rattle.rules.specs.Calls.{Start, index}
use Rattle.rules.proofs.Views.{Sender}
use Rattle.rules.proofs.Shared.{table_start, collect, index_of}
use Rattle.rules.proofs.LimitLaws.{between-bounds}
use Rattle.rules.proofs.SlotStep.{and_both}
use Rattle.channel_rules.proofs.SoundMeans.{all-at, pair-at, not_eq}
use Rattle.rules.proofs.WireRows.{minislot_row}
use Rattle.rules.proofs.Walking.{AreStations}
use Rattle.rules.proofs.Refusals.{through-only, test_passed}
use Rattle.channel_rules.proofs.Embody.{Embodies, GoodStart}

abbrev start_on : ℕ → ℕ → List ℕ → Start
start_on m n indexes = record { m = m; n = n; indexes = indexes }

-- what the four tests say
good : (before : Channel) (m n : ℕ) (indexes : List ℕ) → in_ranges m n ≡ true → (has_stations before.stations && eqb (length indexes) (length before.stations)) ≡ true
    → list_all is_index indexes ≡ true → each_pair differ indexes ≡ true → GoodStart (start_on m n indexes)
good before m n indexes e5 e14 e8 e15 =
    let (a, b) = and_both (between 2 m 8) (between 1 n 8) e5 in
    let (c, d) = and_both (has_stations before.stations) (eqb (length indexes) (length before.stations)) e14 in
    let (m2, m8) = between-bounds 2 m 8 a in
    let (n1, n8) = between-bounds 1 n 8 b in
    let (k1, k64) = between-bounds 1 (length before.stations) 64 c in
    let q : length indexes ≡ length before.stations = eqb-true (length indexes) (length before.stations) d in
    record {
      m-low = m2;
      m-high = m8;
      n-low = n1;
      n-high = n8;
      some = omega arith;
      few = omega arith;
      indexes =
          record {
            below = λ k h. let w : get_or indexes k 0 ≤ 923 = leb-true (get_or indexes k 0) 923 (all-at is_index 0 indexes e8 k h) in omega arith;
            distinct = λ i k hi hk w.
                by_cases (dec_lt i k) (λ l. absurd (not_eq (get_or indexes i 0) (get_or indexes k 0) (pair-at differ 0 indexes e15 i k l hk) w))
                (λ l. by_cases (dec_lt k i) (λ v. absurd (not_eq (get_or indexes k 0) (get_or indexes i 0) (pair-at differ 0 indexes e15 k i v hi) (sym w))) (λ v. omega arith));
          };
    }

pub started : (before : Channel) (m n : ℕ) (indexes : List ℕ) → (channel_start_of before m n indexes).answer ≡ Ready
    → GoodStart (start_on m n indexes) × ((channel_start_of before m n indexes).state ≡ new_channel m n indexes)
unfolding channel_start_of channel_start_number_of
started before m n indexes e =
    let none =
    through-only (λ (r : ChannelStarted). r.answer ≡ Ready) (channel_start_number_of (length before.stations) m n indexes) (refused_beginning before) _
    (λ k q. let z : ◌≡◌ {A = ℕ} 0 1 = cc in absurd (omega arith)) e in
    let (e5, after5) = test_passed (in_ranges m n) 5 _ refl none in
    let (e14, after14) = test_passed (has_stations before.stations && eqb (length indexes) (length before.stations)) 14 _ refl after5 in
    let (e8, after8) = test_passed (list_all is_index indexes) 8 _ refl after14 in
    let (e15, _) = test_passed (each_pair differ indexes) 15 _ refl after8 in
    (good before m n indexes e5 e14 e8 e15, rw (e5, e14, e8, e15))

-- ---- the new channel is the start's table

new_are : (S : Start) (j : ℕ) (l : List ℕ) → ((i : ℕ) → i < length l → get_or l i 0 ≡ index S (j + i)) → AreStations S table_start j (map (start_station S.m S.n) l)
new_are S j [] h = tt
new_are S j (x ∷ l) h = (
  record {
    index = h zero (omega arith) ∙ ap (index S) (omega arith);
    minislots = refl;
    groups = refl;
    next = refl;
    urgent = refl;
    long-queue = refl;
    arrays = (refl, refl);
    resolution = λ g lo hi. get_or-replicate 8 (g - 1) 0 0 (omega arith);
    mark = λ g lo hi. get_or-replicate 8 (g - 1) true false (omega arith);
    calendar = refl;
    position = refl;
    short = refl;
    long = refl;
  },
  new_are S (suc j) l (λ i w. h (suc i) (omega arith) ∙ ap (index S) (omega arith)),
)

new_names : (m n : ℕ) (l : List ℕ) → map (λ (s : Station). s.index) (map (start_station m n) l) ≡ l
new_names m n [] = refl
new_names m n (x ∷ l) = ap (λ (z : List ℕ). x ∷ z) (new_names m n l)

no_one : (n j : ℕ) → collect {A = Sender} (λ k. []) n j ≡ []
no_one zero j = refl
no_one (suc n) j = no_one n (suc j)

silent-row : (ix : ℕ → ℕ) (K n j : ℕ) → replicate n silent ≡ minislot_row ix K (λ i k. []) n j
unfolding together
silent-row ix K zero j = refl
silent-row ix K (suc n) j = rw (no_one K 0) (ap (λ (z : List Minislot). silent ∷ z) (silent-row ix K n (suc j)))

pub new_embodies : (S : Start) → Embodies S table_start (new_channel S.m S.n S.indexes)
new_embodies S =
    record {
      stations = new_are S 0 S.indexes (λ i w. ap (index S) (sym (zero-add i)));
      indexes = new_names S.m S.n S.indexes;
      wire = λ g lo hi. get_or-replicate 8 (g - 1) blank_row blank_row (omega arith) ∙ ap (λ (z : List Minislot). record { minislots = z }) (silent-row (index_of S) (length S.indexes) 8 1);
      groups = refl;
    }
