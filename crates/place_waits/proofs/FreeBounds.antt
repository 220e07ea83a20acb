-- How soon a slot that no stream owns comes: while no calendar is set, each slot that goes through moves the position on by one, so as many of them have no owner
-- as the calendar has free positions there; and of any 24 in a row the same number are free. Assumes nothing.
use mathlib.Core.Path.{◌≡◌, refl, sym, ap, subst, ◌∙◌}
use mathlib.Core.Bool.{Bool, true, false, not, ◌&&◌, cond, false≢true}
use mathlib.Core.List.{List, [], ◌∷◌, ◌++◌}
use mathlib.Core.Logic.{by_cases}
use mathlib.Core.Option.{none, some}
use Prim.Native.Nat.{ℕ, zero, suc, ◌+◌, ◌-◌, ◌*◌, ◌/◌, ◌%◌, ◌≤◌, ◌<◌}
use native.Mathlib.Omega.{arith}
use native.Mathlib.Nat.{mod-lt, div-add-mod'}
use native.Mathlib.Decide.{dec_lt}
use lib.Dec.{eqb, eqb-suc-zero}
use lib.ListN.{length, get_or, take}
use lib.Seq.{take-suc, take_all}
use Rattle.listlaws.specs.Lists.{count_of}
use Rattle.rules.specs.Calendars.{free_entry, some_free}
use Rattle.rules.specs.Calls.{Call, Write, Slot, Calendar}
use Rattle.channel_rules.specs.Soundness.{table_counters, sound_table}
use Rattle.channel_rules.specs.ChannelCalls.{Channel, has_stations, channel_call}
use Rattle.rules.proofs.LimitLaws.{CalendarIn, calendar-in}
use Rattle.rules.proofs.SlotStep.{and_both}
use Rattle.coming_rules.specs.Coming.{places_in, coming_until}
use Rattle.coming_rules.specs.Planned.{position_in, entry_in, free_in, planned_until}
use Rattle.coming_rules.proofs.FreeSlots.{position_mod, free-add, free-next, free-rises, free-most, free-rounds, free-some, until_first}
use Rattle.coming_rules.proofs.Planning.{planned-until}
use Rattle.sound_slots.proofs.ChannelLaws.{limits}
use Rattle.sound_slots.proofs.Passing.{some-stations}
use Rattle.place_waits.specs.Continuing.{is_taken, nobodys, unowned, is_counted, slots_taken, unowned_answers}
use Rattle.place_waits.specs.Bounds.{free_positions, within, sets_calendar, keeps_calendar}
use Rattle.place_waits.proofs.SlotLeaves.{taken-passed, calendar-after, position-after}
use Rattle.place_waits.proofs.CallLeaves.{position-same, calendar-same}
use Rattle.place_waits.proofs.Counting.{counted, passed-by}

-- ---- free positions, counted round the calendar from any position

-- of i slots more at most i are free
free-few : (cal : List ℕ) (p k i : ℕ) → free_in cal p (k + i) ≤ free_in cal p k + i
free-few cal p k i = let w = free-add cal p k i in let m = free-most cal (position_in p k) i in omega (arith, w, m)

position-small : (n : ℕ) → n ≤ 23 → position_in 0 n ≡ n
position-small n h = position_mod 0 (omega arith) n ∙ (let z : (0 + n) % 24 ≡ n = omega (arith, h) in z)

free-round : (cal : List ℕ) (p : ℕ) → p ≤ 23 → free_in cal p 24 ≡ free_in cal 0 24
free-round cal p h =
    let a : free_in cal 0 (p + 24) ≡ free_in cal 0 p + free_in cal p 24 = free-add cal 0 p 24 ∙ ap (λ (x : ℕ). free_in cal 0 p + free_in cal x 24) (position-small p h) in
    let b : free_in cal 0 (24 + p) ≡ free_in cal 0 24 + free_in cal 0 p
    = free-add cal 0 24 p ∙ ap (λ (x : ℕ). free_in cal 0 24 + free_in cal x p) (position_mod 0 (omega arith) 24) in
    let e : p + 24 ≡ 24 + p = omega arith in
    let d = ap (free_in cal 0) e in
    omega (arith, a, b, d)

count-more : (l : List ℕ) (x : ℕ) → count_of (λ (x : ℕ). eqb x free_entry) (l ++ (x ∷ [])) ≡ count_of (λ (x : ℕ). eqb x free_entry) l + cond (eqb x free_entry) 1 0
count-more [] x = omega arith
count-more (y ∷ l) x = let w = count-more l x in omega (arith, w)

free-front : (cal : List ℕ) → length cal ≡ 24 → (n : ℕ) → n ≤ 24 → free_in cal 0 n ≡ count_of (λ (x : ℕ). eqb x free_entry) (take n cal)
free-front cal size zero h = refl
free-front cal size (suc n) h =
    let here : entry_in cal 0 n ≡ get_or cal n free_entry = ap (λ (x : ℕ). get_or cal x free_entry) (position-small n (omega (arith, h))) in
    let w = free-front cal size n (omega (arith, h)) in
    ap (λ (x : ℕ). free_in cal 0 n + cond (eqb x free_entry) 1 0) here
    ∙ ap (λ (x : ℕ). x + cond (eqb (get_or cal n free_entry) free_entry) 1 0) w
    ∙ sym (ap (count_of (λ (x : ℕ). eqb x free_entry)) (take-suc cal n free_entry (omega (arith, h, size))) ∙ count-more (take n cal) (get_or cal n free_entry))

free-positions : (cal : List ℕ) (p : ℕ) → p ≤ 23 → length cal ≡ 24 → free_in cal p 24 ≡ free_positions cal
free-positions cal p h size =
    free-round cal p h ∙ free-front cal size 24 (omega arith) ∙ ap (count_of (λ (x : ℕ). eqb x free_entry)) (take_all 24 cal (omega (arith, size)))

-- ---- THE BOUND

-- so many slots have so many free ones
module _ (cal : List ℕ) (p : ℕ) (h : p ≤ 23) (size : length cal ≡ 24) (some-free : some_free cal ≡ true) where
  rounds : ℕ → ℕ → ℕ
  rounds f m = 24 * (m / f) + (24 - f + (m % f + 1))

  rounds-free : (m : ℕ) → m + 1 ≤ free_in cal p (rounds (free_in cal p 24) m)
  unfolding rounds
  rounds-free m =
      let f = free_in cal p 24 in
      let lo : 1 ≤ free_in cal p 24 = free-some cal p h size some-free in
      let hi : free_in cal p 24 ≤ 24 = free-most cal p 24 in
      let less : m % f < f = mod-lt m lo in
      let sum : m / f * f + m % f ≡ m = div-add-mod' m f in
      let part : free_in cal p (24 - f + (m % f + 1) + (f - (m % f + 1))) ≤ free_in cal p (24 - f + (m % f + 1)) + (f - (m % f + 1)) = free-few cal p (24 - f + (m % f + 1)) (f - (m % f + 1)) in
      let whole : 24 - f + (m % f + 1) + (f - (m % f + 1)) ≡ 24 = omega (arith, hi, less) in
      let same : free_in cal p (24 - f + (m % f + 1) + (f - (m % f + 1))) ≡ f = ap (free_in cal p) whole in
      let turns = free-rounds cal p h (m / f) (24 - f + (m % f + 1)) in
      omega (arith, hi, less, sum, part, same, turns)

  within-is : (f m : ℕ) → within f (suc m) ≡ rounds f m
  unfolding within rounds
  within-is f m = let z : suc m - 1 ≡ m = omega arith in rw (eqb-suc-zero m, z) (omega arith)

  pub within-free : (n : ℕ) → n ≤ free_in cal p (within (free_positions cal) n)
  within-free zero = omega arith
  within-free (suc m) =
      let w = rounds-free m in
      let e : rounds (free_in cal p 24) m ≡ within (free_positions cal) (suc m) = sym (within-is (free_in cal p 24) m) ∙ ap (λ (f : ℕ). within f (suc m)) (free-positions cal p h size) in
      let d = ap (free_in cal p) e in
      omega (arith, w, d)

-- ---- slots of a list

unowned-is : (ch : Channel) → unowned ch ≡ eqb (entry_in (table_counters ch.stations).calendar (table_counters ch.stations).position 0) free_entry
unowned-is ch = go (eqb (get_or (table_counters ch.stations).calendar (table_counters ch.stations).position free_entry) free_entry)
  where
    go : (b : Bool) → nobodys (cond b none (some (get_or (table_counters ch.stations).calendar (table_counters ch.stations).position free_entry))) ≡ b
    go true = refl
    go false = refl

pub free-taken : (calls : List Call) (ch : Channel) → keeps_calendar ch calls ≡ true
    → length (unowned_answers ch calls) ≡ free_in (table_counters ch.stations).calendar (table_counters ch.stations).position (slots_taken ch calls)
free-taken [] ch e = refl
free-taken (c ∷ l) ch e =
    let (here, rest) = and_both (not (sets_calendar ch c)) (keeps_calendar (channel_call ch c).state l) e in
    go c (is_taken ch c) refl here (free-taken l (channel_call ch c).state rest)
  where
    sets-not : (b : Bool) → not b ≡ true → b ≡ false
    sets-not true q = absurd (false≢true q)
    sets-not false q = refl

    answers-length : (c : Call) (b : Bool) → is_counted ch c ≡ b → length (unowned_answers ch (c ∷ l)) ≡ cond b 1 0 + length (unowned_answers (channel_call ch c).state l)
    answers-length c true q = ap length (counted ch c l q) ∙ omega arith
    answers-length c false q = ap length (passed-by ch c l q) ∙ omega arith

    stays : (c : Call) → is_taken ch c ≡ false → not (sets_calendar ch c) ≡ true
        → length (unowned_answers (channel_call ch c).state l) ≡ free_in (table_counters (channel_call ch c).state.stations).calendar (table_counters (channel_call ch c).state.stations).position (slots_taken (channel_call ch c).state l)
        → length (unowned_answers ch (c ∷ l)) ≡ free_in (table_counters ch.stations).calendar (table_counters ch.stations).position (slots_taken ch (c ∷ l))
    stays c n k ih =
        answers-length c false (ap (λ (b : Bool). b && unowned ch) n)
        ∙ (let w = ih ∙ (λ i. free_in (calendar-same ch c n 0 (sets-not (sets_calendar ch c) k) i) (position-same ch c n 0 i) (slots_taken (channel_call ch c).state l)) in
        let z : 0 + length (unowned_answers (channel_call ch c).state l) ≡ length (unowned_answers (channel_call ch c).state l) = omega arith in
        let y : slots_taken (channel_call ch c).state l ≡ cond (is_taken ch c) 1 0 + slots_taken (channel_call ch c).state l = rw n (omega arith) in
        z ∙ w ∙ ap (free_in (table_counters ch.stations).calendar (table_counters ch.stations).position) y)

    go : (c : Call) (b : Bool) → is_taken ch c ≡ b → not (sets_calendar ch c) ≡ true
        → length (unowned_answers (channel_call ch c).state l) ≡ free_in (table_counters (channel_call ch c).state.stations).calendar (table_counters (channel_call ch c).state.stations).position (slots_taken (channel_call ch c).state l)
        → length (unowned_answers ch (c ∷ l)) ≡ free_in (table_counters ch.stations).calendar (table_counters ch.stations).position (slots_taken ch (c ∷ l))
    go c false n k ih = stays c n k ih
    go (Write x w) true n k ih = absurd (false≢true n)
    go (Calendar entries) true n k ih = absurd (false≢true n)
    go (Slot picks) true n k ih =
        let passed = taken-passed ch picks n in
        let w = ih ∙ (λ i. free_in (calendar-after ch picks passed i) (position-after ch picks passed i) (slots_taken (channel_call ch (Slot picks)).state l)) in
        let next = free-next (table_counters ch.stations).calendar (table_counters ch.stations).position (slots_taken (channel_call ch (Slot picks)).state l) in
        let z : slots_taken ch (Slot picks ∷ l) ≡ suc (slots_taken (channel_call ch (Slot picks)).state l) = rw n (omega arith) in
        answers-length (Slot picks) (unowned ch) (ap (λ (b : Bool). b && unowned ch) n)
        ∙ (λ i. cond (unowned-is ch i) 1 0 + w i)
        ∙ sym next
        ∙ ap (free_in (table_counters ch.stations).calendar (table_counters ch.stations).position) (sym z)

-- ---- FOR A QUOTER

module _ (ch : Channel) (here : has_stations ch.stations ≡ true) (sound : sound_table ch.stations ch.wire ≡ true) where
  dates : CalendarIn (table_counters ch.stations)
  dates = calendar-in (table_counters ch.stations) (limits ch.stations ch.wire (some-stations ch.stations here) sound).calendar

  pub soon : (calls : List Call) (p : ℕ) → keeps_calendar ch calls ≡ true → within (free_positions (table_counters ch.stations).calendar) p ≤ slots_taken ch calls → p ≤ length (unowned_answers ch calls)
  soon calls p keeps h =
      let c = table_counters ch.stations in
      let a = within-free c.calendar c.position dates.position dates.size dates.free p in
      let b = free-rises c.calendar c.position (within (free_positions c.calendar) p) (slots_taken ch calls) h in
      omega (arith, a, b, free-taken calls ch keeps)

  pub until_soon : coming_until ch ≤ within (free_positions (table_counters ch.stations).calendar) (places_in ch)
  until_soon =
      let c = table_counters ch.stations in
      let bound = within (free_positions c.calendar) (places_in ch) in
      let a = within-free c.calendar c.position dates.position dates.size dates.free (places_in ch) in
      let e : coming_until ch ≡ planned_until c.calendar c.position (places_in ch) = planned-until ch here sound in
      by_cases (dec_lt bound (coming_until ch))
      (λ h. let b = until_first c.calendar c.position (places_in ch) dates.position dates.size dates.free bound (subst (λ (n : ℕ). bound < n) e h) in absurd (omega (arith, a, b)))
      (λ h. omega (arith, h))
