-- Clicks in a station's own minislot: a click has too few ones to contain a pattern's six, so the test for 12 fails there; a word that contains a pattern's
-- ones and is not the pattern has seven or more, so it reads as Collide; and each Collide of a row has a resolution place of its own. Assumes nothing.
use mathlib.Core.Path.{◌≡◌, refl, sym, ap, subst, ◌∙◌}
use mathlib.Core.Bool.{Bool, true, false, cond, ◌&&◌}
use mathlib.Core.List.{List, [], ◌∷◌}
use mathlib.Core.Logic.{◌≢◌, by_cases}
use Prim.Native.Nat.{ℕ, zero, suc, ◌+◌, ◌-◌, ◌<◌, ◌≤◌}
use native.Mathlib.Omega.{arith}
use native.Mathlib.Decide.{dec_lt}
use lib.Count.{ones}
use lib.Dec.{eqb}
use lib.ListN.{length, get_or, take}
use borrow.Author.Tests.{eqb-true, eqb-false, ne_eqb}
use Rattle.pattern.specs.Ones.{contains_ones}
use Rattle.pattern.specs.Patterns.{word_of}
use Rattle.pattern.proofs.Ones.{contains-or, contains-ones, or-more}
use Rattle.pattern.proofs.Patterns.{pattern-below, pattern-ones}
use Rattle.minislot.specs.Click.{Click}
use Rattle.minislot.specs.Reading.{reading_of}
use Rattle.minislot.specs.declared.Feedback.{Feedback}
use Rattle.minislot.specs.declared.Feedback.TheVariants.{Empty, Collide}
use Rattle.minislot.specs.declared.Reading.{Reading}
use Rattle.minislot.specs.declared.Reading.TheVariants.{Heard, Refused}
use Rattle.minislot.proofs.Readings.{reads_1, reads-click, reads_collide}
use Rattle.rules.specs.declared.Counters.{Counters}
use Rattle.rules.specs.declared.Places.{Places}
use Rattle.rules.specs.declared.Station.{Station}
use Rattle.rules.specs.Limits.{between}
use Rattle.rules.specs.Queueing.{queued, queued_row, places_of, immediate_of}
use Rattle.rules.specs.declared.Condition.{Condition}
use Rattle.rules.specs.declared.Condition.TheVariants.{Free, Held, Fresh, Asked, Resolving, Urgent, Long}
use Rattle.rules.specs.StationLimits.{is_total, condition_within}
use Rattle.rules.specs.OwnHearing.{own_minislot, hears_here, hears_elsewhere, listens, hears_itself}
use Rattle.rules.proofs.Parting.{asks_in, apart-parted}
use Rattle.rules.specs.StationCalls.{refused_slot, heard_slot_number_of, slot_number_of, slot_of}
use Rattle.rules.proofs.LimitLaws.{between-bounds, station_in}
use Rattle.rules.proofs.QueueingLaws.{row-grows}
use Rattle.rules.proofs.Settled.{settled_by}
use Rattle.rules.proofs.SlotStep.{and_both}
use Rattle.rules.proofs.StationLaws.{hears_fails, hears-holds}
use Rattle.rules.proofs.Views.{eqb_self}
use Rattle.rows.proofs.Answers.{all_feedback}
use Rattle.rows.proofs.Row.{readings-length}
use Rattle.rules.specs.declared.Which.{Which}
use Rattle.rules.specs.declared.Which.TheVariants.{ShortOne, LongOne}
use Rattle.rules.specs.Writing.{record_in}
use Rattle.clicks.specs.OwnClicks.{word_at, heard_in, lengths_before, settled_hearing, Listens, OnTop, NowhereElse, OwnClicks}
use Rattle.clicks.proofs.HeardSlots.{Whole, lengths, reads_at, settles, within_of}

-- what a minislot is heard as, from its reading
heard-once : (r : Reading) (f g : Feedback) → r ≡ Heard f → r ≡ Heard g → f ≡ g
heard-once r f g a b = cc

-- a word that is heard has no one above bit 11
below_4096 : (word count : ℕ) (f : Feedback) → reading_of word count ≡ Heard f → word < 4096
below_4096 word count f e =
    by_cases (dec_lt word 4096) (λ h. h) (λ h. let no : Refused 1 ≡ Heard f = sym (reads_1 word count (omega arith)) ∙ e in let z : ◌≡◌ {A = ℕ} 0 1 = cc in absurd (omega arith))

-- a message's own minislot is one of the row's
own_in : (o : Which) (s : Station) (words counts : List ℕ) (j t : ℕ) → Whole s words counts → record_in o s ≡ Asked s.counters.next j t
    → (1 ≤ j) × (j ≤ s.counters.minislots)
unfolding condition_within
own_in o s words counts j t w e =
    let c = subst (λ (k : Condition). condition_within s.counters k ≡ true) e (within_of s words counts w o) in
    between-bounds 1 j s.counters.minislots
    (and_both (between 1 s.counters.next s.counters.groups) (between 1 j s.counters.minislots)
    (and_both (between 1 s.counters.next s.counters.groups && between 1 j s.counters.minislots) (is_total t) c).0).1

-- and the station listens for that message: the other one is not asked in the group
not-listening : (g : ℕ) (k : Condition) → (asks_in g k ≡ true → ⊥) → own_minislot g k ≡ 0
not-listening g Free n = refl
not-listening g (Held t) n = refl
not-listening g (Fresh t) n = refl
not-listening g (Asked h j t) n = go (eqb h g) n
  where
    go : (b : Bool) → (b ≡ true → ⊥) → cond b j 0 ≡ 0
    go true n = absurd (n refl)
    go false n = refl
not-listening g (Resolving h i t) n = refl
not-listening g (Urgent i) n = refl
not-listening g (Long f l t) n = refl

listens-is : (o : Which) (s : Station) (words counts : List ℕ) (j t : ℕ) → Whole s words counts → record_in o s ≡ Asked s.counters.next j t
    → listens s.counters.next s ≡ Asked s.counters.next j t
listens-is ShortOne s words counts j t w e =
    let (lo, hi) = own_in ShortOne s words counts j t w e in
    rw (e, eqb_self s.counters.next, ne_eqb j 0 (λ q. omega arith))
listens-is LongOne s words counts j t w e =
    let p = apart-parted s.short.condition s.long.condition (station_in s w.within).records.apart in
    let n : own_minislot s.counters.next s.short.condition ≡ 0 =
    not-listening s.counters.next s.short.condition (λ q. p.asked s.counters.next q (ap (asks_in s.counters.next) e ∙ eqb_self s.counters.next)) in
    rw n e

whole : {o : Which} {s : Station} {words counts : List ℕ} {pick j t : ℕ} → Listens o s words counts pick j t → Whole s words counts
whole l = record { within = l.within; row = l.row; read = l.read }

-- ---- a click alone

few_ones : (word i : ℕ) → i < 924 → Click word → contains_ones word (word_of i) ≡ false
few_ones word i h k = go (contains_ones word (word_of i)) refl
  where
    go : (b : Bool) → contains_ones word (word_of i) ≡ b → b ≡ false
    go true e = absurd (omega (arith, contains-ones 12 word (word_of i) (pattern-below i h) e, pattern-ones i h, k.few))
    go false e = refl

module _ (o : Which) (s : Station) (words counts : List ℕ) (j t : ℕ) (w : Whole s words counts) (asked : record_in o s ≡ Asked s.counters.next j t) where
  not_itself : Click (word_at words j) → hears_itself s words (heard_in words counts) ≡ false
  unfolding hears_itself
  not_itself k =
      let (lo, hi) = own_in o s words counts j t w asked in
      let (lw, lc) = lengths s words counts w in
      let lr : length (heard_in words counts) ≡ length words = all_feedback words counts w.read ∙ readings-length words counts (omega arith) in
      let f : get_or (heard_in words counts) (j - 1) Empty ≡ Collide =
      heard-once _ _ _ (reads_at s words counts w j lo hi) (reads-click (word_at words j) (get_or counts (j - 1) 0) k.twelve k.some (omega (arith, k.few))) in
      let few = few_ones (word_at words j) s.index (omega (arith, (station_in s w.within).index)) k in
      let at : 1 + (j - 1) ≡ j = omega arith in
      rw (listens-is o s words counts j t w asked, eqb_self s.counters.next)
      (hears_fails s.index j t 1 words (heard_in words counts) (j - 1) (omega arith) (omega arith) (rw (at, eqb_self j, f) few))

click-is_12 : (o : Which) (s : Station) (words counts : List ℕ) (pick j t : ℕ) → Listens o s words counts pick j t → Click (word_at words j)
    → slot_of s words counts pick ≡ refused_slot s 12
unfolding slot_of slot_number_of heard_slot_number_of
click-is_12 o s words counts pick j t l k =
    rw (l.within, l.row, l.in-range, l.read, l.fits, not_itself o s words counts j t (whole l) l.asked k)

-- ---- clicks on top of a pattern

on_top_reads : (i word count : ℕ) → i < 924 → word < 4096 → OnTop i word → reading_of word count ≡ Heard Collide
on_top_reads i word count h small o =
    let c = o.contains in
    let ne = o.more in
    let six = pattern-ones i h in
    let least = contains-ones 12 word (word_of i) (pattern-below i h) c in
    let same = ap ones (contains-or word (word_of i) c) in
    let more : ones word ≡ 6 → ⊥ = λ e. omega (arith, or-more 12 word (word_of i) small (pattern-below i h) (e ∙ sym six) ne, same) in
    reads_collide word count small (by_cases (dec_lt 6 (ones word)) (λ x. x) (λ x. absurd (more (omega arith))))

module _ (w : Which) (s : Station) (words counts : List ℕ) (pick j t : ℕ) (l : Listens w s words counts pick j t) (o : OnTop s.index (word_at words j)) where
  collided : get_or (heard_in words counts) (j - 1) Empty ≡ Collide
  collided =
      let (lo, hi) = own_in w s words counts j t (whole l) l.asked in
      let read = reads_at s words counts (whole l) j lo hi in
      let small : word_at words j < 4096 = below_4096 (word_at words j) (get_or counts (j - 1) 0) _ read in
      heard-once _ _ _ read (on_top_reads s.index (word_at words j) (get_or counts (j - 1) 0) (omega (arith, (station_in s l.within).index)) small o)

  itself : NowhereElse s (heard_in words counts) j → hears_itself s words (heard_in words counts) ≡ true
  unfolding hears_itself
  itself n =
      rw (listens-is w s words counts j t (whole l) l.asked, eqb_self s.counters.next)
      (hears-holds s.index j t 1 words (heard_in words counts) (λ k hw hr. at k (omega (arith, lengths s words counts (whole l))) (eqb (1 + k) j) refl))
    where
      at : (k : ℕ) → k < s.counters.minislots → (b : Bool) → eqb (1 + k) j ≡ b
          → cond b (hears_here s.index t (get_or words k 0) (get_or (heard_in words counts) k Empty)) (hears_elsewhere s.index (get_or (heard_in words counts) k Empty)) ≡ true
      at k h true e =
          let q = eqb-true (1 + k) j e in
          let z : k ≡ j - 1 = omega arith in
          rw (z, collided) o.contains
      at k h false e =
          let z : 1 + k - 1 ≡ k = omega arith in
          rw z at (n (1 + k) (omega arith) (omega arith) (eqb-false (1 + k) j e))

  goes_through_lem : NowhereElse s (heard_in words counts) j → slot_number_of s words counts pick ≡ 0
  unfolding slot_number_of heard_slot_number_of
  goes_through_lem n = rw (l.within, l.row, l.in-range, l.read, l.fits, itself n)

  goes_to_resolve : settled_hearing w s (heard_in words counts) ≡ Resolving s.counters.next ((lengths_before s.counters (heard_in words counts) j).resolution + 1) t
  unfolding settled_by
  goes_to_resolve = settles s words counts (whole l) w ∙ rw (l.asked, eqb_self s.counters.next, collided)

-- ---- each Collide has a place of its own

-- the lengths before a later minislot count the Collide
later : (b : Bool) (p : Places) (row : List Feedback) (i k : ℕ) → i < k → get_or row i Empty ≡ Collide
    → (queued_row b p (take i row)).resolution < (queued_row b p (take k row)).resolution
unfolding queued_row
later b p [] i k h e = let z : ◌≡◌ {A = ℕ} 0 1 = cc in absurd (omega arith)
later b p (f ∷ row) i zero h e = absurd (omega arith)
later b p (f ∷ row) zero (suc k) h e =
    let here : f ≡ Collide = e in
    rw here (omega (arith, (row-grows b (queued b p Collide) (take k row)).resolution))
later b p (f ∷ row) (suc i) (suc k) h e = later b (queued b p f) row i k (omega arith) e

apart : (c : Counters) (row : List Feedback) (j k : ℕ) → 1 ≤ j → 1 ≤ k → j ≢ k → get_or row (j - 1) Empty ≡ Collide → get_or row (k - 1) Empty ≡ Collide
    → (lengths_before c row j).resolution ≢ (lengths_before c row k).resolution
apart c row j k lj lk ne fj fk =
    by_cases (dec_lt j k)
    (λ h e. omega (arith, later (immediate_of c row) (places_of c) row (j - 1) (k - 1) (omega arith) fj, e))
    (λ h e. omega (arith, later (immediate_of c row) (places_of c) row (k - 1) (j - 1) (let z : k ≢ j = λ q. ne (sym q) in omega arith) fk, e))

pub own_clicks : OwnClicks
own_clicks = record { click-alone = click-is_12; on_top = on_top_reads; through = goes_through_lem; resolving = goes_to_resolve; alone = apart }
