-- Two messages that join a queue in one row: the one of the lower minislot stands in front. In N with all its slots, since the Single that its station hears of
-- itself counts them. Assumes nothing.
use mathlib.Core.Path.{◌≡◌, refl, sym, ap, subst, ◌∙◌}
use mathlib.Core.Bool.{Bool, true, false, not, ◌&&◌, cond, false≢true}
use mathlib.Core.List.{List}
use mathlib.Core.Logic.{by_cases}
use Prim.Native.Nat.{ℕ, ◌+◌, ◌-◌, ◌≤◌, ◌<◌}
use native.Mathlib.Omega.{arith}
use native.Mathlib.Decide.{dec_lt}
use lib.Dec.{eqb}
use lib.ListN.{length, get_or, length-map, get_or-eq_default}
use borrow.Author.Tests.{eqb-true}
use Rattle.minislot.specs.declared.Minislot.{Minislot}
use Rattle.minislot.specs.declared.Feedback.{Feedback}
use Rattle.minislot.specs.declared.Feedback.TheVariants.{Empty, Single}
use Rattle.rules.specs.declared.Counters.{Counters}
use Rattle.rules.specs.declared.Station.{Station}
use Rattle.rules.specs.declared.Condition.{Condition}
use Rattle.rules.specs.declared.Condition.TheVariants.{Free, Held, Fresh, Asked, Resolving, Urgent, Long}
use Rattle.rules.specs.declared.Turn.{Turn}
use Rattle.rules.specs.Calls.{Slot}
use Rattle.rules.specs.Hearing.{words_of}
use Rattle.rules.specs.Limits.{between}
use Rattle.rules.specs.Outcome.{outcome_by}
use Rattle.rules.specs.OwnHearing.{own_minislot, hears_here, hears_elsewhere, hears_at, hears_from, hears_of, listens, hears_itself}
use Rattle.rules.specs.PlaceSteps.{acts_in, settles_in}
use Rattle.rules.specs.StationLimits.{condition_within, records_apart, is_total}
use Rattle.rules.specs.Stepping.{settled_in, acts_of, is_fresh}
use Rattle.channel_rules.specs.Soundness.{table_counters}
use Rattle.channel_rules.specs.SoundMeaning.{station_at}
use Rattle.channel_rules.specs.ChannelCalls.{Channel, heard_row, feedback_heard, outcome_heard, channel_call}
use Rattle.rules.proofs.LimitLaws.{between-bounds}
use Rattle.rules.proofs.SlotStep.{and_both}
use Rattle.rules.proofs.StationLaws.{hears_fails}
use Rattle.rules.proofs.Views.{eqb_self, eqb-sym}
use Rattle.sound_slots.proofs.ChannelLaws.{row-length, hears, counters-shared}
use Rattle.sound_slots.proofs.Passing.{some-stations, Passed}
use Rattle.place_waits.specs.Continuing.{short_at, long_at, index_at, is_taken, is_urgent_turn}
use Rattle.place_waits.proofs.SlotLeaves.{taken-passed, all-within, laws, short-after, long_after}
use Rattle.place_waits.proofs.LoneSender.{within-at}
use Rattle.place_waits.proofs.UrgentSteps.{inside-by}
use Rattle.place_waits.proofs.UrgentOrder.{acts-from, moved-from}
use Rattle.place_waits.proofs.LongOrder.{InN, MovedFrom, AsIt, Down, Sent}
use Rattle.place_waits.proofs.LongOrder.{acts-from as long-acts-from, moved-from as long-moved-from}

-- one that has asked has a minislot, and a total
asked_in : (c : Counters) (g j t : ℕ) → condition_within c (Asked g j t) ≡ true → (1 ≤ j) × (j ≤ c.minislots) × (1 ≤ t)
unfolding condition_within
asked_in c g j t e =
    let (a, b) = and_both (between 1 g c.groups && between 1 j c.minislots) (is_total t) e in
    let (x, y) = and_both (between 1 g c.groups) (between 1 j c.minislots) a in
    let j-in = between-bounds 1 j c.minislots y in
    (j-in.0, j-in.1, (between-bounds 1 t 255 b).0)

module _ (ch : Channel) (picks : List ℕ) (taken : is_taken ch (Slot picks) ≡ true) where
  abbrev c : Counters
  c = table_counters ch.stations

  passed : Passed ch picks
  passed = taken-passed ch picks taken

  short-inside : (k g j t : ℕ) → short_at ch k ≡ Asked g j t → k < length ch.stations
  short-inside k g j t e = inside-by ch k (λ q. let z : Free ≡ Asked g j t = sym (ap (λ (s : Station). s.short.condition) q) ∙ e in let y : ◌≡◌ {A = ℕ} 0 1 = cc in omega arith)

  long-inside : (k g j t : ℕ) → long_at ch k ≡ Asked g j t → k < length ch.stations
  long-inside k g j t e = inside-by ch k (λ q. let z : Free ≡ Asked g j t = sym (ap (λ (s : Station). s.long.condition) q) ∙ e in let y : ◌≡◌ {A = ℕ} 0 1 = cc in omega arith)

  -- ---- H

  short-asked : (k g j t : ℕ) → short_at ch k ≡ Asked g j t → (1 ≤ j) × (j ≤ c.minislots) × (1 ≤ t)
  short-asked k g j t e =
      asked_in c g j t (subst (λ (x : Condition). condition_within c x ≡ true) e (within-at c ch.stations (all-within ch picks passed) k (short-inside k g j t e)).short)

  joins : (k g j t p : ℕ) → short_at ch k ≡ Asked g j t → short_at (channel_call ch (Slot picks)).state k ≡ Urgent p
      → (q : ℕ) × (settles_in c (feedback_heard ch) (Asked g j t) ≡ Urgent q) × (p + cond (is_urgent_turn (outcome_heard ch).turn) 1 0 ≡ q)
  joins k g j t p e w =
      let r =
      acts-from c (feedback_heard ch) (laws ch picks passed) (Asked g j t) (get_or picks k 0) p
      (ap (λ (x : Condition). (acts_in c (feedback_heard ch) x (get_or picks k 0)).condition) (sym e) ∙ sym (short-after ch picks passed k (short-inside k g j t e)) ∙ w) in
      let h = (laws ch picks passed).joins-urgent g j t r.0 r.1 in
      (r.0, r.1, (moved-from (outcome_heard ch).turn r.0 p (omega (arith, h)) r.2).1)

  pub urgent-row : (a b g i j s t p q : ℕ) → short_at ch a ≡ Asked g i s → short_at ch b ≡ Asked g j t → i < j → short_at (channel_call ch (Slot picks)).state a ≡ Urgent p
      → ((acts_of (outcome_heard ch) (short_at ch b) (get_or picks b 0)).segment ≡ 0) × (short_at (channel_call ch (Slot picks)).state b ≡ Urgent q → p < q)
  urgent-row a b g i j s t p q e f less w =
      let x = joins a g i s p e w in
      let lo = (short-asked a g i s e).0 in (
        ap (λ (k : Condition). (acts_in c (feedback_heard ch) k (get_or picks b 0)).segment) f ∙ (laws ch picks passed).row-later g g i j s t x.0 (get_or picks b 0) lo less x.1,
        λ v.
            let y = joins b g j t q f v in
            let h = (laws ch picks passed).row-urgent g g i j s t x.0 y.0 lo less x.1 y.1 in
            omega (arith, x.2, y.2, h),
      )

  -- ---- N

  long-asked : (k g j t : ℕ) → long_at ch k ≡ Asked g j t → (1 ≤ j) × (j ≤ c.minislots) × (1 ≤ t)
  long-asked k g j t e =
      asked_in c g j t (subst (λ (x : Condition). condition_within c x ≡ true) e (within-at c ch.stations (all-within ch picks passed) k (long-inside k g j t e)).long)

  -- the station listens for its long message: the short one is not asked in the group
  not-asked : (g i s : ℕ) (a : Condition) → records_apart a (Asked g i s) ≡ true → own_minislot g a ≡ 0
  unfolding records_apart
  not-asked g i s Free e = refl
  not-asked g i s (Held t) e = refl
  not-asked g i s (Fresh t) e = refl
  not-asked g i s (Asked h j t) e = go (eqb g h) (eqb h g) (eqb-sym g h) e
    where
      go : (x y : Bool) → x ≡ y → not x ≡ true → cond y j 0 ≡ 0
      go true y q w = absurd (false≢true w)
      go false true q w = absurd (false≢true q)
      go false false q w = refl
  not-asked g i s (Resolving h j t) e = refl
  not-asked g i s (Urgent j) e = refl
  not-asked g i s (Long f l t) e = refl

  -- so in the minislot where it asked it hears a Single of its total, if a Single
  hears-total : (k g i s : ℕ) → long_at ch k ≡ Asked g i s → g ≡ c.next → (x n : ℕ) → get_or (feedback_heard ch) (i - 1) Empty ≡ Single x n → n ≡ s
  unfolding hears_itself
  hears-total k g i s e here x n heard =
      by_cases (dec_lt (i - 1) (length (feedback_heard ch))) (λ h. go (hears_at (index_at ch k) i s (1 + (i - 1)) (get_or (words_of (heard_row ch)) (i - 1) 0) (get_or (feedback_heard ch) (i - 1) Empty)) refl h)
      (λ h. let z : Empty ≡ Single x n = sym (get_or-eq_default (feedback_heard ch) Empty (omega (arith, h))) ∙ heard in let y : ◌≡◌ {A = ℕ} 0 1 = cc in absurd (omega arith))
    where
      inside : k < length ch.stations
      inside = long-inside k g i s e

      there : 1 ≤ length ch.stations
      there = some-stations ch.stations passed.stations

      bounds : (1 ≤ i) × (i ≤ c.minislots) × (1 ≤ s)
      bounds = long-asked k g i s e

      shared : (station_at ch.stations k).counters ≡ c
      shared = counters-shared ch.stations ch.wire there passed.sound k inside

      apart : records_apart (short_at ch k) (Asked g i s) ≡ true
      apart = subst (λ (y : Condition). records_apart (short_at ch k) y ≡ true) e (within-at c ch.stations (all-within ch picks passed) k inside).apart

      listened : listens g (station_at ch.stations k) ≡ Asked g i s
      listened = ap (λ (m : ℕ). cond (eqb m 0) (long_at ch k) (short_at ch k)) (not-asked g i s (short_at ch k) apart) ∙ e

      own : own_minislot g (Asked g i s) ≡ i
      own = rw (eqb_self g)

      whole : hears_from (index_at ch k) i s 1 (words_of (heard_row ch)) (feedback_heard ch) ≡ true
      whole =
          ap (λ (m : ℕ). hears_from (index_at ch k) m s 1 (words_of (heard_row ch)) (feedback_heard ch)) (sym own)
          ∙ ap (λ (y : Condition). hears_of g (index_at ch k) y (words_of (heard_row ch)) (feedback_heard ch)) (sym listened)
          ∙ ap (λ (m : ℕ). hears_of m (index_at ch k) (listens m (station_at ch.stations k)) (words_of (heard_row ch)) (feedback_heard ch)) (here ∙ ap (λ (d : Counters). d.next) (sym shared))
          ∙ hears ch.stations ch.wire there passed.sound k inside

      words_long : i - 1 < length (words_of (heard_row ch))
      words_long = omega (arith, length-map (heard_row ch) (λ (y : Minislot). y.word), row-length ch.stations ch.wire there passed.sound, bounds)

      told : hears_at (index_at ch k) i s (1 + (i - 1)) (get_or (words_of (heard_row ch)) (i - 1) 0) (get_or (feedback_heard ch) (i - 1) Empty) ≡ true → n ≡ s
      told w =
          let z : 1 + (i - 1) ≡ i = omega (arith, bounds) in
          let v : cond (eqb i i) (hears_here (index_at ch k) s (get_or (words_of (heard_row ch)) (i - 1) 0) (Single x n)) (hears_elsewhere (index_at ch k) (Single x n)) ≡ true
          = ap (λ (f : Feedback). hears_at (index_at ch k) i s i (get_or (words_of (heard_row ch)) (i - 1) 0) f) (sym heard) ∙ ap (λ (m : ℕ). hears_at (index_at ch k) i s m (get_or (words_of (heard_row ch)) (i - 1) 0) (get_or (feedback_heard ch) (i - 1) Empty)) (sym z) ∙ w in
          let u = rw (eqb_self i) at v in
          eqb-true n s (and_both (eqb x (index_at ch k)) (eqb n s) u).1

      go : (b : Bool) → hears_at (index_at ch k) i s (1 + (i - 1)) (get_or (words_of (heard_row ch)) (i - 1) 0) (get_or (feedback_heard ch) (i - 1) Empty) ≡ b → i - 1 < length (feedback_heard ch) → n ≡ s
      go true w h = told w
      go false w h = absurd (false≢true (sym (hears_fails (index_at ch k) i s 1 (words_of (heard_row ch)) (feedback_heard ch) (i - 1) words_long h w) ∙ whole))

  -- only a message asked in the slot's group joins
  heard-here : (g i s f l t : ℕ) → settles_in c (feedback_heard ch) (Asked g i s) ≡ Long f l t → g ≡ c.next
  unfolding settled_in outcome_by
  heard-here g i s f l t e = go (eqb g c.next) refl _ e
    where
      go : (b : Bool) → eqb g c.next ≡ b → (x : Condition) → cond b x (Asked g i s) ≡ Long f l t → g ≡ c.next
      go true w x q = eqb-true g c.next w
      go false w x q = let y : ◌≡◌ {A = ℕ} 0 1 = cc in absurd (omega arith)

  long-joins : (k g j t p l m : ℕ) → long_at ch k ≡ Asked g j t → long_at (channel_call ch (Slot picks)).state k ≡ Long p l m
      → (w : InN (settles_in c (feedback_heard ch) (Asked g j t))) × MovedFrom (outcome_heard ch).turn w.first w.left w.total p l m
  long-joins k g j t p l m e q =
      let r =
      long-acts-from c (feedback_heard ch) (laws ch picks passed) (Asked g j t) (get_or picks k 0) p l m
      (ap (λ (x : Condition). (acts_in c (feedback_heard ch) x (get_or picks k 0)).condition) (sym e) ∙ sym (long_after ch picks passed k (long-inside k g j t e) (ap is_fresh e)) ∙ q) in
      let h = (laws ch picks passed).joins_long g j t r.0.first r.0.left r.0.total r.0.stands in
      (r.0, long-moved-from (outcome_heard ch).turn r.0.first r.0.left r.0.total p l m (omega (arith, h.0)) r.1)

  -- both after the slot, by where they stood after step 1
  both-moved : (turn : Turn) (f l t g m n p l' t' q k n' : ℕ) → 1 ≤ f → 1 ≤ l → f + l ≤ g → m ≡ n → MovedFrom turn f l t p l' t' → MovedFrom turn g m n q k n' → (p + l' ≤ q) × (k ≡ n')
  both-moved turn f l t g m n p l' t' q k n' lo left less same (AsIt a x y z) (AsIt b u v w) = (omega (arith, less, x, y, u), omega (arith, same, v, w))
  both-moved turn f l t g m n p l' t' q k n' lo left less same (AsIt a x y z) (Down b u v w) = absurd (false≢true (sym a ∙ b))
  both-moved turn f l t g m n p l' t' q k n' lo left less same (AsIt a x y z) (Sent b u o v w) = absurd (false≢true (sym a ∙ b))
  both-moved turn f l t g m n p l' t' q k n' lo left less same (Down a x y z) (AsIt b u v w) = absurd (false≢true (sym b ∙ a))
  both-moved turn f l t g m n p l' t' q k n' lo left less same (Down a x y z) (Down b u v w) = (omega (arith, less, x, y, u), omega (arith, same, v, w))
  both-moved turn f l t g m n p l' t' q k n' lo left less same (Down a x y z) (Sent b u o v w) = absurd (omega (arith, lo, left, less, u))
  both-moved turn f l t g m n p l' t' q k n' lo left less same (Sent a x r y z) (AsIt b u v w) = absurd (false≢true (sym b ∙ a))
  both-moved turn f l t g m n p l' t' q k n' lo left less same (Sent a x r y z) (Down b u v w) = (omega (arith, less, left, x, r, y, u), omega (arith, same, v, w))
  both-moved turn f l t g m n p l' t' q k n' lo left less same (Sent a x r y z) (Sent b u o v w) = absurd (omega (arith, lo, left, less, u))

  pub long-row : (a b g i j s t p l m q k n : ℕ) → long_at ch a ≡ Asked g i s → long_at ch b ≡ Asked g j t → i < j → long_at (channel_call ch (Slot picks)).state a ≡ Long p l m → long_at (channel_call ch (Slot picks)).state b ≡ Long q k n
      → (p + l ≤ q) × (k ≡ n)
  long-row a b g i j s t p l m q k n e f less u v =
      let x = long-joins a g i s p l m e u in
      let y = long-joins b g j t q k n f v in
      let wx = x.0 in
      let wy = y.0 in
      let bounds = long-asked a g i s e in
      let hx = (laws ch picks passed).joins_long g i s wx.first wx.left wx.total wx.stands in
      let hy = (laws ch picks passed).joins_long g j t wy.first wy.left wy.total wy.stands in
      let front =
      (laws ch picks passed).row-long g g i j s t wx.first wx.left wx.total wy.first wy.left wy.total bounds.0 less
      (hears-total a g i s e (heard-here g i s wx.first wx.left wx.total wx.stands)) wx.stands wy.stands in
      both-moved (outcome_heard ch).turn wx.first wx.left wx.total wy.first wy.left wy.total p l m q k n (omega (arith, hx.0)) (omega (arith, hx.1, bounds.2)) front (hy.1 ∙ sym hy.2) x.1 y.1
