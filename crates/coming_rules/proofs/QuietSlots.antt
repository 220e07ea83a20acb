-- One slot of a quiet channel, whatever the picks: the row is silent, nobody asks, each message moves by the turn, and what is left is quiet again. It goes
-- through, and neither its answer nor what it leaves depends on the picks. Assumes nothing.
use mathlib.Core.Path.{◌≡◌, refl, ap, ◌∙◌}
use mathlib.Core.Bool.{Bool, true, false, cond}
use mathlib.Core.List.{List, [], ◌∷◌, map}
use Prim.Native.Nat.{ℕ, zero, suc, ◌-◌, ◌≤◌, ◌<◌}
use native.Mathlib.Omega.{arith}
use lib.Count.{ones}
use lib.Dec.{eqb}
use lib.ListN.{length, get_or, set, take, replicate, length-map}
use borrow.Author.Tests.{eq-eqb, ne_eqb}
use Rattle.minislot.specs.declared.Minislot.{Minislot}
use Rattle.minislot.specs.declared.Feedback.{Feedback}
use Rattle.minislot.specs.declared.Feedback.TheVariants.{Empty}
use Rattle.minislot.specs.Reading.{reading_of}
use Rattle.rows.specs.Row.{readings, feedbacks}
use Rattle.requests.specs.Together.{silent, together}
use Rattle.std.specs.List.{list_all}
use Rattle.rules.specs.declared.Counters.{Counters}
use Rattle.rules.specs.declared.Places.{Places}
use Rattle.rules.specs.declared.Outcome.{Outcome}
use Rattle.rules.specs.declared.Station.{Station}
use Rattle.rules.specs.declared.StationSlot.{StationSlot}
use Rattle.rules.specs.declared.SlotAnswer.TheVariants.{Went as WentSlot}
use Rattle.rules.specs.declared.WireRow.{WireRow}
use Rattle.rules.specs.declared.Answer.{Answer}
use Rattle.rules.specs.declared.Acted.{Acted}
use Rattle.rules.specs.declared.Condition.{Condition}
use Rattle.rules.specs.declared.Condition.TheVariants.{Free, Held, Fresh, Asked, Resolving, Urgent, Long}
use Rattle.rules.specs.declared.Turn.{Turn}
use Rattle.rules.specs.declared.Turn.TheVariants.{Owned as OwnedTurn, Urgent as UrgentTurn, Long as LongTurn}
use Rattle.rules.specs.declared.Turn.TheVariants.{Resolve as ResolveTurn, Open as OpenTurn}
use Rattle.rules.specs.Calendars.{owner_of}
use Rattle.rules.specs.Hearing.{words_of, counts_of}
use Rattle.rules.specs.Limits.{between}
use Rattle.rules.specs.Queueing.{places_of, queued_row, immediate_of, places_after, step_one_of}
use Rattle.rules.specs.Turns.{turn_of}
use Rattle.rules.specs.Falling.{fallen}
use Rattle.rules.specs.Outcome.{successes, outcome_by}
use Rattle.rules.specs.Requesting.{requests, requested}
use Rattle.rules.specs.Serving.{urgent_segment, long_segment, sends, moved}
use Rattle.rules.specs.Stepping.{settled_in, acts_of, acts_beside, is_fresh, step_of}
use Rattle.rules.specs.StationCalls.{slot_of}
use Rattle.channel_rules.specs.Soundness.{table_counters}
use Rattle.channel_rules.specs.SoundMeaning.{station_at}
use Rattle.channel_rules.specs.ChannelCalls.{Channel, blank_row, blank_wire, heard_row, feedback_heard, slots_of, slots_heard, requests_in, new_row, sent_of, slot_answer, outcome_heard, slot_through, channel_slot_number_of, channel_slot_of}
use Rattle.rules.proofs.LimitLaws.{Within, within-limits}
use Rattle.rules.proofs.QueueingLaws.{fits_if}
use Rattle.rules.proofs.SlotStep.{and_both}
use Rattle.sound_slots.proofs.ChannelLaws.{first-within, station-goes}
use Rattle.sound_slots.proofs.NeverSeven.{never-passes}
use Rattle.sound_slots.proofs.Passing.{some-stations}
use Rattle.coming_rules.specs.Quiet.{quiet_condition}
use Rattle.coming_rules.specs.ComingHolds.{Picks}
use Rattle.coming_rules.proofs.Redone.{at_same, redone, counters-redone}
use Rattle.coming_rules.proofs.Quieted.{AllCalm, Quiet, redone-calm}
use Rattle.coming_rules.proofs.QuietMoves.{shifted, shifted-calm, set_same, empty-after, after-sound}

-- ---- the row

take_same : {A : Type 0} (m n : ℕ) (x : A) → m ≤ n → take m (replicate n x) ≡ replicate m x
take_same zero n x h = refl
take_same (suc m) zero x h = absurd (omega arith)
take_same {A = A} (suc m) (suc n) x h = ap (λ (l : List A). x ∷ l) (take_same m n x (omega arith))

silence-heard : (m : ℕ) → feedbacks (readings (words_of (replicate m silent)) (counts_of (replicate m silent))) ≡ replicate m Empty
unfolding feedbacks readings reading_of ones
silence-heard zero = refl
silence-heard (suc m) = ap (λ (l : List Feedback). Empty ∷ l) (silence-heard m)

none-queued : (b : Bool) (p : Places) (m : ℕ) → queued_row b p (replicate m Empty) ≡ p
unfolding queued_row
none-queued b p zero = refl
none-queued b p (suc m) = none-queued b p m

none_succeeds : (b : Bool) (m : ℕ) → successes b (replicate m Empty) ≡ 0
none_succeeds b zero = refl
none_succeeds b (suc m) = omega (arith, none_succeeds b m)

-- step 1 leaves the lengths as they are, and delivers nothing
places-stay : (c : Counters) (m : ℕ) → places_after c (replicate m Empty) ≡ places_of c
unfolding places_after
places-stay c m = none-queued (immediate_of c (replicate m Empty)) (places_of c) m

-- ---- a message of H or N: it asks nothing, sends by the turn, and moves by it

abbrev pub segment_by : Turn → Condition → ℕ
segment_by (OwnedTurn x) k = 0
segment_by UrgentTurn k = urgent_segment k
segment_by LongTurn k = long_segment k
segment_by ResolveTurn k = 0
segment_by OpenTurn k = 0

abbrev calm_acts : Turn → Condition → Acted
calm_acts turn k = record { condition = moved turn k; minislot = 0; segment = segment_by turn k }

sends-calm : (turn : Turn) (r g : ℕ) (k : Condition) → requests r g k ≡ false → sends turn r g k ≡ segment_by turn k
unfolding sends
sends-calm (OwnedTurn x) r g k e = refl
sends-calm UrgentTurn r g k e = refl
sends-calm LongTurn r g k e = refl
sends-calm ResolveTurn r g k e = refl
sends-calm OpenTurn r g k e = rw e

acts-calm : (o : Outcome) (k : Condition) (pick : ℕ) → quiet_condition k ≡ k → acts_of o k pick ≡ calm_acts o.turn k
unfolding acts_of settled_in requests requested
acts-calm o Free pick e = rw (sends-calm o.turn o.resolution o.group Free refl)
acts-calm o (Held t) pick e = let z : ◌≡◌ {A = ℕ} 0 1 = cc in absurd (omega arith)
acts-calm o (Fresh t) pick e = let z : ◌≡◌ {A = ℕ} 0 1 = cc in absurd (omega arith)
acts-calm o (Asked g j t) pick e = let z : ◌≡◌ {A = ℕ} 0 1 = cc in absurd (omega arith)
acts-calm o (Resolving g i t) pick e = let z : ◌≡◌ {A = ℕ} 0 1 = cc in absurd (omega arith)
acts-calm o (Urgent i) pick e = rw (sends-calm o.turn o.resolution o.group (Urgent i) refl)
acts-calm o (Long f l t) pick e = rw (sends-calm o.turn o.resolution o.group (Long f l t) refl)

not-fresh : (k : Condition) → quiet_condition k ≡ k → is_fresh k ≡ false
not-fresh Free e = refl
not-fresh (Held t) e = refl
not-fresh (Fresh t) e = let z : ◌≡◌ {A = ℕ} 0 1 = cc in absurd (omega arith)
not-fresh (Asked g j t) e = refl
not-fresh (Resolving g i t) e = refl
not-fresh (Urgent i) e = refl
not-fresh (Long f l t) e = refl

-- ---- a station's step

-- the segment that it sends: its short message's, or else its long one's
abbrev pub segments_by : Turn → Station → ℕ
segments_by turn s = cond (eqb (segment_by turn s.short.condition) 0) (segment_by turn s.long.condition) (segment_by turn s.short.condition)

abbrev pub calm_step : Outcome → Station → StationSlot
calm_step o s = record { answer = WentSlot o.turn 0 (segments_by o.turn s); request = 0; station = redone o.counters (moved o.turn) s }

step-calm : (o : Outcome) (s : Station) (pick : ℕ) → quiet_condition s.short.condition ≡ s.short.condition → quiet_condition s.long.condition ≡ s.long.condition
    → step_of o s pick ≡ calm_step o s
unfolding step_of acts_beside
step-calm o s pick a b =
    rw (not-fresh s.short.condition a, acts-calm o s.short.condition pick a, acts-calm o s.long.condition pick b)
    (go (eqb (segment_by o.turn s.short.condition) 0))
  where
    go : (x : Bool)
        → ◌≡◌ {A = StationSlot}
        (record {
          answer = WentSlot o.turn 0 (cond x (calm_acts o.turn s.long.condition) (calm_acts o.turn s.short.condition)).segment;
          request = 0;
          station = redone o.counters (moved o.turn) s;
        })
        (record {
          answer = WentSlot o.turn 0 (cond x (segment_by o.turn s.long.condition) (segment_by o.turn s.short.condition));
          request = 0;
          station = redone o.counters (moved o.turn) s;
        })
    go true = refl
    go false = refl

-- ---- all stations' slots, and what they make

module _ (o : Outcome) (words counts : List ℕ) (m : ℕ) where
  slots-calm : (l : List Station) (picks : List ℕ) → length picks ≡ length l → list_all (λ (pick : ℕ). between 1 pick m) picks ≡ true → AllCalm l
      → ((k : ℕ) → k < length l → (pick : ℕ) → between 1 pick m ≡ true → slot_of (station_at l k) words counts pick ≡ step_of o (station_at l k) pick)
      → slots_of words counts l picks ≡ map (calm_step o) l
  slots-calm [] picks e w calm goes = refl
  slots-calm (s ∷ l) [] e w calm goes = absurd (omega arith)
  slots-calm (s ∷ l) (pick ∷ picks) e w calm goes =
      let (here, rest) = and_both (between 1 pick m) (list_all (λ (pick : ℕ). between 1 pick m) picks) w in
      rw (goes zero (omega arith) pick here, step-calm o s pick calm.0 calm.1, slots-calm l picks (omega arith) rest calm.2 (λ k h. goes (suc k) (omega arith)))

module _ (o : Outcome) where
  none-request : (j : ℕ) (l : List Station) → requests_in (suc j) (map (calm_step o) l) ≡ []
  none-request j [] = refl
  none-request j (s ∷ l) = rw (ne_eqb 0 (suc j) (λ w. omega arith)) (none-request j l)

  silent-row : (n j : ℕ) (l : List Station) → new_row (map (calm_step o) l) n (suc j) ≡ replicate n silent
  unfolding together
  silent-row zero j l = refl
  silent-row (suc n) j l = rw (none-request j l, silent-row n (suc j) l)

  stations-calm : (l : List Station) → map (λ (r : StationSlot). r.station) (map (calm_step o) l) ≡ map (redone o.counters (moved o.turn)) l
  stations-calm [] = refl
  stations-calm (s ∷ l) = ap (λ (z : List Station). redone o.counters (moved o.turn) s ∷ z) (stations-calm l)

-- of messages in H and N the moves are the shifts
shifted_are : (d : Counters) (turn : Turn) (l : List Station) → AllCalm l → map (redone d (moved turn)) l ≡ map (redone d (shifted turn)) l
shifted_are d turn [] calm = refl
shifted_are d turn (s ∷ l) calm = rw (calm.0, calm.1, shifted_are d turn l calm.2)

-- ---- THE SLOT

-- what it leaves
abbrev pub turn_here : Channel → Turn
turn_here ch = turn_of (owner_of (table_counters ch.stations)) (places_of (table_counters ch.stations))

abbrev pub counters_next : Channel → Counters
counters_next ch = fallen (table_counters ch.stations) (places_of (table_counters ch.stations))

abbrev pub quiet_next : Channel → Channel
quiet_next ch = record { stations = map (redone (counters_next ch) (shifted (turn_here ch))) ch.stations; wire = blank_wire }

module _ (ch : Channel) (q : Quiet ch) where
  there : 1 ≤ length ch.stations
  there = some-stations ch.stations q.some

  pub quiet-limits : Within (table_counters ch.stations)
  quiet-limits = within-limits (table_counters ch.stations) (first-within ch.stations ch.wire there q.sound)

  row-silent : feedback_heard ch ≡ replicate (table_counters ch.stations).minislots Empty
  unfolding heard_row
  row-silent =
      ap (λ (row : List Minislot). feedbacks (readings (words_of row) (counts_of row)))
      (ap (λ (wire : List WireRow). take (table_counters ch.stations).minislots (get_or wire ((table_counters ch.stations).next - 1) blank_row).minislots) q.wire
      ∙ ap (λ (row : WireRow). take (table_counters ch.stations).minislots row.minislots) (at_same 8 ((table_counters ch.stations).next - 1) blank_row)
      ∙ take_same (table_counters ch.stations).minislots 8 silent quiet-limits.minislots.1)
      ∙ silence-heard (table_counters ch.stations).minislots

  pub turn-here : (outcome_heard ch).turn ≡ turn_here ch
  unfolding outcome_by step_one_of
  turn-here = rw (row-silent, places-stay (table_counters ch.stations) (table_counters ch.stations).minislots)

  counters-here : (outcome_heard ch).counters ≡ counters_next ch
  unfolding outcome_by step_one_of
  counters-here = rw (row-silent, places-stay (table_counters ch.stations) (table_counters ch.stations).minislots)

  pub none-delivered : (outcome_heard ch).delivered ≡ 0
  unfolding outcome_by
  none-delivered = rw row-silent (none_succeeds _ (table_counters ch.stations).minislots)

  pub slot-number : (picks : List ℕ) → Picks ch picks → channel_slot_number_of ch picks ≡ 0
  unfolding channel_slot_number_of
  slot-number picks p =
      rw (
        q.some,
        q.sound,
        eq-eqb (length picks) (length ch.stations) p.all,
        p.within,
        fits_if (table_counters ch.stations) (feedback_heard ch) (never-passes ch q.some q.sound),
      )

  slots-here : (picks : List ℕ) → Picks ch picks → slots_heard ch picks ≡ map (calm_step (outcome_heard ch)) ch.stations
  slots-here picks p =
      slots-calm (outcome_heard ch) (words_of (heard_row ch)) (counts_of (heard_row ch)) (table_counters ch.stations).minislots ch.stations picks p.all p.within q.calm
      (station-goes ch.stations ch.wire there q.sound (never-passes ch q.some q.sound))

  stations-next : map (redone (outcome_heard ch).counters (moved (outcome_heard ch).turn)) ch.stations ≡ (quiet_next ch).stations
  stations-next = rw (counters-here, turn-here) (shifted_are (counters_next ch) (turn_here ch) ch.stations q.calm)

  abbrev pub answer_here : Answer
  answer_here = slot_answer (outcome_heard ch) (sent_of (map (calm_step (outcome_heard ch)) ch.stations))

  wire-next : set ch.wire ((outcome_heard ch).group - 1) (record { minislots = new_row (map (calm_step (outcome_heard ch)) ch.stations) 8 1 }) ≡ blank_wire
  wire-next =
      ap (λ (wire : List WireRow). set wire ((outcome_heard ch).group - 1) (record { minislots = new_row (map (calm_step (outcome_heard ch)) ch.stations) 8 1 })) q.wire
      ∙ ap (λ (row : List Minislot). set blank_wire ((outcome_heard ch).group - 1) (record { minislots = row })) (silent-row (outcome_heard ch) 8 0 ch.stations)
      ∙ set_same 8 ((outcome_heard ch).group - 1) blank_row

  pub slot_is : (picks : List ℕ) → Picks ch picks → channel_slot_of ch picks ≡ record { state = quiet_next ch; answer = answer_here }
  unfolding channel_slot_of
  slot_is picks p =
      rw (slot-number picks p)
      (ap (slot_through ch (outcome_heard ch)) (slots-here picks p)
      ∙ (λ i. record { state = record { stations = (stations-calm (outcome_heard ch) ch.stations ∙ stations-next) i; wire = wire-next i }; answer = answer_here }))

  -- what is left is quiet
  pub quiet_next_lem : Quiet (quiet_next ch)
  quiet_next_lem =
      record {
        some = ap (λ (n : ℕ). between 1 n 64) (length-map ch.stations (redone (counters_next ch) (shifted (turn_here ch)))) ∙ q.some;
        sound = after-sound ch.stations ch.wire there q.sound quiet-limits q.empty;
        wire = refl;
        empty = ap (λ (d : Counters). d.resolution) (counters-redone (counters_next ch) (shifted (turn_here ch)) ch.stations there) ∙ empty-after (table_counters ch.stations) quiet-limits q.empty;
        calm = redone-calm (counters_next ch) (shifted (turn_here ch)) (λ k e. shifted-calm (turn_here ch) k) ch.stations q.calm;
      }
