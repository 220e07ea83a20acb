-- What asking for the coming slots comes to, by its number: a refusal, or the list and the number that places and calendar say. The last are
-- of the table by value: its counters, and who is served by its first records. Assumes nothing.
use mathlib.Core.Path.{◌≡◌, sym, ap, ◌∙◌}
use mathlib.Core.Bool.{true}
use mathlib.Core.List.{List}
use Prim.Native.Nat.{ℕ, ◌+◌, ◌≤◌, ◌<◌}
use borrow.Author.Tests.{ne_eqb}
use lib.ListN.{length, take, get_or}
use Rattle.rules.specs.declared.Counters.{Counters}
use Rattle.rules.specs.declared.Station.{Station}
use Rattle.rules.specs.declared.WireRow.{WireRow}
use Rattle.rules.specs.Calendars.{calendar_within}
use Rattle.rules.proofs.LimitLaws.{between-bounds, calendar-in}
use Rattle.channel_rules.specs.Soundness.{table_counters}
use Rattle.channel_rules.specs.ChannelCalls.{Channel}
use Rattle.sound_slots.proofs.ChannelLaws.{limits}
use Rattle.calls.specs.ByValue.{array_table, array_channel}
use Rattle.calls.proofs.ByValue.{array-length, array-first}
use Rattle.coming_rules.specs.declared.ComingAnswer.TheVariants.{Until}
use Rattle.coming_rules.specs.Coming.{nobody, ComingResult, coming_number_of, coming_of, coming_senders, coming_until, refused_coming}
use Rattle.coming_rules.specs.Planned.{served_at, planned_list, planned_until}
use Rattle.coming_rules.proofs.Planning.{one-holder, planned-senders, planned-until}
use Rattle.coming_numbers.proofs.Numbers.{Passed, coming-passed}
use Rattle.coming_list.proofs.Agreeing.{planned-same}
use Rattle.served_places.specs.Served.{served_of}
use Rattle.served_places.proofs.ServedLaws.{served-is}

-- ---- by the number

module _ (ch : Channel) (list : List ℕ) where
  pub coming-refused : (k : ℕ) → k ≡ coming_number_of ch (length list) → (k ≡ 0 → ⊥) → coming_of ch list ≡ refused_coming list k
  unfolding coming_of
  coming-refused k e other = rw (← e, ne_eqb k 0 other)

  coming-went : coming_number_of ch (length list) ≡ 0 → coming_of ch list ≡ record { list = coming_senders ch (length list); answer = Until (coming_until ch) }
  unfolding coming_of
  coming-went e = rw e

-- ---- where it goes through, with the counters of the first n records

module _ (stations : List Station) (n : ℕ) (wire : List WireRow) (list : List ℕ) (full : length stations ≡ 64)
    (went : coming_number_of (array_channel stations n wire) (length list) ≡ 0) (c : Counters) (shared : c ≡ table_counters (take n stations)) where
  abbrev ch : Channel
  ch = array_channel stations n wire

  passed : Passed ch (length list)
  passed = coming-passed ch (length list) went

  first : array_table stations n ≡ take n stations
  first = array-first stations n full (between-bounds 1 n 64 (rw (array-length stations n full) at passed.some)).1

  table : c ≡ table_counters (array_table stations n)
  table = shared ∙ ap table_counters (sym first)

  -- calendar and position are within their limits, and so is the list
  pub calendar-held : calendar_within c ≡ true
  calendar-held =
      rw table (limits (array_table stations n) wire (between-bounds 1 (length (array_table stations n)) 64 passed.some).0 passed.sound).calendar

  pub fill-held : (c.position ≤ 23) × (length list ≤ 1024)
  fill-held = ((calendar-in c calendar-held).position, passed.most)

  -- who is served
  who : ℕ → ℕ
  who = served_at (table_counters ch.stations).urgent ch.stations

  who-same : (k : ℕ) → k < length list → get_or (served_of (length list) c.urgent (take n stations)) k nobody ≡ who k
  unfolding who
  who-same k h =
      ap (λ (l : List Station). get_or (served_of (length list) c.urgent l) k nobody) (sym first)
      ∙ ap (λ (x : Counters). get_or (served_of (length list) x.urgent (array_table stations n)) k nobody) table
      ∙ served-is (length list) (table_counters ch.stations).urgent ch.stations passed.most (one-holder ch passed.some passed.sound) k h

  list-planned : (served : List ℕ) → served ≡ served_of (length list) c.urgent (take n stations)
      → planned_list c.calendar c.position (λ (k : ℕ). get_or served k nobody) (length list) ≡ coming_senders ch (length list)
  unfolding who
  list-planned served e =
      planned-same c.calendar c.position (length list) (λ (k : ℕ). get_or served k nobody) who (λ k h. ap (λ (l : List ℕ). get_or l k nobody) e ∙ who-same k h)
      ∙ ap (λ (x : Counters). planned_list x.calendar x.position who (length list)) table
      ∙ sym (planned-senders ch passed.some passed.sound (length list))

  until_planned : planned_until c.calendar c.position (c.urgent + c.long) ≡ coming_until ch
  until_planned =
      ap (λ (x : Counters). planned_until x.calendar x.position (x.urgent + x.long)) table
      ∙ sym (planned-until ch passed.some passed.sound)

  -- THE LIST AND THE NUMBER OF SLOTS
  pub coming-planned : (served left : List ℕ) (slots : ℕ) → served ≡ served_of (length list) c.urgent (take n stations)
      → left ≡ planned_list c.calendar c.position (λ (k : ℕ). get_or served k nobody) (length list)
      → slots ≡ planned_until c.calendar c.position (c.urgent + c.long)
      → (left ≡ (coming_of ch list).list) × (Until slots ≡ (coming_of ch list).answer)
  coming-planned served left slots e l u =
      let q = sym (coming-went ch list went) in
      (l ∙ list-planned served e ∙ ap (λ (r : ComingResult). r.list) q, ap Until (u ∙ until_planned) ∙ ap (λ (r : ComingResult). r.answer) q)
