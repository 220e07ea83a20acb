-- A call that is no slot that goes through leaves every place of H and N as it was, whoever holds it: a refused call alters nothing, a writing goes to a record
-- that was free or held and leaves it outside both queues, a calendar alters no message. Assumes nothing.
use mathlib.Core.Path.{◌≡◌, refl, sym, ap, ◌∙◌}
use mathlib.Core.Bool.{Bool, true, false, cond, false≢true}
use mathlib.Core.List.{List, [], ◌∷◌, map}
use Prim.Native.Nat.{ℕ, zero, suc}
use lib.Dec.{eqb}
use lib.ListN.{set}
use borrow.Author.Tests.{eqb-true}
use Rattle.message.specs.Message.{fits_message}
use Rattle.rules.specs.declared.Counters.{Counters}
use Rattle.rules.specs.declared.Station.{Station}
use Rattle.rules.specs.declared.Condition.{Condition}
use Rattle.rules.specs.declared.Condition.TheVariants.{Free, Held, Fresh, Asked, Resolving, Urgent, Long}
use Rattle.rules.specs.declared.Which.{Which}
use Rattle.rules.specs.declared.Which.TheVariants.{ShortOne, LongOne}
use Rattle.rules.specs.declared.Writing.{Writing}
use Rattle.rules.specs.declared.Writing.TheVariants.{Offer, Hold, Commit, Withdraw}
use Rattle.rules.specs.Calls.{Call, Write, Slot, Calendar}
use Rattle.rules.specs.Refusing.{unless}
use Rattle.rules.specs.Settings.{calendar_on}
use Rattle.rules.specs.Writing.{record_in, with_record, is_free, is_held, record_for, writes, new_number_of, written_as, writing_number_of, writing_total_of, written_of}
use Rattle.channel_rules.specs.Soundness.{sound_table, position_of, is_on_table}
use Rattle.channel_rules.specs.SoundMeaning.{station_at}
use Rattle.channel_rules.specs.ChannelCalls.{Channel, has_stations, refused, station_of, written_at, calendar_set, slot_through, outcome_heard, slots_heard, channel_write_number_of, channel_write_of, channel_calendar_number_of, channel_calendar_of, channel_slot_number_of, channel_slot_of, channel_call}
use Rattle.rules.proofs.Refusals.{test_passed}
use Rattle.coming_rules.specs.Quiet.{quiet_condition}
use Rattle.place_waits.specs.Continuing.{short_at, long_at, index_at, is_taken}
use Rattle.place_waits.specs.Bounds.{sets_calendar}

-- ---- what is seen of each station, if a writing leaves it and, where one is set, a calendar

module _ {X : Type 0} (seen : Station → X) (written : (s : Station) (w : Writing) → writing_number_of s w ≡ 0 → seen (written_of s w) ≡ seen s) where
  set-seen : (l : List Station) (i : ℕ) (x : Station) → seen x ≡ seen (station_at l i) → (k : ℕ) → seen (station_at (set l i x) k) ≡ seen (station_at l k)
  set-seen [] i x e k = refl
  set-seen (s ∷ l) zero x e zero = e
  set-seen (s ∷ l) zero x e (suc k) = refl
  set-seen (s ∷ l) (suc i) x e zero = refl
  set-seen (s ∷ l) (suc i) x e (suc k) = set-seen l i x e k

  map-seen : (entries : List ℕ) → ((s : Station) → seen (calendar_on entries s) ≡ seen s) → (l : List Station) (k : ℕ) → seen (station_at (map (calendar_on entries) l) k) ≡ seen (station_at l k)
  map-seen entries dated [] k = refl
  map-seen entries dated (s ∷ l) zero = dated s
  map-seen entries dated (s ∷ l) (suc k) = map-seen entries dated l k

  pub kept : (ch : Channel) (c : Call) → is_taken ch c ≡ false → (sets_calendar ch c ≡ true → (entries : List ℕ) (s : Station) → seen (calendar_on entries s) ≡ seen s) → (k : ℕ) → seen (station_at (channel_call ch c).state.stations k) ≡ seen (station_at ch.stations k)
  unfolding channel_write_of channel_write_number_of channel_calendar_of channel_slot_of
  kept ch (Write x w) e dated k = go (eqb (channel_write_number_of ch x w) 0) refl
    where
      go : (b : Bool) → eqb (channel_write_number_of ch x w) 0 ≡ b
          → seen (station_at (cond b (written_at ch (position_of x ch.stations) w) (refused ch (channel_write_number_of ch x w))).state.stations k) ≡ seen (station_at ch.stations k)
      go true q =
          let (a, a') = test_passed (has_stations ch.stations) 14 _ refl (eqb-true (channel_write_number_of ch x w) 0 q) in
          let (b, b') = test_passed (sound_table ch.stations ch.wire) 18 _ refl a' in
          let (d, d') = test_passed (is_on_table ch.stations x) 16 _ refl b' in
          set-seen ch.stations (position_of x ch.stations) (written_of (station_at ch.stations (position_of x ch.stations)) w) (written (station_of ch x) w d') k
      go false q = refl
  kept ch (Slot picks) e dated k = ap (λ (b : Bool). seen (station_at (cond b (slot_through ch (outcome_heard ch) (slots_heard ch picks)) (refused ch (channel_slot_number_of ch picks))).state.stations k)) e
  kept ch (Calendar entries) e dated k = go (eqb (channel_calendar_number_of ch entries) 0) refl
    where
      go : (b : Bool) → eqb (channel_calendar_number_of ch entries) 0 ≡ b → seen (station_at (cond b (calendar_set ch entries) (refused ch (channel_calendar_number_of ch entries))).state.stations k) ≡ seen (station_at ch.stations k)
      go true q = map-seen entries (dated q entries) ch.stations k
      go false q = refl

-- ---- the places of H and N, and the indexes

free-quiet : (k : Condition) → is_free k ≡ true → quiet_condition k ≡ Free
free-quiet Free e = refl
free-quiet (Held t) e = refl
free-quiet (Fresh t) e = refl
free-quiet (Asked g j t) e = refl
free-quiet (Resolving g i t) e = refl
free-quiet (Urgent i) e = absurd (false≢true e)
free-quiet (Long f l t) e = absurd (false≢true e)

held-quiet : (k : Condition) → is_held k ≡ true → quiet_condition k ≡ Free
held-quiet Free e = refl
held-quiet (Held t) e = refl
held-quiet (Fresh t) e = refl
held-quiet (Asked g j t) e = refl
held-quiet (Resolving g i t) e = refl
held-quiet (Urgent i) e = absurd (false≢true e)
held-quiet (Long f l t) e = absurd (false≢true e)

new-quiet : (bytes : ℕ) (k : Condition) → new_number_of bytes k ≡ 0 → quiet_condition k ≡ Free
new-quiet bytes k e = free-quiet k (test_passed (is_free k) 9 0 refl (test_passed (fits_message bytes) 10 (unless (is_free k) 9 0) refl e).1).0

-- the record that is written was in neither queue, and is in neither after it
was_quiet : (s : Station) (w : Writing) → writing_number_of s w ≡ 0 → quiet_condition (record_in (writes w) s) ≡ Free
was_quiet s (Offer bytes) e = new-quiet bytes (record_in (record_for bytes) s) e
was_quiet s (Hold bytes) e = new-quiet bytes (record_in (record_for bytes) s) e
was_quiet s (Commit o) e = held-quiet (record_in o s) (test_passed (is_held (record_in o s)) 22 0 refl e).0
was_quiet s (Withdraw o) e = held-quiet (record_in o s) (test_passed (is_held (record_in o s)) 22 0 refl e).0

is-quiet : (w : Writing) (t : ℕ) → quiet_condition (written_as w t) ≡ Free
is-quiet (Offer bytes) t = refl
is-quiet (Hold bytes) t = refl
is-quiet (Commit o) t = refl
is-quiet (Withdraw o) t = refl

short-kept : (o : Which) (s : Station) (k : Condition) → quiet_condition (record_in o s) ≡ Free → quiet_condition k ≡ Free → quiet_condition (with_record o s k).short.condition ≡ quiet_condition s.short.condition
short-kept ShortOne s k a b = b ∙ sym a
short-kept LongOne s k a b = refl

long_kept : (o : Which) (s : Station) (k : Condition) → quiet_condition (record_in o s) ≡ Free → quiet_condition k ≡ Free → quiet_condition (with_record o s k).long.condition ≡ quiet_condition s.long.condition
long_kept ShortOne s k a b = refl
long_kept LongOne s k a b = b ∙ sym a

index_kept : (o : Which) (s : Station) (k : Condition) → (with_record o s k).index ≡ s.index
index_kept ShortOne s k = refl
index_kept LongOne s k = refl

counters-kept : (o : Which) (s : Station) (k : Condition) → (with_record o s k).counters ≡ s.counters
counters-kept ShortOne s k = refl
counters-kept LongOne s k = refl

module _ (ch : Channel) (c : Call) (none : is_taken ch c ≡ false) (k : ℕ) where
  pub short-same : quiet_condition (short_at (channel_call ch c).state k) ≡ quiet_condition (short_at ch k)
  short-same = kept (λ (s : Station). quiet_condition s.short.condition) (λ s w e. short-kept (writes w) s _ (was_quiet s w e) (is-quiet w (writing_total_of s w))) ch c none (λ sets entries s. refl) k

  pub long_same : quiet_condition (long_at (channel_call ch c).state k) ≡ quiet_condition (long_at ch k)
  long_same = kept (λ (s : Station). quiet_condition s.long.condition) (λ s w e. long_kept (writes w) s _ (was_quiet s w e) (is-quiet w (writing_total_of s w))) ch c none (λ sets entries s. refl) k

  pub index_same : index_at (channel_call ch c).state k ≡ index_at ch k
  index_same = kept (λ (s : Station). s.index) (λ s w e. index_kept (writes w) s _) ch c none (λ sets entries s. refl) k

  -- the position of the coming slot; and the calendar, if none is set
  pub position-same : (station_at (channel_call ch c).state.stations k).counters.position ≡ (station_at ch.stations k).counters.position
  position-same = kept (λ (s : Station). s.counters.position) (λ s w e. ap (λ (x : Counters). x.position) (counters-kept (writes w) s _)) ch c none (λ sets entries s. refl) k

  pub calendar-same : sets_calendar ch c ≡ false → (station_at (channel_call ch c).state.stations k).counters.calendar ≡ (station_at ch.stations k).counters.calendar
  calendar-same q = kept (λ (s : Station). s.counters.calendar) (λ s w e. ap (λ (x : Counters). x.calendar) (counters-kept (writes w) s _)) ch c none (λ sets. absurd (false≢true (sym q ∙ sets))) k
