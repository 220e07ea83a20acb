-- A slot judged by the counters that all stations of a sound table share: its row reads without a refused minislot, its feedback is the channel's, and each
-- way through the last tests is the way of any such channel. Assumes nothing.
use mathlib.Core.Path.{◌≡◌, refl, sym, ap, subst, ◌∙◌}
use mathlib.Core.Bool.{true, false}
use mathlib.Core.List.{List}
use Prim.Native.Nat.{ℕ, ◌≤◌}
use lib.ListN.{length, get_or, take, length-map}
use borrow.Author.Tests.{le-leb, eq-eqb}
use Rattle.std.specs.List.{list_all}
use Rattle.minislot.specs.declared.Feedback.{Feedback}
use Rattle.minislot.specs.declared.Minislot.{Minislot}
use Rattle.rows.specs.Row.{has_minislots, row_of}
use Rattle.rows.proofs.Answers.{number-whole}
use Rattle.rules.specs.declared.Counters.{Counters}
use Rattle.rules.specs.declared.Outcome.{Outcome}
use Rattle.rules.specs.declared.Station.{Station}
use Rattle.rules.specs.declared.WireRow.{WireRow}
use Rattle.rules.specs.Hearing.{words_of, counts_of, feedback_of, ReadRow}
use Rattle.rules.specs.Limits.{between}
use Rattle.rules.specs.Outcome.{outcome_of}
use Rattle.rules.specs.Queueing.{step_one_of}
use Rattle.channel_rules.specs.Soundness.{sound_table, table_counters}
use Rattle.channel_rules.specs.ChannelCalls.{Channel, has_stations, heard_row, feedback_heard, outcome_heard}
use Rattle.sound_slots.proofs.ChannelLaws.{first-within, limits, row_number, row-length}
use Rattle.rules.proofs.RowReads.{feedback_is, read-row}
use Rattle.table.specs.Loading.{absent}
use Rattle.calls.specs.ByValue.{channel_of, array_table, array_channel}
use Rattle.calls.proofs.ByValue.{few_true, array-length, array_at, array-some, array-sound}
use Rattle.calls.specs.declared.Judged.{Judged}
use Rattle.wire_hearing.specs.GroupRead.{group_read}
use Rattle.slots.specs.Heard.{Readable}
use Rattle.slots.specs.Judging.{judged_refused, judged_of, SoundOn, JudgedOn}
use Rattle.slots.proofs.Numbers.{slot_14, slot_18, slot_17, slot_11, slot_7, slot-goes}

-- ---- the row of a sound table is readable

module _ (ys : List Station) (wire : List WireRow) (ok : has_stations ys ≡ true) (sound : sound_table ys wire ≡ true) where
  some : 1 ≤ length ys
  some = (few_true (length ys) ok).0

  abbrev words : List ℕ
  words = words_of (heard_row (channel_of ys wire))

  abbrev counts : List ℕ
  counts = counts_of (heard_row (channel_of ys wire))

  whole : has_minislots (table_counters ys).minislots words counts ≡ true
  whole =
      rw (
        le-leb 2 (table_counters ys).minislots (limits ys wire some sound).minislots.0,
        le-leb (table_counters ys).minislots 8 (limits ys wire some sound).minislots.1,
        eq-eqb (length words) (table_counters ys).minislots (length-map (heard_row (channel_of ys wire)) (λ (x : Minislot). x.word) ∙ row-length ys wire some sound),
        eq-eqb (length counts) (table_counters ys).minislots (length-map (heard_row (channel_of ys wire)) (λ (x : Minislot). x.count) ∙ row-length ys wire some sound),
      )

  none-refused : (row_of (table_counters ys).minislots words counts).number ≡ 0
  none-refused = number-whole (table_counters ys).minislots words counts whole ∙ row_number ys wire some sound

  pub readable : Readable (table_counters ys) wire
  unfolding heard_row
  readable = record { within = first-within ys wire some sound; read = none-refused }

-- ---- the ways through the last tests

module _ (c : Counters) (n : ℕ) (wire : List WireRow) (picks : List ℕ) (ok : Readable c wire) where
  abbrev row : List Feedback
  row = feedback_of c.minislots (group_read c wire)

  pub row_read : ReadRow c.minislots (group_read c wire)
  row_read = read-row c.minislots _ _ ok.read

  heard-on : (ch : Channel) → SoundOn c n wire ch → feedback_heard ch ≡ row
  unfolding heard_row
  heard-on ch s = rw (s.counters, s.row) (sym (feedback_is c.minislots _ _ ok.read))

  pub on_17 : (length picks ≡ n → ⊥) → JudgedOn c n wire picks (judged_refused 17)
  on_17 other ch s = slot_17 ch picks s.some s.sound (λ e. other (e ∙ s.count))

  module _ (same : length picks ≡ n) where
    pub on_11 : list_all (λ (pick : ℕ). between 1 pick c.minislots) picks ≡ false → JudgedOn c n wire picks (judged_refused 11)
    on_11 e ch s = slot_11 ch picks s.some s.sound (same ∙ sym s.count) (rw s.counters e)

    module _ (picked : list_all (λ (pick : ℕ). between 1 pick c.minislots) picks ≡ true) where
      pub on_7 : (step_one_of c row).fits ≡ false → JudgedOn c n wire picks (judged_refused 7)
      on_7 e ch s = slot_7 ch picks s.some s.sound (same ∙ sym s.count) (rw s.counters picked) (rw (s.counters, heard-on ch s) e)

      pub on-goes : (step_one_of c row).fits ≡ true → JudgedOn c n wire picks (record { number = 0; steps = n; outcome = outcome_of c row })
      on-goes e ch s =
          through ∙ slot-goes ch picks s.some s.sound (same ∙ sym s.count) (rw s.counters picked) (rw (s.counters, heard-on ch s) e)
        where
          outcome : outcome_of c row ≡ outcome_heard ch
          outcome = ap (λ (k : Counters). outcome_of k row) (sym s.counters) ∙ ap (outcome_of (table_counters ch.stations)) (sym (heard-on ch s))

          through : ◌≡◌ {A = Judged} (record { number = 0; steps = n; outcome = outcome_of c row }) (record { number = 0; steps = length ch.stations; outcome = outcome_heard ch })
          through =
              ap (λ (k : ℕ). record { number = 0; steps = k; outcome = outcome_of c row }) (sym s.count)
              ∙ ap (λ (o : Outcome). record { number = 0; steps = length ch.stations; outcome = o }) outcome

-- ---- the table by value

module _ (stations : List Station) (n : ℕ) (wire : List WireRow) (full : length stations ≡ 64) where
  pub array_14 : (picks : List ℕ) → between 1 n 64 ≡ false → judged_refused 14 ≡ judged_of (array_channel stations n wire) picks
  array_14 picks e = slot_14 (array_channel stations n wire) picks (array-some stations n full false e)

  module _ (ok : between 1 n 64 ≡ true) where
    most : n ≤ 64
    most = (few_true n ok).1

    pub array_18 : (picks : List ℕ) → sound_table (take n stations) wire ≡ false → judged_refused 18 ≡ judged_of (array_channel stations n wire) picks
    array_18 picks e = slot_18 (array_channel stations n wire) picks (array-some stations n full true ok) (array-sound stations n full most wire false e)

    module _ (sound : sound_table (take n stations) wire ≡ true) where
      pub array-on : SoundOn (get_or stations 0 absent).counters n wire (array_channel stations n wire)
      array-on =
          record {
            counters = ap (λ (s : Station). s.counters) (sym (array_at stations n full most 0 (few_true n ok).0));
            count = array-length stations n full;
            row = refl;
            some = array-some stations n full true ok;
            sound = array-sound stations n full most wire true sound;
          }

      pub array-readable : Readable (get_or stations 0 absent).counters wire
      array-readable = subst (λ (c : Counters). Readable c wire) array-on.counters (readable (array_table stations n) wire array-on.some array-on.sound)
