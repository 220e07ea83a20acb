-- A writing on the channel is the shared table's: the record that it is for, of the station of the index, stands as the table says, or the writing is
-- refused, and the other records, the wire and the answer are the table's. Assumes nothing.
use mathlib.Core.Path.{◌≡◌, refl, sym, ap, subst, ◌∙◌}
use mathlib.Core.Bool.{Bool, true, false, cond}
use mathlib.Core.List.{List, [], ◌∷◌, map}
use mathlib.Core.Option.{some}
use Prim.Native.Nat.{ℕ, zero, suc, ◌+◌, ◌<◌}
use native.Mathlib.Omega.{arith}
use native.Mathlib.Nat.{zero-add}
use lib.Dec.{eqb}
use lib.ListN.{length, get_or, set}
use borrow.Author.Tests.{eqb-true, ne_eqb}
use Rattle.message.specs.Message.{fits_message}
use Rattle.minislot.specs.declared.Minislot.{Minislot}
use Rattle.rules.specs.declared.Station.{Station}
use Rattle.rules.specs.declared.Condition.{Condition}
use Rattle.rules.specs.declared.Condition.TheVariants.{Free, Held, Fresh, Asked, Resolving, Urgent, Long}
use Rattle.rules.specs.Messages.{short_record, long_record}
use Rattle.rules.specs.Refusing.{unless, by_number}
use Rattle.rules.specs.StationCalls.{no_station}
use Rattle.rules.specs.declared.Which.{Which}
use Rattle.rules.specs.declared.Which.TheVariants.{ShortOne, LongOne}
use Rattle.rules.specs.declared.Writing.{Writing}
use Rattle.rules.specs.declared.Writing.TheVariants.{Offer, Hold, Commit, Withdraw}
use Rattle.rules.specs.Writing.{record_in, with_record, writes, writing_number_at, writing_total_at, written_as, writing_number_of}
use Rattle.rules.specs.Plain.{record_named}
use Rattle.rules.specs.Calls.{Start}
use Rattle.channel_rules.specs.ChannelCalls.{Channel, refused, written_at}
use Rattle.rules.proofs.Views.{eqb_self}
use Rattle.rules.proofs.Shared.{Table, index_of, asked_sender, table_refuse, table_with, table_written, table_write}
use Rattle.rules.proofs.WireRows.{pair-cong, row-cong}
use Rattle.rules.proofs.Walking.{IsStation, AreStations, record_is}
use Rattle.channel_rules.proofs.Embody.{Embodies, Embodied, station-at}

-- a record that a writing goes through to is asked nowhere, nor is it after it
module _ (g j r : ℕ) where
  asked-before : (w : Writing) (c : Condition) → writing_number_at w c ≡ 0 → asked_sender g j r c ≡ []
  asked-before w Free z = refl
  asked-before w (Held t) z = refl
  asked-before w (Fresh t) z = refl
  asked-before w (Asked h i t) z = absurd (in_use_lem w z)
    where
      new : (b : Bool) → unless b 10 9 ≡ 0 → ⊥
      new true z = omega arith
      new false z = omega arith

      in_use_lem : (w : Writing) → writing_number_at w (Asked h i t) ≡ 0 → ⊥
      in_use_lem (Offer bytes) z = new (fits_message bytes) z
      in_use_lem (Hold bytes) z = new (fits_message bytes) z
      in_use_lem (Commit o) z = omega arith
      in_use_lem (Withdraw o) z = omega arith
  asked-before w (Resolving h i t) z = refl
  asked-before w (Urgent i) z = refl
  asked-before w (Long f l t) z = refl

  asked-after : (w : Writing) (t : ℕ) → asked_sender g j r (written_as w t) ≡ []
  asked-after (Offer bytes) t = refl
  asked-after (Hold bytes) t = refl
  asked-after (Commit o) t = refl
  asked-after (Withdraw o) t = refl

module _ (S : Start) (t : Table) (ch : Channel) (E : Embodies S t ch) where
  -- station k
  module _ (k : ℕ) (h : k < length ch.stations) where
    abbrev it : Station
    it = get_or ch.stations k no_station

    is-it : IsStation S t k (get_or ch.stations k no_station)
    is-it = subst (λ (i : ℕ). IsStation S t i (get_or ch.stations k no_station)) (zero-add k) (station-at S t 0 ch.stations E.stations k h)

    -- one of its records, and the condition that is written there
    module _ (o : Which) (c : Condition) where
      abbrev rec : ℕ
      rec = record_named k o

      index_stays : (s : Station) → (with_record o s c).index ≡ s.index
      index_stays s = go o
        where
          go : (o : Which) → (with_record o s c).index ≡ s.index
          go ShortOne = refl
          go LongOne = refl

      counters-stay : (s : Station) → (with_record o s c).counters ≡ s.counters
      counters-stay s = go o
        where
          go : (o : Which) → (with_record o s c).counters ≡ s.counters
          go ShortOne = refl
          go LongOne = refl

      -- station j with two conditions of its own, in the table with the record written
      written_is : (j : ℕ) (s z : Station) → IsStation S t j s → z.index ≡ s.index → z.counters ≡ s.counters
          → z.short.condition ≡ cond (eqb (short_record j) rec) c (t.condition (short_record j)) → z.long.condition ≡ cond (eqb (long_record j) rec) c (t.condition (long_record j))
          → IsStation S (table_with t rec c) j z
      written_is j s z a i d e f =
          record {
            index = i ∙ a.index;
            minislots = rw d a.minislots;
            groups = rw d a.groups;
            next = rw d a.next;
            urgent = rw d a.urgent;
            long-queue = rw d a.long-queue;
            arrays = rw d a.arrays;
            resolution = rw d a.resolution;
            mark = rw d a.mark;
            calendar = rw d a.calendar;
            position = rw d a.position;
            short = e;
            long = f;
          }

      -- the other stations keep theirs
      other-is : (j : ℕ) (s : Station) → IsStation S t j s → (j ≡ k → ⊥) → IsStation S (table_with t rec c) j s
      other-is j s a ne = written_is j s s a refl refl (a.short ∙ rw (away o).0) (a.long ∙ rw (away o).1)
        where
          away : (o : Which) → (eqb (short_record j) (record_named k o) ≡ false) × (eqb (long_record j) (record_named k o) ≡ false)
          away ShortOne = (ne_eqb (short_record j) (short_record k) (λ e. ne (omega arith)), ne_eqb (long_record j) (short_record k) (λ e. omega arith))
          away LongOne = (ne_eqb (short_record j) (long_record k) (λ e. omega arith), ne_eqb (long_record j) (long_record k) (λ e. ne (omega arith)))

      -- and station k has the condition
      own_is : (s : Station) → IsStation S t k s → IsStation S (table_with t rec c) k (with_record o s c)
      own_is s a = written_is k s (with_record o s c) a (index_stays s) (counters-stay s) (both o).0 (both o).1
        where
          both : (o : Which)
              → ((with_record o s c).short.condition ≡ cond (eqb (short_record k) (record_named k o)) c (t.condition (short_record k)))
              × ((with_record o s c).long.condition ≡ cond (eqb (long_record k) (record_named k o)) c (t.condition (long_record k)))
          both ShortOne = (rw (eqb_self (short_record k)), a.long ∙ rw (ne_eqb (long_record k) (short_record k) (λ e. omega arith)))
          both LongOne = (a.short ∙ rw (ne_eqb (short_record k) (long_record k) (λ e. omega arith)), rw (eqb_self (long_record k)))

      others_are : (j : ℕ) (l : List Station) → AreStations S t j l → k < j → AreStations S (table_with t rec c) j l
      others_are j [] a q = tt
      others_are j (s ∷ l) a q = (other-is j s a.0 (λ e. omega arith), others_are (suc j) l a.1 (omega arith))

      set_are : (i j : ℕ) (l : List Station) → AreStations S t j l → i < length l → j + i ≡ k → AreStations S (table_with t rec c) j (set l i (with_record o (get_or l i no_station) c))
      set_are i j [] a w e = absurd (omega arith)
      set_are zero j (s ∷ l) a w e =
          let q : j ≡ k = omega arith in
          (subst (λ (z : ℕ). IsStation S (table_with t rec c) z (with_record o s c)) (sym q) (own_is s (subst (λ (z : ℕ). IsStation S t z s) q a.0)), others_are (suc j) l a.1 (omega arith))
      set_are (suc i) j (s ∷ l) a w e = (other-is j s a.0 (λ x. omega arith), set_are i (suc j) l a.1 (omega arith) (omega arith))

      set_names : (i : ℕ) (l : List Station) → map (λ (s : Station). s.index) (set l i (with_record o (get_or l i no_station) c)) ≡ map (λ (s : Station). s.index) l
      set_names i [] = refl
      set_names zero (s ∷ l) = ap (λ (z : ℕ). z ∷ map (λ (s : Station). s.index) l) (index_stays s)
      set_names (suc i) (s ∷ l) = ap (λ (z : List ℕ). s.index ∷ z) (set_names i l)

      -- nobody is asked there before or after, so the wire stays
      embodied : ((g j : ℕ) → asked_sender g j rec (t.condition rec) ≡ []) → ((g j : ℕ) → asked_sender g j rec c ≡ [])
          → Embodies S (table_with t rec c) (record { stations = set ch.stations k (with_record o it c); wire = ch.wire })
      embodied before after =
          record {
            stations = set_are k 0 ch.stations E.stations h (zero-add k);
            indexes = set_names k ch.stations ∙ E.indexes;
            wire = λ g lo hi.
                E.wire g lo hi ∙ ap (λ (l : List Minislot). record { minislots = l }) (row-cong (index_of S) (length S.indexes) _ _ (λ j i. pair-cong (λ r. go g j r (eqb r rec) refl) i) 8 1);
            groups = E.groups;
          }
        where
          go : (g j i : ℕ) (b : Bool) → eqb i rec ≡ b → asked_sender g j i (t.condition i) ≡ asked_sender g j i (cond b c (t.condition i))
          go g j i true e = rw (eqb-true i rec e) (before g j ∙ sym (after g j))
          go g j i false e = refl

    pub write-at : (w : Writing) → Embodied S (table_write t w (some k)) (by_number (writing_number_of it w) (refused ch) (written_at ch k w))
    write-at w =
        subst (λ (d : Condition). Embodied S (by_number (writing_number_at w d) (table_refuse t) (table_written t r w d)) (by_number (writing_number_of it w) (refused ch) (written_at ch k w))) (sym same)
        (go (eqb (writing_number_of it w) 0) refl)
      where
        r : ℕ
        r = record_named k (writes w)

        same : t.condition r ≡ record_in (writes w) it
        same = record_is t k it is-it.short is-it.long (writes w)

        go : (b : Bool) → eqb (writing_number_of it w) 0 ≡ b
            → Embodied S (cond b (table_written t r w (record_in (writes w) it)) (table_refuse t (writing_number_of it w))) (cond b (written_at ch k w) (refused ch (writing_number_of it w)))
        go true e =
            record {
              state =
                  embodied (writes w) (written_as w (writing_total_at w (record_in (writes w) it)))
                  (λ g j. ap (asked_sender g j r) same ∙ asked-before g j r w (record_in (writes w) it) (eqb-true (writing_number_of it w) 0 e))
                  (λ g j. asked-after g j r w (writing_total_at w (record_in (writes w) it)));
              answer = refl;
            }
        go false e = record { state = E; answer = refl }
