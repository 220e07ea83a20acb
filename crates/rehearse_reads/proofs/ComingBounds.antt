-- The line of who sends in the coming slots has at most 6,194 bytes, of any channel and any list: a list that is not refused has at most 1,024
-- entries, each 65,535 or a station's index, since a slot that goes through is one of a sound table; and H and N are 0 after at most 24 slots
-- for each of their places.
-- Assumes nothing.
use mathlib.Core.Bool.{Bool, true, false, cond}
use mathlib.Core.Path.{◌≡◌, refl, ◌∙◌}
use mathlib.Core.List.{List, [], ◌∷◌, ◌++◌, map}
use Prim.Native.Nat.{ℕ, zero, suc, ◌+◌, ◌*◌, ◌≤◌}
use native.Mathlib.Omega.{arith}
use lib.Dec.{eqb}
use lib.ListN.{length, replicate, length-map, length-replicate, length-append}
use borrow.Author.Tests.{eqb-true}
use Rattle.decimals.specs.Decimal.{digits_of}
use Rattle.decimals.specs.Printing.{record_of}
use Rattle.decimals.proofs.Decimals.{digits-few}
use Rattle.call_records.specs.Words.{coming_word}
use Rattle.answer_lines.specs.AnswerLines.{refused_word}
use Rattle.coming_lines.specs.ComingLines.{coming_line}
use Rattle.rules.specs.declared.Answer.{Answer}
use Rattle.rules.specs.declared.Answer.TheVariants.{Refused, Taken, OnHold, Committed, Withdrawn, Set, Went}
use Rattle.rules.specs.Calls.{Call, Slot}
use Rattle.rules.specs.Limits.{between}
use Rattle.rules.proofs.LimitLaws.{between-bounds}
use Rattle.rules.proofs.Refusals.{unless-by, test_passed}
use Rattle.channel_rules.specs.Soundness.{sound_table}
use Rattle.channel_rules.specs.ChannelCalls.{Channel, has_stations, channel_call, channel_answers}
use Rattle.coming_rules.specs.declared.ComingAnswer.TheVariants.{Until}
use Rattle.coming_rules.specs.Quiet.{quieted}
use Rattle.coming_rules.specs.Coming.{ComingResult, slots_on, quiet_after, places_in, first_from, sender_in, coming_senders, coming_until}
use Rattle.coming_rules.specs.Coming.{coming_number_of, refused_coming, coming_of}
use Rattle.rehearse_reads.proofs.LineBounds.{In64, number_short}
use Rattle.rehearse_reads.proofs.ShowBounds.{counters-within}
use Rattle.rehearse_reads.proofs.AnswerBounds.{AnswerSmall, tested, slot_small, number-line}

-- ---- the entries

-- each a number of 16 bits
abbrev AllIn16 : List ℕ → Type 0
AllIn16 [] = Unit {0}
AllIn16 (n ∷ l) = (n ≤ 65535) × AllIn16 l

sender_in16 : (a : Answer) → AnswerSmall a → sender_in a ≤ 65535
sender_in16 (Refused n) h = omega arith
sender_in16 (Taken t) h = omega arith
sender_in16 (OnHold t) h = omega arith
sender_in16 (Committed t) h = omega arith
sender_in16 (Withdrawn t) h = omega arith
sender_in16 Set h = omega arith
sender_in16 (Went turn senders index segment delivered) h = go (eqb senders 1)
  where
    go : (b : Bool) → cond b index 65535 ≤ 65535
    go true = omega (arith, h.1)
    go false = omega arith

senders_in16 : (ch : Channel) (picks : List ℕ) (n : ℕ) → AllIn16 (map sender_in (channel_answers ch (replicate n (Slot picks))))
senders_in16 ch picks zero = tt
senders_in16 ch picks (suc n) =
    (sender_in16 (channel_call ch (Slot picks)).answer (slot_small ch picks), senders_in16 (channel_call ch (Slot picks)).state picks n)

answers-all : (ch : Channel) (calls : List Call) → length (channel_answers ch calls) ≡ length calls
answers-all ch [] = refl
answers-all ch (call ∷ calls) = rw (answers-all (channel_call ch call).state calls)

senders-all : (ch : Channel) (w : ℕ) → length (coming_senders ch w) ≡ w
unfolding coming_senders
senders-all ch w =
    length-map (channel_answers (quieted ch) (slots_on ch w)) sender_in ∙ answers-all (quieted ch) (slots_on ch w) ∙ length-replicate w _

-- ---- the slots until both queues are empty

first-few : (test : ℕ → Bool) (tries k : ℕ) → first_from test tries k ≤ k + tries
first-few test zero k = omega arith
first-few test (suc tries) k = go (test k) (first-few test tries (suc k))
  where
    go : (b : Bool) → first_from test tries (suc k) ≤ suc k + tries → cond b k (first_from test tries (suc k)) ≤ k + suc tries
    go true h = omega arith
    go false h = omega arith

-- ---- THE LINE

-- a field, and then numbers of 16 bits
entries-within : (f : List ℕ) (l : List ℕ) → AllIn16 l → length (record_of (f ∷ map digits_of l)) ≤ length f + 6 * length l + 2
unfolding record_of
entries-within f [] h = omega (arith, length-append f (13 ∷ 10 ∷ []))
entries-within f (n ∷ l) h =
    let d : length (digits_of n) ≤ 5 = digits-few 4 n (omega (arith, h.0)) in
    omega (arith, length-append f (44 ∷ record_of (digits_of n ∷ map digits_of l)), entries-within (digits_of n) l h.1)

until_line : (k slots : ℕ) (l : List ℕ) → In64 k → In64 slots → length l ≤ 1024 → AllIn16 l → length (coming_line k (Until slots) l) ≤ 6194
unfolding coming_line record_of
until_line k slots l hk hs few h =
    let rest = record_of (digits_of slots ∷ map digits_of l) in
    omega (
      arith,
      length-append (digits_of k) (44 ∷ coming_word ++ (44 ∷ rest)),
      length-append coming_word (44 ∷ rest),
      number_short k hk,
      number_short slots hs,
      entries-within (digits_of slots) l h,
    )

-- by the number of the call
abbrev Low : ℕ → Type 0
Low n = n ≤ 23

module _ (ch : Channel) (list : List ℕ) (k : ℕ) (hk : In64 k) where
  abbrev line_of : ComingResult → List ℕ
  line_of r = coming_line k r.answer r.list

  coming-low : coming_number_of ch (length list) ≤ 23
  unfolding coming_number_of
  coming-low =
      unless-by Low (has_stations ch.stations) 14 _ (omega arith)
      (unless-by Low (sound_table ch.stations ch.wire) 18 _ (omega arith)
      (unless-by Low (between 1 (length list) 1024) 23 0 (omega arith) (omega arith)))

  refused-within : (n : ℕ) → n ≤ 23 → length (line_of (refused_coming list n)) ≤ 6194
  unfolding coming_line
  refused-within n h = omega (arith, number-line k refused_word n hk (omega arith) (omega arith))

  through-within : coming_number_of ch (length list) ≡ 0
      → length (line_of (record { list = coming_senders ch (length list); answer = Until (coming_until ch) })) ≤ 6194
  unfolding coming_number_of coming_until coming_senders
  through-within z =
      let p₁ = test_passed (has_stations ch.stations) 14 _ refl z in
      let p₂ = test_passed (sound_table ch.stations ch.wire) 18 _ refl p₁.1 in
      let p₃ = test_passed (between 1 (length list) 1024) 23 0 refl p₂.1 in
      let w = counters-within ch (tested ch p₁.0 p₂.0) in
      let until = first-few (λ j. eqb (places_in (quiet_after ch j)) 0) (24 * places_in ch) 0 in
      until_line k (coming_until ch) (coming_senders ch (length list)) hk (omega (arith, until, w.urgent, w.long))
      (omega (arith, senders-all ch (length list), between-bounds 1 (length list) 1024 p₃.0))
      (senders_in16 (quieted ch) _ (length list))

  pub coming-line : length (line_of (coming_of ch list)) ≤ 6194
  unfolding coming_of
  coming-line = go (eqb (coming_number_of ch (length list)) 0) refl
    where
      n : ℕ
      n = coming_number_of ch (length list)

      go : (b : Bool) → eqb n 0 ≡ b
          → length (line_of (cond b (record { list = coming_senders ch (length list); answer = Until (coming_until ch) }) (refused_coming list n))) ≤ 6194
      go true e = through-within (eqb-true n 0 e)
      go false e = refused-within n coming-low
