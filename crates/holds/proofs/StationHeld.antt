-- A hold and its commit of a station: a hold is checked as an offer is, by the same number; one that goes through leaves the station within its limits, since the
-- total that it holds is that of a message and fits the record, and so its commit goes through, of the same total, and overwrites what the hold wrote.
-- Assumes nothing.
use mathlib.Core.Path.{◌≡◌, refl, sym, ap, ◌∙◌}
use mathlib.Core.Bool.{Bool, true, false, cond}
use mathlib.Core.Logic.{◌≢◌}
use Prim.Native.Nat.{ℕ}
use native.Mathlib.Omega.{arith}
use lib.Dec.{leb, ltb, eqb}
use borrow.Author.Tests.{le-leb, lt-ltb, eqb-false}
use Rattle.message.specs.Message.{fits_message, fits_short, slots_for}
use Rattle.rules.specs.declared.Condition.{Condition}
use Rattle.rules.specs.declared.Condition.TheVariants.{Free, Held, Fresh, Asked, Resolving, Urgent, Long}
use Rattle.rules.specs.declared.Station.{Station}
use Rattle.rules.specs.declared.StationWritten.{StationWritten}
use Rattle.rules.specs.declared.Which.{Which}
use Rattle.rules.specs.declared.Which.TheVariants.{ShortOne, LongOne}
use Rattle.rules.specs.declared.Writing.{Writing}
use Rattle.rules.specs.declared.Writing.TheVariants.{Offer, Hold}
use Rattle.rules.specs.declared.WriteAnswer.TheVariants.{Total, Refused}
use Rattle.rules.specs.Refusing.{unless, by_number}
use Rattle.rules.specs.StationLimits.{is_total, condition_within, short_within, long_within, records_apart, messages_within, station_within}
use Rattle.rules.specs.Writing.{record_in, with_record, is_free, record_for, new_number_of, writing_total_of, written_of, refused_write, write_number_of, write_of}
use Rattle.rules.proofs.LimitLaws.{StationIn, station_in}
use Rattle.rules.proofs.Ledger.{is_free_lem}
use Rattle.rules.proofs.Refusals.{through-only, test_passed}
use Rattle.rules.proofs.WriteStep.{good-size, short-slots}
use Rattle.holds.specs.HoldThenCommit.{commit_of, StationHolds}

-- ---- by the number

-- of two calls with one number, what is answered where it refuses is answered by both
pub refused-both {ℓ κ} : {A : Type ℓ} {B : Type κ} (f : A → B) (v : B) (n : ℕ) (refusal : ℕ → A) (x y : A) → (f x ≡ v → ⊥) → f (by_number n refusal x) ≡ v → f (by_number n refusal y) ≡ v
refused-both f v n refusal x y never p = go (eqb n 0) p
  where
    go : (b : Bool) → f (cond b x (refusal n)) ≡ v → f (cond b y (refusal n)) ≡ v
    go true p = absurd (never p)
    go false p = p

-- ---- one record of a station, written twice

pub put-twice : (o : Which) (s : Station) (c d : Condition) → with_record o (with_record o s c) d ≡ with_record o s d
put-twice ShortOne s c d = refl
put-twice LongOne s c d = refl

pub put_in : (o : Which) (s : Station) (c : Condition) → record_in o (with_record o s c) ≡ c
put_in ShortOne s c = refl
put_in LongOne s c = refl

-- a new message goes through only to a free record, with a length of a message
pub new-passed : (bytes : ℕ) (c : Condition) → new_number_of bytes c ≡ 0 → (fits_message bytes ≡ true) × (c ≡ Free)
new-passed bytes c z =
    let (fits, z') = test_passed (fits_message bytes) 10 (unless (is_free c) 9 0) refl z in
    (fits, is_free_lem c (test_passed (is_free c) 9 0 refl z').0)

-- a held record is apart from any other
apart-held : (c : Condition) (t : ℕ) → records_apart c (Held t) ≡ true
unfolding records_apart
apart-held Free t = refl
apart-held (Held x) t = refl
apart-held (Fresh x) t = refl
apart-held (Asked g j x) t = refl
apart-held (Resolving g j x) t = refl
apart-held (Urgent j) t = refl
apart-held (Long f l x) t = refl

-- ---- THE STATION STAYS WITHIN ITS LIMITS

pub held-within : (s : Station) (bytes : ℕ) → station_within s ≡ true → fits_message bytes ≡ true → station_within (with_record (record_for bytes) s (Held (slots_for bytes))) ≡ true
unfolding station_within messages_within condition_within short_within long_within records_apart
held-within s bytes e f = go (fits_short bytes) (short-slots bytes f)
  where
    i : StationIn s
    i = station_in s e

    t : ℕ
    t = slots_for bytes

    total : is_total t ≡ true
    total = let (a, b) = good-size bytes f in rw (le-leb 1 t a, le-leb t 255 b)

    place : leb s.index 923 ≡ true
    place = le-leb s.index 923 i.index

    above : false ≡ eqb t 1 → ltb 1 t ≡ true
    above q = let w : t ≢ 1 = eqb-false t 1 (sym q) in lt-ltb 1 t (omega (arith, good-size bytes f))

    go : (b : Bool) → b ≡ eqb t 1 → station_within (with_record (cond b ShortOne LongOne) s (Held t)) ≡ true
    go true q = rw (i.counters, place, total, ← q, i.records.long, i.records.lengthy)
    go false q = rw (i.counters, place, i.records.short, i.records.brief, total, above q, apart-held s.short.condition t)

-- ---- the calls

-- a writing whose number is 0
went-through : (s : Station) (w : Writing) → write_number_of s w ≡ 0 → write_of s w ≡ record { answer = Total (writing_total_of s w); station = written_of s w }
unfolding write_of
went-through s w z = rw z

-- two writings with one number
refused-alike : (s : Station) (n : ℕ) (v w : Writing) → write_number_of s v ≡ write_number_of s w → (write_of s v).answer ≡ Refused n → (write_of s w).answer ≡ Refused n
unfolding write_of
refused-alike s n v w e p =
    rw (← e) (refused-both (λ (r : StationWritten). r.answer) (Refused n) (write_number_of s v) (refused_write s)
    (record { answer = Total (writing_total_of s v); station = written_of s v }) (record { answer = Total (writing_total_of s w); station = written_of s w })
    (λ q. let z : ◌≡◌ {A = ℕ} 0 1 = cc in omega arith) p)

module _ (s : Station) (bytes : ℕ) where
  hold-passed : (t : ℕ) → (write_of s (Hold bytes)).answer ≡ Total t → write_number_of s (Hold bytes) ≡ 0
  unfolding write_of
  hold-passed t p =
      through-only (λ (r : StationWritten). r.answer ≡ Total t) (write_number_of s (Hold bytes)) (refused_write s)
      (record { answer = Total (writing_total_of s (Hold bytes)); station = written_of s (Hold bytes) })
      (λ k q. let z : ◌≡◌ {A = ℕ} 0 1 = cc in omega arith) p

  as_offer : write_number_of s (Hold bytes) ≡ write_number_of s (Offer bytes)
  unfolding write_number_of
  as_offer = refl

  module _ (z : write_number_of s (Hold bytes) ≡ 0) where
    tests : (station_within s ≡ true) × (new_number_of bytes (record_in (record_for bytes) s) ≡ 0)
    unfolding write_number_of
    tests = test_passed (station_within s) 18 (new_number_of bytes (record_in (record_for bytes) s)) refl z

    held : Station
    held = with_record (record_for bytes) s (Held (slots_for bytes))

    commit-number : write_number_of held (commit_of bytes) ≡ 0
    unfolding write_number_of held
    commit-number =
        rw (held-within s bytes tests.0 (new-passed bytes (record_in (record_for bytes) s) tests.1).0, put_in (record_for bytes) s (Held (slots_for bytes)))

    -- it answers the total that is held, and writes over it what the offer would write
    alike : ◌≡◌ {A = StationWritten} (record { answer = Total (writing_total_of held (commit_of bytes)); station = written_of held (commit_of bytes) })
        (record { answer = Total (writing_total_of s (Offer bytes)); station = written_of s (Offer bytes) })
    unfolding held
    alike = rw (put_in (record_for bytes) s (Held (slots_for bytes)), put-twice (record_for bytes) s (Held (slots_for bytes)) (Fresh (slots_for bytes)))

    committed : write_of held (commit_of bytes) ≡ write_of s (Offer bytes)
    committed = went-through held (commit_of bytes) commit-number ∙ alike ∙ sym (went-through s (Offer bytes) (sym as_offer ∙ z))

    both : (t : ℕ) → (write_of s (Hold bytes)).answer ≡ Total t → ((write_of s (Offer bytes)).answer ≡ Total t) × (write_of (write_of s (Hold bytes)).station (commit_of bytes) ≡ write_of s (Offer bytes))
    unfolding held
    both t p =
        let a = went-through s (Hold bytes) z in (
          ap (λ (r : StationWritten). r.answer) (went-through s (Offer bytes) (sym as_offer ∙ z)) ∙ sym (ap (λ (r : StationWritten). r.answer) a) ∙ p,
          ap (λ (r : StationWritten). write_of r.station (commit_of bytes)) a ∙ committed,
        )

pub station-holds : StationHolds
station-holds =
    record {
      through = λ s bytes t p. both s bytes (hold-passed s bytes t p) t p;
      refused = λ s bytes n. (refused-alike s n (Hold bytes) (Offer bytes) (as_offer s bytes), refused-alike s n (Offer bytes) (Hold bytes) (sym (as_offer s bytes)));
    }
