-- A writing, by its verdict: 18 outside the limits, then the number of the refusal, else the slot total and the station with its record written. Assumes
-- nothing.
use mathlib.Core.Path.{◌≡◌, ap, sym, ◌∙◌}
use mathlib.Core.Bool.{true, false}
use mathlib.Core.Logic.{◌≢◌}
use borrow.Author.Tests.{eq-eqb, ne_eqb}
use Rattle.rules.specs.declared.Station.{Station}
use Rattle.rules.specs.declared.Writing.{Writing}
use Rattle.rules.specs.declared.WriteAnswer.TheVariants.{Total}
use Rattle.rules.specs.StationLimits.{station_within}
use Rattle.rules.specs.Writing.{with_record, writes, written_as, writing_number_of, refused_write, write_number_of, write_of}
use Rattle.verdicts.specs.declared.Verdict.{Verdict}
use Rattle.verdicts.specs.Verdicts.{verdict_by, verdict_of}

module _ (s : Station) (w : Writing) where
  pub write_18 : station_within s ≡ false → refused_write s 18 ≡ write_of s w
  unfolding write_of write_number_of
  write_18 e = rw e

  module _ (v : Verdict) (is : v ≡ verdict_of s w) (within : station_within s ≡ true) where
    number : v.number ≡ writing_number_of s w
    unfolding verdict_of verdict_by
    number = ap (λ (x : Verdict). x.number) is

    pub write-refused : v.number ≢ 0 → refused_write s v.number ≡ write_of s w
    unfolding write_of write_number_of
    write-refused some =
        let bad : writing_number_of s w ≢ 0 = (λ z. some (number ∙ z)) in
        rw (within, number, ne_eqb (writing_number_of s w) 0 bad)

    pub write-through : v.number ≡ 0 → record { answer = Total v.total; station = with_record (writes w) s (written_as w v.total) } ≡ write_of s w
    unfolding write_of write_number_of verdict_of verdict_by
    write-through none =
        let z : writing_number_of s w ≡ 0 = sym number ∙ none in
        rw (is, within, eq-eqb (writing_number_of s w) 0 z)
