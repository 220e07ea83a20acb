-- A call that gives what its definition says answers the paper's number and values: the definition does. Assumes nothing.
use mathlib.Core.Path.{◌≡◌, ap, ◌∙◌}
use mathlib.Core.List.{List}
use Prim.Native.Nat.{ℕ}
use Rattle.rules.specs.declared.CalendarSet.{CalendarSet}
use Rattle.rules.specs.declared.Counters.{Counters}
use Rattle.rules.specs.declared.Started.{Started}
use Rattle.rules.specs.Starting.{start_of}
use Rattle.rules.specs.Settings.{calendar_of}
use Rattle.rules.specs.Numbers.{start_told, calendar_told}
use Rattle.rules.specs.Answered.{start_told_of, calendar_told_of}
use Rattle.rules.proofs.NumbersHold.{start-told, calendar-told}

pub starts : (m n : ℕ) (r : Started) → r ≡ start_of m n → (r ≡ start_of m n) × (start_told r.answer ≡ start_told_of m n)
starts m n r e = (e, ap (λ (x : Started). start_told x.answer) e ∙ start-told m n)

pub sets : (c : Counters) (entries : List ℕ) (r : CalendarSet) → r ≡ calendar_of c entries
    → (r ≡ calendar_of c entries) × (calendar_told r.answer ≡ calendar_told_of c entries)
sets c entries r e = (e, ap (λ (x : CalendarSet). calendar_told x.answer) e ∙ calendar-told c entries)
