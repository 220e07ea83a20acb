-- A table has a station of an index just if the index is one of its stations'; so the entries of a calendar test on the stations one by one as the
-- rule says. Assumes nothing.
use mathlib.Core.Path.{◌≡◌, refl, sym, ap, ◌∙◌}
use mathlib.Core.Bool.{Bool, ◌||◌}
use mathlib.Core.List.{List, [], ◌∷◌, map}
use Prim.Native.Nat.{ℕ}
use lib.Dec.{eqb}
use lib.ListN.{length}
use borrow.Author.Tests.{eq-eqb}
use Rattle.std.specs.List.{list_all}
use Rattle.rules.specs.declared.Station.{Station}
use Rattle.rules.specs.Plain.{among}
use Rattle.channel_rules.specs.Soundness.{entry_on, entries_on}
use Rattle.channel_rules.proofs.Calendared.{on-among}
use Rattle.sound_owners.specs.Owners.{has_index, entry_among}

among-has : (l : List Station) (x : ℕ) → among (map (λ (s : Station). s.index) l) x ≡ has_index l x
among-has [] x = refl
among-has (s ∷ l) x = ap (λ (b : Bool). eqb s.index x || b) (among-has l x)

each-among : (l : List Station) (entries : List ℕ) → list_all (entry_on l) entries ≡ list_all (entry_among l) entries
each-among l [] = refl
each-among l (x ∷ entries) = rw (on-among l x, among-has l x, each-among l entries)

-- 24 entries
pub entries_are : (l : List Station) (entries : List ℕ) → length entries ≡ 24 → list_all (entry_among l) entries ≡ entries_on l entries
unfolding entries_on
entries_are l entries w = rw (eq-eqb _ _ w) (sym (each-among l entries))
