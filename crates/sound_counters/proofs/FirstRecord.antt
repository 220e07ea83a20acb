-- The counters of a table: those of its first record. Assumes nothing.
use mathlib.Core.Path.{◌≡◌, refl, sym, ap, ◌∙◌}
use mathlib.Core.Bool.{true}
use mathlib.Core.List.{List, [], ◌∷◌}
use Prim.Native.Nat.{ℕ, ◌≤◌}
use lib.ListN.{length, get_or, take}
use lib.Seq.{get_or-take}
use Rattle.std.specs.Prelude.{Some, None, slice_get}
use Rattle.listlaws.proofs.Beyond.{get_d_any}
use Rattle.rules.specs.declared.Station.{Station}
use Rattle.rules.specs.declared.Condition.TheVariants.{Free}
use Rattle.rules.specs.StationCalls.{no_station}
use Rattle.channel_rules.specs.Soundness.{table_counters, counters_shared}

-- what a read past the end of a table would give: a record of zeros whose lists are empty
abbrev pub blank : Station
blank =
    record {
      counters = record { minislots = 0; groups = 0; next = 0; urgent = 0; long = 0; resolution = []; opened = []; calendar = []; position = 0 };
      index = 0;
      short = record { condition = Free };
      long = record { condition = Free };
    }

pub first-counters : (l : List Station) (n : ℕ) → 1 ≤ n → 1 ≤ length l → (get_or l 0 blank).counters ≡ table_counters (take n l)
first-counters l n a b = ap (λ (s : Station). s.counters) (get_d_any l 0 blank no_station b ∙ sym (get_or-take n l 0 no_station a))

-- what reading the first record of a list gives: its counters are the table's
pub first-of : (l : List Station) (s : Station) → Some s ≡ slice_get l 0 → table_counters l ≡ s.counters
first-of [] s e = cc
first-of (x ∷ l) s e = let h : x ≡ s = cc in ap (λ (r : Station). r.counters) h

-- without a record all share their counters
pub none_shared : (l : List Station) → None ≡ slice_get l 0 → true ≡ counters_shared l
unfolding counters_shared
none_shared [] e = refl
none_shared (x ∷ l) e = cc
