-- Who sends in the coming slots of a table that was loaded: the channel by value is the lent one, or has as many stations where there are more than 64, and
-- then the count alone decides, by 14. Assumes nothing.
use mathlib.Core.Path.{◌≡◌, sym, ap, ◌∙◌}
use mathlib.Core.Bool.{false}
use mathlib.Core.List.{List}
use mathlib.Core.Logic.{by_cases}
use Prim.Native.Nat.{ℕ, ◌<◌}
use native.Mathlib.Omega.{arith}
use native.Mathlib.Decide.{dec_lt}
use lib.ListN.{length}
use Rattle.rules.specs.declared.Station.{Station}
use Rattle.rules.specs.declared.WireRow.{WireRow}
use Rattle.channel_rules.specs.ChannelCalls.{Channel, has_stations}
use Rattle.table.specs.Loading.{load_of}
use Rattle.calls.specs.ByValue.{channel_of, array_channel}
use Rattle.calls.proofs.ByValue.{many_false, array-loaded, array-many}
use Rattle.coming_rules.specs.Coming.{refused_coming, coming_number_of, coming_of}

-- not 1 to 64 stations
coming_14 : (ch : Channel) (list : List ℕ) → has_stations ch.stations ≡ false → coming_of ch list ≡ refused_coming list 14
unfolding coming_of coming_number_of
coming_14 ch list e = rw e

pub coming-loaded : (ys : List Station) (wire : List WireRow) (list : List ℕ)
    → coming_of (array_channel (load_of ys).stations (load_of ys).count wire) list ≡ coming_of (channel_of ys wire) list
coming-loaded ys wire list =
    by_cases (dec_lt 64 (length ys)) many
    (λ h. ap (λ (t : List Station). coming_of (channel_of t wire) list) (array-loaded ys (omega arith)))
  where
    many : 64 < length ys → coming_of (array_channel (load_of ys).stations (load_of ys).count wire) list ≡ coming_of (channel_of ys wire) list
    many h =
        coming_14 (array_channel (load_of ys).stations (load_of ys).count wire) list (rw (array-many ys) (many_false (length ys) h))
        ∙ sym (coming_14 (channel_of ys wire) list (many_false (length ys) h))
