-- A sound table's eight clauses are those on its stations, those on its messages and that on its owners, in the order in which the code tests them.
-- Assumes nothing.
use mathlib.Core.Path.{◌≡◌, refl, ap, ◌∙◌}
use mathlib.Core.Bool.{Bool, true, false, ◌&&◌}
use mathlib.Core.List.{List}
use Rattle.rules.specs.declared.Station.{Station}
use Rattle.rules.specs.declared.WireRow.{WireRow}
use Rattle.channel_rules.specs.Soundness.{table_counters, messages_of, indexes_distinct, records_within, counters_shared, urgent_sound, long_sound, resolution_sound, asked_minislot, wire_sound, entries_on, owners_sound, sound_table}
use Rattle.sound_stations.specs.Stations.{stations_sound}
use Rattle.soundness.specs.Clauses.{messages_sound}
use Rattle.sound_wire.specs.Wire.{wire_carries}

turned : (i r c u l q w : Bool) → i && r && c && u && l && q && w ≡ (r && c && i) && (u && l && q && w)
turned true true true u l q w = refl
turned true true false u l q w = refl
turned true false c u l q w = refl
turned false true true u l q w = refl
turned false true false u l q w = refl
turned false false c u l q w = refl

sound-parts : (s : List Station) (wire : List WireRow) → sound_table s wire ≡ stations_sound s && messages_sound (table_counters s) (messages_of s) wire && owners_sound s
unfolding sound_table urgent_sound long_sound resolution_sound asked_minislot wire_sound stations_sound messages_sound wire_carries
sound-parts s wire =
    ap (λ (b : Bool). b && owners_sound s)
    (turned (indexes_distinct s) (records_within s) (counters_shared s) (urgent_sound s) (long_sound s) (resolution_sound s) (wire_sound s wire))

-- the first that fails decides, and the owners where none does
module _ (s : List Station) (wire : List WireRow) where
  pub stations_fail : stations_sound s ≡ false → sound_table s wire ≡ false
  stations_fail e = sound-parts s wire ∙ ap (λ (b : Bool). b && messages_sound (table_counters s) (messages_of s) wire && owners_sound s) e

  module _ (e : stations_sound s ≡ true) where
    with_stations : sound_table s wire ≡ messages_sound (table_counters s) (messages_of s) wire && owners_sound s
    with_stations = sound-parts s wire ∙ ap (λ (b : Bool). b && messages_sound (table_counters s) (messages_of s) wire && owners_sound s) e

    pub messages_fail : messages_sound (table_counters s) (messages_of s) wire ≡ false → sound_table s wire ≡ false
    messages_fail f = with_stations ∙ ap (λ (b : Bool). b && owners_sound s) f

    pub owners-last : messages_sound (table_counters s) (messages_of s) wire ≡ true → sound_table s wire ≡ entries_on s (table_counters s).calendar
    unfolding owners_sound
    owners-last f = with_stations ∙ ap (λ (b : Bool). b && owners_sound s) f
