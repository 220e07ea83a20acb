-- A station's record within its limits (paper 01, "The box": "A record is within its limits if .."; paper 02, T-04 and T-06). Assumes
-- nothing.
use Rattle.std.specs.Prelude.{Bool, true, false, not, ◌&&◌, ℕ, ◌+◌, ◌-◌, leb, ltb, eqb, get_or}
pub use Rattle.rules.specs.declared.Condition.{Condition}
pub use Rattle.rules.specs.declared.Condition.TheVariants.{Free, Held, Fresh, Asked, Resolving, Urgent, Long}
use Rattle.rules.specs.declared.Counters.{Counters}
use Rattle.rules.specs.declared.MessageRecord.{MessageRecord}
use Rattle.rules.specs.declared.Station.{Station}
use Rattle.rules.specs.Limits.{between, within_limits}

-- a message record in a condition
abbrev pub holding : Condition → MessageRecord
holding k = record { condition = k }

-- RQ of group g
abbrev pub resolution_at : Counters → ℕ → ℕ
resolution_at c g = get_or c.resolution (g - 1) 0

-- totals are 1 to 255
abbrev pub is_total : ℕ → Bool
is_total t = between 1 t 255

-- a condition's group, minislot, total; every place or stretch inside its queue; slots left 1 to the total, which is above 1 when long
unfoldable pub condition_within : Counters → Condition → Bool
condition_within c Free = true
condition_within c (Held t) = is_total t
condition_within c (Fresh t) = is_total t
condition_within c (Asked g j t) = between 1 g c.groups && between 1 j c.minislots && is_total t
condition_within c (Resolving g i t) = between 1 g c.groups && between 1 i (resolution_at c g) && is_total t
condition_within c (Urgent i) = between 1 i c.urgent
condition_within c (Long f l t) = between 2 t 255 && between 1 l t && leb 1 f && leb (f + l) (c.long + 1)

-- the short record's total is 1, and it is never long
unfoldable pub short_within : Condition → Bool
short_within Free = true
short_within (Held t) = eqb t 1
short_within (Fresh t) = eqb t 1
short_within (Asked g j t) = eqb t 1
short_within (Resolving g i t) = eqb t 1
short_within (Urgent i) = true
short_within (Long f l t) = false

-- the long record's total is above 1, and it is never urgent
unfoldable pub long_within : Condition → Bool
long_within Free = true
long_within (Held t) = ltb 1 t
long_within (Fresh t) = ltb 1 t
long_within (Asked g j t) = ltb 1 t
long_within (Resolving g i t) = ltb 1 t
long_within (Urgent i) = false
long_within (Long f l t) = ltb 1 t

-- not asked in group g; not at place i of group g's resolution queue
abbrev pub not_asked : ℕ → Condition → Bool
not_asked g Free = true
not_asked g (Held t) = true
not_asked g (Fresh t) = true
not_asked g (Asked h j t) = not (eqb h g)
not_asked g (Resolving h i t) = true
not_asked g (Urgent i) = true
not_asked g (Long f l t) = true

abbrev pub not_at : ℕ → ℕ → Condition → Bool
not_at g i Free = true
not_at g i (Held t) = true
not_at g i (Fresh t) = true
not_at g i (Asked h j t) = true
not_at g i (Resolving h j t) = not (eqb h g && eqb j i)
not_at g i (Urgent j) = true
not_at g i (Long f l t) = true

-- the two records never share an asked group, nor a resolution place
unfoldable pub records_apart : Condition → Condition → Bool
records_apart Free b = true
records_apart (Held t) b = true
records_apart (Fresh t) b = true
records_apart (Asked g j t) b = not_asked g b
records_apart (Resolving g i t) b = not_at g i b
records_apart (Urgent i) b = true
records_apart (Long f l t) b = true

-- the two records of a station, by the counters that it keeps: first the short one
unfoldable pub messages_within : Counters → Condition → Condition → Bool
messages_within c a b = condition_within c a && short_within a && condition_within c b && long_within b && records_apart a b

-- THE LIMITS of a station's record (refusal 18)
unfoldable pub station_within : Station → Bool
station_within s =
    within_limits s.counters && leb s.index 923 && messages_within s.counters s.short.condition s.long.condition
