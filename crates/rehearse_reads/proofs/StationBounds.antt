-- The numbers of counters and of a station's record that are within their limits are numbers of 64 bits: so the lines that `show` prints of
-- the counters and of a message record have at most 149 bytes, that of a group at most 107, and that of the owners at most 569.
-- Assumes nothing.
use mathlib.Core.Path.{◌≡◌, refl}
use mathlib.Core.Bool.{Bool, true, false, cond, ◌&&◌, ◌||◌}
use mathlib.Core.List.{List, [], ◌∷◌, ◌++◌, map}
use mathlib.Core.Logic.{by_cases}
use Prim.Native.Nat.{ℕ, ◌+◌, ◌-◌, ◌≤◌}
use native.Mathlib.Omega.{arith}
use native.Mathlib.Decide.{dec_lt}
use lib.Dec.{leb, ltb, eqb}
use lib.ListN.{length, get_or, length-map, length-append, get_or-eq_default}
use borrow.Author.Tests.{leb-true, eqb-true}
use Rattle.listlaws.specs.Every.{every_from}
use Rattle.std.specs.List.{list_all}
use Rattle.listlaws.proofs.Table.{every-at}
use Rattle.rules.specs.declared.Counters.{Counters}
use Rattle.rules.specs.declared.Station.{Station}
use Rattle.rules.specs.declared.Condition.{Condition}
use Rattle.rules.specs.declared.Condition.TheVariants.{Free, Held, Fresh, Asked, Resolving, Urgent, Long}
use Rattle.rules.specs.Calendars.{entry_within}
use Rattle.rules.specs.Limits.{between, resolution_within, opened_within, groups_within}
use Rattle.rules.specs.StationLimits.{is_total, resolution_at, condition_within, station_within}
use Rattle.rules.proofs.LimitLaws.{Within, within-limits, between-bounds, calendar-in, station_in}
use Rattle.rules.proofs.SlotStep.{and_both}
use Rattle.decimals.specs.Decimal.{digits_of}
use Rattle.programs.specs.Advancing.{joined}
use Rattle.condition_lines.specs.ConditionLines.{message_word, condition_fields, condition_line}
use Rattle.message_lines.specs.MessageLines.{message_lines}
use Rattle.counter_lines.specs.CounterLines.{owners_word, mark_word, counters_line, owners_line, group_line}
use Rattle.rehearse_reads.proofs.LineBounds.{Short, In64, AllIn64, line-within, number_short, numbers-short}

-- ---- counters

-- each RQ is within its limit, and so is what stands for a missing one
pub resolution-most : (c : Counters) → Within c → (i : ℕ) → get_or c.resolution i 0 ≤ 4095
unfolding groups_within
resolution-most c w i =
    by_cases (dec_lt i (length c.resolution))
    (λ h. go (ltb i c.groups) (every-at (resolution_within c.groups) 0 c.resolution tests i h))
    (λ h. let e : get_or c.resolution i 0 ≡ 0 = get_or-eq_default c.resolution 0 (omega arith) in omega arith)
  where
    tests : every_from (resolution_within c.groups) 0 c.resolution ≡ true
    tests =
        let p = and_both (eqb (length c.resolution) 8 && eqb (length c.opened) 8 && every_from (resolution_within c.groups) 0 c.resolution)
        (every_from (opened_within c.groups) 0 c.opened) w.arrays in
        (and_both (eqb (length c.resolution) 8 && eqb (length c.opened) 8) (every_from (resolution_within c.groups) 0 c.resolution) p.0).1

    go : (b : Bool) → cond b (leb (get_or c.resolution i 0) 4095) (eqb (get_or c.resolution i 0) 0) ≡ true → get_or c.resolution i 0 ≤ 4095
    go true e = leb-true (get_or c.resolution i 0) 4095 e
    go false e = let z = eqb-true (get_or c.resolution i 0) 0 e in omega arith

pub counters-line : (k : ℕ) (c : Counters) → In64 k → Within c → length (counters_line k c) ≤ 149
unfolding counters_line
counters-line k c h w =
    let numbers = c.minislots ∷ c.groups ∷ c.next ∷ c.urgent ∷ c.long ∷ [] in
    let in64 : AllIn64 numbers = omega (arith, w.minislots, w.groups, w.next, w.urgent, w.long) in
    line-within _ (number_short k h, (omega arith, numbers-short numbers in64))

-- an entry is 65,535 or an index
entries_in64 : (l : List ℕ) → list_all entry_within l ≡ true → AllIn64 l
entries_in64 [] e = tt
entries_in64 (x ∷ l) e =
    let p = and_both (entry_within x) (list_all entry_within l) e in
    (go (eqb x 65535) (leb x 923) refl refl p.0, entries_in64 l p.1)
  where
    go : (a b : Bool) → eqb x 65535 ≡ a → leb x 923 ≡ b → a || b ≡ true → In64 x
    go true b f g t = let z = eqb-true x 65535 f in omega arith
    go false true f g t = let z = leb-true x 923 g in omega arith
    go false false f g t = let z : ◌≡◌ {A = ℕ} 0 1 = cc in absurd (omega arith)

pub owners-line : (k : ℕ) (c : Counters) → In64 k → Within c → length (owners_line k c) ≤ 569
unfolding owners_line
owners-line k c h w =
    let i = calendar-in c w.calendar in
    let numbers = c.position ∷ c.calendar in
    let in64 : AllIn64 numbers = (omega (arith, i.position), entries_in64 c.calendar i.entries) in
    let l = line-within (digits_of k ∷ owners_word ∷ map digits_of numbers) (number_short k h, (omega arith, numbers-short numbers in64)) in
    omega (arith, l, length-map c.calendar digits_of, i.size)

mark-short : (b : Bool) → length (mark_word b) ≤ 20
mark-short true = omega arith
mark-short false = omega arith

pub group-line : (k : ℕ) (c : Counters) (g : ℕ) → In64 k → Within c → g ≤ 8 → length (group_line k c g) ≤ 107
unfolding group_line
group-line k c g h w l =
    let r = number_short (get_or c.resolution (g - 1) 0) (omega (arith, resolution-most c w (g - 1))) in
    line-within _ (omega (arith, number_short k h, number_short g (omega arith), r, mark-short (get_or c.opened (g - 1) true)))

-- ---- a station's messages

total-most : (t : ℕ) → is_total t ≡ true → t ≤ 255
total-most t e = (between-bounds 1 t 255 e).1

-- the numbers that a condition holds
abbrev pub Small : Condition → Type 0
Small Free = Unit {0}
Small (Held t) = t ≤ 255
Small (Fresh t) = t ≤ 255
Small (Asked g j t) = (g ≤ 8) × (j ≤ 8) × (t ≤ 255)
Small (Resolving g i t) = (g ≤ 8) × (i ≤ 4095) × (t ≤ 255)
Small (Urgent i) = i ≤ 4095
Small (Long f l t) = (f ≤ 65536) × (l ≤ 255) × (t ≤ 255)

pub small : (c : Counters) → Within c → (x : Condition) → condition_within c x ≡ true → Small x
unfolding condition_within
small c w Free e = tt
small c w (Held t) e = total-most t e
small c w (Fresh t) e = total-most t e
small c w (Asked g j t) e =
    let (p, q) = and_both (between 1 g c.groups && between 1 j c.minislots) (is_total t) e in
    let (a, b) = and_both (between 1 g c.groups) (between 1 j c.minislots) p in
    let l = (between-bounds 1 g c.groups a).1 in
    let m = (between-bounds 1 j c.minislots b).1 in
    (omega (arith, l, w.groups), omega (arith, m, w.minislots), total-most t q)
small c w (Resolving g i t) e =
    let (p, q) = and_both (between 1 g c.groups && between 1 i (resolution_at c g)) (is_total t) e in
    let (a, b) = and_both (between 1 g c.groups) (between 1 i (resolution_at c g)) p in
    let l = (between-bounds 1 g c.groups a).1 in
    let m = (between-bounds 1 i (resolution_at c g) b).1 in
    (omega (arith, l, w.groups), omega (arith, m, resolution-most c w (g - 1)), total-most t q)
small c w (Urgent i) e = let l = (between-bounds 1 i c.urgent e).1 in omega (arith, l, w.urgent)
small c w (Long f l t) e =
    let (p, q) = and_both (between 2 t 255 && between 1 l t && leb 1 f) (leb (f + l) (c.long + 1)) e in
    let (r, s) = and_both (between 2 t 255 && between 1 l t) (leb 1 f) p in
    let (u, v) = and_both (between 2 t 255) (between 1 l t) r in
    let t-most = (between-bounds 2 t 255 u).1 in
    let l-most = (between-bounds 1 l t v).1 in
    let sum = leb-true (f + l) (c.long + 1) q in
    (omega (arith, sum, w.long), omega (arith, t-most, l-most), t-most)

-- with the three fields before it, in a line
abbrev Fits : Condition → Type 0
Fits x = (length (condition_fields x) ≤ 4) × Short (condition_fields x)

condition-fits : (x : Condition) → Small x → Fits x
condition-fits Free s = omega arith
condition-fits (Held t) s = omega (arith, number_short t (omega arith))
condition-fits (Fresh t) s = omega (arith, number_short t (omega arith))
condition-fits (Asked g j t) s = omega (arith, number_short g (omega (arith, s)), number_short j (omega (arith, s)), number_short t (omega (arith, s)))
condition-fits (Resolving g i t) s = omega (arith, number_short g (omega (arith, s)), number_short i (omega (arith, s)), number_short t (omega (arith, s)))
condition-fits (Urgent i) s = omega (arith, number_short i (omega arith))
condition-fits (Long f l t) s = omega (arith, number_short f (omega (arith, s)), number_short l (omega (arith, s)), number_short t (omega (arith, s)))

condition-line : (k index : ℕ) (x : Condition) → In64 k → index ≤ 923 → Small x → length (condition_line k index x) ≤ 149
unfolding condition_line
condition-line k index x h i s =
    let f = condition-fits x s in
    let l = line-within (digits_of k ∷ message_word ∷ digits_of index ∷ condition_fields x)
    (number_short k h, (omega arith, (number_short index (omega arith), f.1))) in
    omega (arith, l, f.0)

-- the numbers of a station's two records
pub small-both : (s : Station) → station_within s ≡ true → Small s.short.condition × Small s.long.condition
small-both s e =
    let i = station_in s e in
    let w = within-limits s.counters i.counters in
    (small s.counters w s.short.condition i.records.short, small s.counters w s.long.condition i.records.long)

pub message-lines : (k : ℕ) (s : Station) → In64 k → station_within s ≡ true → length (joined (message_lines k s)) ≤ 298
unfolding message_lines
message-lines k s h e =
    let index = (station_in s e).index in
    let p = small-both s e in
    let short = condition_line k s.index s.short.condition in
    let long = condition_line k s.index s.long.condition in
    omega (
      arith,
      length-append short (long ++ []),
      length-append long [],
      condition-line k s.index s.short.condition h index p.0,
      condition-line k s.index s.long.condition h index p.1,
    )
