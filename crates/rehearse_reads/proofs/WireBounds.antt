-- What stands on the wire of a sound table: words of twelve bits and counts of eight, since each minislot is what the records that asked there
-- sent together, patterns and totals. So the line that `show` prints of a group's row has at most 401 bytes.
-- Assumes nothing.
use mathlib.Core.Path.{◌≡◌, sym, subst}
use mathlib.Core.Bool.{Bool, true, false, ◌&&◌}
use mathlib.Core.List.{List, [], ◌∷◌, ◌++◌, map}
use Prim.Native.Nat.{ℕ, zero, suc, ◌*◌, ◌-◌, ◌<◌, ◌≤◌}
use native.Mathlib.Omega.{arith}
use lib.Bits.{or_lt}
use lib.Dec.{eqb}
use lib.ListN.{length, get_or, take, length-map}
use lib.Seq.{get_or-take, length-take-le}
use Rattle.listlaws.specs.Lists.{only_if}
use Rattle.pattern.proofs.Patterns.{pattern-below}
use Rattle.minislot.specs.declared.Minislot.{Minislot}
use Rattle.requests.specs.Together.{Request, carries, silent, together}
use Rattle.decimals.specs.Decimal.{digits_of}
use Rattle.rules.specs.declared.Station.{Station}
use Rattle.rules.specs.declared.WireRow.{WireRow}
use Rattle.rules.specs.declared.Condition.{Condition}
use Rattle.rules.specs.declared.Condition.TheVariants.{Free, Held, Fresh, Asked, Resolving, Urgent, Long}
use Rattle.rules.specs.StationLimits.{station_within}
use Rattle.rules.proofs.LimitLaws.{station_in}
use Rattle.channel_rules.specs.Soundness.{messages_of, asked_request, asked_requests, asked_minislot}
use Rattle.channel_rules.specs.SoundMeaning.{station_at, Sound}
use Rattle.channel_rules.specs.ChannelCalls.{blank_row}
use Rattle.wire_lines.specs.WireLines.{wire_word, cells, wire_line}
use Rattle.rehearse_reads.proofs.LineBounds.{In64, AllIn64, line-within, number_short, numbers-short}
use Rattle.rehearse_reads.proofs.StationBounds.{Small, small-both}

-- ---- what stations send together

-- requests of patterns and totals
abbrev Sendable : List Request → Type 0
Sendable [] = Unit {0}
Sendable (r ∷ l) = (r.index < 924) × (r.total < 256) × Sendable l

sendable_two : (a b : List Request) → Sendable a → Sendable b → Sendable (a ++ b)
sendable_two [] b p q = q
sendable_two (r ∷ a) b p q = (p.0, p.1, sendable_two a b p.2 q)

-- a minislot of a word of twelve bits and a count of eight
abbrev Low : Minislot → Type 0
Low s = (s.word < 4096) × (s.count < 256)

together-low : (l : List Request) → Sendable l → Low (together (map carries l))
unfolding together
together-low [] p = (omega arith, omega arith)
together-low (r ∷ l) p =
    let q = together-low l p.2 in
    (or_lt 12 _ (together (map carries l)).word (pattern-below r.index p.0) q.0, or_lt 8 r.total (together (map carries l)).count p.1 q.1)

only_sendable : (b : Bool) (r : Request) → r.index < 924 → r.total < 256 → Sendable (only_if b (r ∷ []))
only_sendable true r i t = (i, t, tt)
only_sendable false r i t = tt

module _ (g j : ℕ) where
  asked-one : (index : ℕ) (x : Condition) → index ≤ 923 → Small x → Sendable (asked_request g j index x)
  asked-one index Free h w = tt
  asked-one index (Held t) h w = tt
  asked-one index (Fresh t) h w = tt
  asked-one index (Asked x y t) h w = only_sendable (eqb x g && eqb y j) (record { index = index; total = t }) (omega arith) (omega (arith, w))
  asked-one index (Resolving x y t) h w = tt
  asked-one index (Urgent y) h w = tt
  asked-one index (Long x y t) h w = tt

  asked-all : (l : List Station) → ((k : ℕ) → k < length l → station_within (station_at l k) ≡ true) → Sendable (asked_requests g j (messages_of l))
  asked-all [] w = tt
  asked-all (s ∷ l) w =
      let e = w zero (omega arith) in
      let i = (station_in s e).index in
      let p = small-both s e in
      let short = asked_request g j s.index s.short.condition in
      let long = asked_request g j s.index s.long.condition in
      let rest = asked-all l (λ k h. w (suc k) (omega arith)) in
      sendable_two short (long ++ asked_requests g j (messages_of l)) (asked-one s.index s.short.condition i p.0)
      (sendable_two long (asked_requests g j (messages_of l)) (asked-one s.index s.long.condition i p.1) rest)

-- ---- a row of the wire

-- the words and counts of a row's first minislots
cells_in64 : (l : List Minislot) → ((k : ℕ) → k < length l → Low (get_or l k silent)) → AllIn64 (cells l)
cells_in64 [] h = tt
cells_in64 (x ∷ l) h = let w = h zero (omega arith) in (omega (arith, w), (omega (arith, w), cells_in64 l (λ k q. h (suc k) (omega arith))))

cells-many : (l : List Minislot) → length (cells l) ≡ 2 * length l
cells-many [] = omega arith
cells-many (x ∷ l) = omega (arith, cells-many l)

module _ (stations : List Station) (wire : List WireRow) (sound : Sound stations wire) (g : ℕ) (gl : 1 ≤ g) (gh : g ≤ 8) where
  abbrev row : List Minislot
  row = (get_or wire (g - 1) blank_row).minislots

  row_low : (i : ℕ) → i < 8 → Low (get_or row i silent)
  unfolding asked_minislot
  row_low i h =
      let at : suc i - 1 ≡ i = omega arith in
      let asked : get_or row i silent ≡ asked_minislot stations g (suc i)
      = subst (λ (z : ℕ). get_or row z silent ≡ asked_minislot stations g (suc i)) at (sound.wire g (suc i) gl gh (omega arith) (omega arith)) in
      subst Low (sym asked)
      (together-low (asked_requests g (suc i) (messages_of stations)) (asked-all g (suc i) stations sound.within))

  pub wire-line : (k m : ℕ) → In64 k → m ≤ 8 → length (wire_line k m wire g) ≤ 401
  unfolding wire_line
  wire-line k m h w =
      let taken : length (take m row) ≡ m = length-take-le m row (omega (arith, sound.size.1 g gl gh)) in
      let low : AllIn64 (cells (take m row))
      = cells_in64 (take m row) (λ i q. subst Low (sym (get_or-take m row i silent (omega (arith, taken)))) (row_low i (omega (arith, taken)))) in
      let l = line-within (digits_of k ∷ wire_word ∷ digits_of g ∷ map digits_of (cells (take m row)))
      (number_short k h, (omega arith, (number_short g (omega arith), numbers-short (cells (take m row)) low))) in
      omega (arith, l, cells-many (take m row), taken, length-map (cells (take m row)) digits_of)
