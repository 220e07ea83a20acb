-- The edges that the paper marks P, where its line is general: the same for any word and count, any length, any group, any numbers of
-- minislots and groups, any index; and when success is immediate, for any row (paper 02, T-05). A field of `Edges`. Assumes nothing.
use Rattle.std.specs.Prelude.{◌≡◌, Bool, true, false, ◌&&◌, List, [], ◌∷◌, ◌++◌, ◌⊎◌, ℕ, ◌+◌, ◌*◌, ◌≤◌, ◌<◌, length, replicate}
use Rattle.std.specs.Int.Count.{ones}
use Rattle.pattern.specs.Patterns.{word_of}
use Rattle.minislot.specs.declared.Feedback.{Feedback}
use Rattle.minislot.specs.declared.Feedback.TheVariants.{Empty, Single, Collide}
use Rattle.minislot.specs.declared.Reading.TheVariants.{Heard, Refused}
use Rattle.minislot.specs.Reading.{reading_of}
use Rattle.minislot.specs.Click.{Click}
use Rattle.message.specs.declared.SlotTotal.TheVariants.{Slots, Refused as RefusedMessage}
use Rattle.message.specs.Message.{slot_total_of}
use Rattle.rules.specs.declared.Counters.{Counters}
use Rattle.rules.specs.declared.Places.{Places}
use Rattle.rules.specs.declared.ListenAnswer.{ListenAnswer}
use Rattle.rules.specs.declared.ListenAnswer.TheVariants.{Went, Refused as RefusedRow}
use Rattle.rules.specs.Limits.{within_limits}
use Rattle.rules.specs.RowCounts.{short_singles, long_slots, collides}
use Rattle.rules.specs.Queueing.{immediate_of, opened_of, places_after}
use Rattle.rules.specs.declared.Turn.TheVariants.{Resolve as ResolveTurn}
use Rattle.rules.specs.Listening.{listen_of}
use Rattle.edges.specs.Changes.{resolution_of}

-- lengths after step 1
abbrev pub places : ℕ → ℕ → ℕ → Places
places h n r = record { urgent = h; long = n; resolution = r }

-- a row that is Empty but for one minislot, x minislots before it and y after it; and but for two, in this order
abbrev pub one_heard : ℕ → Feedback → ℕ → List Feedback
one_heard x f y = replicate x Empty ++ (f ∷ replicate y Empty)

abbrev pub two_heard : ℕ → Feedback → ℕ → Feedback → ℕ → List Feedback
two_heard x f y g z = replicate x Empty ++ (f ∷ one_heard y g z)

-- the counters after some slots, by their rows
abbrev pub after_rows : Counters → List (List Feedback) → Counters
after_rows c [] = c
after_rows c (row ∷ rows) = after_rows (listen_of c row).counters rows

-- every one of them goes through
abbrev pub goes_through : ListenAnswer → Bool
goes_through (Went turn) = true
goes_through (RefusedRow n) = false

abbrev pub all_go_through : Counters → List (List Feedback) → Bool
all_go_through c [] = true
all_go_through c (row ∷ rows) = goes_through (listen_of c row).answer && all_go_through (listen_of c row).counters rows

-- a slot of the next group that is a resolve turn, then one slot of each other group, any rows that go through
pub record ResolveRound (c : Counters) (row : List Feedback) (others : List (List Feedback)) : Type 0 where
  pub within : within_limits c ≡ true
  pub resolve : (listen_of c row).answer ≡ Went ResolveTurn
  pub all : length (row ∷ others) ≡ c.groups
  pub through : all_go_through (listen_of c row).counters others ≡ true

-- a row's newcomer joins the urgent queue: no immediate success, and H grows by 1
pub record JoinsUrgent (c : Counters) (row : List Feedback) : Type 0 where
  pub no_success : immediate_of c row ≡ false
  pub urgent : places_after c row ≡ places (c.urgent + 1) c.long (resolution_of c c.next)

pub record EdgesAny : Type 0 where
  -- a one above bit 11: 1. One to five ones, a click: Collide. Seven or more: Collide. Whatever the count
  pub above_bit_11 : (word count : ℕ) → 4096 ≤ word → reading_of word count ≡ Refused 1
  pub click : (word count : ℕ) → Click word → reading_of word count ≡ Heard Collide
  pub seven_or-more : (word count : ℕ) → word < 4096 → 7 ≤ ones word → reading_of word count ≡ Heard Collide
  -- each pattern's word: Single with its index and the count, 3 with count 0
  pub pattern : (i count : ℕ) → i < 924 → 1 ≤ count → reading_of (word_of i) count ≡ Heard (Single i count)
  pub pattern_0 : (i : ℕ) → i < 924 → reading_of (word_of i) 0 ≡ Refused 3
  -- word 0: Empty, 4 with a count above 0
  pub word_0_0 : reading_of 0 0 ≡ Heard Empty
  pub word_0 : (count : ℕ) → 1 ≤ count → reading_of 0 count ≡ Refused 4
  -- 48 bytes to each slot: k slots. One byte more: k + 1. No bytes, or more than 12,240: 10
  pub full-slots : (k : ℕ) → 1 ≤ k → k ≤ 255 → slot_total_of (48 * k) ≡ Slots k
  pub one-byte-more : (k : ℕ) → k < 255 → slot_total_of (48 * k + 1) ≡ Slots (k + 1)
  pub no_bytes : slot_total_of 0 ≡ RefusedMessage 10
  pub too_many_bytes : (bytes : ℕ) → 12240 < bytes → slot_total_of bytes ≡ RefusedMessage 10
  -- one Single of 1 and one Collide, in any two minislots and either order: H and RQ grow by 1 in step 1, in an open slot as in any other
  pub single-and_collide : (c : Counters) (i x y z : ℕ)
      → places_after c (two_heard x (Single i 1) y Collide z) ≡ places (c.urgent + 1) c.long (resolution_of c c.next + 1)
  pub collide_and-single : (c : Counters) (i x y z : ℕ)
      → places_after c (two_heard x Collide y (Single i 1) z) ≡ places (c.urgent + 1) c.long (resolution_of c c.next + 1)
  -- one Single of 1 among Singles of more, however many, and no Collide, after an open slot (paper 02, T-05): the one is immediate
  -- success, and the others' slots join the long queue
  pub short-among-long : (c : Counters) (row : List Feedback) → opened_of c ≡ true → collides row ≡ 0 → short_singles row ≡ 1
      → (immediate_of c row ≡ true) × (places_after c row ≡ places c.urgent (c.long + long_slots row) (resolution_of c c.next))
  -- two Singles of 1 or more, or a Collide, or no open slot: no immediate success, and each Single of 1 joins the urgent queue
  pub no_success : (c : Counters) (row : List Feedback) → (opened_of c ≡ false) ⊎ (1 ≤ collides row) ⊎ (2 ≤ short_singles row)
      → (immediate_of c row ≡ false) × ((places_after c row).urgent ≡ c.urgent + short_singles row)
  -- resolve slot, then a lone Single of 1: once the other groups have had their slots the group is next again, and a lone Single of 1 in
  -- any minislot of its row is no immediate success: H grows by 1
  pub resolve_then_single : (c : Counters) (row : List Feedback) (others : List (List Feedback)) → ResolveRound c row others
      → ((after_rows c (row ∷ others)).next ≡ c.next)
      × ((i x y : ℕ) → JoinsUrgent (after_rows c (row ∷ others)) (one_heard x (Single i 1) y))
