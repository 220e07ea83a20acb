-- The edges that the paper marks P, as one list: a line of the paper to a field, and each line that is general in its general form too;
-- the five rows end as paper 02, T-05 has them.
-- `edges` of proofs/EdgesHold.antt proves them. Assumes nothing.
use Rattle.std.specs.Prelude.{◌≡◌, List, [], ◌∷◌, ℕ, ◌-◌, get_or}
use Rattle.minislot.specs.declared.Feedback.TheVariants.{Empty, Single, Collide}
use Rattle.minislot.specs.declared.Reading.TheVariants.{Heard, Refused}
use Rattle.minislot.specs.Reading.{reading_of}
use Rattle.message.specs.declared.SlotTotal.TheVariants.{Slots, Refused as RefusedMessage}
use Rattle.message.specs.Message.{slot_total_of}
use Rattle.rules.specs.declared.Counters.{Counters}
use Rattle.rules.specs.declared.Listened.{Listened}
use Rattle.rules.specs.declared.ListenAnswer.{ListenAnswer}
use Rattle.rules.specs.declared.ListenAnswer.TheVariants.{Went}
use Rattle.rules.specs.Starting.{start_counters}
use Rattle.rules.specs.Queueing.{places_after}
use Rattle.rules.specs.declared.Turn.TheVariants.{Urgent as UrgentTurn, Long as LongTurn, Resolve as ResolveTurn, Open as OpenTurn}
use Rattle.rules.specs.Listening.{listening_of, listen_of}
use Rattle.edges.specs.EdgesAny.{places, EdgesAny}

-- a row as it is heard, and what `follow` prints of a slot: the answer, then H, N and RQ of that group after step 5
pub record Words : Type 0 where
  pub words : List ℕ
  pub counts : List ℕ

pub record Line : Type 0 where
  pub answer : ListenAnswer
  pub urgent : ℕ
  pub long : ℕ
  pub resolution : ℕ

abbrev pub line_of : ℕ → Listened → Line
line_of group r =
    record {
      answer = r.answer;
      urgent = r.counters.urgent;
      long = r.counters.long;
      resolution = get_or r.counters.resolution (group - 1) 0;
    }

abbrev pub lines_of : Counters → List Words → List Line
lines_of c [] = []
lines_of c (row ∷ rows) =
    line_of c.next (listening_of c row.words row.counts) ∷ lines_of (listening_of c row.words row.counts).counters rows

abbrev pub two : ℕ → ℕ → ℕ → ℕ → Words
two w c v d = record { words = w ∷ v ∷ []; counts = c ∷ d ∷ [] }

abbrev pub line : ListenAnswer → ℕ → ℕ → ℕ → Line
line a h n r = record { answer = a; urgent = h; long = n; resolution = r }

pub record Edges : Type 0 where
  -- word 62 count 1: Collide (paper 02, T-01), and so are other clicks, whatever their count. 63, 1: Single, index 0. 127, 9: Collide.
  -- 4032, 255: Single, index 923. 4096: 1. 63, 0: 3. 0, 1: 4.
  pub word_62_1 : reading_of 62 1 ≡ Heard Collide
  pub word_62_0 : reading_of 62 0 ≡ Heard Collide
  pub word_1_0 : reading_of 1 0 ≡ Heard Collide
  pub word_31_255 : reading_of 31 255 ≡ Heard Collide
  pub word_63_1 : reading_of 63 1 ≡ Heard (Single 0 1)
  pub word_127_9 : reading_of 127 9 ≡ Heard Collide
  pub word_4032_255 : reading_of 4032 255 ≡ Heard (Single 923 255)
  pub word_4096 : (count : ℕ) → reading_of 4096 count ≡ Refused 1
  pub word_63_0 : reading_of 63 0 ≡ Refused 3
  pub word_0_1 : reading_of 0 1 ≡ Refused 4
  -- 48 bytes: 1 slot. 49: 2. 12,240: 255; 12,241: 10.
  pub bytes_48 : slot_total_of 48 ≡ Slots 1
  pub bytes_49 : slot_total_of 49 ≡ Slots 2
  pub bytes_12240 : slot_total_of 12240 ≡ Slots 255
  pub bytes_12241 : slot_total_of 12241 ≡ RefusedMessage 10
  -- the five rows of the example, from the start with m = 2 and n = 1
  pub five_rows :
      lines_of (start_counters 2 1) (two 0 0 0 0 ∷ two 63 1 95 3 ∷ two 127 3 0 0 ∷ two 111 1 119 2 ∷ two 0 0 0 0 ∷ [])
      ≡ line (Went OpenTurn) 0 0 0 ∷ line (Went LongTurn) 0 2 0 ∷ line (Went LongTurn) 0 1 0 ∷ line (Went UrgentTurn) 0 3 0
      ∷ line (Went LongTurn) 0 2 0 ∷ []
  -- open slot, one Single of 1 and one Collide: H 1, RQ 1 after step 1, in either order
  pub single-and_collide : places_after (start_counters 2 1) (Single 0 1 ∷ Collide ∷ []) ≡ places 1 0 1
  pub collide_and-single : places_after (start_counters 2 1) (Collide ∷ Single 0 1 ∷ []) ≡ places 1 0 1
  -- resolve slot, then a lone Single of 1: H 1, no immediate success
  pub resolve-slot : (listen_of (start_counters 2 1) (Collide ∷ Empty ∷ [])).answer ≡ Went ResolveTurn
  pub then_a-single :
      places_after (listen_of (start_counters 2 1) (Collide ∷ Empty ∷ [])).counters (Single 0 1 ∷ Empty ∷ []) ≡ places 1 0 0
  -- the same for any word, count, length, group, index and minislot
  pub any : EdgesAny
