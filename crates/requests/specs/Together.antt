-- Several senders in one minislot (paper: the OR of their words and the OR of their counts; none gives 0 and 0), and what is to be read of
-- them. Assumes nothing.
use Rattle.std.specs.Prelude.{◌≡◌, List, [], ◌∷◌, ℕ, zero, suc, ◌≤◌, ◌<◌, get_or, set}
use Rattle.std.specs.Int.Bits.{bit_or}
use Rattle.std.specs.Int.Count.{ones}
use Rattle.pattern.specs.Patterns.{word_of}
use Rattle.minislot.specs.declared.Minislot.{Minislot}
use Rattle.minislot.specs.declared.Feedback.{Feedback}
use Rattle.minislot.specs.declared.Feedback.TheVariants.{Empty, Single, Collide}

-- one sender's request: the index of its pattern, and its message's slot total
pub record Request : Type 0 where
  pub index : ℕ
  pub total : ℕ

-- what a request carries: the sender's word, and the total as the count
abbrev pub carries : Request → Minislot
carries r = record { word = word_of r.index; count = r.total }

abbrev pub silent : Minislot
silent = record { word = 0; count = 0 }

abbrev pub joined : Minislot → Minislot → Minislot
joined a b = record { word = bit_or a.word b.word; count = bit_or a.count b.count }

unfoldable pub together : List Minislot → Minislot
together [] = silent
together (a ∷ l) = joined a (together l)

-- a request joins its minislot of a row, counted from 1: what was there first, then the request; 0 for none, and a minislot beyond the row
-- changes nothing
abbrev pub placed : ℕ → Minislot → List Minislot → List Minislot
placed zero x l = l
placed (suc j) x l = set l j (joined (get_or l j silent) x)

-- who spoke alone, for how many slots; or that nobody did, or two or more
abbrev pub spoken : List Request → Feedback
spoken [] = Empty
spoken (r ∷ []) = Single r.index r.total
spoken (r ∷ s ∷ l) = Collide

-- requests that a minislot can get: patterns' indexes, no two of them equal, and totals of 1 or more
abbrev pub Apart : ℕ → List Request → Type 0
Apart i [] = Unit {0}
Apart i (r ∷ l) = (r.index ≡ i → ⊥) × Apart i l

abbrev pub Proper : List Request → Type 0
Proper [] = Unit {0}
Proper (r ∷ l) = (r.index < 924) × (1 ≤ r.total) × Apart r.index l × Proper l

-- minislots whose words are patterns, whoever sent them: each word has twelve digits, six of them ones
abbrev pub SixOnes : List Minislot → Type 0
SixOnes [] = Unit {0}
SixOnes (a ∷ l) = (a.word < 4096) × (ones a.word ≡ 6) × SixOnes l
