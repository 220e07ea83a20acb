-- What a station must hear of itself (paper 01, "The box": "An asked box, when its group returns, must hear in its minislot a Single of its
-- own index and total, or a Collide containing all its ones. A box must hear its own index as Single nowhere else"; refusal 12; paper 02,
-- T-04). Assumes nothing.
use Rattle.std.specs.Prelude.{Bool, true, false, not, ◌&&◌, cond, List, [], ◌∷◌, ℕ, suc, eqb}
use Rattle.pattern.specs.Ones.{contains_ones}
use Rattle.pattern.specs.Patterns.{word_of}
use Rattle.minislot.specs.declared.Feedback.{Feedback}
use Rattle.minislot.specs.declared.Feedback.TheVariants.{Empty, Single, Collide}
use Rattle.rules.specs.declared.Station.{Station}
use Rattle.rules.specs.StationLimits.{Condition, Free, Held, Fresh, Asked, Resolving, Urgent, Long}

-- the minislot where a message makes its station listen for itself in group g (0 for none), and its total
abbrev pub own_minislot : ℕ → Condition → ℕ
own_minislot g Free = 0
own_minislot g (Held t) = 0
own_minislot g (Fresh t) = 0
own_minislot g (Asked h j t) = cond (eqb h g) j 0
own_minislot g (Resolving h i t) = 0
own_minislot g (Urgent i) = 0
own_minislot g (Long f l t) = 0

abbrev pub own_total : Condition → ℕ
own_total Free = 0
own_total (Held t) = 0
own_total (Fresh t) = 0
own_total (Asked h j t) = t
own_total (Resolving h i t) = 0
own_total (Urgent i) = 0
own_total (Long f l t) = 0

-- in its own minislot: a Single of its own index and total, or a Collide whose word contains all its ones
abbrev pub hears_here : ℕ → ℕ → ℕ → Feedback → Bool
hears_here index total word Empty = false
hears_here index total word (Single i c) = eqb i index && eqb c total
hears_here index total word Collide = contains_ones word (word_of index)

-- elsewhere: its own index as Single nowhere
abbrev pub hears_elsewhere : ℕ → Feedback → Bool
hears_elsewhere index Empty = true
hears_elsewhere index (Single i c) = not (eqb i index)
hears_elsewhere index Collide = true

-- minislot j of the row, whose own is minislot own
abbrev pub hears_at : ℕ → ℕ → ℕ → ℕ → ℕ → Feedback → Bool
hears_at index own total j word f = cond (eqb j own) (hears_here index total word f) (hears_elsewhere index f)

-- every minislot, the first of the lists being minislot j
abbrev pub hears_from : ℕ → ℕ → ℕ → ℕ → List ℕ → List Feedback → Bool
hears_from index own total j words [] = true
hears_from index own total j [] (f ∷ row) = true
hears_from index own total j (w ∷ words) (f ∷ row) = hears_at index own total j w f && hears_from index own total (suc j) words row

-- the record that is asked in group g, the short one or else the long one: within limits at most one is
abbrev pub listens : ℕ → Station → Condition
listens g s = cond (eqb (own_minislot g s.short.condition) 0) s.long.condition s.short.condition

-- a station that listens for this message of its own, in a slot of group g: its words and what they read as
abbrev pub hears_of : ℕ → ℕ → Condition → List ℕ → List Feedback → Bool
hears_of g index k words row = hears_from index (own_minislot g k) (own_total k) 1 words row

-- a station's own hearing of a row
unfoldable pub hears_itself : Station → List ℕ → List Feedback → Bool
hears_itself s words row = hears_of s.counters.next s.index (listens s.counters.next s) words row
