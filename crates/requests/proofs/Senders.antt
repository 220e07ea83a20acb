-- What senders leave together in a minislot is read as it should be: none as Empty, one as Single with its index and total, two or more
-- with different patterns as Collide, whatever their order; and any words of six ones that are not all equal as Collide, whoever sent them.
-- Nothing that senders leave is a click. Words and counts are ORed. By the laws of an OR's ones at twelve digits.
-- Assumes nothing.
use mathlib.Core.Path.{◌≡◌, ap, ◌∙◌, sym}
use mathlib.Core.List.{List, [], ◌∷◌, ◌++◌, map}
use Prim.Native.Nat.{ℕ, zero, suc, ◌≤◌, ◌<◌}
use native.Mathlib.Omega.{arith}
use lib.Bits.{bit_or, or_comm, or_zero_l, or_zero_r, or_lt, or_self}
use lib.Count.{ones, ones-le}
use lib.ListN.{length, get_or}
use borrow.Author.Tests.{ne_eqb}
use Rattle.pattern.specs.Patterns.{word_of}
use Rattle.pattern.proofs.Ones.{or-at-least_right, or-more, ones_of_zero, or_assoc}
use Rattle.pattern.proofs.Patterns.{pattern-below, pattern-ones, pattern-once, index_of-word}
use Rattle.minislot.specs.declared.Minislot.{Minislot}
use Rattle.minislot.specs.declared.Feedback.TheVariants.{Collide}
use Rattle.minislot.specs.declared.Reading.TheVariants.{Heard}
use Rattle.minislot.specs.Click.{Click}
use Rattle.minislot.specs.Reading.{reading_of}
use Rattle.requests.specs.Together.{Request, carries, silent, joined, together, spoken, Proper, SixOnes}
use Rattle.minislot.proofs.Readings.{reads-empty, reads-single, reads_collide}

-- ---- senders in any order

pub joined_comm : (a b : Minislot) → joined a b ≡ joined b a
joined_comm a b = rw (or_comm a.word b.word, or_comm a.count b.count)

pub joined_assoc : (a b c : Minislot) → joined (joined a b) c ≡ joined a (joined b c)
joined_assoc a b c = rw (or_assoc a.word b.word c.word, or_assoc a.count b.count c.count)

pub joined-silent : (a : Minislot) → joined silent a ≡ a
joined-silent a = rw (or_zero_l a.word, or_zero_l a.count)

pub together-append : (a b : List Minislot) → together (a ++ b) ≡ joined (together a) (together b)
unfolding together
together-append [] b = sym (joined-silent (together b))
together-append (x ∷ a) b = ap (joined x) (together-append a b) ∙ sym (joined_assoc x (together a) (together b))

-- ---- the words of senders

-- words of twelve digits together have twelve
below : (l : List Minislot) → SixOnes l → (together l).word < 4096
unfolding together
below [] p = omega arith
below (a ∷ l) p = or_lt 12 a.word (together l).word p.0 (below l p.2)

-- a word is in what it is sent together with: to OR it once more changes nothing
absorbed : (l : List Minislot) (i : ℕ) → i < length l → bit_or (together l).word (get_or l i silent).word ≡ (together l).word
unfolding together
absorbed [] i h = absurd (omega arith)
absorbed (a ∷ l) zero h =
    or_comm (bit_or a.word (together l).word) a.word ∙ sym (or_assoc a.word a.word (together l).word) ∙ rw (or_self a.word)
absorbed (a ∷ l) (suc i) h = or_assoc a.word (together l).word (get_or l i silent).word ∙ rw (absorbed l i (omega arith))

-- the word at a position is such a word
word_at : (l : List Minislot) → SixOnes l → (i : ℕ) → i < length l → SixOnes (get_or l i silent ∷ [])
word_at [] p i h = absurd (omega arith)
word_at (a ∷ l) p zero h = (p.0, p.1, tt)
word_at (a ∷ l) p (suc i) h = word_at l p.2 i (omega arith)

-- words of six ones that are not all equal, whoever sent them, have seven ones or more together
mixed_ones : (l : List Minislot) → SixOnes l → (i j : ℕ) → i < length l → j < length l
    → ((get_or l i silent).word ≡ (get_or l j silent).word → ⊥) → 6 < ones (together l).word
mixed_ones l p i j hi hj differ =
    let a = word_at l p i hi in
    let b = word_at l p j hj in
    let u = (get_or l i silent).word in
    let v = (get_or l j silent).word in
    let more = or-more 12 u v a.0 b.0 (a.1 ∙ sym b.1) differ in
    let least = or-at-least_right 12 (together l).word (bit_or u v) (or_lt 12 u v a.0 b.0) in
    let same : bit_or (together l).word (bit_or u v) ≡ (together l).word =
    sym (or_assoc (together l).word u v) ∙ rw (absorbed l i hi, absorbed l j hj) in
    omega (arith, more, least, ap ones same, a.1)

-- what requests carry has six ones
six-ones : (l : List Request) → Proper l → SixOnes (map carries l)
six-ones [] p = tt
six-ones (r ∷ l) p = (pattern-below r.index p.0, pattern-ones r.index p.0, six-ones l p.3)

-- and the first two of them differ
first_two : (r s : Request) (l : List Request) → Proper (r ∷ s ∷ l) → word_of r.index ≡ word_of s.index → ⊥
first_two r s l p e = p.2.0 (pattern-once s.index r.index p.3.0 p.0 (sym e))

-- two or more senders: seven to twelve ones
pub two-or-more : (r s : Request) (l : List Request) → Proper (r ∷ s ∷ l)
    → (7 ≤ ones (together (map carries (r ∷ s ∷ l))).word) × (ones (together (map carries (r ∷ s ∷ l))).word ≤ 12)
two-or-more r s l p = (
  mixed_ones (map carries (r ∷ s ∷ l)) (six-ones (r ∷ s ∷ l) p) 0 1 (omega arith) (omega arith) (first_two r s l p),
  ones-le 12 (together (map carries (r ∷ s ∷ l))).word (below (map carries (r ∷ s ∷ l)) (six-ones (r ∷ s ∷ l) p)),
)

-- NO CLICK: what senders leave together has no ones, six, or seven to twelve, never one to five
pub no_click : (l : List Request) → Proper l → Click (together (map carries l)).word → ⊥
unfolding together
no_click [] p k = omega (arith, ones_of_zero, k.some)
no_click (r ∷ []) p k =
    let one : ones (bit_or (word_of r.index) 0) ≡ 6 = rw (or_zero_r (word_of r.index)) (pattern-ones r.index p.0) in
    omega (arith, one, k.few)
no_click (r ∷ s ∷ l) p k = omega (arith, (two-or-more r s l p).0, k.few)

-- ---- what is read

-- two or more words of six ones each, not all equal, read as Collide whoever sent them, whatever their counts
pub mixed_reads : (l : List Minislot) → SixOnes l → (i j : ℕ) → i < length l → j < length l
    → ((get_or l i silent).word ≡ (get_or l j silent).word → ⊥) → reading_of (together l).word (together l).count ≡ Heard Collide
mixed_reads l p i j hi hj differ = reads_collide (together l).word (together l).count (below l p) (mixed_ones l p i j hi hj differ)

pub together-reads : (l : List Request) → Proper l
    → reading_of (together (map carries l)).word (together (map carries l)).count ≡ Heard (spoken l)
unfolding together
together-reads [] p = reads-empty 0 0 (omega arith) ones_of_zero
together-reads (r ∷ []) p =
    rw (or_zero_r (word_of r.index), or_zero_r r.total)
    (reads-single (word_of r.index) r.total (pattern-below r.index p.0) (pattern-ones r.index p.0)
    ∙ rw (ne_eqb r.total 0 (λ e. omega (arith, p.1)), index_of-word r.index p.0))
together-reads (r ∷ s ∷ l) p =
    mixed_reads (map carries (r ∷ s ∷ l)) (six-ones (r ∷ s ∷ l) p) 0 1 (omega arith) (omega arith) (first_two r s l p)
