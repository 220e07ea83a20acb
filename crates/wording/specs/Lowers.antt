-- A pattern's two halves of six digits, from its index: the upper half is the last with no more patterns before it than the index; and of
-- the lower halves that go with it, which have as many ones as it lacks of six, the one whose rank is what remains.
-- Assumes nothing.
use Rattle.std.specs.Prelude.{List, map, ℕ, ◌+◌, ◌-◌, eqb, leb, ltb, length, get_or}
use Rattle.std.specs.Int.Count.{ones, ones_in}
use Rattle.std.specs.List.{flat_map}
use Rattle.listlaws.specs.Lists.{count_of}
use Rattle.pattern.specs.Patterns.{those}
use Rattle.indexing.specs.Halves.{numbers}

-- how many upper halves have no more patterns before them than an index
unfoldable pub reached_of : List ℕ → ℕ → ℕ
reached_of before index = count_of (λ b. leb b index) before

-- the numbers of six digits, by how many ones they have, then rising
unfoldable pub lowers : List ℕ
unfolding numbers those ones_in
lowers = flat_map (λ n. those (λ x. eqb (ones_in 6 x) n) 0 64) (numbers 0 7)

-- where those begin among them that go with an upper half of 0 to 6 ones: the numbers with fewer ones come first
unfoldable pub firsts : List ℕ
unfolding numbers those ones_in
firsts = map (λ n. length (those (λ x. ltb (ones_in 6 x) (6 - n)) 0 64)) (numbers 0 7)

-- the place among them of a rank
unfoldable pub place_of_lower : ℕ → ℕ → ℕ
place_of_lower upper rank = get_or firsts (ones upper) 0 + rank
