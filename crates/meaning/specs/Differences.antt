-- Whether some values in range meet a list of conditions, computed. 02 (j): "the check finds such values or shows that the differences close a cycle with a negative sum, bounds counted in".
-- Node 0 stands for zero, node a for the attribute a (1 to 8). An entry w in row i and column j says: i is at most j plus w. (That this decides it is proved in theory_differences)
use Rattle.std.specs.Prelude.{ℕ, zero, suc, ◌+◌, ◌*◌, ◌/◌, ◌%◌, Bool, cond, List, [], ◌∷◌, map, get_or, set, ltb, ℤ, pos, neg_ℤ, ◌+ℤ◌}
use Rattle.std.specs.Int.Signed.{le_z, lt_z}
use Rattle.meaning.specs.Limits.{attributes_limit}
use Rattle.meaning.specs.Base.{all, count_from}
use Rattle.meaning.specs.Grammar.{Condition, range, atmost}
use Rattle.meaning.specs.Value.{highest, added}

-- no value of a node is further from zero: 0 for node 0 and for an attribute that is not there. (The limits of values are as far from 0 on both sides)
unfoldable pub bound : ℕ → ℕ → ℤ
bound n zero = pos 0
bound n (suc a) = cond (ltb a n) highest (pos 0)

-- ---- the matrix of a list of conditions on n attributes

abbrev pub at : List ℤ → ℕ → ℕ → ℤ
at m i j = get_or m (i * 9 + j) (pos 0)

abbrev pub put : List ℤ → ℕ → ℕ → ℤ → List ℤ
put m i j x = set m (i * 9 + j) x

-- the second only if it is lower
unfoldable pub lesser : ℤ → ℤ → ℤ
lesser a b = cond (lt_z b a) b a

abbrev pub lowered : List ℤ → ℕ → ℕ → ℤ → List ℤ
lowered m i j w = put m i j (lesser (at m i j) w)

abbrev pub constrained : Condition ℕ → List ℤ → List ℤ
constrained (range a l h) m = lowered (lowered m a 0 h) 0 a (neg_ℤ l)
constrained (atmost a b c) m = lowered m a b (added c)

-- without a condition: from i to zero, and from there to j
abbrev pub matrix_of : ℕ → List (Condition ℕ) → List ℤ
matrix_of n [] = map (λ t. bound n (t / 9) +ℤ bound n (t % 9)) (count_from 0 81)
matrix_of n (c ∷ cs) = constrained c (matrix_of n cs)

-- ---- nodes 8 to 1 eliminated: what two entries by way of k say stands as an entry

abbrev pub shorter : List ℤ → ℕ → ℕ → ℕ → ℤ
shorter m k i j = lesser (at m i j) (at m i k +ℤ at m k j)

-- in row i the first j entries, then the first i rows
abbrev pub row_relaxed : List ℤ → ℕ → ℕ → ℕ → List ℤ
row_relaxed m k i zero = m
row_relaxed m k i (suc j) = put (row_relaxed m k i j) i j (shorter (row_relaxed m k i j) k i j)

abbrev pub relaxed : List ℤ → ℕ → ℕ → List ℤ
relaxed m k zero = m
relaxed m k (suc i) = row_relaxed (relaxed m k i) k i k

abbrev pub eliminated : List ℤ → ℕ → List ℤ
eliminated m k = relaxed m k k

abbrev pub closing : List ℤ → ℕ → List ℤ
closing m zero = m
closing m (suc k) = closing (eliminated m (suc k)) k

unfoldable pub closed : List ℤ → List ℤ
closed m = closing m attributes_limit

-- a negative entry on the diagonal is a cycle with a negative sum
abbrev pub none_negative : List ℤ → Bool
none_negative m = all (λ k. le_z (pos 0) (at m k k)) (count_from 0 9)

abbrev pub solvable : ℕ → List (Condition ℕ) → Bool
solvable n cs = none_negative (closed (matrix_of n cs))
