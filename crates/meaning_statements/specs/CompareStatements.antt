-- 02 (j): "Two alternatives with entry conditions whose sets meet clash exactly if some whole-number values in range meet all entry conditions of
-- both; the check finds such values or shows that the differences close a cycle with a negative sum, bounds counted in." "No table that was accepted
-- becomes refused."
use Rattle.std.specs.Prelude.{ℕ, ◌-◌, ◌≡◌, ◌↔◌, not, List, ◌++◌, get_or, length, T, ℤ, pos, neg_ℤ, ◌+ℤ◌, ◌<ℤ◌}
use Rattle.std.proofs.Math.Option.{Option}
use Rattle.meaning.specs.Base.{In, all}
use Rattle.meaning.specs.Grammar.{Look, nonterminal, Condition, range, atmost, Grammar, production_at, inh}
use Rattle.meaning.specs.Rules.{WellFormed}
use Rattle.meaning.specs.Value.{in_range, added, holds}
use Rattle.meaning.specs.Derivation.{Listed, Starts, entry_conditional}
use Rattle.meaning.specs.Differences.{bound, solvable}
use Rattle.meaning.specs.Decide.{is_range, pairwise, satisfiable, clash, entry_conditions}

-- ---- "some whole-number values in range meet all entry conditions". Attributes are read by their selectors, from 1 on

abbrev pub value_in : List ℤ → ℕ → ℤ
value_in vs a = get_or vs (a - 1) (pos 0)

pub record Meets (n : ℕ) (cs : List (Condition ℕ)) (values : List ℤ) : Type 0 where
  pub size : length values ≡ n
  pub ranged : T (all in_range values)
  pub each : T (all (holds (value_in values)) cs)

pub record Satisfiable (n : ℕ) (cs : List (Condition ℕ)) : Type 0 where
  pub values : List ℤ
  pub meets : Meets n cs values

-- ---- "the differences close a cycle with a negative sum, bounds counted in". Node 0 is zero, node a the attribute a

-- from i to j with the length w: i's value is at most j's plus w. The first two are the limits of values, the next two the bounds of a range
pub data Edge (n : ℕ) (cs : List (Condition ℕ)) : ℕ → ℕ → ℤ → Type 0 where
  highest_edge : (i : ℕ) → Edge n cs i 0 (bound n i)
  lowest_edge : (i : ℕ) → Edge n cs 0 i (bound n i)
  high_edge : (a : ℕ) (l h : ℤ) → In (range a l h) cs → Edge n cs a 0 h
  low_edge : (a : ℕ) (l h : ℤ) → In (range a l h) cs → Edge n cs 0 a (neg_ℤ l)
  atmost_edge : (a b : ℕ) (c : Option ℤ) → In (atmost a b c) cs → Edge n cs a b (added c)

-- edges one after another, and the sum of their lengths
pub data Walk (n : ℕ) (cs : List (Condition ℕ)) : ℕ → ℕ → ℤ → Type 0 where
  step : {i j : ℕ} {w : ℤ} → Edge n cs i j w → Walk n cs i j w
  join : {i k j : ℕ} {x y : ℤ} → Walk n cs i k x → Walk n cs k j y → Walk n cs i j (x +ℤ y)

pub record NegativeCycle (n : ℕ) (cs : List (Condition ℕ)) : Type 0 where
  pub node : ℕ
  pub sum : ℤ
  pub walk : Walk n cs node node sum
  pub negative : sum <ℤ pos 0

-- ---- two alternatives

pub record Alternatives (g : Grammar) (p q : ℕ) : Type 0 where
  pub well_formed : WellFormed g
  pub first : Listed g p
  pub second : Listed g q
  pub left : (production_at g p).left ≡ (production_at g q).left

abbrev pub attributes : Grammar → ℕ → ℕ
attributes g p = inh g (nonterminal (production_at g p).left)

-- all entry conditions of both
abbrev pub of_both : Grammar → ℕ → ℕ → List (Condition ℕ)
of_both g p q = entry_conditions (production_at g p) ++ entry_conditions (production_at g q)

-- ---- what is promised

-- the test of number 13
abbrev pub ClashExactly : Type 0
ClashExactly =
    (g : Grammar) (p q : ℕ) → Alternatives g p q → T (entry_conditional g p) → T (entry_conditional g q) → (l : Look) → Starts g p l → Starts g q l
    → T (clash g (production_at g p) (production_at g q)) ↔ Satisfiable (attributes g p) (of_both g p q)

-- what it finds, and what it shows where it finds none; never both
pub record ValuesOrCycleAt (g : Grammar) (p q : ℕ) : Type 0 where
  pub found : T (satisfiable (attributes g p) (of_both g p q)) → Satisfiable (attributes g p) (of_both g p q)
  pub shown : T (not (satisfiable (attributes g p) (of_both g p q))) → NegativeCycle (attributes g p) (of_both g p q)
  pub apart : Satisfiable (attributes g p) (of_both g p q) → NegativeCycle (attributes g p) (of_both g p q) → ⊥

abbrev pub ValuesOrCycle : Type 0
ValuesOrCycle = (g : Grammar) (p q : ℕ) → Alternatives g p q → ValuesOrCycleAt g p q

-- where all entry conditions are ranges, as in every table accepted before, the test by cycles and that by intervals agree
abbrev pub RangesAgree : Type 0
RangesAgree = (g : Grammar) (p q : ℕ) → Alternatives g p q → T (all is_range (of_both g p q)) → T (pairwise (of_both g p q)) ↔ T (solvable (attributes g p) (of_both g p q))
