-- 02 (j): conditions that compare, as bytes, as entry conditions, in the clash test, in the listing and the program, and in a run.
use Rattle.std.specs.Prelude.{ℕ, ◌≡◌, refl, true, false, List, [], ◌∷◌, ◌++◌, map, replicate, ℤ, pos, negsuc}
use Rattle.std.proofs.Common.{inl, inr}
use Rattle.std.proofs.Math.Option.{none, some}
use Rattle.std.specs.Int.Signed.{lt_z_yes}
use Rattle.meaning.specs.Grammar.{Condition, Occurrence, const, copy, range, atmost, Grammar, terminal, nonterminal, condition_position}
use Rattle.meaning.specs.Layout.{field, condition_bytes}
use Rattle.meaning.specs.Judgement.{accepted, rejected}
use Rattle.meaning.specs.Differences.{lesser, bound, closed, solvable}
use Rattle.meaning.specs.Decide.{satisfiable}
use Rattle.meaning_statements.specs.CompareStatements.{Satisfiable, NegativeCycle, high_edge, low_edge, atmost_edge, step, join}
use Rattle.meaning.specs.Table.{condition_of}
use Rattle.meaning.specs.Machine.{Settled, stopped, failed, opening, feed_all, finish_all}
use Rattle.meaning.specs.Program.{condition_words}
use Rattle.meaning.specs.Listing.{condition_text}
use Rattle.meaning.specs.Examples.ListingRows.{codes}
use Rattle.meaning.specs.Examples.WordsAndTags.{occ, rule, lent, plain}
use Rattle.meaning.specs.Examples.Samples.{hand_down, hand_up, in_first}
use Rattle.meaning.specs.Examples.SetRows.{low_high, entries}
use Rattle.meaning_statements.specs.CompareStatementRows.{far}

-- ---- as bytes

-- nine of them; an occurrence that is unknown is a 5, an output a 7
kind_2_length : map (λ k. in_first (field 5 (2 ∷ 9 ∷ 9 ∷ replicate k 1))) (5 ∷ 6 ∷ 7 ∷ []) ≡ rejected 4 23 ∷ rejected 5 23 ∷ rejected 4 23 ∷ []
kind_2_length = refl

kind_2_unknown : map (λ o. in_first (field 5 (2 ∷ o ++ replicate 4 0))) ((9 ∷ 9 ∷ 1 ∷ 2 ∷ []) ∷ (1 ∷ 2 ∷ 9 ∷ 9 ∷ []) ∷ []) ≡ replicate 2 (rejected 5 23)
kind_2_unknown = refl

kind_2_output : map (λ o. in_first (field 5 (2 ∷ o ++ replicate 4 0))) ((1 ∷ 1 ∷ 1 ∷ 2 ∷ []) ∷ (1 ∷ 2 ∷ 1 ∷ 1 ∷ []) ∷ (0 ∷ 1 ∷ 1 ∷ 2 ∷ []) ∷ []) ≡ replicate 3 (rejected 7 23)
kind_2_output = refl

-- fine, so A lacks a production
kind_2_read : in_first (hand_down ++ (hand_up ++ field 5 (2 ∷ 1 ∷ 2 ∷ 1 ∷ 2 ∷ 255 ∷ 255 ∷ 255 ∷ 253 ∷ []))) ≡ rejected 11 7
kind_2_read = refl

abbrev below : Condition Occurrence
below = atmost (occ 3 1) (occ 0 2) (some (negsuc 2))

kind_2_bytes : condition_bytes below ≡ 2 ∷ 3 ∷ 1 ∷ 0 ∷ 2 ∷ 255 ∷ 255 ∷ 255 ∷ 253 ∷ []
kind_2_bytes = refl

kind_2_back : condition_of (condition_bytes below) ≡ below
kind_2_back = refl

-- a constant of 0 is not the same as none
kind_2_of_0 : map condition_of ((1 ∷ 0 ∷ 1 ∷ 0 ∷ 2 ∷ []) ∷ (2 ∷ 0 ∷ 1 ∷ 0 ∷ 2 ∷ 0 ∷ 0 ∷ 0 ∷ 0 ∷ []) ∷ []) ≡ atmost (occ 0 1) (occ 0 2) none ∷ atmost (occ 0 1) (occ 0 2) (some (pos 0)) ∷ []
kind_2_of_0 = refl

highest_position : map condition_position (below ∷ atmost (occ 0 2) (occ 3 1) (some (pos 1)) ∷ atmost (occ 0 1) (occ 0 2) none ∷ []) ≡ 3 ∷ 3 ∷ 0 ∷ []
highest_position = refl

-- ---- the clash test. d and e are the inherited attributes 1 and 2 of the left side

abbrev cmp : ℕ → ℕ → List ℕ
cmp a b = field 5 (1 ∷ 0 ∷ a ∷ 0 ∷ b ∷ [])

abbrev plus : ℕ → ℕ → ℕ → List ℕ
plus a b c = field 5 (2 ∷ 0 ∷ a ∷ 0 ∷ b ∷ 0 ∷ 0 ∷ 0 ∷ c ∷ [])

abbrev less : ℕ → ℕ → ℕ → List ℕ
less a b c = field 5 (2 ∷ 0 ∷ a ∷ 0 ∷ b ∷ 255 ∷ 255 ∷ 255 ∷ c ∷ [])

-- depth exceeds allowance, or does not
exceeds_or_not : entries (cmp 1 2) (less 2 1 255) ≡ accepted
unfolding lesser bound closed
exceeds_or_not = refl

-- a cycle with the sum 0 is none that is negative: d is e
sum_zero : entries (cmp 1 2) (cmp 2 1) ≡ rejected 13 75
unfolding lesser bound closed
sum_zero = refl

sum_zero_by_constants : entries (plus 1 2 5) (less 2 1 251) ≡ rejected 13 79
unfolding lesser bound closed
sum_zero_by_constants = refl

sum_below_zero : entries (plus 1 2 5) (less 2 1 250) ≡ accepted
unfolding lesser bound closed
sum_below_zero = refl

-- bounds counted in: d from 5 on and d at most e + 1, with e up to 3 or up to 4
bounds_close : entries (low_high 0 1 5 9) (low_high 0 2 0 3 ++ plus 1 2 1) ≡ accepted
unfolding lesser bound closed
bounds_close = refl

bounds_leave : entries (low_high 0 1 5 9) (low_high 0 2 0 4 ++ plus 1 2 1) ≡ rejected 13 81
unfolding lesser bound closed
bounds_leave = refl

-- two comparisons of one production shut it
never_entered : entries (less 1 2 255 ++ cmp 2 1) (low_high 0 1 0 9) ≡ accepted
unfolding lesser bound closed
never_entered = refl

-- an attribute compared with itself
itself : map (λ c. entries (low_high 0 2 0 9) c) (cmp 1 1 ∷ less 1 1 255 ∷ []) ≡ rejected 13 81 ∷ accepted ∷ []
unfolding lesser bound closed
itself = refl

-- the limits of values close a cycle too: only constants past four bytes reach them
limits_close : map (solvable 2) ((atmost 1 2 (some (negsuc 1999999999999)) ∷ []) ∷ (atmost 1 2 (some (negsuc 2000000000000)) ∷ []) ∷ []) ≡ true ∷ false ∷ []
unfolding lesser bound closed
limits_close = refl

-- three in a ring
ring : map (λ c. satisfiable 3 (atmost 1 2 none ∷ atmost 2 3 (some (negsuc 4)) ∷ atmost 3 1 (some c) ∷ [])) (pos 5 ∷ pos 4 ∷ []) ≡ true ∷ false ∷ []
unfolding lesser bound closed
ring = refl

-- where all are ranges, the graph gives what the intervals give
ranges_agree : map (λ cs. solvable 2 cs) ((range 1 (pos 0) (pos 4) ∷ range 1 (pos 5) (pos 9) ∷ []) ∷ (range 1 (pos 0) (pos 5) ∷ range 1 (pos 5) (pos 9) ∷ []) ∷ (range 1 (pos 0) (pos 4) ∷ range 2 (pos 5) (pos 9) ∷ []) ∷ []) ≡ false ∷ true ∷ true ∷ []
unfolding lesser bound closed
ranges_agree = refl

-- ---- values that meet conditions, and cycles with a negative sum

abbrev up_to : ℕ → List (Condition ℕ)
up_to h = range 1 (pos 5) (pos 9) ∷ range 2 (pos 0) (pos h) ∷ atmost 1 2 (some (pos 1)) ∷ []

values_met : Satisfiable 2 (up_to 4)
values_met = record { values = pos 5 ∷ pos 4 ∷ []; meets = record { size = refl; ranged = tt; each = tt } }

-- d at most e plus 1, e at most zero plus 3, zero at most d less 5
cycle_of_bounds : NegativeCycle 2 (up_to 3)
cycle_of_bounds = record {
  node = 1;
  sum = negsuc 0;
  walk = join (step (atmost_edge 1 2 (some (pos 1)) (inr (inr (inl refl))))) (join (step (high_edge 2 (pos 0) (pos 3) (inr (inl refl)))) (step (low_edge 1 (pos 5) (pos 9) (inl refl))));
  negative = lt_z_yes tt;
}

-- the limits of values count too
limits_met : Satisfiable 2 (far (negsuc 1999999999999))
limits_met = record { values = negsuc 999999999999 ∷ pos 1000000000000 ∷ []; meets = record { size = refl; ranged = tt; each = tt } }

-- ---- the listing and the program

listed : map condition_text (atmost 3 1 none ∷ atmost 3 1 (some (negsuc 2)) ∷ atmost 3 1 (some (pos 0)) ∷ []) ≡ codes " atmost 3 1" ∷ codes " atmost 3 1 -3" ∷ codes " atmost 3 1 0" ∷ []
listed = refl

words : map condition_words (atmost 3 1 none ∷ atmost 3 1 (some (negsuc 2)) ∷ []) ≡ (2179 ∷ 0 ∷ 0 ∷ []) ∷ (2307 ∷ 4294967293 ∷ 0 ∷ []) ∷ []
words = refl

-- ---- a run: S to L with d = 3 and e given; L to the token where d is at most e - 1 (n is 1), or where e is at most d (n is 2)

abbrev chosen : ℤ → Grammar
chosen e = record {
  terminals = 1;
  counts = record { inherited = 0; synthesized = 1 } ∷ record { inherited = 2; synthesized = 1 } ∷ [];
  carrying = [];
  start = 0;
  result = 1;
  productions =
      record { left = 0; right = nonterminal 1 ∷ []; rules = rule (occ 1 1) (const (pos 3)) ∷ rule (occ 1 2) (const e) ∷ rule (occ 0 1) (copy (occ 1 3)) ∷ []; conditions = [] }
      ∷ record { left = 1; right = terminal 0 ∷ []; rules = rule (occ 0 3) (const (pos 1)) ∷ []; conditions = atmost (occ 0 1) (occ 0 2) (some (negsuc 0)) ∷ [] }
      ∷ record { left = 1; right = terminal 0 ∷ []; rules = rule (occ 0 3) (const (pos 2)) ∷ []; conditions = atmost (occ 0 2) (occ 0 1) none ∷ [] }
      ∷ [];
}

abbrev results : Settled → List ℤ
results (stopped c) = c.registers
results (failed c k) = pos k ∷ []

abbrev run : ℤ → List ℤ
run e = elim (feed_all (chosen e) (lent 20 20) (plain (0 ∷ [])) (opening (chosen e))) as (λ x. List ℤ) [ stopped c ↦ results (finish_all (chosen e) (lent 20 20) c) | failed c k ↦ results (failed c k) ]

chosen_runs : map run (pos 4 ∷ pos 3 ∷ negsuc 8 ∷ []) ≡ (pos 1 ∷ []) ∷ (pos 2 ∷ []) ∷ (pos 2 ∷ []) ∷ []
chosen_runs = refl
