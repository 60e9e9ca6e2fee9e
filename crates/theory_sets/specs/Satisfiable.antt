-- satisfiable says whether some values in range meet all the conditions: by intervals where all are ranges, by differences otherwise. Where all are ranges, the two agree.
use Rattle.std.specs.Prelude.{ℕ, zero, suc, ◌-◌, ◌≤◌, ◌<◌, ◌≡◌, refl, ◌↔◌, Bool, true, false, ◌&&◌, List, [], ◌∷◌, map, get_or, length, T, ℤ, pos}
use Rattle.std.proofs.Common.{arith, ap, ◌∙◌}
use Rattle.std.proofs.lemmas.List.{length-map}
use Rattle.meaning.specs.Limits.{attributes_limit}
use Rattle.meaning.specs.Base.{all, count_from}
use Rattle.meaning.specs.Grammar.{Condition, range, atmost}
use Rattle.meaning.specs.Rules.{four_bytes}
use Rattle.meaning.specs.Value.{in_range, holds}
use Rattle.meaning.specs.Differences.{solvable}
use Rattle.meaning.specs.Decide.{is_range, pairwise, satisfiable_by, satisfiable}
use Rattle.theory_base.specs.Members.{all_in, at_all, both, same_truth, length_count_from}
use Rattle.meaning_statements.specs.CompareStatements.{value_in}
use Rattle.theory_differences.specs.Graph.{AllKnown}
use Rattle.theory_differences.specs.Building.{solvable_values, values_solvable}
use Rattle.theory_sets.specs.Intervals.{among, among_is, entry, compared, entry_wider, entry_known, common, holding}
use Rattle.theory_sets.specs.Tests.{all_map, all_map₂, get_d_count_from}

module _ (k : ℕ) (few : k ≤ attributes_limit) (cs : List (Condition ℕ)) (fits : T (all (entry k) cs)) where
  abbrev Values : Type 0
  Values = (vs : List ℤ) × (length vs ≡ k) × T (all in_range vs) × T (all (holds (value_in vs)) cs)

  pub known : AllKnown cs
  known c i = entry_known k few c (all_in (entry k) cs fits c i)

  by_graph : T (solvable k cs) → Values
  by_graph t = let s = solvable_values k cs few known t in (s.values, s.meets.size, s.meets.ranged, s.meets.each)

  to_graph : Values → T (solvable k cs)
  to_graph v = values_solvable k cs few known (record { values = v.0; meets = record { size = v.1; ranged = v.2; each = v.3 } })

  pub satisfiable_values : T (satisfiable k cs) → Values
  satisfiable_values t = go (all is_range cs) refl t
    where
      go : (b : Bool) → all is_range cs ≡ b → T (satisfiable_by b k cs) → Values
      go true e t = common k cs fits (rw e tt) t
      go false e t = by_graph t

  pub values_satisfiable : (vs : List ℤ) → length vs ≡ k → T (all in_range vs) → T (all (holds (value_in vs)) cs) → T (satisfiable k cs)
  values_satisfiable vs l r h = go (all is_range cs)
    where
      go : (b : Bool) → T (satisfiable_by b k cs)
      go true = holding (value_in vs) cs h
      go false = to_graph (vs, l, r, h)

  -- 02 (j): "No table that was accepted becomes refused."
  pub ranges_agree : T (all is_range cs) → T (pairwise cs) ↔ T (solvable k cs)
  ranges_agree r = ((λ t. to_graph (common k cs fits r t)), λ t. let v = by_graph t in holding (value_in v.0) cs v.3)

-- ---- attributes that no condition reads play no part

-- the values of m attributes: more are left out, and those that are not there are 0
abbrev resized : ℕ → List ℤ → List ℤ
resized m vs = map (λ i. get_or vs i (pos 0)) (count_from 0 m)

ranged_at : (vs : List ℤ) (i : ℕ) → T (all in_range vs) → T (in_range (get_or vs i (pos 0)))
ranged_at [] i t = tt
ranged_at (v ∷ vs) zero t = (both (in_range v) (all in_range vs) t).0
ranged_at (v ∷ vs) (suc i) t = ranged_at vs i (both (in_range v) (all in_range vs) t).1

module _ (j m : ℕ) (few : j ≤ m) (cs : List (Condition ℕ)) (fits : T (all (entry j) cs)) (vs : List ℤ) where
  size : length (resized m vs) ≡ m
  size = length-map (count_from 0 m) (λ i. get_or vs i (pos 0)) ∙ length_count_from 0 m

  at : (i : ℕ) → i < m → get_or (resized m vs) i (pos 0) ≡ get_or vs i (pos 0)
  at i l = get_d_count_from (λ i. get_or vs i (pos 0)) 0 m i (pos 0) l ∙ ap (λ (n : ℕ). get_or vs n (pos 0)) (omega arith)

  read : (a : ℕ) → T (among j a) → value_in (resized m vs) a ≡ value_in vs a
  read a t = let n = among_is j a t in at (a - 1) (omega (arith, n.0, n.1))

  holding_still : (c : Condition ℕ) → T (entry j c) → T (holds (value_in vs) c) → T (holds (value_in (resized m vs)) c)
  holding_still (range a l h) e t = rw (read a (both (among j a) (four_bytes l && four_bytes h) e).0) t
  holding_still (atmost a b c) e t = let k = compared j a b c e in rw (read a k.first, read b k.second) t

  pub resized_ranged : T (all in_range vs) → T (all in_range (resized m vs))
  resized_ranged r = at_all in_range (pos 0) (resized m vs) (λ i l. rw (at i (omega (arith, l, size))) (ranged_at vs i r))

  pub resized_holds : T (all (holds (value_in vs)) cs) → T (all (holds (value_in (resized m vs))) cs)
  resized_holds h = all_map₂ (entry j) (holds (value_in vs)) (holds (value_in (resized m vs))) holding_still cs fits h

-- with 8 attributes it is as with the k there are
pub satisfiable_eight : (k : ℕ) → k ≤ attributes_limit → (cs : List (Condition ℕ)) → T (all (entry k) cs) → satisfiable attributes_limit cs ≡ satisfiable k cs
satisfiable_eight k few cs fits = same_truth (satisfiable attributes_limit cs) (satisfiable k cs) down up
  where
    all_eight : attributes_limit ≤ attributes_limit
    all_eight = omega arith

    wide : T (all (entry attributes_limit) cs)
    wide = all_map (entry k) (entry attributes_limit) (entry_wider k attributes_limit few) cs fits

    down : T (satisfiable attributes_limit cs) → T (satisfiable k cs)
    down t =
        let v = satisfiable_values attributes_limit all_eight cs wide t in
        let r = resized k v.0 in
        values_satisfiable k few cs fits r (size k k (omega arith) cs fits v.0) (resized_ranged k k (omega arith) cs fits v.0 v.2) (resized_holds k k (omega arith) cs fits v.0 v.3)

    up : T (satisfiable k cs) → T (satisfiable attributes_limit cs)
    up t =
        let v = satisfiable_values k few cs fits t in
        let r = resized attributes_limit v.0 in
        values_satisfiable attributes_limit all_eight cs wide r (size k attributes_limit few cs fits v.0) (resized_ranged k attributes_limit few cs fits v.0 v.2) (resized_holds k attributes_limit few cs fits v.0 v.3)
