-- Whether two productions can be entered with the same values: the last part of a clash, and what the intervals tell of it.
use Prim.Native.Nat.{ℕ, suc, ◌+◌, ◌-◌, ◌*◌, ◌≤◌, ◌<◌, min, max}
use Rattle.std.proofs.Math.Decide.{ℕ_discrete, dec_lt}
use native.Mathlib.Omega.{arith}
use Rattle.std.specs.Prelude.{◌≡◌, ◌⊎◌, Bool, ◌&&◌, ◌||◌, T, eqb, length, set}
use Rattle.std.proofs.Math.Path.{refl, sym, ap, ap₂}
use Rattle.std.proofs.Common.{◌∙◌, inl, inr, eq-eqb, ne_eqb, length-set, get_or-set_same, get_or-set_other}
use Rattle.std.proofs.Math.Bool.{true, false, and-false}
use mathlib.Core.List.{List, [], ◌∷◌, ◌++◌}
use Rattle.std.proofs.Math.Dec.{leb}
use Rattle.std.proofs.Math.ListN.{get_or, get_or-replicate}
use Rattle.meaning.specs.Limits.{attributes_limit}
use Rattle.meaning.specs.Base.{In, all, is_empty}
use Rattle.meaning.specs.Grammar.{Condition, range, atmost, Production}
use Rattle.meaning.specs.Differences.{constrained, matrix_of, closed, none_negative, solvable}
use Rattle.meaning.specs.Decide.{is_range, pairwise, satisfiable_by, satisfiable, entry_conditions}
use Rattle.theory_base.specs.Members.{both, all_append, all_in, in_left, in_right, in_append}
use Rattle.theory_differences.specs.Graph.{AllKnown}
use Rattle.theory_differences.specs.Building.{solvable_same}
use Rattle.theory_sets.specs.Intervals.{entry, entered, entry_known}
use Rattle.analysis.specs.Numbers.{all_count_same}
use Rattle.clash_entries.specs.conditions.BoundWords.{biased}
use Rattle.clash_rivals.specs.intervals.Intervals.{leave_values}
use Rattle.clash.specs.Kept.{Own}
use Rattle.clash.specs.Intervals.{low_end, high_end, low_append, high_append, high_word, pairwise_is}
use Rattle.clash_entries.specs.conditions.EntryConditions.{at_entry, entry_is, after, rank_by, raised, lowered, lowest, highest}

-- 01: "unless both have entry conditions and no values of the inherited attributes satisfy both". (Attributes that no condition reads play no part, so they are taken as 8)
unfoldable pub enter_together : Production → Production → Bool
enter_together p q = is_empty (entry_conditions p) || is_empty (entry_conditions q) || satisfiable attributes_limit (entry_conditions p ++ entry_conditions q)

-- ---- the ends after some conditions

module _ (a : ℕ) (few : a < attributes_limit) where
  -- the end of one attribute changed
  changed : (f : ℕ → ℕ) (ends : List ℕ) (b : ℕ) → 0 < b → length ends ≡ attributes_limit → get_or (set ends (b - 1) (f (get_or ends (b - 1) 0))) a 0 ≡ (elim (eqb (suc a) b) [ true ↦ f (get_or ends a 0) | false ↦ get_or ends a 0 ])
  changed f ends b p e = go (ℕ_discrete (suc a) b)
    where
      go : Dec (suc a ≡ b) → get_or (set ends (b - 1) (f (get_or ends (b - 1) 0))) a 0 ≡ (elim (eqb (suc a) b) [ true ↦ f (get_or ends a 0) | false ↦ get_or ends a 0 ])
      go (yes q) =
          let i : b - 1 ≡ a = omega arith in
          rw (eq-eqb (suc a) b q, i, get_or-set_same ends a (f (get_or ends a 0)) 0 (omega arith)) refl
      go (no n) = rw (ne_eqb (suc a) b n, get_or-set_other ends (b - 1) a (f (get_or ends (b - 1) 0)) 0 (λ q. n (omega arith))) refl

  low_at : (cs : List (Condition ℕ)) → T (all (entry attributes_limit) cs) → (ends : List ℕ) → length ends ≡ attributes_limit → get_or (raised cs ends) a 0 ≡ max (get_or ends a 0) (low_end (suc a) cs)
  unfolding raised low_end
  low_at [] f ends e = omega arith
  low_at (range b l h ∷ cs) f ends e =
      let u = both (entry attributes_limit (range b l h)) (all (entry attributes_limit) cs) f in
      let v : ℕ = max (biased l) (get_or ends (b - 1) 0) in
      low_at cs u.1 (set ends (b - 1) v) (length-set ends (b - 1) v ∙ e)
      ∙ ap (λ z. max z (low_end (suc a) cs)) (changed (max (biased l)) ends b (entered attributes_limit b l h u.0).from e)
      ∙ go (eqb (suc a) b)
    where
      go : (c : Bool) → max (elim c [ true ↦ max (biased l) (get_or ends a 0) | false ↦ get_or ends a 0 ]) (low_end (suc a) cs) ≡ max (get_or ends a 0) (elim c [ true ↦ max (biased l) (low_end (suc a) cs) | false ↦ low_end (suc a) cs ])
      go true = omega arith
      go false = refl
  low_at (atmost b c d ∷ cs) f ends e = low_at cs (both (entry attributes_limit (atmost b c d)) (all (entry attributes_limit) cs) f).1 ends e

  high_at : (cs : List (Condition ℕ)) → T (all (entry attributes_limit) cs) → (ends : List ℕ) → length ends ≡ attributes_limit → get_or ends a 0 ≤ 4294967295 → get_or (lowered cs ends) a 0 ≡ min (get_or ends a 0) (high_end (suc a) cs)
  unfolding lowered high_end
  high_at [] f ends e w = omega arith
  high_at (range b l h ∷ cs) f ends e w =
      let u = both (entry attributes_limit (range b l h)) (all (entry attributes_limit) cs) f in
      let v : ℕ = min (biased h) (get_or ends (b - 1) 0) in
      let c = changed (min (biased h)) ends b (entered attributes_limit b l h u.0).from e in
      high_at cs u.1 (set ends (b - 1) v) (length-set ends (b - 1) v ∙ e) (small (eqb (suc a) b) c)
      ∙ ap (λ z. min z (high_end (suc a) cs)) c
      ∙ go (eqb (suc a) b)
    where
      small : (c : Bool) {n : ℕ} → n ≡ (elim c [ true ↦ min (biased h) (get_or ends a 0) | false ↦ get_or ends a 0 ]) → n ≤ 4294967295
      small true q = omega arith
      small false q = omega arith

      go : (c : Bool) → min (elim c [ true ↦ min (biased h) (get_or ends a 0) | false ↦ get_or ends a 0 ]) (high_end (suc a) cs) ≡ min (get_or ends a 0) (elim c [ true ↦ min (biased h) (high_end (suc a) cs) | false ↦ high_end (suc a) cs ])
      go true = omega arith
      go false = refl
  high_at (atmost b c d ∷ cs) f ends e w = high_at cs (both (entry attributes_limit (atmost b c d)) (all (entry attributes_limit) cs) f).1 ends e w

-- ---- the conditions of two productions, by the ends that are kept of each

module _ (cs ds : List (Condition ℕ)) (f : T (all (entry attributes_limit) cs)) (k : T (all (entry attributes_limit) ds)) {lows highs : List ℕ} {p q : ℕ}
    (lp : Own (raised cs lowest) lows p) (lq : Own (raised ds lowest) lows q) (hp : Own (lowered cs highest) highs p) (hq : Own (lowered ds highest) highs q) where
  pairwise_ends : leave_values lows highs p q ≡ pairwise (cs ++ ds)
  unfolding leave_values
  pairwise_ends =
      all_count_same (λ a. leb (max (get_or lows (attributes_limit * p + a) 0) (get_or lows (attributes_limit * q + a) 0)) (min (get_or highs (attributes_limit * p + a) 0) (get_or highs (attributes_limit * q + a) 0))) (λ a. leb (low_end (suc a) (cs ++ ds)) (high_end (suc a) (cs ++ ds))) attributes_limit each
      ∙ sym (pairwise_is attributes_limit (cs ++ ds) (all_append (entry attributes_limit) cs ds f k) (omega arith))
    where
      low : (a : ℕ) → a < attributes_limit → max (get_or lows (attributes_limit * p + a) 0) (get_or lows (attributes_limit * q + a) 0) ≡ low_end (suc a) (cs ++ ds)
      low a l =
          let none : ℕ = 0 in
          ap₂ max (lp.at a l ∙ low_at a l cs f lowest refl) (lq.at a l ∙ low_at a l ds k lowest refl)
          ∙ omega (arith, get_or-replicate attributes_limit a none 0 l, low_append (suc a) cs ds)

      high : (a : ℕ) → a < attributes_limit → min (get_or highs (attributes_limit * p + a) 0) (get_or highs (attributes_limit * q + a) 0) ≡ high_end (suc a) (cs ++ ds)
      high a l =
          let full : ℕ = 4294967295 in
          let s = get_or-replicate attributes_limit a full 0 l in
          ap₂ min (hp.at a l ∙ high_at a l cs f highest refl (omega (arith, s))) (hq.at a l ∙ high_at a l ds k highest refl (omega (arith, s)))
          ∙ omega (arith, s, high_word (suc a) cs, high_word (suc a) ds, high_append (suc a) cs ds)

      each : (a : ℕ) → a < attributes_limit → leb (max (get_or lows (attributes_limit * p + a) 0) (get_or lows (attributes_limit * q + a) 0)) (min (get_or highs (attributes_limit * p + a) 0) (get_or highs (attributes_limit * q + a) 0)) ≡ leb (low_end (suc a) (cs ++ ds)) (high_end (suc a) (cs ++ ds))
      each a l = ap₂ leb (low a l) (high a l)

-- ---- what there has been, by the rank of the conditions

rank_least : (cs : List (Condition ℕ)) (n : ℕ) → n ≤ 2 → n ≤ after rank_by cs n
rank_least [] n l = omega arith
rank_least (range a x y ∷ cs) n l = let k = rank_least cs (max 1 n) (omega arith) in omega arith
rank_least (atmost a b c ∷ cs) n l = let k = rank_least cs 2 (omega arith) in omega arith

pub rank_most : (cs : List (Condition ℕ)) (n : ℕ) → n ≤ 2 → after rank_by cs n ≤ 2
rank_most [] n l = l
rank_most (range a x y ∷ cs) n l = rank_most cs (max 1 n) (omega arith)
rank_most (atmost a b c ∷ cs) n l = rank_most cs 2 (omega arith)

rank_none : (cs : List (Condition ℕ)) → after rank_by cs 0 ≡ 0 → is_empty cs ≡ true
rank_none [] e = refl
rank_none (range a x y ∷ cs) e = let k = rank_least cs 1 (omega arith) in absurd (omega arith)
rank_none (atmost a b c ∷ cs) e = let k = rank_least cs 2 (omega arith) in absurd (omega arith)

rank_some : (cs : List (Condition ℕ)) → 1 ≤ after rank_by cs 0 → is_empty cs ≡ false
rank_some [] l = absurd (omega arith)
rank_some (c ∷ cs) l = refl

rank_ranges : (cs : List (Condition ℕ)) (n : ℕ) → after rank_by cs n ≤ 1 → all is_range cs ≡ true
rank_ranges [] n l = refl
rank_ranges (range a x y ∷ cs) n l = rank_ranges cs (max 1 n) l
rank_ranges (atmost a b c ∷ cs) n l = let k = rank_least cs 2 (omega arith) in absurd (omega arith)

rank_compared : (cs : List (Condition ℕ)) (n : ℕ) → n ≤ 1 → 2 ≤ after rank_by cs n → all is_range cs ≡ false
rank_compared [] n l m = absurd (omega arith)
rank_compared (range a x y ∷ cs) n l m = rank_compared cs (max 1 n) (omega arith) m
rank_compared (atmost a b c ∷ cs) n l m = refl

all_both : (f : Condition ℕ → Bool) (cs ds : List (Condition ℕ)) → all f (cs ++ ds) ≡ (all f cs && all f ds)
all_both f [] ds = refl
all_both f (c ∷ cs) ds = ap (λ x. f c && x) (all_both f cs ds) ∙ go (f c)
  where
    go : (b : Bool) → (b && (all f cs && all f ds)) ≡ ((b && all f cs) && all f ds)
    go true = refl
    go false = refl

module _ (cs ds : List (Condition ℕ)) where
  both_ranges : after rank_by cs 0 ≤ 1 → after rank_by ds 0 ≤ 1 → all is_range (cs ++ ds) ≡ true
  both_ranges l m = all_both is_range cs ds ∙ ap₂ ◌&&◌ (rank_ranges cs 0 l) (rank_ranges ds 0 m)

  one_compared : 3 ≤ after rank_by cs 0 + after rank_by ds 0 → all is_range (cs ++ ds) ≡ false
  one_compared l = all_both is_range cs ds ∙ go (dec_lt 1 (after rank_by cs 0))
    where
      go : Dec (1 < after rank_by cs 0) → (all is_range cs && all is_range ds) ≡ false
      go (yes m) = ap (λ x. x && all is_range ds) (rank_compared cs 0 (omega arith) m)
      go (no m) = ap (λ x. all is_range cs && x) (rank_compared ds 0 (omega arith) (omega arith)) ∙ and-false (all is_range cs)

-- ---- the matrix of the conditions of two productions

-- conditions before others, the last first
abbrev onto : List (Condition ℕ) → List (Condition ℕ) → List (Condition ℕ)
onto [] es = es
onto (c ∷ cs) es = onto cs (c ∷ es)

matrix_onto : (n : ℕ) (cs es : List (Condition ℕ)) → after constrained cs (matrix_of n es) ≡ matrix_of n (onto cs es)
matrix_onto n [] es = refl
matrix_onto n (c ∷ cs) es = matrix_onto n cs (c ∷ es)

onto_in : (x : Condition ℕ) (cs es : List (Condition ℕ)) → In x (onto cs es) → In x cs ⊎ In x es
onto_in x [] es i = inr i
onto_in x (c ∷ cs) es i = go (onto_in x cs (c ∷ es) i)
  where
    go : In x cs ⊎ In x (c ∷ es) → In x (c ∷ cs) ⊎ In x es
    go (inl j) = inl (inr j)
    go (inr (inl e)) = inl (inl e)
    go (inr (inr j)) = inr j

in_onto : (x : Condition ℕ) (cs es : List (Condition ℕ)) → In x cs ⊎ In x es → In x (onto cs es)
in_onto x [] es (inl i) = absurd i
in_onto x [] es (inr i) = i
in_onto x (c ∷ cs) es (inl (inl e)) = in_onto x cs (c ∷ es) (inr (inl e))
in_onto x (c ∷ cs) es (inl (inr i)) = in_onto x cs (c ∷ es) (inl i)
in_onto x (c ∷ cs) es (inr i) = in_onto x cs (c ∷ es) (inr (inr i))

module _ (cs ds : List (Condition ℕ)) (f : T (all (entry attributes_limit) cs)) (k : T (all (entry attributes_limit) ds)) where
  known : AllKnown (cs ++ ds)
  known c i = entry_known attributes_limit (omega arith) c (all_in (entry attributes_limit) (cs ++ ds) (all_append (entry attributes_limit) cs ds f k) c i)

  into : (c : Condition ℕ) → In c (onto ds (onto cs [])) → In c (cs ++ ds)
  into c i = go (onto_in c ds (onto cs []) i)
    where
      first : In c cs ⊎ In c [] → In c (cs ++ ds)
      first (inl j) = in_left c cs ds j
      first (inr j) = absurd j

      go : In c ds ⊎ In c (onto cs []) → In c (cs ++ ds)
      go (inl j) = in_right c cs ds j
      go (inr j) = first (onto_in c cs [] j)

  from : (c : Condition ℕ) → In c (cs ++ ds) → In c (onto ds (onto cs []))
  from c i = go (in_append c cs ds i)
    where
      go : In c cs ⊎ In c ds → In c (onto ds (onto cs []))
      go (inl j) = in_onto c ds (onto cs []) (inr (in_onto c cs [] (inl j)))
      go (inr j) = in_onto c ds (onto cs []) (inl j)

  pub matrix_solvable : none_negative (closed (after constrained ds (after constrained cs (matrix_of attributes_limit [])))) ≡ solvable attributes_limit (cs ++ ds)
  matrix_solvable =
      ap (λ m. none_negative (closed m)) (ap (after constrained ds) (matrix_onto attributes_limit cs []) ∙ matrix_onto attributes_limit ds (onto cs []))
      ∙ sym (solvable_same attributes_limit (omega arith) (cs ++ ds) (onto ds (onto cs [])) known into from)

-- ---- the answers of the test, by what it finds of the later production p and the earlier one q

module _ (p q : Production) where
  abbrev of_p : List (Condition ℕ)
  of_p = at_entry p.conditions

  abbrev of_q : List (Condition ℕ)
  of_q = at_entry q.conditions

  together_is : enter_together p q ≡ (is_empty of_p || is_empty of_q || satisfiable attributes_limit (of_p ++ of_q))
  unfolding enter_together
  together_is = ap₂ (λ cs ds. is_empty cs || is_empty ds || satisfiable attributes_limit (cs ++ ds)) (entry_is p) (entry_is q)

  pub later_free : after rank_by of_p 0 ≡ 0 → true ≡ enter_together p q
  later_free e = sym (together_is ∙ ap (λ x. x || is_empty of_q || satisfiable attributes_limit (of_p ++ of_q)) (rank_none of_p e))

  pub earlier_free : after rank_by of_q 0 ≡ 0 → true ≡ enter_together p q
  earlier_free e = sym (together_is ∙ ap (λ x. is_empty of_p || x || satisfiable attributes_limit (of_p ++ of_q)) (rank_none of_q e) ∙ go (is_empty of_p))
    where
      go : (c : Bool) → (c || true || satisfiable attributes_limit (of_p ++ of_q)) ≡ true
      go true = refl
      go false = refl

  module _ (d : 1 ≤ after rank_by of_p 0) (e : 1 ≤ after rank_by of_q 0) where
    both_have : enter_together p q ≡ satisfiable attributes_limit (of_p ++ of_q)
    both_have = together_is ∙ ap₂ (λ x y. x || y || satisfiable attributes_limit (of_p ++ of_q)) (rank_some of_p d) (rank_some of_q e)

    pub ranges_together :
        T (all (entry attributes_limit) of_p) → T (all (entry attributes_limit) of_q) → after rank_by of_p 0 + after rank_by of_q 0 ≤ 2 → {lows highs : List ℕ} {i j : ℕ}
        → Own (raised of_p lowest) lows i → Own (raised of_q lowest) lows j → Own (lowered of_p highest) highs i → Own (lowered of_q highest) highs j → leave_values lows highs i j ≡ enter_together p q
    ranges_together f k l lp lq hp hq =
        pairwise_ends of_p of_q f k lp lq hp hq
        ∙ sym (both_have ∙ ap (λ b. satisfiable_by b attributes_limit (of_p ++ of_q)) (both_ranges of_p of_q (omega arith) (omega arith)))

    pub compared_together : 3 ≤ after rank_by of_p 0 + after rank_by of_q 0 → solvable attributes_limit (of_p ++ of_q) ≡ enter_together p q
    compared_together l = sym (both_have ∙ ap (λ b. satisfiable_by b attributes_limit (of_p ++ of_q)) (one_compared of_p of_q l))
