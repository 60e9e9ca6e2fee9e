-- The interval that entry conditions leave to each attribute, and that ranges agree by twos exactly where no interval is empty. Comparisons leave the intervals as they are.
use Prim.Native.Nat.{ℕ, zero, suc, ◌≤◌, ◌<◌, min, max}
use native.Mathlib.Omega.{arith}
use Rattle.std.specs.Prelude.{◌≡◌, ◌⊎◌, Bool, ◌&&◌, ◌||◌, not, eqb, ℤ, pos, negsuc, get_or}
use Rattle.std.proofs.Common.{sym, ◌∙◌, inl, inr, eqb→eq, le→leb, T_not}
use Rattle.std.proofs.Math.Bool.{true, false}
use mathlib.Core.List.{List, [], ◌∷◌, ◌++◌}
use Rattle.std.proofs.Math.Option.{none}
use Rattle.std.proofs.Math.Dec.{T, leb, eqb_refl, leb→le, not_T}
use Rattle.std.specs.Int.Signed.{le_z}
use Rattle.meaning.specs.Limits.{attributes_limit}
use Rattle.meaning.specs.Base.{all, count_from}
use Rattle.meaning.specs.Grammar.{Condition, range, atmost}
use Rattle.meaning.specs.Decide.{compatible, pairwise}
use Rattle.theory_base.specs.Members.{and, both, or_cases, or_left, or_right, same_truth, at_all}
use Rattle.theory_sets.specs.Tests.{decide, all_at, all_map, all_map₂}
use Rattle.theory_sets.specs.Intervals.{on_range, entry, entered}
use Rattle.meaning.specs.Rules.{lowest_constant, highest_constant, four_bytes}
use Rattle.clash_entries.specs.conditions.BoundWords.{biased}
use Rattle.analysis.specs.Numbers.{all_count_lem, count_all}

-- a test that passes at each place passes of all

-- the greatest low end of attribute a's ranges, and the least high end
unfoldable pub low_end : ℕ → List (Condition ℕ) → ℕ
low_end a [] = 0
low_end a (range b l h ∷ cs) = elim (eqb a b) [ true ↦ max (biased l) (low_end a cs) | false ↦ low_end a cs ]
low_end a (atmost b c e ∷ cs) = low_end a cs

unfoldable pub high_end : ℕ → List (Condition ℕ) → ℕ
high_end a [] = 4294967295
high_end a (range b l h ∷ cs) = elim (eqb a b) [ true ↦ min (biased h) (high_end a cs) | false ↦ high_end a cs ]
high_end a (atmost b c e ∷ cs) = high_end a cs

-- ---- the order of biased words
biased_le : (a b : ℤ) → T (four_bytes a) → T (four_bytes b) → T (le_z a b) → biased a ≤ biased b
unfolding biased
biased_le (pos a) (pos b) i j t = let l = leb→le a b t in omega arith
biased_le (pos a) (negsuc b) i j t = absurd t
biased_le (negsuc a) (pos b) i j t = omega arith
biased_le (negsuc a) (negsuc b) i j t = let l = leb→le b a t in omega arith

le_biased : (a b : ℤ) → T (four_bytes a) → T (four_bytes b) → biased a ≤ biased b → T (le_z a b)
unfolding biased
le_biased (pos a) (pos b) i j h = le→leb a b (omega arith)
le_biased (pos a) (negsuc b) i j h = absurd (omega arith)
le_biased (negsuc a) (pos b) i j h = tt
le_biased (negsuc a) (negsuc b) i j h = le→leb b a (let m = leb→le a 2147483647 (both (le_z lowest_constant (negsuc a)) (le_z (negsuc a) highest_constant) i).0 in let n = leb→le b 2147483647 (both (le_z lowest_constant (negsuc b)) (le_z (negsuc b) highest_constant) j).0 in omega arith)

biased_word : (a : ℤ) → T (four_bytes a) → biased a ≤ 4294967295
unfolding biased
biased_word (pos a) i = let m = leb→le a 2147483647 (both (le_z lowest_constant (pos a)) (le_z (pos a) highest_constant) i).1 in omega arith
biased_word (negsuc a) i = omega arith

-- ---- conditions one after another
module _ (a : ℕ) where
  pub low_append : (cs ds : List (Condition ℕ)) → low_end a (cs ++ ds) ≡ max (low_end a cs) (low_end a ds)
  unfolding low_end
  low_append [] ds = omega arith
  low_append (range b l h ∷ cs) ds = go (eqb a b) (low_append cs ds)
    where
      go : (e : Bool) → low_end a (cs ++ ds) ≡ max (low_end a cs) (low_end a ds) → (elim e [ true ↦ max (biased l) (low_end a (cs ++ ds)) | false ↦ low_end a (cs ++ ds) ]) ≡ max (elim e [ true ↦ max (biased l) (low_end a cs) | false ↦ low_end a cs ]) (low_end a ds)
      go true q = omega arith
      go false q = q
  low_append (atmost b c e ∷ cs) ds = low_append cs ds

  pub high_word : (cs : List (Condition ℕ)) → high_end a cs ≤ 4294967295
  unfolding high_end
  high_word [] = omega arith
  high_word (range b l h ∷ cs) = go (eqb a b) (high_word cs)
    where
      go : (e : Bool) → high_end a cs ≤ 4294967295 → (elim e [ true ↦ min (biased h) (high_end a cs) | false ↦ high_end a cs ]) ≤ 4294967295
      go true q = omega arith
      go false q = q
  high_word (atmost b c e ∷ cs) = high_word cs

  pub high_append : (cs ds : List (Condition ℕ)) → high_end a (cs ++ ds) ≡ min (high_end a cs) (high_end a ds)
  unfolding high_end
  high_append [] ds = let k = high_word ds in omega arith
  high_append (range b l h ∷ cs) ds = go (eqb a b) (high_append cs ds)
    where
      go : (e : Bool) → high_end a (cs ++ ds) ≡ min (high_end a cs) (high_end a ds) → (elim e [ true ↦ min (biased h) (high_end a (cs ++ ds)) | false ↦ high_end a (cs ++ ds) ]) ≡ min (elim e [ true ↦ min (biased h) (high_end a cs) | false ↦ high_end a cs ]) (high_end a ds)
      go true q = omega arith
      go false q = q
  high_append (atmost b c e ∷ cs) ds = high_append cs ds

  -- the greatest low end is at most m where each is, and the least high end at least m
  low_most : (m : ℕ) (cs : List (Condition ℕ)) → T (all (on_range a (λ l h. leb (biased l) m)) cs) → low_end a cs ≤ m
  unfolding low_end
  low_most m [] t = omega arith
  low_most m (range b l h ∷ cs) t = go (eqb a b) (both (not (eqb a b) || leb (biased l) m) (all (on_range a (λ x y. leb (biased x) m)) cs) t).0 (low_most m cs (both (not (eqb a b) || leb (biased l) m) (all (on_range a (λ x y. leb (biased x) m)) cs) t).1)
    where
      go : (e : Bool) → T (not e || leb (biased l) m) → low_end a cs ≤ m → (elim e [ true ↦ max (biased l) (low_end a cs) | false ↦ low_end a cs ]) ≤ m
      go true u q = let v = leb→le (biased l) m u in omega arith
      go false u q = q
  low_most m (atmost b c e ∷ cs) t = low_most m cs t

  low_each : (m : ℕ) (cs : List (Condition ℕ)) → low_end a cs ≤ m → T (all (on_range a (λ l h. leb (biased l) m)) cs)
  unfolding low_end
  low_each m [] q = tt
  low_each m (range b l h ∷ cs) q = go (eqb a b) q (low_each m cs)
    where
      go : (e : Bool) → (elim e [ true ↦ max (biased l) (low_end a cs) | false ↦ low_end a cs ]) ≤ m → (low_end a cs ≤ m → T (all (on_range a (λ x y. leb (biased x) m)) cs)) → T ((not e || leb (biased l) m) && all (on_range a (λ x y. leb (biased x) m)) cs)
      go true q k = and (leb (biased l) m) (all (on_range a (λ x y. leb (biased x) m)) cs) (le→leb (biased l) m (omega arith)) (k (omega arith))
      go false q k = k q
  low_each m (atmost b c e ∷ cs) q = low_each m cs q

  high_least : (m : ℕ) → m ≤ 4294967295 → (cs : List (Condition ℕ)) → T (all (on_range a (λ l h. leb m (biased h))) cs) → m ≤ high_end a cs
  unfolding high_end
  high_least m w [] t = w
  high_least m w (range b l h ∷ cs) t = go (eqb a b) (both (not (eqb a b) || leb m (biased h)) (all (on_range a (λ x y. leb m (biased y))) cs) t).0 (high_least m w cs (both (not (eqb a b) || leb m (biased h)) (all (on_range a (λ x y. leb m (biased y))) cs) t).1)
    where
      go : (e : Bool) → T (not e || leb m (biased h)) → m ≤ high_end a cs → m ≤ (elim e [ true ↦ min (biased h) (high_end a cs) | false ↦ high_end a cs ])
      go true u q = let v = leb→le m (biased h) u in omega arith
      go false u q = q
  high_least m w (atmost b c e ∷ cs) t = high_least m w cs t

  high_each : (m : ℕ) (cs : List (Condition ℕ)) → m ≤ high_end a cs → T (all (on_range a (λ l h. leb m (biased h))) cs)
  unfolding high_end
  high_each m [] q = tt
  high_each m (range b l h ∷ cs) q = go (eqb a b) q (high_each m cs)
    where
      go : (e : Bool) → m ≤ (elim e [ true ↦ min (biased h) (high_end a cs) | false ↦ high_end a cs ]) → (m ≤ high_end a cs → T (all (on_range a (λ x y. leb m (biased y))) cs)) → T ((not e || leb m (biased h)) && all (on_range a (λ x y. leb m (biased y))) cs)
      go true q k = and (leb m (biased h)) (all (on_range a (λ x y. leb m (biased y))) cs) (le→leb m (biased h) (omega arith)) (k (omega arith))
      go false q k = k q
  high_each m (atmost b c e ∷ cs) q = high_each m cs q

-- ---- conditions that agree by twos are those whose intervals have a point
on_same : (a b : ℕ) (x : Bool) → T (eqb a b) → T (not (eqb a b) || x) → T x
on_same a b x e t = go (or_cases (not (eqb a b)) x t)
  where
    go : T (not (eqb a b)) ⊎ T x → T x
    go (inl u) = absurd (T_not (eqb a b) u e)
    go (inr u) = u

off : (a b : ℕ) (x : Bool) → (T (eqb a b) → T x) → T (not (eqb a b) || x)
off a b x k = go (decide (eqb a b))
  where
    go : T (eqb a b) ⊎ (T (eqb a b) → ⊥) → T (not (eqb a b) || x)
    go (inl e) = or_right (not (eqb a b)) x (k e)
    go (inr n) = or_left (not (eqb a b)) x (not_T (eqb a b) n)

module _ (k : ℕ) (cs : List (Condition ℕ)) (fits : T (all (entry k) cs)) where
  -- one condition bounds the low ends of those that agree with it
  bounds : (a b : ℕ) (m i : ℤ) → T (eqb a b) → T (four_bytes i) → (c : Condition ℕ) → T (entry k c) → T (compatible (range b m i) c) → T (on_range a (λ l h. leb (biased l) (biased i)) c)
  bounds a b m i e v (range d l h) f t = off a d (leb (biased l) (biased i)) at
    where
      at : T (eqb a d) → T (leb (biased l) (biased i))
      at q =
          let same : b ≡ d = sym (eqb→eq a b e) ∙ eqb→eq a d q in
          let w : T (eqb b d) = rw same (eqb_refl d) in
          let meets = on_same b d (le_z m h && le_z l i) w t in
          le→leb (biased l) (biased i) (biased_le l i (entered k d l h f).low v (both (le_z m h) (le_z l i) meets).1)
  bounds a b m i e v (atmost d c x) f t = tt

  met : (a : ℕ) → T (pairwise cs) → low_end a cs ≤ high_end a cs
  met a t = high_least a (low_end a cs) word cs (all_map₂ (entry k) (λ c. all (compatible c) cs) (on_range a (λ l h. leb (low_end a cs) (biased h))) each cs fits t)
    where
      word : low_end a cs ≤ 4294967295
      word = low_most a 4294967295 cs (all_map (entry k) (on_range a (λ l h. leb (biased l) 4294967295)) small cs fits)
        where
          small : (c : Condition ℕ) → T (entry k c) → T (on_range a (λ l h. leb (biased l) 4294967295) c)
          small (range b l h) f = or_right (not (eqb a b)) (leb (biased l) 4294967295) (le→leb (biased l) 4294967295 (biased_word l (entered k b l h f).low))
          small (atmost b c e) f = tt

      each : (c : Condition ℕ) → T (entry k c) → T (all (compatible c) cs) → T (on_range a (λ l h. leb (low_end a cs) (biased h)) c)
      each (range b m i) f u =
          off a b (leb (low_end a cs) (biased i))
          (λ e. le→leb (low_end a cs) (biased i) (low_most a (biased i) cs (all_map₂ (entry k) (compatible (range b m i)) (on_range a (λ l h. leb (biased l) (biased i))) (bounds a b m i e (entered k b m i f).high) cs fits u)))
      each (atmost b c e) f u = tt

  module _ (meets : (a : ℕ) → 0 < a → a ≤ k → low_end a cs ≤ high_end a cs) where
    below : (a : ℕ) (l i : ℤ) → 0 < a → a ≤ k → T (four_bytes l) → T (four_bytes i) → T (on_range a (λ x y. leb (biased x) (low_end a cs)) (range a l l)) → T (on_range a (λ x y. leb (high_end a cs) (biased y)) (range a i i)) → T (le_z l i)
    below a l i p q v w s t =
        let x = leb→le (biased l) (low_end a cs) (on_same a a (leb (biased l) (low_end a cs)) (eqb_refl a) s) in
        let y = leb→le (high_end a cs) (biased i) (on_same a a (leb (high_end a cs) (biased i)) (eqb_refl a) t) in
        let z = meets a p q in
        le_biased l i v w (omega arith)

    pair : (c d : Condition ℕ) → T (entry k c) → T (entry k d)
        → ((a : ℕ) → T (on_range a (λ x y. leb (biased x) (low_end a cs)) c)) → ((a : ℕ) → T (on_range a (λ x y. leb (high_end a cs) (biased y)) c))
        → ((a : ℕ) → T (on_range a (λ x y. leb (biased x) (low_end a cs)) d)) → ((a : ℕ) → T (on_range a (λ x y. leb (high_end a cs) (biased y)) d)) → T (compatible c d)
    pair (range a l h) (range b m i) e f cl ch dl dh = off a b (le_z l i && le_z m h) at
      where
        at : T (eqb a b) → T (le_z l i && le_z m h)
        at q =
            let same = eqb→eq a b q in
            let u = entered k a l h e in
            let v = entered k b m i f in
            let dl' : T (on_range a (λ x y. leb (biased x) (low_end a cs)) (range a m m)) = rw same (dl b) in
            let dh' : T (on_range a (λ x y. leb (high_end a cs) (biased y)) (range a i i)) = rw same (dh b) in
            and (le_z l i) (le_z m h) (below a l i u.from u.upto u.low v.high (cl a) dh') (below a m h u.from u.upto v.low u.high dl' (ch a))
    pair (range a l h) (atmost b c x) e f cl ch dl dh = tt
    pair (atmost a b c) d e f cl ch dl dh = tt

    agreeing : T (pairwise cs)
    agreeing =
        at_all (λ c. all (compatible c) cs) (atmost 0 0 none) cs
        (λ i l. at_all (compatible (get_or cs i (atmost 0 0 none))) (atmost 0 0 none) cs
        (λ j m. pair (get_or cs i (atmost 0 0 none)) (get_or cs j (atmost 0 0 none)) (all_at (entry k) cs i (atmost 0 0 none) l fits) (all_at (entry k) cs j (atmost 0 0 none) m fits)
        (λ a. all_at (on_range a (λ x y. leb (biased x) (low_end a cs))) cs i (atmost 0 0 none) l (low_each a (low_end a cs) cs (omega arith)))
        (λ a. all_at (on_range a (λ x y. leb (high_end a cs) (biased y))) cs i (atmost 0 0 none) l (high_each a (high_end a cs) cs (omega arith)))
        (λ a. all_at (on_range a (λ x y. leb (biased x) (low_end a cs))) cs j (atmost 0 0 none) m (low_each a (low_end a cs) cs (omega arith)))
        (λ a. all_at (on_range a (λ x y. leb (high_end a cs) (biased y))) cs j (atmost 0 0 none) m (high_each a (high_end a cs) cs (omega arith)))))

  pub pairwise_is : k ≤ attributes_limit → pairwise cs ≡ all (λ a. leb (low_end (suc a) cs) (high_end (suc a) cs)) (count_from 0 attributes_limit)
  pairwise_is few =
      same_truth (pairwise cs) (all (λ a. leb (low_end (suc a) cs) (high_end (suc a) cs)) (count_from 0 attributes_limit))
      (λ t. all_count_lem (λ a. leb (low_end (suc a) cs) (high_end (suc a) cs)) 0 attributes_limit (λ a l m. le→leb (low_end (suc a) cs) (high_end (suc a) cs) (met (suc a) t)))
      (λ t. agreeing (λ a p q. back t a p q))
    where
      back : T (all (λ a. leb (low_end (suc a) cs) (high_end (suc a) cs)) (count_from 0 attributes_limit)) → (a : ℕ) → 0 < a → a ≤ k → low_end a cs ≤ high_end a cs
      back t zero p q = absurd (omega arith)
      back t (suc a) p q = leb→le (low_end (suc a) cs) (high_end (suc a) cs) (count_all (λ b. leb (low_end (suc b) cs) (high_end (suc b) cs)) 0 attributes_limit t a (omega arith) (omega arith))
