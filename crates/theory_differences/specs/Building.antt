-- The matrix of a list of conditions stands for them, so the computed test says whether some values meet them; otherwise a cycle is negative.
use Rattle.std.specs.Prelude.{ℕ, zero, suc, ◌+◌, ◌*◌, ◌/◌, ◌%◌, ◌≤◌, ◌<◌, ◌≡◌, refl, ◌⊎◌, ◌↔◌, List, [], ◌∷◌, map, T, ℤ, pos, neg_ℤ, ◌+ℤ◌, get_or, length, ◌≤ℤ◌}
use Rattle.std.proofs.Common.{arith, sym, ap, ap₂, ◌∙◌, subst, inl, inr, length-set, ext_get_or}
use Rattle.std.proofs.Math.Decide.{ℕ_discrete}
use Rattle.std.proofs.Math.Option.{Option}
use Rattle.std.proofs.Math.IntN.{+ℤ_idl, +ℤ_idr}
use Rattle.std.specs.Int.Signed.{le_z, ≤ℤ_refl}
use Rattle.meaning.specs.Limits.{attributes_limit}
use Rattle.meaning.specs.Base.{In, count_from}
use Rattle.meaning.specs.Grammar.{Condition, range, atmost}
use Rattle.meaning.specs.Value.{added, holds}
use Rattle.meaning.specs.Differences.{bound, at, lesser, lowered, constrained, matrix_of, closed, none_negative, solvable}
use Rattle.theory_base.specs.Members.{in_from, from_in, all_in, in_all, same_truth}
use Rattle.theory_differences.specs.Order.{lesser_first, lesser_second, lesser_keeps, ≤-is, ≤_trans}
use Rattle.meaning_statements.specs.CompareStatements.{value_in, Satisfiable, Edge, highest_edge, lowest_edge, high_edge, low_edge, atmost_edge, Walk, step, join, NegativeCycle}
use Rattle.theory_differences.specs.Graph.{Node, Known, AllKnown, no_negative_cycle}
use Rattle.theory_differences.specs.Closing.{put_same, put_column, put_row, Every}
use Rattle.theory_differences.specs.Solving.{NoneNegative}
use Rattle.theory_differences.specs.Decided.{EntriesAreWalks, found, cycle, either, listed, length_listed, get_d_listed, Diagonal, clear, negative, diagonal}

-- ---- one entry lowered

pub lowered_size : (l : List ℤ) (i j : ℕ) (w : ℤ) → length l ≡ 81 → length (lowered l i j w) ≡ 81
lowered_size l i j w e = length-set l (i * 9 + j) (lesser (at l i j) w) ∙ e

-- an entry is the old one, or the lowered one
pub by_lowered : (P : ℕ → ℕ → ℤ → Type 0) (l : List ℤ) (i j : ℕ) (w : ℤ) → length l ≡ 81 → i < 9 → j < 9 → P i j (lesser (at l i j) w) → (a b : ℕ) → b < 9 → P a b (at l a b) → P a b (at (lowered l i j w) a b)
by_lowered P l i j w e p q x a b s y = go (ℕ_discrete a i) (ℕ_discrete b j)
  where
    go : Dec (a ≡ i) → Dec (b ≡ j) → P a b (at (lowered l i j w) a b)
    go (yes c) (yes d) = rw (c, d, put_same l i j (lesser (at l i j) w) e p q) x
    go (no c) d = rw (put_row l i j (lesser (at l i j) w) a b q s c) y
    go (yes c) (no d) = rw (put_column l i j (lesser (at l i j) w) a b q s d) y

pub lowered_every : (P : ℕ → ℕ → ℤ → Type 0) (l : List ℤ) (i j : ℕ) (w : ℤ) → length l ≡ 81 → i < 9 → j < 9 → P i j w → Every P l → Every P (lowered l i j w)
lowered_every P l i j w e p q x f a b r s = by_lowered P l i j w e p q (lesser_keeps (P i j) (at l i j) w (f i j p q) x) a b s (f a b r s)

pub lowered_lower : (l : List ℤ) (i j : ℕ) (w : ℤ) → length l ≡ 81 → i < 9 → j < 9 → (a b : ℕ) → b < 9 → at (lowered l i j w) a b ≤ℤ at l a b
lowered_lower l i j w e p q a b s = by_lowered (λ a b x. x ≤ℤ at l a b) l i j w e p q (lesser_first (at l i j) w) a b s (≤ℤ_refl (at l a b))

pub lowered_here : (l : List ℤ) (i j : ℕ) (w : ℤ) → length l ≡ 81 → i < 9 → j < 9 → at (lowered l i j w) i j ≤ℤ w
lowered_here l i j w e p q = ≤_trans (≤-is (put_same l i j (lesser (at l i j) w) e p q)) (lesser_second (at l i j) w)

-- ---- one condition more

edge_more : {n : ℕ} {cs : List (Condition ℕ)} (c : Condition ℕ) {i j : ℕ} {w : ℤ} → Edge n cs i j w → Edge n (c ∷ cs) i j w
edge_more c (highest_edge i) = highest_edge i
edge_more c (lowest_edge i) = lowest_edge i
edge_more c (high_edge a l h m) = high_edge a l h (inr m)
edge_more c (low_edge a l h m) = low_edge a l h (inr m)
edge_more c (atmost_edge a b d m) = atmost_edge a b d (inr m)

walk_more : {n : ℕ} {cs : List (Condition ℕ)} (c : Condition ℕ) {i j : ℕ} {w : ℤ} → Walk n cs i j w → Walk n (c ∷ cs) i j w
walk_more c (step e) = step (edge_more c e)
walk_more c (join p q) = join (walk_more c p) (walk_more c q)

-- the edges that a condition adds
abbrev Adds : Condition ℕ → ℕ → ℕ → ℤ → Type 0
Adds (range a l h) i j w = ((i ≡ a) × (j ≡ 0) × (w ≡ h)) ⊎ ((i ≡ 0) × (j ≡ a) × (w ≡ neg_ℤ l))
Adds (atmost a b c) i j w = (i ≡ a) × (j ≡ b) × (w ≡ added c)

edge_split : {n : ℕ} {cs : List (Condition ℕ)} (c : Condition ℕ) {i j : ℕ} {w : ℤ} → Edge n (c ∷ cs) i j w → Edge n cs i j w ⊎ Adds c i j w
edge_split c (highest_edge i) = inl (highest_edge i)
edge_split c (lowest_edge i) = inl (lowest_edge i)
edge_split c (high_edge a l h (inl e)) = inr (subst (λ d. Adds d a 0 h) e (inl (refl, refl, refl)))
edge_split c (high_edge a l h (inr m)) = inl (high_edge a l h m)
edge_split c (low_edge a l h (inl e)) = inr (subst (λ d. Adds d 0 a (neg_ℤ l)) e (inr (refl, refl, refl)))
edge_split c (low_edge a l h (inr m)) = inl (low_edge a l h m)
edge_split c (atmost_edge a b x (inl e)) = inr (subst (λ d. Adds d a b (added x)) e (refl, refl, refl))
edge_split c (atmost_edge a b x (inr m)) = inl (atmost_edge a b x m)

known_more : (c : Condition ℕ) (cs : List (Condition ℕ)) → Known c → ((d : Condition ℕ) → In d cs → Known d) → (d : Condition ℕ) → In d (c ∷ cs) → Known d
known_more c cs p f d (inl e) = rw e p
known_more c cs p f d (inr m) = f d m

stands_more : (l m : List ℤ) (n : ℕ) (cs : List (Condition ℕ)) (c : Condition ℕ) → EntriesAreWalks l n cs → Known c → length m ≡ 81 → Every (Walk n (c ∷ cs)) m → ((i j : ℕ) → j < 9 → at m i j ≤ℤ at l i j) → ((i j : ℕ) (w : ℤ) → Adds c i j w → at m i j ≤ℤ w) → EntriesAreWalks m n (c ∷ cs)
stands_more l m n cs c s p e f g h = record { fits = s.fits; size = e; known = known_more c cs p s.known; walks = f; covers = λ i j w x q r. go i j w q r (edge_split c x) }
  where
    go : (i j : ℕ) (w : ℤ) → i < 9 → j < 9 → Edge n cs i j w ⊎ Adds c i j w → at m i j ≤ℤ w
    go i j w q r (inl x) = ≤_trans (g i j r) (s.covers i j w x q r)
    go i j w q r (inr x) = h i j w x

pub stands_atmost : (l : List ℤ) (n : ℕ) (cs : List (Condition ℕ)) (a b : ℕ) (c : Option ℤ) → Node a → Node b → EntriesAreWalks l n cs → EntriesAreWalks (lowered l a b (added c)) n (atmost a b c ∷ cs)
stands_atmost l n cs a b c p q s = stands_more l (lowered l a b (added c)) n cs (atmost a b c) s (p, q) (lowered_size l a b (added c) e) walks lower adds
  where
    e : length l ≡ 81
    e = s.size

    a_inside : a < 9
    a_inside = omega (arith, p.1)

    b_inside : b < 9
    b_inside = omega (arith, q.1)

    walks : Every (Walk n (atmost a b c ∷ cs)) (lowered l a b (added c))
    walks = lowered_every (Walk n (atmost a b c ∷ cs)) l a b (added c) e a_inside b_inside (step (atmost_edge a b c (inl refl))) (λ i j p q. walk_more (atmost a b c) (s.walks i j p q))

    lower : (i j : ℕ) → j < 9 → at (lowered l a b (added c)) i j ≤ℤ at l i j
    lower i j r = lowered_lower l a b (added c) e a_inside b_inside i j r

    adds : (i j : ℕ) (w : ℤ) → Adds (atmost a b c) i j w → at (lowered l a b (added c)) i j ≤ℤ w
    adds i j w x = rw (x.0, x.1, x.2) (lowered_here l a b (added c) e a_inside b_inside)

pub stands_range : (l : List ℤ) (n : ℕ) (cs : List (Condition ℕ)) (a : ℕ) (x y : ℤ) → Node a → EntriesAreWalks l n cs → EntriesAreWalks (lowered (lowered l a 0 y) 0 a (neg_ℤ x)) n (range a x y ∷ cs)
stands_range l n cs a x y p s = stands_more l (lowered m 0 a (neg_ℤ x)) n cs (range a x y) s p (lowered_size m 0 a (neg_ℤ x) f) walks lower adds
  where
    m : List ℤ
    m = lowered l a 0 y

    e : length l ≡ 81
    e = s.size

    f : length m ≡ 81
    f = lowered_size l a 0 y e

    inside : a < 9
    inside = omega (arith, p.1)

    walks : Every (Walk n (range a x y ∷ cs)) (lowered m 0 a (neg_ℤ x))
    walks =
        lowered_every (Walk n (range a x y ∷ cs)) m 0 a (neg_ℤ x) f (omega arith) inside (step (low_edge a x y (inl refl)))
        (lowered_every (Walk n (range a x y ∷ cs)) l a 0 y e inside (omega arith) (step (high_edge a x y (inl refl))) (λ i j p q. walk_more (range a x y) (s.walks i j p q)))

    lower : (i j : ℕ) → j < 9 → at (lowered m 0 a (neg_ℤ x)) i j ≤ℤ at l i j
    lower i j r = ≤_trans (lowered_lower m 0 a (neg_ℤ x) f (omega arith) inside i j r) (lowered_lower l a 0 y e inside (omega arith) i j r)

    adds : (i j : ℕ) (w : ℤ) → Adds (range a x y) i j w → at (lowered m 0 a (neg_ℤ x)) i j ≤ℤ w
    adds i j w (inl z) = rw (z.0, z.1, z.2) (≤_trans (lowered_lower m 0 a (neg_ℤ x) f (omega arith) inside a 0 (omega arith)) (lowered_here l a 0 y e inside (omega arith)))
    adds i j w (inr z) = rw (z.0, z.1, z.2) (lowered_here m 0 a (neg_ℤ x) f (omega arith) inside)

-- ---- no condition yet

-- from i to zero and from there to j
abbrev pub Fresh : ℕ → List ℤ → Type 0
Fresh n l = Every (λ i j x. x ≡ bound n i +ℤ bound n j) l

pub stands_fresh : (l : List ℤ) (n : ℕ) → n ≤ attributes_limit → length l ≡ 81 → Fresh n l → EntriesAreWalks l n []
unfolding bound
stands_fresh l n p e f =
    record {
      fits = p;
      size = e;
      known = λ c m. absurd m;
      walks = λ i j q r. rw (f i j q r) (join (step (highest_edge i)) (step (lowest_edge j)));
      covers = λ i j w x q r. go x q r;
    }
  where
    go : {i j : ℕ} {w : ℤ} → Edge n [] i j w → i < 9 → j < 9 → at l i j ≤ℤ w
    go (highest_edge i) q r = ≤-is (f i 0 q r ∙ +ℤ_idr (bound n i))
    go (lowest_edge j) q r = ≤-is (f 0 j q r ∙ +ℤ_idl (bound n j))
    go (high_edge a l h m) q r = absurd m
    go (low_edge a l h m) q r = absurd m
    go (atmost_edge a b c m) q r = absurd m

-- ---- the theorem

map_from : (f : ℕ → ℤ) (i n : ℕ) → map f (count_from i n) ≡ listed f i n
map_from f i zero = refl
map_from f i (suc n) = ap (λ z. f i ∷ z) (map_from f (suc i) n)

abbrev pub fresh : ℕ → ℕ → ℤ
fresh n t = bound n (t / 9) +ℤ bound n (t % 9)

fresh_list : (n : ℕ) → Fresh n (matrix_of n [])
fresh_list n i j p q =
    ap (λ l. at l i j) (map_from (fresh n) 0 81) ∙ (get_d_listed (fresh n) 0 81 (i * 9 + j) (omega arith) ∙ ap₂ (λ a b. bound n a +ℤ bound n b) (omega arith) (omega arith))

fresh_size : (n : ℕ) → length (matrix_of n []) ≡ 81
fresh_size n = ap length (map_from (fresh n) 0 81) ∙ length_listed (fresh n) 0 81

-- a matrix filled so is the one without a condition
pub is_fresh : (n : ℕ) (l : List ℤ) → length l ≡ 81 → ((t : ℕ) → t < 81 → get_or l t (pos 0) ≡ fresh n t) → l ≡ matrix_of n []
is_fresh n l e f = ext_get_or (pos 0) l (matrix_of n []) (e ∙ sym (fresh_size n)) each
  where
    each : (t : ℕ) → t < length l → get_or l t (pos 0) ≡ get_or (matrix_of n []) t (pos 0)
    each t h =
        let k : t < 81 = omega arith in
        f t k ∙ sym (ap (λ z. get_or z t (pos 0)) (map_from (fresh n) 0 81) ∙ (get_d_listed (fresh n) 0 81 t k ∙ ap (fresh n) (omega arith)))

stands_constrained : (c : Condition ℕ) (l : List ℤ) (n : ℕ) (cs : List (Condition ℕ)) → Known c → EntriesAreWalks l n cs → EntriesAreWalks (constrained c l) n (c ∷ cs)
stands_constrained (range a x y) l n cs p s = stands_range l n cs a x y p s
stands_constrained (atmost a b c) l n cs p s = stands_atmost l n cs a b c p.0 p.1 s

pub stands_matrix : (n : ℕ) (cs : List (Condition ℕ)) → n ≤ attributes_limit → AllKnown cs → EntriesAreWalks (matrix_of n cs) n cs
stands_matrix n [] p f = stands_fresh (matrix_of n []) n p (fresh_size n) (fresh_list n)
stands_matrix n (c ∷ cs) p f = stands_constrained c (matrix_of n cs) n cs (f c (inl refl)) (stands_matrix n cs p (λ d m. f d (inr m)))

-- 02 (j): "the check finds such values or shows that the differences close a cycle with a negative sum, bounds counted in"
pub values_or_cycle : (n : ℕ) (cs : List (Condition ℕ)) → n ≤ attributes_limit → AllKnown cs → Satisfiable n cs ⊎ NegativeCycle n cs
values_or_cycle n cs p f = either (matrix_of n cs) n cs (stands_matrix n cs p f)

pub satisfiable_exactly : (n : ℕ) (cs : List (Condition ℕ)) → n ≤ attributes_limit → AllKnown cs → Satisfiable n cs ↔ (NegativeCycle n cs → ⊥)
satisfiable_exactly n cs p f = (no_negative_cycle n cs f, λ k. go k (values_or_cycle n cs p f))
  where
    go : (NegativeCycle n cs → ⊥) → Satisfiable n cs ⊎ NegativeCycle n cs → Satisfiable n cs
    go k (inl s) = s
    go k (inr c) = absurd (k c)

-- ---- the computed test

pub none_negative_lem : (l : List ℤ) → T (none_negative l) → NoneNegative (at l) 9
none_negative_lem l t k h = record { le = all_in (λ k. le_z (pos 0) (at l k k)) (count_from 0 9) t k (in_from 0 9 k (omega arith) (omega arith)) }

pub all_none_negative : (l : List ℤ) → NoneNegative (at l) 9 → T (none_negative l)
all_none_negative l f = in_all (λ k. le_z (pos 0) (at l k k)) (count_from 0 9) (λ k i. (f k (from_in 0 9 k i).1).le)

pub solvable_values : (n : ℕ) (cs : List (Condition ℕ)) → n ≤ attributes_limit → AllKnown cs → T (solvable n cs) → Satisfiable n cs
solvable_values n cs p f t = record { values = _; meets = found (matrix_of n cs) n cs (stands_matrix n cs p f) (none_negative_lem (closed (matrix_of n cs)) t) }

pub values_solvable : (n : ℕ) (cs : List (Condition ℕ)) → n ≤ attributes_limit → AllKnown cs → Satisfiable n cs → T (solvable n cs)
values_solvable n cs p f s = go (diagonal (at (closed (matrix_of n cs))) 9)
  where
    go : Diagonal (at (closed (matrix_of n cs))) 9 → T (solvable n cs)
    go (clear h) = all_none_negative (closed (matrix_of n cs)) h
    go (negative k l h) = absurd (no_negative_cycle n cs f s (cycle (matrix_of n cs) n cs (stands_matrix n cs p f) k l h))

-- ---- neither the order of the conditions nor their doubling plays a part

module _ (n : ℕ) (few : n ≤ attributes_limit) (cs ds : List (Condition ℕ)) (f : AllKnown cs) (into : (c : Condition ℕ) → In c ds → In c cs) where
  fewer : Satisfiable n cs → Satisfiable n ds
  fewer s =
      let v = s.values in
      let m = s.meets in
      record { values = v; meets = record { size = m.size; ranged = m.ranged; each = in_all (holds (value_in v)) ds (λ c i. all_in (holds (value_in v)) cs m.each c (into c i)) } }

  pub solvable_fewer : T (solvable n cs) → T (solvable n ds)
  solvable_fewer t = values_solvable n ds few (λ c i. f c (into c i)) (fewer (solvable_values n cs few f t))

pub solvable_same : (n : ℕ) → n ≤ attributes_limit → (cs ds : List (Condition ℕ)) → AllKnown cs → ((c : Condition ℕ) → In c ds → In c cs) → ((c : Condition ℕ) → In c cs → In c ds) → solvable n cs ≡ solvable n ds
solvable_same n few cs ds f into from = same_truth (solvable n cs) (solvable n ds) (solvable_fewer n few cs ds f into) (solvable_fewer n few ds cs (λ c i. f c (into c i)) from)
