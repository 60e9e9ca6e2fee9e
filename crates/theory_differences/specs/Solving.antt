-- A matrix M of differences whose later nodes have been eliminated has values that keep it, if its diagonal is not negative. The values are those of shortest paths: each node takes the least of what the nodes before it allow.
use Rattle.std.specs.Prelude.{ℕ, zero, suc, ◌≤◌, ◌<◌, ◌≡◌, refl, cond, eqb, ℤ, pos, ◌+ℤ◌, ◌≤ℤ◌}
use Rattle.std.proofs.Common.{arith, sym, ap, ap₂, ◌∙◌, eq-eqb, ne_eqb}
use Rattle.std.proofs.Math.Decide.{ℕ_discrete}
use Rattle.std.proofs.Math.IntN.{+ℤ_assoc, +ℤ_comm}
use Rattle.std.specs.Int.Signed.{≤ℤ_refl}
use Rattle.meaning.specs.Differences.{lesser}
use Rattle.theory_differences.specs.Order.{lesser_first, lesser_second, lesser_keeps, ≤-is, ≤_trans, plus_left, not_negative_cycle}
use Rattle.theory_differences.specs.Graph.{Keeps}

-- each node k below n was eliminated: what two edges by way of k say stands as an edge
abbrev pub Eliminated : (ℕ → ℕ → ℤ) → ℕ → Type 0
Eliminated M n = (k i j : ℕ) → k < n → i < k → j < k → M i j ≤ℤ (M i k +ℤ M k j)

abbrev pub NoneNegative : (ℕ → ℕ → ℤ) → ℕ → Type 0
NoneNegative M n = (k : ℕ) → k < n → pos 0 ≤ℤ M k k

-- ---- the least of f 0 to f m

abbrev pub least : (ℕ → ℤ) → ℕ → ℤ
least f zero = f 0
least f (suc m) = lesser (least f m) (f (suc m))

least_below : (f : ℕ → ℤ) (m j : ℕ) → j ≤ m → least f m ≤ℤ f j
least_below f zero j h = let e : j ≡ 0 = omega arith in rw e (≤ℤ_refl (f 0))
least_below f (suc m) j h = go (ℕ_discrete j (suc m)) (λ g. least_below f m j g)
  where
    before : (j ≡ suc m → ⊥) → j ≤ m
    before d = omega arith

    go : Dec (j ≡ suc m) → (j ≤ m → least f m ≤ℤ f j) → lesser (least f m) (f (suc m)) ≤ℤ f j
    go (yes e) k = rw e (lesser_second (least f m) (f (suc m)))
    go (no d) k = ≤_trans (lesser_first (least f m) (f (suc m))) (k (before d))

record Reached (f : ℕ → ℤ) (m : ℕ) (x : ℤ) : Type 0 where
  index : ℕ
  within : index ≤ m
  same : x ≡ f index

least_reached : (f : ℕ → ℤ) (m : ℕ) → Reached f m (least f m)
least_reached f zero = record { index = 0; within = omega arith; same = refl }
least_reached f (suc m) =
    let r = least_reached f m in
    lesser_keeps (Reached f (suc m)) (least f m) (f (suc m)) (record { index = r.index; within = omega (arith, r.within); same = r.same }) (record { index = suc m; within = omega arith; same = refl })

pub least_same : (f g : ℕ → ℤ) (m : ℕ) → ((j : ℕ) → j ≤ m → f j ≡ g j) → least f m ≡ least g m
least_same f g zero e = e 0 (omega arith)
least_same f g (suc m) e = ap₂ lesser (least_same f g m (λ j h. e j (omega arith))) (e (suc m) (omega arith))

pub least_keeps : (P : ℤ → Type 0) (f : ℕ → ℤ) (m : ℕ) → ((j : ℕ) → j ≤ m → P (f j)) → P (least f m)
least_keeps P f zero h = h 0 (omega arith)
least_keeps P f (suc m) h = lesser_keeps P (least f m) (f (suc m)) (least_keeps P f m (λ j q. h j (omega arith))) (h (suc m) (omega arith))

-- ---- the values

abbrev pub changed : (ℕ → ℤ) → ℕ → ℤ → ℕ → ℤ
changed v k x i = cond (eqb i k) x (v i)

abbrev pub solution : (ℕ → ℕ → ℤ) → ℕ → ℕ → ℤ
solution M zero = λ i. pos 0
solution M (suc m) = changed (solution M m) (suc m) (least (λ j. solution M m j +ℤ M (suc m) j) m)

pub at_changed : (v : ℕ → ℤ) (k : ℕ) (x : ℤ) (i : ℕ) → i ≡ k → changed v k x i ≡ x
at_changed v k x i e = rw (eq-eqb i k e)

pub off_changed : (v : ℕ → ℤ) (k : ℕ) (x : ℤ) (i : ℕ) → (i ≡ k → ⊥) → changed v k x i ≡ v i
off_changed v k x i d = rw (ne_eqb i k d)

pub solution_zero : (M : ℕ → ℕ → ℤ) (n : ℕ) → solution M n 0 ≡ pos 0
solution_zero M zero = refl
solution_zero M (suc m) = off_changed (solution M m) (suc m) (least (λ j. solution M m j +ℤ M (suc m) j) m) 0 (λ e. omega arith) ∙ solution_zero M m

pub solution_keeps : (M : ℕ → ℕ → ℤ) (m : ℕ) → Eliminated M (suc m) → NoneNegative M (suc m) → (i j : ℕ) → i ≤ m → j ≤ m → Keeps (solution M m) i j (M i j)
solution_keeps M zero el nn i j p q =
    let e : i ≡ 0 = omega arith in
    let d : j ≡ 0 = omega arith in
    rw (e, d) (not_negative_cycle (pos 0) (M 0 0) (nn 0 (omega arith)))
solution_keeps M (suc m) el nn i j p q = go (ℕ_discrete i (suc m)) (ℕ_discrete j (suc m)) (λ i j p q. solution_keeps M m (λ k i j s. el k i j (omega arith)) (λ k s. nn k (omega arith)) i j p q)
  where
    v : ℕ → ℤ
    v = solution M m

    f : ℕ → ℤ
    f j = v j +ℤ M (suc m) j

    x : ℤ
    x = least f m

    here : (i : ℕ) → i ≡ suc m → changed v (suc m) x i ≡ x
    here i e = at_changed v (suc m) x i e

    there : (i : ℕ) → (i ≡ suc m → ⊥) → changed v (suc m) x i ≡ v i
    there i d = off_changed v (suc m) x i d

    smaller : (i : ℕ) → i ≤ suc m → (i ≡ suc m → ⊥) → i ≤ m
    smaller i p d = omega arith

    -- the new node is the lower end
    by_way : (i : ℕ) → i ≤ m → ((i j : ℕ) → i ≤ m → j ≤ m → Keeps v i j (M i j)) → v i ≤ℤ (x +ℤ M i (suc m))
    by_way i p ih =
        let r = least_reached f m in
        let j = r.index in
        let s : v i ≤ℤ (v j +ℤ M i j) = ih i j p r.within in
        let t : M i j ≤ℤ (M i (suc m) +ℤ M (suc m) j) = el (suc m) i j (omega arith) (omega arith) (omega (arith, r.within)) in
        let e : v j +ℤ (M i (suc m) +ℤ M (suc m) j) ≡ x +ℤ M i (suc m) = ap (λ z. v j +ℤ z) (+ℤ_comm (M i (suc m)) (M (suc m) j)) ∙ sym (+ℤ_assoc (v j) (M (suc m) j) (M i (suc m))) ∙ ap (λ z. z +ℤ M i (suc m)) (sym r.same) in
        ≤_trans s (≤_trans (plus_left (v j) t) (≤-is e))

    go : Dec (i ≡ suc m) → Dec (j ≡ suc m) → ((i j : ℕ) → i ≤ m → j ≤ m → Keeps v i j (M i j)) → changed v (suc m) x i ≤ℤ (changed v (suc m) x j +ℤ M i j)
    go (yes a) (yes b) ih = rw (here i a, here j b, a, b) (not_negative_cycle x (M (suc m) (suc m)) (nn (suc m) (omega arith)))
    go (yes a) (no b) ih = rw (here i a, there j b, a) (least_below f m j (smaller j q b))
    go (no a) (yes b) ih = rw (there i a, here j b, b) (by_way i (smaller i p a) ih)
    go (no a) (no b) ih = rw (there i a, there j b) (ih i j (smaller i p a) (smaller j q b))
