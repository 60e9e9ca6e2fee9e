-- The elimination of a matrix of 81 numbers: what each turn does to each entry, what holds of all entries, and that no sum can overflow.
use Rattle.std.specs.Prelude.{ℕ, zero, suc, ◌+◌, ◌*◌, ◌/◌, ◌≤◌, ◌<◌, ◌≡◌, refl, List, ℤ, pos, nat_abs, ◌+ℤ◌, length, ◌≤ℤ◌}
use Rattle.std.proofs.Common.{arith, sym, ap₂, ◌∙◌, length-set, get_or-set_same, get_or-set_other}
use Rattle.std.proofs.Math.Decide.{ℕ_discrete, dec_lt}
use Rattle.std.specs.Int.Signed.{≤ℤ_refl}
use Rattle.meaning.specs.Limits.{attributes_limit}
use Rattle.meaning.specs.Differences.{at, put, lesser, shorter, row_relaxed, relaxed, eliminated, closing, closed}
use Rattle.theory_differences.specs.Order.{lesser_first, lesser_second, lesser_keeps, ≤-is, ≤_trans}
use Rattle.theory_base.specs.Absolute.{nat_abs_add}
use Rattle.theory_differences.specs.Solving.{Eliminated}

-- ---- one entry

pub put_same : (l : List ℤ) (i j : ℕ) (x : ℤ) → length l ≡ 81 → i < 9 → j < 9 → at (put l i j x) i j ≡ x
put_same l i j x e p q = get_or-set_same l (i * 9 + j) x (pos 0) (omega arith)

pub put_column : (l : List ℤ) (i j : ℕ) (x : ℤ) (a b : ℕ) → j < 9 → b < 9 → (b ≡ j → ⊥) → at (put l i j x) a b ≡ at l a b
put_column l i j x a b p q d = get_or-set_other l (i * 9 + j) (a * 9 + b) x (pos 0) (λ e. d (omega arith))

pub put_row : (l : List ℤ) (i j : ℕ) (x : ℤ) (a b : ℕ) → j < 9 → b < 9 → (a ≡ i → ⊥) → at (put l i j x) a b ≡ at l a b
put_row l i j x a b p q d = get_or-set_other l (i * 9 + j) (a * 9 + b) x (pos 0) (λ e. d (omega arith))

-- ---- a row

pub record Row (l : List ℤ) (k i j : ℕ) (m : List ℤ) : Type 0 where
  pub size : length m ≡ 81
  pub done : (b : ℕ) → b < j → at m i b ≡ shorter l k i b
  pub later : (b : ℕ) → j ≤ b → b < 9 → at m i b ≡ at l i b
  pub others : (a b : ℕ) → (a ≡ i → ⊥) → b < 9 → at m a b ≡ at l a b

pub row : (l : List ℤ) (k i j : ℕ) → length l ≡ 81 → k < 9 → i < k → j ≤ k → Row l k i j (row_relaxed l k i j)
row l k i zero e p q r = record { size = e; done = λ b h. absurd (omega arith); later = λ b h g. refl; others = λ a b h g. refl }
row l k i (suc j) e p q r = next (row l k i j e p q (omega arith))
  where
    m : List ℤ
    m = row_relaxed l k i j

    next : Row l k i j m → Row l k i (suc j) (put m i j (shorter m k i j))
    next o =
        let value : shorter m k i j ≡ shorter l k i j = ap₂ lesser (o.later j (omega arith) (omega arith)) (ap₂ ◌+ℤ◌ (o.later k (omega arith) p) (o.others k j (λ z. omega arith) (omega arith))) in
        record {
          size = length-set m (i * 9 + j) (shorter m k i j) ∙ o.size;
          done = λ b h. at_done o value b h (ℕ_discrete b j);
          later = λ b h g. put_column m i j (shorter m k i j) i b (omega arith) g (λ z. omega arith) ∙ o.later b (omega arith) g;
          others = λ a b h g. put_row m i j (shorter m k i j) a b (omega arith) g h ∙ o.others a b h g;
        }
      where
        at_done : Row l k i j m → shorter m k i j ≡ shorter l k i j → (b : ℕ) → b < suc j → Dec (b ≡ j) → at (put m i j (shorter m k i j)) i b ≡ shorter l k i b
        at_done o value b h (yes d) = rw d (put_same m i j (shorter m k i j) o.size (omega arith) (omega arith) ∙ value)
        at_done o value b h (no d) = put_column m i j (shorter m k i j) i b (omega arith) (omega arith) d ∙ o.done b (omega arith)

-- ---- the rows

pub record RowsDone (l : List ℤ) (k i : ℕ) (m : List ℤ) : Type 0 where
  pub size : length m ≡ 81
  pub done : (a b : ℕ) → a < i → b < k → at m a b ≡ shorter l k a b
  pub later : (a b : ℕ) → i ≤ a → b < 9 → at m a b ≡ at l a b
  pub right : (a b : ℕ) → k ≤ b → b < 9 → at m a b ≡ at l a b

pub rows : (l : List ℤ) (k i : ℕ) → length l ≡ 81 → k < 9 → i ≤ k → RowsDone l k i (relaxed l k i)
rows l k zero e p q = record { size = e; done = λ a b h g. absurd (omega arith); later = λ a b h g. refl; right = λ a b h g. refl }
rows l k (suc i) e p q = next (rows l k i e p (omega arith))
  where
    m : List ℤ
    m = relaxed l k i

    next : RowsDone l k i m → RowsDone l k (suc i) (row_relaxed m k i k)
    next o = from (row m k i k o.size p (omega arith) (omega arith))
      where
        from : Row m k i k (row_relaxed m k i k) → RowsDone l k (suc i) (row_relaxed m k i k)
        from w =
            record {
              size = w.size;
              done = λ a b h g. at_done a b h g (ℕ_discrete a i);
              later = λ a b h g. w.others a b (λ z. omega arith) g ∙ o.later a b (omega arith) g;
              right = λ a b h g. at_right a b h g (ℕ_discrete a i);
            }
          where
            at_done : (a b : ℕ) → a < suc i → b < k → Dec (a ≡ i) → at (row_relaxed m k i k) a b ≡ shorter l k a b
            at_done a b h g (yes d) = rw d (w.done b g ∙ ap₂ lesser (o.later i b (omega arith) (omega arith)) (ap₂ ◌+ℤ◌ (o.later i k (omega arith) p) (o.later k b (omega arith) (omega arith))))
            at_done a b h g (no d) = w.others a b d (omega arith) ∙ o.done a b (omega arith) g

            at_right : (a b : ℕ) → k ≤ b → b < 9 → Dec (a ≡ i) → at (row_relaxed m k i k) a b ≡ at l a b
            at_right a b h g (yes d) = rw d (w.later b h g ∙ o.right i b h g)
            at_right a b h g (no d) = w.others a b d g ∙ o.right a b h g

-- ---- what holds of all entries

abbrev pub Every : (ℕ → ℕ → ℤ → Type 0) → List ℤ → Type 0
Every P l = (i j : ℕ) → i < 9 → j < 9 → P i j (at l i j)

-- what holds of two lengths holds of their sum
abbrev pub Joins : (ℕ → ℕ → ℤ → Type 0) → Type 0
Joins P = (i k j : ℕ) (x y : ℤ) → P i k x → P k j y → P i j (x +ℤ y)

-- no entry is further from zero
abbrev pub Small : ℕ → List ℤ → Type 0
Small b l = Every (λ i j x. nat_abs x ≤ b) l

-- an entry of relaxed rows is an old one or one by way of k
by_entry : (P : ℤ → Type 0) (l : List ℤ) (k i : ℕ) → length l ≡ 81 → k < 9 → i ≤ k → (a b : ℕ) → a < 9 → b < 9 → P (at l a b) → P (at l a k +ℤ at l k b) → P (at (relaxed l k i) a b)
by_entry P l k i e p q a b r s x y = go (rows l k i e p q) (dec_lt a i) (dec_lt b k)
  where
    go : RowsDone l k i (relaxed l k i) → Dec (a < i) → Dec (b < k) → P (at (relaxed l k i) a b)
    go o (yes h) (yes g) = rw (o.done a b h g) (lesser_keeps P (at l a b) (at l a k +ℤ at l k b) x y)
    go o (no h) g = rw (o.later a b (omega arith) s) x
    go o (yes h) (no g) = rw (o.right a b (omega arith) s) x

pub relaxed_every : (P : ℕ → ℕ → ℤ → Type 0) → Joins P → (l : List ℤ) (k i : ℕ) → length l ≡ 81 → k < 9 → i ≤ k → Every P l → Every P (relaxed l k i)
relaxed_every P join l k i e p q f a b r s = by_entry (P a b) l k i e p q a b r s (f a b r s) (join a k b (at l a k) (at l k b) (f a k r p) (f k b p s))

pub relaxed_small : (c : ℕ) (l : List ℤ) (k i : ℕ) → length l ≡ 81 → k < 9 → i ≤ k → Small c l → Small (c + c) (relaxed l k i)
relaxed_small c l k i e p q f a b r s = by_entry (λ x. nat_abs x ≤ c + c) l k i e p q a b r s (omega (arith, f a b r s)) (omega (arith, nat_abs_add (at l a k) (at l k b), f a k r p, f k b p s))

pub relaxed_lower : (l : List ℤ) (k i : ℕ) → length l ≡ 81 → k < 9 → i ≤ k → (a b : ℕ) → b < 9 → at (relaxed l k i) a b ≤ℤ at l a b
relaxed_lower l k i e p q a b s = go (rows l k i e p q) (dec_lt a i) (dec_lt b k)
  where
    go : RowsDone l k i (relaxed l k i) → Dec (a < i) → Dec (b < k) → at (relaxed l k i) a b ≤ℤ at l a b
    go o (yes h) (yes g) = ≤_trans (≤-is (o.done a b h g)) (lesser_first (at l a b) (at l a k +ℤ at l k b))
    go o (no h) g = ≤-is (o.later a b (omega arith) s)
    go o (yes h) (no g) = ≤-is (o.right a b (omega arith) s)

-- ---- all nodes

pub closing_size : (l : List ℤ) (k : ℕ) → length l ≡ 81 → k < 9 → length (closing l k) ≡ 81
closing_size l zero e p = e
closing_size l (suc k) e p = closing_size (eliminated l (suc k)) k (rows l (suc k) (suc k) e p (omega arith)).size (omega arith)

pub closing_every : (P : ℕ → ℕ → ℤ → Type 0) → Joins P → (l : List ℤ) (k : ℕ) → length l ≡ 81 → k < 9 → Every P l → Every P (closing l k)
closing_every P join l zero e p f = f
closing_every P join l (suc k) e p f = closing_every P join (eliminated l (suc k)) k (rows l (suc k) (suc k) e p (omega arith)).size (omega arith) (relaxed_every P join l (suc k) (suc k) e p (omega arith) f)

pub closing_lower : (l : List ℤ) (k : ℕ) → length l ≡ 81 → k < 9 → (a b : ℕ) → b < 9 → at (closing l k) a b ≤ℤ at l a b
closing_lower l zero e p a b s = ≤ℤ_refl (at l a b)
closing_lower l (suc k) e p a b s =
    ≤_trans (closing_lower (eliminated l (suc k)) k (rows l (suc k) (suc k) e p (omega arith)).size (omega arith) a b s) (relaxed_lower l (suc k) (suc k) e p (omega arith) a b s)

-- rows and columns past k stay
closing_row : (l : List ℤ) (k : ℕ) → length l ≡ 81 → k < 9 → (a b : ℕ) → k < a → b < 9 → at (closing l k) a b ≡ at l a b
closing_row l zero e p a b r s = refl
closing_row l (suc k) e p a b r s =
    let o = rows l (suc k) (suc k) e p (omega arith) in
    closing_row (eliminated l (suc k)) k o.size (omega arith) a b (omega arith) s ∙ o.later a b (omega arith) s

closing_column : (l : List ℤ) (k : ℕ) → length l ≡ 81 → k < 9 → (a b : ℕ) → k < b → b < 9 → at (closing l k) a b ≡ at l a b
closing_column l zero e p a b r s = refl
closing_column l (suc k) e p a b r s =
    let o = rows l (suc k) (suc k) e p (omega arith) in
    closing_column (eliminated l (suc k)) k o.size (omega arith) a b (omega arith) s ∙ o.right a b (omega arith) s

pub closing_eliminated : (l : List ℤ) (k : ℕ) → length l ≡ 81 → k < 9 → Eliminated (at (closing l k)) (suc k)
closing_eliminated l zero e p c i j r s t = absurd (omega arith)
closing_eliminated l (suc k) e p c i j r s t = go (ℕ_discrete c (suc k)) (closing_eliminated m k o.size (omega arith))
  where
    m : List ℤ
    m = eliminated l (suc k)

    o : RowsDone l (suc k) (suc k) m
    o = rows l (suc k) (suc k) e p (omega arith)

    last : i < suc k → j < suc k → at (closing m k) i j ≤ℤ (at (closing m k) i (suc k) +ℤ at (closing m k) (suc k) j)
    last s t =
        let across : at (closing m k) i (suc k) ≡ at l i (suc k) = closing_column m k o.size (omega arith) i (suc k) (omega arith) p ∙ o.right i (suc k) (omega arith) p in
        let down : at (closing m k) (suc k) j ≡ at l (suc k) j = closing_row m k o.size (omega arith) (suc k) j (omega arith) (omega arith) ∙ o.later (suc k) j (omega arith) (omega arith) in
        ≤_trans (closing_lower m k o.size (omega arith) i j (omega arith)) (≤_trans (≤-is (o.done i j s t)) (≤_trans (lesser_second (at l i j) (at l i (suc k) +ℤ at l (suc k) j)) (≤-is (sym (ap₂ ◌+ℤ◌ across down)))))

    go : Dec (c ≡ suc k) → Eliminated (at (closing m k)) (suc k) → at (closing m k) i j ≤ℤ (at (closing m k) i c +ℤ at (closing m k) c j)
    go (yes d) ih = rw d (last (omega arith) (omega arith))
    go (no d) ih = ih c i j (omega arith) s t

-- ---- no overflow: an entry doubles at most with each node

-- what may stand in the matrix while the nodes k to 1 are left
abbrev pub room : ℕ → ℕ
room zero = 576460752303423488
room (suc k) = room k / 2

pub room_most : (k : ℕ) → room k ≤ 576460752303423488
room_most zero = omega arith
room_most (suc k) = omega (arith, room_most k)

pub small_more : (b c : ℕ) (l : List ℤ) → b ≤ c → Small b l → Small c l
small_more b c l h f i j p q = omega (arith, f i j p q)

pub eliminated_small : (l : List ℤ) (k : ℕ) → length l ≡ 81 → suc k < 9 → Small (room (suc k)) l → Small (room k) (eliminated l (suc k))
eliminated_small l k e p f = small_more (room k / 2 + room k / 2) (room k) (eliminated l (suc k)) (omega arith) (relaxed_small (room (suc k)) l (suc k) (suc k) e p (omega arith) f)

pub closing_small : (l : List ℤ) (k : ℕ) → length l ≡ 81 → k < 9 → Small (room k) l → Small 576460752303423488 (closing l k)
closing_small l zero e p f = f
closing_small l (suc k) e p f = closing_small (eliminated l (suc k)) k (rows l (suc k) (suc k) e p (omega arith)).size (omega arith) (eliminated_small l k e p f)

pub closed_small : (l : List ℤ) → length l ≡ 81 → Small (room attributes_limit) l → Small 576460752303423488 (closed l)
unfolding closed
closed_small l e f = closing_small l attributes_limit e (omega arith) f

pub closed_size : (l : List ℤ) → length l ≡ 81 → length (closed l) ≡ 81
unfolding closed
closed_size l e = closing_size l attributes_limit e (omega arith)
