-- Laws for the proofs of the functions: bits of signed locals, the filling of the matrix, and the loops of the elimination.
use Prim.Native.Nat.{ℕ, zero, suc, ◌+◌, ◌-◌, ◌*◌, ◌/◌, ◌≤◌, ◌<◌}
use native.Mathlib.Omega.{arith}
use native.Mathlib.Decide.{ℕ_discrete, dec_lt}
use native.Mathlib.Numerals.{add-one}
use mathlib.Core.Path.{◌≡◌, refl, sym}
use mathlib.Core.Bool.{Bool, true, false}
use mathlib.Core.List.{List, []}
use Rattle.meaning.specs.Value.{highest}
use Rattle.theory_base.specs.Members.{T→true, false_of}
use lib.IntN.{ℤ, pos, nat_abs, ◌+ℤ◌}
use lib.ListN.{get_or, length, set}
use lib.Seq.{get_or-set_same, get_or-set_other}
use mir.Syntax.{w64}
use mir.Facts.{to_z-of_z}
use mir.Val.{SFits, to_z, of_z}
use lib.Signed.{lt_z, ◌≤ℤ◌, ◌<ℤ◌, lt_z_yes, lt_z_no, clash_ℤ}
use Rattle.meaning.specs.Differences.{matrix_of, none_negative, at, bound, closing, eliminated, lowered, put, relaxed, row_relaxed, shorter}
use Rattle.theory_differences.specs.Order.{lesser_keeps}
use Rattle.theory_base.specs.Absolute.{nat_abs_add}
use Rattle.theory_differences.specs.Graph.{bound_there, bound_absent}
use Rattle.theory_differences.specs.Solving.{NoneNegative}
use Rattle.theory_differences.specs.Closing.{Row, row, Small, small_more, eliminated_small, room, room_most}
use Rattle.theory_differences.specs.Decided.{limit}
use Rattle.theory_differences.specs.Building.{fresh, is_fresh, none_negative_lem, all_none_negative, lowered_every}
use Rattle.clash_cycles.specs.differences.Tested.{Negative, Tested}

-- ---- a signed local holds bits

pub flag : (op : ℤ → ℤ → Bool) (z d : ℤ) → SFits w64 z → op z d ≡ op (to_z w64 (of_z w64 z)) d
flag op z d f = rw (to_z-of_z f)

-- ---- bounds

pub bound_zero : (n i : ℕ) → i ≡ 0 → bound n i ≡ pos 0
unfolding bound
bound_zero n i e = rw e

pub bound_high : (n i : ℕ) → (i ≡ 0 → ⊥) → i ≤ n → bound n i ≡ highest
bound_high n zero d h = absurd (d refl)
bound_high n (suc a) d h = bound_there n a h

pub bound_off : (n i : ℕ) → (1 ≤ i → i ≤ n → ⊥) → bound n i ≡ pos 0
bound_off n zero d = bound_zero n 0 refl
bound_off n (suc a) d = bound_absent n a (omega (arith, dec_lt n (suc a)))

-- ---- the first t entries of a fresh matrix

abbrev pub Filled : ℕ → ℕ → List ℤ → Type 0
Filled n t l = (s : ℕ) → s < t → (get_or l s (pos 0) ≡ fresh n s) × (nat_abs (get_or l s (pos 0)) ≤ limit)

pub filled_more : (n t : ℕ) (l : List ℤ) (x : ℤ) → length l ≡ 81 → t < 81 → Filled n t l → x ≡ fresh n t → nat_abs x ≤ limit → Filled n (t + 1) (set l t x)
filled_more n t l x e p f d h s q = go (ℕ_discrete s t)
  where
    go : Dec (s ≡ t) → (get_or (set l t x) s (pos 0) ≡ fresh n s) × (nat_abs (get_or (set l t x) s (pos 0)) ≤ limit)
    go (yes c) = rw (c, get_or-set_same l t x (pos 0) (omega arith)) (d, h)
    go (no c) = rw (get_or-set_other l t s x (pos 0) c) (f s (omega arith))

pub filled_matrix : (n : ℕ) (l : List ℤ) → length l ≡ 81 → Filled n 81 l → (l ≡ matrix_of n []) × Small limit l
filled_matrix n l e f = (is_fresh n l e (λ t h. (f t h).0), λ i j q r. (f (i * 9 + j) (omega arith)).1)

-- ---- a condition more

pub lowered_small : (l : List ℤ) (a b : ℕ) (c : ℤ) → length l ≡ 81 → a < 9 → b < 9 → nat_abs c ≤ limit → Small limit l → Small limit (lowered l a b c)
lowered_small l a b c e p q h f = lowered_every (λ i j x. nat_abs x ≤ limit) l a b c e p q h f

-- ---- the loops of the elimination

pub row_small : (c : ℕ) (l : List ℤ) (k i j : ℕ) → length l ≡ 81 → k < 9 → i < k → j ≤ k → Small c l → Small (c + c) (row_relaxed l k i j)
row_small c l k i j e p q r f a b s t = go (row l k i j e p q r) (ℕ_discrete a i) (dec_lt b j)
  where
    go : Row l k i j (row_relaxed l k i j) → Dec (a ≡ i) → Dec (b < j) → nat_abs (at (row_relaxed l k i j) a b) ≤ c + c
    go o (no d) h = rw (o.others a b d t) (omega (arith, f a b s t))
    go o (yes d) (no h) = rw (d, o.later b (omega arith) t) (omega (arith, f i b (omega arith) t))
    go o (yes d) (yes h) = rw (d, o.done b h) (lesser_keeps (λ x. nat_abs x ≤ c + c) (at l i b) (at l i k +ℤ at l k b) (omega (arith, f i b (omega arith) t)) (omega (arith, nat_abs_add (at l i k) (at l k b), f i k (omega arith) p, f k b p t)))

pub row_turn : (l : List ℤ) (k i j : ℕ) (m : List ℤ) → m ≡ row_relaxed l k i j → put m i j (shorter m k i j) ≡ row_relaxed l k i (j + 1)
row_turn l k i j m e = rw (e, add-one j)

pub rows_turn : (l : List ℤ) (k i : ℕ) (m : List ℤ) → m ≡ relaxed l k i → row_relaxed m k i k ≡ relaxed l k (i + 1)
rows_turn l k i m e = rw (e, add-one i)

pub closing_turn : (l : List ℤ) (k : ℕ) → 0 < k → closing l k ≡ closing (eliminated l k) (k - 1)
closing_turn l zero h = absurd (omega arith)
closing_turn l (suc k) h = let e : suc k - 1 ≡ k = omega arith in rw e

pub small_turn : (l : List ℤ) (k : ℕ) → 0 < k → k < 9 → length l ≡ 81 → Small (room k) l → Small (room (k - 1)) (eliminated l k)
small_turn l zero h p e f = absurd (omega arith)
small_turn l (suc k) h p e f = let d : suc k - 1 ≡ k = omega arith in rw d (eliminated_small l k e p f)

-- below the room for no node
pub room_low : (l : List ℤ) (k : ℕ) → 0 < k → Small (room k) l → Small 576460752303423488 l
room_low l zero h f = absurd (omega arith)
room_low l (suc k) h f = small_more (room k / 2) 576460752303423488 l (omega (arith, room_most k)) f

-- ---- the diagonal

pub none_more : (M : ℕ → ℕ → ℤ) (k : ℕ) → NoneNegative M k → pos 0 ≤ℤ M k k → NoneNegative M (k + 1)
none_more M k f h i p = go (ℕ_discrete i k)
  where
    go : Dec (i ≡ k) → pos 0 ≤ℤ M i i
    go (yes e) = rw e h
    go (no d) = f i (omega arith)

pub tested_clear : (l : List ℤ) → NoneNegative (at l) 9 → Tested true l
tested_clear l f = record { clear = λ e. f; failed = λ e. absurd (T-true-false e) }
  where
    T-true-false : true ≡ false → ⊥
    T-true-false e = let z : ◌≡◌ {A = ℕ} 0 1 = cc in omega arith

pub tested_failed : (l : List ℤ) (k : ℕ) → k < 9 → at l k k <ℤ pos 0 → Tested false l
tested_failed l k p h = record { clear = λ e. absurd (T-false-true e); failed = λ e. record { node = k; below = p; sum = h } }
  where
    T-false-true : false ≡ true → ⊥
    T-false-true e = let z : ◌≡◌ {A = ℕ} 0 1 = cc in omega arith

pub lt_of : (a b : ℤ) → lt_z a b ≡ true → a <ℤ b
lt_of a b e = lt_z_yes (rw e tt)

pub le_of : (a b : ℤ) → lt_z a b ≡ false → b ≤ℤ a
le_of a b e = lt_z_no (rw e tt)

-- as one equation
pub tested_is : (r : Bool) (l : List ℤ) → Tested r l → r ≡ none_negative l
tested_is true l t = sym (T→true (none_negative l) (all_none_negative l (t.clear refl)))
tested_is false l t = sym (false_of (none_negative l) (λ h. clash_ℤ f.sum (none_negative_lem l h f.node f.below)))
  where
    f : Negative l
    f = t.failed refl
