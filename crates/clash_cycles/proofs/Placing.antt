-- Laws for the functions that place the values.
use Prim.Native.Nat.{ℕ, zero, suc, ◌+◌, ◌-◌, ◌*◌, ◌≤◌, ◌<◌}
use native.Mathlib.Omega.{arith}
use native.Mathlib.Decide.{ℕ_discrete}
use mathlib.Core.Path.{◌≡◌, refl, sym, ap, ap₂, ◌∙◌}
use Rattle.std.specs.Prelude.{Some, None}
use mathlib.Core.List.{List, ◌∷◌}
use lib.IntN.{ℤ, pos, negsuc, nat_abs, ◌+ℤ◌}
use lib.ListN.{length, set, replicate}
use lib.Seq.{get_or-set_same, get_or-set_other}
use Rattle.meaning.specs.Limits.{attributes_limit}
use Rattle.meaning.specs.Differences.{at, closed, lesser}
use Rattle.theory_base.specs.Absolute.{nat_abs_add}
use Rattle.theory_base.specs.Members.{replicate_at}
use Rattle.meaning.specs.Grammar.{Condition}
use Rattle.theory_differences.specs.Solving.{NoneNegative, least, least_same, least_keeps, changed, at_changed, off_changed, solution}
use Rattle.theory_differences.specs.Closing.{Small}
use Rattle.theory_differences.specs.Decided.{EntriesAreWalks, listed, found, cycle}
use Rattle.clash_cycles.specs.differences.Tested.{Negative}
use Rattle.clash_cycles.specs.Values.{node_value, Near, Placed, Solves}

pub least_turn : (f : ℕ → ℤ) (j : ℕ) (x y : ℤ) → 1 ≤ j → x ≡ least f (j - 1) → y ≡ f j → lesser x y ≡ least f (j + 1 - 1)
least_turn f zero x y h d e = absurd (omega arith)
least_turn f (suc j) x y h d e =
    let a : suc j - 1 ≡ j = omega arith in
    let b : suc j + 1 - 1 ≡ suc j = omega arith in
    rw (d, e, a, b)

-- ---- at the start

pub zeros_near : Near 0 (replicate 9 (pos 0))
zeros_near i h = rw (replicate_at 9 i (pos 0)) (omega arith)

is_zero : (z : ℤ) → nat_abs z ≤ 0 → z ≡ pos 0
is_zero (pos n) h = ap pos (omega arith)
is_zero (negsuc n) h = absurd (omega arith)

pub placed_start : (M : ℕ → ℕ → ℤ) (v : List ℤ) → Near 0 v → Placed M 0 v
placed_start M v f i h = is_zero (node_value v i) (f i h)

-- ---- one node more

pub near_more : (b c : ℕ) (v : List ℤ) → b ≤ c → Near b v → Near c v
near_more b c v h f i p = omega (arith, f i p)

placed_next : (M : ℕ → ℕ → ℤ) (v : List ℤ) (m : ℕ) (x : ℤ) → suc m < 9 → length v ≡ 9 → Placed M m v → x ≡ least (λ j. node_value v j +ℤ M (suc m) j) m → Placed M (suc m) (set v (suc m) x)
placed_next M v m x p e f d i q = go (ℕ_discrete i (suc m))
  where
    y : ℤ
    y = least (λ j. solution M m j +ℤ M (suc m) j) m

    same : least (λ j. node_value v j +ℤ M (suc m) j) m ≡ y
    same = least_same (λ j. node_value v j +ℤ M (suc m) j) (λ j. solution M m j +ℤ M (suc m) j) m (λ j h. ap (λ z. z +ℤ M (suc m) j) (f j (omega arith)))

    go : Dec (i ≡ suc m) → node_value (set v (suc m) x) i ≡ changed (solution M m) (suc m) y i
    go (yes c) = ap (node_value (set v (suc m) x)) c ∙ get_or-set_same v (suc m) x (pos 0) (omega arith) ∙ d ∙ same ∙ sym (at_changed (solution M m) (suc m) y i c)
    go (no c) = get_or-set_other v (suc m) i x (pos 0) c ∙ f i q ∙ sym (off_changed (solution M m) (suc m) y i c)

pub placed_turn : (M : ℕ → ℕ → ℤ) (v : List ℤ) (k : ℕ) (x : ℤ) → 1 ≤ k → k < 9 → length v ≡ 9 → Placed M (k - 1) v → x ≡ least (λ j. node_value v j +ℤ M k j) (k - 1) → Placed M (k + 1 - 1) (set v k x)
placed_turn M v zero x h p e f d = absurd (omega arith)
placed_turn M v (suc m) x h p e f d =
    let a : suc m - 1 ≡ m = omega arith in
    let b : suc m + 1 - 1 ≡ suc m = omega arith in
    rw b (placed_next M v m x p e (rw a at f) (rw a at d))

-- a value is a sum of at most as many entries as there are nodes before it
pub near_turn : (l v : List ℤ) (k : ℕ) (x : ℤ) → 1 ≤ k → k < 9 → length v ≡ 9 → Small 576460752303423488 l → Near ((k - 1) * 576460752303423488) v → x ≡ least (λ j. node_value v j +ℤ at l k j) (k - 1) → Near ((k + 1 - 1) * 576460752303423488) (set v k x)
near_turn l v k x h p e s f d i q = go (ℕ_discrete i k)
  where
    size : nat_abs x ≤ k * 576460752303423488
    size = rw d (least_keeps (λ z. nat_abs z ≤ k * 576460752303423488) (λ j. node_value v j +ℤ at l k j) (k - 1) (λ j r. omega (arith, nat_abs_add (node_value v j) (at l k j), f j (omega arith), s k j p (omega arith))))

    go : Dec (i ≡ k) → nat_abs (node_value (set v k x) i) ≤ (k + 1 - 1) * 576460752303423488
    go (yes c) = rw (c, get_or-set_same v k x (pos 0) (omega arith)) (omega (arith, size))
    go (no c) = rw (get_or-set_other v k i x (pos 0) c) (omega (arith, f i q))

-- ---- the answer

listed_same : (f g : ℕ → ℤ) (from c : ℕ) → ((i : ℕ) → i < from + c → f i ≡ g i) → listed f from c ≡ listed g from c
listed_same f g from zero e = refl
listed_same f g from (suc c) e = ap₂ (λ (x : ℤ) (l : List ℤ). x ∷ l) (e from (omega arith)) (listed_same f g (suc from) c (λ i h. e i (omega arith)))

pub solved : (l m v : List ℤ) (n : ℕ) (cs : List (Condition ℕ)) → m ≡ closed l → NoneNegative (at m) 9 → Placed (at m) attributes_limit v → EntriesAreWalks l n cs → Solves (Some v) n cs
solved l m v n cs e f p s =
    let same : listed (node_value v) 1 n ≡ listed (solution (at (closed l)) attributes_limit) 1 n = listed_same (node_value v) (solution (at (closed l)) attributes_limit) 1 n (λ i h. (rw e at p) i (omega (arith, s.fits))) in
    rw same (found l n cs s (rw e at f))

pub unsolved : (l m : List ℤ) (n : ℕ) (cs : List (Condition ℕ)) → m ≡ closed l → Negative m → EntriesAreWalks l n cs → Solves None n cs
unsolved l m n cs e f s = cycle l n cs s f.node f.below (rw e at f.sum)
