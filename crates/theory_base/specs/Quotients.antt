-- The laws of `Value.quotient` and `Value.floored`, which are sealed. 02 (f): the quotient that is computed is the nearest whole number, halves upward, and no other is; it never leaves the range of values.
use Rattle.std.specs.Prelude.{ℕ, zero, suc, ◌+◌, ◌-◌, ◌*◌, ◌/◌, ◌≤◌, ◌<◌, ◌≡◌, refl, Bool, true, false, cond, T, leb, ltb, ℤ, pos, negsuc, neg_ℤ, nat_abs, ◌+ℤ◌, ◌-ℤ◌, ◌*ℤ◌}
use Rattle.std.proofs.Math.Nat.{mul-div-le, lt-mul-div-succ, div-eq_of_lt-le, div-eq_of_lt, div-le_of_le-mul}
use Rattle.std.proofs.Common.{div-lt_iff_lt-mul, mul-suc, mul_comm, mul-le-mul_left, arith, sym, ap, ◌∙◌, subst, le→leb, leb→le, lt→ltb, ltb→lt}
use Rattle.std.proofs.Math.Dec.{leb-zero, leb-suc-zero, leb-suc-suc}
use Rattle.std.proofs.Math.IntN.{suc_ℤ, +ℤ-suc_ℤ, +ℤ_idr, +ℤ_assoc, -ℤ-+ℤ_cancel, suc_ℤ-*ℤ, *ℤ_comm}
use Rattle.std.specs.Int.Signed.{le_z, lt_z, mag}
use Rattle.meaning.specs.Value.{in_range, lowest, highest, floored, quotient, nearest}
use Rattle.meaning_statements.specs.ValueStatements.{NearestExactly, QuotientInRange}
use Rattle.theory_base.specs.Members.{both, and}

-- ---- the greatest whole number at most n / d

pub floored_pos : (n d : ℕ) → floored (pos n) d ≡ pos (n / d)
unfolding floored
floored_pos n d = refl

pub floored_negsuc : (n d : ℕ) → floored (negsuc n) d ≡ negsuc (n / d)
unfolding floored
floored_negsuc n d = refl

negated : (k : ℕ) → 0 < k → neg_ℤ (pos k) ≡ negsuc (k - 1)
negated zero l = absurd (omega arith)
negated (suc k) l = ap negsuc (omega arith)

pub floor_low : (n : ℤ) (d : ℕ) → 0 < d → T (le_z (pos d *ℤ floored n d) n)
unfolding floored
floor_low (pos n) d l = le→leb (d * (n / d)) n (mul-div-le n d)
floor_low (negsuc n) d l =
    let e : n < d * suc (n / d) = subst (λ (k : ℕ). n < d * k) (omega arith) (lt-mul-div-succ n {b = d} l) in
    rw (negated (d * suc (n / d)) (omega arith)) (le→leb n (d * suc (n / d) - 1) (omega arith))

below : (n d m : ℕ) → 0 < d → d * m ≤ n → T (lt_z (negsuc n) (pos d *ℤ suc_ℤ (negsuc m)))
below n d zero l h = tt
below n d (suc m) l h =
    let s : d * suc m ≡ d * m + d = mul-suc d m in
    rw (negated (d * suc m) (omega arith)) (lt→ltb (d * suc m - 1) n (omega arith))

pub floor_high : (n : ℤ) (d : ℕ) → 0 < d → T (lt_z n (pos d *ℤ suc_ℤ (floored n d)))
unfolding floored
floor_high (pos n) d l = lt→ltb n (d * suc (n / d)) (subst (λ (k : ℕ). n < d * k) (omega arith) (lt-mul-div-succ n {b = d} l))
floor_high (negsuc n) d l = below n d (n / d) l (mul-div-le n d)

divided : (n m d : ℕ) → d * m ≤ n → n < d * suc m → m ≡ n / d
divided n m d p q = sym (div-eq_of_lt-le d (subst (λ (k : ℕ). k ≤ n) (mul_comm d m) p) (subst (λ (k : ℕ). n < k) (mul_comm d (suc m) ∙ ap (λ (k : ℕ). k * d) (omega arith)) q))

pub floor_only : (n q : ℤ) (d : ℕ) → 0 < d → T (le_z (pos d *ℤ q) n) → T (lt_z n (pos d *ℤ suc_ℤ q)) → q ≡ floored n d
unfolding floored
floor_only (pos n) (pos m) d l p q = ap pos (divided n m d (leb→le (d * m) n p) (ltb→lt n (d * suc m) q))
floor_only (pos n) (negsuc zero) d l p q = let k = ltb→lt n (d * 0) q in absurd (omega arith)
floor_only (pos n) (negsuc (suc m)) d l p q =
    let s : d * suc m ≡ d * m + d = mul-suc d m in
    absurd (subst (λ (z : ℤ). T (lt_z (pos n) z)) (negated (d * suc m) (omega arith)) q)
floor_only (negsuc n) (pos m) d l p q = absurd p
floor_only (negsuc n) (negsuc m) d l p q = ap negsuc (divided n m d (at_most m q) above)
  where
    above : n < d * suc m
    above =
        let s : d * suc m ≡ d * m + d = mul-suc d m in
        let k = leb→le n (d * suc m - 1) (subst (λ (z : ℤ). T (le_z z (negsuc n))) (negated (d * suc m) (omega arith)) p) in
        omega arith

    at_most : (m : ℕ) → T (lt_z (negsuc n) (pos d *ℤ suc_ℤ (negsuc m))) → d * m ≤ n
    at_most zero t = omega arith
    at_most (suc m) t =
        let s : d * suc m ≡ d * m + d = mul-suc d m in
        let k = ltb→lt (d * suc m - 1) n (subst (λ (z : ℤ). T (lt_z (negsuc n) z)) (negated (d * suc m) (omega arith)) t) in
        omega arith

-- ---- 2a - c < 2cq is 2a + c < 2c (q + 1)
suc_lt : (x y : ℤ) → lt_z (suc_ℤ x) (suc_ℤ y) ≡ lt_z x y
suc_lt (pos a) (pos b) = leb-suc-suc (suc a) b
suc_lt (pos a) (negsuc zero) = leb-suc-zero (suc a)
suc_lt (pos a) (negsuc (suc b)) = refl
suc_lt (negsuc zero) (pos b) = leb-suc-suc 0 b ∙ leb-zero b
suc_lt (negsuc (suc a)) (pos b) = refl
suc_lt (negsuc zero) (negsuc zero) = refl
suc_lt (negsuc zero) (negsuc (suc b)) = sym (leb-suc-zero (suc b))
suc_lt (negsuc (suc a)) (negsuc zero) = sym (leb-suc-suc 0 a ∙ leb-zero a)
suc_lt (negsuc (suc a)) (negsuc (suc b)) = sym (leb-suc-suc (suc b) a)

shift : (x y : ℤ) (k : ℕ) → lt_z (x +ℤ pos k) (y +ℤ pos k) ≡ lt_z x y
shift x y zero = rw (+ℤ_idr x, +ℤ_idr y)
shift x y (suc k) = rw (+ℤ-suc_ℤ x (pos k), +ℤ-suc_ℤ y (pos k)) (suc_lt (x +ℤ pos k) (y +ℤ pos k) ∙ shift x y k)

next : (d q : ℤ) → d *ℤ q +ℤ d ≡ d *ℤ suc_ℤ q
next d q = ap (λ z. z +ℤ d) (*ℤ_comm d q) ∙ sym (suc_ℤ-*ℤ q d) ∙ *ℤ_comm (suc_ℤ q) d

raised : (x : ℤ) (c : ℕ) → x -ℤ pos c +ℤ pos (c + c) ≡ x +ℤ pos c
raised x c = sym (+ℤ_assoc (x -ℤ pos c) (pos c) (pos c)) ∙ ap (λ z. z +ℤ pos c) (-ℤ-+ℤ_cancel x (pos c))

moved : (x q : ℤ) (c : ℕ) → lt_z (x -ℤ pos c) (pos (c + c) *ℤ q) ≡ lt_z (x +ℤ pos c) (pos (c + c) *ℤ suc_ℤ q)
moved x q c =
    sym (shift (x -ℤ pos c) (pos (c + c) *ℤ q) (c + c))
    ∙ ap (λ z. lt_z z (pos (c + c) *ℤ q +ℤ pos (c + c))) (raised x c)
    ∙ ap (λ z. lt_z (x +ℤ pos c) z) (next (pos (c + c)) q)

-- ---- the quotient is nearest, and nothing else is
divides : (a : ℤ) (c : ℕ) → 0 < c → quotient a (pos c) ≡ floored (a +ℤ a +ℤ pos c) (c + c)
unfolding quotient
divides a zero l = absurd (omega arith)
divides a (suc c) l = refl

pub quotient_nearest : (a : ℤ) (c : ℕ) → 0 < c → T (nearest a c (floored (a +ℤ a +ℤ pos c) (c + c)))
quotient_nearest a c l =
    let q = floored (a +ℤ a +ℤ pos c) (c + c) in
    let above : T (lt_z (a +ℤ a -ℤ pos c) (pos (c + c) *ℤ q)) = subst T (sym (moved (a +ℤ a) q c)) (floor_high (a +ℤ a +ℤ pos c) (c + c) (omega arith)) in
    and (lt_z (a +ℤ a -ℤ pos c) (pos (c + c) *ℤ q)) (le_z (pos (c + c) *ℤ q) (a +ℤ a +ℤ pos c)) above (floor_low (a +ℤ a +ℤ pos c) (c + c) (omega arith))

pub nearest_quotient : (a q : ℤ) (c : ℕ) → 0 < c → T (nearest a c q) → q ≡ floored (a +ℤ a +ℤ pos c) (c + c)
nearest_quotient a q c l h =
    let b = both (lt_z (a +ℤ a -ℤ pos c) (pos (c + c) *ℤ q)) (le_z (pos (c + c) *ℤ q) (a +ℤ a +ℤ pos c)) h in
    floor_only (a +ℤ a +ℤ pos c) q (c + c) (omega arith) b.1 (subst T (moved (a +ℤ a) q c) b.0)

pub nearest_exactly : NearestExactly
nearest_exactly a c q l = (
  λ h. nearest_quotient a q c l h ∙ sym (divides a c l),
  λ e. subst (λ z. T (nearest a c z)) (sym (e ∙ divides a c l)) (quotient_nearest a c l),
)

-- the same by any whole number from 1 on, and what it is by the others
pub quotient_floored : (a c : ℤ) → le_z (pos 1) c ≡ true → quotient a c ≡ floored (a +ℤ a +ℤ c) (nat_abs (c +ℤ c))
quotient_floored a (pos c) e = divides a c (leb→le 1 c (subst T (sym e) tt))
quotient_floored a (negsuc c) e = absurd (subst T (sym e) tt)

pub quotient_low : (a c : ℤ) → le_z (pos 1) c ≡ false → quotient a c ≡ pos 0
unfolding quotient
quotient_low a (pos zero) e = refl
quotient_low a (pos (suc c)) e = absurd (subst T e (le→leb 1 (suc c) (omega arith)))
quotient_low a (negsuc c) e = refl

-- ---- its size
size_up : (n c : ℕ) → (n + n + suc c) / (suc c + suc c) ≤ n
size_up n c =
    let k : n * 1 ≤ n * (suc c + suc c) = mul-le-mul_left n (omega arith) in
    let j : suc n * (suc c + suc c) ≡ n * (suc c + suc c) + (suc c + suc c) = mul_comm (suc n) (suc c + suc c) ∙ mul-suc (suc c + suc c) n ∙ ap (λ (m : ℕ). m + (suc c + suc c)) (mul_comm (suc c + suc c) n) in
    let i : n * 2 ≤ n * (suc c + suc c) = mul-le-mul_left n (omega arith) in
    let h : (n + n + suc c) / (suc c + suc c) < suc n = (div-lt_iff_lt-mul {k = suc c + suc c} {x = n + n + suc c} {y = suc n} (omega arith)).1 (omega arith) in
    omega arith

size_down : (n c : ℕ) → nat_abs (floored (negsuc (suc (n + n)) +ℤ pos (suc c)) (suc c + suc c)) ≤ suc n
unfolding floored
size_down n c = go (ltb (suc c) (suc (suc (n + n)))) refl
  where
    go : (b : Bool) → ltb (suc c) (suc (suc (n + n))) ≡ b → nat_abs (floored (cond b (negsuc (suc (suc (n + n)) - suc (suc c))) (pos (suc c - suc (suc (n + n))))) (suc c + suc c)) ≤ suc n
    go true e =
        let i : n * 2 ≤ n * (suc c + suc c) = mul-le-mul_left n (omega arith) in
        let h : (suc (suc (n + n)) - suc (suc c)) / (suc c + suc c) ≤ n = div-le_of_le-mul (suc c + suc c) (subst (λ (m : ℕ). suc (suc (n + n)) - suc (suc c) ≤ m) (mul_comm n (suc c + suc c)) (omega arith)) in
        omega arith
    go false e = let h : (suc c - suc (suc (n + n))) / (suc c + suc c) ≡ 0 = div-eq_of_lt (omega arith) in omega arith

pub quotient_size : (a c : ℤ) → nat_abs (quotient a c) ≤ nat_abs a
unfolding quotient floored
quotient_size a (pos zero) = omega arith
quotient_size (pos n) (pos (suc c)) = size_up n c
quotient_size (negsuc n) (pos (suc c)) = size_down n c
quotient_size a (negsuc c) = omega arith

-- ---- its range
pub value_size : (z : ℤ) → T (in_range z) → nat_abs z ≤ nat_abs lowest
value_size (pos n) t = leb→le n (mag highest) t
value_size (negsuc n) t = let l = leb→le n (mag lowest) (both (le_z lowest (negsuc n)) true t).0 in omega arith

-- the limits are as far from 0 on both sides
pub size_value : (z : ℤ) → nat_abs z ≤ nat_abs lowest → T (in_range z)
size_value (pos n) h = le→leb n (mag highest) h
size_value (negsuc n) h = and (le_z lowest (negsuc n)) true (le→leb n (mag lowest) (omega arith)) tt

-- by any number: by one below 1 it is 0
pub quotient_ranged : (a c : ℤ) → T (in_range a) → T (in_range (quotient a c))
quotient_ranged a c t = size_value (quotient a c) (omega (arith, quotient_size a c, value_size a t))

pub quotient_in_range : QuotientInRange
quotient_in_range O v a c k t = quotient_ranged (v a) c t
