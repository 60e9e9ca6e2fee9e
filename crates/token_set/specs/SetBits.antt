-- A token set as a word: token t is in it where bit t is 1. The end is bit 63.
use Rattle.std.specs.Prelude.{ℕ, zero, suc, ◌*◌, ◌/◌, ◌%◌, ◌^◌, ◌≤◌, ◌<◌, min, max, ◌≡◌, refl, Bool, true, false, ◌||◌, not, List, [], ◌∷◌, map, T, eqb, length, set}
use Rattle.std.proofs.Common.{one-mul, mod-eq_of_lt, mod-lt, div-one, zero-lt-suc, pow-suc, arith, sym, ap, ap₂, ◌∙◌, eqb→eq, T_not, length-set, ext_get_or, get_or-set_other}
use Rattle.std.proofs.Math.Nat.{zero-div}
use Rattle.std.proofs.Math.Decide.{dec_lt, ℕ_discrete}
use Rattle.std.proofs.Math.Arith.{lt-one}
use Rattle.std.specs.Int.Bits.{bit_and, bit_or, or_add_and}
use Rattle.std.proofs.lemmas.Nat.{and_mask, and_le_l, and_le_r}
use Rattle.std.proofs.Math.Dec.{not_T}
use Rattle.std.proofs.lemmas.List.{length-map, length-replicate}
use Rattle.std.proofs.Math.ListN.{get_or-eq_default}
use Rattle.std.proofs.Math.Pow.{pow-lt}
use Rattle.meaning.specs.Base.{count_from}
use Rattle.meaning.specs.Sets.{TokenSet, empty_set, singleton, ◌∪◌, has, end_number}
use Rattle.meaning.specs.Decide.{meet}
use Rattle.theory_bits.specs.Bits.{or_at, and_at, half_at, pow_same, pow_other}
use Rattle.theory_sets.specs.Tests.{tabled}
use Rattle.theory_sets.specs.TokenSets.{single_has, single_only}
use Rattle.theory_sets.specs.Widths.{Wide, same_set}
use Rattle.theory_sets.specs.Clashes.{meet_cases, meet_at}
use Rattle.theory_base.specs.Members.{same_truth, length_count_from}

-- bit t of n: 0 or 1
unfoldable pub bit : ℕ → ℕ → ℕ
bit n t = n / 2 ^ t % 2

-- the token set that a word stands for
unfoldable pub set_of : ℕ → TokenSet
set_of n = map (λ t. eqb (bit n t) 1) (count_from 0 64)

-- ---- bits
pub bit_lt : (n t : ℕ) → bit n t < 2
unfolding bit
bit_lt n t = mod-lt (n / 2 ^ t) (zero-lt-suc 1)

bit_or_lem : (a b t : ℕ) → bit (bit_or a b) t ≡ max (bit a t) (bit b t)
unfolding bit
bit_or_lem a b t = or_at a b t

bit_and_lem : (a b t : ℕ) → bit (bit_and a b) t ≡ min (bit a t) (bit b t)
unfolding bit
bit_and_lem a b t = and_at a b t

bit_zero : (t : ℕ) → bit 0 t ≡ 0
unfolding bit
bit_zero t = ap (λ (x : ℕ). x % 2) (zero-div (2 ^ t))

pub bit_suc : (n t : ℕ) → bit n (suc t) ≡ bit (n / 2) t
unfolding bit
bit_suc n t = half_at n t

pub bit_first : (n : ℕ) → bit n 0 ≡ n % 2
unfolding bit
bit_first n = ap (λ (x : ℕ). x % 2) (div-one n)

bit_pow_same : (k : ℕ) → bit (2 ^ k) k ≡ 1
unfolding bit
bit_pow_same k = pow_same k

bit_pow_other : (k t : ℕ) → (t ≡ k → ⊥) → bit (2 ^ k) t ≡ 0
unfolding bit
bit_pow_other k t h = pow_other k t h

-- each number but 0 has a bit, below its width
some_bit : (w n : ℕ) → n < 2 ^ w → (n ≡ 0 → ⊥) → (t : ℕ) × (t < w) × (bit n t ≡ 1)
some_bit zero n l h = absurd (h (lt-one l))
some_bit (suc w) n l h = go (λ m k. some_bit w m k) (n % 2) refl
  where
    go : ((m : ℕ) → m < 2 ^ w → (m ≡ 0 → ⊥) → (t : ℕ) × (t < w) × (bit m t ≡ 1)) → (r : ℕ) → n % 2 ≡ r → (t : ℕ) × (t < suc w) × (bit n t ≡ 1)
    go below zero e =
        let l2 : n < 2 ^ w * 2 = rw pow-suc at l in
        let u = below (n / 2) (omega arith) (λ z. h (omega arith)) in
        (suc u.0, omega (arith, u.1), bit_suc n u.0 ∙ u.2)
    go below (suc r) e = (0, omega arith, bit_first n ∙ omega arith)

-- ---- what is in
wide : (n : ℕ) → length (set_of n) ≡ 64
unfolding set_of
wide n = length-map (count_from 0 64) (λ t. eqb (bit n t) 1) ∙ length_count_from 0 64

pub set_of_wide : (n : ℕ) → Wide (set_of n)
set_of_wide n = record { width = wide n }

pub has_bit : (n t : ℕ) → t < 64 → has (set_of n) t ≡ eqb (bit n t) 1
unfolding set_of
has_bit n t l = tabled (λ u. eqb (bit n u) 1) 64 t false l

pub has_beyond : (n t : ℕ) → 64 ≤ t → has (set_of n) t ≡ false
has_beyond n t l = get_or-eq_default (set_of n) false {n = t} (omega (arith, wide n))

-- a member is a token or the end
pub has_below : (n t : ℕ) → T (has (set_of n) t) → t < 64
has_below n t h = go (dec_lt t 64)
  where
    go : Dec (t < 64) → t < 64
    go (yes l) = l
    go (no l) = absurd (rw (has_beyond n t (omega arith)) at h)

bit_in : (n t : ℕ) → t < 64 → bit n t ≡ 1 → T (has (set_of n) t)
bit_in n t l e = rw (has_bit n t l, e) tt

in_bit : (n t : ℕ) → T (has (set_of n) t) → bit n t ≡ 1
in_bit n t h = eqb→eq (bit n t) 1 (rw (has_bit n t (has_below n t h)) at h)

-- ---- the operations
pub set_empty : set_of 0 ≡ empty_set
unfolding set_of bit
set_empty = refl

pub set_end : set_of (2 ^ end_number) ≡ singleton end_number
unfolding set_of bit
set_end = refl

pub set_one : (t : ℕ) → t < 64 → set_of (2 ^ t) ≡ singleton t
set_one t l = same_set (set_of (2 ^ t)) (singleton t) (set_of_wide (2 ^ t)) (record { width = length-set empty_set t true ∙ length-replicate 64 false }) to (λ u m h. rw (single_only t u h) (bit_in (2 ^ t) t l (bit_pow_same t)))
  where
    to : (u : ℕ) → u < 64 → T (has (set_of (2 ^ t)) u) → T (has (singleton t) u)
    to u m h = go (ℕ_discrete u t)
      where
        go : Dec (u ≡ t) → T (has (singleton t) u)
        go (yes e) = rw e (single_has t l)
        go (no e) = absurd (let z = bit_pow_other t u e in let o = in_bit (2 ^ t) u h in omega arith)

-- a number that is no token's
pub set_none : (t : ℕ) → 64 ≤ t → set_of 0 ≡ singleton t
set_none t l = set_empty ∙ sym (beyond empty_set t (omega (arith, length-replicate 64 false)))
  where
    beyond : (xs : TokenSet) (i : ℕ) → length xs ≤ i → set xs i true ≡ xs
    beyond xs i h = ext_get_or false (set xs i true) xs (length-set xs i true) (λ u m. get_or-set_other xs i u true false (omega (arith, length-set xs i true)))

or_bits : (x y : ℕ) → x < 2 → y < 2 → eqb (max x y) 1 ≡ (eqb x 1 || eqb y 1)
or_bits zero zero l m = refl
or_bits zero (suc zero) l m = refl
or_bits zero (suc (suc y)) l m = absurd (omega arith)
or_bits (suc zero) zero l m = refl
or_bits (suc zero) (suc zero) l m = refl
or_bits (suc zero) (suc (suc y)) l m = absurd (omega arith)
or_bits (suc (suc x)) y l m = absurd (omega arith)

pub set_or : (a b : ℕ) → set_of (bit_or a b) ≡ set_of a ∪ set_of b
unfolding set_of
set_or a b = go (count_from 0 64)
  where
    go : (ts : List ℕ) → map (λ t. eqb (bit (bit_or a b) t) 1) ts ≡ map (λ t. eqb (bit a t) 1) ts ∪ map (λ t. eqb (bit b t) 1) ts
    go [] = refl
    go (t ∷ ts) = ap₂ {A = Bool} {B = List Bool} {C = List Bool} ◌∷◌ (ap (λ (x : ℕ). eqb x 1) (bit_or_lem a b t) ∙ or_bits (bit a t) (bit b t) (bit_lt a t) (bit_lt b t)) (go ts)

-- the code's test of a token: (n >> t) & 1 == 1
pub has_test : (n t : ℕ) → t < 64 → eqb (bit_and (n / 2 ^ t) 1) 1 ≡ has (set_of n) t
unfolding bit
has_test n t l = ap (λ (x : ℕ). eqb x 1) (and_mask (n / 2 ^ t) 1) ∙ sym (has_bit n t l)

-- 1 << t in a word
pub one_shifted : (t : ℕ) → t < 64 → 1 * 2 ^ t % 2 ^ 64 ≡ 2 ^ t
one_shifted t l = ap (λ (x : ℕ). x % 2 ^ 64) (one-mul (2 ^ t)) ∙ mod-eq_of_lt (pow-lt l)

-- the code's test of two sets: a & b != 0
pub meet_test : (a b : ℕ) → a < 2 ^ 64 → not (eqb (bit_and a b) 0) ≡ meet (set_of a) (set_of b)
meet_test a b l = same_truth (not (eqb (bit_and a b) 0)) (meet (set_of a) (set_of b)) to back
  where
    to : T (not (eqb (bit_and a b) 0)) → T (meet (set_of a) (set_of b))
    to h =
        let u = some_bit 64 (bit_and a b) (omega (arith, and_le_l a b)) (λ z. T_not (eqb (bit_and a b) 0) h (rw z tt)) in
        let ea : bit a u.0 ≡ 1 = omega (arith, bit_and_lem a b u.0, u.2, bit_lt a u.0, bit_lt b u.0) in
        let eb : bit b u.0 ≡ 1 = omega (arith, bit_and_lem a b u.0, u.2, bit_lt a u.0, bit_lt b u.0) in
        meet_at (set_of a) (set_of b) u.0 (bit_in a u.0 u.1 ea) (bit_in b u.0 u.1 eb)

    back : T (meet (set_of a) (set_of b)) → T (not (eqb (bit_and a b) 0))
    back h =
        let u = meet_cases (set_of a) (set_of b) h in
        not_T (eqb (bit_and a b) 0) (λ e. let z : bit (bit_and a b) u.0 ≡ 0 = rw (eqb→eq (bit_and a b) 0 e) (bit_zero u.0) in omega (arith, bit_and_lem a b u.0, in_bit a u.0 u.1, in_bit b u.0 u.2))

-- for loops that add to a set until nothing changes: a union is no smaller a number
pub or_grows : (a b : ℕ) → a ≤ bit_or a b
or_grows a b = omega (arith, or_add_and a b, and_le_r a b)
