-- Tests of cells by their bits: gathered over the cells, none where all pass.
use Rattle.std.specs.Prelude.{ℕ, ◌+◌, ◌<◌, ◌≤◌, ◌≡◌, refl, Bool, true, false, ◌&&◌, List, eqb, ℤ, length, get_or, drop}
use Rattle.std.proofs.Common.{arith, sym, ap, ap₂, ◌∙◌, true≢false, eq-eqb, ne_eqb, eqb-true, SFits, to_z, of_z, to_z-of_z}
use Rattle.std.proofs.Math.Bool.{and-true, and-false, and_assoc}
use Rattle.std.proofs.lemmas.Bool.{eqb-false}
use Rattle.std.specs.Int.Bits.{bit_or, bit_xor, or_add_and, xor_add_and, xor_self}
use Rattle.std.proofs.lemmas.Nat.{and_le_l, and_le_r}
use Rattle.std.specs.Int.{w64}
use Rattle.meaning.specs.Base.{all}
use Rattle.meaning.specs.Value.{mark}
use Rattle.meaning.specs.Calls.{is_mark}
use Rattle.theory_base.specs.Members.{true→T}
use Rattle.theory_base.specs.Cells.{all_turn, all_end}
use Rattle.theory_answers.specs.FitTest.{mark_is}

-- ---- bits that are gathered: none where none of the cells has any

pub or_none : (a b : ℕ) → eqb (bit_or a b) 0 ≡ eqb a 0 && eqb b 0
or_none a b = by (eqb a 0) refl (eqb b 0) refl
  where
    by : (p : Bool) → eqb a 0 ≡ p → (q : Bool) → eqb b 0 ≡ q → eqb (bit_or a b) 0 ≡ p && q
    by true d true e = eq-eqb (bit_or a b) 0 (omega (arith, or_add_and a b, eqb-true a 0 d, eqb-true b 0 e))
    by true d false e = ne_eqb (bit_or a b) 0 (λ z. eqb-false b 0 e (omega (arith, or_add_and a b, and_le_l a b)))
    by false d q e = ne_eqb (bit_or a b) 0 (λ z. eqb-false a 0 d (omega (arith, or_add_and a b, and_le_r a b)))

xor_same : (a b : ℕ) → bit_xor a b ≡ 0 → a ≡ b
xor_same a b e = omega (arith, xor_add_and a b, and_le_l a b, and_le_r a b)

-- the bits in which a cell differs from the mark
pub mark_bits : (v : ℤ) → SFits w64 v → eqb (bit_xor (of_z w64 v) 9223372036854775808) 0 ≡ is_mark v
mark_bits v s = by (is_mark v) refl
  where
    by : (b : Bool) → is_mark v ≡ b → eqb (bit_xor (of_z w64 v) 9223372036854775808) 0 ≡ b
    by true e = rw (mark_is v (true→T (is_mark v) e)) (eq-eqb (bit_xor 9223372036854775808 9223372036854775808) 0 (xor_self 9223372036854775808))
    by false e = ne_eqb (bit_xor (of_z w64 v) 9223372036854775808) 0 (λ z.
        let m : v ≡ mark = sym (to_z-of_z s) ∙ ap (to_z w64) (xor_same (of_z w64 v) 9223372036854775808 z) in
        true≢false (sym (ap is_mark m) ∙ e))

-- i cells are gathered, and one more
pub gather_turn : {A : Type 0} (f : A → Bool) (xs : List A) (i : ℕ) (d : A) (bits more : ℕ) → i < length xs → eqb more 0 ≡ f (get_or xs i d) → all f xs ≡ eqb bits 0 && all f (drop i xs) → all f xs ≡ eqb (bit_or bits more) 0 && all f (drop (i + 1) xs)
gather_turn f xs i d bits more l e q =
    q ∙ (ap (λ (t : Bool). eqb bits 0 && t) (all_turn f xs i d l ∙ ap (λ (t : Bool). t && all f (drop (i + 1) xs)) (sym e))
    ∙ (sym (and_assoc (eqb bits 0) (eqb more 0) (all f (drop (i + 1) xs))) ∙ ap (λ (t : Bool). t && all f (drop (i + 1) xs)) (sym (or_none bits more))))

pub gather_end : {A : Type 0} (f : A → Bool) (xs : List A) (i bits : ℕ) → length xs ≤ i → all f xs ≡ eqb bits 0 && all f (drop i xs) → eqb bits 0 ≡ all f xs
gather_end f xs i bits l q = sym (q ∙ (ap (λ (t : Bool). eqb bits 0 && t) (all_end f xs i l) ∙ and-true (eqb bits 0)))

-- ---- eight cells a turn

module _ {A : Type 0} (f : A → Bool) (xs : List A) (i : ℕ) (d : A) (l : i + 8 ≤ length xs) where
  next : (k : ℕ) → k < 8 → all f (drop (i + k) xs) ≡ f (get_or xs (i + k) d) && all f (drop (i + (k + 1)) xs)
  next k h =
      let e : i + k + 1 ≡ i + (k + 1) = omega arith in
      all_turn f xs (i + k) d (omega arith) ∙ ap (λ j. f (get_or xs (i + k) d) && all f (drop j xs)) e

  pub all_eight : all f (drop i xs) ≡ f (get_or xs i d) && (f (get_or xs (i + 1) d) && (f (get_or xs (i + 2) d) && (f (get_or xs (i + 3) d) && (f (get_or xs (i + 4) d) && (f (get_or xs (i + 5) d) && (f (get_or xs (i + 6) d) && (f (get_or xs (i + 7) d) && (all f (drop (i + 8) xs)))))))))
  all_eight =
      all_turn f xs i d (omega arith)
      ∙ ap (λ t. f (get_or xs i d) && t) (next 1 (omega arith)
      ∙ ap (λ t. f (get_or xs (i + 1) d) && t) (next 2 (omega arith)
      ∙ ap (λ t. f (get_or xs (i + 2) d) && t) (next 3 (omega arith)
      ∙ ap (λ t. f (get_or xs (i + 3) d) && t) (next 4 (omega arith)
      ∙ ap (λ t. f (get_or xs (i + 4) d) && t) (next 5 (omega arith)
      ∙ ap (λ t. f (get_or xs (i + 5) d) && t) (next 6 (omega arith)
      ∙ ap (λ t. f (get_or xs (i + 6) d) && t) (next 7 (omega arith))))))))

and_both : {a b x y : Bool} → a ≡ b → x ≡ y → a && x ≡ b && y
and_both p q = ap₂ (λ a x. a && x) p q

mix : (a x b y : Bool) → (a && x) && (b && y) ≡ (a && b) && (x && y)
mix true x true y = refl
mix true x false y = and-false x
mix false x b y = refl

pair : (a b x y z r : Bool) → x && y ≡ z && r → (a && x) && (b && y) ≡ ((a && b) && z) && r
pair a b x y z r h = mix a x b y ∙ (ap (λ t. (a && b) && t) h ∙ sym (and_assoc (a && b) z r))

-- eight words have no bits
abbrev pub no_bits_value : ℕ → ℕ → ℕ → ℕ → ℕ → ℕ → ℕ → ℕ → Bool
no_bits_value d0 d1 d2 d3 d4 d5 d6 d7 = eqb d0 0 && (eqb d1 0 && (eqb d2 0 && (eqb d3 0 && (eqb d4 0 && (eqb d5 0 && (eqb d6 0 && (eqb d7 0)))))))

pub no_bits : (d0 d1 d2 d3 d4 d5 d6 d7 : ℕ) → eqb (bit_or d0 (bit_or d1 (bit_or d2 (bit_or d3 (bit_or d4 (bit_or d5 (bit_or d6 d7))))))) 0 ≡ no_bits_value d0 d1 d2 d3 d4 d5 d6 d7
no_bits d0 d1 d2 d3 d4 d5 d6 d7 =
    or_none d0 (bit_or d1 (bit_or d2 (bit_or d3 (bit_or d4 (bit_or d5 (bit_or d6 d7))))))
    ∙ ap (λ t. eqb d0 0 && t) (or_none d1 (bit_or d2 (bit_or d3 (bit_or d4 (bit_or d5 (bit_or d6 d7)))))
    ∙ ap (λ t. eqb d1 0 && t) (or_none d2 (bit_or d3 (bit_or d4 (bit_or d5 (bit_or d6 d7))))
    ∙ ap (λ t. eqb d2 0 && t) (or_none d3 (bit_or d4 (bit_or d5 (bit_or d6 d7)))
    ∙ ap (λ t. eqb d3 0 && t) (or_none d4 (bit_or d5 (bit_or d6 d7))
    ∙ ap (λ t. eqb d4 0 && t) (or_none d5 (bit_or d6 d7)
    ∙ ap (λ t. eqb d5 0 && t) (or_none d6 d7))))))

module _ {A : Type 0} (f : A → Bool) (xs : List A) (i : ℕ) (d : A) (l : i + 8 ≤ length xs) (d0 d1 d2 d3 d4 d5 d6 d7 m0 m1 m2 m3 m4 m5 m6 m7 : ℕ) where
  gathered : no_bits_value (bit_or d0 m0) (bit_or d1 m1) (bit_or d2 m2) (bit_or d3 m3) (bit_or d4 m4) (bit_or d5 m5) (bit_or d6 m6) (bit_or d7 m7) && all f (drop (i + 8) xs)
      ≡ no_bits_value d0 d1 d2 d3 d4 d5 d6 d7 && (eqb m0 0 && (eqb m1 0 && (eqb m2 0 && (eqb m3 0 && (eqb m4 0 && (eqb m5 0 && (eqb m6 0 && (eqb m7 0 && all f (drop (i + 8) xs)))))))))
  gathered =
      let r : Bool = all f (drop (i + 8) xs) in
      let x7 : Bool = eqb d7 0 in
      let y7 : Bool = eqb m7 0 && r in
      let z7 : Bool = eqb d7 0 && eqb m7 0 in
      let x6 : Bool = eqb d6 0 && x7 in
      let y6 : Bool = eqb m6 0 && y7 in
      let z6 : Bool = (eqb d6 0 && eqb m6 0) && z7 in
      let x5 : Bool = eqb d5 0 && x6 in
      let y5 : Bool = eqb m5 0 && y6 in
      let z5 : Bool = (eqb d5 0 && eqb m5 0) && z6 in
      let x4 : Bool = eqb d4 0 && x5 in
      let y4 : Bool = eqb m4 0 && y5 in
      let z4 : Bool = (eqb d4 0 && eqb m4 0) && z5 in
      let x3 : Bool = eqb d3 0 && x4 in
      let y3 : Bool = eqb m3 0 && y4 in
      let z3 : Bool = (eqb d3 0 && eqb m3 0) && z4 in
      let x2 : Bool = eqb d2 0 && x3 in
      let y2 : Bool = eqb m2 0 && y3 in
      let z2 : Bool = (eqb d2 0 && eqb m2 0) && z3 in
      let x1 : Bool = eqb d1 0 && x2 in
      let y1 : Bool = eqb m1 0 && y2 in
      let z1 : Bool = (eqb d1 0 && eqb m1 0) && z2 in
      rw (or_none d0 m0, or_none d1 m1, or_none d2 m2, or_none d3 m3, or_none d4 m4, or_none d5 m5, or_none d6 m6, or_none d7 m7)
      (sym (pair (eqb d0 0) (eqb m0 0) x1 y1 z1 r
      (pair (eqb d1 0) (eqb m1 0) x2 y2 z2 r
      (pair (eqb d2 0) (eqb m2 0) x3 y3 z3 r
      (pair (eqb d3 0) (eqb m3 0) x4 y4 z4 r
      (pair (eqb d4 0) (eqb m4 0) x5 y5 z5 r
      (pair (eqb d5 0) (eqb m5 0) x6 y6 z6 r
      (pair (eqb d6 0) (eqb m6 0) x7 y7 z7 r
      (sym (and_assoc (eqb d7 0) (eqb m7 0) r))))))))))

  pub gather_eight :
      eqb m0 0 ≡ f (get_or xs i d)
      → eqb m1 0 ≡ f (get_or xs (i + 1) d)
      → eqb m2 0 ≡ f (get_or xs (i + 2) d)
      → eqb m3 0 ≡ f (get_or xs (i + 3) d)
      → eqb m4 0 ≡ f (get_or xs (i + 4) d)
      → eqb m5 0 ≡ f (get_or xs (i + 5) d)
      → eqb m6 0 ≡ f (get_or xs (i + 6) d)
      → eqb m7 0 ≡ f (get_or xs (i + 7) d)
      → all f xs ≡ no_bits_value d0 d1 d2 d3 d4 d5 d6 d7 && all f (drop i xs)
      → all f xs ≡ no_bits_value (bit_or d0 m0) (bit_or d1 m1) (bit_or d2 m2) (bit_or d3 m3) (bit_or d4 m4) (bit_or d5 m5) (bit_or d6 m6) (bit_or d7 m7) && all f (drop (i + 8) xs)
  gather_eight e0 e1 e2 e3 e4 e5 e6 e7 q =
      q ∙ (ap (λ t. no_bits_value d0 d1 d2 d3 d4 d5 d6 d7 && t) (all_eight f xs i d l ∙ and_both (sym e0) (and_both (sym e1) (and_both (sym e2) (and_both (sym e3) (and_both (sym e4) (and_both (sym e5) (and_both (sym e6) (ap (λ t. t && all f (drop (i + 8) xs)) (sym e7))))))))) ∙ sym gathered)
