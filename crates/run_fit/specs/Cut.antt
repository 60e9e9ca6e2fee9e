-- 34 looks at the lent cells alone. 01: "cells past these are neither read nor written and don't count as lent".
use Rattle.std.specs.Prelude.{ℕ, zero, suc, ◌-◌, ◌≤◌, min, ◌≡◌, refl, Bool, true, false, ◌&&◌, List, [], ◌∷◌, reverse, length, take, drop, ℤ, eqb, leb}
use Rattle.std.proofs.Common.{arith, sym, ap, ap₂, leb-true, length-take, take-take}
use Rattle.meaning.specs.Limits.{registers_limit, places_limit}
use Rattle.meaning.specs.Base.{all}
use Rattle.meaning.specs.Grammar.{Grammar}
use Rattle.meaning.specs.Rules.{WellFormed}
use Rattle.meaning.specs.Machine.{tokens_limit, moves_limit}
use Rattle.meaning.specs.Calls.{running, outer, Record, Stacks, lent_of, is_mark, stack_fits, stacks_fit}
use Rattle.meaning.specs.PublicCalls.{stacks_of}
use Rattle.run_fit.specs.Upward.{stands_fit, stack_fits_up}

-- the lent cells
abbrev pub cut : Stacks → Stacks
cut m = stacks_of (take (lent_of m).max_registers m.registers) (take (lent_of m).max_places m.places)

same_tests : (t m a b s s' x x' y y' : Bool) → (a ≡ true → b ≡ true → s ≡ s') → (a ≡ true → x ≡ x') → (b ≡ true → y ≡ y') → t && m && a && b && s && x && y ≡ t && m && a && b && s' && x' && y'
same_tests true true true true s s' x x' y y' f g h = rw (f refl refl, g refl, h refl) refl
same_tests true true true false s s' x x' y y' f g h = refl
same_tests true true false b s s' x x' y y' f g h = refl
same_tests true false a b s s' x x' y y' f g h = refl
same_tests false m a b s s' x x' y y' f g h = refl

-- the cells above the height, of those lent
above_cut : {A : Type 0} (n h : ℕ) (l : List A) → take (n - h) (drop h (take n l)) ≡ take (n - h) (drop h l)
above_cut n zero l =
    let e : n - 0 ≡ n = omega arith in
    rw e (take-take n n l (omega arith))
above_cut zero (suc h) l =
    let e : 0 - suc h ≡ 0 = omega arith in
    rw e refl
above_cut (suc n) (suc h) [] = refl
above_cut (suc n) (suc h) (x ∷ l) =
    let e : suc n - suc h ≡ n - h = omega arith in
    rw e (above_cut n h l)

-- as many are lent
lent_cut : {A : Type 0} (l : List A) (cap : ℕ) → min (length (take (min (length l) cap) l)) cap ≡ min (length l) cap
lent_cut l cap = omega (arith, length-take (min (length l) cap) l)

pub fits_cut : (g : Grammar) (r : Record) (m : Stacks) → stacks_fit g r m ≡ stacks_fit g r (cut m)
fits_cut g r m =
    let n : ℕ = (lent_of m).max_registers in
    let k : ℕ = (lent_of m).max_places in
    let h : ℕ = r.register_height in
    let j : ℕ = r.place_height in
    rw (lent_cut m.registers registers_limit, lent_cut m.places places_limit)
    (same_tests (leb r.tokens tokens_limit) (leb r.moves moves_limit) (leb h n) (leb j k)
    (stack_fits g (reverse (take j m.places)) (reverse (take h m.registers)))
    (stack_fits g (reverse (take j (take k m.places))) (reverse (take h (take n m.registers))))
    (all is_mark (take (n - h) (drop h m.registers)))
    (all is_mark (take (n - h) (drop h (take n m.registers))))
    (all (λ p. eqb p 0) (take (k - j) (drop j m.places)))
    (all (λ p. eqb p 0) (take (k - j) (drop j (take k m.places))))
    (λ a b. ap₂ (λ y z. stack_fits g (reverse y) (reverse z)) (sym (take-take j k m.places (leb-true j k b))) (sym (take-take h n m.registers (leb-true h n a))))
    (λ a. ap (all is_mark) (sym (above_cut n h m.registers)))
    (λ b. ap (all (λ p. eqb p 0)) (sym (above_cut k j m.places))))

-- a record's numbers; 34 does not ask for its status and kind
abbrev pub numbers : (tokens moves register_height place_height : ℕ) → Record
numbers tokens moves register_height place_height = record { status = running; kind = outer; tokens = tokens; moves = moves; register_height = register_height; place_height = place_height }

-- where all cells are lent: the tests in their order, each by its outcome
module _ (g : Grammar) (w : WellFormed g) (r : Record) (vs : List ℤ) (ps : List ℕ) (few : length vs ≤ registers_limit) (low : length ps ≤ places_limit) where
  pub fits_by : {t m a b s x y : Bool}
      → leb r.tokens tokens_limit ≡ t
      → leb r.moves moves_limit ≡ m
      → leb r.register_height (length vs) ≡ a
      → leb r.place_height (length ps) ≡ b
      → stands_fit g (take r.place_height ps) (take r.register_height vs) ≡ s
      → all is_mark (take (length vs - r.register_height) (drop r.register_height vs)) ≡ x
      → all (λ p. eqb p 0) (take (length ps - r.place_height) (drop r.place_height ps)) ≡ y
      → stacks_fit g r (stacks_of vs ps) ≡ t && m && a && b && s && x && y
  fits_by et em ea eb es ex ey =
      let n : min (length vs) registers_limit ≡ length vs = omega arith in
      let k : min (length ps) places_limit ≡ length ps = omega arith in
      rw (n, k, stack_fits_up g w (take r.place_height ps) (take r.register_height vs), et, em, ea, eb, es, ex, ey) refl
