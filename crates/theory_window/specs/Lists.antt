-- Laws of lists.
use Rattle.std.specs.Prelude.{ℕ, zero, suc, ◌+◌, ◌-◌, ◌≤◌, ◌<◌, ◌≡◌, refl, Bool, true, false, ◌&&◌, length, get_or, take, drop, set, ℤ}
use Rattle.std.proofs.Common.{arith, sym, ap, ap₂, ◌∙◌}
use mathlib.Core.List.{List, [], ◌∷◌, ◌++◌, map, reverse, reverse-cons, reverse-reverse, map-append, map-map}
use Rattle.std.proofs.lemmas.List.{set-get_or}
use Rattle.meaning.specs.Base.{all, count_from}
use Rattle.meaning_window.specs.Window.{turned, value_at}
use Rattle.theory_base.specs.Members as Members
use Rattle.theory_base.specs.Members.{counted_at, T→true, true→T}

-- ---- tests

pub and_left : (a b : Bool) → (a && b) ≡ true → a ≡ true
and_left true b e = refl
and_left false b e = e

pub and_right : (a b : Bool) → (a && b) ≡ true → b ≡ true
and_right true b e = e
and_right false b e = absurd (let z : ◌≡◌ {A = ℕ} 0 1 = cc in omega arith)

pub both : {a b : Bool} → a ≡ true → b ≡ true → (a && b) ≡ true
both p q = rw (p, q) refl

-- two tests that follow from each other
pub same_test : (a b : Bool) → (a ≡ true → b ≡ true) → (b ≡ true → a ≡ true) → a ≡ b
same_test true b f g = sym (f refl)
same_test false true f g = g refl
same_test false false f g = refl

module _ {A : Type 0} (f : A → Bool) where
  pub all_append : (xs ys : List A) → all f xs ≡ true → all f ys ≡ true → all f (xs ++ ys) ≡ true
  all_append xs ys p q = T→true (all f (xs ++ ys)) (Members.all_append f xs ys (true→T (all f xs) p) (true→T (all f ys) q))

  pub all_drop : (n : ℕ) (xs : List A) → all f xs ≡ true → all f (drop n xs) ≡ true
  all_drop n xs p = T→true (all f (drop n xs)) (Members.all_drop f n xs (true→T (all f xs) p))

  pub all_take : (n : ℕ) (xs : List A) → all f xs ≡ true → all f (take n xs) ≡ true
  all_take n xs p = T→true (all f (take n xs)) (Members.all_take f n xs (true→T (all f xs) p))

  pub all_turned : (k : ℕ) (xs : List A) → all f xs ≡ true → all f (turned k xs) ≡ true
  all_turned k xs p = all_append (drop k xs) (take k xs) (all_drop k xs p) (all_take k xs p)

  pub all_get_d : (xs : List A) (i : ℕ) (d : A) → f d ≡ true → all f xs ≡ true → f (get_or xs i d) ≡ true
  all_get_d [] i d q p = q
  all_get_d (x ∷ xs) zero d q p = and_left (f x) (all f xs) p
  all_get_d (x ∷ xs) (suc i) d q p = all_get_d xs i d q (and_right (f x) (all f xs) p)

  all_reversed : (xs : List A) → all f xs ≡ true → all f (reverse xs) ≡ true
  all_reversed [] p = refl
  all_reversed (x ∷ xs) p = ap (all f) (reverse-cons x xs) ∙ all_append (reverse xs) (x ∷ []) (all_reversed xs (and_right (f x) (all f xs) p)) (both (and_left (f x) (all f xs) p) refl)

  pub all_reverse : (xs : List A) → all f (reverse xs) ≡ all f xs
  all_reverse xs = same_test (all f (reverse xs)) (all f xs) (λ p. ap (all f) (sym (reverse-reverse xs)) ∙ all_reversed (reverse xs) p) (all_reversed xs)

-- ---- map

module _ {A B : Type 0} (f : A → B) where
  pub map_take : (n : ℕ) (xs : List A) → map f (take n xs) ≡ take n (map f xs)
  map_take zero xs = refl
  map_take (suc n) [] = refl
  map_take (suc n) (x ∷ xs) = ap (λ l. f x ∷ l) (map_take n xs)

  pub map_drop : (n : ℕ) (xs : List A) → map f (drop n xs) ≡ drop n (map f xs)
  map_drop zero xs = refl
  map_drop (suc n) [] = refl
  map_drop (suc n) (x ∷ xs) = map_drop n xs

  pub map_reverse : (xs : List A) → map f (reverse xs) ≡ reverse (map f xs)
  map_reverse [] = refl
  map_reverse (x ∷ xs) = ap (map f) (reverse-cons x xs) ∙ (map-append f (reverse xs) (x ∷ []) ∙ (ap (λ l. l ++ (f x ∷ [])) (map_reverse xs) ∙ sym (reverse-cons (f x) (map f xs))))

  pub map_turned : (k : ℕ) (xs : List A) → map f (turned k xs) ≡ turned k (map f xs)
  map_turned k xs = map-append f (drop k xs) (take k xs) ∙ ap₂ (λ a b. a ++ b) (map_drop k xs) (map_take k xs)

-- ---- the numbers from a on

pub drop_up : (k a n : ℕ) → drop k (count_from a n) ≡ count_from (a + k) (n - k)
drop_up zero a n =
    let e : a + 0 ≡ a = omega arith in
    let d : n - 0 ≡ n = omega arith in
    rw (e, d) refl
drop_up (suc k) a zero = let e : 0 - suc k ≡ 0 = omega arith in rw e refl
drop_up (suc k) a (suc n) =
    let e : suc a + k ≡ a + suc k = omega arith in
    let d : n - k ≡ suc n - suc k = omega arith in
    drop_up k (suc a) n ∙ (λ i. count_from (e i) (d i))

pub take_up : (k a n : ℕ) → k ≤ n → take k (count_from a n) ≡ count_from a k
take_up zero a n l = refl
take_up (suc k) a zero l = absurd (omega arith)
take_up (suc k) a (suc n) l = ap (λ m. a ∷ m) (take_up k (suc a) n (omega arith))

up_suc : (a n : ℕ) → count_from (suc a) n ≡ map suc (count_from a n)
up_suc a zero = refl
up_suc a (suc n) = ap (λ l. suc a ∷ l) (up_suc (suc a) n)

-- what stands in all slots
pub values_up : (s : List ℤ) → map (value_at s) (count_from 0 (length s)) ≡ s
values_up [] = refl
values_up (x ∷ s) = ap (λ l. x ∷ l) (ap (map (value_at (x ∷ s))) (up_suc 0 (length s)) ∙ (map-map (value_at (x ∷ s)) suc (count_from 0 (length s)) ∙ values_up s))

pub set_up : (n k : ℕ) → k < n → set (count_from 0 n) k k ≡ count_from 0 n
set_up n k l =
    let e : get_or (count_from 0 n) k 0 ≡ k = omega (arith, counted_at 0 n k l) in
    ap (set (count_from 0 n) k) (sym e) ∙ set-get_or (count_from 0 n) k 0
