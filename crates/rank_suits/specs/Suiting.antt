-- 37: more than 512 candidates, lengths that do not add up, a list with too few entries.
use Rattle.std.specs.Prelude.{ℕ, suc, ◌+◌, ◌*◌, ◌/◌, ◌≤◌, ◌<◌, ◌≡◌, true, false, ◌&&◌, List, length, get_or, drop, eqb, leb, ℤ}
use Rattle.std.proofs.Common.{arith, sym, ap, ap₂, drop_of_length-le, drop-cons, eq-eqb, ne_eqb, le-leb, leb-true, eqb-true}
use Rattle.std.proofs.lemmas.Bool.{lt-leb}
use Rattle.meaning.specs.Limits.{candidates_limit}
use Rattle.meaning.specs.Base.{total}
use Rattle.meaning_ranking.specs.RankCall.{in_order_value}
use Rattle.theory_base.specs.Members.{T→true, true→T, both}

-- by its tests
module _ (ns ks : List ℕ) (l : List ℤ) where
  pub too_many : candidates_limit < length ns → false ≡ in_order_value ns ks l
  too_many h = sym (ap (λ a. a && eqb (total ns) (length ks) && leb (length ns) (length l / 3)) (lt-leb (length ns) candidates_limit h))

  module _ (h : length ns ≤ candidates_limit) where
    pub not_summed : (total ns ≡ length ks → ⊥) → false ≡ in_order_value ns ks l
    not_summed q = sym (ap₂ (λ a b. a && b && leb (length ns) (length l / 3)) (le-leb (length ns) candidates_limit h) (ne_eqb (total ns) (length ks) q))

    pub summed : total ns ≡ length ks → leb (length ns) (length l / 3) ≡ in_order_value ns ks l
    summed q = sym (ap₂ (λ a b. a && b && leb (length ns) (length l / 3)) (le-leb (length ns) candidates_limit h) (eq-eqb (total ns) (length ks) q))

  -- what the candidates rely on
  pub record Suits : Type 0 where
    pub few : length ns ≤ candidates_limit
    pub summed : total ns ≡ length ks
    pub room : 3 * length ns ≤ length l

  pub suits : in_order_value ns ks l ≡ true → Suits
  suits e =
      let t = both (leb (length ns) candidates_limit && eqb (total ns) (length ks)) (leb (length ns) (length l / 3)) (true→T (in_order_value ns ks l) e) in
      let u = both (leb (length ns) candidates_limit) (eqb (total ns) (length ks)) t.0 in
      let r : length ns ≤ length l / 3 = leb-true (length ns) (length l / 3) (T→true (leb (length ns) (length l / 3)) t.1) in
      record { few = leb-true (length ns) candidates_limit (T→true (leb (length ns) candidates_limit) u.0); summed = eqb-true (total ns) (length ks) (T→true (eqb (total ns) (length ks)) u.1); room = omega arith }

-- the sum, a length at a time
pub sum_turn : (ns : List ℕ) (i sum n : ℕ) → i < length ns → n ≡ get_or ns i 0 → sum + total (drop i ns) ≡ total ns → sum + n + total (drop (i + 1) ns) ≡ total ns
sum_turn ns i sum n l e q =
    let j : suc i ≡ i + 1 = omega arith in
    omega (arith, ap total (drop-cons ns i 0 l), ap (λ k. total (drop k ns)) j)

pub sum_end : (ns : List ℕ) (i sum : ℕ) → length ns ≤ i → sum + total (drop i ns) ≡ total ns → sum ≡ total ns
sum_end ns i sum l q = omega (arith, ap total (drop_of_length-le ns {i = i} l))
