-- What the numbers of rules and conditions say of each other.
use Prim.Native.Nat.{ℕ, suc, ◌+◌, ◌-◌, ◌*◌, ◌≤◌, ◌<◌}
use mathlib.Core.Path.{◌≡◌, refl, sym, ◌∙◌, ap}
use mathlib.Core.Bool.{Bool, true, false, ◌&&◌, cond}
use mathlib.Core.Logic.{⊎_elim}
use mathlib.Core.List.{List}
use native.Mathlib.Omega.{arith}
use lib.Dec.{eqb}
use lib.ListN.{get_or, length}
use borrow.Author.Tests.{eqb-true}
use Rattle.meaning.specs.Limits.{rules_limit, attributes_limit, positions_limit}
use Rattle.meaning.specs.Base.{all, count_from}
use Rattle.meaning.specs.Table.{byte}
use Rattle.table_fields.specs.Demand.{if_equal}
use Rattle.table_fields.proofs.Fine.{equal_fine, at_most_fine, below_fine, holds_fine}
use Rattle.table_fields.proofs.Demands.{differs_not, equal_yes, equal_no, below_yes, below_no}
use Rattle.table_rules.specs.Rule.{Small, class_at, class_in, class_fault, or_else, length_of, operand_count, operand_class, divisor_fits, rule_order, rule_items, rule_fault, at_most_fault, all_count}
use Rattle.table_fields.proofs.Cases.{lt_or_le, nonzero}

pub else_first : (x y : ℕ) {z : ℕ} → z ≡ x → (z ≡ 0 → ⊥) → z ≡ or_else x y
unfolding or_else
else_first x y e n = equal_no x 0 y x (λ q. n (e ∙ q)) e

pub else_second : (x y n : ℕ) {z : ℕ} → n ≡ x → n ≡ 0 → z ≡ y → z ≡ or_else x y
unfolding or_else
else_second x y n e q p = equal_yes x 0 y x (sym e ∙ q) p

pub target_known : (t a b n : ℕ) → n ≡ class_fault t a b → n ≡ 0 → t ≡ 0 → ⊥
unfolding class_fault
target_known t a b n e z q = absurd (let w : 5 ≡ class_fault t a b = differs_not t 0 5 _ q in omega arith)

pub length_eight : (f : ℕ) → f ≡ 8 → 9 ≡ length_of f
unfolding length_of
length_eight f e = equal_no _ _ _ _ (λ q. omega arith) (equal_no _ _ _ _ (λ q. omega arith) (below_no _ _ _ _ (omega arith) refl))

pub divisor_at : (b : List ℕ) {f g : ℕ} {r : Bool} → r ≡ divisor_fits f b → f ≡ g → r ≡ divisor_fits g b
divisor_at b e q = e ∙ ap (λ (x : ℕ). divisor_fits x b) q

pub compared_at : (width : ℕ) (inh syn b : List ℕ) {k l r : ℕ} → r ≡ at_most_fault (4 * k + 1) width inh syn b → k ≡ l → r ≡ at_most_fault (4 * l + 1) width inh syn b
compared_at width inh syn b e q = e ∙ ap (λ (x : ℕ). at_most_fault (4 * x + 1) width inh syn b) q

pub uses_at :
    (width : ℕ) (inh syn note b : List ℕ) {n m r : ℕ} → r ≡ rule_items width inh syn note b n → n ≡ m → r ≡ rule_items width inh syn note b m
uses_at width inh syn note b e q = e ∙ ap (λ (x : ℕ). rule_items width inh syn note b x) q

module _ (width : ℕ) (inh syn : List ℕ) (p a : ℕ) (known : class_at width inh syn p a ≡ 0 → ⊥) where
  pub class_inside : p ≤ width
  unfolding class_at
  class_inside = ⊎_elim (λ l. absurd (known (sym (below_yes _ _ _ _ l refl)))) (λ l. l) (lt_or_le width p)

  pub class_first : 1 ≤ a
  unfolding class_at
  class_first = ⊎_elim (λ l. absurd (known (sym (below_no _ _ _ _ class_inside (below_yes _ _ _ _ l refl))))) (λ l. l) (lt_or_le a 1)

  pub class_last : a ≤ get_or inh p 0 + get_or syn p 0
  unfolding class_at
  class_last =
      ⊎_elim
      (λ l. absurd (known (sym (below_no _ _ _ _ class_inside (below_no _ _ _ _ class_first (below_yes _ _ _ _ l refl))))))
      (λ l. l)
      (lt_or_le (get_or inh p 0 + get_or syn p 0) a)

-- what the order of a rule is judged by, once its target is known
pub uses_ready :
    (width : ℕ) (inh syn b : List ℕ) (n t x y : ℕ) {number : ℕ} → Small width inh syn → 3 + 2 * n ≤ length b
    → t ≡ class_in width inh syn b 0 → number ≡ class_fault t x y → number ≡ 0
    → (3 + 2 * n ≤ length b) × (byte b 0 < positions_limit) × (1 ≤ byte b 1) × (byte b 1 ≤ attributes_limit)
unfolding class_in
uses_ready width inh syn b n t x y {number} small long is e z =
    let known : class_at width inh syn (byte b 0) (byte b 1) ≡ 0 → ⊥ = λ q. target_known t x y number e z (is ∙ q) in
    let inside : byte b 0 ≤ width = class_inside width inh syn (byte b 0) (byte b 1) known in (
      long,
      omega (arith, small.0),
      class_first width inh syn (byte b 0) (byte b 1) known,
      omega (arith, class_last width inh syn (byte b 0) (byte b 1) known, small.1 (byte b 0) inside),
    )

else_fine : (x y : ℕ) → or_else x y ≡ 0 → x ≡ 0
unfolding or_else if_equal
else_fine x y e = go (eqb x 0) refl
  where
    go : (b : Bool) → eqb x 0 ≡ b → x ≡ 0
    go true q = eqb-true x 0 q
    go false q = sym (ap (λ (z : Bool). cond z y x) q) ∙ e

-- the target of a rule without a fault
pub rule_fine :
    (r width : ℕ) (inh syn note b : List ℕ) → Small width inh syn → rule_fault r width inh syn note b ≡ 0
    → (3 ≤ length b) × (byte b 0 < positions_limit) × (1 ≤ byte b 1) × (byte b 1 ≤ attributes_limit)
unfolding rule_fault rule_items
rule_fine r width inh syn note b small e =
    let q = at_most_fine (nonzero 3) 3 (length b) e in
    let u = below_fine (nonzero 3) r rules_limit q.1 in
    let v = at_most_fine (nonzero 4) (byte b 2) 8 u.1 in
    let w = equal_fine (nonzero 3) (length b) (length_of (byte b 2)) v.1 in
    let x = holds_fine (nonzero 3) (divisor_fits (byte b 2) b) w.1 in
    let n = operand_count (byte b 2) in
    let y = else_fine (class_fault (class_in width inh syn b 0) (operand_class width inh syn b n 0) (operand_class width inh syn b n 1)) (rule_order note n b) x.1 in
    let k = uses_ready width inh syn b 0 (class_in width inh syn b 0) (operand_class width inh syn b n 0) (operand_class width inh syn b n 1) small (omega (arith, q.0)) refl refl y in
    (q.0, k.1, k.2, k.3)

pub ap3 : {A B : Type 0} (f : A → A → A → B) {x x' y y' z z' : A} → x ≡ x' → y ≡ y' → z ≡ z' → f x y z ≡ f x' y' z'
ap3 f p q r = cc

-- ---- a test on numbers in a row

pub count_start : (f : ℕ → Bool) (n : ℕ) → all_count f 0 n ≡ all_count f 0 (n - 0)
count_start f n = ap (all_count f 0) {x = n} {y = n - 0} (omega arith)

module _ (f : ℕ → Bool) (k n : ℕ) where
  one_more : k < n → all_count f k (n - k) ≡ f k && all_count f (k + 1) (n - (k + 1))
  unfolding all_count
  one_more l =
      let e : n - k ≡ suc (n - (k + 1)) = omega arith in
      let s : suc k ≡ k + 1 = omega arith in
      ap (λ (m : ℕ). all f (count_from k m)) e ∙ ap (λ (j : ℕ). f k && all f (count_from j (n - (k + 1)))) s

  pub count_pass : k < n → f k ≡ true → all_count f k (n - k) ≡ all_count f (k + 1) (n - (k + 1))
  count_pass l e = one_more l ∙ ap (λ x. x && all_count f (k + 1) (n - (k + 1))) e

  pub count_fail : k < n → f k ≡ false → all_count f k (n - k) ≡ false
  count_fail l e = one_more l ∙ ap (λ x. x && all_count f (k + 1) (n - (k + 1))) e

  pub count_none : n ≤ k → all_count f k (n - k) ≡ true
  unfolding all_count
  count_none l = let e : n - k ≡ 0 = omega arith in ap (λ (m : ℕ). all f (count_from k m)) e
