-- What is read from the bytes of a field, step by step, is what the field says.
use Rattle.std.specs.Prelude.{ℕ, ◌+◌, ◌≤◌, ◌<◌, ◌≡◌, Bool, ◌&&◌, List, get_or, ℤ, pos, ◌+ℤ◌}
use Rattle.std.proofs.Math.Path.{sym, ap, ap₂}
use Rattle.std.proofs.Common.{◌∙◌, lt-ltb, le-ltb, eq-eqb, ne_eqb}
use Rattle.std.proofs.Math.Bool.{cond}
use Rattle.std.specs.Int.Signed.{le_z}
use Rattle.meaning.specs.Grammar.{Occurrence}
use Rattle.meaning.specs.Table.{byte, constant_at}
use Rattle.value.specs.Computed.{computed}
use Rattle.value.specs.Ranged.{ranged}
use Rattle.theory_judge.specs.Holding.{same_z, occurrence_here, first_here, second_here, rule_here, added_here, choose_bool, condition_here, field_true}
use Rattle.theory_judge.specs.Marks.{read_mark, read_at}

pub occurrence_is : (sheet : List ℕ) (values : List ℤ) (marks d : List ℕ) (i p a m : ℕ) (r : ℤ) → p ≡ byte d i → a ≡ byte d (i + 1) → m ≡ get_or marks p 0 → r ≡ read_mark sheet values m a → r ≡ occurrence_here (read_at sheet values marks) d i
unfolding occurrence_here read_at
occurrence_is sheet values marks d i p a m r ep ea em er = er ∙ (ap₂ (read_mark sheet values) (em ∙ ap (λ k. get_or marks k 0) ep) ea)

module _ (v : Occurrence → ℤ) (d : List ℕ) where
  module _ (f : ℕ) (r : ℤ) where
    pub first_constant : f ≡ 0 → r ≡ constant_at d 6 → r ≡ first_here v d f
    unfolding first_here
    first_constant e q = q ∙ sym (ap (λ b. cond b (constant_at d 6) (occurrence_here v d 6)) (eq-eqb f 0 e))

    pub first_occurrence : (f ≡ 0 → ⊥) → r ≡ occurrence_here v d 6 → r ≡ first_here v d f
    unfolding first_here
    first_occurrence e q = q ∙ sym (ap (λ b. cond b (constant_at d 6) (occurrence_here v d 6)) (ne_eqb f 0 e))

    pub second_occurrence : f < 7 → r ≡ occurrence_here v d 8 → r ≡ second_here v d f
    unfolding second_here
    second_occurrence e q = q ∙ sym (ap (λ b. cond b (occurrence_here v d 8) (constant_at d 8)) (lt-ltb f 7 e))

    pub second_constant : 7 ≤ f → r ≡ constant_at d 8 → r ≡ second_here v d f
    unfolding second_here
    second_constant e q = q ∙ sym (ap (λ b. cond b (occurrence_here v d 8) (constant_at d 8)) (le-ltb f 7 e))

  pub rule_is : (f : ℕ) (a b c t : ℤ) (r : Bool) → f ≡ byte d 5 → a ≡ first_here v d f → b ≡ second_here v d f → c ≡ ranged (computed f a b) → t ≡ occurrence_here v d 3 → r ≡ same_z c t → r ≡ rule_here v d
  unfolding rule_here
  rule_is f a b c t r ef ea eb ec et er =
      let whole : c ≡ ranged (computed (byte d 5) (first_here v d (byte d 5)) (second_here v d (byte d 5))) = ec ∙ (ap₂ (λ x y. ranged (computed f x y)) ea eb ∙ ap (λ k. ranged (computed k (first_here v d k) (second_here v d k))) ef) in
      er ∙ ap₂ same_z whole et

  pub range_is : (k : ℕ) (a low high : ℤ) (r : Bool) → k ≡ byte d 3 → k ≡ 0 → a ≡ occurrence_here v d 4 → low ≡ constant_at d 6 → high ≡ constant_at d 10 → r ≡ le_z low a && le_z a high → r ≡ condition_here v d
  unfolding condition_here
  range_is k a low high r ek ez ea el eh er =
      er ∙ ((λ i. le_z (el i) (ea i) && le_z (ea i) (eh i)) ∙ sym (ap (λ b. choose_bool b (le_z (constant_at d 6) (occurrence_here v d 4) && le_z (occurrence_here v d 4) (constant_at d 10)) (le_z (occurrence_here v d 4) (occurrence_here v d 6 +ℤ added_here d))) (eq-eqb (byte d 3) 0 (sym ek ∙ ez))))

  pub compare_is : (k : ℕ) (a b c : ℤ) (r : Bool) → k ≡ byte d 3 → (k ≡ 0 → ⊥) → a ≡ occurrence_here v d 4 → b ≡ occurrence_here v d 6 → c ≡ added_here d → r ≡ le_z a (b +ℤ c) → r ≡ condition_here v d
  unfolding condition_here
  compare_is k a b c r ek ez ea eb ec er =
      er ∙ ((λ i. le_z (ea i) (eb i +ℤ ec i)) ∙ sym (ap (λ b. choose_bool b (le_z (constant_at d 6) (occurrence_here v d 4) && le_z (occurrence_here v d 4) (constant_at d 10)) (le_z (occurrence_here v d 4) (occurrence_here v d 6 +ℤ added_here d))) (ne_eqb (byte d 3) 0 (λ z. ez (ek ∙ z)))))

  pub field_rule : (k : ℕ) (r : Bool) → k ≡ byte d 0 → k ≡ 4 → r ≡ rule_here v d → r ≡ field_true v d
  unfolding field_true
  field_rule k r ek e q = q ∙ sym (ap (λ b. choose_bool b (rule_here v d) (condition_here v d)) (eq-eqb (byte d 0) 4 (sym ek ∙ e)))

  pub field_condition : (k : ℕ) (r : Bool) → k ≡ byte d 0 → (k ≡ 4 → ⊥) → r ≡ condition_here v d → r ≡ field_true v d
  unfolding field_true
  field_condition k r ek e q = q ∙ sym (ap (λ b. choose_bool b (rule_here v d) (condition_here v d)) (ne_eqb (byte d 0) 4 (λ z. e (ek ∙ z))))

module _ (d : List ℕ) (k : ℕ) (r : ℤ) where
  pub added_none : k ≡ byte d 3 → k ≡ 1 → r ≡ pos 0 → r ≡ added_here d
  unfolding added_here
  added_none ek e q = q ∙ sym (ap (λ b. cond b (pos 0) (constant_at d 8)) (eq-eqb (byte d 3) 1 (sym ek ∙ e)))

  pub added_constant : k ≡ byte d 3 → (k ≡ 1 → ⊥) → r ≡ constant_at d 8 → r ≡ added_here d
  unfolding added_here
  added_constant ek e q = q ∙ sym (ap (λ b. cond b (pos 0) (constant_at d 8)) (ne_eqb (byte d 3) 1 (λ z. e (ek ∙ z))))
