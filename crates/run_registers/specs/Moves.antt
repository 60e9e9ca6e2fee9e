-- What a caller shows, and learns, whose register stack is laid in memory and whose rules or conditions stand in the program.
use Rattle.std.specs.Prelude.{ℕ, ◌≡◌, Bool, true, false, List, ℤ, length}
use Rattle.std.proofs.Common.{arith, ap, ◌∙◌, subst}
use Rattle.meaning.specs.Base.{In, all}
use Rattle.meaning.specs.Grammar.{Rule, Condition}
use Rattle.meaning.specs.Rules.{Operands, Reads}
use Rattle.meaning.specs.Value.{holds, mark}
use Rattle.meaning.specs.Machine.{read_register}
use Rattle.theory_answers.specs.Bounds.{length_write_all}
use Rattle.theory_program.specs.Code.{RulesAt, ConditionsAt}
use Rattle.theory_program.specs.Proper.{ProperRule, ProperCondition}
use Rattle.run_registers.specs.Stack.{stack}
use Rattle.run_registers.specs.Laid.{Laid, laid_stack, laid_over}
use Rattle.run_registers.specs.Read.{rules_from, conditions_from, rules_read, conditions_read, SelectorStands, Valued, Tests, tests, Evaluates, evaluates, values_fit, after_rules, Evaluated}

module _ {n h : ℕ} {base mem rs : List ℤ} (s : Laid n mark base mem h rs) {ws : List ℕ} {a : ℕ} where
  module _ (cs : List (Condition ℕ)) (w : ConditionsAt ws a cs) (p : (c : Condition ℕ) → In c cs → ProperCondition c) where
    pub test_ready : ((c : Condition ℕ) → In c cs → Reads (Valued rs) c) → Tests ws a (length cs) (stack h mem)
    test_ready v = rw (laid_stack s) (tests cs rs w p v)

    pub test_done : all (holds (read_register (stack h mem))) (conditions_from ws a (length cs)) ≡ all (holds (read_register rs)) cs
    test_done = rw (laid_stack s, conditions_read cs w p)

  module _ (rules : List (Rule ℕ)) (w : RulesAt ws a rules) (p : (r : Rule ℕ) → In r rules → ProperRule r) where
    pub evaluate_ready : ((r : Rule ℕ) → In r rules → SelectorStands rs r.target × Operands (Valued rs) r.function) → Evaluates ws a (length rules) (stack h mem)
    evaluate_ready v = rw (laid_stack s) (evaluates rules rs w p v)

    kept : (b : Bool) → length (after_rules b rules rs) ≡ h
    kept true = length_write_all rules rs rs ∙ s.height
    kept false = s.height

    pub evaluate_done : {r : Bool} {mem' : List ℤ} → Evaluated (rules_from ws a (length rules)) h mem r mem' → (r ≡ values_fit rules rs) × Laid n mark base mem' h (after_rules r rules rs)
    evaluate_done {r} {mem'} v =
        let e : Evaluated rules h mem r mem' = subst (λ qs. Evaluated qs h mem r mem') (rules_read rules w p) v in
        (e.answer ∙ ap (values_fit rules) (laid_stack s), rw (e.memory, laid_stack s) (laid_over s h (after_rules r rules rs) (kept r) (omega arith)))
