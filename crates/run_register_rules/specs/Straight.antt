-- Rules evaluated straight into their registers: what stands when some of them are.
use Rattle.std.specs.Prelude.{ℕ, ◌-◌, ◌≡◌, List, ℤ, length}
use Rattle.meaning.specs.Base.{In}
use Rattle.meaning.specs.Grammar.{Rule}
use Rattle.meaning.specs.Value.{mark}
use Rattle.meaning.specs.Machine.{read_register, write_all}
use Rattle.meaning.specs.Calls.{lay}
use Rattle.run_registers.specs.Stack.{stack}
use Rattle.run_registers.specs.Read.{rules_from, values_fit, Valued, Evaluates}
use Rattle.run_register_rules.specs.Remarked.{remarked}

-- the values of i of n rules are written into m, which was m₀; the next one stands at p
pub record Straight (ws : List ℕ) (at n h : ℕ) (m₀ : List ℤ) (i p : ℕ) (m : List ℤ) : Type 0 where
  pub left : Evaluates ws p (n - i) (stack h m₀)
  pub members : (q : Rule ℕ) → In q (rules_from ws p (n - i)) → In q (rules_from ws at n)
  pub answer : values_fit (rules_from ws at n) (stack h m₀) ≡ values_fit (rules_from ws p (n - i)) (stack h m₀)
  -- what held a value holds it still
  pub agree : (k : ℕ) → Valued (stack h m₀) k → read_register (stack h m) k ≡ read_register (stack h m₀) k
  pub restored : remarked (rules_from ws at n) (stack h m) ≡ stack h m₀
  pub same_length_value : length m ≡ length m₀
  pub laid : lay h mark (stack h m) m₀ ≡ m
  pub written : write_all (rules_from ws at n) (stack h m₀) (stack h m₀) ≡ write_all (rules_from ws p (n - i)) (stack h m₀) (stack h m)
