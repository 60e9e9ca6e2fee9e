-- Rows: rules and conditions from their words, on a small stack.
use Rattle.std.specs.Prelude.{◌≡◌, refl, true, false, [], ◌∷◌, pos, negsuc}
use Rattle.std.proofs.Math.Option.{none, some}
use Rattle.meaning.specs.Base.{all}
use Rattle.meaning.specs.Grammar.{copy, addc, range, atmost}
use Rattle.meaning.specs.Value.{holds, highest, mark}
use Rattle.meaning.specs.Machine.{read_register}
use Rattle.meaning.specs.Calls.{lay}
use Rattle.run_registers.specs.Stack.{stack}
use Rattle.run_registers.specs.Read.{rules_from, conditions_from, values_fit, after_rules}

-- 01's grammar of words and tags: "2 E2 1 addc 3 1" and, behind it, "0 E0 2 copy 1"
two_rules : rules_from (7041 ∷ 1 ∷ 2178 ∷ 0 ∷ []) 0 2 ≡ record { target = 1; function = addc 3 (pos 1) } ∷ record { target = 2; function = copy 1 } ∷ []
unfolding rules_from
two_rules = refl

-- "2 P0 range 1 0 2", register 2 at most register 3, and at most register 3 less 3
three_conditions : conditions_from (1 ∷ 0 ∷ 2 ∷ 6274 ∷ 0 ∷ 0 ∷ 6402 ∷ 4294967293 ∷ 0 ∷ []) 0 3 ≡ range 1 (pos 0) (pos 2) ∷ atmost 2 3 none ∷ atmost 2 3 (some (negsuc 2)) ∷ []
unfolding conditions_from
three_conditions = refl

hold : all (holds (read_register (stack 3 (pos 9 ∷ pos 4 ∷ pos 2 ∷ mark ∷ [])))) (range 1 (pos 0) (pos 2) ∷ atmost 2 3 none ∷ []) ≡ true
hold = refl

fail : all (holds (read_register (stack 3 (pos 3 ∷ pos 4 ∷ pos 2 ∷ mark ∷ [])))) (range 1 (pos 0) (pos 2) ∷ atmost 2 3 none ∷ []) ≡ false
fail = refl

-- operands are read before anything is written: two registers are exchanged
exchanged : lay 2 mark (after_rules true (record { target = 1; function = copy 2 } ∷ record { target = 2; function = copy 1 } ∷ []) (stack 2 (pos 5 ∷ pos 7 ∷ mark ∷ []))) (pos 5 ∷ pos 7 ∷ mark ∷ []) ≡ pos 7 ∷ pos 5 ∷ mark ∷ []
exchanged = refl

-- one value out of range is enough
one_out : values_fit (record { target = 1; function = copy 2 } ∷ record { target = 2; function = addc 2 (pos 1) } ∷ []) (mark ∷ highest ∷ []) ≡ false
one_out = refl
