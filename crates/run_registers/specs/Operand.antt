-- The operands of a rule by its words: where a selector is 0, the constant stands for the operand.
use Rattle.std.specs.Prelude.{ℕ, zero, suc, ◌≤◌, ◌<◌, ◌≡◌, refl, Bool, true, false, ◌&&◌, get_or, List, ℤ, ◌+ℤ◌}
use Rattle.std.proofs.Common.{arith, sym, ap, ap₂, ◌∙◌, subst}
use Rattle.std.proofs.Math.IntN.{+ℤ_idr}
use Rattle.std.specs.Int.Signed.{le_z}
use Rattle.meaning.specs.Rules.{Operands, Reads}
use Rattle.meaning.specs.Value.{apply, holds}
use Rattle.meaning.specs.Table.{signed}
use Rattle.meaning.specs.Machine.{read_register}
use Rattle.meaning.specs.Program.{function_words, rule_words}
use Rattle.value.specs.Computed.{computed}
use Rattle.theory_program.specs.Parts.{rule_target, rule_function, rule_first, rule_second}
use Rattle.theory_program.specs.Unpacked.{function_from, rule_from, condition_of_kind}
use Rattle.run_registers.specs.Read.{Valued}

abbrev pub operand_of : List ℤ → ℕ → ℤ → ℤ
operand_of rs zero c = c
operand_of rs (suc k) c = read_register rs (suc k)

abbrev pub Fetched : List ℤ → ℕ → Type 0
Fetched rs zero = Unit {0}
Fetched rs (suc k) = Valued rs (suc k)

-- the two words are those of a rule whose operands have values
pub record Applies (rs : List ℤ) (w k : ℕ) : Type 0 where
  pub written : w ≡ get_or (rule_words (rule_from w k)) 0 0
  pub operands : Operands (Valued rs) (rule_from w k).function

-- its operands, and its result from them
pub record Operation (rs : List ℤ) (w k : ℕ) : Type 0 where
  pub first : Fetched rs (rule_first w)
  pub second : Fetched rs (rule_second w)
  pub result : apply (read_register rs) (rule_from w k).function ≡ computed (rule_function w) (operand_of rs (rule_first w) (signed k)) (operand_of rs (rule_second w) (signed k))

-- ---- one operand

pub fetched_some : (rs : List ℤ) (s : ℕ) → 1 ≤ s → Fetched rs s → Valued rs s
fetched_some rs zero l f = absurd (omega arith)
fetched_some rs (suc k) l f = f

pub operand_some : (rs : List ℤ) (s : ℕ) (c : ℤ) → 1 ≤ s → operand_of rs s c ≡ read_register rs s
operand_some rs zero c l = absurd (omega arith)
operand_some rs (suc k) c l = refl

pub operand_none : (rs : List ℤ) (s : ℕ) (c : ℤ) → s ≡ 0 → operand_of rs s c ≡ c
operand_none rs s c e = rw e

valued_fetched : (rs : List ℤ) (s : ℕ) → Valued rs s → Fetched rs s
valued_fetched rs zero v = tt
valued_fetched rs (suc k) v = v

none_fetched : (rs : List ℤ) (s : ℕ) → s ≡ 0 → Fetched rs s
none_fetched rs s e = rw e tt

-- ---- a condition by its kind

module _ (rs : List ℤ) (a b : ℕ) (l h : ℤ) (one : Bool) where
  pub first_read : (k : Bool) → Reads (Valued rs) (condition_of_kind k one a b l h) → Valued rs a
  first_read true v = v
  first_read false v = v.0

  pub second_read : (k : Bool) → k ≡ false → Reads (Valued rs) (condition_of_kind k one a b l h) → Valued rs b
  second_read true e v = absurd (let z : ◌≡◌ {A = ℕ} 0 1 = cc in omega arith)
  second_read false e v = v.1

  pub range_holds : (k : Bool) → k ≡ true → holds (read_register rs) (condition_of_kind k one a b l h) ≡ le_z l (read_register rs a) && le_z (read_register rs a) h
  range_holds k e = rw e

  pub atmost_holds : (k : Bool) → k ≡ false → one ≡ true → holds (read_register rs) (condition_of_kind k one a b l h) ≡ le_z (read_register rs a) (read_register rs b)
  atmost_holds k e f = rw (e, f) (ap (le_z (read_register rs a)) (+ℤ_idr (read_register rs b)))

  pub atmost_plus_holds : (k : Bool) → k ≡ false → one ≡ false → holds (read_register rs) (condition_of_kind k one a b l h) ≡ le_z (read_register rs a) (read_register rs b +ℤ l)
  atmost_plus_holds k e f = rw (e, f)

-- ---- the words of a rule

module _ (rs : List ℤ) (c : ℤ) (t a b w : ℕ) (low : t < 128) (is_first : rule_first w ≡ a) (is_second : rule_second w ≡ b) where
  abbrev Meant : ℕ → Type 0
  Meant f = Fetched rs a × Fetched rs b × (apply (read_register rs) (function_from f a b c) ≡ computed f (operand_of rs a c) (operand_of rs b c))

  with_two : (f : ℕ) → Valued rs a → Valued rs b → apply (read_register rs) (function_from f a b c) ≡ computed f (read_register rs a) (read_register rs b) → Meant f
  with_two f p q e = (valued_fetched rs a p, valued_fetched rs b q, e ∙ sym (ap₂ (computed f) (operand_some rs a c p.0) (operand_some rs b c q.0)))

  with_one : (f : ℕ) → Valued rs a → b ≡ 0 → apply (read_register rs) (function_from f a b c) ≡ computed f (read_register rs a) c → Meant f
  with_one f p z e = (valued_fetched rs a p, none_fetched rs b z, e ∙ sym (ap₂ (computed f) (operand_some rs a c p.0) (operand_none rs b c z)))

  meant : (f : ℕ) → rule_function w ≡ f → w ≡ get_or (function_words t (function_from f a b c)) 0 0 → Operands (Valued rs) (function_from f a b c) → Meant f
  meant zero n e p =
      let y : a ≡ 0 = omega arith in
      let z : b ≡ 0 = omega arith in
      (none_fetched rs a y, none_fetched rs b z, sym (operand_none rs a c y))
  meant (suc zero) n e p = with_one 1 p (omega arith) refl
  meant (suc (suc zero)) n e p = with_two 2 p.0 p.1 refl
  meant (suc (suc (suc zero))) n e p = with_two 3 p.0 p.1 refl
  meant (suc (suc (suc (suc zero)))) n e p = with_two 4 p.0 p.1 refl
  meant (suc (suc (suc (suc (suc zero))))) n e p = with_two 5 p.0 p.1 refl
  meant (suc (suc (suc (suc (suc (suc zero)))))) n e p = with_two 6 p.0 p.1 refl
  meant (suc (suc (suc (suc (suc (suc (suc zero))))))) n e p = with_one 7 p (omega arith) refl
  meant (suc (suc (suc (suc (suc (suc (suc (suc zero)))))))) n e p = with_one 8 p (omega arith) refl
  meant (suc (suc (suc (suc (suc (suc (suc (suc (suc f))))))))) n e p = absurd (omega arith)

pub operation : {rs : List ℤ} {w k : ℕ} → Applies rs w k → Operation rs w k
operation {rs} {w} {k} q =
    let m = meant rs (signed k) (rule_target w) (rule_first w) (rule_second w) w (omega arith) refl refl (rule_function w) refl q.written q.operands in
    record { first = m.0; second = m.1; result = m.2 }

-- ---- a rule by its function's number

module _ {rs : List ℤ} {w k : ℕ} (q : Applies rs w k) where
  abbrev by : ℕ → ℤ
  by f = apply (read_register rs) (function_from f (rule_first w) (rule_second w) (signed k))

  asked : {f : ℕ} → rule_function w ≡ f → Operands (Valued rs) (function_from f (rule_first w) (rule_second w) (signed k))
  asked e = subst (λ (f : ℕ). Operands (Valued rs) (function_from f (rule_first w) (rule_second w) (signed k))) e q.operands

  pub is_const : rule_function w ≡ 0 → apply (read_register rs) (rule_from w k).function ≡ signed k
  is_const e = ap by e

  pub is_copy : rule_function w ≡ 1 → Valued rs (rule_first w) × (apply (read_register rs) (rule_from w k).function ≡ read_register rs (rule_first w))
  is_copy e = (asked e, ap by e)

  pub is_sum : rule_function w ≡ 2 → Valued rs (rule_first w) × Valued rs (rule_second w) × (apply (read_register rs) (rule_from w k).function ≡ read_register rs (rule_first w) +ℤ read_register rs (rule_second w))
  is_sum e = ((asked e).0, (asked e).1, ap by e)

  pub is_addc : rule_function w ≡ 7 → Valued rs (rule_first w) × (apply (read_register rs) (rule_from w k).function ≡ read_register rs (rule_first w) +ℤ signed k)
  is_addc e = (asked e, ap by e)
