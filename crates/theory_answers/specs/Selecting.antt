-- 001's selectors lie among the registers that hold values, and where the targets lie.
use Rattle.std.specs.Prelude.{ℕ, zero, suc, ◌+◌, ◌-◌, ◌≤◌, ◌<◌, ◌≡◌, List, ◌++◌, get_or, length, T, ℤ}
use Rattle.std.proofs.Common.{arith, sym, ap, ◌∙◌, subst, get_or-append-add}
use Rattle.std.proofs.Math.ListN.{get_or-append}
use Rattle.std.proofs.Math.Dec.{eqb-suc-zero}
use Rattle.meaning.specs.Base.{all}
use Rattle.meaning.specs.Grammar.{nonterminal, Occurrence, Function, const, copy, binary, addc, quot, Condition, range, atmost, Production, Grammar, inh, syn, symbol_at, map_function, map_condition}
use Rattle.meaning.specs.Value.{in_range, mark}
use Rattle.meaning.specs.Rules.{Operands, Reads, InputAt}
use Rattle.meaning.specs.Scheme.{syn_between, select_after}
use Rattle.meaning.specs.Selectors.{occurrence}
use Rattle.meaning.specs.Machine.{read_register}
use Rattle.theory_base.specs.Selectors.{syn_none, syn_more}
use Rattle.theory_base.specs.WellFormed.{Available}
use Rattle.theory_sets.specs.Tests.{all_at}

-- ---- operands through a selector

module _ {O Q : Type 0} {P : O → Type 0} (R : Q → Type 0) (sel : O → Q) (h : (o : O) → P o → R (sel o)) where
  pub operands_through : (f : Function O) → Operands P f → Operands R (map_function sel f)
  operands_through (const c) u = tt
  operands_through (copy a) u = h a u
  operands_through (binary f a b) u = (h a u.0, h b u.1)
  operands_through (addc a c) u = h a u
  operands_through (quot a c) u = h a u

  pub reads_through : (c : Condition O) → Reads P c → Reads R (map_condition sel c)
  reads_through (range a l u) r = h a r
  reads_through (atmost a b c) r = (h a r.0, h b r.1)

-- ---- sums of counts

-- the symbol at position i + 1 is one of the first i + 1 + n
syn_part : (g : Grammar) (p : Production) (i n : ℕ) → i + suc n ≤ length p.right → syn_between g p (suc i) (i + suc n) + syn g (symbol_at p (suc i)) ≤ syn_between g p 0 (i + suc n)
syn_part g p i zero l =
    let e : i + 1 ≡ suc i = omega arith in
    rw e (omega (arith, syn_none g p (suc i), syn_more g p 0 i (omega arith) (omega arith)))
syn_part g p i (suc n) l =
    let e : i + suc (suc n) ≡ suc (i + suc n) = omega arith in
    rw e (omega (arith, syn_part g p i n (omega arith), syn_more g p 0 (i + suc n) (omega arith) (omega arith), syn_more g p (suc i) (i + suc n) (omega arith) (omega arith)))

-- ---- the selectors

after_bounds : (g : Grammar) (p : Production) (n k a : ℕ) → n ≤ length p.right → InputAt g p k a → k ≤ n → (1 ≤ select_after g p n (occurrence k a)) × (select_after g p n (occurrence k a) ≤ syn_between g p 0 n + inh g (nonterminal p.left))
after_bounds g p n zero a s h l = (omega (arith, h.0), omega (arith, h.1))
after_bounds g p n (suc k) a s h l =
    let m : ℕ = n - suc k in
    let e : k + suc m ≡ n = omega arith in
    let u : syn_between g p (suc k) n + syn g (symbol_at p (suc k)) ≤ syn_between g p 0 n = subst (λ z. syn_between g p (suc k) z + syn g (symbol_at p (suc k)) ≤ syn_between g p 0 z) e (syn_part g p k m (omega arith)) in
    rw (eqb-suc-zero k) (omega (arith, h.1), omega (arith, h.1, h.2, u))

-- with no registers added: every input up to the last symbol left lies in the registers of these and of the left side
pub after_within : (g : Grammar) (p : Production) (n : ℕ) (o : Occurrence) → n ≤ length p.right → Available g p n o → (1 ≤ select_after g p n o) × (select_after g p n o ≤ syn_between g p 0 n + inh g (nonterminal p.left))
after_within g p n o s h = after_bounds g p n o.position o.attribute s h.0 h.1

-- ---- registers

-- a register among those that hold values
pub reads_value : (pre mid post : List ℤ) (k : ℕ) → T (all in_range mid) → length pre < k → k ≤ length pre + length mid → T (in_range (read_register (pre ++ (mid ++ post)) k))
reads_value pre mid post k t a b =
    let j : ℕ = k - 1 - length pre in
    let e : k - 1 ≡ length pre + j = omega arith in
    let i : j < length mid = omega arith in
    let same : read_register (pre ++ (mid ++ post)) k ≡ get_or mid j mark = ap (λ z. get_or (pre ++ (mid ++ post)) z mark) e ∙ (get_or-append-add pre (mid ++ post) j mark ∙ get_or-append mid post mark j i) in
    subst (λ z. T (in_range z)) (sym same) (all_at in_range mid j mark i t)
