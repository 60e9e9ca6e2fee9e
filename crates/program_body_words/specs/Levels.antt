-- Selectors by levels: how many registers above the left side's stand below those of each position. Register `top + attribute - level` is the occurrence's.
use Prim.Native.Nat.{ℕ, zero, suc, ◌+◌, ◌-◌, ◌≤◌, ◌<◌}
use native.Mathlib.Omega.{arith}
use Rattle.std.specs.Prelude.{◌≡◌, refl, true, false, List, [], ◌∷◌, map, length}
use Rattle.std.proofs.Math.Path.{ap, subst}
use Rattle.std.proofs.Common.{ap₂, inl, inr, eq-eqb, ne_eqb}
use Rattle.std.proofs.Math.ListN.{get_or}
use Rattle.std.proofs.Math.Dec.{eqb→eq, eqb-suc-zero}
use Rattle.meaning.specs.Base.{In}
use Rattle.meaning.specs.Grammar.{Symbol, terminal, nonterminal, Occurrence, Function, const, copy, binary, addc, quot, Rule, Condition, range, atmost, Production, Grammar, inh, syn, marked_for, symbol_at, condition_position, map_function, map_rule, map_condition, conditions_at}
use Rattle.meaning.specs.Rules.{Operands, Reads, InputAt, OutputAt, WellFormedProduction}
use Rattle.meaning.specs.Scheme.{syn_between, select_inherited, select_after, rules_for, inherited_rules, synthesized_rules, tests_after}
use Rattle.meaning.specs.Program.{concat, rule_words, condition_words}
use Rattle.theory_base.specs.Agree.{operands_map, reads_map, reads_available}
use Rattle.theory_base.specs.Members.{in_keep}
use Rattle.theory_base.specs.Selectors.{syn_none, syn_more}
use Rattle.theory_base.specs.Values.{operands_available}
use Rattle.theory_base.specs.WellFormed.{Available, evaluable}
use Rattle.program_block_words.specs.Items.{selector, selector_of}
use Rattle.program_block_words.specs.Walk.{words_of}

abbrev pub level : Grammar → Production → ℕ → ℕ
level g p zero = 0
level g p (suc k) = syn_between g p 0 (suc k) + inh g (symbol_at p (suc k))

-- of each position of the production
abbrev pub Leveled : Grammar → Production → List ℕ → Type 0
Leveled g p levels = (k : ℕ) → k ≤ length p.right → get_or levels k 0 ≡ level g p k

syn_split : (g : Grammar) (p : Production) (i n : ℕ) → i + n ≤ length p.right → syn_between g p 0 (i + n) ≡ syn_between g p 0 i + syn_between g p i (i + n)
syn_split g p i zero l =
    let e : i + 0 ≡ i = omega arith in
    rw e (omega (arith, syn_none g p i))
syn_split g p i (suc n) l =
    let e : i + suc n ≡ suc (i + n) = omega arith in
    rw e (omega (arith, syn_split g p i n (omega arith), syn_more g p 0 (i + n) (omega arith) (omega arith), syn_more g p i (i + n) (omega arith) (omega arith)))

syn_parts : (g : Grammar) (p : Production) (i k : ℕ) → i ≤ k → k ≤ length p.right → syn_between g p 0 k ≡ syn_between g p 0 i + syn_between g p i k
syn_parts g p i k h l =
    let e : i + (k - i) ≡ k = omega arith in
    subst (λ z. syn_between g p 0 z ≡ syn_between g p 0 i + syn_between g p i z) e (syn_split g p i (k - i) (omega arith))

-- a symbol that inherits is a nonterminal: what stands marked for it is what it synthesizes
marked_own : (g : Grammar) (x : Symbol) → 1 ≤ inh g x → marked_for g x ≡ syn g x
marked_own g (terminal t) h = absurd (omega arith)
marked_own g (nonterminal n) h = refl

module _ (g : Grammar) (p : Production) (levels : List ℕ) (is : Leveled g p levels) where
  -- after the first k symbols
  after_at : (k : ℕ) → k ≤ length p.right → (i a : ℕ) → InputAt g p i a → i ≤ k → selector (syn_between g p 0 k) levels i a ≡ select_after g p k (record { position = i; attribute = a })
  unfolding selector
  after_at k l zero a h m = omega (arith, is 0 (omega arith))
  after_at k l (suc i) a h m =
      rw (eqb-suc-zero i) (omega (arith, is (suc i) (omega arith), syn_parts g p (suc i) k m l, h.1))

  after_selects : (k : ℕ) → k ≤ length p.right → (o : Occurrence) → Available g p k o → selector_of (syn_between g p 0 k) levels o ≡ select_after g p k o
  after_selects k l o h = after_at k l o.position o.attribute h.0 h.1

  -- where the inherited attributes of symbol k + 1 are evaluated
  before_at : (k : ℕ) → k < length p.right → marked_for g (symbol_at p (suc k)) ≡ syn g (symbol_at p (suc k)) → (i a : ℕ) → InputAt g p i a → i ≤ k → selector (level g p (suc k)) levels i a ≡ select_inherited g p (suc k) (record { position = i; attribute = a })
  unfolding selector
  before_at k l own zero a h m =
      let e : suc k - 1 ≡ k = omega arith in
      rw (ne_eqb 0 (suc k) (λ z. omega arith), e) (omega (arith, own, is 0 (omega arith), syn_more g p 0 k (omega arith) l))
  before_at k l own (suc i) a h m =
      let e : suc k - 1 ≡ k = omega arith in
      rw (ne_eqb (suc i) (suc k) (λ z. omega arith), eqb-suc-zero i, e) (omega (arith, own, is (suc i) (omega arith), syn_more g p 0 k (omega arith) l, syn_parts g p (suc i) k m (omega arith), h.1))

  before_selects : (k : ℕ) → k < length p.right → marked_for g (symbol_at p (suc k)) ≡ syn g (symbol_at p (suc k)) → (o : Occurrence) → Available g p k o → selector_of (level g p (suc k)) levels o ≡ select_inherited g p (suc k) o
  before_selects k l own o h = before_at k l own o.position o.attribute h.0 h.1

  own_selects : (k : ℕ) → k < length p.right → (o : Occurrence) → o.position ≡ suc k → selector_of (level g p (suc k)) levels o ≡ select_inherited g p (suc k) o
  unfolding selector
  own_selects k l o e = rw (eq-eqb o.position (suc k) e) (omega (arith, ap (λ z. get_or levels z 0) e, is (suc k) (omega arith)))

  left_selects : (k : ℕ) (o : Occurrence) → o.position ≡ 0 → selector_of (syn_between g p 0 k) levels o ≡ select_after g p k o
  unfolding selector
  left_selects k o e = rw (eq-eqb o.position 0 e) (omega (arith, ap (λ z. get_or levels z 0) e, is 0 (omega arith)))

-- ---- rules and conditions with selectors that agree

function_agree : (sel sel' : Occurrence → ℕ) (f : Function Occurrence) → Operands (λ o. sel o ≡ sel' o) f → map_function sel f ≡ map_function sel' f
function_agree sel sel' (const c) h = refl
function_agree sel sel' (copy a) h = ap copy h
function_agree sel sel' (binary f a b) h = ap₂ (binary f) h.0 h.1
function_agree sel sel' (addc a c) h = ap (λ z. addc z c) h
function_agree sel sel' (quot a c) h = ap (λ z. quot z c) h

rule_agree : (sel sel' : Occurrence → ℕ) (r : Rule Occurrence) → sel r.target ≡ sel' r.target → Operands (λ o. sel o ≡ sel' o) r.function → map_rule sel r ≡ map_rule sel' r
rule_agree sel sel' r e h = ap₂ (λ t f. record { target = t; function = f }) e (function_agree sel sel' r.function h)

condition_agree : (sel sel' : Occurrence → ℕ) (c : Condition Occurrence) → Reads (λ o. sel o ≡ sel' o) c → map_condition sel c ≡ map_condition sel' c
condition_agree sel sel' (range a l u) h = ap (λ z. range z l u) h
condition_agree sel sel' (atmost a b c) h = ap₂ (λ x y. atmost x y c) h.0 h.1

map_agree : {A B : Type 0} (f h : A → B) (xs : List A) → ((x : A) → In x xs → f x ≡ h x) → map f xs ≡ map h xs
map_agree f h [] e = refl
map_agree f h (x ∷ xs) e = ap₂ (λ y ys. y ∷ ys) (e x (inl refl)) (map_agree f h xs (λ y i. e y (inr i)))

-- ---- the words of a block are those of the scheme's instruction

module _ (g : Grammar) (p : Production) (w : WellFormedProduction g p) (levels : List ℕ) (is : Leveled g p levels) where
  pub inherited_words : (k : ℕ) → k < length p.right → words_of true (level g p (suc k)) levels (suc k) p.rules p.conditions ≡ concat (map rule_words (inherited_rules g p (suc k)))
  unfolding words_of
  inherited_words k l = ap (λ z. concat (map rule_words z)) (map_agree _ _ (rules_for p (suc k)) each)
    where
      each : (r : Rule Occurrence) → In r (rules_for p (suc k)) → map_rule (selector_of (level g p (suc k)) levels) r ≡ map_rule (select_inherited g p (suc k)) r
      each r i =
          let j = in_keep _ p.rules r i in
          let e : r.target.position ≡ suc k = eqb→eq r.target.position (suc k) j.0 in
          let t : OutputAt g p (suc k) r.target.attribute = subst (λ z. OutputAt g p z r.target.attribute) e (w.targets r j.1) in
          let own = marked_own g (symbol_at p (suc k)) (omega (arith, t.1, t.2)) in
          rule_agree _ _ r (own_selects g p levels is k l r.target e) (operands_map (λ o h. before_selects g p levels is k l own o h) r.function (operands_available g p (evaluable w) k r j.1 (omega (arith, e)) (λ z. absurd (omega (arith, e)))))

  pub synthesized_words : words_of true (syn_between g p 0 (length p.right)) levels 0 p.rules p.conditions ≡ concat (map rule_words (synthesized_rules g p))
  unfolding words_of
  synthesized_words = ap (λ z. concat (map rule_words z)) (map_agree _ _ (rules_for p 0) each)
    where
      each : (r : Rule Occurrence) → In r (rules_for p 0) → map_rule (selector_of (syn_between g p 0 (length p.right)) levels) r ≡ map_rule (select_after g p (length p.right)) r
      each r i =
          let j = in_keep _ p.rules r i in
          let e : r.target.position ≡ 0 = eqb→eq r.target.position 0 j.0 in
          rule_agree _ _ r (left_selects g p levels is (length p.right) r.target e) (operands_map (λ o h. after_selects g p levels is (length p.right) (omega arith) o h) r.function (operands_available g p (evaluable w) (length p.right) r j.1 (omega (arith, e)) (λ z. omega arith)))

  pub tests_words : (k : ℕ) → k ≤ length p.right → words_of false (syn_between g p 0 k) levels k p.rules p.conditions ≡ concat (map condition_words (tests_after g p k))
  unfolding words_of
  tests_words k l = ap (λ z. concat (map condition_words z)) (map_agree _ _ (conditions_at p k) each)
    where
      each : (c : Condition Occurrence) → In c (conditions_at p k) → map_condition (selector_of (syn_between g p 0 k) levels) c ≡ map_condition (select_after g p k) c
      each c i =
          let j = in_keep _ p.conditions c i in
          let e : condition_position c ≡ k = eqb→eq (condition_position c) k j.0 in
          condition_agree _ _ c (reads_map (λ o h. after_selects g p levels is k l o h) c (reads_available g p k c (omega (arith, e)) (w.reads c j.1)))
