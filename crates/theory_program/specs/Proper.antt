-- What the instructions of a well-formed grammar's schemes hold: selectors from 1 to 127, constants in 32 bits, counts that are small.
use Rattle.std.specs.Prelude.{ℕ, zero, suc, ◌+◌, ◌-◌, ◌*◌, ◌≤◌, ◌<◌, ◌≡◌, refl, Bool, true, false, not, List, [], ◌∷◌, map, length, take, drop, T, eqb, ltb}
use Rattle.std.proofs.Common.{arith, sym, ap, subst, inl, inr, length-take, length-drop, ltb→lt}
use Rattle.std.proofs.Math.Option.{none, some}
use Rattle.std.proofs.lemmas.List.{length-map}
use Rattle.std.proofs.Math.Dec.{eqb-suc-zero}
use Rattle.meaning.specs.Limits.{conditions_limit, attributes_limit, symbols_limit}
use Rattle.meaning.specs.Base.{In, keep, cons_if, total, is_empty, any}
use Rattle.meaning.specs.Grammar.{Symbol, terminal, nonterminal, Occurrence, Function, const, copy, binary, addc, quot, Rule, Condition, range, atmost, Production, Grammar}
use Rattle.meaning.specs.Grammar.{syn, att, symbol_at, production_at, whole_production, condition_position, added_for, map_function, map_condition, map_rule, conditions_at}
use Rattle.meaning.specs.Rules.{Operands, Reads, Input, InputAt, Output, OutputAt, Operand, Known, InFourBytes, Constant, Proper, WellFormedProduction, WellFormed}
use Rattle.meaning.specs.Selectors.{occurrence}
use Rattle.meaning.specs.Scheme.{Instruction, add, evaluate, expect, test, remove, syn_between, select_inherited, select_after, rules_for, entry_tests, tests_after, inherited_rules, synthesized_rules, removed, symbol_scheme, symbols_scheme, scheme}
use Rattle.theory_base.specs.Members.{in_keep, get_d_in, map_in}
use Rattle.theory_base.specs.WellFormed.{listed_at, counts_most}
use Rattle.theory_base.specs.Selectors.{inherited_at, target_of_inherited, target_of_synthesized}
use Rattle.theory_base.specs.Present.{in_for}
use Rattle.theory_base.specs.Evaluate.{distinct_keep}
use Rattle.theory_base.specs.Feeds.{attribute_most}
use Rattle.theory_answers.specs.Selecting.{operands_through, reads_through}
use Rattle.theory_program.specs.RuleCounts.{rules_few}

-- ---- what is said

abbrev pub Selector : ℕ → Type 0
Selector k = (1 ≤ k) × (k ≤ 127)

pub record ProperRule (r : Rule ℕ) : Type 0 where
  pub target : Selector r.target
  pub operands : Operands Selector r.function
  pub constant : Constant r.function

abbrev pub Bounds : {O : Type 0} → Condition O → Type 0
Bounds (range a l h) = InFourBytes l × InFourBytes h
Bounds (atmost a b none) = Unit {0}
Bounds (atmost a b (some c)) = InFourBytes c

pub record ProperCondition (c : Condition ℕ) : Type 0 where
  pub reads : Reads Selector c
  pub bounds : Bounds c

abbrev pub ProperInstruction : Grammar → Instruction → Type 0
ProperInstruction g (add n) = (1 ≤ n) × (n ≤ attributes_limit)
ProperInstruction g (evaluate rs) = (1 ≤ length rs) × (length rs ≤ attributes_limit) × ((r : Rule ℕ) → In r rs → ProperRule r)
ProperInstruction g (expect x) = Known g x
ProperInstruction g (test cs) = (1 ≤ length cs) × (length cs ≤ conditions_limit) × ((c : Condition ℕ) → In c cs → ProperCondition c)
ProperInstruction g (remove n) = n ≤ 104

abbrev pub AllProper : Grammar → List Instruction → Type 0
AllProper g is = (i : Instruction) → In i is → ProperInstruction g i

-- ---- constants under a map

constant_map : {O P : Type 0} (s : O → P) (f : Function O) → Constant f → Constant (map_function s f)
constant_map s (const c) h = h
constant_map s (copy a) h = tt
constant_map s (binary f a b) h = tt
constant_map s (addc a c) h = h
constant_map s (quot a c) h = h

bounds_map : {O P : Type 0} (s : O → P) (c : Condition O) → Bounds c → Bounds (map_condition s c)
bounds_map s (range a l h) b = b
bounds_map s (atmost a b none) h = tt
bounds_map s (atmost a b (some c)) h = h

proper_bounds : (c : Condition Occurrence) → Proper c → Bounds c
proper_bounds (range a l h) p = (p.0, p.1)
proper_bounds (atmost a b none) p = tt
proper_bounds (atmost a b (some c)) p = p

-- ---- counts of attributes

pub att_most : (g : Grammar) → WellFormed g → (x : Symbol) → att g x ≤ attributes_limit
att_most g w (terminal t) = omega (arith, attribute_most (any (eqb t) g.carrying))
att_most g w (nonterminal n) = counts_most g w n

pub added_most : (g : Grammar) → WellFormed g → (x : Symbol) → added_for g x ≤ attributes_limit
added_most g w (terminal t) = omega arith
added_most g w (nonterminal n) = counts_most g w n

pub total_most : {A : Type 0} (f : A → ℕ) (m : ℕ) → ((x : A) → f x ≤ m) → (xs : List A) → total (map f xs) ≤ m * length xs
total_most f m h [] = omega arith
total_most f m h (x ∷ xs) =
    let z : m * suc (length xs) ≡ m + m * length xs = omega arith in
    omega (arith, h x, total_most f m h xs, z)

pub syn_most : (g : Grammar) → WellFormed g → (p : Production) → length p.right ≤ symbols_limit → (i k : ℕ) → syn_between g p i k ≤ 96
syn_most g w p s i k =
    let xs = take (k - i) (drop i p.right) in
    omega (arith, total_most (syn g) attributes_limit (λ x. omega (arith, att_most g w x)) xs, length-take (k - i) (drop i p.right), length-drop i p.right)

in_total : {A : Type 0} (f : A → ℕ) (xs : List A) (x : A) → In x xs → f x ≤ total (map f xs)
in_total f [] x i = absurd i
in_total f (y ∷ ys) x (inl e) = let z : f x ≡ f y = ap f e in omega arith
in_total f (y ∷ ys) x (inr i) = omega (arith, in_total f ys x i)

pub keep_few : {A : Type 0} (f : A → Bool) (xs : List A) → length (keep f xs) ≤ length xs
keep_few f [] = omega arith
keep_few f (x ∷ xs) = go (f x) (keep_few f xs)
  where
    go : (b : Bool) → length (keep f xs) ≤ length xs → length (cons_if b x (keep f xs)) ≤ suc (length xs)
    go true h = omega arith
    go false h = omega arith

pub production_in : (g : Grammar) → WellFormed g → (p : ℕ) → p < length g.productions → In (production_at g p) g.productions
production_in g w p l = subst (λ q. In q g.productions) (sym (listed_at g w p l)) (get_d_in g.productions p (whole_production g) l)

pub some_present : {A : Type 0} (xs : List A) → T (not (is_empty xs)) → 1 ≤ length xs
some_present [] t = absurd t
some_present (x ∷ xs) t = omega arith

-- ---- selectors

module _ (g : Grammar) (w : WellFormed g) (p : Production) (f : WellFormedProduction g p) where
  output_small : (k a : ℕ) → OutputAt g p k a → (1 ≤ a) × (a ≤ attributes_limit)
  output_small zero a o = (omega (arith, o.0), omega (arith, o.1, att_most g w (nonterminal p.left)))
  output_small (suc k) a o = (o.1, omega (arith, o.2, att_most g w (symbol_at p (suc k))))

  -- the registers of the symbols passed, then an attribute
  after_at : (n k a : ℕ) → InputAt g p k a → (1 ≤ select_after g p n (occurrence k a)) × (select_after g p n (occurrence k a) ≤ 104)
  after_at n zero a i = (omega (arith, i.0), omega (arith, i.1, att_most g w (nonterminal p.left), syn_most g w p f.short 0 n))
  after_at n (suc k) a i = rw (eqb-suc-zero k) (omega (arith, i.1), omega (arith, i.2, att_most g w (symbol_at p (suc k)), syn_most g w p f.short (suc k) n))

  after_selects : (n : ℕ) (o : Occurrence) → Input g p o → Selector (select_after g p n o)
  after_selects n o i = let h = after_at n o.position o.attribute i in (h.0, omega (arith, h.1))

  after_target : (n : ℕ) (o : Occurrence) → o.position ≡ 0 → Output g p o → Selector (select_after g p n o)
  after_target n o e u =
      let h = output_small o.position o.attribute u in
      subst Selector (sym (target_of_synthesized g p n o e)) (omega (arith, h.0), omega (arith, h.1, syn_most g w p f.short 0 n))

  inherited_selects : (n : ℕ) (o : Occurrence) → Operand g p (suc n) o → Selector (select_inherited g p (suc n) o)
  inherited_selects n o i =
      let h = after_at n o.position o.attribute i.0 in
      let e = (inherited_at g p n o.position o.attribute i.0 i.1).0 in
      (omega (arith, e, h.0), omega (arith, e, h.1, added_most g w (symbol_at p (suc n))))

  inherited_target : (n : ℕ) (o : Occurrence) → o.position ≡ suc n → Output g p o → Selector (select_inherited g p (suc n) o)
  inherited_target n o e u =
      let h = output_small o.position o.attribute u in
      subst Selector (sym (target_of_inherited g p (suc n) o e)) (h.0, omega (arith, h.1))

  -- ---- rules

  -- the rules for one position, with selectors
  module _ (k : ℕ) (s : Occurrence → ℕ) (target : (o : Occurrence) → o.position ≡ k → Output g p o → Selector (s o)) (operand : (o : Occurrence) → Operand g p k o → Selector (s o)) where
    rule_proper : (q : Rule Occurrence) → q.target.position ≡ k → In q p.rules → ProperRule (map_rule s q)
    rule_proper q e i = record {
      target = target q.target e (f.targets q i);
      operands = operands_through Selector s operand q.function (subst (λ n. Operands (Operand g p n) q.function) e (f.operands q i));
      constant = constant_map s q.function (f.constants q i);
    }

    rules_proper : (r : Rule ℕ) → In r (map (map_rule s) (rules_for p k)) → ProperRule r
    rules_proper r i =
        let m = map_in (map_rule s) (rules_for p k) r i in
        let h = in_for p k m.0 m.1 in
        subst ProperRule (sym m.2) (rule_proper m.0 h.0 h.1)

    rules_most : length (map (map_rule s) (rules_for p k)) ≤ attributes_limit
    rules_most =
        let few = rules_few k attributes_limit (rules_for p k) (distinct_keep (λ q. eqb q.target.position k) p.rules f.distinct) (λ q i. facts q (in_for p k q i)) in
        omega (arith, few, length-map (rules_for p k) (map_rule s))
      where
        facts : (q : Rule Occurrence) → (q.target.position ≡ k) × In q p.rules → (q.target.position ≡ k) × (1 ≤ q.target.attribute) × (q.target.attribute ≤ attributes_limit)
        facts q h =
            let o = output_small q.target.position q.target.attribute (f.targets q h.1) in
            (h.0, o.0, o.1)

  pub inherited_proper : (k : ℕ) (r : Rule ℕ) → In r (inherited_rules g p (suc k)) → ProperRule r
  inherited_proper k = rules_proper (suc k) (select_inherited g p (suc k)) (inherited_target k) (inherited_selects k)

  pub inherited_most : (k : ℕ) → length (inherited_rules g p (suc k)) ≤ attributes_limit
  inherited_most k = rules_most (suc k) (select_inherited g p (suc k)) (inherited_target k) (inherited_selects k)

  pub synthesized_proper : (r : Rule ℕ) → In r (synthesized_rules g p) → ProperRule r
  synthesized_proper = rules_proper 0 (select_after g p (length p.right)) (after_target (length p.right)) (after_selects (length p.right))

  pub synthesized_most : length (synthesized_rules g p) ≤ attributes_limit
  synthesized_most = rules_most 0 (select_after g p (length p.right)) (after_target (length p.right)) (after_selects (length p.right))

  -- ---- conditions

  pub tests_proper : (k : ℕ) (c : Condition ℕ) → In c (tests_after g p k) → ProperCondition c
  tests_proper k c i =
      let m = map_in (map_condition (select_after g p k)) (conditions_at p k) c i in
      let h = in_keep (λ d. eqb (condition_position d) k) p.conditions m.0 m.1 in
      subst ProperCondition (sym m.2) (record { reads = reads_through Selector (select_after g p k) (after_selects k) m.0 (f.reads m.0 h.1); bounds = bounds_map (select_after g p k) m.0 (proper_bounds m.0 (f.proper m.0 h.1)) })

  pub tests_most : (k : ℕ) → length (tests_after g p k) ≤ length p.conditions
  tests_most k = omega (arith, length-map (conditions_at p k) (map_condition (select_after g p k)), keep_few (λ c. eqb (condition_position c) k) p.conditions)

  pub removed_most : removed g p ≤ 104
  removed_most = omega (arith, att_most g w (nonterminal p.left), syn_most g w p f.short 0 (length p.right))

-- ---- the scheme

in_if : {A : Type 0} (P : A → Type 0) (b : Bool) (x : A) (xs : List A) → (T b → P x) → ((y : A) → In y xs → P y) → (y : A) → In y (cons_if b x xs) → P y
in_if P true x xs h k y (inl e) = subst P (sym e) (h tt)
in_if P true x xs h k y (inr i) = k y i
in_if P false x xs h k y i = k y i

module _ (g : Grammar) (w : WellFormed g) (p : Production) (listed : In p g.productions) where
  formed : WellFormedProduction g p
  formed = w.each p listed

  pub conditions_most : length p.conditions ≤ conditions_limit
  conditions_most = omega (arith, in_total (λ q. length q.conditions) g.productions p listed, w.conditions)

  evaluate_proper : (rs : List (Rule ℕ)) → length rs ≤ attributes_limit → ((r : Rule ℕ) → In r rs → ProperRule r) → T (not (is_empty rs)) → ProperInstruction g (evaluate rs)
  evaluate_proper rs m h t = (some_present rs t, m, h)

  symbol_proper : (k : ℕ) (x : Symbol) (rest : List Instruction) → Known g x → AllProper g rest → AllProper g (symbol_scheme g p (suc k) x rest)
  symbol_proper k x rest known h =
      let rules = inherited_rules g p (suc k) in
      let tests = tests_after g p (suc k) in
      let behind = cons_if (not (is_empty tests)) (test tests) rest in
      let on_test = in_if (ProperInstruction g) (not (is_empty tests)) (test tests) rest (λ t. (some_present tests t, omega (arith, tests_most g w p formed (suc k), conditions_most), tests_proper g w p formed (suc k))) h in
      let on_expect = in_if (ProperInstruction g) true (expect x) behind (λ t. known) on_test in
      let on_evaluate = in_if (ProperInstruction g) (not (is_empty rules)) (evaluate rules) (expect x ∷ behind) (evaluate_proper rules (inherited_most g w p formed k) (inherited_proper g w p formed k)) on_expect in
      in_if (ProperInstruction g) (ltb 0 (added_for g x)) (add (added_for g x)) (cons_if (not (is_empty rules)) (evaluate rules) (expect x ∷ behind)) (λ t. (ltb→lt 0 (added_for g x) t, added_most g w x)) on_evaluate

  symbols_proper : (k : ℕ) (xs : List Symbol) (rest : List Instruction) → ((x : Symbol) → In x xs → Known g x) → AllProper g rest → AllProper g (symbols_scheme g p (suc k) xs rest)
  symbols_proper k [] rest known h = h
  symbols_proper k (x ∷ xs) rest known h = symbol_proper k x (symbols_scheme g p (suc (suc k)) xs rest) (known x (inl refl)) (symbols_proper (suc k) xs rest (λ y i. known y (inr i)) h)

  pub scheme_proper : AllProper g (scheme g p)
  scheme_proper =
      let rules = synthesized_rules g p in
      let tail = remove (removed g p) ∷ [] in
      symbols_proper 0 p.right (cons_if (not (is_empty rules)) (evaluate rules) tail) formed.symbols
      (in_if (ProperInstruction g) (not (is_empty rules)) (evaluate rules) tail (evaluate_proper rules (synthesized_most g w p formed) (synthesized_proper g w p formed))
      (in_if (ProperInstruction g) true (remove (removed g p)) [] (λ t. removed_most g w p formed) (λ i j. absurd j)))

  pub entry_proper : (c : Condition ℕ) → In c (entry_tests g p) → ProperCondition c
  entry_proper = tests_proper g w p formed 0

  pub entry_most : length (entry_tests g p) ≤ conditions_limit
  entry_most = omega (arith, tests_most g w p formed 0, conditions_most)
