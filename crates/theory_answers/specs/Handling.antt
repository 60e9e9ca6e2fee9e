-- What the instruction at hand reads and writes, in any configuration of the shape: selectors stand between 1 and the height, every register read holds a value in range.
use Rattle.std.specs.Prelude.{ℕ, suc, ◌+◌, ◌≤◌, ◌<◌, ◌≡◌, length, drop, T, eqb, ℤ}
use Rattle.std.proofs.Common.{arith, sym, ap, ◌∙◌, subst, length-append, eqb→eq}
use mathlib.Core.List.{List, [], ◌∷◌, ◌++◌, append_assoc, nil≢cons, head-eq_of_cons-eq}
use Rattle.std.proofs.lemmas.List.{length-replicate}
use Rattle.meaning.specs.Base.{In, all}
use Rattle.meaning.specs.Grammar.{Symbol, terminal, nonterminal, Occurrence, Condition, Production, Grammar, inh, marked_for, added_for, production_at, condition_position, map_rule, map_condition, conditions_at}
use Rattle.meaning.specs.Value.{in_range, mark}
use Rattle.meaning.specs.Scheme.{Instruction, evaluate, expect, remove, inherited_rules, synthesized_rules, tests_after, rules_for, removed, syn_between, select_inherited, select_after}
use Rattle.meaning.specs.Rules.{Operands, Reads, OutputAt, WellFormed}
use Rattle.meaning.specs.Machine.{Frame, Config, read_register}
use Rattle.meaning.specs.Part.{marks, frame}
use Rattle.meaning.specs.Fit.{Values}
use Rattle.meaning_statements.specs.CallStatements.{Valued, Handles}
use Rattle.theory_base.specs.Members.{all_append, in_keep, map_in}
use Rattle.theory_base.specs.Values.{operands_available, drop_head, drop_over}
use Rattle.theory_base.specs.WellFormed.{Available, Evaluable, evaluable_at}
use Rattle.theory_base.specs.Agree.{reads_available}
use Rattle.theory_base.specs.Selectors.{syn_none, inherited_at, target_of_inherited, target_of_synthesized}
use Rattle.theory_base.specs.Present.{in_for}
use Rattle.theory_answers.specs.Selecting.{operands_through, reads_through, after_within, reads_value}
use Rattle.theory_answers.specs.Shape.{inh_left, syn_left, Node, node_registers, StandsOnFrames, evaluable, Due, adds, hands, waits, tests, closes, removes, ends, Shaped}

-- a register among those that hold values
valued_at : (c : Config) (pre mid post : List ℤ) (k : ℕ) → c.registers ≡ pre ++ (mid ++ post) → T (all in_range mid) → length pre < k → k ≤ length pre + length mid → Valued c k
valued_at c pre mid post k r t a b =
    let n : length c.registers ≡ length pre + (length mid + length post) = ap length r ∙ (length-append pre (mid ++ post) ∙ ap (λ z. length pre + z) (length-append mid post)) in
    (omega arith, omega arith, subst (λ rs. T (in_range (read_register rs k))) (sym r) (reads_value pre mid post k t a b))

-- a condition's reads, with every input up to position k valued
conditions_read : (g : Grammar) (p : Production) → Evaluable g p → (c : Config) (k : ℕ) → ((o : Occurrence) → Available g p k o → Valued c (select_after g p k o)) → (t : Condition ℕ) → In t (tests_after g p k) → Reads (Valued c) t
conditions_read g p fp c k h t i =
    let a = map_in (map_condition (select_after g p k)) (conditions_at p k) t i in
    let b = in_keep (λ q. eqb (condition_position q) k) p.conditions a.0 a.1 in
    let e : condition_position a.0 ≡ k = eqb→eq (condition_position a.0) k b.0 in
    subst (λ z. Reads (Valued c) z) (sym a.2) (reads_through (Valued c) (select_after g p k) h a.0 (reads_available g p k a.0 (omega (arith, e)) (fp.reads a.0 b.1)))

module _ (g : Grammar) (wf : WellFormed g) (c : Config) (p k : ℕ) (vs ss : List ℤ) (fs : List Frame) (base : List ℤ) (st : StandsOnFrames g p fs base) (nd : Node g p k vs ss) where
  -- the values of the node: its passed symbols' and its left side's
  known : T (all in_range (ss ++ vs))
  known = all_append in_range ss vs nd.passed.ranged nd.inherited.ranged

  known_size : length (ss ++ vs) ≡ syn_between g (production_at g p) 0 k + inh_left g p
  known_size = length-append ss vs ∙ omega (arith, nd.passed.size, nd.inherited.size)

  -- below some registers added for the symbol at hand
  value_under : (top rest : List ℤ) → c.registers ≡ top ++ node_registers ss vs rest base → (o : Occurrence) → Available g (production_at g p) k o → Valued c (length top + select_after g (production_at g p) k o)
  value_under top rest r o a =
      let b = after_within g (production_at g p) k o nd.within a in
      valued_at c top (ss ++ vs) (rest ++ base) (length top + select_after g (production_at g p) k o) (r ∙ ap (λ z. top ++ z) (sym (append_assoc ss vs (rest ++ base)))) known (omega (arith, b.0)) (omega (arith, b.1, known_size))

  value_of : (rest : List ℤ) → c.registers ≡ node_registers ss vs rest base → (o : Occurrence) → Available g (production_at g p) k o → Valued c (select_after g (production_at g p) k o)
  value_of rest r o a =
      let e : 0 + select_after g (production_at g p) k o ≡ select_after g (production_at g p) k o = omega arith in
      subst (Valued c) e (value_under [] rest r o a)

  -- evaluate the inherited attributes of the symbol at hand
  hands_handle : (x : Symbol) (xs : List Symbol) → drop k (production_at g p).right ≡ x ∷ xs → c.registers ≡ marks (added_for g x) ++ node_registers ss vs (marks (syn_left g p)) base → Handles g c (evaluate (inherited_rules g (production_at g p) (suc k)))
  hands_handle x xs e r q i =
      let pr : Production = production_at g p in
      let fp : Evaluable g pr = evaluable g wf st in
      let sel : Occurrence → ℕ = select_inherited g pr (suc k) in
      let a = map_in (map_rule sel) (rules_for pr (suc k)) q i in
      let b = in_for pr (suc k) a.0 a.1 in
      let h = drop_head k pr.right x (terminal 0) xs e in
      let o : OutputAt g pr (suc k) a.0.target.attribute = rw b.0 at (fp.targets a.0 b.1) in
      let top : a.0.target.attribute ≤ inh g x = rw h.1 at o.2 in
      let t : q.target ≡ a.0.target.attribute = ap (λ z. z.target) a.2 ∙ target_of_inherited g pr (suc k) a.0.target b.0 in
      let own : List ℤ = node_registers ss vs (marks (syn_left g p)) base in
      let size : length c.registers ≡ added_for g x + length own = ap length r ∙ (length-append (marks (added_for g x)) own ∙ ap (λ n. n + length own) (length-replicate (added_for g x) mark)) in
      let read : (u : Occurrence) → Available g pr k u → Valued c (sel u) = λ u w.
      let s : sel u ≡ length (marks (added_for g x)) + select_after g pr k u = (inherited_at g pr k u.position u.attribute w.0 w.1).0 ∙ ap (λ n. n + select_after g pr k u) (ap (added_for g) h.1 ∙ sym (length-replicate (added_for g x) mark)) in
      subst (Valued c) (sym s) (value_under (marks (added_for g x)) (marks (syn_left g p)) r u w) in
      ((omega (arith, t, o.1), omega (arith, t, top, size)), subst (λ z. Operands (Valued c) z.function) (sym a.2) (operands_through (Valued c) sel read a.0.function (operands_available g pr fp k a.0 b.1 (omega (arith, b.0)) (λ z. absurd (omega (arith, b.0))))))

  -- evaluate the left side's synthesized attributes
  closes_handle : drop k (production_at g p).right ≡ [] → c.registers ≡ node_registers ss vs (marks (syn_left g p)) base → Handles g c (evaluate (synthesized_rules g (production_at g p)))
  closes_handle e r q i =
      let pr : Production = production_at g p in
      let fp : Evaluable g pr = evaluable g wf st in
      let z : length pr.right ≡ k = omega (arith, drop_over k pr.right e, nd.within) in
      let sel : Occurrence → ℕ = select_after g pr (length pr.right) in
      let a = map_in (map_rule sel) (rules_for pr 0) q i in
      let b = in_for pr 0 a.0 a.1 in
      let o : OutputAt g pr 0 a.0.target.attribute = rw b.0 at (fp.targets a.0 b.1) in
      let t : q.target ≡ syn_between g pr 0 k + a.0.target.attribute = ap (λ y. y.target) a.2 ∙ (target_of_synthesized g pr (length pr.right) a.0.target b.0 ∙ ap (λ n. syn_between g pr 0 n + a.0.target.attribute) z) in
      let rest : List ℤ = marks (syn_left g p) ++ base in
      let long : length rest ≡ syn_left g p + length base = length-append (marks (syn_left g p)) base ∙ ap (λ n. n + length base) (length-replicate (syn_left g p) mark) in
      let size : length c.registers ≡ length (ss ++ vs) + (syn_left g p + length base) = ap length (r ∙ sym (append_assoc ss vs rest)) ∙ (length-append (ss ++ vs) rest ∙ ap (λ n. length (ss ++ vs) + n) long) in
      let read : (u : Occurrence) → Available g pr k u → Valued c (sel u) = λ u w.
      subst (λ n. Valued c (select_after g pr n u)) (sym z) (value_of (marks (syn_left g p)) r u w) in
      ((omega (arith, t, o.0), omega (arith, t, o.1, size, known_size)), subst (λ y. Operands (Valued c) y.function) (sym a.2) (operands_through (Valued c) sel read a.0.function (operands_available g pr fp k a.0 b.1 (omega (arith, b.0)) (λ y. omega (arith, z)))))

  -- the entry conditions of every production of the symbol waited at
  waits_handle : (x : Symbol) (is : List ℤ) (rest : List ℤ) → Values (inh g x) is → c.registers ≡ is ++ rest → Handles g c (expect x)
  waits_handle x is rest v r q l named t i =
      let pr : Production = production_at g q in
      conditions_read g pr (evaluable_at g wf q l) c 0 (λ o a.
      let b = after_within g pr 0 o (omega arith) a in
      let n : length is ≡ inh g (nonterminal pr.left) = v.size ∙ ap (inh g) named in
      valued_at c [] is rest (select_after g pr 0 o) r v.ranged (omega (arith, b.0)) (omega (arith, b.1, n, syn_none g pr 0))) t i

  removes_handle : (rs : List ℤ) → drop k (production_at g p).right ≡ [] → c.registers ≡ node_registers ss vs rs base → Handles g c (remove (removed g (production_at g p)))
  removes_handle rs e r =
      let z : length (production_at g p).right ≡ k = omega (arith, drop_over k (production_at g p).right e, nd.within) in
      let m : removed g (production_at g p) ≡ inh_left g p + syn_between g (production_at g p) 0 k = ap (λ n. inh_left g p + syn_between g (production_at g p) 0 n) z in
      omega (arith, m, known_size, ap length (r ∙ sym (append_assoc ss vs (rs ++ base))), length-append (ss ++ vs) (rs ++ base))

  handles_due : {rest : List Instruction} {top results : List ℤ} → Due g p k rest top results → c.registers ≡ top ++ node_registers ss vs results base → (i : Instruction) (is : List Instruction) → rest ≡ i ∷ is → Handles g c i
  handles_due (adds x xs e) r i is q = subst (Handles g c) (head-eq_of_cons-eq q) tt
  handles_due (hands x xs e) r i is q = subst (Handles g c) (head-eq_of_cons-eq q) (hands_handle x xs e r)
  handles_due (waits x xs vals e v) r i is q = subst (Handles g c) (head-eq_of_cons-eq q) (waits_handle x vals (marks (marked_for g x) ++ node_registers ss vs (marks (syn_left g p)) base) v (r ∙ append_assoc vals (marks (marked_for g x)) (node_registers ss vs (marks (syn_left g p)) base)))
  handles_due (tests xs e) r i is q = subst (Handles g c) (head-eq_of_cons-eq q) (λ t j. conditions_read g (production_at g p) (evaluable g wf st) c k (value_of (marks (syn_left g p)) r) t j)
  handles_due (closes e w) r i is q = subst (Handles g c) (head-eq_of_cons-eq q) (closes_handle e r)
  handles_due (removes rs e w v) r i is q = subst (Handles g c) (head-eq_of_cons-eq q) (removes_handle rs e r)
  handles_due (ends e w) r i is q = absurd (nil≢cons q)

pub handles : (g : Grammar) → WellFormed g → (c : Config) → Shaped g c.frames c.registers → (p : ℕ) (i : Instruction) (is : List Instruction) (fs : List Frame) → c.frames ≡ frame p (i ∷ is) ∷ fs → Handles g c i
handles g wf c s p i is fs e =
    let q : frame s.production s.rest ≡ frame p (i ∷ is) = head-eq_of_cons-eq (s.is_frames ∙ e) in
    handles_due g wf c s.production s.passed s.inherited s.values s.below s.base s.stands s.node s.due (sym s.is_registers) i is (ap (λ f. f.rest) q)
