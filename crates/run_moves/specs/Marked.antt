-- The targets of the rules at hand stand marked, in any configuration of the shape.
use Rattle.std.specs.Prelude.{ℕ, zero, suc, ◌+◌, ◌-◌, ◌≤◌, ◌<◌, ◌≡◌, length, get_or, drop, ℤ}
use Rattle.std.proofs.Common.{arith, sym, ap, ◌∙◌, subst, length-append}
use mathlib.Core.List.{List, [], ◌∷◌, ◌++◌, append_assoc, nil≢cons, head-eq_of_cons-eq}
use Rattle.std.proofs.lemmas.List.{length-replicate, get_or-replicate}
use Rattle.std.proofs.Math.ListN.{get_or-append}
use Rattle.meaning.specs.Base.{In}
use Rattle.meaning.specs.Grammar.{Symbol, terminal, Rule, Production, Grammar, inh, added_for, production_at, map_rule}
use Rattle.meaning.specs.Value.{mark}
use Rattle.meaning.specs.Scheme.{Instruction, add, evaluate, expect, test, remove, inherited_rules, synthesized_rules, rules_for, syn_between, select_inherited, select_after}
use Rattle.meaning.specs.Rules.{OutputAt, WellFormed}
use Rattle.meaning.specs.Machine.{Frame, Config, read_register}
use Rattle.meaning.specs.Part.{marks, frame}
use Rattle.theory_base.specs.Members.{map_in}
use Rattle.theory_base.specs.Values.{drop_head, drop_over}
use Rattle.theory_base.specs.WellFormed.{Evaluable}
use Rattle.theory_base.specs.Selectors.{target_of_inherited, target_of_synthesized}
use Rattle.theory_base.specs.Present.{in_for}
use Rattle.theory_answers.specs.Shape.{inh_left, syn_left, Node, node_registers, StandsOnFrames, evaluable, Due, adds, hands, waits, tests, closes, removes, ends, Shaped}

-- a register among those that are marked
marked_index : (pre : List ℤ) (n : ℕ) (post : List ℤ) (i : ℕ) → length pre ≤ i → i < length pre + n → get_or (pre ++ (marks n ++ post)) i mark ≡ mark
marked_index [] n post i a b = get_or-append (marks n) post mark i (omega (arith, length-replicate n mark)) ∙ get_or-replicate n i mark mark (omega arith)
marked_index (x ∷ pre) n post zero a b = absurd (omega arith)
marked_index (x ∷ pre) n post (suc i) a b = marked_index pre n post i (omega arith) (omega arith)

marked_at : (rs pre : List ℤ) (n : ℕ) (post : List ℤ) (k : ℕ) → rs ≡ pre ++ (marks n ++ post) → length pre < k → k ≤ length pre + n → read_register rs k ≡ mark
marked_at rs pre n post k r a b = ap (λ z. read_register z k) r ∙ marked_index pre n post (k - 1) (omega arith) (omega arith)

-- what an evaluate sets stands marked
abbrev pub Fresh : List ℤ → Instruction → Type 0
Fresh rs (add n) = Unit {0}
Fresh rs (evaluate rules) = (q : Rule ℕ) → In q rules → read_register rs q.target ≡ mark
Fresh rs (test cs) = Unit {0}
Fresh rs (remove n) = Unit {0}
Fresh rs (expect x) = Unit {0}

module _ (g : Grammar) (wf : WellFormed g) (rs : List ℤ) (p k : ℕ) (vs ss : List ℤ) (fs : List Frame) (base : List ℤ) (st : StandsOnFrames g p fs base) (nd : Node g p k vs ss) where
  -- the inherited attributes of the symbol at hand
  hands_fresh : (x : Symbol) (xs : List Symbol) → drop k (production_at g p).right ≡ x ∷ xs → rs ≡ marks (added_for g x) ++ node_registers ss vs (marks (syn_left g p)) base → Fresh rs (evaluate (inherited_rules g (production_at g p) (suc k)))
  hands_fresh x xs e r q i =
      let pr : Production = production_at g p in
      let fp : Evaluable g pr = evaluable g wf st in
      let a = map_in (map_rule (select_inherited g pr (suc k))) (rules_for pr (suc k)) q i in
      let b = in_for pr (suc k) a.0 a.1 in
      let h = drop_head k pr.right x (terminal 0) xs e in
      let o : OutputAt g pr (suc k) a.0.target.attribute = rw b.0 at (fp.targets a.0 b.1) in
      let top : a.0.target.attribute ≤ inh g x = rw h.1 at o.2 in
      let t : q.target ≡ a.0.target.attribute = ap (λ z. z.target) a.2 ∙ target_of_inherited g pr (suc k) a.0.target b.0 in
      marked_at rs [] (added_for g x) (node_registers ss vs (marks (syn_left g p)) base) q.target r (omega (arith, t, o.1)) (omega (arith, t, top))

  -- the left side's synthesized attributes
  closes_fresh : drop k (production_at g p).right ≡ [] → rs ≡ node_registers ss vs (marks (syn_left g p)) base → Fresh rs (evaluate (synthesized_rules g (production_at g p)))
  closes_fresh e r q i =
      let pr : Production = production_at g p in
      let fp : Evaluable g pr = evaluable g wf st in
      let z : length pr.right ≡ k = omega (arith, drop_over k pr.right e, nd.within) in
      let a = map_in (map_rule (select_after g pr (length pr.right))) (rules_for pr 0) q i in
      let b = in_for pr 0 a.0 a.1 in
      let o : OutputAt g pr 0 a.0.target.attribute = rw b.0 at (fp.targets a.0 b.1) in
      let t : q.target ≡ syn_between g pr 0 k + a.0.target.attribute = ap (λ y. y.target) a.2 ∙ (target_of_synthesized g pr (length pr.right) a.0.target b.0 ∙ ap (λ n. syn_between g pr 0 n + a.0.target.attribute) z) in
      let size : length (ss ++ vs) ≡ syn_between g pr 0 k + inh_left g p = length-append ss vs ∙ omega (arith, nd.passed.size, nd.inherited.size) in
      marked_at rs (ss ++ vs) (syn_left g p) base q.target (r ∙ sym (append_assoc ss vs (marks (syn_left g p) ++ base))) (omega (arith, t, o.0, size)) (omega (arith, t, o.1, size))

  fresh_due : {rest : List Instruction} {top results : List ℤ} → Due g p k rest top results → rs ≡ top ++ node_registers ss vs results base → (i : Instruction) (is : List Instruction) → rest ≡ i ∷ is → Fresh rs i
  fresh_due (adds x xs e) r i is q = subst (Fresh rs) (head-eq_of_cons-eq q) tt
  fresh_due (hands x xs e) r i is q = subst (Fresh rs) (head-eq_of_cons-eq q) (hands_fresh x xs e r)
  fresh_due (waits x xs vals e v) r i is q = subst (Fresh rs) (head-eq_of_cons-eq q) tt
  fresh_due (tests xs e) r i is q = subst (Fresh rs) (head-eq_of_cons-eq q) tt
  fresh_due (closes e w) r i is q = subst (Fresh rs) (head-eq_of_cons-eq q) (closes_fresh e r)
  fresh_due (removes vals e w v) r i is q = subst (Fresh rs) (head-eq_of_cons-eq q) tt
  fresh_due (ends e w) r i is q = absurd (nil≢cons q)

pub fresh : (g : Grammar) → WellFormed g → (c : Config) → Shaped g c.frames c.registers → (p : ℕ) (i : Instruction) (is : List Instruction) (fs : List Frame) → c.frames ≡ frame p (i ∷ is) ∷ fs → Fresh c.registers i
fresh g wf c s p i is fs e =
    let q : frame s.production s.rest ≡ frame p (i ∷ is) = head-eq_of_cons-eq (s.is_frames ∙ e) in
    fresh_due g wf c.registers s.production s.passed s.inherited s.values s.below s.base s.stands s.node s.due (sym s.is_registers) i is (ap (λ f. f.rest) q)
