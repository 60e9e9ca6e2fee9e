-- Every move keeps the shape.
use Rattle.std.specs.Prelude.{ℕ, suc, ◌+◌, ◌≡◌, refl, false, List, [], ◌∷◌, ◌++◌, length, drop, T, eqb, ℤ}
use Rattle.std.proofs.Common.{arith, sym, ap, ap₂, ◌∙◌, subst, subst₂, append_assoc, length-append, drop_at}
use Rattle.meaning.specs.Base.{all}
use Rattle.meaning.specs.Grammar.{Symbol, terminal, nonterminal, Rule, Grammar, inh, syn, marked_for, added_for, production_at, whole}
use Rattle.meaning.specs.Value.{apply, in_range}
use Rattle.meaning.specs.Scheme.{Instruction, add, evaluate, expect, test, remove, inherited_rules, synthesized_rules, tests_after, removed, syn_between}
use Rattle.meaning.specs.Rules.{WellFormed}
use Rattle.meaning.specs.Machine.{Frame, Config, Lent, Coming, comes, as_look, moved, next, next_of, read_register, write_all, scheme_at, parent_onward}
use Rattle.meaning.specs.Machine as Machine
use Rattle.meaning.specs.Tree.{is_leaf_of}
use Rattle.meaning.specs.Part.{marks, fresh_rest, left_rest, wait_rest, frame}
use Rattle.meaning.specs.Fit.{Values}
use Rattle.theory_base.specs.Members.{all_append}
use Rattle.theory_base.specs.Values.{drop_head, drop_over}
use Rattle.theory_base.specs.Frames.{scheme_is}
use Rattle.theory_base.specs.Selectors.{leaf_size, leaf_ranges, syn_none, syn_more}
use Rattle.theory_base.specs.Steps.{not_moved, move_of, Result, result, Predicted}
use Rattle.theory_answers.specs.Shape.{syn_left, Node, node_registers, StandsOnFrames, segment, inside, evaluable, added_rest, Due, adds, hands, waits, tests, closes, removes, ends, Shaped, no_values, shaped, at_added, at_fresh, at_left}
use Rattle.theory_base.specs.Evaluations.{inherited_made, synthesized_made}

-- ---- the moves

-- a token that comes has the values of its terminal, in range
abbrev pub IsAhead : Grammar → Coming → Type 0
IsAhead g (comes u) = T (is_leaf_of g u)
IsAhead g Machine.ends = Unit {0}

abbrev pub ShapedAt : Grammar → Config → Type 0
ShapedAt g c = Shaped g c.frames c.registers

-- one symbol more is passed
node_more : (g : Grammar) (p k : ℕ) (vs ss : List ℤ) → Node g p k vs ss → (x : Symbol) (xs : List Symbol) → drop k (production_at g p).right ≡ x ∷ xs → (rs : List ℤ) → Values (syn g x) rs → Node g p (suc k) vs (rs ++ ss)
node_more g p k vs ss n x xs e rs v =
    let h = drop_head k (production_at g p).right x (terminal 0) xs e in
    let m : syn_between g (production_at g p) 0 (suc k) ≡ syn_between g (production_at g p) 0 k + syn g x = syn_more g (production_at g p) 0 k (omega arith) h.0 ∙ ap (λ y. syn_between g (production_at g p) 0 k + syn g y) h.1 in
    record {
      inherited = n.inherited;
      passed = record { size = length-append rs ss ∙ omega (arith, v.size, n.passed.size, m); ranged = all_append in_range rs ss v.ranged n.passed.ranged };
      within = h.0;
    }

nothing_of : (vs : List ℤ) → Values 0 vs → vs ≡ []
nothing_of [] v = refl
nothing_of (x ∷ xs) v = absurd (omega (arith, v.size))

-- the node is left: its parent has one symbol more behind it
leave : (g : Grammar) → WellFormed g → {p : ℕ} {fs : List Frame} {base : List ℤ} → StandsOnFrames g p fs base → (rs : List ℤ) → eqb p whole ≡ false → Values (syn_left g p) rs → Shaped g (parent_onward fs) (rs ++ base)
leave g wf segment rs w v = absurd (subst T w tt)
leave g wf (inside {p} q j xs us ts {fs} {base} l e n s) rs w v =
    let x : Symbol = nonterminal (production_at g p).left in
    let h = drop_head j (production_at g q).right x (terminal 0) xs e in
    subst (λ z. Shaped g (frame q (left_rest g q (suc j) xs) ∷ fs) z) (append_assoc rs ts (us ++ (marks (syn_left g q) ++ base)))
    (at_left g wf q (suc j) us (rs ++ ts) fs base s (node_more g q j us ts n x xs e rs v) xs h.2)

module _ (g : Grammar) (wf : WellFormed g) (lent : Lent) (l : Coming) (ok : IsAhead g l) (c d : Config) (p k : ℕ) (vs ss : List ℤ) (fs : List Frame) (base : List ℤ) (st : StandsOnFrames g p fs base) (nd : Node g p k vs ss) where
  abbrev ours : List ℤ
  ours = node_registers ss vs (marks (syn_left g p)) base

  by_read : (t : ℕ) (xs : List Symbol) (is : List ℤ) → drop k (production_at g p).right ≡ terminal t ∷ xs → Values 0 is → c.registers ≡ (is ++ []) ++ ours
      → Result g lent l c (frame p (wait_rest g p k (terminal t) xs)) fs (expect (terminal t)) d → ShapedAt g d
  by_read t xs is e v r u =
      let nil : is ≡ [] = nothing_of is v in
      let rs : List ℤ = u.leaf.values in
      let r' : rs ++ c.registers ≡ rs ++ ours = ap (λ z. rs ++ z) (r ∙ ap (λ z. (z ++ []) ++ ours) nil) in
      let h = drop_head k (production_at g p).right (terminal t) (terminal 0) xs e in
      let own : T (is_leaf_of g u.leaf) = subst (IsAhead g) u.ahead ok in
      let read : Values (syn g (terminal t)) rs = record { size = leaf_size g u.leaf own ∙ ap (λ n. syn g (terminal n)) u.kind; ranged = leaf_ranges g u.leaf own } in
      let n : Node g p (suc k) vs (rs ++ ss) = node_more g p k vs ss nd (terminal t) xs e rs read in
      let s = at_left g wf p (suc k) vs (rs ++ ss) fs base st n xs h.2 in
      subst (ShapedAt g) u.result (subst (λ z. Shaped g (frame p (left_rest g p (suc k) xs) ∷ fs) z) (append_assoc rs ss (vs ++ (marks (syn_left g p) ++ base)) ∙ sym r') s)

  by_predict : (n : ℕ) (xs : List Symbol) (is : List ℤ) → drop k (production_at g p).right ≡ nonterminal n ∷ xs → Values (inh g (nonterminal n)) is → c.frames ≡ frame p (wait_rest g p k (nonterminal n) xs) ∷ fs → c.registers ≡ (is ++ marks (syn g (nonterminal n))) ++ ours
      → Predicted g lent n (as_look l) c.frames c.registers c.tokens c.moves d → ShapedAt g d
  by_predict n xs is e v f r u =
      let q : ℕ = u.production in
      let named : nonterminal (production_at g q).left ≡ nonterminal n = ap nonterminal u.left in
      let above : StandsOnFrames g q (frame p (wait_rest g p k (nonterminal (production_at g q).left) xs) ∷ fs) ours = inside p k xs vs ss u.listed (e ∙ ap (λ z. z ∷ xs) (sym named)) nd st in
      let new : Node g q 0 is [] = record { inherited = subst (λ z. Values (inh g z) is) (sym named) v; passed = rw (syn_none g (production_at g q) 0) no_values; within = omega arith } in
      let s = at_fresh g wf q 0 is [] (frame p (wait_rest g p k (nonterminal (production_at g q).left) xs) ∷ fs) ours above new (production_at g q).right refl in
      let is_scheme : fresh_rest g q 0 (production_at g q).right ≡ scheme_at g q = scheme_is g wf q u.listed in
      let is_below : frame p (wait_rest g p k (nonterminal (production_at g q).left) xs) ∷ fs ≡ c.frames = ap (λ z. frame p (wait_rest g p k z xs) ∷ fs) named ∙ sym f in
      let is_registers : is ++ (marks (syn_left g q) ++ ours) ≡ c.registers = ap (λ z. is ++ (marks (syn g z) ++ ours)) named ∙ (sym (append_assoc is (marks (syn g (nonterminal n))) ours) ∙ sym r) in
      subst (ShapedAt g) u.result (subst₂ (λ a b. Shaped g a b) (ap₂ (λ a b. frame q a ∷ b) is_scheme is_below) is_registers s)

  by_remove_lem : (rs : List ℤ) → drop k (production_at g p).right ≡ [] → eqb p whole ≡ false → Values (syn_left g p) rs → c.registers ≡ node_registers ss vs rs base
      → Result g lent l c (frame p (remove (removed g (production_at g p)) ∷ [])) fs (remove (removed g (production_at g p))) d → ShapedAt g d
  by_remove_lem rs e w v r u =
      let z : length (production_at g p).right ≡ k = omega (arith, drop_over k (production_at g p).right e, nd.within) in
      let size : length (ss ++ vs) ≡ removed g (production_at g p) = length-append ss vs ∙ rw z (omega (arith, nd.passed.size, nd.inherited.size)) in
      let gone : drop (removed g (production_at g p)) c.registers ≡ rs ++ base = ap (λ z. drop (removed g (production_at g p)) z) (r ∙ sym (append_assoc ss vs (rs ++ base))) ∙ drop_at (ss ++ vs) (rs ++ base) (removed g (production_at g p)) size in
      subst (ShapedAt g) u (subst (λ z. Shaped g (parent_onward fs) z) (sym gone) (leave g wf st rs w v))

  by_evaluate : (x : Symbol) (xs : List Symbol) → drop k (production_at g p).right ≡ x ∷ xs → c.registers ≡ marks (added_for g x) ++ ours
      → Result g lent l c (frame p (evaluate (inherited_rules g (production_at g p) (suc k)) ∷ wait_rest g p k x xs)) fs (evaluate (inherited_rules g (production_at g p) (suc k))) d → ShapedAt g d
  by_evaluate x xs e r u =
      let rules : List (Rule ℕ) = inherited_rules g (production_at g p) (suc k) in
      let t : T (all (λ q. in_range (apply (read_register (marks (added_for g x) ++ ours)) q.function)) rules) = subst (λ z. T (all (λ q. in_range (apply (read_register z) q.function)) rules)) r u.0 in
      let a = inherited_made g (production_at g p) (evaluable g wf st) k x xs ours e t in
      let same : write_all rules c.registers c.registers ≡ (a.made ++ marks (marked_for g x)) ++ ours = ap (λ z. write_all rules z z) r ∙ a.registers in
      subst (ShapedAt g) u.1 (subst (λ z. Shaped g (frame p (wait_rest g p k x xs) ∷ fs) z) (sym same) (shaped g wf p k vs ss fs base st nd (wait_rest g p k x xs) (a.made ++ marks (marked_for g x)) (marks (syn_left g p)) (waits x xs a.made e (record { size = a.sized; ranged = a.ranged }))))

  by_close : drop k (production_at g p).right ≡ [] → eqb p whole ≡ false → c.registers ≡ ours
      → Result g lent l c (frame p (evaluate (synthesized_rules g (production_at g p)) ∷ remove (removed g (production_at g p)) ∷ [])) fs (evaluate (synthesized_rules g (production_at g p))) d → ShapedAt g d
  by_close e w r u =
      let rules : List (Rule ℕ) = synthesized_rules g (production_at g p) in
      let z : k ≡ length (production_at g p).right = omega (arith, drop_over k (production_at g p).right e, nd.within) in
      let t : T (all (λ q. in_range (apply (read_register ours) q.function)) rules) = subst (λ z. T (all (λ q. in_range (apply (read_register z) q.function)) rules)) r u.0 in
      let a = synthesized_made g (production_at g p) (evaluable g wf st) vs ss base nd.inherited.size (nd.passed.size ∙ ap (syn_between g (production_at g p) 0) z) t in
      let same : write_all rules c.registers c.registers ≡ node_registers ss vs a.made base = ap (λ z. write_all rules z z) r ∙ a.registers in
      subst (ShapedAt g) u.1 (subst (λ z. Shaped g (frame p (remove (removed g (production_at g p)) ∷ []) ∷ fs) z) (sym same) (shaped g wf p k vs ss fs base st nd (remove (removed g (production_at g p)) ∷ []) [] a.made (removes a.made e w (record { size = a.sized; ranged = a.ranged }))))

  -- what the instruction at hand leads to
  leads : (i : Instruction) (is : List Instruction) → c.frames ≡ frame p (i ∷ is) ∷ fs → next g lent l c ≡ moved d → Result g lent l c (frame p (i ∷ is)) fs i d
  leads i is f h = result g lent l c (frame p (i ∷ is)) fs i d (move_of g lent l c d p i is fs f h).1

  by_due : {rest : List Instruction} {top results : List ℤ} → Due g p k rest top results → c.frames ≡ frame p rest ∷ fs → c.registers ≡ top ++ node_registers ss vs results base → next g lent l c ≡ moved d → ShapedAt g d
  by_due (adds x xs e) f r h =
      let u = leads (add (added_for g x)) (added_rest g p k x xs) f h in
      subst (ShapedAt g) u.1 (subst (λ z. Shaped g (frame p (added_rest g p k x xs) ∷ fs) (marks (added_for g x) ++ z)) (sym r) (at_added g wf p k vs ss fs base st nd x xs e))
  by_due (hands x xs e) f r h = by_evaluate x xs e r (leads (evaluate (inherited_rules g (production_at g p) (suc k))) (wait_rest g p k x xs) f h)
  by_due (waits (terminal t) xs is e v) f r h = by_read t xs is e v r (leads (expect (terminal t)) (left_rest g p (suc k) xs) f h)
  by_due (waits (nonterminal n) xs is e v) f r h = by_predict n xs is e v f r (leads (expect (nonterminal n)) (left_rest g p (suc k) xs) f h)
  by_due (tests xs e) f r h =
      let u = leads (test (tests_after g (production_at g p) k)) (fresh_rest g p k xs) f h in
      subst (ShapedAt g) u.1 (subst (λ z. Shaped g (frame p (fresh_rest g p k xs) ∷ fs) z) (sym r) (at_fresh g wf p k vs ss fs base st nd xs e))
  by_due (closes e w) f r h = by_close e w r (leads (evaluate (synthesized_rules g (production_at g p))) (remove (removed g (production_at g p)) ∷ []) f h)
  by_due (removes rs e w v) f r h = by_remove_lem rs e w v r (leads (remove (removed g (production_at g p))) [] f h)
  by_due (ends e w) f r h = not_moved (subst (λ z. next_of g lent l c z ≡ moved d) f h)

pub shape_move : (g : Grammar) → WellFormed g → (lent : Lent) (l : Coming) → IsAhead g l → (c d : Config) → ShapedAt g c → next g lent l c ≡ moved d → ShapedAt g d
shape_move g wf lent l ok c d s h = by_due g wf lent l ok c d s.production s.passed s.inherited s.values s.below s.base s.stands s.node s.due (sym s.is_frames) (sym s.is_registers) h
