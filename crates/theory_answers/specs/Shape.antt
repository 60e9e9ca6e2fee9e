-- The shape of a configuration: how many registers stand for each node in progress, which of them hold values and which the mark. It speaks of no tree and of no rule's result, so it holds of every record and stacks that fit, and every move keeps it.
use Rattle.std.specs.Prelude.{ℕ, suc, ◌≤◌, ◌<◌, ◌≡◌, refl, Bool, true, false, not, cond, List, [], ◌∷◌, ◌++◌, length, drop, eqb, ltb, ℤ}
use Rattle.std.proofs.Common.{arith, sym, ap, ◌∙◌, subst, eqb→eq, nltb→le}
use Rattle.meaning.specs.Base.{cons_if, is_empty}
use Rattle.meaning.specs.Grammar.{Symbol, terminal, nonterminal, Grammar, inh, syn, marked_for, added_for, production_at, whole}
use Rattle.meaning.specs.Scheme.{Instruction, add, evaluate, test, remove, inherited_rules, synthesized_rules, tests_after, removed, syn_between, scheme_end}
use Rattle.meaning.specs.Rules.{WellFormed}
use Rattle.meaning.specs.Machine.{Frame}
use Rattle.meaning.specs.Part.{marks, fresh_rest, left_rest, wait_rest, frame}
use Rattle.meaning.specs.Fit.{Values}
use Rattle.theory_base.specs.Values.{drop_head}
use Rattle.theory_base.specs.Present.{inherited_present, synthesized_present}
use Rattle.theory_base.specs.WellFormed.{Evaluable, evaluable_at, evaluable_whole}

-- ---- nodes in progress

abbrev pub inh_left : Grammar → ℕ → ℕ
inh_left g p = inh g (nonterminal (production_at g p).left)

abbrev pub syn_left : Grammar → ℕ → ℕ
syn_left g p = syn g (nonterminal (production_at g p).left)

-- production p with k symbols passed: vs are the values of its left side's inherited attributes, ss those of the passed symbols' synthesized ones
pub record Node (g : Grammar) (p k : ℕ) (vs ss : List ℤ) : Type 0 where
  pub inherited : Values (inh_left g p) vs
  pub passed : Values (syn_between g (production_at g p) 0 k) ss
  pub within : k ≤ length (production_at g p).right

-- the registers of a node: those of its passed symbols and of its left side, then what lies below
abbrev pub node_registers : List ℤ → List ℤ → List ℤ → List ℤ → List ℤ
node_registers ss vs results base = ss ++ (vs ++ (results ++ base))

-- a node of production p on the frames that wait for it and the registers below its own
pub data StandsOnFrames (g : Grammar) : ℕ → List Frame → List ℤ → Type 0 where
  segment : StandsOnFrames g whole [] []
  inside : {p : ℕ} (q k : ℕ) (xs : List Symbol) (vs ss : List ℤ) {fs : List Frame} {base : List ℤ}
      → p < length g.productions → drop k (production_at g q).right ≡ nonterminal (production_at g p).left ∷ xs
      → Node g q k vs ss → StandsOnFrames g q fs base
      → StandsOnFrames g p (frame q (wait_rest g q k (nonterminal (production_at g p).left) xs) ∷ fs) (node_registers ss vs (marks (syn_left g q)) base)

pub evaluable : (g : Grammar) → WellFormed g → {p : ℕ} {fs : List Frame} {base : List ℤ} → StandsOnFrames g p fs base → Evaluable g (production_at g p)
evaluable g wf segment = evaluable_whole g wf
evaluable g wf (inside {p} q k xs vs ss l e n s) = evaluable_at g wf p l

-- ---- how far the top node is: the instructions to come, the registers added for the symbol at hand, those of the left side's synthesized attributes

abbrev pub added_rest : Grammar → ℕ → ℕ → Symbol → List Symbol → List Instruction
added_rest g p k x xs = cons_if (not (is_empty (inherited_rules g (production_at g p) (suc k)))) (evaluate (inherited_rules g (production_at g p) (suc k))) (wait_rest g p k x xs)

pub data Due (g : Grammar) (p k : ℕ) : List Instruction → List ℤ → List ℤ → Type 0 where
  adds : (x : Symbol) (xs : List Symbol) → drop k (production_at g p).right ≡ x ∷ xs
      → Due g p k (add (added_for g x) ∷ added_rest g p k x xs) [] (marks (syn_left g p))
  hands : (x : Symbol) (xs : List Symbol) → drop k (production_at g p).right ≡ x ∷ xs
      → Due g p k (evaluate (inherited_rules g (production_at g p) (suc k)) ∷ wait_rest g p k x xs) (marks (added_for g x)) (marks (syn_left g p))
  waits : (x : Symbol) (xs : List Symbol) (is : List ℤ) → drop k (production_at g p).right ≡ x ∷ xs → Values (inh g x) is
      → Due g p k (wait_rest g p k x xs) (is ++ marks (marked_for g x)) (marks (syn_left g p))
  tests : (xs : List Symbol) → drop k (production_at g p).right ≡ xs
      → Due g p k (test (tests_after g (production_at g p) k) ∷ fresh_rest g p k xs) [] (marks (syn_left g p))
  closes : drop k (production_at g p).right ≡ [] → eqb p whole ≡ false
      → Due g p k (evaluate (synthesized_rules g (production_at g p)) ∷ remove (removed g (production_at g p)) ∷ []) [] (marks (syn_left g p))
  removes : (rs : List ℤ) → drop k (production_at g p).right ≡ [] → eqb p whole ≡ false → Values (syn_left g p) rs
      → Due g p k (remove (removed g (production_at g p)) ∷ []) [] rs
  ends : drop k (production_at g p).right ≡ [] → p ≡ whole
      → Due g p k [] [] (marks (syn_left g p))

pub record Shaped (g : Grammar) (fs : List Frame) (rs : List ℤ) : Type 0 where
  pub production : ℕ
  pub passed : ℕ
  pub inherited : List ℤ
  pub values : List ℤ
  pub below : List Frame
  pub base : List ℤ
  pub rest : List Instruction
  pub top : List ℤ
  pub results : List ℤ
  pub stands : StandsOnFrames g production below base
  pub node : Node g production passed inherited values
  pub due : Due g production passed rest top results
  pub is_frames : frame production rest ∷ below ≡ fs
  pub is_registers : top ++ node_registers values inherited results base ≡ rs

-- ---- an absent instruction is stepped over

absent : {A : Type 0} (l : List A) (n : ℕ) → not (is_empty l) ≡ ltb 0 n → is_empty l ≡ true → n ≡ 0
absent l n e q = omega (arith, nltb→le 0 n (rw (← e) (rw q tt)))

pub no_values : Values 0 []
no_values = record { size = refl; ranged = tt }

module _ (g : Grammar) (wf : WellFormed g) (p k : ℕ) (vs ss : List ℤ) (fs : List Frame) (base : List ℤ) (st : StandsOnFrames g p fs base) (nd : Node g p k vs ss) where
  abbrev own : List ℤ
  own = node_registers ss vs (marks (syn_left g p)) base

  pub shaped : (rest : List Instruction) (top results : List ℤ) → Due g p k rest top results → Shaped g (frame p rest ∷ fs) (top ++ node_registers ss vs results base)
  shaped rest top results d = record {
    production = p;
    passed = k;
    inherited = vs;
    values = ss;
    below = fs;
    base = base;
    rest = rest;
    top = top;
    results = results;
    stands = st;
    node = nd;
    due = d;
    is_frames = refl;
    is_registers = refl;
  }

  -- the registers of the symbol at hand are added
  pub at_added : (x : Symbol) (xs : List Symbol) → drop k (production_at g p).right ≡ x ∷ xs → Shaped g (frame p (added_rest g p k x xs) ∷ fs) (marks (added_for g x) ++ own)
  at_added x xs e = go (is_empty (inherited_rules g (production_at g p) (suc k))) refl
    where
      go : (b : Bool) → is_empty (inherited_rules g (production_at g p) (suc k)) ≡ b → Shaped g (frame p (cons_if (not b) (evaluate (inherited_rules g (production_at g p) (suc k))) (wait_rest g p k x xs)) ∷ fs) (marks (added_for g x) ++ own)
      go false q = shaped (evaluate (inherited_rules g (production_at g p) (suc k)) ∷ wait_rest g p k x xs) (marks (added_for g x)) (marks (syn_left g p)) (hands x xs e)
      go true q =
          let h = drop_head k (production_at g p).right x (terminal 0) xs e in
          let z : inh g x ≡ 0 = absent (inherited_rules g (production_at g p) (suc k)) (inh g x) (inherited_present g (production_at g p) (evaluable g wf st) k h.0 ∙ ap (λ y. ltb 0 (inh g y)) h.1) q in
          let m : marked_for g x ≡ added_for g x = omega (arith, z) in
          let v : Values (inh g x) [] = rw z no_values in
          subst (λ n. Shaped g (frame p (wait_rest g p k x xs) ∷ fs) (marks n ++ own)) m (shaped (wait_rest g p k x xs) (marks (marked_for g x)) (marks (syn_left g p)) (waits x xs [] e v))

  -- nothing is added for the symbol at hand
  pub at_fresh : (xs : List Symbol) → drop k (production_at g p).right ≡ xs → Shaped g (frame p (fresh_rest g p k xs) ∷ fs) own
  at_fresh (x ∷ xs) e = go (ltb 0 (added_for g x)) refl
    where
      go : (b : Bool) → ltb 0 (added_for g x) ≡ b → Shaped g (frame p (cons_if b (add (added_for g x)) (added_rest g p k x xs)) ∷ fs) own
      go true q = shaped (add (added_for g x) ∷ added_rest g p k x xs) [] (marks (syn_left g p)) (adds x xs e)
      go false q =
          let z : added_for g x ≡ 0 = omega (arith, nltb→le 0 (added_for g x) (rw q tt)) in
          subst (λ n. Shaped g (frame p (added_rest g p k x xs) ∷ fs) (marks n ++ own)) z (at_added x xs e)
  at_fresh [] e = go (eqb p whole) refl
    where
      close : eqb p whole ≡ false → (b : Bool) → is_empty (synthesized_rules g (production_at g p)) ≡ b → Shaped g (frame p (cons_if (not b) (evaluate (synthesized_rules g (production_at g p))) (remove (removed g (production_at g p)) ∷ [])) ∷ fs) own
      close w false q = shaped (evaluate (synthesized_rules g (production_at g p)) ∷ remove (removed g (production_at g p)) ∷ []) [] (marks (syn_left g p)) (closes e w)
      close w true q =
          let z : syn_left g p ≡ 0 = absent (synthesized_rules g (production_at g p)) (syn_left g p) (synthesized_present g (production_at g p) (evaluable g wf st)) q in
          let v : Values (syn_left g p) [] = rw z no_values in
          subst (λ n. Shaped g (frame p (remove (removed g (production_at g p)) ∷ []) ∷ fs) (node_registers ss vs (marks n) base)) (sym z) (shaped (remove (removed g (production_at g p)) ∷ []) [] [] (removes [] e w v))

      go : (b : Bool) → eqb p whole ≡ b → Shaped g (frame p (cond b [] (scheme_end g (production_at g p))) ∷ fs) own
      go true w = shaped [] [] (marks (syn_left g p)) (ends e (eqb→eq p whole (rw w tt)))
      go false w = close w (is_empty (synthesized_rules g (production_at g p))) refl

  -- the latest symbol is left, its conditions are not yet tested
  pub at_left : (xs : List Symbol) → drop k (production_at g p).right ≡ xs → Shaped g (frame p (left_rest g p k xs) ∷ fs) own
  at_left xs e = go (is_empty (tests_after g (production_at g p) k))
    where
      go : (b : Bool) → Shaped g (frame p (cons_if (not b) (test (tests_after g (production_at g p) k)) (fresh_rest g p k xs)) ∷ fs) own
      go false = shaped (test (tests_after g (production_at g p) k) ∷ fresh_rest g p k xs) [] (marks (syn_left g p)) (tests xs e)
      go true = at_fresh xs e
