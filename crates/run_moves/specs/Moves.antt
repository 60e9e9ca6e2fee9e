-- What each move leaves in memory: the new configuration is held, or the number refuses it and nothing changes.
use Rattle.std.specs.Prelude.{ℕ, suc, ◌+◌, ◌-◌, ◌*◌, ◌≤◌, ◌<◌, ◌≡◌, refl, Bool, true, false, not, cond, List, [], ◌∷◌, ◌++◌, map, length, get_or, set, replicate, eqb, ℤ, Ok, Err}
use Rattle.std.proofs.Common.{arith, sym, ap, ◌∙◌, subst, true≢false, eqb→eq, lt-ltb, le-ltb, eq-eqb}
use Rattle.meaning.specs.Base.{In, all}
use Rattle.meaning.specs.Grammar.{Grammar, Symbol, Rule, Condition, production_at, whole}
use Rattle.meaning.specs.Value.{mark, holds}
use Rattle.meaning.specs.Scheme.{Instruction, add, evaluate, expect, test, remove}
use Rattle.meaning.specs.Machine.{Config, Lent, Coming, moved, blocked, step, next, read_register, write_all, place_of, pending_test, expects, moves_limit}
use Rattle.meaning.specs.Part.{frame, config}
use Rattle.meaning.specs.Program.{instruction_words, scheme_words, add_operation, evaluate_operation, test_operation}
use Rattle.theory_answers.specs.ShapeMoves.{IsAhead, shape_move}
use Rattle.theory_program.specs.Parts.{head_operation, head_operand}
use Rattle.theory_program.specs.Code.{code_head, code_evaluate, code_test, rules_length, conditions_length}
use Rattle.theory_program.specs.WordsStand.{stands_within}
use Rattle.run_registers.specs.Stack.{stack, stack_laid}
use Rattle.run_registers.specs.Laid.{laid_stack, laid_write, laid_add}
use Rattle.run_registers.specs.Moves.{test_ready, test_done, evaluate_ready, evaluate_done}
use Rattle.run_registers.specs.Read.{rules_from, rules_read, conditions_from, Tests, Evaluates, values_fit, after_rules, Evaluated}
use Rattle.run_moves.specs.declared.Run.{Run}
use Rattle.refusals.specs.declared.Refusal.TheVariants.{ConditionFalse, ValueOutside, NoRegister}
use Rattle.run_moves.specs.Laid.{LaidIn, laid_size, laid_read}
use Rattle.run_moves.specs.Ahead.{Ahead, ahead_code, ahead_next, ahead_over, place_same, place_tested, place_passed_lem, place_pending, pending_word, no_pending_word}
use Rattle.run_moves.specs.Marked.{fresh}
use Rattle.run_moves.specs.Held.{Held, Made, after_move, Hand, hand_add, hand_test, hand_evaluate, hand_proper, bounds, next_is}

-- ---- places

-- the top place with one symbol more, or as it is
abbrev pub count_if : Bool → ℕ → List ℕ → List ℕ
count_if true h ps = set ps (h - 1) (get_or ps (h - 1) 0 + 1)
count_if false h ps = ps

-- 01: "without conditions the read or the remove counts it"
abbrev pub passed : List ℕ → ℕ → ℕ → List ℕ → List ℕ
passed ws a h ps = count_if (not (eqb (head_operation (get_or ws a 0)) test_operation)) h ps

module _ {n : ℕ} {ps : List ℕ} {h : ℕ} where
  counted : {x : ℕ} {xs : List ℕ} (y : ℕ) → y ≡ x + 1 → LaidIn 0 n ps h (x ∷ xs) → LaidIn 0 n (count_if true h ps) h (y ∷ xs)
  counted {x} {xs} y e l =
      let k = l.height in
      let r : get_or ps (h - 1) 0 + 1 ≡ y = ap (λ v. v + 1) (laid_read l 1 (omega arith) (omega arith)) ∙ sym e in
      subst (λ v. LaidIn 0 n (set ps (h - 1) v) h (y ∷ xs)) (sym r) (laid_write l 1 y (omega arith) (omega arith))

-- whether a test follows
module _ {g : Grammar} {ws : List ℕ} {a : ℕ} (p : ℕ) where
  pub follows : (is : List Instruction) → (is ≡ [] → p ≡ whole) → Ahead g ws a (frame p is) → (head_operation (get_or ws a 0) ≡ test_operation → pending_test is ≡ 1) × ((head_operation (get_or ws a 0) ≡ test_operation → ⊥) → pending_test is ≡ 0) × (a < length ws)
  follows [] w h = let o = ahead_over p (w refl) h in ((λ e. absurd (omega (arith, o.0))), (λ e. refl), o.1)
  follows (i ∷ is) w h =
      let k = code_head (ahead_code h) in
      ((λ e. pending_word i is (sym k.0 ∙ e)), (λ e. no_pending_word i is (λ z. e (k.0 ∙ z))), inside i (stands_within (ahead_code h).words))
    where
      inside : (i : Instruction) → a + length (scheme_words (i ∷ is)) ≤ length ws → a < length ws
      inside (add n) l = omega arith
      inside (evaluate rs) l = omega arith
      inside (expect x) l = omega arith
      inside (test cs) l = omega arith
      inside (remove n) l = omega arith

  -- the symbol expected is passed
  pub passed_laid : {n : ℕ} {ps : List ℕ} {h : ℕ} {qs : List ℕ} (x : Symbol) (is : List Instruction) → (is ≡ [] → p ≡ whole) → Ahead g ws a (frame p is) → 1 + expects is ≤ length (production_at g p).right
      → LaidIn 0 n ps h (place_of g (frame p (expect x ∷ is)) ∷ qs) → LaidIn 0 n (passed ws a h ps) h (place_of g (frame p is) ∷ qs)
  passed_laid {n} {ps} {h} {qs} x is w u few l = go (eqb (head_operation (get_or ws a 0)) test_operation) refl
    where
      go : (b : Bool) → eqb (head_operation (get_or ws a 0)) test_operation ≡ b → LaidIn 0 n (count_if (not b) h ps) h (place_of g (frame p is) ∷ qs)
      go true e = rw (place_pending g p x is ((follows is w u).0 (eqb→eq (head_operation (get_or ws a 0)) test_operation (rw e tt)))) l
      go false e = counted (place_of g (frame p is)) (place_passed_lem g p x is few ((follows is w u).1 (λ z. true≢false (sym (eq-eqb (head_operation (get_or ws a 0)) test_operation z) ∙ e)))) l

-- ---- a move that leaves the top frame one instruction further

module _ {g : Grammar} {ws : List ℕ} {lent : Lent} {m : List ℤ} {ps : List ℕ} {run : Run} {c : Config} (h : Held g ws lent m ps run c) where
  pub top_laid : {i : Instruction} (x : Hand g ws run.at c i) → LaidIn 0 lent.max_places ps run.places (place_of g (frame x.production (i ∷ x.rest)) ∷ map (place_of g) x.below)
  top_laid x = subst (λ fs. LaidIn 0 lent.max_places ps run.places (map (place_of g) fs)) x.frames h.places

  -- the configuration after it
  abbrev pub after : {i : Instruction} → Hand g ws run.at c i → List ℤ → ℕ → Config
  after x rs t = config (frame x.production x.rest ∷ x.below) rs t (suc c.moves)

  pub onward_held : {i : Instruction} (look : Coming) → IsAhead g look → (x : Hand g ws run.at c i) (m' : List ℤ) (ps' : List ℕ) (a r k t : ℕ) (rs : List ℤ) → run.moves < moves_limit
      → next g lent look c ≡ moved (after x rs t) → a ≡ run.at + length (instruction_words i) → k ≡ t → t ≤ suc c.tokens
      → LaidIn mark lent.max_registers m' r rs
      → LaidIn 0 lent.max_places ps' run.places (place_of g (frame x.production x.rest) ∷ map (place_of g) x.below)
      → Held g ws lent m' ps' (record { tokens = k; moves = run.moves + 1; registers = r; places = run.places; at = a }) (after x rs t)
  onward_held {i} look ok x m' ps' a r k t rs limit e is_at is_tokens few lr lp =
      let mv = h.moves in
      let ft = h.few_tokens in
      record {
        well_formed = h.well_formed;
        begins = h.begins;
        shaped = shape_move g h.well_formed lent look ok c (after x rs t) h.shaped e;
        registers = lr;
        places = lp;
        ahead = rw is_at (ahead_next x.production i x.rest x.ahead);
        tokens = is_tokens;
        moves = omega arith;
        few_moves = omega arith;
        few_tokens = omega arith;
      }

  -- ---- add

  pub made_add : (look : Coming) → IsAhead g look → run.moves < moves_limit → head_operation (get_or ws run.at 0) ≡ add_operation → run.registers + head_operand (get_or ws run.at 0) ≤ length m
      → Made g ws lent (next g lent look c) m ps m ps (Ok (record { tokens = run.tokens; moves = run.moves + 1; registers = run.registers + head_operand (get_or ws run.at 0); places = run.places; at = run.at + 1 }))
  made_add look ok limit o fits =
      let n : ℕ = head_operand (get_or ws run.at 0) in
      let x = hand_add h o in
      let t = h.tokens in
      let z = h.registers.height in
      let size = laid_size h.registers in
      let e : next g lent look c ≡ moved (after x (replicate n mark ++ c.registers) c.tokens) = next_is h look x limit
      ∙ ap (λ b. cond b (blocked 31) (step c (frame x.production x.rest ∷ x.below) (replicate n mark ++ c.registers))) (le-ltb lent.max_registers (length c.registers + n) (omega arith)) in (
        after x (replicate n mark ++ c.registers) c.tokens,
        e,
        onward_held look ok x m ps (run.at + 1) (run.registers + n) run.tokens c.tokens (replicate n mark ++ c.registers) limit e refl t (omega arith)
            (laid_add h.registers n (omega arith)) (rw (← (place_same g x.production (add n) x.rest refl refl x.ahead.ordered)) (top_laid x)),
      )

  pub blocked_add : (look : Coming) → run.moves < moves_limit → head_operation (get_or ws run.at 0) ≡ add_operation → length m < run.registers + head_operand (get_or ws run.at 0) → Made g ws lent (next g lent look c) m ps m ps (Err NoRegister)
  blocked_add look limit o fits =
      let n : ℕ = head_operand (get_or ws run.at 0) in
      let x = hand_add h o in
      let z = h.registers.height in
      let size = laid_size h.registers in
      (next_is h look x limit ∙ ap (λ b. cond b (blocked 31) (step c (frame x.production x.rest ∷ x.below) (replicate n mark ++ c.registers))) (lt-ltb lent.max_registers (length c.registers + n) (omega arith)), refl, refl)

  -- ---- evaluate

  abbrev pub operand_here : ℕ
  operand_here = head_operand (get_or ws run.at 0)

  abbrev pub rules_here : List (Rule ℕ)
  rules_here = rules_from ws (run.at + 1) operand_here

  -- the rules at hand can be evaluated, and what that says
  pub record Rules : Type 0 where
    pub rules : List (Rule ℕ)
    pub hand : Hand g ws run.at c (evaluate rules)
    pub count : operand_here ≡ length rules
    pub inside : run.at + 1 + 2 * operand_here ≤ length ws
    pub ready : Evaluates ws (run.at + 1) operand_here (stack run.registers m)
    pub marked : (q : Rule ℕ) → In q rules_here → read_register (stack run.registers m) q.target ≡ mark
    pub done : {b : Bool} {m' : List ℤ} → Evaluated rules_here run.registers m b m' → (b ≡ values_fit rules c.registers) × LaidIn mark lent.max_registers m' run.registers (after_rules b rules c.registers)

  pub rules_here_lem : head_operation (get_or ws run.at 0) ≡ evaluate_operation → Rules
  rules_here_lem o =
      let r = hand_evaluate h o in
      let p = hand_proper h r.1 in
      let k = (code_evaluate (ahead_code r.1.ahead)).1 in
      record {
        rules = r.0;
        hand = r.1;
        count = r.2;
        inside = omega (arith, stands_within k.words, rules_length r.0, r.2);
        ready = rw r.2 (evaluate_ready h.registers r.0 k p.2 r.1.handled);
        marked = rw (r.2, rules_read r.0 k p.2, laid_stack h.registers) (fresh g h.well_formed c h.shaped r.1.production (evaluate r.0) r.1.rest r.1.below r.1.frames);
        done = λ {b} {m'} v. evaluate_done h.registers r.0 k p.2 (subst (λ n. Evaluated (rules_from ws (run.at + 1) n) run.registers m b m') r.2 v);
      }

  pub made_evaluate : (look : Coming) → IsAhead g look → run.moves < moves_limit → head_operation (get_or ws run.at 0) ≡ evaluate_operation → (m' : List ℤ) → Evaluated rules_here run.registers m true m'
      → Made g ws lent (next g lent look c) m ps m' ps (Ok (record { tokens = run.tokens; moves = run.moves + 1; registers = run.registers; places = run.places; at = run.at + 1 + 2 * operand_here }))
  made_evaluate look ok limit o m' v =
      let r = rules_here_lem o in
      let x = r.hand in
      let rs : List ℤ = write_all r.rules c.registers c.registers in
      let d = r.done v in
      let e : next g lent look c ≡ moved (after x rs c.tokens) = next_is h look x limit ∙ ap (λ b. cond b (step c (frame x.production x.rest ∷ x.below) rs) (blocked 23)) (sym d.0) in (
        after x rs c.tokens,
        e,
        onward_held look ok x m' ps (run.at + 1 + 2 * operand_here) run.registers run.tokens c.tokens rs limit e (omega (arith, r.count, rules_length r.rules)) h.tokens (omega arith) d.1
            (rw (← (place_same g x.production (evaluate r.rules) x.rest refl refl x.ahead.ordered)) (top_laid x)),
      )

  pub blocked_evaluate : (look : Coming) → run.moves < moves_limit → head_operation (get_or ws run.at 0) ≡ evaluate_operation → (m' : List ℤ) → Evaluated rules_here run.registers m false m' → Made g ws lent (next g lent look c) m ps m' ps (Err ValueOutside)
  blocked_evaluate look limit o m' v =
      let r = rules_here_lem o in
      let x = r.hand in
      let rs : List ℤ = write_all r.rules c.registers c.registers in
      (next_is h look x limit ∙ ap (λ b. cond b (step c (frame x.production x.rest ∷ x.below) rs) (blocked 23)) (sym (r.done v).0), v.memory ∙ stack_laid mark run.registers m (bounds h).registers, refl)

  -- one rule, and what follows its words
  module _ (look : Coming) (limit : run.moves < moves_limit) (o : head_operation (get_or ws run.at 0) ≡ evaluate_operation) (one : operand_here ≡ 1) (m' : List ℤ) where
    abbrev EvaluatedOne : Bool → Type 0
    EvaluatedOne b = Evaluated (rules_from ws (run.at + 1) 1) run.registers m b m'

    here : (b : Bool) → EvaluatedOne b → Evaluated rules_here run.registers m b m'
    here b v = subst (λ n. Evaluated (rules_from ws (run.at + 1) n) run.registers m b m') (sym one) v

    pub made_single : IsAhead g look → EvaluatedOne true → Made g ws lent (next g lent look c) m ps m' ps (Ok (after_move run (run.at + 3)))
    made_single ok v =
        let a : run.at + 1 + 2 * operand_here ≡ run.at + 3 = omega arith in
        subst (λ k. Made g ws lent (next g lent look c) m ps m' ps (Ok (after_move run k))) a (made_evaluate look ok limit o m' (here true v))

    pub blocked_single : EvaluatedOne false → Made g ws lent (next g lent look c) m ps m' ps (Err ValueOutside)
    blocked_single v = blocked_evaluate look limit o m' (here false v)

  -- ---- test

  abbrev pub conditions_here : List (Condition ℕ)
  conditions_here = conditions_from ws (run.at + 1) operand_here

  pub record Conditions : Type 0 where
    pub conditions : List (Condition ℕ)
    pub hand : Hand g ws run.at c (test conditions)
    pub count : operand_here ≡ length conditions
    pub ready : Tests ws (run.at + 1) operand_here (stack run.registers m)
    pub done : all (holds (read_register (stack run.registers m))) conditions_here ≡ all (holds (read_register c.registers)) conditions

  pub conditions_here_lem : head_operation (get_or ws run.at 0) ≡ test_operation → Conditions
  conditions_here_lem o =
      let r = hand_test h o in
      let p = hand_proper h r.1 in
      let k = (code_test (ahead_code r.1.ahead)).1 in
      record {
        conditions = r.0;
        hand = r.1;
        count = r.2;
        ready = rw r.2 (test_ready h.registers r.0 k p.2 r.1.handled);
        done = rw r.2 (test_done h.registers r.0 k p.2);
      }

  pub made_test : (look : Coming) → IsAhead g look → run.moves < moves_limit → head_operation (get_or ws run.at 0) ≡ test_operation → true ≡ all (holds (read_register (stack run.registers m))) conditions_here
      → Made g ws lent (next g lent look c) m ps m (count_if true run.places ps) (Ok (record { tokens = run.tokens; moves = run.moves + 1; registers = run.registers; places = run.places; at = run.at + 1 + 3 * operand_here }))
  made_test look ok limit o v =
      let r = conditions_here_lem o in
      let x = r.hand in
      let e : next g lent look c ≡ moved (after x c.registers c.tokens) = next_is h look x limit ∙ ap (λ b. cond b (step c (frame x.production x.rest ∷ x.below) c.registers) (blocked 22)) (sym (v ∙ r.done)) in (
        after x c.registers c.tokens,
        e,
        onward_held look ok x m (count_if true run.places ps) (run.at + 1 + 3 * operand_here) run.registers run.tokens c.tokens c.registers limit e
            (omega (arith, r.count, conditions_length r.conditions)) h.tokens (omega arith) h.registers (counted (place_of g (frame x.production x.rest)) (place_tested g x.production r.conditions x.rest x.ahead.ordered (omega (arith, x.ahead.few))) (top_laid x)),
      )

  pub blocked_test : (look : Coming) → run.moves < moves_limit → head_operation (get_or ws run.at 0) ≡ test_operation → false ≡ all (holds (read_register (stack run.registers m))) conditions_here → Made g ws lent (next g lent look c) m ps m ps (Err ConditionFalse)
  blocked_test look limit o v =
      let r = conditions_here_lem o in
      let x = r.hand in
      (next_is h look x limit ∙ ap (λ b. cond b (step c (frame x.production x.rest ∷ x.below) c.registers) (blocked 22)) (sym (v ∙ r.done)), refl, refl)
