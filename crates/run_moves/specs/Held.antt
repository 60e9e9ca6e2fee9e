-- A run in memory: how the lent stacks, the program's words and the run's numbers hold a configuration, and what it is to answer with a move.
use Rattle.std.specs.Prelude.{ℕ, ◌+◌, ◌≤◌, ◌<◌, ◌≡◌, refl, cond, length, get_or, ℤ, Result, Ok, Err}
use Rattle.std.proofs.Common.{arith, sym, ap, ◌∙◌, subst, inl}
use mathlib.Core.List.{List, [], ◌∷◌, map, cons≢nil}
use Rattle.std.proofs.lemmas.List.{length-map}
use Rattle.std.proofs.lemmas.Bool.{lt-leb}
use Rattle.meaning.specs.Grammar.{Grammar, Rule, Condition, terminal, nonterminal, whole}
use Rattle.meaning.specs.Value.{mark}
use Rattle.meaning.specs.Scheme.{Instruction, add, evaluate, expect, test, remove}
use Rattle.meaning.specs.Rules.{WellFormed}
use Rattle.meaning.specs.Machine.{Frame, Config, Lent, Coming, Outcome, moved, blocked, next, next_of, move, place_of, moves_limit, tokens_limit}
use Rattle.meaning.specs.Part.{frame}
use Rattle.meaning.specs.Program.{scheme_words, add_operation, evaluate_operation, read_operation, predict_operation, test_operation, remove_operation, nothing_operation}
use Rattle.meaning_statements.specs.CallStatements.{Handles}
use Rattle.theory_answers.specs.Shape.{Due, adds, hands, waits, tests, closes, removes, ends}
use Rattle.theory_answers.specs.ShapeMoves.{IsAhead, ShapedAt}
use Rattle.theory_answers.specs.Handling.{handles}
use Rattle.theory_program.specs.Addresses.{Begins}
use Rattle.theory_program.specs.WordsStand.{stands_within}
use Rattle.theory_program.specs.Parts.{head_operation, head_operand}
use Rattle.theory_program.specs.Code.{operation, operand, code_head, is_add, is_evaluate, is_terminal_lem, is_nonterminal_lem, is_test, is_remove}
use Rattle.theory_program.specs.Proper.{ProperInstruction}
use Rattle.run_moves.specs.declared.Run.{Run}
use Rattle.refusals.specs.declared.Refusal.{Refusal}
use Rattle.refusals.specs.Numbers.{refusal_number}
use Rattle.run_moves.specs.declared.Halt.{Halt}
use Rattle.run_moves.specs.declared.Halt.TheVariants.{Pause, Refused}
use Rattle.run_moves.specs.Laid.{LaidIn, laid_size}
use Rattle.run_moves.specs.Ahead.{Ahead, ahead_code, ahead_over}

abbrev pub top_frame : List Frame → Frame
top_frame [] = frame 0 []
top_frame (f ∷ fs) = f

-- registers m and places ps, as many as are lent, the program's words ws and the run hold configuration c of grammar g
pub record Held (g : Grammar) (ws : List ℕ) (lent : Lent) (m : List ℤ) (ps : List ℕ) (run : Run) (c : Config) : Type 0 where
  pub well_formed : WellFormed g
  pub begins : Begins g ws
  pub shaped : ShapedAt g c
  pub registers : LaidIn mark lent.max_registers m run.registers c.registers
  pub places : LaidIn 0 lent.max_places ps run.places (map (place_of g) c.frames)
  pub ahead : Ahead g ws run.at (top_frame c.frames)
  pub tokens : run.tokens ≡ c.tokens
  pub moves : run.moves ≡ c.moves
  pub few_moves : c.moves ≤ moves_limit
  -- a token is read by a move
  pub few_tokens : c.tokens ≤ tokens_limit + c.moves

-- the numbers of a run are within the cells and words that stand
pub record Bounds (ws : List ℕ) (m : List ℤ) (ps : List ℕ) (run : Run) : Type 0 where
  pub inside : run.at < length ws
  pub registers : run.registers ≤ length m
  pub places : run.places ≤ length ps
  pub some_place : 1 ≤ run.places
  pub moves : run.moves ≤ moves_limit
  pub tokens : run.tokens ≤ tokens_limit + moves_limit

-- ---- what a move answers

-- the run with one move more
abbrev pub after_move : Run → ℕ → Run
after_move run a = record { tokens = run.tokens; moves = run.moves + 1; registers = run.registers; places = run.places; at = a }

-- what a move leads to: the run after it, or what refuses it
abbrev pub Step : Type 0
Step = Result Run Refusal

-- a step for an outcome, from memory m and ps to m' and ps': a refused move changes nothing
abbrev pub Made : Grammar → List ℕ → Lent → Outcome → List ℤ → List ℕ → List ℤ → List ℕ → Step → Type 0
Made g ws lent o m ps m' ps' (Ok run) = (d : Config) × (o ≡ moved d) × Held g ws lent m' ps' run d
Made g ws lent o m ps m' ps' (Err r) = (o ≡ blocked (refusal_number r)) × (m' ≡ m) × (ps' ≡ ps)

-- what moves lead to: the run after them, or why none is made any more
abbrev pub Stage : Type 0
Stage = Result Run Halt

-- a move never pauses
abbrev pub halting : Step → Stage
halting (Ok run) = Ok run
halting (Err r) = Err (Refused r)

-- why no move is made any more, by its number: 0 is a pause
abbrev pub halt_number : Halt → ℕ
halt_number Pause = 0
halt_number (Refused r) = refusal_number r

-- whatever configuration is held, the step is the machine's
abbrev pub Answers : List ℕ → List ℤ → List ℕ → Run → Coming → List ℤ → List ℕ → Step → Type 0
Answers ws m ps run ahead m' ps' s = (g : Grammar) (lent : Lent) (c : Config) → Held g ws lent m ps run c → IsAhead g ahead → Made g ws lent (next g lent ahead c) m ps m' ps' s

-- some configuration is held, the limit of moves is not reached, and the operation at hand has number k
pub record ReadyForMove (ws : List ℕ) (m : List ℤ) (ps : List ℕ) (run : Run) (k : ℕ) : Type 0 where
  pub grammar : Grammar
  pub lent : Lent
  pub config : Config
  pub held : Held grammar ws lent m ps run config
  pub limit : run.moves < moves_limit
  pub operation : head_operation (get_or ws run.at 0) ≡ k

pub ready_as : {ws : List ℕ} {m : List ℤ} {ps : List ℕ} {run : Run} {k : ℕ} (j : ℕ) → head_operation (get_or ws run.at 0) ≡ j → ReadyForMove ws m ps run k → ReadyForMove ws m ps run j
ready_as j e r = record { grammar = r.grammar; lent = r.lent; config = r.config; held = r.held; limit = r.limit; operation = e }

-- ---- the instruction at hand

pub record Hand (g : Grammar) (ws : List ℕ) (a : ℕ) (c : Config) (i : Instruction) : Type 0 where
  pub production : ℕ
  pub rest : List Instruction
  pub below : List Frame
  pub frames : c.frames ≡ frame production (i ∷ rest) ∷ below
  pub ahead : Ahead g ws a (frame production (i ∷ rest))
  pub handled : Handles g c i

ended_whole : {g : Grammar} {p k : ℕ} {rest : List Instruction} {top results : List ℤ} → Due g p k rest top results → rest ≡ [] → p ≡ whole
ended_whole (adds x xs e) z = absurd (cons≢nil z)
ended_whole (hands x xs e) z = absurd (cons≢nil z)
ended_whole (waits x xs is e v) z = absurd (cons≢nil z)
ended_whole (tests xs e) z = absurd (cons≢nil z)
ended_whole (closes e w) z = absurd (cons≢nil z)
ended_whole (removes rs e w v) z = absurd (cons≢nil z)
ended_whole (ends e w) z = w

-- nothing is left only of the whole segment
pub shaped_over : (g : Grammar) (c : Config) (p : ℕ) (fs : List Frame) → ShapedAt g c → c.frames ≡ frame p [] ∷ fs → p ≡ whole
shaped_over g c p fs s e =
    let f : frame s.production s.rest ≡ frame p [] = ap top_frame (s.is_frames ∙ e) in
    sym (ap (λ x. x.production) f) ∙ ended_whole s.due (ap (λ x. x.rest) f)

module _ {g : Grammar} {ws : List ℕ} {lent : Lent} {m : List ℤ} {ps : List ℕ} {run : Run} {c : Config} (h : Held g ws lent m ps run c) where
  abbrev word : ℕ
  word = get_or ws run.at 0

  -- an instruction, or the word that says that nothing is left
  pub data AtHand : Type 0 where
    some : (i : Instruction) → Hand g ws run.at c i → head_operation word ≡ operation i → head_operand word ≡ operand i → AtHand
    nothing : (below : List Frame) → c.frames ≡ frame whole [] ∷ below → word ≡ nothing_operation → run.at < length ws → AtHand

  pub at_hand : AtHand
  at_hand = go h.shaped.rest (sym h.shaped.is_frames)
    where
      s : ShapedAt g c
      s = h.shaped

      go : (is : List Instruction) → c.frames ≡ frame s.production is ∷ s.below → AtHand
      go [] e =
          let w : s.production ≡ whole = shaped_over g c s.production s.below s e in
          let o = ahead_over s.production w (subst (λ fs. Ahead g ws run.at (top_frame fs)) e h.ahead) in
          nothing s.below (e ∙ ap (λ p. frame p [] ∷ s.below) w) o.0 o.1
      go (i ∷ is) e =
          let a : Ahead g ws run.at (frame s.production (i ∷ is)) = subst (λ fs. Ahead g ws run.at (top_frame fs)) e h.ahead in
          let k = code_head (ahead_code a) in
          some i (record { production = s.production; rest = is; below = s.below; frames = e; ahead = a; handled = handles g h.well_formed c s s.production i is s.below e }) k.0 k.1

  inside_of : AtHand → run.at < length ws
  inside_of (some i x o n) = go i x (stands_within (ahead_code x.ahead).words)
    where
      go : (i : Instruction) (x : Hand g ws run.at c i) → run.at + length (scheme_words (i ∷ x.rest)) ≤ length ws → run.at < length ws
      go (add k) x l = omega arith
      go (evaluate rs) x l = omega arith
      go (expect y) x l = omega arith
      go (test cs) x l = omega arith
      go (remove k) x l = omega arith
  inside_of (nothing fs e w l) = l

  pub bounds : Bounds ws m ps run
  bounds =
      let t = h.tokens in
      let v = h.moves in
      let a = h.few_moves in
      let b = h.few_tokens in
      record {
        inside = inside_of at_hand;
        registers = omega (arith, laid_size h.registers, h.registers.room);
        places = omega (arith, laid_size h.places, h.places.room);
        some_place = omega (arith, h.places.height, length-map c.frames (place_of g), ap length (sym h.shaped.is_frames));
        moves = omega arith;
        tokens = omega arith;
      }

  -- by the operation's number
  hand_of : (k : ℕ) (P : Instruction → Type 0) → k ≤ remove_operation → head_operation word ≡ k → ((i : Instruction) → Hand g ws run.at c i → operation i ≡ k → head_operand word ≡ operand i → P i) → (i : Instruction) × P i
  hand_of k P l e f = go at_hand
    where
      go : AtHand → (i : Instruction) × P i
      go (some i x o n) = (i, f i x (sym o ∙ e) n)
      go (nothing fs z w b) = absurd (omega arith)

  pub hand_add : head_operation word ≡ add_operation → Hand g ws run.at c (add (head_operand word))
  hand_add e = (hand_of add_operation (λ i. Hand g ws run.at c (add (head_operand word))) (omega arith) e (λ i x o n. subst (Hand g ws run.at c) (is_add i o ∙ ap add (sym n)) x)).1

  pub hand_terminal : head_operation word ≡ read_operation → Hand g ws run.at c (expect (terminal (head_operand word)))
  hand_terminal e = (hand_of read_operation (λ i. Hand g ws run.at c (expect (terminal (head_operand word)))) (omega arith) e (λ i x o n. subst (Hand g ws run.at c) (is_terminal_lem i o ∙ ap (λ t. expect (terminal t)) (sym n)) x)).1

  pub hand_nonterminal : head_operation word ≡ predict_operation → Hand g ws run.at c (expect (nonterminal (head_operand word)))
  hand_nonterminal e = (hand_of predict_operation (λ i. Hand g ws run.at c (expect (nonterminal (head_operand word)))) (omega arith) e (λ i x o n. subst (Hand g ws run.at c) (is_nonterminal_lem i o ∙ ap (λ t. expect (nonterminal t)) (sym n)) x)).1

  pub hand_remove : head_operation word ≡ remove_operation → Hand g ws run.at c (remove (head_operand word))
  hand_remove e = (hand_of remove_operation (λ i. Hand g ws run.at c (remove (head_operand word))) (omega arith) e (λ i x o n. subst (Hand g ws run.at c) (is_remove i o ∙ ap remove (sym n)) x)).1

  pub hand_evaluate : head_operation word ≡ evaluate_operation → (rules : List (Rule ℕ)) × Hand g ws run.at c (evaluate rules) × (head_operand word ≡ length rules)
  hand_evaluate e = (hand_of evaluate_operation (λ i. (rules : List (Rule ℕ)) × Hand g ws run.at c (evaluate rules) × (head_operand word ≡ length rules)) (omega arith) e (λ i x o n. let r = is_evaluate i o in (r.0, subst (Hand g ws run.at c) r.1 x, n ∙ ap operand r.1))).1

  pub hand_test : head_operation word ≡ test_operation → (cs : List (Condition ℕ)) × Hand g ws run.at c (test cs) × (head_operand word ≡ length cs)
  hand_test e = (hand_of test_operation (λ i. (cs : List (Condition ℕ)) × Hand g ws run.at c (test cs) × (head_operand word ≡ length cs)) (omega arith) e (λ i x o n. let r = is_test i o in (r.0, subst (Hand g ws run.at c) r.1 x, n ∙ ap operand r.1))).1

  -- what it holds
  pub hand_proper : {i : Instruction} → Hand g ws run.at c i → ProperInstruction g i
  hand_proper {i} x = x.ahead.proper i (inl refl)

  -- the move is the instruction's, since the limit is not reached; whatever is lent
  pub next_in_lem : {i : Instruction} (lent' : Lent) (ahead : Coming) (x : Hand g ws run.at c i) → run.moves < moves_limit → next g lent' ahead c ≡ move g lent' ahead c (frame x.production (i ∷ x.rest)) x.below i
  next_in_lem {i} lent' ahead x l =
      ap (next_of g lent' ahead c) x.frames
      ∙ ap (λ b. cond b (blocked 35) (move g lent' ahead c (frame x.production (i ∷ x.rest)) x.below i)) (lt-leb moves_limit c.moves (omega (arith, h.moves)))

  pub next_is : {i : Instruction} (ahead : Coming) (x : Hand g ws run.at c i) → run.moves < moves_limit → next g lent ahead c ≡ move g lent ahead c (frame x.production (i ∷ x.rest)) x.below i
  next_is ahead x l = next_in_lem lent ahead x l
