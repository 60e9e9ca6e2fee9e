-- Moves that pass a symbol: the read of a token, and the remove, after which the place below goes on.
use Rattle.std.specs.Prelude.{ℕ, suc, ◌+◌, ◌-◌, ◌*◌, ◌≤◌, ◌<◌, ◌≡◌, refl, ◌⊎◌, Bool, true, false, not, cond, List, [], ◌∷◌, ◌++◌, map, length, get_or, set, drop, T, eqb, ltb, ℤ, pos, Ok, Err}
use Rattle.std.proofs.Common.{arith, sym, ap, ◌∙◌, subst, inl, inr, true≢false, eqb→eq, ltb→lt, lt→ltb, eq-eqb, ne_eqb, lt-ltb, le-ltb}
use Rattle.std.proofs.Math.Dec.{eqb_refl}
use Rattle.meaning.specs.Sets.{end_number}
use Rattle.meaning.specs.Grammar.{Grammar, Symbol, Leaf, terminal, nonterminal, production_at, whole, place_at, place_production, place_passed, carried, leaf_of}
use Rattle.meaning.specs.Value.{mark}
use Rattle.meaning.specs.Scheme.{Instruction, expect, remove}
use Rattle.meaning.specs.Rules.{WellFormed}
use Rattle.meaning.specs.Machine.{Frame, Config, Lent, Look, Coming, token, over, comes, ends, as_look, look_number, moved, blocked, step, next, accept, unexpected, parent_onward, place_of, expects, moves_limit}
use Rattle.meaning.specs.Part.{frame, config, wait_rest, left_rest}
use Rattle.meaning.specs.Calls.{is_mark, frame_of, is_listed, place_waits, lay}
use Rattle.theory_base.specs.Members.{and, or_left, or_right, or_cases, both}
use Rattle.theory_base.specs.Values.{drop_head}
use Rattle.theory_base.specs.Feeds.{leaf_of_lem}
use Rattle.theory_base.specs.Frames.{place_waits_lem}
use Rattle.theory_answers.specs.Shape as Shape
use Rattle.theory_answers.specs.Shape.{Due, adds, hands, waits, tests, closes, removes, StandsOnFrames, segment, inside}
use Rattle.theory_answers.specs.ShapeMemory.{listed, short, place_short, place_back}
use Rattle.theory_answers.specs.ShapeMoves.{IsAhead, shape_move}
use Rattle.meaning.specs.Program.{read_operation, remove_operation, nothing_operation}
use Rattle.theory_program.specs.Parts.{head_operation, head_operand}
use Rattle.theory_program.specs.Code.{operation}
use Rattle.theory_program.specs.WordsStand.{stands_within}
use Rattle.theory_program.specs.Addresses.{Begins, body_address, expect_address, record_at_lem, body_at, body_length, expect_word}
use Rattle.theory_program.specs.Records.{segment_words_lem, record_words_lem}
use Rattle.theory_program.specs.Resuming.{place_address}
use Rattle.run_registers.specs.Stack.{stack}
use Rattle.run_registers.specs.Laid.{laid_push, laid_remove}
use Rattle.run_moves.specs.declared.Run.{Run}
use Rattle.refusals.specs.declared.Refusal.{Refusal}
use Rattle.refusals.specs.declared.Refusal.TheVariants.{NoRegister}
use Rattle.refusals.specs.Numbers.{refusal_number}
use Rattle.run_moves.specs.Laid.{LaidIn, laid_size, laid_read, laid_pop}
use Rattle.run_moves.specs.Ahead.{Ahead, ahead_next, ahead_place}
use Rattle.run_moves.specs.Held.{Held, Made, Hand, top_frame, shaped_over, hand_terminal, hand_remove, hand_proper, bounds, next_in_lem, next_is}
use Rattle.run_moves.specs.Moves.{passed, follows, passed_laid, top_laid, after, onward_held}

-- ---- what comes next, by its number: 63 is the end

abbrev pub look_if : Bool → ℕ → Look
look_if true u = over
look_if false u = token u

abbrev pub look_of : ℕ → Look
look_of u = look_if (eqb u end_number) u

pub look_number_lem : (u : ℕ) → look_number (look_of u) ≡ u
look_number_lem u = go (eqb u end_number) refl
  where
    go : (b : Bool) → eqb u end_number ≡ b → look_number (look_if b u) ≡ u
    go true e = sym (eqb→eq u end_number (rw e tt))
    go false e = refl

-- what comes next, with its value; the mark stands for none
abbrev pub coming_if : Bool → ℕ → ℤ → Coming
coming_if true u v = ends
coming_if false u v = comes (record { kind = u; values = carried (not (is_mark v)) v })

abbrev pub coming_of : ℕ → ℤ → Coming
coming_of u v = coming_if (eqb u end_number) u v

pub coming_look : (u : ℕ) (v : ℤ) → as_look (coming_of u v) ≡ look_of u
coming_look u v = go (eqb u end_number)
  where
    go : (b : Bool) → as_look (coming_if b u v) ≡ look_if b u
    go true = refl
    go false = refl

-- ---- places are small

place_small : (g : Grammar) → WellFormed g → {p : ℕ} {fs : List Frame} {base : List ℤ} → StandsOnFrames g p fs base → (is : List Instruction) → place_of g (frame p is) < 65536
place_small g w {p} st is = go (listed g st)
  where
    go : (p ≡ whole) ⊎ (p < length g.productions) → place_of g (frame p is) < 65536
    go (inl e) = omega (arith, short g w st)
    go (inr l) = omega (arith, short g w st, w.productions.1)

module _ {g : Grammar} {ws : List ℕ} {lent : Lent} {m : List ℤ} {ps : List ℕ} {run : Run} {c : Config} (h : Held g ws lent m ps run c) where
  pub top_small : get_or ps (run.places - 1) 0 < 65536
  top_small =
      let s = h.shaped in
      let l : LaidIn 0 lent.max_places ps run.places (map (place_of g) (frame s.production s.rest ∷ s.below)) = subst (λ fs. LaidIn 0 lent.max_places ps run.places (map (place_of g) fs)) (sym s.is_frames) h.places in
      omega (arith, laid_read l 1 (omega arith) (bounds h).some_place, place_small g h.well_formed s.stands s.rest)

  -- ---- read

  abbrev token_here : ℕ
  token_here = head_operand (get_or ws run.at 0)

  -- the token expected is read, and leaves its values, if there is room for them
  reads : (lent' : Lent) (u : Leaf) (x : Hand g ws run.at c (expect (terminal token_here))) → run.moves < moves_limit → token_here ≡ u.kind → length c.registers + length u.values ≤ lent'.max_registers
      → next g lent' (comes u) c ≡ moved (after h x (u.values ++ c.registers) (suc c.tokens))
  reads lent' u x limit e room =
      let d = after h x (u.values ++ c.registers) (suc c.tokens) in
      next_in_lem h lent' (comes u) x limit
      ∙ (ap (λ b. cond b (cond (ltb lent'.max_registers (length c.registers + length u.values)) (blocked 31) (moved d)) (blocked 21)) (eq-eqb token_here u.kind e)
      ∙ ap (λ b. cond b (blocked 31) (moved d)) (le-ltb lent'.max_registers (length c.registers + length u.values) room))

  -- nothing is left behind it only of the whole segment
  read_over : (x : Hand g ws run.at c (expect (terminal token_here))) → run.moves < moves_limit → x.rest ≡ [] → x.production ≡ whole
  read_over x limit z =
      let u : Leaf = leaf_of g (record { kind = token_here; value = pos 0 }) in
      let lent' : Lent = record { max_registers = length c.registers + length u.values; max_places = 0 } in
      let d : Config = after h x (u.values ++ c.registers) (suc c.tokens) in
      let ok = leaf_of_lem g (record { kind = token_here; value = pos 0 }) tt in
      shaped_over g d x.production x.below (shape_move g h.well_formed lent' (comes u) ok c d h.shaped (reads lent' u x limit refl (omega arith))) (ap (λ is. frame x.production is ∷ x.below) z)

  pub read_inside : run.moves < moves_limit → head_operation (get_or ws run.at 0) ≡ read_operation → run.at + 1 < length ws
  read_inside limit o =
      let x = hand_terminal h o in
      (follows x.production x.rest (read_over x limit) (ahead_next x.production (expect (terminal token_here)) x.rest x.ahead)).2

  -- what comes next is a token, if it is the expected one
  expected_is : (u : ℕ) (v : ℤ) → head_operation (get_or ws run.at 0) ≡ read_operation → token_here ≡ u → coming_of u v ≡ comes (record { kind = u; values = carried (not (is_mark v)) v })
  expected_is u v o e = ap (λ b. coming_if b u v) (ne_eqb u end_number (λ z. omega (arith, hand_proper h (hand_terminal h o), h.well_formed.terminals.1)))

  made_leaf : (u : ℕ) (v : ℤ) → IsAhead g (coming_of u v) → run.moves < moves_limit → head_operation (get_or ws run.at 0) ≡ read_operation → token_here ≡ u → (vs : List ℤ) → carried (not (is_mark v)) v ≡ vs → length c.registers + length vs ≤ lent.max_registers
      → (m' : List ℤ) (r : ℕ) → LaidIn mark lent.max_registers m' r (vs ++ c.registers)
      → Made g ws lent (next g lent (coming_of u v) c) m ps m' (passed ws (run.at + 1) run.places ps) (Ok (record { tokens = run.tokens + 1; moves = run.moves + 1; registers = r; places = run.places; at = run.at + 1 }))
  made_leaf u v ok limit o e vs q room m' r l =
      let x = hand_terminal h o in
      let ps' : List ℕ = passed ws (run.at + 1) run.places ps in
      let d : Config = after h x (vs ++ c.registers) (suc c.tokens) in
      let t : Leaf = record { kind = u; values = vs } in
      let is : next g lent (coming_of u v) c ≡ moved d = ap (λ a. next g lent a c) (expected_is u v o e ∙ ap (λ z. comes (record { kind = u; values = z })) q) ∙ reads lent t x limit e room in
      let few : 1 + expects x.rest ≤ length (production_at g x.production).right = omega (arith, x.ahead.few) in
      let k = h.tokens in (
        d,
        is,
        onward_held h (coming_of u v) ok x m' ps' (run.at + 1) r (run.tokens + 1) (suc c.tokens) (vs ++ c.registers) limit is refl (omega arith) (omega arith) l
            (passed_laid x.production (terminal token_here) x.rest (read_over x limit) (ahead_next x.production (expect (terminal token_here)) x.rest x.ahead) few (top_laid h x)),
      )

  pub made_read : (u : ℕ) (v : ℤ) → IsAhead g (coming_of u v) → run.moves < moves_limit → head_operation (get_or ws run.at 0) ≡ read_operation → token_here ≡ u → is_mark v ≡ true
      → Made g ws lent (next g lent (coming_of u v) c) m ps m (passed ws (run.at + 1) run.places ps) (Ok (record { tokens = run.tokens + 1; moves = run.moves + 1; registers = run.registers; places = run.places; at = run.at + 1 }))
  made_read u v ok limit o e q = made_leaf u v ok limit o e [] (ap (λ b. carried (not b) v) q) (omega (arith, h.registers.height, h.registers.room)) m run.registers h.registers

  pub made_value : (u : ℕ) (v : ℤ) → IsAhead g (coming_of u v) → run.moves < moves_limit → head_operation (get_or ws run.at 0) ≡ read_operation → token_here ≡ u → is_mark v ≡ false → run.registers < length m
      → Made g ws lent (next g lent (coming_of u v) c) m ps (set m run.registers v) (passed ws (run.at + 1) run.places ps) (Ok (record { tokens = run.tokens + 1; moves = run.moves + 1; registers = run.registers + 1; places = run.places; at = run.at + 1 }))
  made_value u v ok limit o e q l =
      let k : run.registers < lent.max_registers = omega (arith, laid_size h.registers) in
      made_leaf u v ok limit o e (v ∷ []) (ap (λ b. carried (not b) v) q) (omega (arith, h.registers.height)) (set m run.registers v) (run.registers + 1) (laid_push h.registers v k)

  -- 02 (e): "31 can occur there, after 21"
  pub blocked_full : (u : ℕ) (v : ℤ) → run.moves < moves_limit → head_operation (get_or ws run.at 0) ≡ read_operation → token_here ≡ u → is_mark v ≡ false → length m ≤ run.registers → Made g ws lent (next g lent (coming_of u v) c) m ps m ps (Err NoRegister)
  blocked_full u v limit o e q l =
      let x = hand_terminal h o in
      let d = after h x (v ∷ c.registers) (suc c.tokens) in
      let size = laid_size h.registers in (
        ap (λ a. next g lent a c) (expected_is u v o e ∙ ap (λ b. comes (record { kind = u; values = carried (not b) v })) q)
            ∙ (next_is h (comes (record { kind = u; values = v ∷ [] })) x limit
            ∙ (ap (λ b. cond b (cond (ltb lent.max_registers (length c.registers + 1)) (blocked 31) (moved d)) (blocked 21)) (eq-eqb token_here u e)
            ∙ ap (λ b. cond b (blocked 31) (moved d)) (lt-ltb lent.max_registers (length c.registers + 1) (omega (arith, h.registers.height))))),
        refl,
        refl,
      )

  pub blocked_read : (u : ℕ) (v : ℤ) → run.moves < moves_limit → head_operation (get_or ws run.at 0) ≡ read_operation → (token_here ≡ u → ⊥) → (r : Refusal) → refusal_number r ≡ unexpected (look_of u) → Made g ws lent (next g lent (coming_of u v) c) m ps m ps (Err r)
  blocked_read u v limit o z r e =
      let x = hand_terminal h o in
      (next_is h (coming_of u v) x limit ∙ (go x (eqb u end_number) ∙ ap blocked (sym e)), refl, refl)
    where
      go : (x : Hand g ws run.at c (expect (terminal token_here))) (b : Bool) → accept lent c (frame x.production (expect (terminal token_here) ∷ x.rest)) x.below token_here (coming_if b u v) ≡ blocked (unexpected (look_if b u))
      go x true = refl
      go x false =
          let vs : List ℤ = carried (not (is_mark v)) v in
          ap (λ b. cond b (cond (ltb lent.max_registers (length c.registers + length vs)) (blocked 31) (moved (after h x (vs ++ c.registers) (suc c.tokens)))) (blocked 21)) (ne_eqb token_here u z)

-- ---- where a place goes on

-- the whole segment's place says its address; any other waits
abbrev pub Waiting : Grammar → ℕ → Type 0
Waiting g place = (place_production place ≡ whole → ⊥) → T (place_waits g place)

pub record Resumes (ws : List ℕ) (place : ℕ) : Type 0 where
  pub grammar : Grammar
  pub begins : Begins grammar ws
  pub well_formed : WellFormed grammar
  pub waiting : Waiting grammar place

module _ {g : Grammar} {ws : List ℕ} (b : Begins g ws) (w : WellFormed g) (q : ℕ) (t : Waiting g q) where
  abbrev production : ℕ
  production = place_production q

  abbrev body_word : ℕ
  body_word = get_or ws 2 0 + 8 * production + 4

  waits_split : (production ≡ whole → ⊥) → T (is_listed g production) × T (ltb (place_passed q) (length (production_at g production).right))
  waits_split n = both (is_listed g production) (ltb (place_passed q) (length (production_at g production).right)) (t n)

  -- the words that are read, in the program, and the address they give
  pub record Resumed : Type 0 where
    pub body_inside : body_word < length ws
    pub expect_inside : get_or ws body_word 0 + place_passed q < length ws
    pub address : get_or ws (get_or ws body_word 0 + place_passed q) 0 ≡ place_address g q

  pub resumed : (production ≡ whole → ⊥) → Resumed
  resumed n = go (or_cases (ltb production (length g.productions)) (eqb production whole) (waits_split n).0)
    where
      listed_at : production < length g.productions → Resumed
      listed_at l =
          let k = ltb→lt (place_passed q) (length (production_at g production).right) (waits_split n).1 in
          let records = (segment_words_lem b).records in
          let is_body : get_or ws body_word 0 ≡ body_address g production = ap (λ a. get_or ws a 0) (omega arith) ∙ (record_words_lem b w production l).body in
          record {
            body_inside = omega (arith, records, stands_within (record_at_lem b w production l));
            expect_inside = omega (arith, is_body, stands_within (body_at b w production l), body_length g (body_address g production) (production_at g production));
            address = ap (λ a. get_or ws (a + place_passed q) 0) is_body ∙ (expect_word b w production l (place_passed q) k ∙ sym (ap (λ z. cond z (place_passed q) (expect_address g production (place_passed q))) (ne_eqb production whole n)));
          }

      go : T (ltb production (length g.productions)) ⊎ T (eqb production whole) → Resumed
      go (inl s) = listed_at (ltb→lt production (length g.productions) s)
      go (inr s) = absurd (n (eqb→eq production whole s))

  pub resumed_whole : production ≡ whole → place_passed q ≡ place_address g q
  resumed_whole e = sym (ap (λ z. cond z (place_passed q) (expect_address g production (place_passed q))) (eq-eqb production whole e))

-- ---- remove

abbrev pub first_operation : List Instruction → ℕ
first_operation [] = nothing_operation
first_operation (i ∷ is) = operation i

-- the whole segment removes nothing
removes_listed : {g : Grammar} {p k : ℕ} {rest : List Instruction} {top results : List ℤ} → Due g p k rest top results → first_operation rest ≡ remove_operation → eqb p whole ≡ false
removes_listed (adds x xs e) z = absurd (omega arith)
removes_listed (hands x xs e) z = absurd (omega arith)
removes_listed (waits (terminal t) xs is e v) z = absurd (omega arith)
removes_listed (waits (nonterminal n) xs is e v) z = absurd (omega arith)
removes_listed (tests xs e) z = absurd (omega arith)
removes_listed (closes e w) z = w
removes_listed (removes rs e w v) z = w
removes_listed (Shape.ends e w) z = absurd (omega arith)

-- the place of a frame that waits at a symbol
pub place_waiting : (g : Grammar) → WellFormed g → {q : ℕ} {fs : List Frame} {base : List ℤ} → StandsOnFrames g q fs base → (k : ℕ) (x : Symbol) (xs : List Symbol) → drop k (production_at g q).right ≡ x ∷ xs → T (place_waits g (place_of g (frame q (wait_rest g q k x xs))))
place_waiting g w {q} s k x xs e = subst (λ j. T (place_waits g j)) (sym (place_waits_lem g q k x xs e)) waits_at
  where
    is_listed_lem : (q ≡ whole) ⊎ (q < length g.productions) → T (is_listed g q)
    is_listed_lem (inl y) = or_right (ltb q (length g.productions)) (eqb q whole) (rw y (eqb_refl whole))
    is_listed_lem (inr y) = or_left (ltb q (length g.productions)) (eqb q whole) (lt→ltb q (length g.productions) y)

    waits_at : T (place_waits g (place_at q k))
    waits_at =
        let short = place_short g w s k x xs e in
        let d : place_production (place_at q k) ≡ q = omega arith in
        let r : place_passed (place_at q k) ≡ k = omega arith in
        rw (d, r) (and (is_listed g q) (ltb k (length (production_at g q).right)) (is_listed_lem (listed g s)) (lt→ltb k (length (production_at g q).right) (drop_head k (production_at g q).right x (terminal 0) xs e).0))

-- the frame below a listed production's waits at a symbol, and its place says where
pub record Parent (g : Grammar) (fs : List Frame) : Type 0 where
  pub production : ℕ
  pub symbol : Symbol
  pub rest : List Instruction
  pub below : List Frame
  pub frames : fs ≡ frame production (expect symbol ∷ rest) ∷ below
  pub waiting : T (place_waits g (place_of g (frame production (expect symbol ∷ rest))))
  pub back : frame_of g (place_of g (frame production (expect symbol ∷ rest))) ≡ frame production (expect symbol ∷ rest)
  pub small : place_of g (frame production (expect symbol ∷ rest)) < 65536

parent : (g : Grammar) → WellFormed g → {p : ℕ} {fs : List Frame} {base : List ℤ} → StandsOnFrames g p fs base → eqb p whole ≡ false → Parent g fs
parent g w segment z = absurd (true≢false z)
parent g w (inside {p} q k xs vs ss {fs} l e n s) z =
    let x : Symbol = nonterminal (production_at g p).left in
    record {
      production = q;
      symbol = x;
      rest = left_rest g q (suc k) xs;
      below = fs;
      frames = refl;
      waiting = place_waiting g w s k x xs e;
      back = place_back g w s k x xs e;
      small = place_small g w s (wait_rest g q k x xs);
    }

module _ {g : Grammar} {ws : List ℕ} {lent : Lent} {m : List ℤ} {ps : List ℕ} {run : Run} {c : Config} (h : Held g ws lent m ps run c) where
  abbrev removed_here : ℕ
  removed_here = head_operand (get_or ws run.at 0)

  -- what the remove at hand finds: its registers stand, and the place below it waits
  pub record Removal : Type 0 where
    pub hand : Hand g ws run.at c (remove removed_here)
    pub fits : removed_here ≤ run.registers
    pub parent : Parent g hand.below
    pub is_place : get_or ps (run.places - 1 - 1) 0 ≡ place_of g (frame parent.production (expect parent.symbol ∷ parent.rest))
    pub some_places : 2 ≤ run.places

  pub removal : head_operation (get_or ws run.at 0) ≡ remove_operation → Removal
  removal o =
      let s = h.shaped in
      let x = hand_remove h o in
      let f : frame s.production s.rest ∷ s.below ≡ frame x.production (remove removed_here ∷ x.rest) ∷ x.below = s.is_frames ∙ x.frames in
      let listed : eqb s.production whole ≡ false = removes_listed s.due (ap (λ fs. first_operation (top_frame fs).rest) f) in
      let y : Parent g x.below = subst (Parent g) (ap (drop 1) f) (parent g h.well_formed s.stands listed) in
      let l : LaidIn 0 lent.max_places ps run.places (place_of g (frame x.production (remove removed_here ∷ x.rest)) ∷ map (place_of g) (frame y.production (expect y.symbol ∷ y.rest) ∷ y.below)) = subst
      (λ fs. LaidIn 0 lent.max_places ps run.places (place_of g (frame x.production (remove removed_here ∷ x.rest)) ∷ map (place_of g) fs)) y.frames (top_laid h x) in
      let k = l.height in
      record {
        hand = x;
        fits = omega (arith, x.handled, h.registers.height);
        parent = y;
        is_place = ap (λ j. get_or ps j 0) (omega arith) ∙ laid_read l 2 (omega arith) (omega arith);
        some_places = omega arith;
      }

  module _ (r : Removal) where
    abbrev place : ℕ
    place = place_of g (frame r.parent.production (expect r.parent.symbol ∷ r.parent.rest))

    abbrev left : Config
    left = config (frame r.parent.production r.parent.rest ∷ r.parent.below) (drop removed_here c.registers) c.tokens (suc c.moves)

    -- the places without the top one
    popped : LaidIn 0 lent.max_places (set ps (run.places - 1) 0) (run.places - 1) (place ∷ map (place_of g) r.parent.below)
    popped =
        let top : ℕ = place_of g (frame r.hand.production (remove removed_here ∷ r.hand.rest)) in
        laid_pop top (place ∷ map (place_of g) r.parent.below) (subst (λ fs. LaidIn 0 lent.max_places ps run.places (top ∷ map (place_of g) fs)) r.parent.frames (top_laid h r.hand))

    pub popped_small : get_or (set ps (run.places - 1) 0) (run.places - 1 - 1) 0 < 65536
    popped_small = let k = r.some_places in omega (arith, laid_read popped 1 (omega arith) (omega arith), r.parent.small)

    pub resumes : Resumes ws place
    resumes = record { grammar = g; begins = h.begins; well_formed = h.well_formed; waiting = λ n. r.parent.waiting }

    -- where the place below goes on, by what was read of it
    pub resumed_at : (q a : ℕ) → q ≡ get_or ps (run.places - 1 - 1) 0 → ((g : Grammar) → Begins g ws → WellFormed g → Waiting g q → a ≡ place_address g q) → a ≡ place_address g place
    resumed_at q a e f =
        let is : q ≡ place = e ∙ r.is_place in
        f g h.begins h.well_formed (λ n. subst (λ j. T (place_waits g j)) (sym is) r.parent.waiting) ∙ ap (place_address g) is

    leaves : (look : Coming) → run.moves < moves_limit → next g lent look c ≡ moved left
    leaves look limit = next_is h look r.hand limit ∙ ap (λ fs. step c (parent_onward fs) (drop removed_here c.registers)) r.parent.frames

    left_over : run.moves < moves_limit → r.parent.rest ≡ [] → r.parent.production ≡ whole
    left_over limit z = shaped_over g left r.parent.production r.parent.below (shape_move g h.well_formed lent ends tt c left h.shaped (leaves ends limit)) (ap (λ is. frame r.parent.production is ∷ r.parent.below) z)

    parent_ahead : Ahead g ws (place_address g place) (frame r.parent.production (expect r.parent.symbol ∷ r.parent.rest))
    parent_ahead = subst (Ahead g ws (place_address g place)) r.parent.back (ahead_place h.begins h.well_formed place r.parent.waiting)

    parent_next : Ahead g ws (place_address g place + 1) (frame r.parent.production r.parent.rest)
    parent_next = ahead_next r.parent.production (expect r.parent.symbol) r.parent.rest parent_ahead

    pub resume_inside : run.moves < moves_limit → place_address g place + 1 < length ws
    resume_inside limit = (follows r.parent.production r.parent.rest (left_over limit) parent_next).2

    pub made_remove : (look : Coming) → IsAhead g look → run.moves < moves_limit → (m' : List ℤ) (ps' : List ℕ) (a : ℕ) → a ≡ place_address g place
        → m' ≡ lay run.registers mark (drop removed_here (stack run.registers m)) m → ps' ≡ passed ws (a + 1) (run.places - 1) (set ps (run.places - 1) 0)
        → Made g ws lent (next g lent look c) m ps m' ps' (Ok (record { tokens = run.tokens; moves = run.moves + 1; registers = run.registers - removed_here; places = run.places - 1; at = a + 1 }))
    made_remove look ok limit m' ps' a is_at is_registers is_places =
        let y = r.parent in
        let mv = h.moves in
        let ft = h.few_tokens in
        let rs : List ℤ = drop removed_here c.registers in
        let few : 1 + expects y.rest ≤ length (production_at g y.production).right = omega (arith, parent_ahead.few) in
        let next_ahead : Ahead g ws (a + 1) (frame y.production y.rest) = subst (λ j. Ahead g ws (j + 1) (frame y.production y.rest)) (sym is_at) parent_next in
        let e = leaves look limit in (
          left,
          e,
          record {
            well_formed = h.well_formed;
            begins = h.begins;
            shaped = shape_move g h.well_formed lent look ok c left h.shaped e;
            registers = subst (λ cells. LaidIn mark lent.max_registers cells (run.registers - removed_here) rs) (sym is_registers) (laid_remove h.registers removed_here r.fits);
            places = subst (λ qs. LaidIn 0 lent.max_places qs (run.places - 1) (place_of g (frame y.production y.rest) ∷ map (place_of g) y.below)) (sym is_places) (passed_laid y.production y.symbol y.rest (left_over limit) next_ahead few popped);
            ahead = next_ahead;
            tokens = h.tokens;
            moves = omega arith;
            few_moves = omega arith;
            few_tokens = omega arith;
          },
        )
