-- Memory that holds a node in progress, and what moves lead to: a later configuration, or a refusal.
use Rattle.std.specs.Prelude.{ℕ, zero, suc, ◌≤◌, ◌<◌, ◌≡◌, refl, Bool, true, false, ◌&&◌, ◌||◌, List, [], ◌∷◌, length, get_or, drop, T, eqb, ℤ, pos, Ok, Err}
use Rattle.std.proofs.Common.{arith, sym, ap, ◌∙◌, subst, drop_of_length-le, ne_eqb, eqb-true}
use Rattle.std.proofs.Math.Bool.{and-false}
use Rattle.meaning.specs.Sets.{end_number}
use Rattle.meaning.specs.Base.{all, is_empty}
use Rattle.meaning.specs.Grammar.{Grammar, Token, Leaf, Symbol, terminal, nonterminal, leaf_of, leaves, whole}
use Rattle.meaning.specs.Rules.{four_bytes}
use Rattle.meaning.specs.Scheme.{Instruction, add, evaluate, expect, test, remove}
use Rattle.meaning.specs.Machine.{Config, Lent, Coming, comes, ends, moved, next, look_at, waits, is_finished, tokens_limit, moves_limit}
use Rattle.meaning.specs.Calls.{tokens_from}
use Rattle.meaning.specs.Tree.{is_leaf_of}
use Rattle.meaning.specs.Part.{Open, Ancestor, frame}
use Rattle.theory_base.specs.Members.{both}
use Rattle.theory_base.specs.Feeds.{leaves_of, leaves_length}
use Rattle.theory_answers.specs.Bounds.{counts}
use Rattle.theory_answers.specs.ShapeMoves.{IsAhead}
use Rattle.meaning.specs.Program.{add_operation, evaluate_operation, read_operation, predict_operation, test_operation, remove_operation, nothing_operation}
use Rattle.theory_program.specs.Parts.{head_operation}
use Rattle.theory_program.specs.Code.{operation}
use Rattle.theory_program.specs.Records.{segment_words_lem}
use Rattle.theory_sheet.specs.Whole.{Failing, fails_behind}
use Rattle.theory_sheet.specs.NodeInProgress.{Stand}
use Rattle.theory_sheet.specs.Walking.{inside, coming_to, rest, Fair, inside_on, inside_stuck, look_on, look_refused, look_35, look_20}
use Rattle.run_moves.specs.declared.Run.{Run}
use Rattle.refusals.specs.declared.Refusal.TheVariants.{UnknownToken, LimitReached}
use Rattle.refusals.specs.Numbers.{refusal_number}
use Rattle.run_machine.specs.declared.Failed.{Failed}
use Rattle.run_moves.specs.Held.{Held, Hand, AtHand, some, nothing, at_hand}
use Rattle.run_moves.specs.Passing.{coming_of}
use Rattle.run_machine.specs.Advancing.{Ended, Running}
use Rattle.run_looking.specs.Judging.{value_at}
use Rattle.run_machine.specs.Feeding.{comes_to, comes_is, comes_ahead}
use Rattle.run_next_token.specs.Coming.{tokens_turn, tokens_few}
use Rattle.sheet.specs.tree.moves.Trying.{Tried, Tries}

-- ---- the operations

-- add, evaluate, test
abbrev pub is_inside : ℕ → Bool
is_inside k = eqb k add_operation || (eqb k evaluate_operation || eqb k test_operation)

-- read, predict
abbrev pub IsLook : ℕ → Type 0
IsLook k = (read_operation ≤ k) × (k ≤ predict_operation)

inside_is : (i : Instruction) → is_inside (operation i) ≡ inside i
inside_is (add n) = refl
inside_is (evaluate rs) = refl
inside_is (test cs) = refl
inside_is (remove n) = refl
inside_is (expect (terminal t)) = refl
inside_is (expect (nonterminal n)) = refl

pub inside_few : (k : ℕ) → is_inside k ≡ true → k ≤ remove_operation
inside_few k e = go (eqb k add_operation) refl (eqb k evaluate_operation) refl (eqb k test_operation) refl e
  where
    go : (a : Bool) → eqb k add_operation ≡ a → (b : Bool) → eqb k evaluate_operation ≡ b → (d : Bool) → eqb k test_operation ≡ d → a || (b || d) ≡ true → k ≤ remove_operation
    go true x b y d z h = omega (arith, eqb-true k add_operation x)
    go false x true y d z h = omega (arith, eqb-true k evaluate_operation y)
    go false x false y true z h = omega (arith, eqb-true k test_operation z)
    go false x false y false z h = absurd (subst T (sym h) tt)

look_is : (i : Instruction) → IsLook (operation i) → (x : Symbol) × (i ≡ expect x)
look_is (add n) l = absurd (omega (arith, l.0))
look_is (evaluate rs) l = absurd (omega (arith, l.0))
look_is (test cs) l = absurd (omega (arith, l.1))
look_is (remove n) l = absurd (omega (arith, l.1))
look_is (expect x) l = (x, refl)

-- ---- a segment's tokens, lent as kinds and values

abbrev pub tokens_as : Grammar → List ℕ → List ℤ → List Leaf
tokens_as g ks vs = leaves g (tokens_from ks vs)

-- ---- what the code relies on

-- some configuration is held that shows a node in progress
pub record Stood (ws : List ℕ) (m : List ℤ) (ps : List ℕ) (run : Run) : Type 0 where
  pub grammar : Grammar
  pub lent : Lent
  pub tokens : List Leaf
  pub known : T (all (is_leaf_of grammar) tokens)
  pub config : Config
  pub node : Open
  pub below : List Ancestor
  pub held : Held grammar ws lent m ps run config
  pub stand : Stand grammar tokens node below config

-- of the segment that is lent
pub record Walking (ws ks : List ℕ) (vs m : List ℤ) (ps : List ℕ) (run : Run) : Type 0 where
  pub even : length ks ≡ length vs
  pub four : T (all four_bytes vs)
  pub grammar : Grammar
  pub lent : Lent
  pub config : Config
  pub node : Open
  pub below : List Ancestor
  pub held : Held grammar ws lent m ps run config
  pub stand : Stand grammar (tokens_as grammar ks vs) node below config

pub running_of : {ws ks : List ℕ} {vs m : List ℤ} {ps : List ℕ} {run : Run} → Walking ws ks vs m ps run → Running ws m ps run
running_of w = record { grammar = w.grammar; lent = w.lent; config = w.config; held = w.held }

-- ---- what moves lead to from c

-- a later configuration, of the same run of the whole segment, that shows node o on bs
pub record Reached (g : Grammar) (ws : List ℕ) (lent : Lent) (tokens : List Leaf) (c : Config) (o : Open) (bs : List Ancestor) (m : List ℤ) (ps : List ℕ) (run : Run) : Type 0 where
  pub to : Config
  pub held : Held g ws lent m ps run to
  pub stand : Stand g tokens o bs to
  pub same : rest g lent tokens c ≡ rest g lent tokens to
  pub later : c.moves ≤ to.moves

-- one at which the run is refused
pub record Refused (g : Grammar) (ws : List ℕ) (lent : Lent) (tokens : List Leaf) (c : Config) (m : List ℤ) (ps : List ℕ) (run : Run) (k : ℕ) : Type 0 where
  pub to : Config
  pub held : Held g ws lent m ps run to
  pub fails : Failing g lent (coming_to c tokens) c to k

pub refused_from : {g : Grammar} {ws : List ℕ} {lent : Lent} {tokens : List Leaf} {c d : Config} {m : List ℤ} {ps : List ℕ} {run : Run} {k : ℕ} → rest g lent tokens c ≡ rest g lent tokens d → Refused g ws lent tokens d m ps run k → Refused g ws lent tokens c m ps run k
refused_from e r = record { to = r.to; held = r.held; fails = fails_behind e r.fails }

-- ---- moves inside a node

pub record Going (ws : List ℕ) (m₀ : List ℤ) (ps₀ : List ℕ) (run₀ : Run) (m : List ℤ) (ps : List ℕ) (run : Run) : Type 0 where
  pub from : (g : Grammar) (lent : Lent) (tokens : List Leaf) (c : Config) (o : Open) (bs : List Ancestor) → T (all (is_leaf_of g) tokens) → Held g ws lent m₀ ps₀ run₀ c → Stand g tokens o bs c → Reached g ws lent tokens c o bs m ps run

abbrev pub SettledAs : Grammar → List ℕ → Lent → List Leaf → Config → Open → List Ancestor → List ℤ → List ℕ → Ended → Type 0
SettledAs g ws lent tokens c o bs m ps (Ok run) = Reached g ws lent tokens c o bs m ps run × (is_inside (head_operation (get_or ws run.at 0)) ≡ false)
SettledAs g ws lent tokens c o bs m ps (Err f) = Refused g ws lent tokens c m ps f.run (refusal_number f.refusal)

abbrev pub Settles : List ℕ → List ℤ → List ℕ → Run → List ℤ → List ℕ → Ended → Type 0
Settles ws m₀ ps₀ run₀ m ps e = (g : Grammar) (lent : Lent) (tokens : List Leaf) (c : Config) (o : Open) (bs : List Ancestor) → T (all (is_leaf_of g) tokens) → Held g ws lent m₀ ps₀ run₀ c → Stand g tokens o bs c → SettledAs g ws lent tokens c o bs m ps e

pub going_start : (ws : List ℕ) (m : List ℤ) (ps : List ℕ) (run : Run) → Going ws m ps run m ps run
going_start ws m ps run = record { from = λ g lent tokens c o bs k h s. record { to = c; held = h; stand = s; same = refl; later = omega arith } }

module _ {ws : List ℕ} {m₀ : List ℤ} {ps₀ : List ℕ} {run₀ : Run} {m : List ℤ} {ps : List ℕ} {run : Run} (k : Going ws m₀ ps₀ run₀ m ps run) where
  pub going_stood : Stood ws m₀ ps₀ run₀ → Stood ws m ps run
  going_stood r =
      let q = k.from r.grammar r.lent r.tokens r.config r.node r.below r.known r.held r.stand in
      record { grammar = r.grammar; lent = r.lent; tokens = r.tokens; known = r.known; config = q.to; node = r.node; below = r.below; held = q.held; stand = q.stand }

  pub going_stop : is_inside (head_operation (get_or ws run.at 0)) ≡ false → Settles ws m₀ ps₀ run₀ m ps (Ok run)
  going_stop e g lent tokens c o bs known h s = (k.from g lent tokens c o bs known h s, e)

  module _ (e : is_inside (head_operation (get_or ws run.at 0)) ≡ true) where
    -- the instruction at hand
    at_inside : {g : Grammar} {lent : Lent} {d : Config} (h : Held g ws lent m ps run d) → (i : Instruction) × Hand g ws run.at d i × (inside i ≡ true)
    at_inside {g} {lent} {d} h = go (at_hand h)
      where
        go : AtHand h → (i : Instruction) × Hand g ws run.at d i × (inside i ≡ true)
        go (some i x o n) = (i, x, sym (inside_is i) ∙ (ap is_inside (sym o) ∙ e))
        go (nothing below f w l) = absurd (subst T (sym e ∙ ap is_inside six) tt)
          where
            six : head_operation (get_or ws run.at 0) ≡ nothing_operation
            six = omega arith

    pub going_on : (m' : List ℤ) (ps' : List ℕ) (run' : Run) → Tries ws m ps run ends m' ps' (Ok run') → Going ws m₀ ps₀ run₀ m' ps' run'
    going_on m' ps' run' a = record { from = λ g lent tokens c o bs known h s. more g lent tokens c o bs known (k.from g lent tokens c o bs known h s) }
      where
        more : (g : Grammar) (lent : Lent) (tokens : List Leaf) (c : Config) (o : Open) (bs : List Ancestor) → T (all (is_leaf_of g) tokens) → Reached g ws lent tokens c o bs m ps run → Reached g ws lent tokens c o bs m' ps' run'
        more g lent tokens c o bs known q =
            let t = a g lent q.to q.held tt in
            let x = at_inside q.held in
            let n = inside_on g q.held.well_formed lent tokens known q.to q.stand x.0 x.1.frames x.2 ends t.0 t.1 in
            record { to = t.0; held = t.2; stand = n.0; same = q.same ∙ n.1; later = omega (arith, q.later, (counts g lent ends q.to t.0 t.1).moves) }

    pub going_fail : (m' : List ℤ) (ps' : List ℕ) (f : Failed) → Tries ws m ps run ends m' ps' (Err f) → Settles ws m₀ ps₀ run₀ m' ps' (Err f)
    going_fail m' ps' f a g lent tokens c o bs known h s =
        let q = k.from g lent tokens c o bs known h s in
        let t = a g lent q.to q.held tt in
        let x = at_inside q.held in
        record { to = q.to; held = t.1; fails = fails_behind q.same (inside_stuck g q.held.well_formed lent tokens known q.to q.stand x.0 x.1.frames x.2 ends (refusal_number f.refusal) t.0) }

    -- each move counts
    pub going_less : (m' : List ℤ) (ps' : List ℕ) (run' : Run) → Tries ws m ps run ends m' ps' (Ok run') → Stood ws m ps run → (run'.moves ≡ suc run.moves) × (run'.moves ≤ moves_limit)
    going_less m' ps' run' a r =
        let t = a r.grammar r.lent r.config r.held tt in
        (t.2.moves ∙ ((counts r.grammar r.lent ends r.config t.0 t.1).moves ∙ ap suc (sym r.held.moves)), omega (arith, t.2.moves, t.2.few_moves))

-- ---- a move that looks at what comes next

pub record Onward (g : Grammar) (ws : List ℕ) (lent : Lent) (tokens : List Leaf) (c : Config) (m : List ℤ) (ps : List ℕ) (run : Run) : Type 0 where
  pub to : Config
  pub held : Held g ws lent m ps run to
  pub made : next g lent (look_at (coming_to c tokens)) c ≡ moved to
  pub same : rest g lent tokens c ≡ rest g lent tokens to

abbrev pub SteppedAs : Grammar → List ℕ → Lent → List Leaf → Config → List ℤ → List ℕ → Ended → Type 0
SteppedAs g ws lent tokens c m ps (Ok run) = Onward g ws lent tokens c m ps run
SteppedAs g ws lent tokens c m ps (Err f) = Refused g ws lent tokens c m ps f.run (refusal_number f.refusal)

abbrev pub Steps : List ℕ → List ℕ → List ℤ → List ℤ → List ℕ → Run → List ℤ → List ℕ → Ended → Type 0
Steps ws ks vs m₀ ps₀ run₀ m ps e = (g : Grammar) (lent : Lent) (c : Config) (o : Open) (bs : List Ancestor) → length ks ≡ length vs → T (all four_bytes vs) → Held g ws lent m₀ ps₀ run₀ c → Stand g (tokens_as g ks vs) o bs c → SteppedAs g ws lent (tokens_as g ks vs) c m ps e

leaves_drop : (g : Grammar) (i : ℕ) (ts : List Token) → drop i (leaves g ts) ≡ leaves g (drop i ts)
leaves_drop g zero ts = refl
leaves_drop g (suc i) [] = refl
leaves_drop g (suc i) (t ∷ ts) = leaves_drop g i ts

pub four_at_lem : (vs : List ℤ) (i : ℕ) → T (all four_bytes vs) → T (four_bytes (get_or vs i (pos 0)))
four_at_lem [] i t = tt
four_at_lem (v ∷ vs) zero t = (both (four_bytes v) (all four_bytes vs) t).0
four_at_lem (v ∷ vs) (suc i) t = four_at_lem vs i (both (four_bytes v) (all four_bytes vs) t).1

module _ (ks : List ℕ) (vs : List ℤ) (g : Grammar) where
  -- no token is left
  pub none_left : (n : ℕ) → length ks ≤ n → drop n (tokens_as g ks vs) ≡ []
  none_left n l = drop_of_length-le (tokens_as g ks vs) {i = n} (omega (arith, leaves_length g (tokens_from ks vs), tokens_few ks vs, l))

  abbrev pub leaf_here : ℕ → Leaf
  leaf_here n = leaf_of g (record { kind = get_or ks n 0; value = get_or vs n (pos 0) })

  -- the next one
  pub one_left : (n : ℕ) → length ks ≡ length vs → n < length ks → drop n (tokens_as g ks vs) ≡ leaf_here n ∷ leaves g (drop (suc n) (tokens_from ks vs))
  one_left n e l = leaves_drop g n (tokens_from ks vs) ∙ ap (leaves g) (tokens_turn ks vs n e l)

module _ {ws : List ℕ} {m₀ : List ℤ} {ps₀ : List ℕ} {run₀ : Run} (look : IsLook (head_operation (get_or ws run₀.at 0))) where
  module _ {g : Grammar} {lent : Lent} {c : Config} (h : Held g ws lent m₀ ps₀ run₀ c) where
    pub at_look : (i : Instruction) × Hand g ws run₀.at c i × (x : Symbol) × (i ≡ expect x)
    at_look = go (at_hand h)
      where
        go : AtHand h → (i : Instruction) × Hand g ws run₀.at c i × (x : Symbol) × (i ≡ expect x)
        go (some i x o n) = let y = look_is i (subst IsLook o look) in (i, x, y.0, y.1)
        go (nothing below f w l) = absurd (omega (arith, look.1, w))

    look_waits : waits c.frames ≡ true
    look_waits = let a = at_look in ap waits a.1.frames ∙ ap (λ j. waits (frame a.1.production (j ∷ a.1.rest) ∷ a.1.below)) a.3

    unfinished : is_finished c ≡ false
    unfinished = let a = at_look in ap (λ fs. elim fs as (λ z. Bool) [ [] ↦ false | f ∷ gs ↦ eqb f.production whole && is_empty f.rest ]) a.1.frames ∙ and-false (eqb a.1.production whole)

    -- by what is let through, and the move that was tried
    stepped : {o : Open} {bs : List Ancestor} (tokens : List Leaf) (l : Coming) (m : List ℤ) (ps : List ℕ) (e : Ended) → T (all (is_leaf_of g) tokens)
        → Stand g tokens o bs c → Fair g c (coming_to c tokens) → look_at (coming_to c tokens) ≡ l → Tried g ws lent l c m ps e → SteppedAs g ws lent tokens c m ps e
    stepped tokens l m ps (Ok run) known s fair z t =
        let a = at_look in
        let n : next g lent (look_at (coming_to c tokens)) c ≡ moved t.0 = ap (λ k. next g lent k c) z ∙ t.1 in
        record { to = t.0; held = t.2; made = n; same = look_on g h.well_formed lent tokens known c s a.0 a.1.frames a.2 a.3 fair t.0 n }
    stepped tokens l m ps (Err f) known s fair z t =
        let a = at_look in
        record { to = c; held = t.1; fails = look_refused g h.well_formed lent tokens known c s a.0 a.1.frames a.2 a.3 fair (refusal_number f.refusal) (ap (λ j. next g lent j c) z ∙ t.0) }

  module _ (ks : List ℕ) (vs : List ℤ) where
    pub step_end : (m : List ℤ) (ps : List ℕ) (e : Ended) → length ks ≤ run₀.tokens → Tries ws m₀ ps₀ run₀ ends m ps e → Steps ws ks vs m₀ ps₀ run₀ m ps e
    step_end m ps e l a g lent c o bs even four h s =
        let none : coming_to c (tokens_as g ks vs) ≡ [] = none_left ks vs g c.tokens (omega (arith, l, h.tokens)) in
        stepped h (tokens_as g ks vs) ends m ps e (leaves_of g ks vs four) s (subst (Fair g c) (sym none) (unfinished h)) (ap look_at none) (a g lent c h tt)

    module _ (few : run₀.tokens < length ks) where
      there : {g : Grammar} {lent : Lent} {c : Config} → Held g ws lent m₀ ps₀ run₀ c → length ks ≡ length vs → coming_to c (tokens_as g ks vs) ≡ leaf_here ks vs g run₀.tokens ∷ leaves g (drop (suc run₀.tokens) (tokens_from ks vs))
      there {g} h even = ap (λ k. drop k (tokens_as g ks vs)) (sym h.tokens) ∙ one_left ks vs g run₀.tokens even few

      pub step_35 : tokens_limit ≤ run₀.tokens → Steps ws ks vs m₀ ps₀ run₀ m₀ ps₀ (Err (record { run = run₀; refusal = LimitReached }))
      step_35 l g lent c o bs even four h s = record { to = c; held = h; fails = look_35 g lent (coming_to c (tokens_as g ks vs)) c (look_waits h) (leaf_here ks vs g run₀.tokens) _ (there h even) (omega (arith, l, h.tokens)) }

      pub step_20 : run₀.tokens < tokens_limit → get_or ws 3 0 ≤ get_or ks run₀.tokens 0 → Steps ws ks vs m₀ ps₀ run₀ m₀ ps₀ (Err (record { run = run₀; refusal = UnknownToken }))
      step_20 l k g lent c o bs even four h s = record { to = c; held = h; fails = look_20 g lent (coming_to c (tokens_as g ks vs)) c (look_waits h) (leaf_here ks vs g run₀.tokens) _ (there h even) (omega (arith, l, h.tokens)) (omega (arith, k, (segment_words_lem h.begins).terminals)) }

      pub step_token : (m : List ℤ) (ps : List ℕ) (e : Ended) → run₀.tokens < tokens_limit → get_or ks run₀.tokens 0 < get_or ws 3 0
          → Tries ws m₀ ps₀ run₀ (coming_of (get_or ks run₀.tokens 0) (value_at ws (get_or ks run₀.tokens 0) (get_or vs run₀.tokens (pos 0)))) m ps e → Steps ws ks vs m₀ ps₀ run₀ m ps e
      step_token m ps e l k a g lent c o bs even four h s =
          let u = get_or ks run₀.tokens 0 in
          let v = get_or vs run₀.tokens (pos 0) in
          let known : u < g.terminals = omega (arith, k, (segment_words_lem h.begins).terminals) in
          let small : u < 64 = omega (arith, known, h.well_formed.terminals.1) in
          let z : coming_of u (value_at ws u v) ≡ comes_to g u v = comes_is h.begins u v small (four_at_lem vs run₀.tokens four) in
          let w : comes_to g u v ≡ comes (leaf_here ks vs g run₀.tokens) = rw (ne_eqb u end_number (λ q. omega (arith, q, known, h.well_formed.terminals.1))) refl in
          let t = there h even in
          stepped h (tokens_as g ks vs) (coming_of u (value_at ws u v)) m ps e (leaves_of g ks vs four) s (subst (Fair g c) (sym t) (omega (arith, l, h.tokens), known)) (ap look_at t ∙ sym (z ∙ w))
          (a g lent c h (subst (IsAhead g) (sym z) (comes_ahead h.begins u v small (four_at_lem vs run₀.tokens four))))
