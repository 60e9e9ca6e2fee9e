-- Nodes and lists of children: what each comes to, and how one follows from the other.
use Rattle.std.specs.Prelude.{ℕ, suc, ◌+◌, ◌-◌, ◌*◌, ◌≤◌, ◌<◌, ◌≡◌, refl, Bool, true, false, ◌||◌, List, [], ◌∷◌, ◌++◌, length, get_or, drop, T, eqb, ℤ, Ok, Err}
use Rattle.std.proofs.Common.{arith, sym, ap, ap₂, ◌∙◌, subst, eqb-true, append-nil, length-append, length-take, length-drop}
use Rattle.std.proofs.lemmas.Bool.{eqb-false}
use Rattle.std.proofs.lemmas.List.{length-map}
use Rattle.meaning.specs.Limits.{registers_limit, symbols_limit}
use Rattle.meaning.specs.Base.{all}
use Rattle.meaning.specs.Grammar.{Grammar, Leaf, Symbol, nonterminal, inh, att, production_at}
use Rattle.meaning.specs.Rules.{four_bytes}
use Rattle.meaning.specs.Scheme.{Instruction}
use Rattle.meaning.specs.Machine.{Frame, Config, Lent, look_at, place_of}
use Rattle.meaning.specs.Tree.{Tree, Forest, leaf, node, no_trees, tree_and, yield, yields, width}
use Rattle.meaning.specs.Part.{Open, Ancestor, yield_below, yields_of, frame}
use Rattle.meaning.specs.Walk.{top_production}
use Rattle.meaning_sheet.specs.Sheet.{record_bytes, sheet, sheets}
use Rattle.theory_base.specs.WellFormed.{well_formed_at}
use Rattle.theory_base.specs.Feeds.{leaves_of}
use Rattle.theory_answers.specs.Bounds.{counts}
use Rattle.meaning.specs.Program.{read_operation, predict_operation, remove_operation, evaluate_operation, add_operation, test_operation}
use Rattle.theory_program.specs.Parts.{head_operation, head_operand}
use Rattle.theory_program.specs.Proper.{att_most}
use Rattle.theory_program.specs.Code.{low_operation}
use Rattle.theory_sound.specs.MovesKeepPart.{node_of, with_child, waiting_at}
use Rattle.theory_sheet.specs.Overlay.{overlay, overlay_none, overlay_append, overlay_behind, record_length}
use Rattle.theory_sheet.specs.NodeInProgress.{Stand, with_children, onto_forest, stand_tokens, stand_frames}
use Rattle.theory_sheet.specs.Walking.{rest, coming_to, own_values, read_on, predict_on, symbol_left, own_stand}
use Rattle.run_moves.specs.declared.Run.{Run}
use Rattle.run_moves.specs.Held.{Held, AtHand, some, nothing, at_hand, hand_terminal, hand_nonterminal, hand_remove, bounds}
use Rattle.refusals.specs.Numbers.{refusal_number}
use Rattle.run_machine.specs.declared.Failed as M
use Rattle.run_machine.specs.Advancing.{Ended}
use Rattle.sheet.specs.declared.tree.nodes.Counts.{Counts}
use Rattle.sheet.specs.tree.steps.Numbers.{Walked, Left, Failed, walked_as}
use Rattle.sheet.specs.tree.moves.NodeInMemory.{tokens_as, is_inside, IsLook, Stood, Walking, Refused, refused_from, SettledAs, Settles, Steps, at_look}
use Rattle.sheet.specs.tree.nodes.Counting.{left_of, Counted}
use Rattle.sheet.specs.tree.steps.Leaving.{LeftAs, Leaves}
use Rattle.sheet.specs.tree.nodes.Recording.{Inner}

-- a child is passed: a node is left, or a token is read. `end` is where its records end
pub record Noded (g : Grammar) (ws : List ℕ) (lent : Lent) (tokens : List Leaf) (c : Config) (o : Open) (bs : List Ancestor) (k : ℕ) (sheet₀ : List ℕ) (m : List ℤ) (ps sheet₁ : List ℕ) (run : Run) (end : ℕ) : Type 0 where
  pub to : Config
  pub tree : Tree
  pub held : Held g ws lent m ps run to
  pub stand : Stand g tokens (with_child o tree) bs to
  pub same : rest g lent tokens c ≡ rest g lent tokens to
  pub is_end : end ≡ k + length (sheet c.tokens tree)
  pub written : sheet₁ ≡ overlay k (sheet c.tokens tree) sheet₀
  pub room : end + 76 * c.moves ≤ k + 76 * to.moves

-- the children that were left are passed; what is at hand is no child
pub record Listed (g : Grammar) (ws : List ℕ) (lent : Lent) (tokens : List Leaf) (c : Config) (o : Open) (bs : List Ancestor) (k : ℕ) (sheet₀ : List ℕ) (m : List ℤ) (ps sheet₁ : List ℕ) (run : Run) (end : ℕ) : Type 0 where
  pub to : Config
  pub trees : Forest
  pub held : Held g ws lent m ps run to
  pub stand : Stand g tokens (with_children o trees) bs to
  pub same : rest g lent tokens c ≡ rest g lent tokens to
  pub is_end : end ≡ k + length (sheets c.tokens trees)
  pub written : sheet₁ ≡ overlay k (sheets c.tokens trees) sheet₀
  pub room : end + 76 * c.moves ≤ k + 76 * to.moves
  pub over : remove_operation ≤ head_operation (get_or ws run.at 0)

abbrev pub NodedAs : Grammar → List ℕ → Lent → List Leaf → Config → Open → List Ancestor → ℕ → List ℕ → List ℤ → List ℕ → List ℕ → Walked → Type 0
NodedAs g ws lent tokens c o bs k sheet₀ m ps sheet₁ (Left run end) = Noded g ws lent tokens c o bs k sheet₀ m ps sheet₁ run end
NodedAs g ws lent tokens c o bs k sheet₀ m ps sheet₁ (Failed run j) = Refused g ws lent tokens c m ps run j

abbrev pub ListedAs : Grammar → List ℕ → Lent → List Leaf → Config → Open → List Ancestor → ℕ → List ℕ → List ℤ → List ℕ → List ℕ → Walked → Type 0
ListedAs g ws lent tokens c o bs k sheet₀ m ps sheet₁ (Left run end) = Listed g ws lent tokens c o bs k sheet₀ m ps sheet₁ run end
ListedAs g ws lent tokens c o bs k sheet₀ m ps sheet₁ (Failed run j) = Refused g ws lent tokens c m ps run j

-- whatever configuration is held at entry that shows a node in progress
abbrev pub NodeDone : List ℕ → List ℕ → List ℤ → List ℤ → List ℕ → Run → ℕ → List ℕ → List ℤ → List ℕ → List ℕ → Walked → Type 0
NodeDone ws ks vs m₀ ps₀ run₀ k sheet₀ m ps sheet₁ w =
    (g : Grammar) (lent : Lent) (c : Config) (o : Open) (bs : List Ancestor) → length ks ≡ length vs → T (all four_bytes vs) → Held g ws lent m₀ ps₀ run₀ c → Stand g (tokens_as g ks vs) o bs c → NodedAs g ws lent (tokens_as g ks vs) c o bs k sheet₀ m ps sheet₁ w

abbrev pub ListDone : List ℕ → List ℕ → List ℤ → List ℤ → List ℕ → Run → ℕ → List ℕ → List ℤ → List ℕ → List ℕ → Walked → Type 0
ListDone ws ks vs m₀ ps₀ run₀ k sheet₀ m ps sheet₁ w =
    (g : Grammar) (lent : Lent) (c : Config) (o : Open) (bs : List Ancestor) → length ks ≡ length vs → T (all four_bytes vs) → Held g ws lent m₀ ps₀ run₀ c → Stand g (tokens_as g ks vs) o bs c → ListedAs g ws lent (tokens_as g ks vs) c o bs k sheet₀ m ps sheet₁ w

-- ---- what the code relies on

-- a node in progress, with room for a record; so many symbols of its right side are left at most
pub record ListAt (ws ks : List ℕ) (vs m : List ℤ) (ps : List ℕ) (run : Run) (k symbols_left : ℕ) : Type 0 where
  pub walking : Walking ws ks vs m ps run
  pub symbols : length (production_at walking.grammar walking.node.production).right ≤ length walking.node.children + symbols_left
  pub room : k ≤ 76 * run.moves
  pub few : length m ≤ registers_limit

-- which waits at a nonterminal
pub record NodeAt (ws ks : List ℕ) (vs m : List ℤ) (ps : List ℕ) (run : Run) (k : ℕ) : Type 0 where
  pub walking : Walking ws ks vs m ps run
  pub three : head_operation (get_or ws run.at 0) ≡ predict_operation
  pub room : k ≤ 76 * run.moves
  pub few : length m ≤ registers_limit

-- ---- a list: a child, then the rest

same_count : {g : Grammar} {tokens : List Leaf} {o : Open} {bs : List Ancestor} {c d : Config} → Stand g tokens o bs c → Stand g tokens o bs d → d.tokens ≡ c.tokens
same_count s t = sym t.count ∙ s.count

-- no child is left
pub none_listed : {ws : List ℕ} (ks : List ℕ) (vs m : List ℤ) (ps : List ℕ) (run : Run) (k : ℕ) (sheet₀ : List ℕ) → remove_operation ≤ head_operation (get_or ws run.at 0) → ListDone ws ks vs m ps run k sheet₀ m ps sheet₀ (Left run k)
none_listed ks vs m ps run k sheet₀ l g lent c o bs even four h s = record { to = c; trees = no_trees; held = h; stand = s; same = refl; is_end = omega arith; written = sym (overlay_none k sheet₀); room = omega arith; over = l }

module _ {ws : List ℕ} (ks : List ℕ) (vs : List ℤ) {m₀ : List ℤ} {ps₀ : List ℕ} {run₀ : Run} (k : ℕ) (sheet₀ : List ℕ) where
  module _ (m₂ : List ℤ) (ps₂ sheet₂ : List ℕ) (run₂ : Run) (e₂ : ℕ) (n : NodeDone ws ks vs m₀ ps₀ run₀ k sheet₀ m₂ ps₂ sheet₂ (Left run₂ e₂)) where
    pub list_more : (m : List ℤ) (ps sheet₁ : List ℕ) (w : Walked) → ListDone ws ks vs m₂ ps₂ run₂ e₂ sheet₂ m ps sheet₁ w → ListDone ws ks vs m₀ ps₀ run₀ k sheet₀ m ps sheet₁ w
    list_more m ps sheet₁ w l g lent c o bs even four h s =
        let x = n g lent c o bs even four h s in
        go w x (l g lent x.to (with_child o x.tree) bs even four x.held x.stand)
      where
        go : (w : Walked) (x : Noded g ws lent (tokens_as g ks vs) c o bs k sheet₀ m₂ ps₂ sheet₂ run₂ e₂)
            → ListedAs g ws lent (tokens_as g ks vs) x.to (with_child o x.tree) bs e₂ sheet₂ m ps sheet₁ w → ListedAs g ws lent (tokens_as g ks vs) c o bs k sheet₀ m ps sheet₁ w
        go (Failed run j) x y = refused_from x.same y
        go (Left run e) x y =
            let t = x.tree in
            let f = y.trees in
            let d : x.to.tokens ≡ c.tokens + width t = stand_tokens (tree_and t no_trees) s x.stand ∙ omega (arith, length-append (yield t) []) in
            let more : sheets x.to.tokens f ≡ sheets (c.tokens + width t) f = ap (λ q. sheets q f) d in
            record {
              to = y.to;
              trees = tree_and t f;
              held = y.held;
              stand = y.stand;
              same = x.same ∙ y.same;
              is_end = omega (arith, y.is_end, x.is_end, ap length more, length-append (sheet c.tokens t) (sheets (c.tokens + width t) f));
              written =
                  y.written
                  ∙ (ap₂ (λ q z. overlay e₂ q z) more x.written
                  ∙ (ap (λ q. overlay q (sheets (c.tokens + width t) f) (overlay k (sheet c.tokens t) sheet₀)) x.is_end
                  ∙ sym (overlay_append (sheet c.tokens t) (sheets (c.tokens + width t) f) k sheet₀)));
              room = omega (arith, x.room, y.room);
              over = y.over;
            }

-- ---- what the calls of a list rely on

same_places_lem : {g : Grammar} {ws : List ℕ} {lent : Lent} {tokens : List Leaf} {m m' : List ℤ} {ps ps' : List ℕ} {run run' : Run} {c d : Config} {o o' : Open} {bs : List Ancestor}
    → Held g ws lent m ps run c → Stand g tokens o bs c → Held g ws lent m' ps' run' d → Stand g tokens o' bs d → run'.places ≡ run.places
same_places_lem {g} {c = c} {d = d} h s h' s' = omega (arith, h.places.height, h'.places.height, length-map c.frames (place_of g), length-map d.frames (place_of g), stand_frames s, stand_frames s')

module _ {ws ks : List ℕ} {vs m₀ : List ℤ} {ps₀ : List ℕ} {run₀ : Run} {k symbols : ℕ} (q : ListAt ws ks vs m₀ ps₀ run₀ k symbols) where
  abbrev w₀ : Walking ws ks vs m₀ ps₀ run₀
  w₀ = q.walking

  abbrev g : Grammar
  g = w₀.grammar

  pub list_node_at : head_operation (get_or ws run₀.at 0) ≡ predict_operation → NodeAt ws ks vs m₀ ps₀ run₀ k
  list_node_at three = record { walking = w₀; three = three; room = q.room; few = q.few }

  pub list_symbols : IsLook (head_operation (get_or ws run₀.at 0)) → 1 ≤ symbols
  list_symbols look =
      let x = at_look look w₀.held in
      omega (arith, q.symbols, symbol_left g w₀.held.well_formed w₀.lent (tokens_as g ks vs) (leaves_of g ks vs w₀.four) w₀.config w₀.stand x.0 x.1.frames x.2 x.3)

  module _ (sheet₀ : List ℕ) (m₂ : List ℤ) (ps₂ sheet₂ : List ℕ) (run₂ : Run) (e₂ : ℕ) (n : NodeDone ws ks vs m₀ ps₀ run₀ k sheet₀ m₂ ps₂ sheet₂ (Left run₂ e₂)) where
    noded : Noded g ws w₀.lent (tokens_as g ks vs) w₀.config w₀.node w₀.below k sheet₀ m₂ ps₂ sheet₂ run₂ e₂
    noded = n g w₀.lent w₀.config w₀.node w₀.below w₀.even w₀.four w₀.held w₀.stand

    pub list_more_at : IsLook (head_operation (get_or ws run₀.at 0)) → length m₂ ≡ length m₀ → ListAt ws ks vs m₂ ps₂ run₂ e₂ (symbols - 1)
    list_more_at look e =
        let x = noded in
        record {
          walking = record { even = w₀.even; four = w₀.four; grammar = g; lent = w₀.lent; config = x.to; node = with_child w₀.node x.tree; below = w₀.below; held = x.held; stand = x.stand };
          symbols = omega (arith, q.symbols, list_symbols look);
          room = omega (arith, x.room, q.room, w₀.held.moves, x.held.moves);
          few = omega (arith, q.few, e);
        }

    -- the places that wait are as many as before
    pub list_places : run₂.places ≡ run₀.places
    list_places = let x = noded in same_places_lem w₀.held w₀.stand x.held x.stand

-- what is at hand after the moves inside a node is a child, if it is neither a remove nor the end
pub only_read : (k : ℕ) → is_inside k ≡ false → k < remove_operation → (k ≡ predict_operation → ⊥) → k ≡ read_operation
only_read k e l n = go (eqb k add_operation) refl (eqb k evaluate_operation) refl (eqb k test_operation) refl e
  where
    go : (a : Bool) → eqb k add_operation ≡ a → (b : Bool) → eqb k evaluate_operation ≡ b → (d : Bool) → eqb k test_operation ≡ d → a || (b || d) ≡ false → k ≡ read_operation
    go true x b y d z h = absurd (subst T h tt)
    go false x true y d z h = absurd (subst T h tt)
    go false x false y true z h = absurd (subst T h tt)
    go false x false y false z h = omega (arith, l, n, eqb-false k add_operation x, eqb-false k evaluate_operation y, eqb-false k test_operation z)

pub rests_look : (k : ℕ) → is_inside k ≡ false → k < remove_operation → IsLook k
rests_look k e l = go (eqb k predict_operation) refl
  where
    go : (b : Bool) → eqb k predict_operation ≡ b → IsLook k
    go true z = (omega (arith, eqb-true k predict_operation z), omega (arith, eqb-true k predict_operation z))
    go false z = let two = only_read k e l (eqb-false k predict_operation z) in (omega (arith, two), omega (arith, two))

-- ---- a token as a child, and a node that is entered: the move that looks at the next token, then those that need none

-- the predict leads to a node on the one that waited
pub record Entered (g : Grammar) (ws : List ℕ) (lent : Lent) (tokens : List Leaf) (c : Config) (o : Open) (bs : List Ancestor) (m : List ℤ) (ps : List ℕ) (run : Run) : Type 0 where
  pub to : Config
  pub production : ℕ
  pub inherited : List ℤ
  pub symbol : Symbol
  pub ahead : List Symbol
  pub held : Held g ws lent m ps run to
  pub stand : Stand g tokens (node_of production inherited []) (waiting_at o symbol ahead ∷ bs) to
  pub same : rest g lent tokens c ≡ rest g lent tokens to
  pub moves : suc c.moves ≤ to.moves
  pub tokens_are : to.tokens ≡ c.tokens

abbrev pub EnteredAs : Grammar → List ℕ → Lent → List Leaf → Config → Open → List Ancestor → ℕ → List ℤ → List ℕ → Walked → Type 0
EnteredAs g ws lent tokens c o bs k m ps (Left run e) = Entered g ws lent tokens c o bs m ps run × (e ≡ k)
EnteredAs g ws lent tokens c o bs k m ps (Failed run j) = Refused g ws lent tokens c m ps run j

abbrev pub Enters : List ℕ → List ℕ → List ℤ → List ℤ → List ℕ → Run → ℕ → List ℤ → List ℕ → Walked → Type 0
Enters ws ks vs m₀ ps₀ run₀ k m ps w = (g : Grammar) (lent : Lent) (c : Config) (o : Open) (bs : List Ancestor) → length ks ≡ length vs → T (all four_bytes vs) → Held g ws lent m₀ ps₀ run₀ c → Stand g (tokens_as g ks vs) o bs c → EnteredAs g ws lent (tokens_as g ks vs) c o bs k m ps w

abbrev pub Passes : List ℕ → List ℕ → List ℤ → List ℤ → List ℕ → Run → ℕ → List ℤ → List ℕ → Walked → Type 0
Passes ws ks vs m₀ ps₀ run₀ k m ps w = (head_operation (get_or ws run₀.at 0) ≡ read_operation → (sheet₀ : List ℕ) → NodeDone ws ks vs m₀ ps₀ run₀ k sheet₀ m ps sheet₀ w) × (head_operation (get_or ws run₀.at 0) ≡ predict_operation → Enters ws ks vs m₀ ps₀ run₀ k m ps w)

module _ {ws : List ℕ} (ks : List ℕ) (vs : List ℤ) {m₀ : List ℤ} {ps₀ : List ℕ} {run₀ : Run} where
  pub pass_fails : (m : List ℤ) (ps : List ℕ) (f : M.Failed) → Steps ws ks vs m₀ ps₀ run₀ m ps (Err f) → (k : ℕ) → Passes ws ks vs m₀ ps₀ run₀ k m ps (Failed f.run (refusal_number f.refusal))
  pass_fails m ps f a k = ((λ two sheet₀ g lent c o bs even four h s. a g lent c o bs even four h s), λ three g lent c o bs even four h s. a g lent c o bs even four h s)

  module _ (m₁ : List ℤ) (ps₁ : List ℕ) (run₁ : Run) (a : Steps ws ks vs m₀ ps₀ run₀ m₁ ps₁ (Ok run₁)) where
    -- the token that was read is a child
    read_at : head_operation (get_or ws run₀.at 0) ≡ read_operation → (k : ℕ) (sheet₀ : List ℕ) → NodeDone ws ks vs m₀ ps₀ run₀ k sheet₀ m₁ ps₁ sheet₀ (Left run₁ k)
    read_at two k sheet₀ g lent c o bs even four h s =
        let x = a g lent c o bs even four h s in
        let i = hand_terminal h two in
        let r = read_on g h.well_formed lent (tokens_as g ks vs) (leaves_of g ks vs four) c s _ i.frames (head_operand (get_or ws run₀.at 0)) refl x.to x.made in
        record { to = x.to; tree = leaf r.0; held = x.held; stand = r.1; same = x.same; is_end = omega arith; written = sym (overlay_none k sheet₀); room = omega (arith, (counts g lent (look_at (coming_to c (tokens_as g ks vs))) c x.to x.made).moves) }

    entered_at_once : head_operation (get_or ws run₀.at 0) ≡ predict_operation → (g : Grammar) (lent : Lent) (c : Config) (o : Open) (bs : List Ancestor)
        → length ks ≡ length vs → T (all four_bytes vs) → Held g ws lent m₀ ps₀ run₀ c → Stand g (tokens_as g ks vs) o bs c → Entered g ws lent (tokens_as g ks vs) c o bs m₁ ps₁ run₁
    entered_at_once three g lent c o bs even four h s =
        let x = a g lent c o bs even four h s in
        let i = hand_nonterminal h three in
        let r = predict_on g h.well_formed lent (tokens_as g ks vs) (leaves_of g ks vs four) c s _ i.frames (head_operand (get_or ws run₀.at 0)) refl x.to x.made in
        let n : length ((yield_below bs ++ yields_of o.children) ++ []) ≡ x.to.tokens = r.4.count in
        record {
          to = x.to;
          production = r.0;
          inherited = r.1;
          symbol = r.2;
          ahead = r.3;
          held = x.held;
          stand = r.4;
          same = x.same;
          moves = omega (arith, (counts g lent (look_at (coming_to c (tokens_as g ks vs))) c x.to x.made).moves);
          tokens_are = omega (arith, n, ap length (append-nil (yield_below bs ++ yields_of o.children)), s.count);
        }

    -- a node stands in progress after it
    pub step_stood : IsLook (head_operation (get_or ws run₀.at 0)) → Walking ws ks vs m₀ ps₀ run₀ → Stood ws m₁ ps₁ run₁
    step_stood look w = go (eqb (head_operation (get_or ws run₀.at 0)) predict_operation) refl
      where
        go : (b : Bool) → eqb (head_operation (get_or ws run₀.at 0)) predict_operation ≡ b → Stood ws m₁ ps₁ run₁
        go true z =
            let x = entered_at_once (eqb-true (head_operation (get_or ws run₀.at 0)) predict_operation z) w.grammar w.lent w.config w.node w.below w.even w.four w.held w.stand in
            record {
              grammar = w.grammar;
              lent = w.lent;
              tokens = tokens_as w.grammar ks vs;
              known = leaves_of w.grammar ks vs w.four;
              config = x.to;
              node = node_of x.production x.inherited [];
              below = waiting_at w.node x.symbol x.ahead ∷ w.below;
              held = x.held;
              stand = x.stand;
            }
        go false z =
            let x = read_at (omega (arith, look.0, look.1, eqb-false (head_operation (get_or ws run₀.at 0)) predict_operation z)) 0 [] w.grammar w.lent w.config w.node w.below w.even w.four w.held w.stand in
            record { grammar = w.grammar; lent = w.lent; tokens = tokens_as w.grammar ks vs; known = leaves_of w.grammar ks vs w.four; config = x.to; node = with_child w.node x.tree; below = w.below; held = x.held; stand = x.stand }

    pub pass_settles : (m : List ℤ) (ps : List ℕ) (e : Ended) → Settles ws m₁ ps₁ run₁ m ps e → (k : ℕ) → Passes ws ks vs m₀ ps₀ run₀ k m ps (walked_as e k)
    pass_settles m ps e b k = (passed, entered)
      where
        passed : head_operation (get_or ws run₀.at 0) ≡ read_operation → (sheet₀ : List ℕ) → NodeDone ws ks vs m₀ ps₀ run₀ k sheet₀ m ps sheet₀ (walked_as e k)
        passed two sheet₀ g lent c o bs even four h s =
            let x = read_at two k sheet₀ g lent c o bs even four h s in
            go e x (b g lent (tokens_as g ks vs) x.to (with_child o x.tree) bs (leaves_of g ks vs four) x.held x.stand)
          where
            go : (e : Ended) (x : Noded g ws lent (tokens_as g ks vs) c o bs k sheet₀ m₁ ps₁ sheet₀ run₁ k) → SettledAs g ws lent (tokens_as g ks vs) x.to (with_child o x.tree) bs m ps e → NodedAs g ws lent (tokens_as g ks vs) c o bs k sheet₀ m ps sheet₀ (walked_as e k)
            go (Err f) x z = refused_from x.same z
            go (Ok run) x z = record { to = z.0.to; tree = x.tree; held = z.0.held; stand = z.0.stand; same = x.same ∙ z.0.same; is_end = x.is_end; written = x.written; room = omega (arith, x.room, z.0.later) }

        entered : head_operation (get_or ws run₀.at 0) ≡ predict_operation → Enters ws ks vs m₀ ps₀ run₀ k m ps (walked_as e k)
        entered three g lent c o bs even four h s =
            let x = entered_at_once three g lent c o bs even four h s in
            go e x (b g lent (tokens_as g ks vs) x.to (node_of x.production x.inherited []) (waiting_at o x.symbol x.ahead ∷ bs) (leaves_of g ks vs four) x.held x.stand)
          where
            go : (e : Ended) (x : Entered g ws lent (tokens_as g ks vs) c o bs m₁ ps₁ run₁)
                → SettledAs g ws lent (tokens_as g ks vs) x.to (node_of x.production x.inherited []) (waiting_at o x.symbol x.ahead ∷ bs) m ps e → EnteredAs g ws lent (tokens_as g ks vs) c o bs k m ps (walked_as e k)
            go (Err f) x z = refused_from x.same z
            go (Ok run) x z = (
              record {
                to = z.0.to;
                production = x.production;
                inherited = x.inherited;
                symbol = x.symbol;
                ahead = x.ahead;
                held = z.0.held;
                stand = z.0.stand;
                same = x.same ∙ z.0.same;
                moves = omega (arith, x.moves, z.0.later);
                tokens_are = same_count x.stand z.0.stand ∙ x.tokens_are;
              },
              refl,
            )

-- ---- a node that is entered, with the room of its record

abbrev pub size_of : Grammar → ℕ → ℕ
size_of g p = 12 + 8 * att g (nonterminal (production_at g p).left)

abbrev pub OpensAs : Grammar → List ℕ → Lent → List Leaf → Config → Open → List Ancestor → ℕ → List ℤ → List ℕ → Walked → Type 0
OpensAs g ws lent tokens c o bs k m ps (Left run e) = (x : Entered g ws lent tokens c o bs m ps run) × (e ≡ k + size_of g x.production)
OpensAs g ws lent tokens c o bs k m ps (Failed run j) = Refused g ws lent tokens c m ps run j

abbrev pub Opens : List ℕ → List ℕ → List ℤ → List ℤ → List ℕ → Run → ℕ → List ℤ → List ℕ → Walked → Type 0
Opens ws ks vs m₀ ps₀ run₀ k m ps w = (g : Grammar) (lent : Lent) (c : Config) (o : Open) (bs : List Ancestor) → length ks ≡ length vs → T (all four_bytes vs) → Held g ws lent m₀ ps₀ run₀ c → Stand g (tokens_as g ks vs) o bs c → OpensAs g ws lent (tokens_as g ks vs) c o bs k m ps w

module _ {ws : List ℕ} (ks : List ℕ) (vs : List ℤ) {m₀ : List ℤ} {ps₀ : List ℕ} {run₀ : Run} (k : ℕ) where
  pub opens_counted : (m : List ℤ) (ps : List ℕ) (run : Run) (e : ℕ) → Enters ws ks vs m₀ ps₀ run₀ k m ps (Left run e) → (r : Counts) → Counted ws ps run r → Opens ws ks vs m₀ ps₀ run₀ k m ps (Left run (e + (12 + 8 * r.total)))
  opens_counted m ps run e a r sized g lent c o bs even four h s =
      let x = a g lent c o bs even four h s in
      let y = x.0 in
      (y, omega (arith, x.1, (sized g lent (tokens_as g ks vs) m y.to (node_of y.production y.inherited []) (waiting_at o y.symbol y.ahead) bs y.held y.stand).1))

  -- some node in progress on another
  pub enters_inner : (m : List ℤ) (ps : List ℕ) (run : Run) (e : ℕ) → Enters ws ks vs m₀ ps₀ run₀ k m ps (Left run e) → Walking ws ks vs m₀ ps₀ run₀ → Inner ws m ps run
  enters_inner m ps run e a w =
      let x = (a w.grammar w.lent w.config w.node w.below w.even w.four w.held w.stand).0 in
      record {
        grammar = w.grammar;
        lent = w.lent;
        tokens = tokens_as w.grammar ks vs;
        known = leaves_of w.grammar ks vs w.four;
        config = x.to;
        node = node_of x.production x.inherited [];
        parent = waiting_at w.node x.symbol x.ahead;
        below = w.below;
        held = x.held;
        stand = x.stand;
      }

-- only a remove is left of a node on another
pub five_of : {g : Grammar} {ws : List ℕ} {lent : Lent} {tokens : List Leaf} {m : List ℤ} {ps : List ℕ} {run : Run} {c : Config} {o : Open} {b : Ancestor} {bs : List Ancestor}
    → Held g ws lent m ps run c → Stand g tokens o (b ∷ bs) c → remove_operation ≤ head_operation (get_or ws run.at 0) → head_operation (get_or ws run.at 0) ≡ remove_operation
five_of {g} {ws} {run = run} {c = c} {o = o} h s l = go (at_hand h)
  where
    first : {a b : ℕ} {x y : List Instruction} {fs gs : List Frame} → frame a x ∷ fs ≡ frame b y ∷ gs → a ≡ b
    first {a} {b} {x} {y} {fs} {gs} e = ap (λ z. top_production z) e

    go : AtHand h → head_operation (get_or ws run.at 0) ≡ remove_operation
    go (some i x k n) = omega (arith, l, k, low_operation i)
    go (nothing below f w z) = absurd (omega (arith, first (s.frames ∙ f), s.good.stands.0, h.well_formed.productions.1))

module _ {ws : List ℕ} (ks : List ℕ) (vs : List ℤ) {m₀ : List ℤ} {ps₀ : List ℕ} {run₀ : Run} (k : ℕ) (m₁ : List ℤ) (ps₁ : List ℕ) (run₁ : Run) (e₁ : ℕ) (a : Opens ws ks vs m₀ ps₀ run₀ k m₁ ps₁ (Left run₁ e₁)) where
  -- what its calls rely on
  module _ (q : NodeAt ws ks vs m₀ ps₀ run₀ k) where
    abbrev w : Walking ws ks vs m₀ ps₀ run₀
    w = q.walking

    opened : OpensAs w.grammar ws w.lent (tokens_as w.grammar ks vs) w.config w.node w.below k m₁ ps₁ (Left run₁ e₁)
    opened = a w.grammar w.lent w.config w.node w.below w.even w.four w.held w.stand

    abbrev x₁ : Entered w.grammar ws w.lent (tokens_as w.grammar ks vs) w.config w.node w.below m₁ ps₁ run₁
    x₁ = opened.0

    pub opened_inside : run₁.at < length ws
    opened_inside = (bounds x₁.held).inside

    -- one place more waits, and it is one of those lent
    pub entered_places : (run₁.places ≡ suc run₀.places) × (run₁.places ≤ length ps₁)
    entered_places = (omega (arith, w.held.places.height, x₁.held.places.height, length-map w.config.frames (place_of w.grammar), length-map x₁.to.frames (place_of w.grammar), stand_frames w.stand, stand_frames x₁.stand), (bounds x₁.held).places)

    pub node_list_at : length m₁ ≡ length m₀ → ListAt ws ks vs m₁ ps₁ run₁ e₁ symbols_limit
    node_list_at e = record {
      walking = record { even = w.even; four = w.four; grammar = w.grammar; lent = w.lent; config = x₁.to; node = node_of x₁.production x₁.inherited []; below = waiting_at w.node x₁.symbol x₁.ahead ∷ w.below; held = x₁.held; stand = x₁.stand };
      symbols = omega (arith, (well_formed_at w.grammar x₁.held.well_formed x₁.production x₁.stand.good.stands.0).short);
      room = omega (arith, q.room, opened.1, att_most w.grammar x₁.held.well_formed (nonterminal (production_at w.grammar x₁.production).left), w.held.moves, x₁.held.moves, x₁.moves);
      few = omega (arith, q.few, e);
    }

    module _ (sheet₀ : List ℕ) (m₂ : List ℤ) (ps₂ sheet₂ : List ℕ) (run₂ : Run) (e₂ : ℕ) (l : ListDone ws ks vs m₁ ps₁ run₁ e₁ sheet₀ m₂ ps₂ sheet₂ (Left run₂ e₂)) where
      listed_at : Listed w.grammar ws w.lent (tokens_as w.grammar ks vs) x₁.to (node_of x₁.production x₁.inherited []) (waiting_at w.node x₁.symbol x₁.ahead ∷ w.below) e₁ sheet₀ m₂ ps₂ sheet₂ run₂ e₂
      listed_at = l w.grammar w.lent x₁.to (node_of x₁.production x₁.inherited []) (waiting_at w.node x₁.symbol x₁.ahead ∷ w.below) w.even w.four x₁.held x₁.stand

      pub leaving_inner : Inner ws m₂ ps₂ run₂
      leaving_inner =
          let y = listed_at in
          record {
            grammar = w.grammar;
            lent = w.lent;
            tokens = tokens_as w.grammar ks vs;
            known = leaves_of w.grammar ks vs w.four;
            config = y.to;
            node = with_children (node_of x₁.production x₁.inherited []) y.trees;
            parent = waiting_at w.node x₁.symbol x₁.ahead;
            below = w.below;
            held = y.held;
            stand = y.stand;
          }

      pub leaving_five : head_operation (get_or ws run₂.at 0) ≡ remove_operation
      leaving_five = let y = listed_at in five_of y.held y.stand y.over

      pub leaving_tokens : run₀.tokens ≤ run₂.tokens
      leaving_tokens = let y = listed_at in omega (arith, w.held.tokens, x₁.tokens_are, y.held.tokens, stand_tokens y.trees x₁.stand y.stand)

  -- ---- what a node comes to

  module _ (sheet₀ : List ℕ) where
    pub node_list_fails : (m : List ℤ) (ps sheet₁ : List ℕ) (run : Run) (j : ℕ) → ListDone ws ks vs m₁ ps₁ run₁ e₁ sheet₀ m ps sheet₁ (Failed run j) → NodeDone ws ks vs m₀ ps₀ run₀ k sheet₀ m ps sheet₁ (Failed run j)
    node_list_fails m ps sheet₁ run j l g lent c o bs even four h s =
        let x = (a g lent c o bs even four h s).0 in
        refused_from x.same (l g lent x.to (node_of x.production x.inherited []) (waiting_at o x.symbol x.ahead ∷ bs) even four x.held x.stand)

    pub node_left : (m₂ : List ℤ) (ps₂ sheet₂ : List ℕ) (run₂ : Run) (e₂ : ℕ) → ListDone ws ks vs m₁ ps₁ run₁ e₁ sheet₀ m₂ ps₂ sheet₂ (Left run₂ e₂)
        → (m : List ℤ) (ps sheet₁ : List ℕ) (w : Walked) → Leaves ws m₂ ps₂ run₂ k run₀.tokens e₂ sheet₂ m ps sheet₁ w → NodeDone ws ks vs m₀ ps₀ run₀ k sheet₀ m ps sheet₁ w
    node_left m₂ ps₂ sheet₂ run₂ e₂ l m ps sheet₁ w v g lent c o bs even four h s =
        let x = a g lent c o bs even four h s in
        let y = l g lent x.0.to (node_of x.0.production x.0.inherited []) (waiting_at o x.0.symbol x.0.ahead ∷ bs) even four x.0.held x.0.stand in
        go w x.0 x.1 y (v g lent (tokens_as g ks vs) y.to (with_children (node_of x.0.production x.0.inherited []) y.trees) (waiting_at o x.0.symbol x.0.ahead) bs (leaves_of g ks vs four) y.held y.stand)
      where
        go : (w : Walked) (x : Entered g ws lent (tokens_as g ks vs) c o bs m₁ ps₁ run₁) → e₁ ≡ k + size_of g x.production → (y : Listed g ws lent (tokens_as g ks vs) x.to (node_of x.production x.inherited []) (waiting_at o x.symbol x.ahead ∷ bs) e₁ sheet₀ m₂ ps₂ sheet₂ run₂ e₂)
            → LeftAs g ws lent (tokens_as g ks vs) y.to (with_children (node_of x.production x.inherited []) y.trees) (waiting_at o x.symbol x.ahead) bs run₂ k run₀.tokens e₂ sheet₂ m ps sheet₁ w → NodedAs g ws lent (tokens_as g ks vs) c o bs k sheet₀ m ps sheet₁ w
        go (Failed run j) x fits y z = refused_from (x.same ∙ y.same) z
        go (Left run e) x fits y z =
            let p = x.production in
            let f = y.trees in
            let o₁ = node_of p x.inherited [] in
            let r = head_operand (get_or ws run₂.at 0) in
            let own = own_values g p r y.to.registers in
            let d = z.0 in
            let hand = hand_remove y.held (five_of y.held y.stand y.over) in
            let there = own_stand g y.held.well_formed hand.production hand.rest hand.below y.to y.stand r hand.frames in
            let size : length own ≡ att g (left_of g o₁) = length-take (att g (left_of g o₁)) (drop (r - inh g (left_of g o₁)) y.to.registers) ∙ omega (arith, there, length-drop (r - inh g (left_of g o₁)) y.to.registers) in
            let covered : y.to.tokens ≡ c.tokens + length (yields f) = stand_tokens f x.stand y.stand ∙ omega (arith, x.tokens_are) in
            let before : run₀.tokens ≡ c.tokens = h.tokens in
            let width_is : y.to.tokens - run₀.tokens ≡ length (yields f) = omega (arith, covered, before) in
            let record_is : record_bytes p run₀.tokens (y.to.tokens - run₀.tokens) own ≡ record_bytes p c.tokens (length (yields f)) own = ap₂ (λ b q. record_bytes p b q own) before width_is in
            let first = record_bytes p c.tokens (length (yields f)) own in
            let long : length first ≡ size_of g p = record_length p c.tokens (length (yields f)) own ∙ omega (arith, size) in
            let kids : sheets x.to.tokens f ≡ sheets c.tokens f = ap (λ b. sheets b f) x.tokens_are in
            let most = att_most g h.well_formed (left_of g o₁) in
            record {
              to = d.to;
              tree = node p own f;
              held = d.held;
              stand = subst (λ t. Stand g (tokens_as g ks vs) (with_child o (node p own t)) bs d.to) (onto_forest f []) d.stand;
              same = x.same ∙ (y.same ∙ d.same);
              is_end = z.1 ∙ omega (arith, y.is_end, fits, ap length kids, long, length-append first (sheets c.tokens f));
              written =
                  z.2
                  ∙ (ap₂ (λ u b. overlay k u b) record_is (y.written ∙ ap (λ u. overlay e₁ u sheet₀) kids)
                  ∙ overlay_behind first (sheets c.tokens f) k e₁ sheet₀ (omega (arith, long, fits)));
              room = omega (arith, z.1, y.room, x.moves, d.moves, fits, most);
            }
