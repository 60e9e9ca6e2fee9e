-- A node is left: its record is written, and it becomes its parent's child.
use Rattle.std.specs.Prelude.{ℕ, suc, ◌≤◌, ◌≡◌, refl, List, ◌∷◌, get_or, T, ℤ, Ok, Err}
use Rattle.std.proofs.Common.{arith, ◌∙◌}
use Rattle.meaning.specs.Base.{all}
use Rattle.meaning.specs.Grammar.{Grammar, Leaf}
use Rattle.meaning.specs.Machine.{Config, Lent, ends}
use Rattle.meaning.specs.Tree.{is_leaf_of}
use Rattle.meaning.specs.Part.{Open, Ancestor}
use Rattle.theory_base.specs.Values.{tree_of}
use Rattle.theory_answers.specs.Bounds.{counts}
use Rattle.meaning.specs.Program.{remove_operation}
use Rattle.theory_program.specs.Parts.{head_operation, head_operand}
use Rattle.theory_sound.specs.MovesKeepPart.{with_child}
use Rattle.theory_sheet.specs.Overlay.{overlay}
use Rattle.theory_sheet.specs.NodeInProgress.{Stand}
use Rattle.theory_sheet.specs.Walking.{rest, own_values, remove_on, remove_stuck}
use Rattle.run_moves.specs.declared.Run.{Run}
use Rattle.run_moves.specs.Held.{Held, hand_remove}
use Rattle.refusals.specs.Numbers.{refusal_number}
use Rattle.run_machine.specs.declared.Failed.{Failed}
use Rattle.run_machine.specs.Advancing.{Ended}
use Rattle.sheet.specs.tree.steps.Numbers as W
use Rattle.sheet.specs.tree.steps.Numbers.{Walked, Rests, walked_as}
use Rattle.sheet.specs.tree.nodes.Recording.{Inner, record_here, Records}
use Rattle.sheet.specs.tree.moves.Trying.{Tries}
use Rattle.sheet.specs.tree.moves.NodeInMemory.{Stood, Refused, refused_from, SettledAs, Settles}

pub record Departed (g : Grammar) (ws : List ℕ) (lent : Lent) (tokens : List Leaf) (c : Config) (o : Open) (b : Ancestor) (bs : List Ancestor) (m : List ℤ) (ps : List ℕ) (run₀ run : Run) : Type 0 where
  pub to : Config
  pub held : Held g ws lent m ps run to
  pub stand : Stand g tokens (with_child b.node (tree_of o.production (own_values g o.production (head_operand (get_or ws run₀.at 0)) c.registers) o.children)) bs to
  pub same : rest g lent tokens c ≡ rest g lent tokens to
  pub moves : suc c.moves ≤ to.moves

abbrev pub LeftAs : Grammar → List ℕ → Lent → List Leaf → Config → Open → Ancestor → List Ancestor → Run → ℕ → ℕ → ℕ → List ℕ → List ℤ → List ℕ → List ℕ → Walked → Type 0
LeftAs g ws lent tokens c o b bs run₀ k before end sheet₀ m ps sheet (W.Left run e) = Departed g ws lent tokens c o b bs m ps run₀ run × (e ≡ end) × (sheet ≡ overlay k (record_here g ws run₀ before o c) sheet₀)
LeftAs g ws lent tokens c o b bs run₀ k before end sheet₀ m ps sheet (W.Failed run j) = Refused g ws lent tokens c m ps run j

abbrev pub Leaves : List ℕ → List ℤ → List ℕ → Run → ℕ → ℕ → ℕ → List ℕ → List ℤ → List ℕ → List ℕ → Walked → Type 0
Leaves ws m₀ ps₀ run₀ k before end sheet₀ m ps sheet w =
    (g : Grammar) (lent : Lent) (tokens : List Leaf) (c : Config) (o : Open) (b : Ancestor) (bs : List Ancestor) → T (all (is_leaf_of g) tokens) → Held g ws lent m₀ ps₀ run₀ c → Stand g tokens o (b ∷ bs) c → LeftAs g ws lent tokens c o b bs run₀ k before end sheet₀ m ps sheet w

module _ {ws : List ℕ} {m₀ : List ℤ} {ps₀ : List ℕ} {run₀ : Run} (five : head_operation (get_or ws run₀.at 0) ≡ remove_operation) (k before : ℕ) (sheet₀ sheet : List ℕ) where
  pub left_fails : (m : List ℤ) (ps : List ℕ) (f : Failed) → Tries ws m₀ ps₀ run₀ ends m ps (Err f) → (end : ℕ) → Leaves ws m₀ ps₀ run₀ k before end sheet₀ m ps sheet (W.Failed f.run (refusal_number f.refusal))
  left_fails m ps f a end g lent tokens c o b bs known h s =
      let t = a g lent c h tt in
      let x = hand_remove h five in
      record { to = c; held = t.1; fails = remove_stuck g h.well_formed lent tokens known c (head_operand (get_or ws run₀.at 0)) x.frames ends (refusal_number f.refusal) t.0 }

  -- the remove, then the moves of the node below that need no next token
  module _ (m₁ : List ℤ) (ps₁ : List ℕ) (run₁ : Run) (a : Tries ws m₀ ps₀ run₀ ends m₁ ps₁ (Ok run₁)) where
    pub left_stood : Inner ws m₀ ps₀ run₀ → Stood ws m₁ ps₁ run₁
    left_stood q =
        let t = a q.grammar q.lent q.config q.held tt in
        let x = hand_remove q.held five in
        let n = remove_on q.grammar q.held.well_formed q.lent q.tokens q.known q.config q.stand (head_operand (get_or ws run₀.at 0)) x.frames ends t.0 t.1 in
        record { grammar = q.grammar; lent = q.lent; tokens = q.tokens; known = q.known; config = t.0; node = _; below = q.below; held = t.2; stand = n.0 }

    pub left_settled : Records ws m₀ ps₀ run₀ k before sheet₀ sheet → (m : List ℤ) (ps : List ℕ) (e : Ended) → Settles ws m₁ ps₁ run₁ m ps e → (end : ℕ) → Leaves ws m₀ ps₀ run₀ k before end sheet₀ m ps sheet (walked_as e end)
    left_settled r m ps e q end g lent tokens c o b bs known h s =
        let t = a g lent c h tt in
        let x = hand_remove h five in
        let n = remove_on g h.well_formed lent tokens known c s (head_operand (get_or ws run₀.at 0)) x.frames ends t.0 t.1 in
        go e t.2 n.0 n.1 (counts g lent ends c t.0 t.1).moves (q g lent tokens t.0 (with_child b.node (tree_of o.production (own_values g o.production (head_operand (get_or ws run₀.at 0)) c.registers) o.children)) bs known t.2 n.0)
      where
        go : (e : Ended) {d : Config} → Held g ws lent m₁ ps₁ run₁ d
            → Stand g tokens (with_child b.node (tree_of o.production (own_values g o.production (head_operand (get_or ws run₀.at 0)) c.registers) o.children)) bs d → rest g lent tokens c ≡ rest g lent tokens d → d.moves ≡ suc c.moves
            → SettledAs g ws lent tokens d (with_child b.node (tree_of o.production (own_values g o.production (head_operand (get_or ws run₀.at 0)) c.registers) o.children)) bs m ps e → LeftAs g ws lent tokens c o b bs run₀ k before end sheet₀ m ps sheet (walked_as e end)
        go (Err f) h' s' same more z = refused_from same z
        go (Ok run) h' s' same more z = (record { to = z.0.to; held = z.0.held; stand = z.0.stand; same = same ∙ z.0.same; moves = omega (arith, more, z.0.later) }, refl, r g lent tokens c o b bs h s)

-- what the moves inside a node end in is at rest
pub settled_rests : {ws : List ℕ} {m₀ : List ℤ} {ps₀ : List ℕ} {run₀ : Run} (m : List ℤ) (ps : List ℕ) (e : Ended) → Stood ws m₀ ps₀ run₀ → Settles ws m₀ ps₀ run₀ m ps e → (end : ℕ) → Rests ws (walked_as e end)
settled_rests m ps (Err f) w q end = tt
settled_rests m ps (Ok run) w q end = (q w.grammar w.lent w.tokens w.config w.node w.below w.known w.held w.stand).1
