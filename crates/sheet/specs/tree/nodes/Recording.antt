-- The record of the node in progress, as the code writes it.
use Rattle.std.specs.Prelude.{ℕ, ◌+◌, ◌-◌, ◌≤◌, ◌≡◌, refl, List, ◌∷◌, map, get_or, take, drop, T, ℤ}
use Rattle.std.proofs.Common.{arith, sym, ap, ◌∙◌}
use Rattle.meaning.specs.Program.{remove_operation}
use Rattle.meaning.specs.Limits.{attributes_limit}
use Rattle.meaning.specs.Base.{all}
use Rattle.meaning.specs.Grammar.{Grammar, Leaf, inh, att, place_production}
use Rattle.meaning.specs.Machine.{Config, Lent, place_of}
use Rattle.meaning.specs.Tree.{is_leaf_of}
use Rattle.meaning.specs.Part.{Open, Ancestor, frame, draw_rest}
use Rattle.meaning.specs.Layout.{four_bytes}
use Rattle.meaning_sheet.specs.Sheet.{value_bytes, record_bytes}
use Rattle.theory_base.specs.WellFormed.{well_formed_at}
use Rattle.theory_program.specs.Parts.{head_operation, head_operand}
use Rattle.theory_program.specs.Proper.{att_most}
use Rattle.theory_sheet.specs.Overlay.{overlay, record_laid}
use Rattle.theory_sheet.specs.NodeInProgress.{Stand}
use Rattle.theory_sheet.specs.Walking.{own_values, own_stand}
use Rattle.run_registers.specs.Stack.{stack}
use Rattle.run_registers.specs.Laid.{laid_stack}
use Rattle.run_moves.specs.declared.Run.{Run}
use Rattle.run_moves.specs.Laid.{laid_read}
use Rattle.run_moves.specs.Held.{Held, hand_remove, bounds}
use Rattle.sheet.specs.tree.nodes.Counting.{Nested, left_of}

-- some configuration is held that shows a node in progress on another
pub record Inner (ws : List ℕ) (m : List ℤ) (ps : List ℕ) (run : Run) : Type 0 where
  pub grammar : Grammar
  pub lent : Lent
  pub tokens : List Leaf
  pub known : T (all (is_leaf_of grammar) tokens)
  pub config : Config
  pub node : Open
  pub parent : Ancestor
  pub below : List Ancestor
  pub held : Held grammar ws lent m ps run config
  pub stand : Stand grammar tokens node (parent ∷ below) config

pub nested : {ws : List ℕ} {m : List ℤ} {ps : List ℕ} {run : Run} → Inner ws m ps run → Nested ws ps run
nested {m = m} i = record { grammar = i.grammar; lent = i.lent; tokens = i.tokens; registers = m; config = i.config; node = i.node; parent = i.parent; below = i.below; held = i.held; stand = i.stand }

-- ---- the record

-- of the node whose remove is at hand
abbrev pub record_here : Grammar → List ℕ → Run → ℕ → Open → Config → List ℕ
record_here g ws run before o c = record_bytes o.production before (c.tokens - before) (own_values g o.production (head_operand (get_or ws run.at 0)) c.registers)

abbrev pub Records : List ℕ → List ℤ → List ℕ → Run → ℕ → ℕ → List ℕ → List ℕ → Type 0
Records ws m ps run k before sheet₀ sheet = (g : Grammar) (lent : Lent) (tokens : List Leaf) (c : Config) (o : Open) (b : Ancestor) (bs : List Ancestor) → Held g ws lent m ps run c → Stand g tokens o (b ∷ bs) c → sheet ≡ overlay k (record_here g ws run before o c) sheet₀

module _ {g : Grammar} {ws : List ℕ} {lent : Lent} {tokens : List Leaf} {m : List ℤ} {ps : List ℕ} {run : Run} {c : Config} {o : Open} {b : Ancestor} {bs : List Ancestor} (h : Held g ws lent m ps run c) (s : Stand g tokens o (b ∷ bs) c) where
  -- the production, by its place
  pub production_here : place_production (get_or ps (run.places - 1) 0) ≡ o.production
  production_here =
      let f = well_formed_at g h.well_formed o.production s.good.stands.0 in
      let e : get_or ps (run.places - 1) 0 ≡ place_of g (frame o.production (draw_rest g o s.point)) = laid_read h.places 1 (omega arith) (bounds h).some_place ∙ ap (λ fs. get_or (map (place_of g) fs) 0 0) (sym s.frames) in
      omega (arith, e, f.short)

  module _ (five : head_operation (get_or ws run.at 0) ≡ remove_operation) where
    pub values_there : (inh g (left_of g o) ≤ head_operand (get_or ws run.at 0)) × (head_operand (get_or ws run.at 0) - inh g (left_of g o) + att g (left_of g o) ≤ run.registers)
    values_there =
        let x = hand_remove h five in
        let y = own_stand g h.well_formed x.production x.rest x.below c s (head_operand (get_or ws run.at 0)) x.frames in
        (y.0, omega (arith, y.1, h.registers.height))

    pub few_values : att g (left_of g o) ≤ attributes_limit
    few_values = att_most g h.well_formed (left_of g o)

    -- the bytes that the code writes
    pub record_here_lem : (k before q i n : ℕ) (sheet₀ a₁ a₂ a₃ a₄ : List ℕ) → q ≡ place_production (get_or ps (run.places - 1) 0) → i ≡ inh g (left_of g o) → n ≡ att g (left_of g o)
        → a₁ ≡ overlay k (four_bytes q) sheet₀ → a₂ ≡ overlay (k + 4) (four_bytes before) a₁ → a₃ ≡ overlay (k + 8) (four_bytes (run.tokens - before)) a₂
        → a₄ ≡ overlay (k + 12) (value_bytes (take n (drop (head_operand (get_or ws run.at 0) - i) (stack run.registers m)))) a₃
        → a₄ ≡ overlay k (record_here g ws run before o c) sheet₀
    record_here_lem k before q i n sheet₀ a₁ a₂ a₃ a₄ x y z e₁ e₂ e₃ e₄ =
        let r : stack run.registers m ≡ c.registers = laid_stack h.registers in
        let vs : take n (drop (head_operand (get_or ws run.at 0) - i) (stack run.registers m)) ≡ own_values g o.production (head_operand (get_or ws run.at 0)) c.registers = rw (y, z, r) refl in
        record_laid k o.production before (c.tokens - before) (own_values g o.production (head_operand (get_or ws run.at 0)) c.registers) sheet₀ a₁ a₂ a₃ a₄
        (e₁ ∙ ap (λ p. overlay k (four_bytes p) sheet₀) (x ∙ production_here))
        e₂
        (e₃ ∙ ap (λ t. overlay (k + 8) (four_bytes (t - before)) a₂) h.tokens)
        (e₄ ∙ ap (λ l. overlay (k + 12) (value_bytes l) a₃) vs)
