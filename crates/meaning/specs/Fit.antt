-- 34, declaratively. 01: "Stacks fit when the record's numbers are inside their limits, the bottom place is the whole segment's, each other place's
-- left side is the symbol the place below waits at, the top place waits or is 32,769, registers are as many and marked as the picture says, values
-- are in range and the rest is cleared." (`stacks_fit` in Calls is the test of it.)
use Rattle.std.specs.Prelude.{ℕ, suc, ◌≤◌, ◌<◌, ◌≡◌, ◌⊎◌, List, [], ◌∷◌, ◌++◌, reverse, map, get_or, length, take, replicate, T, ℤ}
use Rattle.meaning.specs.Base.{all, total}
use Rattle.meaning.specs.Grammar.{Symbol, nonterminal, Grammar, production_at, symbol_at, inh, syn, marked_for, segment_place, left_place, RegisterStack, PlaceStack, place_step, place_at}
use Rattle.meaning.specs.Value.{in_range, mark}
use Rattle.meaning.specs.Machine.{moves_limit, tokens_limit}
use Rattle.meaning.specs.Calls.{Record, Stacks, lent_of}

-- n values in range
pub record Values (n : ℕ) (vs : List ℤ) : Type 0 where
  pub size : length vs ≡ n
  pub ranged : T (all in_range vs)

-- places and registers, top first, of which the top place waits at symbol x: x's inherited registers valued, its synthesized ones marked (none for a terminal: 02 (e)); below them the synthesized registers of the symbols already passed, all valued
pub data WaitsAt (g : Grammar) : PlaceStack → RegisterStack → Symbol → Type 0 where
  segment : (vs : List ℤ) → Values (inh g (nonterminal g.start)) vs
      → WaitsAt g (segment_place ∷ []) (vs ++ replicate (syn g (nonterminal g.start)) mark) (nonterminal g.start)
  inside : (p k : ℕ) (vs ss : List ℤ) {ps : PlaceStack} {rs : RegisterStack}
      → p < length g.productions → k < length (production_at g p).right → k < place_step
      → Values (inh g (symbol_at (production_at g p) (suc k))) vs
      → Values (total (map (syn g) (take k (production_at g p).right))) ss
      → WaitsAt g ps rs (nonterminal (production_at g p).left)
      → WaitsAt g (place_at p k ∷ ps) ((vs ++ replicate (marked_for g (symbol_at (production_at g p) (suc k))) mark) ++ (ss ++ rs)) (symbol_at (production_at g p) (suc k))

-- the start symbol is left: only its values stand
pub record Left (g : Grammar) (ps : PlaceStack) (rs : RegisterStack) : Type 0 where
  pub place : ps ≡ left_place ∷ []
  pub results : Values (syn g (nonterminal g.start)) rs

pub record Fit (g : Grammar) (r : Record) (m : Stacks) : Type 0 where
  pub tokens : r.tokens ≤ tokens_limit
  pub moves : r.moves ≤ moves_limit
  pub register_height : r.register_height ≤ (lent_of m).max_registers
  pub place_height : r.place_height ≤ (lent_of m).max_places
  pub stands : ((x : Symbol) × WaitsAt g (reverse (take r.place_height m.places)) (reverse (take r.register_height m.registers)) x)
      ⊎ Left g (reverse (take r.place_height m.places)) (reverse (take r.register_height m.registers))
  pub registers_cleared : (i : ℕ) → r.register_height ≤ i → i < (lent_of m).max_registers → get_or m.registers i mark ≡ mark
  pub places_cleared : (i : ℕ) → r.place_height ≤ i → i < (lent_of m).max_places → get_or m.places i 0 ≡ 0
