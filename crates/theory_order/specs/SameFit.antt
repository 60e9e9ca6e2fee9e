-- 34 reads left and right sides and counts alone.
use Rattle.std.specs.Prelude.{ℕ, ◌-◌, ◌≡◌, refl, Bool, false, ◌&&◌, ◌||◌, List, [], ◌∷◌, ◌++◌, reverse, length, get_or, drop, take, replicate, eqb, ltb, leb, ℤ}
use Rattle.std.proofs.Common.{ap, ap₂, ◌∙◌}
use Rattle.meaning.specs.Base.{all}
use Rattle.meaning.specs.Grammar.{Symbol, terminal, nonterminal, Production, Grammar, production_at, inh, syn, whole, is_nonterminal, place_production, place_passed}
use Rattle.meaning.specs.Machine.{moves_limit, tokens_limit}
use Rattle.meaning.specs.Calls.{Record, Stacks, lent_of, Cell, valued, marked, is_mark, cells_fit, syn_cells, waiting_cells, awaited, places_fit, place_cells, stack_fits, stacks_fit}
use Rattle.meaning_house.specs.Order.{SameEach}
use Rattle.theory_order.specs.Each.{regrouped, marked_redone, each_length, same_at}

module _ (g : Grammar) (qs : List Production) (s : SameEach g.productions qs) where
  lefts : (n : ℕ) → (production_at g n).left ≡ (production_at (regrouped g qs) n).left
  lefts n = (same_at g qs s n).left

  rights : (n : ℕ) → (production_at g n).right ≡ (production_at (regrouped g qs) n).right
  rights n = (same_at g qs s n).right

  count : length g.productions ≡ length qs
  count = each_length g.productions qs s

  places_same : (ps : List ℕ) → places_fit g ps ≡ places_fit (regrouped g qs) ps
  places_same [] = refl
  places_same (p ∷ []) = refl
  places_same (p ∷ q ∷ ps) =
      let n = place_production p in
      λ i. ltb n (count i) && ((ltb n (count i) || eqb n whole) && ltb (place_passed p) (length (rights n i))) && is_nonterminal (lefts n i) (get_or (rights (place_production q) i) (place_passed q) (terminal 0)) && places_same (q ∷ ps) i

  syn_cells_same : (xs : List Symbol) (below : List Cell) → syn_cells g xs below ≡ syn_cells (regrouped g qs) xs below
  syn_cells_same [] below = refl
  syn_cells_same (x ∷ xs) below = syn_cells_same xs (replicate (syn g x) valued ++ below)

  waiting_same : (x : Symbol) → waiting_cells g x ≡ waiting_cells (regrouped g qs) x
  waiting_same x = ap (λ n. replicate (inh g x) valued ++ replicate n marked) (marked_redone g qs x)

  cells_same : (ps : List ℕ) → place_cells g ps ≡ place_cells (regrouped g qs) ps
  cells_same [] = refl
  cells_same (p ∷ ps) =
      (λ i. waiting_cells g (get_or (rights (place_production p) i) (place_passed p) (terminal 0)) ++ syn_cells g (take (place_passed p) (rights (place_production p) i)) (cells_same ps i))
      ∙ ap₂ ◌++◌ (waiting_same (awaited (regrouped g qs) p)) (syn_cells_same (take (place_passed p) (production_at (regrouped g qs) (place_production p)).right) (place_cells (regrouped g qs) ps))

  stack_same : (ps : List ℕ) (rs : List ℤ) → stack_fits g ps rs ≡ stack_fits (regrouped g qs) ps rs
  stack_same ps rs = ap₂ (λ a c.
      (a && cells_fit c rs)
      || (elim ps as (λ x. Bool) [ [] ↦ false | p ∷ qs ↦ elim qs as (λ x. Bool) [ [] ↦ eqb p 32769 | q ∷ rest ↦ false ] ] && cells_fit (replicate (syn g (nonterminal g.start)) valued) rs)) (places_same ps) (cells_same ps)

  pub fit_same : (r : Record) (m : Stacks) → stacks_fit g r m ≡ stacks_fit (regrouped g qs) r m
  fit_same r m = ap (λ b.
      leb r.tokens tokens_limit && leb r.moves moves_limit
      && leb r.register_height (lent_of m).max_registers && leb r.place_height (lent_of m).max_places
      && b
      && all is_mark (take ((lent_of m).max_registers - r.register_height) (drop r.register_height m.registers))
      && all (λ p. eqb p 0) (take ((lent_of m).max_places - r.place_height) (drop r.place_height m.places))) (stack_same (reverse (take r.place_height m.places)) (reverse (take r.register_height m.registers)))
