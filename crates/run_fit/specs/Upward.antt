-- 34's test from the bottom up: the places and the registers as they lie in memory.
use Rattle.std.specs.Prelude.{ℕ, suc, ◌+◌, ◌<◌, ◌≡◌, Bool, ◌&&◌, ◌||◌, length, take, replicate, ltb, ℤ}
use Rattle.std.proofs.Common.{arith, ap, ◌∙◌, eqb-true}
use Rattle.std.proofs.Math.Path.{refl, sym, ap₂}
use Rattle.std.proofs.Math.Bool.{true, false, and-true, and-false, and_assoc}
use mathlib.Core.List.{List, [], ◌∷◌, ◌++◌, map, reverse_aux, reverse, reverse-append, reverse-reverse, append_assoc, append-nil}
use Rattle.std.proofs.Math.ListN.{length-reverse_aux}
use Rattle.std.proofs.lemmas.List.{replicate-append-replicate}
use Rattle.std.proofs.Math.Dec.{eqb}
use Rattle.meaning.specs.Base.{total, is_empty}
use Rattle.meaning.specs.Grammar.{Symbol, nonterminal, Grammar, production_at, inh, syn, marked_for, is_nonterminal, whole, place_production, place_passed, segment_place}
use Rattle.meaning.specs.Rules.{WellFormed}
use Rattle.meaning.specs.Calls.{Cell, valued, marked, cell_fits, cells_fit, waiting_cells, awaited, places_fit, place_cells, stack_fits}
use Rattle.theory_answers.specs.FitTest.{syn_cells_lem, alone}
use Rattle.run_registers.specs.Stack.{reverse_replicate}
use Rattle.run_fit.specs.past.Passing.{unfit, valued_then_marked}
use Rattle.theory_base.specs.Members.{and_swap}

-- ---- cells that fit, from the other end

fit_turned : (cs ds : List Cell) (vs ws : List ℤ) → length ds ≡ length ws → cells_fit (reverse_aux cs ds) (reverse_aux vs ws) ≡ cells_fit cs vs && cells_fit ds ws
fit_turned [] ds [] ws e = refl
fit_turned [] ds (v ∷ vs) ws e = unfit ds (reverse_aux vs (v ∷ ws)) (λ d. omega (arith, length-reverse_aux vs (v ∷ ws)))
fit_turned (c ∷ cs) ds [] ws e = unfit (reverse_aux cs (c ∷ ds)) ws (λ d. omega (arith, length-reverse_aux cs (c ∷ ds)))
fit_turned (c ∷ cs) ds (v ∷ vs) ws e = fit_turned cs (c ∷ ds) vs (v ∷ ws) (ap suc e) ∙ (and_swap (cells_fit cs vs) (cell_fits c v) (cells_fit ds ws) ∙ sym (and_assoc (cell_fits c v) (cells_fit cs vs) (cells_fit ds ws)))

fit_reverse : (cs : List Cell) (vs : List ℤ) → cells_fit cs (reverse vs) ≡ cells_fit (reverse cs) vs
fit_reverse cs vs = sym (and-true (cells_fit cs (reverse vs))) ∙ (sym (fit_turned cs [] (reverse vs) [] refl) ∙ ap (cells_fit (reverse cs)) (reverse-reverse vs))

-- registers with values, marked ones, and registers with values again
abbrev pub stretches : ℕ → ℕ → ℕ → List Cell
stretches a b c = replicate a valued ++ (replicate b marked ++ replicate c valued)

-- registers with values below a place's are taken with those that it has passed, and its last ones are left
pub regrouped : (n a b c : ℕ) (cs : List Cell) → replicate n valued ++ (stretches a b c ++ cs) ≡ valued_then_marked (n + a) b ++ (replicate c valued ++ cs)
regrouped n a b c cs =
    let above : List Cell = replicate c valued ++ cs in
    ap (λ z. replicate n valued ++ z) (append_assoc (replicate a valued) (replicate b marked ++ replicate c valued) cs ∙ ap (λ z. replicate a valued ++ z) (append_assoc (replicate b marked) (replicate c valued) cs))
    ∙ (sym (append_assoc (replicate n valued) (replicate a valued) (replicate b marked ++ above))
    ∙ (ap (λ z. z ++ (replicate b marked ++ above)) (replicate-append-replicate n a valued)
    ∙ sym (append_assoc (replicate (n + a) valued) (replicate b marked) above)))

-- ---- places from the bottom up

-- a place on one that waits at x
abbrev pub place_on : Grammar → Symbol → ℕ → Bool
place_on g x p = ltb (place_production p) (length g.productions) && (ltb (place_passed p) (length (production_at g (place_production p)).right) && is_nonterminal (production_at g (place_production p)).left x)

-- places above one that waits at x
unfoldable pub places_above : Grammar → Symbol → List ℕ → Bool
places_above g x [] = true
places_above g x (p ∷ ps) = place_on g x p && places_above g (awaited g p) ps

-- the registers of a place, the lowest first
abbrev pub cells_of : Grammar → ℕ → List Cell
cells_of g p = replicate (total (map (syn g) (take (place_passed p) (production_at g (place_production p)).right))) valued ++ (replicate (marked_for g (awaited g p)) marked ++ replicate (inh g (awaited g p)) valued)

unfoldable pub cells_above : Grammar → List ℕ → List Cell
cells_above g [] = []
cells_above g (p ∷ ps) = cells_of g p ++ cells_above g ps

-- the start symbol waits or is left
abbrev pub start_cells : Cell → Grammar → List Cell
start_cells c g = replicate (syn g (nonterminal g.start)) c

-- `stack_fits` for a stack that is given from the bottom up
unfoldable pub stands_fit : Grammar → List ℕ → List ℤ → Bool
stands_fit g [] vs = false
stands_fit g (p ∷ ps) vs =
    (eqb p segment_place && (places_above g (nonterminal g.start) ps && cells_fit (start_cells marked g ++ cells_above g ps) vs))
    || (eqb p 32769 && (is_empty ps && cells_fit (start_cells valued g) vs))

module _ (g : Grammar) where
  place_facts : (a e s n p r : Bool) → (((a && ((a || e) && s)) && n) && p) && r ≡ p && ((a && (s && n)) && r)
  place_facts true e true true p r = refl
  place_facts true e true false true r = refl
  place_facts true e true false false r = refl
  place_facts true e false n true r = refl
  place_facts true e false n false r = refl
  place_facts false e s n true r = refl
  place_facts false e s n false r = refl

  places_up : (ps : List ℕ) (q : ℕ) (qs : List ℕ) → places_fit g (reverse_aux ps (q ∷ qs)) ≡ places_fit g (q ∷ qs) && places_above g (awaited g q) ps
  unfolding places_above
  places_up [] q qs = sym (and-true (places_fit g (q ∷ qs)))
  places_up (p ∷ ps) q qs =
      let n = place_production p in
      let production = production_at g n in
      places_up ps p (q ∷ qs)
      ∙ place_facts (ltb n (length g.productions)) (eqb n whole) (ltb (place_passed p) (length production.right)) (is_nonterminal production.left (awaited g q)) (places_fit g (q ∷ qs)) (places_above g (awaited g p) ps)

  cells_place : (p : ℕ) (qs : List ℕ) → reverse (place_cells g (p ∷ qs)) ≡ reverse (place_cells g qs) ++ cells_of g p
  cells_place p qs =
      let x : Symbol = awaited g p in
      let t : ℕ = total (map (syn g) (take (place_passed p) (production_at g (place_production p)).right)) in
      let below : List Cell = place_cells g qs in
      let lower : reverse (replicate t valued ++ below) ≡ reverse below ++ replicate t valued = reverse-append (replicate t valued) below ∙ ap (λ z. reverse below ++ z) (reverse_replicate t valued) in
      let upper : reverse (waiting_cells g x) ≡ replicate (marked_for g x) marked ++ replicate (inh g x) valued =
      reverse-append (replicate (inh g x) valued) (replicate (marked_for g x) marked) ∙ ap₂ (λ y z. y ++ z) (reverse_replicate (marked_for g x) marked) (reverse_replicate (inh g x) valued) in
      ap (λ z. reverse (waiting_cells g x ++ z)) (syn_cells_lem g (take (place_passed p) (production_at g (place_production p)).right) below)
      ∙ (reverse-append (waiting_cells g x) (replicate t valued ++ below)
      ∙ (ap₂ (λ y z. y ++ z) lower upper
      ∙ append_assoc (reverse below) (replicate t valued) (replicate (marked_for g x) marked ++ replicate (inh g x) valued)))

  cells_up : (ps qs : List ℕ) → reverse (place_cells g (reverse_aux ps qs)) ≡ reverse (place_cells g qs) ++ cells_above g ps
  unfolding cells_above
  cells_up [] qs = sym (append-nil (reverse (place_cells g qs)))
  cells_up (p ∷ ps) qs = cells_up ps (p ∷ qs) ∙ (ap (λ z. z ++ cells_above g ps) (cells_place p qs) ∙ append_assoc (reverse (place_cells g qs)) (cells_of g p) (cells_above g ps))

  start_cells_lem : inh g (nonterminal g.start) ≡ 0 → cells_of g segment_place ≡ start_cells marked g
  start_cells_lem e = rw e (append-nil (start_cells marked g))

  alone_many : (ps : List ℕ) → 1 < length ps → alone ps ≡ false
  alone_many [] l = refl
  alone_many (p ∷ []) l = absurd (omega arith)
  alone_many (p ∷ q ∷ qs) l = refl

  alone_up : (p : ℕ) (ps : List ℕ) → alone (reverse_aux ps (p ∷ [])) ≡ eqb p 32769 && is_empty ps
  alone_up p [] = sym (and-true (eqb p 32769))
  alone_up p (q ∷ qs) = alone_many (reverse_aux qs (q ∷ p ∷ [])) (omega (arith, length-reverse_aux qs (q ∷ p ∷ []))) ∙ sym (and-false (eqb p 32769))

  pub stack_fits_up : WellFormed g → (ps : List ℕ) (vs : List ℤ) → stack_fits g (reverse ps) (reverse vs) ≡ stands_fit g ps vs
  unfolding stands_fit
  stack_fits_up w [] vs = refl
  stack_fits_up w (p ∷ ps) vs = ap₂ (λ a b. a || b) waits left
    where
      at_bottom : (b : Bool) → eqb p segment_place ≡ b → (b && places_above g (awaited g p) ps) && cells_fit (cells_of g p ++ cells_above g ps) vs ≡ b && (places_above g (nonterminal g.start) ps && cells_fit (start_cells marked g ++ cells_above g ps) vs)
      at_bottom true e = rw (eqb-true p segment_place e) (ap (λ z. places_above g (nonterminal g.start) ps && cells_fit (z ++ cells_above g ps) vs) (start_cells_lem w.start_alone))
      at_bottom false e = refl

      waits : places_fit g (reverse (p ∷ ps)) && cells_fit (place_cells g (reverse (p ∷ ps))) (reverse vs) ≡ eqb p segment_place && (places_above g (nonterminal g.start) ps && cells_fit (start_cells marked g ++ cells_above g ps) vs)
      waits =
          ap₂ (λ a b. a && b) (places_up ps p []) (fit_reverse (place_cells g (reverse_aux ps (p ∷ []))) vs ∙ ap (λ z. cells_fit z vs) (cells_up ps (p ∷ []) ∙ ap (λ z. z ++ cells_above g ps) (cells_place p [])))
          ∙ at_bottom (eqb p segment_place) refl

      left : alone (reverse (p ∷ ps)) && cells_fit (start_cells valued g) (reverse vs) ≡ eqb p 32769 && (is_empty ps && cells_fit (start_cells valued g) vs)
      left =
          ap₂ (λ a b. a && b) (alone_up p ps) (fit_reverse (start_cells valued g) vs ∙ ap (λ z. cells_fit z vs) (reverse_replicate (syn g (nonterminal g.start)) valued))
          ∙ and_assoc (eqb p 32769) (is_empty ps) (cells_fit (start_cells valued g) vs)
