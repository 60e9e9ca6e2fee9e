-- From stacks that fit, or from the opening, to a run that memory holds.
use Rattle.std.specs.Prelude.{ℕ, ◌+◌, ◌-◌, ◌*◌, ◌≤◌, ◌≡◌, refl, ◌⊎◌, Bool, true, false, ◌&&◌, ◌||◌, List, [], ◌∷◌, ◌++◌, map, reverse, length, get_or, replicate, T, ltb, ℤ}
use Rattle.std.proofs.Common.{arith, sym, ap, ◌∙◌, subst, subst₂, inl, inr, drop_of_length-le, lt-ltb}
use Rattle.std.proofs.lemmas.List.{length-replicate, length-map}
use Rattle.meaning.specs.Limits.{registers_limit, places_limit}
use Rattle.meaning.specs.Grammar.{Grammar, Symbol, whole, production_at, place_production, place_passed, segment_place}
use Rattle.meaning.specs.Value.{mark}
use Rattle.meaning.specs.Rules.{WellFormed}
use Rattle.meaning.specs.Machine.{Config, place_of}
use Rattle.meaning.specs.Calls.{Record, Stacks, lent_of, lay, frame_of, config_of, place_waits}
use Rattle.meaning.specs.Fit.{WaitsAt, segment, inside, Left, Fit}
use Rattle.theory_answers.specs.Memory.{same_stacks}
use Rattle.theory_answers.specs.ShapeMemory.{fit_shaped}
use Rattle.theory_program.specs.Addresses.{Begins}
use Rattle.theory_program.specs.Resuming.{place_address}
use Rattle.run_registers.specs.Stack.{stack, stack_length, stack_read}
use Rattle.run_moves.specs.Ahead.{Ahead, ahead_next, ahead_place}
use Rattle.run_moves.specs.Held.{Held, top_frame}
use Rattle.meaning.specs.PublicCalls.{stacks_of}

-- ---- the top place

-- it waits, or the start symbol is left
abbrev pub Stood : Grammar → ℕ → Type 0
Stood g p = T (place_waits g p) ⊎ (p ≡ 32769)

segment_waits : (g : Grammar) → T (place_waits g segment_place)
segment_waits g = go (ltb whole (length g.productions))
  where
    go : (b : Bool) → T ((b || true) && true)
    go true = tt
    go false = tt

-- where the code of either begins
pub ahead_stood : {g : Grammar} {ws : List ℕ} → Begins g ws → WellFormed g → (p : ℕ) → Stood g p → Ahead g ws (place_address g p) (frame_of g p)
ahead_stood b w p (inl t) = ahead_place b w p t
ahead_stood {g} {ws} b w p (inr e) = subst (λ q. Ahead g ws (place_address g q) (frame_of g q)) (sym e) (ahead_next whole _ [] (ahead_place b w segment_place (segment_waits g)))

waits_stood : (g : Grammar) {ps : List ℕ} {rs : List ℤ} {x : Symbol} → WaitsAt g ps rs x → (p : ℕ) × (qs : List ℕ) × (ps ≡ p ∷ qs) × T (place_waits g p)
waits_stood g (segment vs v) = (segment_place, [], refl, segment_waits g)
waits_stood g (inside p k vs ss {ps} {rs} l s m v u w) =
    let q : place_production (p * 256 + k) ≡ p = omega arith in
    let r : place_passed (p * 256 + k) ≡ k = omega arith in
    let a : T (place_waits g (p * 256 + k)) = rw (q, r, lt-ltb p (length g.productions) l, lt-ltb k (length (production_at g p).right) s) tt in
    (p * 256 + k, ps, refl, a)

pub top_stood : (g : Grammar) (ps : List ℕ) (rs : List ℤ) → ((x : Symbol) × WaitsAt g ps rs x) ⊎ Left g ps rs → (p : ℕ) × (qs : List ℕ) × (ps ≡ p ∷ qs) × Stood g p
top_stood g ps rs (inl w) = let s = waits_stood g w.1 in (s.0, s.1, s.2, inl s.3)
top_stood g ps rs (inr l) = (32769, [], l.place, inr refl)

pub stood_waits : (g : Grammar) (p : ℕ) → Stood g p → (p ≡ 32769 → ⊥) → T (place_waits g p)
stood_waits g p (inl t) n = t
stood_waits g p (inr e) n = absurd (n e)

-- what the code relies on
pub record PlaceStands (ws : List ℕ) (place : ℕ) : Type 0 where
  pub grammar : Grammar
  pub begins : Begins grammar ws
  pub well_formed : WellFormed grammar
  pub stood : Stood grammar place

-- ---- stacks that fit

-- what the code relies on: some grammar's program, and stacks that fit it
pub record Fitting (ws : List ℕ) (vs : List ℤ) (ps : List ℕ) (r : Record) : Type 0 where
  pub grammar : Grammar
  pub begins : Begins grammar ws
  pub well_formed : WellFormed grammar
  pub fits : Fit grammar r (stacks_of vs ps)

-- a stack laid in all the cells of a memory
pub laid_all : {A : Type 0} (clear : A) (n : ℕ) (xs mem : List A) → n ≡ length mem → lay n clear xs mem ≡ lay n clear xs (replicate n clear)
laid_all clear n xs mem e = ap (λ z. reverse xs ++ replicate (n - length xs) clear ++ z) (drop_of_length-le mem {i = n} (omega arith) ∙ sym (drop_of_length-le (replicate n clear) {i = n} (omega (arith, length-replicate n clear))))

module _ {g : Grammar} {ws : List ℕ} (b : Begins g ws) (w : WellFormed g) (vs : List ℤ) (ps : List ℕ) (r : Record) (f : Fit g r (stacks_of vs ps)) where
  abbrev top : ℕ
  top = get_or ps (r.place_height - 1) 0

  pub low : r.place_height ≤ length ps
  low = omega (arith, f.place_height)

  stood : (p : ℕ) × (qs : List ℕ) × (stack r.place_height ps ≡ p ∷ qs) × Stood g p
  stood = top_stood g (stack r.place_height ps) (stack r.register_height vs) f.stands

  pub some_place_lem : 1 ≤ r.place_height
  some_place_lem = omega (arith, stack_length r.place_height ps low, ap length stood.2)

  top_is : top ≡ stood.0
  top_is = stack_read 0 r.place_height ps low 1 0 (omega arith) some_place_lem ∙ ap (λ xs. get_or xs 0 0) stood.2

  pub top_stands : Stood g top
  top_stands = subst (Stood g) (sym top_is) stood.3

  module _ (few : length vs ≤ registers_limit) (little : length ps ≤ places_limit) where
    abbrev m : Stacks
    m = stacks_of vs ps

    abbrev c : Config
    c = config_of g r m

    pub held_start : (a : ℕ) → a ≡ place_address g top → Held g ws (lent_of m) vs ps (record { tokens = r.tokens; moves = r.moves; registers = r.register_height; places = r.place_height; at = a }) c
    held_start a e =
        let same = same_stacks g w r m f in
        let n : (lent_of m).max_registers ≡ length vs = omega arith in
        let k : (lent_of m).max_places ≡ length ps = omega arith in
        record {
          well_formed = w;
          begins = b;
          shaped = fit_shaped g w (stack r.place_height ps) (stack r.register_height vs) f.stands;
          registers = record {
            memory = sym (ap (λ z. z.registers) same) ∙ laid_all mark (lent_of m).max_registers c.registers vs n;
            height = stack_length r.register_height vs (omega (arith, f.register_height));
            room = f.register_height;
            long = omega (arith, length-replicate (lent_of m).max_registers mark);
          };
          places = record {
            memory = sym (ap (λ z. z.places) same) ∙ laid_all 0 (lent_of m).max_places (map (place_of g) c.frames) ps k;
            height = length-map c.frames (place_of g) ∙ (length-map (stack r.place_height ps) (frame_of g) ∙ stack_length r.place_height ps low);
            room = f.place_height;
            long = omega (arith, length-replicate {A = ℕ} (lent_of m).max_places 0);
          };
          ahead = subst₂ (λ j fs. Ahead g ws j (top_frame fs)) (ap (place_address g) (sym top_is) ∙ sym e) (sym (ap (map (frame_of g)) stood.2)) (ahead_stood b w stood.0 stood.3);
          tokens = refl;
          moves = refl;
          few_moves = f.moves;
          few_tokens = omega (arith, f.tokens);
        }
