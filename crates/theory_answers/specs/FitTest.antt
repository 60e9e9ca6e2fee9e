-- 34's test is 34's meaning: `stacks_fit` holds exactly where `Fit` does.
use Rattle.std.specs.Prelude.{ℕ, zero, suc, ◌+◌, ◌-◌, ◌*◌, ◌≤◌, ◌<◌, ◌≡◌, refl, ◌⊎◌, Bool, false, ◌&&◌, List, [], ◌∷◌, ◌++◌, map, reverse, get_or, length, take, drop, replicate, eqb, ltb, leb, ℤ, pos, negsuc}
use Rattle.std.proofs.Common.{arith, sym, ap, ap₂, ◌∙◌, subst, subst₂, inl, inr, append_assoc, append-nil, length-drop, length-take, get_or-take, get_or-drop, eqb→eq, leb→le, le→leb}
use Rattle.std.proofs.lemmas.List.{replicate-append-replicate}
use Rattle.std.proofs.Math.Dec.{T, eqb_refl, ltb→lt, lt→ltb}
use Rattle.meaning.specs.Base.{all, total}
use Rattle.meaning.specs.Grammar.{Symbol, terminal, nonterminal, Grammar, production_at, symbol_at, inh, syn, marked_for, is_nonterminal, whole, place_production, place_passed, segment_place}
use Rattle.meaning.specs.Value.{in_range, mark}
use Rattle.meaning.specs.Machine.{moves_limit, tokens_limit}
use Rattle.meaning.specs.Calls.{Record, Stacks, lent_of, Cell, valued, marked, is_mark, cell_fits, cells_fit, syn_cells, waiting_cells, is_listed, place_waits, awaited, places_fit, place_cells, stack_fits, stacks_fit}
use Rattle.meaning.specs.Fit.{Values, WaitsAt, segment, inside, Left, Fit}
use Rattle.meaning_statements.specs.CallStatements.{FitExactly}
use Rattle.theory_base.specs.Members.{and, both, or_left, or_right, or_cases, at_all}
use Rattle.theory_sets.specs.Tests.{all_at}

-- ---- cells

pub mark_is : (v : ℤ) → T (is_mark v) → v ≡ mark
mark_is (pos a) t = absurd t
mark_is (negsuc a) t =
    let b : a ≤ 9223372036854775807 = leb→le a 9223372036854775807 (both (leb a 9223372036854775807) (leb 9223372036854775807 a) t).0 in
    let c : 9223372036854775807 ≤ a = leb→le 9223372036854775807 a (both (leb a 9223372036854775807) (leb 9223372036854775807 a) t).1 in
    ap negsuc (omega arith)

-- registers that fit one stretch of cells, and those that fit the rest
pub record Parted (cs ds : List Cell) (vs : List ℤ) : Type 0 where
  pub upper : List ℤ
  pub lower : List ℤ
  pub joined : vs ≡ upper ++ lower
  pub first : T (cells_fit cs upper)
  pub second : T (cells_fit ds lower)

fit_parts : (cs ds : List Cell) (vs : List ℤ) → T (cells_fit (cs ++ ds) vs) → Parted cs ds vs
fit_parts [] ds vs t = record { upper = []; lower = vs; joined = refl; first = tt; second = t }
fit_parts (c ∷ cs) ds [] t = absurd t
fit_parts (c ∷ cs) ds (v ∷ vs) t =
    let r = fit_parts cs ds vs (both (cell_fits c v) (cells_fit (cs ++ ds) vs) t).1 in
    record { upper = v ∷ r.upper; lower = r.lower; joined = ap (λ z. v ∷ z) r.joined; first = and (cell_fits c v) (cells_fit cs r.upper) (both (cell_fits c v) (cells_fit (cs ++ ds) vs) t).0 r.first; second = r.second }

fit_append : (cs ds : List Cell) (xs ys : List ℤ) → T (cells_fit cs xs) → T (cells_fit ds ys) → T (cells_fit (cs ++ ds) (xs ++ ys))
fit_append [] ds [] ys s t = t
fit_append [] ds (x ∷ xs) ys s t = absurd s
fit_append (c ∷ cs) ds [] ys s t = absurd s
fit_append (c ∷ cs) ds (x ∷ xs) ys s t = and (cell_fits c x) (cells_fit (cs ++ ds) (xs ++ ys)) (both (cell_fits c x) (cells_fit cs xs) s).0 (fit_append cs ds xs ys (both (cell_fits c x) (cells_fit cs xs) s).1 t)

values_fit_lem : (n : ℕ) (vs : List ℤ) → Values n vs → T (cells_fit (replicate n valued) vs)
values_fit_lem zero [] v = tt
values_fit_lem zero (x ∷ xs) v = absurd (omega (arith, v.size))
values_fit_lem (suc n) [] v = absurd (omega (arith, v.size))
values_fit_lem (suc n) (x ∷ xs) v = and (in_range x) (cells_fit (replicate n valued) xs) (both (in_range x) (all in_range xs) v.ranged).0 (values_fit_lem n xs (record { size = omega (arith, v.size); ranged = (both (in_range x) (all in_range xs) v.ranged).1 }))

fit_values : (n : ℕ) (vs : List ℤ) → T (cells_fit (replicate n valued) vs) → Values n vs
fit_values zero [] t = record { size = refl; ranged = tt }
fit_values zero (x ∷ xs) t = absurd t
fit_values (suc n) [] t = absurd t
fit_values (suc n) (x ∷ xs) t =
    let r = fit_values n xs (both (in_range x) (cells_fit (replicate n valued) xs) t).1 in
    record { size = ap suc r.size; ranged = and (in_range x) (all in_range xs) (both (in_range x) (cells_fit (replicate n valued) xs) t).0 r.ranged }

marks_fit : (n : ℕ) → T (cells_fit (replicate n marked) (replicate n mark))
marks_fit zero = tt
marks_fit (suc n) = marks_fit n

fit_marks : (n : ℕ) (vs : List ℤ) → T (cells_fit (replicate n marked) vs) → vs ≡ replicate n mark
fit_marks zero [] t = refl
fit_marks zero (x ∷ xs) t = absurd t
fit_marks (suc n) [] t = absurd t
fit_marks (suc n) (x ∷ xs) t = ap₂ (λ z zs. z ∷ zs) (mark_is x (both (is_mark x) (cells_fit (replicate n marked) xs) t).0) (fit_marks n xs (both (is_mark x) (cells_fit (replicate n marked) xs) t).1)

-- all of them valued, so their order does not matter
pub syn_cells_lem : (g : Grammar) (xs : List Symbol) (below : List Cell) → syn_cells g xs below ≡ replicate (total (map (syn g) xs)) valued ++ below
syn_cells_lem g [] below = refl
syn_cells_lem g (x ∷ xs) below =
    let e : total (map (syn g) xs) + syn g x ≡ syn g x + total (map (syn g) xs) = omega arith in
    syn_cells_lem g xs (replicate (syn g x) valued ++ below)
    ∙ (sym (append_assoc (replicate (total (map (syn g) xs)) valued) (replicate (syn g x) valued) below)
    ∙ ap (λ z. z ++ below) (replicate-append-replicate (total (map (syn g) xs)) (syn g x) valued ∙ ap (λ n. replicate n valued) e))

waiting_fit : (g : Grammar) (x : Symbol) (vs : List ℤ) → Values (inh g x) vs → T (cells_fit (waiting_cells g x) (vs ++ replicate (marked_for g x) mark))
waiting_fit g x vs v = fit_append (replicate (inh g x) valued) (replicate (marked_for g x) marked) vs (replicate (marked_for g x) mark) (values_fit_lem (inh g x) vs v) (marks_fit (marked_for g x))

-- ---- places

-- what the top place waits at
abbrev pub awaited_top : Grammar → List ℕ → Symbol
awaited_top g [] = terminal 0
awaited_top g (p ∷ ps) = awaited g p

nonterminal_is : (n : ℕ) (x : Symbol) → T (is_nonterminal n x) → x ≡ nonterminal n
nonterminal_is n (terminal t) h = absurd h
nonterminal_is n (nonterminal m) h = ap nonterminal (eqb→eq m n h)

is_nonterminal_lem : (n : ℕ) (x : Symbol) → x ≡ nonterminal n → T (is_nonterminal n x)
is_nonterminal_lem n x e = rw e (eqb_refl n)

-- the four tests of a place on another one
abbrev PlaceOn : Grammar → ℕ → List ℕ → Type 0
PlaceOn g p ps = (place_production p < length g.productions) × (place_passed p < length (production_at g (place_production p)).right) × (awaited_top g ps ≡ nonterminal (production_at g (place_production p)).left) × T (places_fit g ps)

module _ (g : Grammar) (p q : ℕ) (qs : List ℕ) where
  is_below : Bool
  is_below = ltb (place_production p) (length g.productions)

  is_short : Bool
  is_short = ltb (place_passed p) (length (production_at g (place_production p)).right)

  is_named : Bool
  is_named = is_nonterminal (production_at g (place_production p)).left (awaited g q)

  place_on_lem : T (places_fit g (p ∷ q ∷ qs)) → PlaceOn g p (q ∷ qs)
  unfolding is_below is_short is_named
  place_on_lem t =
      let abc : T (is_below && place_waits g p && is_named) = (both (is_below && place_waits g p && is_named) (places_fit g (q ∷ qs)) t).0 in
      let ab : T (is_below && place_waits g p) = (both (is_below && place_waits g p) is_named abc).0 in (
        ltb→lt (place_production p) (length g.productions) (both is_below (place_waits g p) ab).0,
        ltb→lt (place_passed p) (length (production_at g (place_production p)).right) (both (is_listed g (place_production p)) is_short (both is_below (place_waits g p) ab).1).1,
        nonterminal_is (production_at g (place_production p)).left (awaited g q) (both (is_below && place_waits g p) is_named abc).1,
        (both (is_below && place_waits g p && is_named) (places_fit g (q ∷ qs)) t).1,
      )

  on_place_lem : PlaceOn g p (q ∷ qs) → T (places_fit g (p ∷ q ∷ qs))
  unfolding is_below is_short is_named
  on_place_lem o =
      let a : T is_below = lt→ltb (place_production p) (length g.productions) o.0 in
      let b : T (place_waits g p) = and (is_listed g (place_production p)) is_short (or_left is_below (eqb (place_production p) whole) a) (lt→ltb (place_passed p) (length (production_at g (place_production p)).right) o.1) in
      let c : T is_named = is_nonterminal_lem (production_at g (place_production p)).left (awaited g q) o.2 in
      and (is_below && place_waits g p && is_named) (places_fit g (q ∷ qs)) (and (is_below && place_waits g p) is_named (and is_below (place_waits g p) a b) c) o.3

-- ---- places and registers that fit wait

-- the registers of one place, taken apart
module _ (g : Grammar) (p k : ℕ) (cells : List Cell) where
  abbrev x : Symbol
  x = symbol_at (production_at g p) (suc k)

  abbrev passed_count : ℕ
  passed_count = total (map (syn g) (take k (production_at g p).right))

  abbrev cells_at : List Cell
  cells_at = waiting_cells g x ++ syn_cells g (take k (production_at g p).right) cells

  pub record AtPlace (rs : List ℤ) : Type 0 where
    pub inherited : List ℤ
    pub passed : List ℤ
    pub lower : List ℤ
    pub inherited_fit : Values (inh g x) inherited
    pub passed_fit : Values passed_count passed
    pub joined : rs ≡ (inherited ++ replicate (marked_for g x) mark) ++ (passed ++ lower)
    pub lower_fit : T (cells_fit cells lower)

  fit_place : (rs : List ℤ) → T (cells_fit cells_at rs) → AtPlace rs
  fit_place rs t =
      let a = fit_parts (waiting_cells g x) (syn_cells g (take k (production_at g p).right) cells) rs t in
      let b = fit_parts (replicate (inh g x) valued) (replicate (marked_for g x) marked) a.upper a.first in
      let c = fit_parts (replicate passed_count valued) cells a.lower (subst (λ z. T (cells_fit z a.lower)) (syn_cells_lem g (take k (production_at g p).right) cells) a.second) in
      record {
        inherited = b.upper;
        passed = c.upper;
        lower = c.lower;
        inherited_fit = fit_values (inh g x) b.upper b.first;
        passed_fit = fit_values passed_count c.upper c.first;
        joined = a.joined ∙ ap₂ (λ y z. y ++ z) (b.joined ∙ ap (λ z. b.upper ++ z) (fit_marks (marked_for g x) b.lower b.second)) c.joined;
        lower_fit = c.second;
      }

  place_fit : (vs ss rs : List ℤ) → Values (inh g x) vs → Values passed_count ss → T (cells_fit cells rs) → T (cells_fit cells_at ((vs ++ replicate (marked_for g x) mark) ++ (ss ++ rs)))
  place_fit vs ss rs v s t =
      fit_append (waiting_cells g x) (syn_cells g (take k (production_at g p).right) cells) (vs ++ replicate (marked_for g x) mark) (ss ++ rs) (waiting_fit g x vs v)
      (subst (λ z. T (cells_fit z (ss ++ rs))) (sym (syn_cells_lem g (take k (production_at g p).right) cells)) (fit_append (replicate passed_count valued) cells ss rs (values_fit_lem passed_count ss s) t))

fit_waits : (g : Grammar) (ps : List ℕ) (rs : List ℤ) → T (places_fit g ps) → T (cells_fit (place_cells g ps) rs) → WaitsAt g ps rs (awaited_top g ps)
fit_waits g [] rs t u = absurd t
fit_waits g (p ∷ []) rs t u = bottom p rs (eqb→eq p segment_place t) u
  where
    bottom : (p : ℕ) (rs : List ℤ) → p ≡ segment_place → T (cells_fit (place_cells g (p ∷ [])) rs) → WaitsAt g (p ∷ []) rs (awaited g p)
    bottom p rs e u =
        let a = fit_parts (replicate (inh g (nonterminal g.start)) valued) (replicate (syn g (nonterminal g.start)) marked) rs (subst (λ z. T (cells_fit z rs)) (ap (λ n. place_cells g (n ∷ [])) e ∙ nothing_below) u) in
        subst (λ n. WaitsAt g (n ∷ []) rs (awaited g n)) (sym e)
        (subst (λ z. WaitsAt g (segment_place ∷ []) z (nonterminal g.start)) (sym (a.joined ∙ ap (λ z. a.upper ++ z) (fit_marks (syn g (nonterminal g.start)) a.lower a.second)))
        (segment a.upper (fit_values (inh g (nonterminal g.start)) a.upper a.first)))
      where
        nothing_below : place_cells g (segment_place ∷ []) ≡ waiting_cells g (nonterminal g.start)
        nothing_below = append-nil (waiting_cells g (nonterminal g.start))
fit_waits g (p ∷ q ∷ qs) rs t u =
    let o = place_on_lem g p q qs t in
    let a = fit_place g (place_production p) (place_passed p) (place_cells g (q ∷ qs)) rs u in
    let e : place_production p * 256 + place_passed p ≡ p = omega arith in
    let below : WaitsAt g (q ∷ qs) a.lower (nonterminal (production_at g (place_production p)).left) = subst (λ z. WaitsAt g (q ∷ qs) a.lower z) o.2 (fit_waits g (q ∷ qs) a.lower o.3 a.lower_fit) in
    subst₂ (λ n z. WaitsAt g (n ∷ q ∷ qs) z (awaited g p)) e (sym a.joined) (inside (place_production p) (place_passed p) a.inherited a.passed o.0 o.1 (omega arith) a.inherited_fit a.passed_fit below)

-- ---- and back

pub record Fitting (g : Grammar) (ps : List ℕ) (rs : List ℤ) (x : Symbol) : Type 0 where
  pub places : T (places_fit g ps)
  pub cells : T (cells_fit (place_cells g ps) rs)
  pub named : awaited_top g ps ≡ x

place_above : (g : Grammar) (p : ℕ) (ps : List ℕ) → PlaceOn g p ps → T (places_fit g (p ∷ ps))
place_above g p [] o = absurd o.3
place_above g p (q ∷ qs) o = on_place_lem g p q qs o

waits_fit : (g : Grammar) {ps : List ℕ} {rs : List ℤ} {x : Symbol} → WaitsAt g ps rs x → Fitting g ps rs x
waits_fit g (segment vs v) = record { places = tt; cells = subst (λ z. T (cells_fit z (vs ++ replicate (syn g (nonterminal g.start)) mark))) (sym (append-nil (waiting_cells g (nonterminal g.start)))) (waiting_fit g (nonterminal g.start) vs v); named = refl }
waits_fit g (inside p k vs ss {ps} {rs} l s m v w below) =
    let r = waits_fit g below in
    let d : place_production (p * 256 + k) ≡ p = omega arith in
    let e : place_passed (p * 256 + k) ≡ k = omega arith in
    record {
      places = place_above g (p * 256 + k) ps (rw d l, rw (d, e) s, r.named ∙ rw d refl, r.places);
      cells = rw (d, e) (place_fit g p k (place_cells g ps) vs ss rs v w r.cells);
      named = rw (d, e) refl;
    }

-- ---- cells above the heights

module _ {A : Type 0} (f : A → Bool) (clear : A) (n h : ℕ) (mem : List A) (long : n ≤ length mem) where
  cleared_at : ((x : A) → T (f x) → x ≡ clear) → T (all f (take (n - h) (drop h mem))) → (i : ℕ) → h ≤ i → i < n → get_or mem i clear ≡ clear
  cleared_at is t i l m =
      let e : h + (i - h) ≡ i = omega arith in
      let s : i - h < length (take (n - h) (drop h mem)) = omega (arith, length-take (n - h) (drop h mem), length-drop h mem) in
      let same : get_or (take (n - h) (drop h mem)) (i - h) clear ≡ get_or mem i clear = get_or-take (n - h) (drop h mem) (i - h) clear (omega arith) ∙ (get_or-drop h mem (i - h) clear ∙ ap (λ k. get_or mem k clear) e) in
      is (get_or mem i clear) (subst (λ z. T (f z)) same (all_at f (take (n - h) (drop h mem)) (i - h) clear s t))

  at_cleared : T (f clear) → ((i : ℕ) → h ≤ i → i < n → get_or mem i clear ≡ clear) → T (all f (take (n - h) (drop h mem)))
  at_cleared t is = at_all f clear (take (n - h) (drop h mem)) (λ i l.
      let s : i < n - h = omega (arith, l, length-take (n - h) (drop h mem)) in
      let same : get_or (take (n - h) (drop h mem)) i clear ≡ clear = get_or-take (n - h) (drop h mem) i clear s ∙ (get_or-drop h mem i clear ∙ is (h + i) (omega arith) (omega arith)) in
      subst (λ z. T (f z)) (sym same) t)

-- ---- the whole test

abbrev pub alone : List ℕ → Bool
alone ps = elim ps [ [] ↦ false | p ∷ qs ↦ elim qs [ [] ↦ eqb p 32769 | q ∷ rest ↦ false ] ]

alone_is : (ps : List ℕ) → T (alone ps) → ps ≡ 32769 ∷ []
alone_is [] t = absurd t
alone_is (p ∷ []) t = ap (λ n. n ∷ []) (eqb→eq p 32769 t)
alone_is (p ∷ q ∷ qs) t = absurd t

module _ (g : Grammar) (ps : List ℕ) (rs : List ℤ) where
  stands_fit_lem : ((x : Symbol) × WaitsAt g ps rs x) ⊎ Left g ps rs → T (stack_fits g ps rs)
  stands_fit_lem (inl w) = let r = waits_fit g w.1 in or_left (places_fit g ps && cells_fit (place_cells g ps) rs) (alone ps && cells_fit (replicate (syn g (nonterminal g.start)) valued) rs) (and (places_fit g ps) (cells_fit (place_cells g ps) rs) r.places r.cells)
  stands_fit_lem (inr l) = or_right (places_fit g ps && cells_fit (place_cells g ps) rs) (alone ps && cells_fit (replicate (syn g (nonterminal g.start)) valued) rs)
      (and (alone ps) (cells_fit (replicate (syn g (nonterminal g.start)) valued) rs) (subst (λ z. T (alone z)) (sym l.place) tt) (values_fit_lem (syn g (nonterminal g.start)) rs l.results))

  fit_stands : T (stack_fits g ps rs) → ((x : Symbol) × WaitsAt g ps rs x) ⊎ Left g ps rs
  fit_stands t = go (or_cases (places_fit g ps && cells_fit (place_cells g ps) rs) (alone ps && cells_fit (replicate (syn g (nonterminal g.start)) valued) rs) t)
    where
      go : T (places_fit g ps && cells_fit (place_cells g ps) rs) ⊎ T (alone ps && cells_fit (replicate (syn g (nonterminal g.start)) valued) rs) → ((x : Symbol) × WaitsAt g ps rs x) ⊎ Left g ps rs
      go (inl u) = inl (awaited_top g ps, fit_waits g ps rs (both (places_fit g ps) (cells_fit (place_cells g ps) rs) u).0 (both (places_fit g ps) (cells_fit (place_cells g ps) rs) u).1)
      go (inr u) = inr (record { place = alone_is ps (both (alone ps) (cells_fit (replicate (syn g (nonterminal g.start)) valued) rs) u).0; results = fit_values (syn g (nonterminal g.start)) rs (both (alone ps) (cells_fit (replicate (syn g (nonterminal g.start)) valued) rs) u).1 })

abbrev Seven : Bool → Bool → Bool → Bool → Bool → Bool → Bool → Type 0
Seven a b c d e f h = T a × T b × T c × T d × T e × T f × T h

seven : (a b c d e f h : Bool) → T (a && b && c && d && e && f && h) → Seven a b c d e f h
seven a b c d e f h t =
    let t6 = (both (a && b && c && d && e && f) h t).0 in
    let t5 = (both (a && b && c && d && e) f t6).0 in
    let t4 = (both (a && b && c && d) e t5).0 in
    let t3 = (both (a && b && c) d t4).0 in
    let t2 = (both (a && b) c t3).0 in
    ((both a b t2).0, (both a b t2).1, (both (a && b) c t3).1, (both (a && b && c) d t4).1, (both (a && b && c && d) e t5).1, (both (a && b && c && d && e) f t6).1, (both (a && b && c && d && e && f) h t).1)

all_seven : (a b c d e f h : Bool) → Seven a b c d e f h → T (a && b && c && d && e && f && h)
all_seven a b c d e f h t = and (a && b && c && d && e && f) h (and (a && b && c && d && e) f (and (a && b && c && d) e (and (a && b && c) d (and (a && b) c (and a b t.0 t.1) t.2) t.3) t.4) t.5) t.6

module _ (g : Grammar) (r : Record) (m : Stacks) where
  abbrev tops : List ℕ
  tops = reverse (take r.place_height m.places)

  abbrev values : List ℤ
  values = reverse (take r.register_height m.registers)

  abbrev is_zero : ℕ → Bool
  is_zero p = eqb p 0

  abbrev Tests : Type 0
  Tests = Seven (leb r.tokens tokens_limit) (leb r.moves moves_limit) (leb r.register_height (lent_of m).max_registers) (leb r.place_height (lent_of m).max_places) (stack_fits g tops values)
      (all is_mark (take ((lent_of m).max_registers - r.register_height) (drop r.register_height m.registers)))
      (all is_zero (take ((lent_of m).max_places - r.place_height) (drop r.place_height m.places)))

  tests_fit : Tests → Fit g r m
  tests_fit t = record {
    tokens = leb→le r.tokens tokens_limit t.0;
    moves = leb→le r.moves moves_limit t.1;
    register_height = leb→le r.register_height (lent_of m).max_registers t.2;
    place_height = leb→le r.place_height (lent_of m).max_places t.3;
    stands = fit_stands g tops values t.4;
    registers_cleared = cleared_at is_mark mark (lent_of m).max_registers r.register_height m.registers (omega arith) mark_is t.5;
    places_cleared = cleared_at is_zero 0 (lent_of m).max_places r.place_height m.places (omega arith) (λ p u. eqb→eq p 0 u) t.6;
  }

  fit_tests : Fit g r m → Tests
  fit_tests f = (
    le→leb r.tokens tokens_limit f.tokens,
    le→leb r.moves moves_limit f.moves,
    le→leb r.register_height (lent_of m).max_registers f.register_height,
    le→leb r.place_height (lent_of m).max_places f.place_height,
    stands_fit_lem g tops values f.stands,
    at_cleared is_mark mark (lent_of m).max_registers r.register_height m.registers (omega arith) tt f.registers_cleared,
    at_cleared is_zero 0 (lent_of m).max_places r.place_height m.places (omega arith) tt f.places_cleared,
  )

  test_of : T (stacks_fit g r m) → Tests
  test_of t = seven (leb r.tokens tokens_limit) (leb r.moves moves_limit) (leb r.register_height (lent_of m).max_registers) (leb r.place_height (lent_of m).max_places) (stack_fits g tops values)
      (all is_mark (take ((lent_of m).max_registers - r.register_height) (drop r.register_height m.registers)))
      (all is_zero (take ((lent_of m).max_places - r.place_height) (drop r.place_height m.places))) t

  of_tests : Tests → T (stacks_fit g r m)
  of_tests t = all_seven (leb r.tokens tokens_limit) (leb r.moves moves_limit) (leb r.register_height (lent_of m).max_registers) (leb r.place_height (lent_of m).max_places) (stack_fits g tops values)
      (all is_mark (take ((lent_of m).max_registers - r.register_height) (drop r.register_height m.registers)))
      (all is_zero (take ((lent_of m).max_places - r.place_height) (drop r.place_height m.places))) t

pub fit_exactly : FitExactly
fit_exactly g r m = ((λ t. tests_fit g r m (test_of g r m t)), (λ f. of_tests g r m (fit_tests g r m f)))
