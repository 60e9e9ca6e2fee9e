-- Return addresses, each beside the place that goes on from it: what they say, whatever grammar the words are the program of.
use Rattle.std.specs.Prelude.{ℕ, ◌+◌, ◌-◌, ◌*◌, ◌/◌, ◌<◌, ◌≡◌, refl, Bool, true, false, List, ◌∷◌, map, ◌⊎◌, length, get_or, set, replicate, T, eqb, ltb, ℤ}
use Rattle.std.proofs.Common.{arith, sym, ap, ◌∙◌, subst, true≢false, inl, inr, length-set, get_or-set_same, get_or-set_other, eqb→eq, ltb→lt, eq-eqb}
use Rattle.std.proofs.lemmas.List.{length-replicate, get_or-replicate}
use Rattle.meaning.specs.Grammar.{Grammar, production_at, whole, place_production}
use Rattle.meaning.specs.Scheme.{Instruction}
use Rattle.meaning.specs.Rules.{WellFormed}
use Rattle.meaning.specs.Machine.{Frame, Config, Lent, place_of}
use Rattle.meaning.specs.Part.{frame}
use Rattle.meaning.specs.Program.{scheme_words, predict_operation}
use Rattle.meaning.specs.Calls.{frame_of, is_listed, place_waits}
use Rattle.theory_base.specs.Members.{both, or_cases}
use Rattle.theory_answers.specs.Shape as Shape
use Rattle.theory_answers.specs.Shape.{Due, adds, hands, waits, tests, closes, removes, StandsOnFrames}
use Rattle.theory_answers.specs.ShapeMemory.{place_back}
use Rattle.theory_program.specs.Parts.{head_operation}
use Rattle.theory_program.specs.Addresses.{Begins}
use Rattle.theory_program.specs.Resuming.{place_address}
use Rattle.run_moves.specs.declared.Run.{Run}
use Rattle.run_moves.specs.Laid.{LaidIn, laid_read}
use Rattle.run_moves.specs.Ahead.{Ahead, code_end, place_end}
use Rattle.run_moves.specs.Held.{Held, top_frame, bounds, hand_nonterminal}
use Rattle.run_moves.specs.Passing.{first_operation, place_waiting, Waiting, resumed, resumed_whole}

-- ---- what they say

-- place q goes on from address a
abbrev pub ReturnsTo : List ℕ → ℕ → ℕ → Type 0
ReturnsTo ws q a = (g : Grammar) → Begins g ws → WellFormed g → Waiting g q → a ≡ place_address g q

-- what is kept for height h is a place and its return address
abbrev pub Returns : List ℕ → List ℕ → Type 0
Returns ws ns = (h : ℕ) → h < length ns / 2 → ReturnsTo ws (get_or ns (2 * h) 0) (get_or ns (2 * h + 1) 0)

-- ---- the place that waits at a predict

-- a frame whose first instruction is an expect
module _ (g : Grammar) (w : WellFormed g) {p : ℕ} {fs : List Frame} {base : List ℤ} (s : StandsOnFrames g p fs base) where
  waits_back : {k : ℕ} {rest : List Instruction} {top results : List ℤ} → Due g p k rest top results → first_operation rest ≡ 3 → T (place_waits g (place_of g (frame p rest))) × (frame_of g (place_of g (frame p rest)) ≡ frame p rest)
  waits_back (adds x xs e) z = absurd (omega arith)
  waits_back (hands x xs e) z = absurd (omega arith)
  waits_back {k} (waits x xs is e v) z = (place_waiting g w s k x xs e, place_back g w s k x xs e)
  waits_back (tests xs e) z = absurd (omega arith)
  waits_back (closes e l) z = absurd (omega arith)
  waits_back (removes rs e l v) z = absurd (omega arith)
  waits_back (Shape.ends e l) z = absurd (omega arith)

module _ {g : Grammar} {ws : List ℕ} {lent : Lent} {m : List ℤ} {ps : List ℕ} {run : Run} {c : Config} (h : Held g ws lent m ps run c) (o : head_operation (get_or ws run.at 0) ≡ predict_operation) where
  abbrev place : ℕ
  place = get_or ps (run.places - 1) 0

  waits_here : T (place_waits g place) × (run.at ≡ place_address g place)
  waits_here =
      let s = h.shaped in
      let p = s.production in
      let rest = s.rest in
      let x = hand_nonterminal h o in
      let is_rest = ap (λ fs. first_operation (top_frame fs).rest) (s.is_frames ∙ x.frames) in
      let b = waits_back g h.well_formed s.stands s.due is_rest in
      let l : LaidIn 0 lent.max_places ps run.places (map (place_of g) (frame p rest ∷ s.below)) = subst (λ fs. LaidIn 0 lent.max_places ps run.places (map (place_of g) fs)) (sym s.is_frames) h.places in
      let is_place : place ≡ place_of g (frame p rest) = laid_read l 1 (omega arith) (bounds h).some_place in
      let a : Ahead g ws run.at (frame p rest) = subst (λ fs. Ahead g ws run.at (top_frame fs)) (sym s.is_frames) h.ahead in
      let e : place_address g (place_of g (frame p rest)) + length (scheme_words rest) ≡ code_end g p = subst (λ f. place_address g (place_of g (frame p rest)) + length (scheme_words f.rest) ≡ code_end g f.production) b.1 (place_end g (place_of g (frame p rest)) b.0) in
      let same : run.at ≡ place_address g (place_of g (frame p rest)) = omega (arith, e, a.exact) in
      (subst (λ q. T (place_waits g q)) (sym is_place) b.0, same ∙ ap (place_address g) (sym is_place))

  -- its code is at hand
  pub return_here : ReturnsTo ws place run.at
  return_here g' b' w' t' = go (eqb (place_production place) whole) refl
    where
      t : Waiting g place
      t n = waits_here.0

      go : (z : Bool) → eqb (place_production place) whole ≡ z → run.at ≡ place_address g' place
      go true e =
          let y : place_production place ≡ whole = eqb→eq (place_production place) whole (rw e tt) in
          waits_here.1 ∙ (sym (resumed_whole h.begins h.well_formed place t y) ∙ resumed_whole b' w' place t' y)
      go false e =
          let n : place_production place ≡ whole → ⊥ = λ y. true≢false (sym (eq-eqb (place_production place) whole y) ∙ e) in
          waits_here.1 ∙ (sym (resumed h.begins h.well_formed place t n).address ∙ (resumed b' w' place t' n).address)

-- ---- return addresses kept

pub returns_set : (ws ns : List ℕ) (k q a : ℕ) → k < length ns / 2 → Returns ws ns → ReturnsTo ws q a → Returns ws (set (set ns (2 * k) q) (2 * k + 1) a)
returns_set ws ns k q a l old new h s = go (eqb h k) refl
  where
    size : length (set ns (2 * k) q) ≡ length ns
    size = length-set ns (2 * k) q

    all : length (set (set ns (2 * k) q) (2 * k + 1) a) ≡ length ns
    all = length-set (set ns (2 * k) q) (2 * k + 1) a ∙ size

    inside : h < length ns / 2
    inside = omega (arith, s, all)

    same : get_or (set (set ns (2 * k) q) (2 * k + 1) a) (2 * k) 0 ≡ q
    same = get_or-set_other (set ns (2 * k) q) (2 * k + 1) (2 * k) a 0 (λ e. omega (arith, e)) ∙ get_or-set_same ns (2 * k) q 0 (omega (arith, l))

    go : (z : Bool) → eqb h k ≡ z → ReturnsTo ws (get_or (set (set ns (2 * k) q) (2 * k + 1) a) (2 * h) 0) (get_or (set (set ns (2 * k) q) (2 * k + 1) a) (2 * h + 1) 0)
    go true e =
        let y : h ≡ k = eqb→eq h k (rw e tt) in
        rw (y, same, get_or-set_same (set ns (2 * k) q) (2 * k + 1) a 0 (omega (arith, l, size))) new
    go false e =
        let n : h ≡ k → ⊥ = λ y. true≢false (sym (eq-eqb h k y) ∙ e) in
        let one = set ns (2 * k) q in
        let first = get_or-set_other one (2 * k + 1) (2 * h) a 0 (λ z. omega (arith, z)) ∙ get_or-set_other ns (2 * k) (2 * h) q 0 (λ z. omega (arith, z, n)) in
        let second = get_or-set_other one (2 * k + 1) (2 * h + 1) a 0 (λ z. omega (arith, z, n)) ∙ get_or-set_other ns (2 * k) (2 * h + 1) q 0 (λ z. omega (arith, z)) in
        rw (first, second) (old h inside)

-- no place has this number
abbrev pub no_place : ℕ
no_place = 65536

return_none : (ws : List ℕ) (a : ℕ) → ReturnsTo ws no_place a
return_none ws a g b w t = absurd (go (or_cases (ltb 256 (length g.productions)) (eqb 256 whole) (both (is_listed g 256) (ltb 0 (length (production_at g 256).right)) (t (λ e. omega (arith, e)))).0))
  where
    go : T (ltb 256 (length g.productions)) ⊎ T (eqb 256 whole) → ⊥
    go (inl s) = omega (arith, ltb→lt 256 (length g.productions) s, w.productions)
    go (inr s) = absurd s

-- where none is kept yet
pub returns_none : (ws : List ℕ) (n : ℕ) → Returns ws (replicate n no_place)
returns_none ws n h l =
    let s : length (replicate n no_place) ≡ n = length-replicate n no_place in
    let e : get_or (replicate n no_place) (2 * h) 0 ≡ no_place = get_or-replicate n (2 * h) no_place 0 (omega (arith, l, s)) in
    subst (λ q. ReturnsTo ws q (get_or (replicate n no_place) (2 * h + 1) 0)) (sym e) (return_none ws (get_or (replicate n no_place) (2 * h + 1) 0))
