-- What stands on the frames alone, whatever the values: the whole segment's frame at the bottom, each other frame with a remove still to come, and each frame below another waiting at a symbol.
use Rattle.std.specs.Prelude.{ℕ, suc, ◌≡◌, refl, ◌⊎◌, Bool, true, false, not, T, ltb}
use Rattle.std.proofs.Common.{arith, sym, ap, ap₂, ◌∙◌, subst, inl, inr}
use mathlib.Core.List.{List, [], ◌∷◌, cons≢nil, cons-eq-cons}
use Rattle.meaning.specs.Base.{cons_if, is_empty}
use Rattle.meaning.specs.Grammar.{Symbol, terminal, nonterminal, Production, Grammar, production_at, added_for, whole}
use Rattle.meaning.specs.Derivation.{Listed}
use Rattle.meaning.specs.Scheme.{Instruction, add, evaluate, expect, test, remove, symbols_scheme, inherited_rules, synthesized_rules, tests_after, removed, scheme}
use Rattle.meaning.specs.Machine.{Frame, Config, Lent, Coming, moved, next, opening, parent_onward, scheme_at, is_expect}
use Rattle.meaning.specs.Part.{frame}
use Rattle.meaning.specs.Rules.{WellFormed}
use Rattle.theory_base.specs.Frames.{scheme_listed}
use Rattle.theory_base.specs.Steps.{at_hand, Result, result}

-- a remove is still to come
abbrev pub closes : List Instruction → Bool
closes [] = false
closes (expect x ∷ is) = closes is
closes (add n ∷ is) = closes is
closes (evaluate rs ∷ is) = closes is
closes (test cs ∷ is) = closes is
closes (remove n ∷ is) = true

-- below another frame
pub data Below : List Frame → Type 0 where
  segment : (x : Symbol) → Below (frame whole (expect x ∷ []) ∷ [])
  inside : (p : ℕ) (x : Symbol) (is : List Instruction) {fs : List Frame} → T (closes is) → Below fs → Below (frame p (expect x ∷ is) ∷ fs)

pub data Framed : List Frame → Type 0 where
  begun : (x : Symbol) → Framed (frame whole (expect x ∷ []) ∷ [])
  left : Framed (frame whole [] ∷ [])
  on : (p : ℕ) (is : List Instruction) {fs : List Frame} → T (closes is) → Below fs → Framed (frame p is ∷ fs)

pub opening_framed : (g : Grammar) → Framed (opening g).frames
opening_framed g = begun (nonterminal g.start)

-- ---- taken apart

pub no_frames : {fs : List Frame} → Framed fs → fs ≡ [] → ⊥
no_frames (begun x) e = cons≢nil e
no_frames left e = cons≢nil e
no_frames (on p is k b) e = cons≢nil e

-- a frame with nothing left is the whole segment's, and stands alone
pub nothing_left : {zs : List Frame} → Framed zs → (p : ℕ) (fs : List Frame) → zs ≡ frame p [] ∷ fs → (p ≡ whole) × (fs ≡ [])
nothing_left (begun x) p fs e = let s = cons-eq-cons.0 e in absurd (cons≢nil (ap (λ f. f.rest) s.0))
nothing_left left p fs e = let s = cons-eq-cons.0 e in (sym (ap (λ f. f.production) s.0), sym s.1)
nothing_left (on q is {fs = zs} k b) p fs e = let s = cons-eq-cons.0 e in absurd (subst (λ z. T (closes z)) (ap (λ f. f.rest) s.0) k)

-- a frame with an instruction left
abbrev FirstFrame : ℕ → Instruction → List Instruction → List Frame → Type 0
FirstFrame p i is fs = ((p ≡ whole) × (is_expect i ≡ 1) × (is ≡ []) × (fs ≡ [])) ⊎ (T (closes (i ∷ is)) × Below fs)

first_frame : {zs : List Frame} → Framed zs → (p : ℕ) (i : Instruction) (is : List Instruction) (fs : List Frame) → zs ≡ frame p (i ∷ is) ∷ fs → FirstFrame p i is fs
first_frame (begun x) p i is fs e =
    let s = cons-eq-cons.0 e in
    let r = cons-eq-cons.0 (ap (λ f. f.rest) s.0) in
    inl (sym (ap (λ f. f.production) s.0), sym (ap is_expect r.0), sym r.1, sym s.1)
first_frame left p i is fs e = let s = cons-eq-cons.0 e in absurd (cons≢nil (sym (ap (λ f. f.rest) s.0)))
first_frame (on q js {fs = zs} k b) p i is fs e =
    let s = cons-eq-cons.0 e in
    inr (subst (λ z. T (closes z)) (ap (λ f. f.rest) s.0) k, subst Below s.1 b)

-- ---- a scheme ends with its remove

skip : (b : Bool) (i : Instruction) (is : List Instruction) → closes (i ∷ is) ≡ closes is → closes (cons_if b i is) ≡ closes is
skip true i is e = e
skip false i is e = refl

closes_symbols : (g : Grammar) (p : Production) (k : ℕ) (xs : List Symbol) (tail : List Instruction) → closes (symbols_scheme g p k xs tail) ≡ closes tail
closes_symbols g p k [] tail = refl
closes_symbols g p k (x ∷ xs) tail =
    let later : List Instruction = symbols_scheme g p (suc k) xs tail in
    let waits : List Instruction = expect x ∷ cons_if (not (is_empty (tests_after g p k))) (test (tests_after g p k)) later in
    let hands : List Instruction = cons_if (not (is_empty (inherited_rules g p k))) (evaluate (inherited_rules g p k)) waits in
    skip (ltb 0 (added_for g x)) (add (added_for g x)) hands refl
    ∙ (skip (not (is_empty (inherited_rules g p k))) (evaluate (inherited_rules g p k)) waits refl
    ∙ (skip (not (is_empty (tests_after g p k))) (test (tests_after g p k)) later refl ∙ closes_symbols g p (suc k) xs tail))

closes_scheme : (g : Grammar) (p : Production) → closes (scheme g p) ≡ true
closes_scheme g p =
    let last : List Instruction = remove (removed g p) ∷ [] in
    closes_symbols g p 1 p.right (cons_if (not (is_empty (synthesized_rules g p))) (evaluate (synthesized_rules g p)) last) ∙ skip (not (is_empty (synthesized_rules g p))) (evaluate (synthesized_rules g p)) last refl

closes_at : (g : Grammar) → WellFormed g → (p : ℕ) → Listed g p → T (closes (scheme_at g p))
closes_at g w p l = subst T (sym (ap closes (scheme_listed g w p l) ∙ closes_scheme g (production_at g p))) tt

-- ---- a move

parent_framed : {fs : List Frame} → Below fs → Framed (parent_onward fs)
parent_framed (segment x) = left
parent_framed (inside p x is k b) = on p is k b

module _ (g : Grammar) (w : WellFormed g) (lent : Lent) (l : Coming) (c d : Config) where
  abbrev To : Config → Type 0
  To z = Framed z.frames

  -- an instruction that expects nothing
  onward : (p : ℕ) (i : Instruction) (is : List Instruction) (fs : List Frame) → is_expect i ≡ 0 → closes (i ∷ is) ≡ closes is → FirstFrame p i is fs → Framed (frame p is ∷ fs)
  onward p i is fs e k (inl h) = absurd (omega (arith, e, h.1))
  onward p i is fs e k (inr h) = on p is (subst T k h.0) h.1

  reads : (p t : ℕ) (is : List Instruction) (fs : List Frame) → FirstFrame p (expect (terminal t)) is fs → Framed (frame p is ∷ fs)
  reads p t is fs (inl h) = subst Framed (sym (ap₂ (λ (f : Frame) (zs : List Frame). f ∷ zs) (ap₂ frame h.0 h.2) h.3)) left
  reads p t is fs (inr h) = on p is h.0 h.1

  stays : (p n : ℕ) (is : List Instruction) (fs : List Frame) → FirstFrame p (expect (nonterminal n)) is fs → Below (frame p (expect (nonterminal n) ∷ is) ∷ fs)
  stays p n is fs (inl h) = subst Below (sym (ap₂ (λ (f : Frame) (zs : List Frame). f ∷ zs) (ap₂ (λ q js. frame q (expect (nonterminal n) ∷ js)) h.0 h.2) h.3)) (segment (nonterminal n))
  stays p n is fs (inr h) = inside p (nonterminal n) is h.0 h.1

  removes : (p n : ℕ) (is : List Instruction) (fs : List Frame) → FirstFrame p (remove n) is fs → Framed (parent_onward fs)
  removes p n is fs (inl h) = absurd (omega (arith, h.1))
  removes p n is fs (inr h) = parent_framed h.1

  by_result : (p : ℕ) (i : Instruction) (is : List Instruction) (fs : List Frame) → c.frames ≡ frame p (i ∷ is) ∷ fs → FirstFrame p i is fs → Result g lent l c (frame p (i ∷ is)) fs i d → To d
  by_result p (add n) is fs e h r = subst To r.1 (onward p (add n) is fs refl refl h)
  by_result p (evaluate rs) is fs e h r = subst To r.1 (onward p (evaluate rs) is fs refl refl h)
  by_result p (test cs) is fs e h r = subst To r.1 (onward p (test cs) is fs refl refl h)
  by_result p (remove n) is fs e h r = subst To r (removes p n is fs h)
  by_result p (expect (terminal t)) is fs e h r = subst To r.result (reads p t is fs h)
  by_result p (expect (nonterminal n)) is fs e h r = subst To r.result (on r.production (scheme_at g r.production) (closes_at g w r.production r.listed) (subst Below (sym e) (stays p n is fs h)))

  pub framed_move : Framed c.frames → next g lent l c ≡ moved d → Framed d.frames
  framed_move k h =
      let a = at_hand g lent l c d h in
      let f : Frame = frame a.production (a.instruction ∷ a.rest) in
      by_result a.production a.instruction a.rest a.below a.frames (first_frame k a.production a.instruction a.rest a.below a.frames) (result g lent l c f a.below a.instruction d a.makes)
