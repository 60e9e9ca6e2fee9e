-- The symbols that the frames still expect, and what a move does to them.
use Rattle.std.specs.Prelude.{ℕ, zero, suc, ◌≡◌, refl, Bool, true, false, not, List, [], ◌∷◌, ◌++◌, map, length, drop, T, eqb, ltb}
use Rattle.std.proofs.Common.{sym, ap, ◌∙◌, subst}
use Rattle.meaning.specs.Base.{cons_if, count_from, is_empty}
use Rattle.meaning.specs.Grammar.{Symbol, terminal, nonterminal, Production, Grammar, production_at, added_for, Leaf, Look, token, over}
use Rattle.meaning.specs.Derivation.{Listed}
use Rattle.meaning.specs.Sets.{has, starts, look_number}
use Rattle.meaning.specs.Scheme.{Instruction, add, evaluate, expect, test, remove, symbols_scheme, inherited_rules, synthesized_rules, tests_after, removed, scheme}
use Rattle.meaning.specs.Machine.{Frame, Config, Lent, Coming, comes, as_look, look_at, moved, next, parent_onward, scheme_at, is_of, entered, alternatives}
use Rattle.meaning.specs.Part.{frame}
use Rattle.meaning.specs.Rules.{WellFormed}
use Rattle.theory_base.specs.Members.{both, in_keep}
use Rattle.theory_base.specs.Frames.{scheme_listed}
use Rattle.theory_base.specs.Steps.{at_hand, Result, result, Predicted}

-- ---- kinds: all that a derivation says of tokens

abbrev pub kinds_of : List Leaf → List ℕ
kinds_of us = map (λ u. u.kind) us

abbrev pub look_of : List ℕ → Look
look_of [] = over
look_of (t ∷ ts) = token t

pub look_kinds : (us : List Leaf) → as_look (look_at us) ≡ look_of (kinds_of us)
look_kinds [] = refl
look_kinds (u ∷ us) = refl

pub kinds_drop : (n : ℕ) (us : List Leaf) → kinds_of (drop n us) ≡ drop n (kinds_of us)
kinds_drop zero us = refl
kinds_drop (suc n) [] = refl
kinds_drop (suc n) (u ∷ us) = kinds_drop n us

-- ---- what is expected

-- a remove ends a scheme
abbrev pub expected : List Instruction → List Symbol
expected [] = []
expected (expect x ∷ is) = x ∷ expected is
expected (add n ∷ is) = expected is
expected (evaluate rs ∷ is) = expected is
expected (test cs ∷ is) = expected is
expected (remove n ∷ is) = []

-- behind the symbols that these frames wait at
abbrev pub expected_below : List Frame → List Symbol
expected_below [] = []
expected_below (f ∷ fs) = expected (drop 1 f.rest) ++ expected_below fs

abbrev pub remaining : List Frame → List Symbol
remaining [] = []
remaining (f ∷ fs) = expected f.rest ++ expected_below fs

-- ---- a scheme expects its right side

skip : (b : Bool) (i : Instruction) (is : List Instruction) → expected (i ∷ is) ≡ expected is → expected (cons_if b i is) ≡ expected is
skip true i is e = e
skip false i is e = refl

expected_symbols : (g : Grammar) (p : Production) (k : ℕ) (xs : List Symbol) (tail : List Instruction) → expected tail ≡ [] → expected (symbols_scheme g p k xs tail) ≡ xs
expected_symbols g p k [] tail e = e
expected_symbols g p k (x ∷ xs) tail e =
    let later : List Instruction = symbols_scheme g p (suc k) xs tail in
    let waits : List Instruction = expect x ∷ cons_if (not (is_empty (tests_after g p k))) (test (tests_after g p k)) later in
    let hands : List Instruction = cons_if (not (is_empty (inherited_rules g p k))) (evaluate (inherited_rules g p k)) waits in
    skip (ltb 0 (added_for g x)) (add (added_for g x)) hands refl
    ∙ (skip (not (is_empty (inherited_rules g p k))) (evaluate (inherited_rules g p k)) waits refl
    ∙ ap {B = List Symbol} (λ l. x ∷ l) (skip (not (is_empty (tests_after g p k))) (test (tests_after g p k)) later refl ∙ expected_symbols g p (suc k) xs tail e))

expected_scheme : (g : Grammar) (p : Production) → expected (scheme g p) ≡ p.right
expected_scheme g p =
    let last : List Instruction = remove (removed g p) ∷ [] in
    expected_symbols g p 1 p.right (cons_if (not (is_empty (synthesized_rules g p))) (evaluate (synthesized_rules g p)) last) (skip (not (is_empty (synthesized_rules g p))) (evaluate (synthesized_rules g p)) last refl)

expected_at_lem : (g : Grammar) → WellFormed g → (p : ℕ) → Listed g p → expected (scheme_at g p) ≡ (production_at g p).right
expected_at_lem g w p l = ap expected (scheme_listed g w p l) ∙ expected_scheme g (production_at g p)

-- ---- a move

-- with l to come, and so many tokens read: what is expected stays, or begins with the token that is read, or with a nonterminal for which an alternative's right side comes in
pub data Passes (g : Grammar) (l : Coming) : List Symbol → ℕ → List Symbol → ℕ → Type 0 where
  stays : {xs : List Symbol} {n : ℕ} → Passes g l xs n xs n
  reads : (u : Leaf) {xs : List Symbol} {n : ℕ} → l ≡ comes u → Passes g l (terminal u.kind ∷ xs) n xs (suc n)
  predicts : (p : ℕ) {xs : List Symbol} {n : ℕ} → Listed g p → T (has (starts g (production_at g p)) (look_number (as_look l))) → Passes g l (nonterminal (production_at g p).left ∷ xs) n ((production_at g p).right ++ xs) n

parent : (fs : List Frame) → expected_below fs ≡ remaining (parent_onward fs)
parent [] = refl
parent (f ∷ fs) = refl

module _ (g : Grammar) (w : WellFormed g) (lent : Lent) (l : Coming) (c d : Config) where
  abbrev PassesTo : List Frame → Config → Type 0
  PassesTo fs z = Passes g l (remaining fs) c.tokens (remaining z.frames) z.tokens

  by_predict : (p n : ℕ) (is : List Instruction) (fs : List Frame) → c.frames ≡ frame p (expect (nonterminal n) ∷ is) ∷ fs → Predicted g lent n (as_look l) c.frames c.registers c.tokens c.moves d → PassesTo (frame p (expect (nonterminal n) ∷ is) ∷ fs) d
  by_predict p n is fs e r =
      let q : ℕ = r.production in
      let xs : List Symbol = expected is ++ expected_below fs in
      let a = (in_keep (entered g c.registers) (alternatives g n (as_look l)) q r.among).1 in
      let b = (in_keep (is_of g n (as_look l)) (count_from 0 (length g.productions)) q a).0 in
      let h = (both (eqb (production_at g q).left n) (has (starts g (production_at g q)) (look_number (as_look l))) b).1 in
      let v : Passes g l (nonterminal (production_at g q).left ∷ xs) c.tokens ((production_at g q).right ++ xs) c.tokens = predicts q r.listed h in
      let Expected : List Symbol → Type 0 = λ ys. Passes g l (nonterminal (production_at g q).left ∷ xs) c.tokens (ys ++ xs) c.tokens in
      let u : Passes g l (nonterminal n ∷ xs) c.tokens (expected (scheme_at g q) ++ xs) c.tokens = subst (λ m. Passes g l (nonterminal m ∷ xs) c.tokens (expected (scheme_at g q) ++ xs) c.tokens) r.left (subst Expected (sym (expected_at_lem g w q r.listed)) v) in
      subst (PassesTo (frame p (expect (nonterminal n) ∷ is) ∷ fs)) r.result (subst (λ z. Passes g l (nonterminal n ∷ xs) c.tokens (expected (scheme_at g q) ++ expected_below z) c.tokens) (sym e) u)

  by_result : (p : ℕ) (i : Instruction) (is : List Instruction) (fs : List Frame) → c.frames ≡ frame p (i ∷ is) ∷ fs → Result g lent l c (frame p (i ∷ is)) fs i d → PassesTo (frame p (i ∷ is) ∷ fs) d
  by_result p (add n) is fs e r = subst (PassesTo (frame p (add n ∷ is) ∷ fs)) r.1 stays
  by_result p (evaluate rs) is fs e r = subst (PassesTo (frame p (evaluate rs ∷ is) ∷ fs)) r.1 stays
  by_result p (test cs) is fs e r = subst (PassesTo (frame p (test cs ∷ is) ∷ fs)) r.1 stays
  by_result p (remove n) is fs e r = subst (PassesTo (frame p (remove n ∷ is) ∷ fs)) r (subst (λ ys. Passes g l (expected_below fs) c.tokens ys c.tokens) (parent fs) stays)
  by_result p (expect (terminal t)) is fs e r = subst (λ k. PassesTo (frame p (expect (terminal k) ∷ is) ∷ fs) d) r.kind (subst (PassesTo (frame p (expect (terminal r.leaf.kind) ∷ is) ∷ fs)) r.result (reads r.leaf r.ahead))
  by_result p (expect (nonterminal n)) is fs e r = by_predict p n is fs e r

  pub passes : next g lent l c ≡ moved d → PassesTo c.frames d
  passes h =
      let a = at_hand g lent l c d h in
      let f : Frame = frame a.production (a.instruction ∷ a.rest) in
      subst (λ fs. PassesTo fs d) (sym a.frames) (by_result a.production a.instruction a.rest a.below a.frames (result g lent l c f a.below a.instruction d a.makes))
