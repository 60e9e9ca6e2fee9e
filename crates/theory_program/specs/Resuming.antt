-- A place, and the code from which its production goes on.
use Rattle.std.specs.Prelude.{ℕ, zero, suc, ◌<◌, ◌≡◌, ◌⊎◌, List, [], ◌∷◌, cond, length, T, eqb, ltb}
use Rattle.std.proofs.Common.{arith, sym, ap, subst, inl, inr, ltb→lt, eqb→eq}
use Rattle.meaning.specs.Grammar.{Grammar, production_at, whole, place_production, place_passed}
use Rattle.meaning.specs.Rules.{WellFormed}
use Rattle.meaning.specs.Scheme.{Instruction, add, evaluate, expect, test, remove}
use Rattle.meaning.specs.Machine.{scheme_at}
use Rattle.meaning.specs.Calls.{from_expect, frame_of, is_listed, place_waits}
use Rattle.theory_base.specs.Members.{both, or_cases}
use Rattle.theory_base.specs.WellFormed.{not_whole}
use Rattle.theory_program.specs.Code.{CodeAt}
use Rattle.theory_program.specs.Addresses.{Begins, expect_address, whole_at, expect_at}
use Rattle.theory_program.specs.Proper.{ProperInstruction, AllProper, production_in, scheme_proper}
use Rattle.theory_base.specs.Frames.{scheme_listed}

-- where the code of a place begins: the whole segment's stands in words 0 and 1
abbrev pub place_address : Grammar → ℕ → ℕ
place_address g q = cond (eqb (place_production q) whole) (place_passed q) (expect_address g (place_production q) (place_passed q))

listed_cases : (g : Grammar) (p : ℕ) → T (is_listed g p) → (p < length g.productions) ⊎ (p ≡ whole)
listed_cases g p t = go (or_cases (ltb p (length g.productions)) (eqb p whole) t)
  where
    go : T (ltb p (length g.productions)) ⊎ T (eqb p whole) → (p < length g.productions) ⊎ (p ≡ whole)
    go (inl s) = inl (ltb→lt p (length g.productions) s)
    go (inr s) = inr (eqb→eq p whole s)

-- ---- code

module _ {g : Grammar} {ws : List ℕ} (b : Begins g ws) (w : WellFormed g) where
  code_waits : (p k : ℕ) → (p < length g.productions) ⊎ (p ≡ whole) → k < length (production_at g p).right → CodeAt ws (cond (eqb p whole) k (expect_address g p k)) (from_expect (scheme_at g p) k)
  code_waits p k (inl l) m =
      subst (λ a. CodeAt ws a (from_expect (scheme_at g p) k)) (ap (λ c. cond c k (expect_address g p k)) (sym (not_whole g w p l)))
      (subst (λ is. CodeAt ws (expect_address g p k) (from_expect is k)) (sym (scheme_listed g w p l)) (expect_at b w p l k m))
  code_waits p k (inr e) m = subst (λ r. CodeAt ws (cond (eqb r whole) k (expect_address g r k)) (from_expect (scheme_at g r) k)) (sym e) (first k (subst (λ r. k < length (production_at g r).right) e m))
    where
      first : (k : ℕ) → k < length (production_at g whole).right → CodeAt ws k (from_expect (scheme_at g whole) k)
      first zero l = whole_at b
      first (suc k) l = absurd (omega arith)

  pub place_code : (q : ℕ) → T (place_waits g q) → CodeAt ws (place_address g q) (frame_of g q).rest
  place_code q t =
      let right = length (production_at g (place_production q)).right in
      let h = both (is_listed g (place_production q)) (ltb (place_passed q) right) t in
      code_waits (place_production q) (place_passed q) (listed_cases g (place_production q) h.0) (ltb→lt (place_passed q) right h.1)

-- ---- what the instructions hold

proper_from : (g : Grammar) (is : List Instruction) (k : ℕ) → AllProper g is → AllProper g (from_expect is k)
proper_from g [] k h = h
proper_from g (expect x ∷ is) zero h = h
proper_from g (expect x ∷ is) (suc k) h = proper_from g is k (λ i j. h i (inr j))
proper_from g (add n ∷ is) k h = proper_from g is k (λ i j. h i (inr j))
proper_from g (evaluate rs ∷ is) k h = proper_from g is k (λ i j. h i (inr j))
proper_from g (test cs ∷ is) k h = proper_from g is k (λ i j. h i (inr j))
proper_from g (remove n ∷ is) k h = proper_from g is k (λ i j. h i (inr j))

pub listed_proper : (g : Grammar) → WellFormed g → (p : ℕ) → T (is_listed g p) → AllProper g (scheme_at g p)
listed_proper g w p t = go (listed_cases g p t)
  where
    start : AllProper g (scheme_at g whole)
    start i (inl e) = subst (ProperInstruction g) (sym e) w.start
    start i (inr j) = absurd j

    go : (p < length g.productions) ⊎ (p ≡ whole) → AllProper g (scheme_at g p)
    go (inl l) = subst (AllProper g) (sym (scheme_listed g w p l)) (scheme_proper g w (production_at g p) (production_in g w p l))
    go (inr e) = subst (λ r. AllProper g (scheme_at g r)) (sym e) start

pub place_proper : (g : Grammar) → WellFormed g → (q : ℕ) → T (is_listed g (place_production q)) → AllProper g (frame_of g q).rest
place_proper g w q t = proper_from g (scheme_at g (place_production q)) (place_passed q) (listed_proper g w (place_production q) t)
