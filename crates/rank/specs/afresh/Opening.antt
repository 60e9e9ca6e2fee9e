-- Stacks of which all but the first cells are clear, and what is known of them after a candidate.
use Rattle.std.specs.Prelude.{ℕ, zero, suc, ◌+◌, ◌-◌, ◌≤◌, min, ◌≡◌, List, ◌∷◌, ◌++◌, length, take, drop, replicate, ℤ}
use Rattle.std.proofs.Common.{arith, sym, ap, ◌∙◌, drop_of_length-le}
use Rattle.meaning.specs.Limits.{registers_limit, places_limit}
use Rattle.meaning.specs.Value.{mark}
use Rattle.records.specs.declared.Handed.{Handed}
use Rattle.records.specs.declared.Answer.TheVariants.{Refused}
use Rattle.rank.specs.declared.afresh.Candidate.{Candidate}

-- the cells from a and b on are clear
pub record Clean (vs : List ℤ) (ps : List ℕ) (a b : ℕ) : Type 0 where
  pub registers : drop a vs ≡ replicate (length vs - a) mark
  pub places : drop b ps ≡ replicate (length ps - b) 0
  pub few : a ≤ length vs
  pub little : b ≤ length ps

-- of the lent ones
abbrev pub LentClean : List ℤ → List ℕ → ℕ → ℕ → Type 0
LentClean vs ps a b = Clean (take (min (length vs) registers_limit) vs) (take (min (length ps) places_limit) ps) a b

-- nothing is known of any cell
pub clean_unknown : (vs : List ℤ) (ps : List ℕ) → Clean vs ps (length vs) (length ps)
clean_unknown vs ps =
    let a : length vs - length vs ≡ 0 = omega arith in
    let b : length ps - length ps ≡ 0 = omega arith in
    record {
      registers = drop_of_length-le vs {i = length vs} (omega arith) ∙ sym (ap (λ k. replicate k mark) a);
      places = drop_of_length-le ps {i = length ps} (omega arith) ∙ sym (ap (λ k. replicate {A = ℕ} k 0) b);
      few = omega arith;
      little = omega arith;
    }

replicate_more : {A : Type 0} (x : A) (a b : ℕ) → replicate a x ++ replicate b x ≡ replicate (a + b) x
replicate_more x zero b = let e : b ≡ 0 + b = omega arith in ap (λ n. replicate n x) e
replicate_more x (suc a) b = let e : suc (a + b) ≡ suc a + b = omega arith in ap (λ t. x ∷ t) (replicate_more x a b) ∙ ap (λ n. replicate n x) e

-- the first a cells cleared, the others clear
pub all_cleared : {A : Type 0} (x : A) (l : List A) (a : ℕ) → a ≤ length l → drop a l ≡ replicate (length l - a) x → replicate a x ++ drop a l ≡ replicate (length l) x
all_cleared x l a h e =
    let s : a + (length l - a) ≡ length l = omega arith in
    ap (λ t. replicate a x ++ t) e ∙ (replicate_more x a (length l - a) ∙ ap (λ n. replicate n x) s)

-- ---- what a candidate leaves

-- refused at opening
abbrev pub unopened_from : ℕ → ℕ → ℕ → Candidate
unopened_from number a b = record { answer = Refused number 0; registers = a; places = b }

-- by a run
abbrev pub left_from : Handed → Candidate
left_from c = record { answer = c.answer; registers = c.state.registers; places = c.state.places }
