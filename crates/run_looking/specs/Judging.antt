-- How what comes next is judged before its moves, which operations look at it, and the value that a token brings.
use Rattle.std.specs.Prelude.{ℕ, ◌≤◌, ◌<◌, ◌≡◌, refl, Bool, true, false, ◌||◌, List, length, get_or, eqb, ltb, leb, ℤ, Result, Ok, Err}
use Rattle.std.proofs.Common.{sym, ap, ap₂, ◌∙◌, lt-ltb, le-ltb, le-leb, ltb-true, ltb-false, leb-false}
use Rattle.std.proofs.lemmas.Bool.{lt-leb}
use Rattle.meaning.specs.Value.{mark}
use Rattle.meaning.specs.Program.{read_operation, predict_operation, nothing_operation}
use Rattle.theory_program.specs.Parts.{in_set}
use Rattle.refusals.specs.declared.Refusal.TheVariants.{UnknownToken, LimitReached}
use Rattle.run_moves.specs.declared.Halt.{Halt}
use Rattle.run_moves.specs.declared.Halt.TheVariants.{Pause, Refused}

-- ---- what comes next, judged before its moves

-- whether what comes next is taken
abbrev pub Judged : Type 0
Judged = Result (Unit {0}) Halt

-- nothing comes; more than the most tokens were read before; it is below the bound, and taken
abbrev pub judged_by : Bool → Bool → Bool → Judged
judged_by over late known = elim over as (λ x. Judged) [ true ↦ Err Pause | false ↦ elim late as (λ x. Judged) [ true ↦ Err (Refused LimitReached) | false ↦ elim known as (λ x. Judged) [ true ↦ Ok tt | false ↦ Err (Refused UnknownToken) ] ] ]

abbrev pub judged_of : ℕ → ℕ → List ℕ → ℕ → ℕ → Judged
judged_of bound most us i n = judged_by (leb (length us) i) (ltb most n) (ltb (get_or us i 0) bound)

module _ (bound most : ℕ) (us : List ℕ) (i n : ℕ) where
  pub judged_over : length us ≤ i → Err Pause ≡ judged_of bound most us i n
  judged_over l = sym (ap (λ a. judged_by a (ltb most n) (ltb (get_or us i 0) bound)) (le-leb (length us) i l))

  pub judged_late : i < length us → most < n → Err (Refused LimitReached) ≡ judged_of bound most us i n
  judged_late l m = sym (ap₂ (λ a b. judged_by a b (ltb (get_or us i 0) bound)) (lt-leb (length us) i l) (lt-ltb most n m))

  pub judged_unknown : i < length us → n ≤ most → bound ≤ get_or us i 0 → Err (Refused UnknownToken) ≡ judged_of bound most us i n
  judged_unknown l m b = sym (ap₂ (λ x y. judged_by x y (ltb (get_or us i 0) bound)) (lt-leb (length us) i l) (le-ltb most n m) ∙ ap (judged_by false false) (le-ltb (get_or us i 0) bound b))

  pub judged_taken : i < length us → n ≤ most → get_or us i 0 < bound → Ok tt ≡ judged_of bound most us i n
  judged_taken l m b = sym (ap₂ (λ x y. judged_by x y (ltb (get_or us i 0) bound)) (lt-leb (length us) i l) (le-ltb most n m) ∙ ap (judged_by false false) (lt-ltb (get_or us i 0) bound b))

  -- what a token that is taken is
  pub taken_of : Ok tt ≡ judged_of bound most us i n → (i < length us) × (n ≤ most) × (get_or us i 0 < bound)
  taken_of = go (leb (length us) i) (ltb most n) (ltb (get_or us i 0) bound) refl refl refl
    where
      go : (a b c : Bool) → leb (length us) i ≡ a → ltb most n ≡ b → ltb (get_or us i 0) bound ≡ c → Ok tt ≡ judged_by a b c → (i < length us) × (n ≤ most) × (get_or us i 0 < bound)
      go true b c x y z e = absurd (cc)
      go false true c x y z e = absurd (cc)
      go false false false x y z e = absurd (cc)
      go false false true x y z e = (leb-false (length us) i x, ltb-false most n y, ltb-true (get_or us i 0) bound z)

-- ---- the operation at hand

-- the operations that need what comes next, and the number that says that nothing is left
abbrev pub looks_ahead : ℕ → Bool
looks_ahead k = eqb k read_operation || (eqb k predict_operation || eqb k nothing_operation)

-- ---- the value of a token

-- the program's bit of terminal u
abbrev pub carries_at : List ℕ → ℕ → Bool
carries_at ws u = in_set ws 7 u

abbrev pub value_if : Bool → ℤ → ℤ
value_if true v = v
value_if false v = mark

-- its value, or the mark where it carries none
abbrev pub value_at : List ℕ → ℕ → ℤ → ℤ
value_at ws u v = value_if (carries_at ws u) v

module _ (ws : List ℕ) (u : ℕ) (v : ℤ) where
  pub value_there : carries_at ws u ≡ true → v ≡ value_at ws u v
  value_there e = sym (ap (λ b. value_if b v) e)

  pub value_none : carries_at ws u ≡ false → mark ≡ value_at ws u v
  value_none e = sym (ap (λ b. value_if b v) e)
