-- What the word at hand says of a token before any try.
use Rattle.std.specs.Prelude.{ℕ, ◌+◌, ◌*◌, ◌<◌, ◌≡◌, refl, Bool, true, false, not, List, [], ◌∷◌, length, get_or, eqb}
use Rattle.std.proofs.Common.{arith, sym, ap, ap₂, eq-eqb, ne_eqb}
use Rattle.meaning.specs.Program.{read_operation, predict_operation, nothing_operation}
use Rattle.theory_program.specs.Parts.{head_operation, head_operand}

-- the directory names an alternative of nonterminal n for token u
abbrev pub names_one : List ℕ → ℕ → ℕ → Bool
names_one ws n u = not (eqb (get_or ws (9 + 64 * n + u) 0) 0)

-- by what the operation waits for, a terminal, a nonterminal or nothing, and its operand
abbrev pub expected_by : Bool → Bool → Bool → List ℕ → ℕ → ℕ → Bool
expected_by is_terminal is_nonterminal is_nothing ws n u = elim is_terminal as (λ x. Bool) [ true ↦ eqb n u | false ↦ elim is_nonterminal as (λ x. Bool) [ true ↦ names_one ws n u | false ↦ not is_nothing ] ]

-- by the head word
abbrev pub expected_from : ℕ → List ℕ → ℕ → Bool
expected_from w ws u = expected_by (eqb (head_operation w) read_operation) (eqb (head_operation w) predict_operation) (eqb (head_operation w) nothing_operation) ws (head_operand w) u

abbrev pub expected_at : List ℕ → ℕ → ℕ → Bool
expected_at ws a u = expected_from (get_or ws a 0) ws u

-- an expect of terminal 5
own_token : expected_from 42 [] 5 ≡ true
own_token = refl

other_token : expected_from 42 [] 6 ≡ false
other_token = refl

-- an expect of nonterminal 0, for which the directory names production 2 at token 1 and none at token 0
directory_some : expected_from 3 (3 ∷ 6 ∷ 73 ∷ 2 ∷ 1 ∷ 0 ∷ 3 ∷ 0 ∷ 0 ∷ 0 ∷ 3 ∷ []) 1 ≡ true
directory_some = refl

directory_none : expected_from 3 (3 ∷ 6 ∷ 73 ∷ 2 ∷ 1 ∷ 0 ∷ 3 ∷ 0 ∷ 0 ∷ 0 ∷ 3 ∷ []) 0 ≡ false
directory_none = refl

nothing_left : expected_from 6 [] 0 ≡ false
nothing_left = refl

-- an add looks at no token
add_looks : expected_from 8 [] 0 ≡ true
add_looks = refl

module _ (w : ℕ) (ws : List ℕ) (u : ℕ) where
  pub from_terminal : head_operation w ≡ read_operation → eqb (head_operand w) u ≡ expected_from w ws u
  from_terminal e = sym (ap (λ b. expected_by b (eqb (head_operation w) predict_operation) (eqb (head_operation w) nothing_operation) ws (head_operand w) u) (eq-eqb (head_operation w) read_operation e))

  pub from_nonterminal : head_operation w ≡ predict_operation → names_one ws (head_operand w) u ≡ expected_from w ws u
  from_nonterminal e = sym (ap₂ (λ b d. expected_by b d (eqb (head_operation w) nothing_operation) ws (head_operand w) u) (ne_eqb (head_operation w) read_operation (λ z. omega arith)) (eq-eqb (head_operation w) predict_operation e))

  pub from_other : (head_operation w ≡ read_operation → ⊥) → (head_operation w ≡ predict_operation → ⊥) → not (eqb (head_operation w) nothing_operation) ≡ expected_from w ws u
  from_other x y = sym (ap₂ (λ b d. expected_by b d (eqb (head_operation w) nothing_operation) ws (head_operand w) u) (ne_eqb (head_operation w) read_operation x) (ne_eqb (head_operation w) predict_operation y))

-- the words that are read stand in the program
pub record Legible (ws : List ℕ) (a u : ℕ) : Type 0 where
  pub inside : a < length ws
  pub directory : head_operation (get_or ws a 0) ≡ predict_operation → 9 + 64 * head_operand (get_or ws a 0) + u < length ws
  pub small : u < 64
