-- The words of a token and of a nonterminal at a position, from the counts that are looked up.
use Prim.Native.Nat.{ℕ, ◌+◌, ◌-◌, ◌≤◌, ◌<◌}
use mathlib.Core.Path.{◌≡◌, refl, sym, ◌∙◌, ap, ap₂}
use mathlib.Core.Bool.{true, false}
use mathlib.Core.List.{List}
use native.Mathlib.Omega.{arith}
use Rattle.meaning.specs.Grammar.{nonterminal_base}
use Rattle.meaning.specs.Sets.{has}
use Rattle.token_set.specs.SetBits.{set_of}
use Rattle.outline.specs.Counts.{count_at_value, synthesized_at, count_terminal, synthesized_terminal}
use Rattle.table_occurrences.specs.OccurrenceBits.{range_word, input_word, other_word}
use Rattle.table_occurrences.proofs.Laws.{input_first, input_later, other_first, other_later}

-- ---- tokens

one_word : 2 ≡ range_word 0 1
unfolding range_word
one_word = refl

none_word : 0 ≡ range_word 0 0
unfolding range_word
none_word = refl

module _ (k : ℕ) (inherited synthesized : List ℕ) (carrying symbol : ℕ) (token : symbol < nonterminal_base) where
  pub token_none : count_at_value inherited symbol ≡ 0
  token_none = sym (count_terminal inherited symbol token)

  token_input : (s : ℕ) → synthesized_at carrying synthesized symbol ≡ s → input_word k 0 s ≡ input_word k (count_at_value inherited symbol) (synthesized_at carrying synthesized symbol)
  token_input s e = ap₂ (input_word k) (sym token_none) (sym e)

  pub token_yes : 1 ≤ k → has (set_of carrying) symbol ≡ true → 2 ≡ input_word k (count_at_value inherited symbol) (synthesized_at carrying synthesized symbol)
  token_yes l e = one_word ∙ input_later k 0 1 (λ q. omega arith) ∙ token_input 1 (sym (synthesized_terminal carrying synthesized symbol token refl e))

  pub token_no : 1 ≤ k → has (set_of carrying) symbol ≡ false → 0 ≡ input_word k (count_at_value inherited symbol) (synthesized_at carrying synthesized symbol)
  token_no l e = none_word ∙ input_later k 0 0 (λ q. omega arith) ∙ token_input 0 (sym (synthesized_terminal carrying synthesized symbol token refl e))

empty_range : 65535 ≡ 65535 - range_word 0 0
unfolding range_word
empty_range = refl

-- a token settles nothing
pub token_other : (k : ℕ) (inherited : List ℕ) (symbol s : ℕ) → symbol < nonterminal_base → 1 ≤ k → 65535 ≡ other_word k (count_at_value inherited symbol) s
token_other k inherited symbol s token l =
    empty_range ∙ ap (λ (x : ℕ). 65535 - range_word 0 x) {x = 0} (sym (token_none k inherited inherited 0 symbol token))
    ∙ other_later k (count_at_value inherited symbol) s (λ q. omega arith)

-- ---- the words of a symbol at a position

module _ (inherited synthesized : List ℕ) (carrying k symbol i s : ℕ) (same-i : i ≡ count_at_value inherited symbol) (same_s : s ≡ synthesized_at carrying synthesized symbol) where
  pub input_left_word : k ≡ 0 → (x : ℕ) → x ≡ range_word 0 i → x ≡ input_word k (count_at_value inherited symbol) (synthesized_at carrying synthesized symbol)
  input_left_word z x e = e ∙ input_first k i s z ∙ ap₂ (input_word k) same-i same_s

  pub input_right_word : 1 ≤ k → (x : ℕ) → x ≡ range_word i (i + s) → x ≡ input_word k (count_at_value inherited symbol) (synthesized_at carrying synthesized symbol)
  input_right_word l x e = e ∙ input_later k i s (λ q. omega arith) ∙ ap₂ (input_word k) same-i same_s

  pub other_left_word : k ≡ 0 → (x : ℕ) → x ≡ range_word i (i + s) → 65535 - x ≡ other_word k (count_at_value inherited symbol) (synthesized_at carrying synthesized symbol)
  other_left_word z x e = ap (λ (y : ℕ). 65535 - y) e ∙ other_first k i s z ∙ ap₂ (other_word k) same-i same_s

  pub other_right_word : 1 ≤ k → (x : ℕ) → x ≡ range_word 0 i → 65535 - x ≡ other_word k (count_at_value inherited symbol) (synthesized_at carrying synthesized symbol)
  other_right_word l x e = ap (λ (y : ℕ). 65535 - y) e ∙ other_later k i s (λ q. omega arith) ∙ ap₂ (other_word k) same-i same_s
