-- One line of the listing each, and its parts by the numbers that the program's words hold.
use Rattle.std.specs.Prelude.{ℕ, zero, suc, ◌≡◌, refl, eqb, [], ◌∷◌, ◌++◌}
use Rattle.std.proofs.Math.Path.{sym, ap, ap₂}
use Rattle.std.proofs.Common.{◌∙◌, eq-eqb, ne_eqb}
use Rattle.meaning.specs.Grammar.{Rule, Condition}
use Rattle.meaning.specs.Table.{signed}
use Rattle.meaning.specs.Listing.{Text, number, word, line, action, function_text, condition_text}
use Rattle.theory_program.specs.Parts.{condition_kind, condition_first, condition_second}
use Rattle.theory_program.specs.Unpacked.{function_from, condition_of_kind, condition_from}
use Rattle.listing_bytes.specs.Decimal.{decimal, integral}

unfoldable pub add_line : ℕ → ℕ → ℕ → Text
add_line i k n = line i (action 65 k) (word (number n))

unfoldable pub rule_line : ℕ → ℕ → Rule ℕ → Text
rule_line i k r = line i (action 69 k) (word (number r.target) ++ function_text r.function)

unfoldable pub condition_line : ℕ → ℕ → Condition ℕ → Text
condition_line i k c = line i (action 80 k) (condition_text c)

unfoldable pub remove_line : ℕ → ℕ → Text
remove_line i n = line i (82 ∷ []) (word (number n))

-- ---- parts

-- production, action letter, position
unfoldable pub prefix_text : ℕ → ℕ → ℕ → Text
prefix_text i letter k = decimal i ++ word (letter ∷ decimal k)

unfoldable pub function_as : ℕ → ℕ → ℕ → ℕ → Text
function_as f a b c = function_text (function_from f a b (signed c))

unfoldable pub condition_as : ℕ → ℕ → ℕ → Text
condition_as w l h = condition_text (condition_from w l h)

-- a number that 01 has no function for
pub no_function : (f a b c : ℕ) → (f ≡ 1 → ⊥) → (f ≡ 2 → ⊥) → (f ≡ 3 → ⊥) → (f ≡ 4 → ⊥) → (f ≡ 5 → ⊥) → (f ≡ 6 → ⊥) → (f ≡ 7 → ⊥) → (f ≡ 8 → ⊥) → function_as f a b c ≡ function_as 0 a b c
unfolding function_as
no_function zero a b c h1 h2 h3 h4 h5 h6 h7 h8 = refl
no_function (suc zero) a b c h1 h2 h3 h4 h5 h6 h7 h8 = absurd (h1 refl)
no_function (suc (suc zero)) a b c h1 h2 h3 h4 h5 h6 h7 h8 = absurd (h2 refl)
no_function (suc (suc (suc zero))) a b c h1 h2 h3 h4 h5 h6 h7 h8 = absurd (h3 refl)
no_function (suc (suc (suc (suc zero)))) a b c h1 h2 h3 h4 h5 h6 h7 h8 = absurd (h4 refl)
no_function (suc (suc (suc (suc (suc zero))))) a b c h1 h2 h3 h4 h5 h6 h7 h8 = absurd (h5 refl)
no_function (suc (suc (suc (suc (suc (suc zero)))))) a b c h1 h2 h3 h4 h5 h6 h7 h8 = absurd (h6 refl)
no_function (suc (suc (suc (suc (suc (suc (suc zero))))))) a b c h1 h2 h3 h4 h5 h6 h7 h8 = absurd (h7 refl)
no_function (suc (suc (suc (suc (suc (suc (suc (suc zero)))))))) a b c h1 h2 h3 h4 h5 h6 h7 h8 = absurd (h8 refl)
no_function (suc (suc (suc (suc (suc (suc (suc (suc (suc f))))))))) a b c h1 h2 h3 h4 h5 h6 h7 h8 = refl

-- a condition by its kind and the selectors a and b of its word
module _ (w l h a : ℕ) (first : a ≡ condition_first w) where
  pub is_range_lem : condition_kind w ≡ 0 → ((word (114 ∷ 97 ∷ 110 ∷ 103 ∷ 101 ∷ []) ++ word (decimal a)) ++ word (integral l)) ++ word (integral h) ≡ condition_as w l h
  unfolding condition_as decimal integral
  is_range_lem e =
      ap (λ k. ((word (114 ∷ 97 ∷ 110 ∷ 103 ∷ 101 ∷ []) ++ word (decimal k)) ++ word (integral l)) ++ word (integral h)) first
      ∙ (sym (ap (λ b. condition_text (condition_of_kind b (eqb (condition_kind w) 1) (condition_first w) (condition_second w) (signed l) (signed h))) (eq-eqb (condition_kind w) 0 e)))

  module _ (b : ℕ) (second : b ≡ condition_second w) where
    pub is_atmost : condition_kind w ≡ 1 → (word (97 ∷ 116 ∷ 109 ∷ 111 ∷ 115 ∷ 116 ∷ []) ++ word (decimal a)) ++ word (decimal b) ≡ condition_as w l h
    unfolding condition_as decimal
    is_atmost e =
        ap₂ (λ j k. (word (97 ∷ 116 ∷ 109 ∷ 111 ∷ 115 ∷ 116 ∷ []) ++ word (decimal j)) ++ word (decimal k)) first second
        ∙ (sym (ap (λ k. condition_text (condition_of_kind (eqb k 0) (eqb k 1) (condition_first w) (condition_second w) (signed l) (signed h))) e))

    pub is_atmost_plus : (condition_kind w ≡ 0 → ⊥) → (condition_kind w ≡ 1 → ⊥)
        → ((word (97 ∷ 116 ∷ 109 ∷ 111 ∷ 115 ∷ 116 ∷ []) ++ word (decimal a)) ++ word (decimal b)) ++ word (integral l) ≡ condition_as w l h
    unfolding condition_as decimal integral
    is_atmost_plus n m =
        let kinds = ap₂ (λ x k. condition_text (condition_of_kind x k (condition_first w) (condition_second w) (signed l) (signed h))) (ne_eqb (condition_kind w) 0 n) (ne_eqb (condition_kind w) 1 m) in
        ap₂ (λ j k. ((word (97 ∷ 116 ∷ 109 ∷ 111 ∷ 115 ∷ 116 ∷ []) ++ word (decimal j)) ++ word (decimal k)) ++ word (integral l)) first second ∙ sym kinds
