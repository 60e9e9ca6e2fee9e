-- The first n numbers as one word, and words that have all that stands in the productions.
use Rattle.std.specs.Prelude.{ℕ, ◌+◌, ◌-◌, ◌/◌, ◌%◌, ◌^◌, ◌≤◌, ◌<◌, ◌≡◌, refl, List, [], ◌∷◌, T, eqb, drop}
use Rattle.std.proofs.Common.{zero-le, arith, sym, ap, ◌∙◌, ⊎_elim, lit<, eqb→eq, drop-drop}
use Rattle.std.specs.Int.Bits.{bit_or}
use Rattle.meaning.specs.Base.{all, any, count_from}
use Rattle.meaning.specs.Grammar.{Symbol, terminal, nonterminal}
use Rattle.meaning.specs.Sets.{end_number}
use Rattle.theory_base.specs.Members.{or_cases}
use Rattle.theory_sets.specs.TokenSets.{single_has}
use Rattle.token_set.specs.SetBits.{bit, has_bit, set_end}
use Rattle.outline.specs.Images.{Image, left_at, right_at}
use Rattle.set_words.specs.Views.{members, symbol_bit, right_by, Below}
use Rattle.set_words.specs.Growth.{or_left, or_right}
use Rattle.analysis.specs.Numbers.{count_all}

-- looked at one by one: there are few
ones : T (all (λ n. all (λ a. eqb ((2 ^ n - 1) / 2 ^ a % 2) 1) (count_from 0 n)) (count_from 0 65))
ones = tt

pub first_in : (n a : ℕ) → n ≤ 64 → a < n → T (members (2 ^ n - 1) a)
unfolding bit
first_in n a l h =
    rw (has_bit (2 ^ n - 1) a (omega arith))
    (count_all (λ b. eqb ((2 ^ n - 1) / 2 ^ b % 2) 1) 0 n (count_all (λ m. all (λ b. eqb ((2 ^ m - 1) / 2 ^ b % 2) 1) (count_from 0 m)) 0 65 ones n zero-le (omega arith)) a zero-le (omega arith))

-- ---- a word that has all left sides, or all symbols on the right
pub record LeftsIn (rows : List ℕ) (count word : ℕ) : Type 0 where
  pub left : (p : ℕ) → p < count → T (members word (left_at rows p))

pub record RightsIn (rows : List ℕ) (count word : ℕ) : Type 0 where
  pub right : (p n : ℕ) → p < count → T (right_by rows p n) → T (members word n)

-- the word of all numbers
pub lefts_full : {rows : List ℕ} {count : ℕ} → Image rows count → LeftsIn rows count (2 ^ 64 - 1)
lefts_full image = record { left = λ p l. first_in 64 _ (omega arith) (omega (arith, image.lefts p l)) }

module _ (n : ℕ) {rows : List ℕ} {count : ℕ} (b : Below n rows count) (word : ℕ) (full : (a : ℕ) → a < n → T (members word a)) where
  pub lefts_below : LeftsIn rows count word
  lefts_below = record { left = λ p l. full (left_at rows p) (b.lefts p l) }

  module _ (tokens : T (members word end_number)) (p : ℕ) (lt : p < count) (m : ℕ) where
    after : (j : ℕ) (x : Symbol) (xs : List Symbol) → drop j (right_at rows p) ≡ x ∷ xs → drop (j + 1) (right_at rows p) ≡ xs
    after j x xs e = sym (drop-drop 1 j (right_at rows p)) ∙ ap (drop 1) e

    rights_from : (j : ℕ) (xs : List Symbol) → drop j (right_at rows p) ≡ xs → T (any (symbol_bit m) xs) → T (members word m)
    rights_from j [] e t = absurd t
    rights_from j (terminal t ∷ xs) e h =
        ⊎_elim
        (λ (q : T (eqb end_number m)). rw (← eqb→eq end_number m q) tokens)
        (rights_from (j + 1) xs (after j (terminal t) xs e))
        (or_cases (eqb end_number m) (any (symbol_bit m) xs) h)
    rights_from j (nonterminal a ∷ xs) e h =
        ⊎_elim
        (λ (q : T (eqb a m)). rw (← eqb→eq a m q) (full a (b.rights p j a xs lt e)))
        (rights_from (j + 1) xs (after j (nonterminal a) xs e))
        (or_cases (eqb a m) (any (symbol_bit m) xs) h)

  rights_below : T (members word end_number) → RightsIn rows count word
  rights_below tokens = record { right = λ p m l t. rights_from tokens p l m 0 (right_at rows p) refl t }

-- the first n numbers with the bit of the tokens have all symbols
pub rights_with : (n : ℕ) {rows : List ℕ} {count : ℕ} → Below n rows count → (word every : ℕ) → every ≡ bit_or word (2 ^ end_number) → ((a : ℕ) → a < n → T (members word a)) → RightsIn rows count every
rights_with n b word every e full = rw e (rights_below n b (bit_or word (2 ^ end_number)) (λ a h. or_left word (2 ^ end_number) a (full a h)) (or_right word (2 ^ end_number) end_number (rw set_end (single_has end_number (lit< tt)))))
