-- The set of tokens: what is in it, and how it grows token by token.
use Rattle.std.specs.Prelude.{ℕ, ◌+◌, ◌<◌, ◌≡◌, refl, ◌⊎◌, Bool, true, false, ◌&&◌, map, List, [], ◌∷◌, length, T, ltb}
use Rattle.std.proofs.Common.{arith, sym, ap, ◌∙◌, subst, ap₂, inl, inr, ltb→lt, lt→ltb}
use Rattle.std.proofs.Math.Decide.{dec_lt}
use Rattle.std.proofs.lemmas.List.{length-map}
use Rattle.meaning.specs.Base.{count_from}
use Rattle.meaning.specs.Sets.{TokenSet, empty_set, singleton, ◌∪◌, has}
use Rattle.theory_base.specs.Members.{both, and, length_count_from}
use Rattle.theory_sets.specs.Tests.{tabled_cases, tabled_at}
use Rattle.theory_sets.specs.TokenSets.{single_has, single_only, not_empty, union_left, union_right, union_cases}
use Rattle.theory_sets.specs.Widths.{Wide, same_set, empty_wide, single_wide, ∪-wide}

-- the tokens below n that pass a test
abbrev pub passing : (ℕ → Bool) → ℕ → TokenSet
passing test n = map (λ t. ltb t n && test t) (count_from 0 64)

-- tests that agree let the same tokens pass
pub passing_same : (f h : ℕ → Bool) (n : ℕ) → ((t : ℕ) → f t ≡ h t) → passing f n ≡ passing h n
passing_same f h n e = map_same (count_from 0 64)
  where
    map_same : (ts : List ℕ) → map (λ t. ltb t n && f t) ts ≡ map (λ t. ltb t n && h t) ts
    map_same [] = refl
    map_same (t ∷ ts) = ap₂ (λ x xs. x ∷ xs) (ap (λ b. ltb t n && b) (e t)) (map_same ts)

module _ (test : ℕ → Bool) where
  pub passing_wide : (n : ℕ) → Wide (passing test n)
  passing_wide n = record { width = length-map (count_from 0 64) (λ t. ltb t n && test t) ∙ length_count_from 0 64 }

  pub passing_has : (n t : ℕ) → T (has (passing test n) t) → (t < n) × T (test t)
  passing_has n t h =
      let k = (tabled_cases (λ u. ltb u n && test u) 64 t h).1 in
      let b = both (ltb t n) (test t) k in
      (ltb→lt t n b.0, b.1)

  pub passing_in : (n t : ℕ) → t < 64 → t < n → T (test t) → T (has (passing test n) t)
  passing_in n t l m h = tabled_at (λ u. ltb u n && test u) 64 t l (and (ltb t n) (test t) (lt→ltb t n m) h)

  pub passing_none : passing test 0 ≡ empty_set
  passing_none = same_set (passing test 0) empty_set (passing_wide 0) empty_wide (λ t l h. absurd (omega (arith, (passing_has 0 t h).0))) (λ t l h. absurd (not_empty t h))

  pub passing_not : (n : ℕ) → test n ≡ false → passing test (n + 1) ≡ passing test n
  passing_not n e = same_set (passing test (n + 1)) (passing test n) (passing_wide (n + 1)) (passing_wide n) to (λ t l h. let k = passing_has n t h in passing_in (n + 1) t l (omega (arith, k.0)) k.1)
    where
      to : (t : ℕ) → t < 64 → T (has (passing test (n + 1)) t) → T (has (passing test n) t)
      to t l h = let k = passing_has (n + 1) t h in go (dec_lt t n) k.0 k.1
        where
          go : Dec (t < n) → t < n + 1 → T (test t) → T (has (passing test n) t)
          go (yes b) a c = passing_in n t l b c
          go (no b) a c = let d : t ≡ n = omega arith in absurd (subst T (ap test d ∙ e) c)

  pub passing_more : (n : ℕ) → n < 64 → test n ≡ true → passing test (n + 1) ≡ passing test n ∪ singleton n
  passing_more n small e = same_set (passing test (n + 1)) (passing test n ∪ singleton n) (passing_wide (n + 1)) (∪-wide (passing_wide n) (single_wide n)) to from
    where
      to : (t : ℕ) → t < 64 → T (has (passing test (n + 1)) t) → T (has (passing test n ∪ singleton n) t)
      to t l h = let k = passing_has (n + 1) t h in go (dec_lt t n) k.0 k.1
        where
          go : Dec (t < n) → t < n + 1 → T (test t) → T (has (passing test n ∪ singleton n) t)
          go (yes b) a c = union_left (passing test n) (singleton n) t (passing_in n t l b c)
          go (no b) a c = let d : n ≡ t = omega arith in union_right (passing test n) (singleton n) t (subst (λ z. T (has (singleton n) z)) d (single_has n small))

      from : (t : ℕ) → t < 64 → T (has (passing test n ∪ singleton n) t) → T (has (passing test (n + 1)) t)
      from t l h = go (union_cases (passing test n) (singleton n) t h)
        where
          go : T (has (passing test n) t) ⊎ T (has (singleton n) t) → T (has (passing test (n + 1)) t)
          go (inl a) = let k = passing_has n t a in passing_in (n + 1) t l (omega (arith, k.0)) k.1
          go (inr b) = let d = single_only n t b in passing_in (n + 1) t l (omega (arith, d)) (subst (λ z. T (test z)) (sym d) (subst T (sym e) tt))
