-- What the statements on tokens with values say and exclude: lists of one length, values of 32 bits, values ignored, and the tag 6 fields in stretch and program.
use Rattle.std.specs.Prelude.{ℕ, ◌≡◌, refl, [], ◌∷◌, ℤ, pos, negsuc}
use Rattle.std.proofs.Common.{arith, ap, inl, lit<}
use Rattle.meaning.specs.PublicCalls.{feed}
use Rattle.meaning_statements.specs.CallStatements.{Lendable, Even, tokens_of}
use Rattle.meaning_statements.specs.MarkedToken.{kinds}
use Rattle.meaning_statements.specs.TokenStatements.{SameWhereCarried}
use Rattle.meaning.specs.Examples.TokenRows.{lengths}

-- ---- the lists of a feed

even : Even (feed (0 ∷ 1 ∷ []) (pos 7 ∷ pos 0 ∷ []))
even = refl

kind_missing : Even (feed [] (pos 7 ∷ [])) → ⊥
kind_missing e = omega (arith, e)

lendable : Lendable (feed [] (negsuc 2147483647 ∷ pos 2147483647 ∷ []))
lendable = tt

too_great : Lendable (feed [] (pos 0 ∷ pos 2147483648 ∷ [])) → ⊥
too_great t = t

too_low : Lendable (feed [] (negsuc 2147483648 ∷ [])) → ⊥
too_low t = t

brought_kinds : kinds (tokens_of (feed (0 ∷ 1 ∷ []) (pos 7 ∷ negsuc 0 ∷ []))) ≡ 0 ∷ 1 ∷ []
brought_kinds = refl

-- ---- which values are ignored: of a word, token 0, the value counts; of open, token 1, it does not

abbrev number : ℤ → ℕ
number (pos n) = n
number (negsuc n) = n

not_ignored : SameWhereCarried lengths (0 ∷ 1 ∷ []) (pos 3 ∷ pos 4 ∷ []) (pos 5 ∷ pos 4 ∷ []) → ⊥
not_ignored h = omega (arith, ap number (h 0 (lit< tt) (inl refl)))
