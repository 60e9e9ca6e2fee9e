-- What the statements on tokens with values say and exclude: lists of one length, values ignored, and the tag 6 fields in stretch and program.
use Rattle.std.specs.Prelude.{ℕ, zero, suc, ◌≡◌, refl, Bool, true, false, List, [], ◌∷◌, take, drop, pos, negsuc}
use Rattle.std.proofs.Common.{arith, ap, inl, inr, lit<}
use Rattle.meaning.specs.Grammar.{const, copy, binary, sum, addc, range}
use Rattle.meaning.specs.Layout as Layout
use Rattle.meaning.specs.Layout.{RulesAndConditions, nothing, condition, production}
use Rattle.meaning.specs.PublicCalls.{feed}
use Rattle.meaning_statements.specs.CallStatements.{Even, tokens_of}
use Rattle.meaning_statements.specs.TableStatements.{StretchIn, SameScheme}
use Rattle.meaning_statements.specs.TokenStatements.{SameWhereCarried}
use Rattle.meaning.specs.Examples.WordsAndTags.{words, p0, p2, p3, occ, rule}
use Rattle.meaning.specs.Examples.TokenRows.{lengths, lengths_table}

-- ---- the lists of a feed

value_missing : Even (feed (0 ∷ 1 ∷ []) (pos 7 ∷ [])) → ⊥
value_missing e = omega (arith, e)

brought : tokens_of (feed (0 ∷ 1 ∷ []) (pos 7 ∷ negsuc 0 ∷ [])) ≡ record { kind = 0; value = pos 7 } ∷ record { kind = 1; value = negsuc 0 } ∷ []
brought = refl

-- ---- which values are ignored: of a word, token 0, the value counts; of open, token 1, it does not

ignored : SameWhereCarried lengths (0 ∷ 1 ∷ []) (pos 3 ∷ pos 4 ∷ []) (pos 3 ∷ pos 9 ∷ [])
ignored zero l i = refl
ignored (suc zero) l (inl e) = absurd (omega (arith, e))
ignored (suc zero) l (inr e) = elim e [ ]
ignored (suc (suc n)) l i = absurd (omega arith)

-- ---- the program tells which tokens carry a value

abbrev told : Bool → ℕ
told true = 1
told false = 0

other_carriers : SameScheme words lengths → ⊥
other_carriers s = omega (arith, ap told (s.carrying 0 (lit< tt)))

-- ---- a stretch lies behind the tag 6 fields

abbrev body : List ℕ
body = 4 ∷ 0 ∷ 5 ∷ 2 ∷ 1 ∷ 1 ∷ 0 ∷ 1 ∷ 4 ∷ 0 ∷ 7 ∷ 0 ∷ 2 ∷ 2 ∷ 1 ∷ 1 ∷ 2 ∷ 2 ∷ []

-- the rules and the condition of open list close list
nested : RulesAndConditions p2.rules p2.conditions (take 44 (drop 79 lengths_table))
unfolding lengths_table
nested = Layout.rule (rule (occ 2 1) (addc (occ 0 1) (pos 1))) (Layout.rule (rule (occ 4 1) (copy (occ 0 1))) (Layout.rule (rule (occ 0 2) (binary sum (occ 2 2) (occ 4 2))) (condition (range (occ 0 1) (pos 0) (pos 2)) nothing)))

second : StretchIn lengths_table lengths 1 (3 ∷ 0 ∷ 4 ∷ 1 ∷ 2 ∷ 0 ∷ 129 ∷ body)
unfolding lengths_table
second = record {
  earlier = take 24 (drop 21 lengths_table);
  body = body;
  later = drop 70 lengths_table;
  is_earlier = production p0 (Layout.rule (rule (occ 1 1) (const (pos 0))) (Layout.rule (rule (occ 0 1) (copy (occ 1 2))) nothing)) nothing;
  is_body = Layout.rule (rule (occ 2 1) (copy (occ 0 1))) (Layout.rule (rule (occ 0 2) (binary sum (occ 1 1) (occ 2 2))) nothing);
  is_part = refl;
  is_later = production p2 nested (production p3 (Layout.rule (rule (occ 0 2) (const (pos 0))) nothing) nothing);
  is_table = refl;
}
