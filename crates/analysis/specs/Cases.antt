-- 01's example, by computation.
use Rattle.std.specs.Prelude.{ℕ, ◌≡◌, refl, List, [], ◌∷◌}
use Rattle.meaning.specs.Examples.WordsAndTags.{words}
use Rattle.meaning.specs.Grammar.{nonterminal, terminal}
use Rattle.outline.specs.Images.{left_at, right_at}
use Rattle.analysis.specs.Finding.{finding, flaw, lowest_clash, fine}

-- 01's production 2, L to open L close L, as the second of two rows
abbrev row : List ℕ
row = 0 ∷ 1 ∷ 129 ∷ 0 ∷ 0 ∷ 0 ∷ 0 ∷ 0 ∷ 0 ∷ 0 ∷ 0 ∷ 0 ∷ 0 ∷ 0 ∷ 0 ∷ 0 ∷ 1 ∷ 4 ∷ 1 ∷ 129 ∷ 2 ∷ 129 ∷ 0 ∷ 0 ∷ 0 ∷ 0 ∷ 0 ∷ 0 ∷ 0 ∷ 0 ∷ 0 ∷ 0 ∷ []

left_of : left_at row 1 ≡ 1
left_of = refl

right_of : right_at row 1 ≡ terminal 1 ∷ nonterminal 1 ∷ terminal 2 ∷ nonterminal 1 ∷ []
unfolding right_at
right_of = refl

-- 01's grammar of words and tags gets no refusal
words_fine : finding words ≡ fine
unfolding flaw lowest_clash
words_fine = refl
