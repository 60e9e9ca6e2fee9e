-- The table of the grammar of words and tags, read; then refusals 2, 3, 4, 5, 6 and 8 of small tables.
use Rattle.std.specs.Prelude.{ℕ, ◌≡◌, refl, List, [], ◌∷◌, ◌++◌, map, replicate}
use Rattle.meaning.specs.Table.{Read, well_formed, malformed, read_table, grammar_of, nothing_read}
use Rattle.meaning.specs.Judgement.{accepted, rejected}
use Rattle.meaning.specs.Decide.{verdict_of}
use Rattle.meaning.specs.Grammar.{Grammar}
use Rattle.meaning.specs.Layout.{field}
use Rattle.meaning.specs.Examples.WordsAndTags.{words}
use Rattle.meaning.specs.Examples.Samples.{header, counts, heads, hand_down, hand_up, small, in_first, in_last}

unfoldable pub bytes : List ℕ
bytes =
    1 ∷ 0 ∷ 4 ∷ 3 ∷ 2 ∷ 0 ∷ 1
    ∷ 2 ∷ 0 ∷ 2 ∷ 0 ∷ 1
    ∷ 2 ∷ 0 ∷ 2 ∷ 1 ∷ 1
    ∷ 3 ∷ 0 ∷ 3 ∷ 0 ∷ 1 ∷ 129
    ∷ 4 ∷ 0 ∷ 7 ∷ 1 ∷ 1 ∷ 0 ∷ 0 ∷ 0 ∷ 0 ∷ 0
    ∷ 4 ∷ 0 ∷ 5 ∷ 0 ∷ 1 ∷ 1 ∷ 1 ∷ 2
    ∷ 3 ∷ 0 ∷ 4 ∷ 1 ∷ 2 ∷ 0 ∷ 129
    ∷ 4 ∷ 0 ∷ 5 ∷ 2 ∷ 1 ∷ 1 ∷ 0 ∷ 1
    ∷ 4 ∷ 0 ∷ 9 ∷ 0 ∷ 2 ∷ 7 ∷ 2 ∷ 2 ∷ 0 ∷ 0 ∷ 0 ∷ 1
    ∷ 3 ∷ 0 ∷ 6 ∷ 1 ∷ 4 ∷ 1 ∷ 129 ∷ 2 ∷ 129
    ∷ 4 ∷ 0 ∷ 9 ∷ 2 ∷ 1 ∷ 7 ∷ 0 ∷ 1 ∷ 0 ∷ 0 ∷ 0 ∷ 1
    ∷ 4 ∷ 0 ∷ 5 ∷ 4 ∷ 1 ∷ 1 ∷ 0 ∷ 1
    ∷ 4 ∷ 0 ∷ 7 ∷ 0 ∷ 2 ∷ 2 ∷ 2 ∷ 2 ∷ 4 ∷ 2
    ∷ 5 ∷ 0 ∷ 11 ∷ 0 ∷ 0 ∷ 1 ∷ 0 ∷ 0 ∷ 0 ∷ 0 ∷ 0 ∷ 0 ∷ 0 ∷ 2
    ∷ 3 ∷ 0 ∷ 2 ∷ 1 ∷ 0
    ∷ 4 ∷ 0 ∷ 7 ∷ 0 ∷ 2 ∷ 0 ∷ 0 ∷ 0 ∷ 0 ∷ 0
    ∷ []

unfoldable pub grammar : Read → Grammar
grammar (well_formed s) = grammar_of s
grammar (malformed n o) = grammar_of nothing_read

pub read : grammar (read_table bytes) ≡ words
unfolding bytes grammar
read = refl

words_accepted : verdict_of bytes ≡ accepted
unfolding bytes
words_accepted = refl

small_accepted : verdict_of small ≡ accepted
small_accepted = refl

-- ---- 2: a field cut short. A wrong tag that is also cut short is a 2

cut_header : map verdict_of ((1 ∷ []) ∷ (1 ∷ 0 ∷ []) ∷ (1 ∷ 0 ∷ 4 ∷ []) ∷ (1 ∷ 0 ∷ 4 ∷ 3 ∷ 2 ∷ 0 ∷ []) ∷ []) ≡ replicate 4 (rejected 2 0)
cut_header = refl

-- bytes after the last field are a field of their own
trailing : map in_last ((0 ∷ []) ∷ (4 ∷ []) ∷ (0 ∷ 0 ∷ 0 ∷ []) ∷ (2 ∷ 0 ∷ 2 ∷ 0 ∷ 0 ∷ []) ∷ []) ≡ rejected 2 57 ∷ rejected 2 57 ∷ rejected 3 57 ∷ rejected 3 57 ∷ []
trailing = refl

-- ---- 3: tags out of order, tables over too early

empty : verdict_of [] ≡ rejected 3 0
empty = refl

over_after_counts : verdict_of heads ≡ rejected 3 17
over_after_counts = refl

-- ---- the header

start_known : map (λ s. verdict_of (header 1 2 s 1)) (1 ∷ 2 ∷ 255 ∷ []) ≡ rejected 3 7 ∷ rejected 5 0 ∷ rejected 5 0 ∷ []
start_known = refl

-- ---- attribute counts

eight_attributes : verdict_of (header 1 1 0 1 ++ counts 0 8) ≡ rejected 3 12
eight_attributes = refl

-- 4 before 6
nine_attributes : map (λ i. verdict_of (header 1 1 0 1 ++ counts i 8)) (1 ∷ 2 ∷ []) ≡ replicate 2 (rejected 4 7)
nine_attributes = refl

-- 6, at the start symbol's own field
start_inherits : verdict_of (header 1 1 0 1 ++ counts 1 1) ≡ rejected 6 7
start_inherits = refl

-- ---- 8 for a rule that is missing: the next byte alone decides

-- any other next byte lets that field's own fault win
missing_before_other : map (λ more. in_first (hand_down ++ more)) ((4 ∷ []) ∷ (7 ∷ 0 ∷ 0 ∷ []) ∷ (field 4 (1 ∷ 1 ∷ [])) ∷ []) ≡ rejected 2 33 ∷ rejected 3 33 ∷ rejected 4 33 ∷ []
missing_before_other = refl

missing_at_end : map in_first ([] ∷ hand_down ∷ hand_up ∷ []) ≡ replicate 3 (rejected 8 17)
missing_at_end = refl
