-- Refusals 12 and 13: a recursion that is hidden, clashes and entry conditions.
use Rattle.std.specs.Prelude.{ℕ, ◌≡◌, refl, List, [], ◌∷◌, ◌++◌, length}
use Rattle.meaning.specs.Judgement.{Verdict, accepted, rejected}
use Rattle.meaning.specs.Decide.{verdict_of}
use Rattle.meaning.specs.Layout.{field}
use Rattle.meaning.specs.Examples.Samples.{header, counts}

-- three tokens; S with synthesized n, A and B without attributes. 22 bytes, then the productions: 15 bytes and a byte a symbol for one of S, 5 and a byte a symbol for one of A or B
abbrev pub table : List ℕ → List ℕ
table productions = header 3 3 0 1 ++ (counts 0 1 ++ (counts 0 0 ++ (counts 0 0 ++ productions)))

abbrev pub s : List ℕ → List ℕ
s xs = field 3 (0 ∷ length xs ∷ xs) ++ field 4 (0 ∷ 1 ∷ 0 ∷ 0 ∷ 0 ∷ 0 ∷ 0 ∷ [])

abbrev pub a : List ℕ → List ℕ
a xs = field 3 (1 ∷ length xs ∷ xs)

abbrev pub b : List ℕ → List ℕ
b xs = field 3 (2 ∷ length xs ∷ xs)

abbrev pub verdict : List ℕ → Verdict
verdict productions = verdict_of (table productions)

-- ---- 12

-- a left recursion hidden behind a symbol that derives nothing
recursive_hidden : verdict (s (0 ∷ 130 ∷ []) ++ (a [] ++ (b (129 ∷ 130 ∷ 0 ∷ []) ++ b (1 ∷ [])))) ≡ rejected 12 17
recursive_hidden = refl

-- ---- clashes and entry conditions. S to L, with d = 0 and e = 0; two productions of L to the one token, each with conditions

abbrev pub low_high : ℕ → ℕ → ℕ → ℕ → List ℕ
low_high p k low high = field 5 (0 ∷ p ∷ k ∷ 0 ∷ 0 ∷ 0 ∷ low ∷ 0 ∷ 0 ∷ 0 ∷ high ∷ [])

-- L has inherited d, e and synthesized n: the second production of L stands at 67 and the bytes of the first's conditions
abbrev pub entries : List ℕ → List ℕ → Verdict
entries c d =
    verdict_of (header 1 2 0 1 ++ (counts 0 1 ++ (counts 2 1
    ++ (field 3 (0 ∷ 1 ∷ 129 ∷ []) ++ (field 4 (1 ∷ 1 ∷ 0 ∷ 0 ∷ 0 ∷ 0 ∷ 0 ∷ []) ++ (field 4 (1 ∷ 2 ∷ 0 ∷ 0 ∷ 0 ∷ 0 ∷ 0 ∷ []) ++ (field 4 (0 ∷ 1 ∷ 1 ∷ 1 ∷ 3 ∷ [])
    ++ (field 3 (1 ∷ 1 ∷ 0 ∷ []) ++ (field 4 (0 ∷ 3 ∷ 0 ∷ 0 ∷ 0 ∷ 0 ∷ 0 ∷ []) ++ (c
    ++ (field 3 (1 ∷ 1 ∷ 0 ∷ []) ++ (field 4 (0 ∷ 3 ∷ 0 ∷ 0 ∷ 0 ∷ 0 ∷ 0 ∷ []) ++ d))))))))))))

apart : entries (low_high 0 1 0 4) (low_high 0 1 5 9) ≡ accepted
apart = refl

-- a production that no value enters clashes with one that has no entry conditions
never_entered_unconditional : entries (low_high 0 1 0 4 ++ low_high 0 1 6 9) [] ≡ rejected 13 95
never_entered_unconditional = refl
