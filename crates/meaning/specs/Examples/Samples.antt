-- Tables that the rows use, in pieces.
use Rattle.std.specs.Prelude.{ℕ, List, [], ◌∷◌, ◌++◌}
use Rattle.meaning.specs.Judgement.{Verdict}
use Rattle.meaning.specs.Decide.{verdict_of}
use Rattle.meaning.specs.Layout.{field}

-- ---- S to A, A to the one token: S has synthesized n, A has inherited d and synthesized n

abbrev pub header : ℕ → ℕ → ℕ → ℕ → List ℕ
header t n start result = field 1 (t ∷ n ∷ start ∷ result ∷ [])

abbrev pub counts : ℕ → ℕ → List ℕ
counts i s = field 2 (i ∷ s ∷ [])

-- 17 bytes
abbrev pub heads : List ℕ
heads = header 1 2 0 1 ++ (counts 0 1 ++ counts 1 1)

-- at 17, 6 bytes
abbrev pub s_to_a : List ℕ
s_to_a = field 3 (0 ∷ 1 ∷ 129 ∷ [])

-- d of A is 0: at 23, 10 bytes
abbrev pub hand_down : List ℕ
hand_down = field 4 (1 ∷ 1 ∷ 0 ∷ 0 ∷ 0 ∷ 0 ∷ 0 ∷ [])

-- n of S is n of A: at 33, 8 bytes
abbrev pub hand_up : List ℕ
hand_up = field 4 (0 ∷ 1 ∷ 1 ∷ 1 ∷ 2 ∷ [])

abbrev pub first_production : List ℕ
first_production = heads ++ (s_to_a ++ (hand_down ++ hand_up))

-- at 41, 6 bytes
abbrev pub a_to_token : List ℕ
a_to_token = field 3 (1 ∷ 1 ∷ 0 ∷ [])

-- n of A is 0: at 47, 10 bytes
abbrev pub a_is_zero : List ℕ
a_is_zero = field 4 (0 ∷ 2 ∷ 0 ∷ 0 ∷ 0 ∷ 0 ∷ 0 ∷ [])

-- 57 bytes, accepted
abbrev pub small : List ℕ
small = first_production ++ (a_to_token ++ a_is_zero)

-- the verdict on the heads and what follows them (at 17), on S to A and what follows it (at 23), on the whole and what follows it (at 57)
abbrev pub after_heads : List ℕ → Verdict
after_heads more = verdict_of (heads ++ more)

abbrev pub in_first : List ℕ → Verdict
in_first more = after_heads (s_to_a ++ more)

abbrev pub in_last : List ℕ → Verdict
in_last more = verdict_of (small ++ more)

-- ---- a table with each function and each kind of condition. A's n is d = -7, its m is 2

unfoldable pub functions : List ℕ
functions =
    header 1 2 0 8 ++ (counts 0 8 ++ (counts 1 2
    ++ (field 3 (0 ∷ 1 ∷ 129 ∷ [])
    ++ (field 4 (1 ∷ 1 ∷ 0 ∷ 255 ∷ 255 ∷ 255 ∷ 249 ∷ [])
    ++ (field 4 (0 ∷ 1 ∷ 1 ∷ 1 ∷ 2 ∷ [])
    ++ (field 4 (0 ∷ 2 ∷ 2 ∷ 1 ∷ 2 ∷ 1 ∷ 3 ∷ [])
    ++ (field 4 (0 ∷ 3 ∷ 3 ∷ 1 ∷ 2 ∷ 1 ∷ 3 ∷ [])
    ++ (field 4 (0 ∷ 4 ∷ 4 ∷ 1 ∷ 2 ∷ 1 ∷ 3 ∷ [])
    ++ (field 4 (0 ∷ 5 ∷ 5 ∷ 1 ∷ 2 ∷ 1 ∷ 3 ∷ [])
    ++ (field 4 (0 ∷ 6 ∷ 6 ∷ 1 ∷ 2 ∷ 1 ∷ 3 ∷ [])
    ++ (field 4 (0 ∷ 7 ∷ 7 ∷ 1 ∷ 2 ∷ 255 ∷ 255 ∷ 254 ∷ 12 ∷ [])
    ++ (field 4 (0 ∷ 8 ∷ 8 ∷ 1 ∷ 2 ∷ 0 ∷ 15 ∷ 66 ∷ 64 ∷ [])
    ++ (field 5 (0 ∷ 1 ∷ 2 ∷ 128 ∷ 0 ∷ 0 ∷ 0 ∷ 127 ∷ 255 ∷ 255 ∷ 255 ∷ [])
    ++ (field 5 (1 ∷ 1 ∷ 2 ∷ 1 ∷ 3 ∷ [])
    ++ (field 3 (1 ∷ 1 ∷ 0 ∷ [])
    ++ (field 4 (0 ∷ 2 ∷ 1 ∷ 0 ∷ 1 ∷ [])
    ++ field 4 (0 ∷ 3 ∷ 0 ∷ 0 ∷ 0 ∷ 0 ∷ 2 ∷ [])))))))))))))))))
