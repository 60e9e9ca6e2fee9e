-- 02 (e), tag 6: where it may stand, its refusals, and what it makes of a terminal's attribute in rules and conditions.
use Rattle.std.specs.Prelude.{ℕ, ◌≡◌, refl, List, [], ◌∷◌, ◌++◌, map, replicate}
use Rattle.meaning.specs.Judgement.{Verdict, accepted, rejected}
use Rattle.meaning.specs.Decide.{verdict_of}
use Rattle.meaning.specs.Layout.{field}
use Rattle.meaning.specs.Examples.Samples.{header, counts, s_to_a, hand_down, hand_up, a_to_token, a_is_zero}

abbrev carries : ℕ → List ℕ
carries t = field 6 (t ∷ [])

-- three terminals, S with n, A with d and n: 17 bytes
abbrev heads3 : List ℕ
heads3 = header 3 2 0 1 ++ (counts 0 1 ++ counts 1 1)

-- what stands at 17 and after it
abbrev after_heads_lem : List ℕ → Verdict
after_heads_lem more = verdict_of (heads3 ++ more)

-- the rest of an accepted table: S to A, A to 0
abbrev rest : List ℕ
rest = s_to_a ++ (hand_down ++ (hand_up ++ (a_to_token ++ a_is_zero)))

-- none, some, all terminals, in rising order
accepted_ones : map (λ fs. after_heads_lem (fs ++ rest)) ([] ∷ carries 0 ∷ carries 2 ∷ (carries 0 ++ carries 2) ∷ (carries 0 ++ (carries 1 ++ carries 2)) ∷ []) ≡ replicate 5 accepted
accepted_ones = refl

-- 3: before or among the tag 2 fields, after the first production (also where a rule is missing: only a tag byte 3 or the end shows that)
too_early : map verdict_of (carries 0 ∷ (header 3 2 0 1 ++ carries 0) ∷ (header 3 2 0 1 ++ (counts 0 1 ++ carries 0)) ∷ []) ≡ rejected 3 0 ∷ rejected 3 7 ∷ rejected 3 12 ∷ []
too_early = refl

too_late : map after_heads_lem ((s_to_a ++ carries 0) ∷ (s_to_a ++ (hand_down ++ carries 0)) ∷ (s_to_a ++ (hand_down ++ (hand_up ++ carries 0))) ∷ (rest ++ carries 0) ∷ []) ≡ rejected 3 23 ∷ rejected 3 33 ∷ rejected 3 41 ∷ rejected 3 57 ∷ []
too_late = refl

-- between them no tag 1, 2, 4 or 5; a table over before its first production
nothing_else_between : map (λ more. after_heads_lem (carries 0 ++ more)) ((header 3 2 0 1) ∷ (counts 0 1) ∷ hand_down ∷ (field 5 (1 ∷ 1 ∷ 2 ∷ 1 ∷ 2 ∷ [])) ∷ (field 7 (1 ∷ [])) ∷ [] ∷ []) ≡ replicate 6 (rejected 3 21)
nothing_else_between = refl

-- 2: cut short
cut : map after_heads_lem ((6 ∷ []) ∷ (6 ∷ 0 ∷ []) ∷ (6 ∷ 0 ∷ 1 ∷ []) ∷ []) ≡ replicate 3 (rejected 2 17)
cut = refl

-- 4: another length, before 5
other_length : map after_heads_lem ((field 6 []) ∷ (field 6 (0 ∷ 1 ∷ [])) ∷ (field 6 (9 ∷ 9 ∷ 9 ∷ [])) ∷ []) ≡ replicate 3 (rejected 4 17)
other_length = refl

-- 5: no terminal; not above the one before
no_terminal : map (λ t. after_heads_lem (carries t ++ rest)) (2 ∷ 3 ∷ 128 ∷ 255 ∷ []) ≡ accepted ∷ replicate 3 (rejected 5 17)
no_terminal = refl

not_rising : map (λ t. after_heads_lem (carries 1 ++ (carries t ++ rest))) (0 ∷ 1 ∷ 2 ∷ 3 ∷ []) ≡ rejected 5 21 ∷ rejected 5 21 ∷ accepted ∷ rejected 5 21 ∷ []
not_rising = refl

not_rising_later : after_heads_lem (carries 0 ++ (carries 2 ++ (carries 1 ++ rest))) ≡ rejected 5 25
not_rising_later = refl

-- ---- the attribute of a terminal, (k, 1) on a right side. S to 0 1, 0 carrying a value: its field at 21, 7 bytes; the next at 28

abbrev in_tokens : List ℕ → Verdict
in_tokens more = verdict_of (header 2 1 0 1 ++ (counts 0 1 ++ (carries 0 ++ (field 3 (0 ∷ 2 ∷ 0 ∷ 1 ∷ []) ++ more))))

-- n of S is the value of the token at position k, its attribute a
abbrev read_up : ℕ → ℕ → List ℕ
read_up k a = field 4 (0 ∷ 1 ∷ 1 ∷ k ∷ a ∷ [])

-- an input: a rule may read it. Any other attribute of a terminal, and of one without the field, is a 5
reads_value : map (λ m. in_tokens m) (read_up 1 1 ∷ read_up 1 0 ∷ read_up 1 2 ∷ read_up 2 1 ∷ read_up 2 0 ∷ read_up 3 1 ∷ []) ≡ accepted ∷ rejected 5 23 ∷ rejected 5 23 ∷ rejected 5 23 ∷ rejected 5 23 ∷ rejected 5 23 ∷ []
reads_value = refl

-- 7: a rule that sets it
sets_value : map (λ o. in_tokens (field 4 (o ++ (0 ∷ 0 ∷ 0 ∷ 0 ∷ 7 ∷ [])))) ((1 ∷ 1 ∷ []) ∷ (2 ∷ 1 ∷ []) ∷ (1 ∷ 2 ∷ []) ∷ []) ≡ rejected 7 23 ∷ rejected 5 23 ∷ rejected 5 23 ∷ []
sets_value = refl

-- nothing is missing for it
none_missing : in_tokens [] ≡ rejected 8 16
none_missing = refl

-- a condition may read it: a range of its own, a comparison with itself
conditions_read : map (λ c. in_tokens (read_up 1 1 ++ field 5 c)) ((0 ∷ 1 ∷ 1 ∷ 0 ∷ 0 ∷ 0 ∷ 0 ∷ 0 ∷ 0 ∷ 0 ∷ 9 ∷ []) ∷ (1 ∷ 1 ∷ 1 ∷ 1 ∷ 1 ∷ []) ∷ (1 ∷ 1 ∷ 1 ∷ 2 ∷ 1 ∷ []) ∷ (0 ∷ 1 ∷ 1 ∷ 0 ∷ 0 ∷ 0 ∷ 9 ∷ 0 ∷ 0 ∷ 0 ∷ 0 ∷ []) ∷ []) ≡ accepted ∷ accepted ∷ rejected 5 31 ∷ rejected 10 31 ∷ []
conditions_read = refl

-- 9: a rule for A at position 2 reads the token before it, not the one after it. S to 0 A 0; d of A is the value at position k
abbrev around : ℕ → Verdict
around k = verdict_of (header 1 2 0 1 ++ (counts 0 1 ++ (counts 1 1 ++ (carries 0 ++ (field 3 (0 ∷ 3 ∷ 0 ∷ 129 ∷ 0 ∷ []) ++ (field 4 (2 ∷ 1 ∷ 1 ∷ k ∷ 1 ∷ []) ++ (field 4 (0 ∷ 1 ∷ 1 ∷ 3 ∷ 1 ∷ []) ++ (field 3 (1 ∷ 0 ∷ []) ++ field 4 (0 ∷ 2 ∷ 1 ∷ 0 ∷ 1 ∷ [])))))))))

left_to_right_lem : map around (0 ∷ 1 ∷ 2 ∷ 3 ∷ []) ≡ rejected 7 29 ∷ accepted ∷ rejected 7 29 ∷ rejected 9 29 ∷ []
left_to_right_lem = refl
