-- Token sets of a small grammar, and refusals 11 to 13: which one, at which offset, in which order.
use Rattle.std.specs.Prelude.{ℕ, ◌≡◌, refl, true, false, List, [], ◌∷◌, ◌++◌, map}
use Rattle.meaning.specs.Table.{read_table}
use Rattle.meaning.specs.Judgement.{accepted, rejected}
use Rattle.meaning.specs.Decide.{verdict_of}
use Rattle.meaning.specs.Sets.{nullable, first, follow, starts, singleton, ◌∪◌}
use Rattle.meaning.specs.Examples.TableRows.{grammar}
use Rattle.meaning.specs.Examples.Samples.{header, counts}
use Rattle.meaning.specs.Examples.SetRows.{table, s, a, b, verdict, low_high, entries}

-- ---- sets: S to A B 0; A to 1 B or nothing; B to 2 or nothing

sample : List ℕ
sample = table (s (129 ∷ 130 ∷ 0 ∷ []) ++ (a (1 ∷ 130 ∷ []) ++ (a [] ++ (b (2 ∷ []) ++ b []))))

sample_nullable : nullable (grammar (read_table sample)) ≡ false ∷ true ∷ true ∷ []
unfolding sample grammar
sample_nullable = refl

sample_first : first (grammar (read_table sample)) ≡ (singleton 0 ∪ singleton 1 ∪ singleton 2) ∷ singleton 1 ∷ singleton 2 ∷ []
unfolding sample grammar
sample_first = refl

-- after A may come 2 and 0, after B what follows A too, after S the end
sample_follow : follow (grammar (read_table sample)) ≡ singleton 63 ∷ (singleton 0 ∪ singleton 2) ∷ (singleton 0 ∪ singleton 2) ∷ []
unfolding sample grammar
sample_follow = refl

sample_starts : map (starts (grammar (read_table sample))) (grammar (read_table sample)).productions ≡ (singleton 0 ∪ singleton 1 ∪ singleton 2) ∷ singleton 1 ∷ (singleton 0 ∪ singleton 2) ∷ singleton 2 ∷ (singleton 0 ∪ singleton 2) ∷ []
unfolding sample grammar
sample_starts = refl

-- so B to nothing clashes with B to 2
sample_clashes : verdict_of sample ≡ rejected 13 58
unfolding sample
sample_clashes = refl

-- ---- 11, at the lowest such nonterminal's tag 2 field: 7, 12 or 17

useful : verdict (s (129 ∷ 130 ∷ []) ++ (a (1 ∷ []) ++ b [])) ≡ accepted
useful = refl

unreachable : verdict (s (129 ∷ []) ++ (a (1 ∷ []) ++ b (2 ∷ []))) ≡ rejected 11 17
unreachable = refl

both_unreachable : verdict (s (0 ∷ []) ++ (a (130 ∷ []) ++ b (129 ∷ 1 ∷ []))) ≡ rejected 11 12
both_unreachable = refl

-- reached through the symbol after one that derives nothing of its own
reached_late : verdict (s (0 ∷ 1 ∷ 129 ∷ 2 ∷ []) ++ (a (0 ∷ 1 ∷ 2 ∷ 130 ∷ []) ++ b [])) ≡ accepted
reached_late = refl

without_production : verdict (s (0 ∷ []) ++ (s (1 ∷ 129 ∷ []) ++ (s (2 ∷ 130 ∷ []) ++ a (0 ∷ [])))) ≡ rejected 11 17
without_production = refl

barren : verdict (s (0 ∷ []) ++ (s (1 ∷ 129 ∷ []) ++ (s (2 ∷ 130 ∷ []) ++ (a (0 ∷ 129 ∷ []) ++ b (0 ∷ []))))) ≡ rejected 11 12
barren = refl

-- A derives nothing but itself, so S derives no token string either
barren_start : verdict (s (129 ∷ 130 ∷ []) ++ (a (0 ∷ 129 ∷ []) ++ b (0 ∷ []))) ≡ rejected 11 7
barren_start = refl

-- each of A and B needs the other
barren_pair : verdict (s (0 ∷ []) ++ (s (1 ∷ 129 ∷ []) ++ (a (0 ∷ 130 ∷ []) ++ b (0 ∷ 129 ∷ [])))) ≡ rejected 11 12
barren_pair = refl

-- 11 before 12: S is left recursive, B unreachable
useless_before_recursive : verdict (s (0 ∷ []) ++ (s (128 ∷ 129 ∷ []) ++ (a (1 ∷ []) ++ b (2 ∷ [])))) ≡ rejected 11 17
useless_before_recursive = refl

-- ---- 12

recursive : verdict (s (129 ∷ 130 ∷ []) ++ (a (129 ∷ 0 ∷ []) ++ (a (1 ∷ []) ++ b (2 ∷ [])))) ≡ rejected 12 12
recursive = refl

-- through another: A to B, B to A; the lowest of the two
recursive_around : verdict (s (0 ∷ 130 ∷ []) ++ (a (130 ∷ 1 ∷ []) ++ (b (129 ∷ 2 ∷ []) ++ b (0 ∷ [])))) ≡ rejected 12 12
recursive_around = refl

-- the start symbol, through both others
recursive_start : verdict (s (129 ∷ []) ++ (s (0 ∷ []) ++ (a (130 ∷ 1 ∷ []) ++ b (128 ∷ 2 ∷ [])))) ≡ rejected 12 7
recursive_start = refl

-- not after a token, nor after a symbol that reads one
right_recursive : verdict (s (129 ∷ []) ++ (a (130 ∷ 129 ∷ []) ++ (a [] ++ b (2 ∷ [])))) ≡ accepted
right_recursive = refl

-- the start symbol may stand on a right side, and have several productions
start_inside : verdict_of (header 1 1 0 1 ++ (counts 0 1 ++ (s (0 ∷ 128 ∷ []) ++ s []))) ≡ accepted
start_inside = refl

-- 12 before 13: S clashes
recursive_before_clash : verdict (s (0 ∷ []) ++ (s (0 ∷ 129 ∷ 130 ∷ []) ++ (a (129 ∷ 0 ∷ []) ++ (a (1 ∷ []) ++ b (2 ∷ []))))) ≡ rejected 12 12
recursive_before_clash = refl

-- ---- 13, at the later production

first_sets_meet : verdict (s (129 ∷ 130 ∷ []) ++ (a (0 ∷ []) ++ (a (1 ∷ []) ++ (a (0 ∷ 2 ∷ []) ++ b (2 ∷ []))))) ≡ rejected 13 51
first_sets_meet = refl

-- A to nothing, followed by B, which starts with A's 1
follow_meets : verdict (s (129 ∷ 130 ∷ []) ++ (a (1 ∷ []) ++ (a [] ++ b (1 ∷ [])))) ≡ rejected 13 45
follow_meets = refl

-- both hold the end
ends_meet : verdict (s (129 ∷ []) ++ (a [] ++ (a (130 ∷ []) ++ b []))) ≡ rejected 13 43
ends_meet = refl

-- of two that clash with earlier ones, the lower; a clash with any earlier one counts
lowest_clash_lem : verdict (s (129 ∷ 130 ∷ []) ++ (a (0 ∷ []) ++ (a (1 ∷ []) ++ (b (2 ∷ []) ++ (b (2 ∷ 0 ∷ []) ++ a (0 ∷ 2 ∷ [])))))) ≡ rejected 13 57
lowest_clash_lem = refl

-- one symbol's productions only
other_symbols : verdict (s (0 ∷ 129 ∷ 130 ∷ []) ++ (a (0 ∷ []) ++ b (0 ∷ []))) ≡ accepted
other_symbols = refl

-- ---- clashes and entry conditions. S to L, with d = 0 and e = 0; two productions of L to the one token, each with conditions

-- apart, either way; and touching
apart_turned : entries (low_high 0 1 5 9) (low_high 0 1 0 4) ≡ accepted
apart_turned = refl

touching : entries (low_high 0 1 0 5) (low_high 0 1 5 9) ≡ rejected 13 81
touching = refl

-- without entry conditions, or with them on one side only
unconditional : entries [] [] ≡ rejected 13 67
unconditional = refl

only_first : entries (low_high 0 1 0 4) [] ≡ rejected 13 81
only_first = refl

only_second : entries [] (low_high 0 1 5 9) ≡ rejected 13 67
only_second = refl

-- different attributes are free of each other; apart in one is enough
other_attribute : entries (low_high 0 1 0 4) (low_high 0 2 5 9) ≡ rejected 13 81
other_attribute = refl

apart_in_second : entries (low_high 0 1 0 4 ++ low_high 0 2 0 4) (low_high 0 1 0 4 ++ low_high 0 2 5 9) ≡ accepted
apart_in_second = refl

-- a production that no value enters clashes with none that has entry conditions
never_entered : entries (low_high 0 1 0 4 ++ low_high 0 1 6 9) (low_high 0 1 0 9) ≡ accepted
never_entered = refl

never_entered_later : entries (low_high 0 2 0 9) (low_high 0 1 0 4 ++ low_high 0 1 6 9) ≡ accepted
never_entered_later = refl
