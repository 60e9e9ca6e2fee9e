-- A stretch in its place, and what is not a production's stretch; grammars that do not have the same scheme.
use Rattle.std.specs.Prelude.{ℕ, ◌≤◌, refl, List, [], ◌∷◌, ◌++◌, Bool, true, false, get_or, length, ℤ, pos, negsuc}
use Rattle.std.proofs.Common.{arith, ap, inl, length-append, lit<}
use Rattle.meaning.specs.Grammar.{Grammar, Symbol, Production, Occurrence, Function, terminal, nonterminal, const, copy, binary, sum, addc, quot, Rule, Condition, range, atmost}
use Rattle.meaning.specs.Layout as Layout
use Rattle.meaning.specs.Layout.{field, rule_bytes, condition_bytes, RulesAndConditions, nothing, condition, production}
use Rattle.meaning.specs.Scheme.{Instruction, add, evaluate, expect, test, remove}
use Rattle.meaning_statements.specs.TableStatements.{StretchIn, SameProduction}
use Rattle.meaning.specs.Examples.Samples.{small, s_to_a, hand_down, hand_up, a_to_token, a_is_zero}
use Rattle.meaning.specs.Examples.WordsAndTags.{words, occ, rule, p0, p1, p3}

-- ---- the stretch

abbrev to_a : Production
to_a = record { left = 0; right = nonterminal 1 ∷ []; rules = rule (occ 1 1) (const (pos 0)) ∷ rule (occ 0 1) (copy (occ 1 2)) ∷ []; conditions = [] }

abbrev to_token : Production
to_token = record { left = 1; right = terminal 0 ∷ []; rules = rule (occ 0 2) (const (pos 0)) ∷ []; conditions = [] }

abbrev its : Grammar
its = record { terminals = 1; counts = record { inherited = 0; synthesized = 1 } ∷ record { inherited = 1; synthesized = 1 } ∷ []; carrying = []; start = 0; result = 1; productions = to_a ∷ to_token ∷ [] }

second : StretchIn small its 1 (a_to_token ++ a_is_zero)
second = record {
  earlier = s_to_a ++ (hand_down ++ hand_up);
  body = a_is_zero;
  later = [];
  is_earlier = production to_a (Layout.rule (rule (occ 1 1) (const (pos 0))) (Layout.rule (rule (occ 0 1) (copy (occ 1 2))) nothing)) nothing;
  is_body = Layout.rule (rule (occ 0 2) (const (pos 0))) nothing;
  is_part = refl;
  is_later = nothing;
  is_table = refl;
}

-- the whole table, nothing, another production's stretch, the tag 3 field alone, bytes that are not in the table
not_all : StretchIn small its 1 small → ⊥
not_all s = omega (arith, ap (λ l. get_or l 0 0) s.is_part)

not_nothing : StretchIn small its 1 [] → ⊥
not_nothing s = omega (arith, ap (λ l. get_or l 0 0) s.is_part)

not_another : StretchIn small its 0 (a_to_token ++ a_is_zero) → ⊥
not_another s = omega (arith, ap (λ l. get_or l 3 0) s.is_part)

some_bytes : {rs : List (Rule Occurrence)} {cs : List (Condition Occurrence)} {bs : List ℕ} → RulesAndConditions rs cs bs → length rs ≤ length bs
some_bytes nothing = omega arith
some_bytes (Layout.rule r {bs = bs} o) = omega (arith, some_bytes o, length-append (field 4 (rule_bytes r)) bs)
some_bytes (condition c {bs = bs} o) = omega (arith, some_bytes o, length-append (field 5 (condition_bytes c)) bs)

not_field_alone : StretchIn small its 1 a_to_token → ⊥
not_field_alone s = omega (arith, ap length s.is_part, some_bytes s.is_body)

not_in_table : StretchIn [] its 1 (a_to_token ++ a_is_zero) → ⊥
not_in_table s = omega (arith, ap (λ l. get_or l 0 0) s.is_table)

-- ---- the scheme

-- open list close list with another bound and another constant
abbrev others : Grammar
others = record {
  terminals = 3;
  counts = words.counts;
  carrying = [];
  start = 0;
  result = 1;
  productions =
      p0 ∷ p1
      ∷ record { left = 1; right = terminal 1 ∷ nonterminal 1 ∷ terminal 2 ∷ nonterminal 1 ∷ []; rules = rule (occ 2 1) (addc (occ 0 1) (pos 2)) ∷ rule (occ 4 1) (copy (occ 0 1)) ∷ rule (occ 0 2) (binary sum (occ 2 2) (occ 4 2)) ∷ []; conditions = range (occ 0 1) (pos 0) (pos 3) ∷ [] }
      ∷ p3 ∷ [];
}

abbrev number : ℤ → ℕ
number (pos n) = n
number (negsuc n) = n

abbrev bound : List (Condition ℕ) → ℕ
bound [] = 0
bound (range a l h ∷ cs) = number h
bound (atmost a b c ∷ cs) = 0

abbrev constant_of : Function ℕ → ℕ
constant_of (const c) = number c
constant_of (copy a) = 0
constant_of (binary f a b) = 0
constant_of (addc a c) = number c
constant_of (quot a c) = number c

-- of the first rule of the first evaluation
abbrev constant_in : List Instruction → ℕ
constant_in [] = 0
constant_in (evaluate [] ∷ is) = 0
constant_in (evaluate (r ∷ rs) ∷ is) = constant_of r.function
constant_in (add n ∷ is) = constant_in is
constant_in (expect x ∷ is) = constant_in is
constant_in (test cs ∷ is) = constant_in is
constant_in (remove n ∷ is) = constant_in is

other_tests : SameProduction words others 2 → ⊥
other_tests s = omega (arith, ap bound s.tests)

other_instructions : SameProduction words others 2 → ⊥
other_instructions s = omega (arith, ap constant_in s.instructions)

-- another left side; list to nothing in the place of list to word list; list to open list in its place
abbrev with_two : Production → Production → Grammar
with_two p q = record { terminals = 3; counts = words.counts; carrying = []; start = 0; result = 1; productions = p ∷ q ∷ [] }

abbrev bare : ℕ → List Symbol → Production
bare n xs = record { left = n; right = xs; rules = []; conditions = [] }

other_left : SameProduction words (with_two (bare 1 (nonterminal 1 ∷ [])) p1) 0 → ⊥
other_left s = omega (arith, s.left)

other_symbols : SameProduction words (with_two p0 p3) 1 → ⊥
other_symbols s = omega (arith, ap length s.right)

abbrev number_of : List Symbol → ℕ
number_of [] = 0
number_of (terminal t ∷ xs) = t
number_of (nonterminal n ∷ xs) = n

other_right : SameProduction words (with_two p0 (bare 1 (terminal 1 ∷ nonterminal 1 ∷ []))) 1 → ⊥
other_right s = omega (arith, ap number_of s.right)

-- one more inherited attribute of the symbol on the right side
other_counts : SameProduction words (record { terminals = 3; counts = record { inherited = 0; synthesized = 1 } ∷ record { inherited = 2; synthesized = 1 } ∷ []; carrying = []; start = 0; result = 1; productions = p0 ∷ p1 ∷ [] }) 0 → ⊥
other_counts s = omega (arith, (s.counts (nonterminal 1) (inl refl)).0)

abbrev told : Bool → ℕ
told true = 1
told false = 0

-- where a word comes next
other_sets : SameProduction words (with_two p0 (bare 1 (terminal 1 ∷ nonterminal 1 ∷ []))) 1 → ⊥
other_sets s = omega (arith, ap told (s.entered 0 (lit< tt)))
