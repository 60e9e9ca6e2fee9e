-- What 01 says by derivations, shown on small grammars: reachable, productive, FIRST, FOLLOW, left recursion, clashes.
use Rattle.std.specs.Prelude.{refl, [], ◌∷◌, ℤ, pos}
use Rattle.std.proofs.Common.{inl, inr, lit<}
use Rattle.meaning.specs.Grammar.{Symbol, terminal, nonterminal, token, over, const, copy, range, Grammar}
use Rattle.meaning.specs.Derivation.{itself, step, Reachable, Productive, LeftRecursive, First, Follow, Starts, Clash}
use Rattle.meaning.specs.Examples.WordsAndTags.{words, p1, occ, rule}

abbrev L : Symbol
L = nonterminal 1

-- ---- the grammar of words and tags

reachable : Reachable words 1
reachable = ([], [], step 0 [] [] (lit< tt) itself)

-- the empty string is a token string; so is open close
productive : Productive words 1
productive = ([], step 3 [] [] (lit< tt) itself)

open_close : Productive words 0
open_close = (1 ∷ 2 ∷ [], step 0 [] [] (lit< tt) (step 2 [] [] (lit< tt) (step 3 (terminal 1 ∷ []) (terminal 2 ∷ L ∷ []) (lit< tt) (step 3 (terminal 1 ∷ terminal 2 ∷ []) [] (lit< tt) itself))))

first_word : First words p1.right 0
first_word = (L ∷ [], itself)

first_open : First words (L ∷ []) 1
first_open = (L ∷ terminal 2 ∷ L ∷ [], step 2 [] [] (lit< tt) itself)

follow_close : Follow words 1 (token 2)
follow_close = (terminal 1 ∷ [], L ∷ [], step 0 [] [] (lit< tt) (step 2 [] [] (lit< tt) itself))

follow_end : Follow words 1 over
follow_end = ([], step 0 [] [] (lit< tt) itself)

-- L to nothing starts with close and with the end
starts_close : Starts words 3 (token 2)
starts_close = inr (itself, follow_close)

starts_end : Starts words 3 over
starts_end = (itself, follow_end)

-- ---- S to L; L to L 0, or nothing

recursive : Grammar
recursive = record {
  terminals = 1;
  counts = record { inherited = 0; synthesized = 1 } ∷ record { inherited = 0; synthesized = 0 } ∷ [];
  carrying = [];
  start = 0;
  result = 1;
  productions =
      record { left = 0; right = L ∷ []; rules = rule (occ 0 1) (const (pos 0)) ∷ []; conditions = [] }
      ∷ record { left = 1; right = L ∷ terminal 0 ∷ []; rules = []; conditions = [] }
      ∷ record { left = 1; right = []; rules = []; conditions = [] }
      ∷ [];
}

left_recursive : LeftRecursive recursive 1
unfolding recursive
left_recursive = (1, terminal 0 ∷ [], lit< tt, refl, itself)

-- ---- S to L with d = 0; L to 0 by two productions, with d from 0 to a and from b to 9

ranges : ℤ → ℤ → Grammar
ranges a b = record {
  terminals = 1;
  counts = record { inherited = 0; synthesized = 1 } ∷ record { inherited = 1; synthesized = 1 } ∷ [];
  carrying = [];
  start = 0;
  result = 1;
  productions =
      record { left = 0; right = L ∷ []; rules = rule (occ 1 1) (const (pos 0)) ∷ rule (occ 0 1) (copy (occ 1 2)) ∷ []; conditions = [] }
      ∷ record { left = 1; right = terminal 0 ∷ []; rules = rule (occ 0 2) (const (pos 0)) ∷ []; conditions = range (occ 0 1) (pos 0) a ∷ [] }
      ∷ record { left = 1; right = terminal 0 ∷ []; rules = rule (occ 0 2) (const (pos 0)) ∷ []; conditions = range (occ 0 1) b (pos 9) ∷ [] }
      ∷ [];
}

-- both hold the token, and d = 5 enters both
clash : Clash (ranges (pos 5) (pos 5)) 2 1
unfolding ranges
clash = record { left = refl; meet = (token 0, inl ([], itself), inl ([], itself)); enter = inr (inr (pos 5 ∷ [], refl, tt, tt, tt)) }
