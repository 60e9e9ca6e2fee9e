-- A grammar whose symbols have several attributes, with conditions at several positions: its scheme.
use Rattle.std.specs.Prelude.{ℕ, ◌≡◌, refl, [], ◌∷◌, pos, negsuc}
use Rattle.std.proofs.Math.Option.{none}
use Rattle.meaning.specs.Grammar.{Symbol, terminal, nonterminal, Function, const, copy, binary, sum, diff, addc, Rule, range, atmost, Production, Grammar}
use Rattle.meaning.specs.Scheme.{add, evaluate, expect, test, remove, scheme}
use Rattle.meaning.specs.Examples.WordsAndTags.{occ, rule}

abbrev pub X : Symbol
X = nonterminal 1

abbrev pub Y : Symbol
Y = nonterminal 2

-- X to Y 0 X Y. X has inherited 1, 2 and synthesized 3, Y has inherited 1 and synthesized 2, 3
abbrev pub wide1 : Production
wide1 = record {
  left = 1;
  right = Y ∷ terminal 0 ∷ X ∷ Y ∷ [];
  rules = rule (occ 1 1) (binary sum (occ 0 1) (occ 0 2)) ∷ rule (occ 0 3) (binary sum (occ 4 2) (occ 1 3)) ∷ rule (occ 3 1) (copy (occ 1 2)) ∷ rule (occ 4 1) (binary diff (occ 3 3) (occ 1 3)) ∷ rule (occ 3 2) (copy (occ 0 1)) ∷ [];
  conditions = atmost (occ 4 3) (occ 1 3) none ∷ range (occ 0 2) (pos 0) (pos 5) ∷ atmost (occ 0 1) (occ 1 2) none ∷ range (occ 3 3) (negsuc 0) (pos 9) ∷ range (occ 0 1) (negsuc 9) (pos 9) ∷ [];
}

-- S to X; X to 1; Y to 2
abbrev pub wide : Grammar
wide = record {
  terminals = 3;
  counts = record { inherited = 0; synthesized = 1 } ∷ record { inherited = 2; synthesized = 1 } ∷ record { inherited = 1; synthesized = 2 } ∷ [];
  carrying = [];
  start = 0;
  result = 1;
  productions =
      record { left = 0; right = X ∷ []; rules = rule (occ 1 1) (const (pos 3)) ∷ rule (occ 1 2) (const (pos 4)) ∷ rule (occ 0 1) (copy (occ 1 3)) ∷ []; conditions = [] }
      ∷ wide1
      ∷ record { left = 1; right = terminal 1 ∷ []; rules = rule (occ 0 3) (copy (occ 0 1)) ∷ []; conditions = [] }
      ∷ record { left = 2; right = terminal 2 ∷ []; rules = rule (occ 0 2) (copy (occ 0 1)) ∷ rule (occ 0 3) (addc (occ 0 1) (pos 1)) ∷ []; conditions = [] }
      ∷ [];
}

-- ---- the scheme

abbrev r : ℕ → Function ℕ → Rule ℕ
r t f = record { target = t; function = f }

whole_scheme : scheme wide wide1 ≡
    add 3 ∷ evaluate (r 1 (binary sum 4 5) ∷ []) ∷ expect Y ∷ test (atmost 3 1 none ∷ [])
    ∷ expect (terminal 0)
    ∷ add 3 ∷ evaluate (r 1 (copy 4) ∷ r 2 (copy 6) ∷ []) ∷ expect X ∷ test (range 1 (negsuc 0) (pos 9) ∷ [])
    ∷ add 3 ∷ evaluate (r 1 (binary diff 4 6) ∷ []) ∷ expect Y ∷ test (atmost 2 5 none ∷ [])
    ∷ evaluate (r 8 (binary sum 1 5) ∷ []) ∷ remove 7 ∷ []
whole_scheme = refl
