-- The faults of the fields of tags 1 to 3 and 6, as lists of demands on their bytes.
use Rattle.std.specs.Prelude.{ℕ, suc, ◌+◌, ◌-◌, Bool, List, [], ◌∷◌, length, drop, ltb}
use Rattle.meaning.specs.Grammar.{nonterminal_base}
use Rattle.meaning.specs.Limits.{attributes_limit, nonterminals_limit, productions_limit, symbols_limit, terminals_limit}
use Rattle.meaning.specs.Base.{all}
use Rattle.meaning.specs.Table.{byte}
use Rattle.table_fields.specs.Demand.{holds, equal, at_most, below, between, if_equal, if_below}

unfoldable pub header_fault : List ℕ → ℕ
header_fault b =
    equal (length b) 4 4
    (between 1 terminals_limit (byte b 0) 4
    (between 1 nonterminals_limit (byte b 1) 4
    (below (byte b 2) (byte b 1) 5
    0)))

-- the counts of nonterminal n
unfoldable pub counts_fault : ℕ → ℕ → ℕ → List ℕ → ℕ
counts_fault n start result b =
    equal (length b) 2 4
    (at_most (byte b 0 + byte b 1) attributes_limit 4
    (if_equal n start
    (equal (byte b 0) 0 6
    (between 1 (byte b 1) result 6
    0))
    0))

-- a symbol by its byte
unfoldable pub symbol_known : ℕ → ℕ → ℕ → Bool
symbol_known terminals nonterminals n = if_below n nonterminal_base (ltb n terminals) (ltb (n - nonterminal_base) nonterminals)

-- every number of a list from the k-th on passes a test
unfoldable pub all_from : (ℕ → Bool) → List ℕ → ℕ → Bool
all_from f b k = all f (drop k b)

-- every symbol of a production by its body, from a byte on
abbrev pub symbols_known : ℕ → ℕ → List ℕ → ℕ → Bool
symbols_known terminals nonterminals b k = all_from (symbol_known terminals nonterminals) b k

-- a production after p others
unfoldable pub production_fault : ℕ → ℕ → ℕ → List ℕ → ℕ
production_fault terminals nonterminals p b =
    at_most 2 (length b) 4
    (at_most (byte b 1) symbols_limit 4
    (equal (length b) (2 + byte b 1) 4
    (below p productions_limit 4
    (below (byte b 0) nonterminals 5
    (holds (symbols_known terminals nonterminals b 2) 5
    0)))))

-- the same but for the symbols on its right
unfoldable pub head_fault : ℕ → ℕ → List ℕ → ℕ
head_fault nonterminals p b =
    at_most 2 (length b) 4
    (at_most (byte b 1) symbols_limit 4
    (equal (length b) (2 + byte b 1) 4
    (below p productions_limit 4
    (below (byte b 0) nonterminals 5
    0))))

-- the least number above the terminal named last, of a list with the latest first
abbrev pub least_after : List ℕ → ℕ
least_after [] = 0
least_after (u ∷ us) = suc u

-- a terminal that carries a value, where the numbers from `least` on rise
unfoldable pub carrier_fault : ℕ → ℕ → List ℕ → ℕ
carrier_fault terminals least b =
    equal (length b) 1 4
    (below (byte b 0) terminals 5
    (at_most least (byte b 0) 5
    0))
