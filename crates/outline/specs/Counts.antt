-- How many attributes a symbol has, by its byte and the counts of the nonterminals.
use Rattle.std.specs.Prelude.{ℕ, ◌-◌, ◌≤◌, ◌<◌, ◌≡◌, refl, Bool, cond, List, [], ◌∷◌, ltb}
use Rattle.std.proofs.Common.{sym, ap, ◌∙◌, lt-ltb, le-ltb}
use Rattle.meaning.specs.Grammar.{attribute_if, nonterminal_base}
use Rattle.meaning.specs.Sets.{has}
use Rattle.meaning.specs.Table.{byte}
use Rattle.token_set.specs.SetBits.{bit, set_of}

-- a count of a symbol, 0 for a terminal
unfoldable pub count_at_value : List ℕ → ℕ → ℕ
count_at_value counts b = cond (ltb b nonterminal_base) 0 (byte counts (b - nonterminal_base))

-- a symbol's synthesized count, where a word holds the terminals that carry a value. 02 (e): "names a terminal with one synthesized
-- attribute"; another terminal has none
unfoldable pub synthesized_at : ℕ → List ℕ → ℕ → ℕ
synthesized_at carrying counts b = cond (ltb b nonterminal_base) (attribute_if (has (set_of carrying) b)) (byte counts (b - nonterminal_base))

-- ---- by the tests that the code makes

pub count_terminal : (counts : List ℕ) (b : ℕ) → b < nonterminal_base → 0 ≡ count_at_value counts b
unfolding count_at_value
count_terminal counts b l = rw (lt-ltb b nonterminal_base l)

pub count_nonterminal : (counts : List ℕ) (b r : ℕ) → nonterminal_base ≤ b → r ≡ byte counts (b - nonterminal_base) → r ≡ count_at_value counts b
unfolding count_at_value
count_nonterminal counts b r l e = rw (le-ltb b nonterminal_base l) e

pub synthesized_terminal : (carrying : ℕ) (counts : List ℕ) (b : ℕ) {c d : Bool} → b < nonterminal_base → c ≡ has (set_of carrying) b → c ≡ d → attribute_if d ≡ synthesized_at carrying counts b
unfolding synthesized_at
synthesized_terminal carrying counts b l e q = rw (lt-ltb b nonterminal_base l) (ap attribute_if (sym q ∙ e))

pub synthesized_nonterminal : (carrying : ℕ) (counts : List ℕ) (b r : ℕ) → nonterminal_base ≤ b → r ≡ count_at_value counts b → r ≡ synthesized_at carrying counts b
unfolding count_at_value synthesized_at
synthesized_nonterminal carrying counts b r l e = rw (le-ltb b nonterminal_base l) (rw (le-ltb b nonterminal_base l) at e)

-- ---- computed: terminals 0 and 2 carry a value, and nonterminal 1 has a count of 3

count_row : count_at_value (1 ∷ 3 ∷ []) 129 ≡ 3
unfolding count_at_value
count_row = refl

terminal_row : count_at_value (1 ∷ 3 ∷ []) 1 ≡ 0
unfolding count_at_value
terminal_row = refl

carrying_row : synthesized_at 5 (1 ∷ 3 ∷ []) 2 ≡ 1
unfolding synthesized_at set_of bit
carrying_row = refl

plain_row : synthesized_at 5 (1 ∷ 3 ∷ []) 1 ≡ 0
unfolding synthesized_at set_of bit
plain_row = refl

synthesized_row : synthesized_at 5 (1 ∷ 3 ∷ []) 129 ≡ 3
unfolding synthesized_at set_of bit
synthesized_row = refl
