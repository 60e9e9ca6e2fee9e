-- Whether a symbol is known, by its byte.
use Prim.Native.Nat.{ℕ, ◌-◌, ◌≤◌, ◌<◌}
use mathlib.Core.Path.{◌≡◌, sym}
use mathlib.Core.Bool.{true, false}
use borrow.Author.Tests.{lt-ltb, le-ltb}
use Rattle.meaning.specs.Grammar.{nonterminal_base}
use Rattle.table_fields.specs.Judge.{symbol_known}
use Rattle.table_fields.proofs.Demands.{below_yes, below_no}

module _ (t m k : ℕ) where
  pub token_known : k < nonterminal_base → k < t → symbol_known t m k ≡ true
  unfolding symbol_known
  token_known l h = sym (below_yes k nonterminal_base _ _ l (sym (lt-ltb k t h)))

  pub token_unknown : k < nonterminal_base → t ≤ k → symbol_known t m k ≡ false
  unfolding symbol_known
  token_unknown l h = sym (below_yes k nonterminal_base _ _ l (sym (le-ltb k t h)))

  pub nonterminal_known : nonterminal_base ≤ k → k - nonterminal_base < m → symbol_known t m k ≡ true
  unfolding symbol_known
  nonterminal_known l h = sym (below_no k nonterminal_base _ _ l (sym (lt-ltb (k - nonterminal_base) m h)))

  pub nonterminal_unknown : nonterminal_base ≤ k → m ≤ k - nonterminal_base → symbol_known t m k ≡ false
  unfolding symbol_known
  nonterminal_unknown l h = sym (below_no k nonterminal_base _ _ l (sym (le-ltb (k - nonterminal_base) m h)))
