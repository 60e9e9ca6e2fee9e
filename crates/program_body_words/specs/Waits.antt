-- What the places of a production wait at: a word for each symbol, then zeros.
use Rattle.std.specs.Prelude.{ℕ, suc, ◌+◌, ◌≤◌, ◌<◌, ◌≡◌, List, [], ◌∷◌, ◌++◌, length, drop}
use Rattle.std.proofs.Common.{arith, sym, ap, ◌∙◌, drop_of_length-le, drop-cons}
use Rattle.meaning.specs.Limits.{symbols_limit}
use Rattle.meaning.specs.Grammar.{terminal, syn, symbol_at}
use Rattle.meaning.specs.Layout.{symbol_byte}
use Rattle.meaning.specs.Program.{wait_word, waits_from, wait_row}
use Rattle.meaning.specs.Table.{byte}
use Rattle.theory_table.specs.Numbers.{byte_back}
use Rattle.program_block_words.specs.Patch.{Wrote}
use Rattle.program_body_words.specs.Levels.{Leveled}
use Rattle.program_body_words.specs.OfProduction.{OfProduction, right_of}

module _ {row fields inherited synthesized : List ℕ} (x : OfProduction row fields inherited synthesized) where
  -- the words behind the first k, where the symbols passed have n registers
  abbrev pub waits_left : ℕ → ℕ → List ℕ
  waits_left k n = waits_from x.grammar x.production.left n (drop k (right_of x))

  pub waits_turn : (k n : ℕ) → k < length (right_of x) → waits_left k n ≡ (wait_word x.grammar x.production.left n (symbol_at x.production (suc k)) ∷ []) ++ waits_left (k + 1) (n + syn x.grammar (symbol_at x.production (suc k)))
  waits_turn k n l =
      let s : suc k ≡ k + 1 = omega arith in
      ap (waits_from x.grammar x.production.left n) (drop-cons (right_of x) k (terminal 0) l)
      ∙ ap (λ z. wait_word x.grammar x.production.left n (symbol_at x.production (suc k)) ∷ waits_from x.grammar x.production.left (n + syn x.grammar (symbol_at x.production (suc k))) (drop z (right_of x))) s

  pub waits_end : (k n : ℕ) → length (right_of x) ≤ k → waits_left k n ≡ []
  waits_end k n l = ap (waits_from x.grammar x.production.left n) (drop_of_length-le (right_of x) {i = k} l)

  pub byte_is : (k : ℕ) → k < length (right_of x) → byte row (k + 2) ≡ symbol_byte (symbol_at x.production (suc k))
  byte_is k l = sym (byte_back (byte row (k + 2))) ∙ ap symbol_byte (x.symbols k l)

  -- the levels of the production, and its words written
  pub record LeveledAndWaiting (levels old new : List ℕ) (at : ℕ) : Type 0 where
    pub leveled : Leveled x.grammar x.production levels
    pub waiting : Wrote old new at (at + symbols_limit) (wait_row x.grammar x.production)
