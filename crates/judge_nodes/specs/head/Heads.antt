-- A node's own record, and what is told of it.
use Rattle.std.specs.Prelude.{◌≡◌, ℕ, ◌+◌, ◌*◌, ◌≤◌, true, Option, Some, None, List, length}
use Rattle.meaning.specs.Base.{all}
use Rattle.meaning.specs.Table.{byte}
use Rattle.outline.specs.Images.{HasRow, left_at}
use Rattle.meaning.specs.Value.{in_range}
use Rattle.value.specs.Constants.{word_at}
use Rattle.theory_judge.specs.Longs.{longs}
use Rattle.judge_nodes.specs.declared.head.Head.{Head}

-- the record at an offset is one of nonterminal m, with so many tokens before it and values in range
pub record Heads (rows inherited synthesized sheet : List ℕ) (at from m : ℕ) : Type 0 where
  pub inside : at + 12 + 8 * (byte inherited m + byte synthesized m) ≤ length sheet
  pub listed : HasRow rows (word_at sheet at)
  pub left : left_at rows (word_at sheet at) ≡ m
  pub before : word_at sheet (at + 4) ≡ from
  pub ranges : all in_range (longs sheet (at + 12) (byte inherited m + byte synthesized m)) ≡ true

-- its production, where its children's records begin, and the tokens that it says it covers
pub record HeadIs (rows inherited synthesized sheet : List ℕ) (at from m p behind covered : ℕ) : Type 0 where
  pub heads : Heads rows inherited synthesized sheet at from m
  pub production : p ≡ word_at sheet at
  pub next : behind ≡ at + 12 + 8 * (byte inherited m + byte synthesized m)
  pub covers : covered ≡ word_at sheet (at + 8)

unfoldable pub HeadOrNone : List ℕ → List ℕ → List ℕ → List ℕ → ℕ → ℕ → ℕ → Option Head → Type 0
HeadOrNone rows inherited synthesized sheet at from m (Some h) = HeadIs rows inherited synthesized sheet at from m h.production h.behind h.covered
HeadOrNone rows inherited synthesized sheet at from m None = Heads rows inherited synthesized sheet at from m → ⊥
