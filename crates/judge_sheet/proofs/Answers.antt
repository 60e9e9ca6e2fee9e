-- What the answers for the root of a sheet show, under an accepted table.
use Prim.Native.Nat.{ℕ, ◌+◌, ◌≤◌, ◌<◌}
use native.Mathlib.Omega.{arith}
use mathlib.Core.Path.{◌≡◌, sym, ap, ◌∙◌, subst}
use mathlib.Core.List.{List}
use lib.ListN.{length}
use lib.IntN.{ℤ}
use Rattle.meaning.specs.Limits.{attributes_limit, depth_limit}
use Rattle.meaning.specs.Grammar.{Grammar, nonterminal, syn, nonterminal_base}
use Rattle.meaning.specs.Rules.{Known}
use Rattle.meaning.specs.Table.{symbol_of}
use Rattle.theory_base.specs.WellFormed.{counts_most}
use Rattle.meaning_judge.specs.Judge.{Settles, turned_back, worth}
use Rattle.theory_judge.specs.Marks.{read_mark, leaves_many}
use Rattle.theory_judge.specs.Passing.{Only}
use Rattle.theory_judge.specs.Described.{Described}
use Rattle.theory_judge.specs.Whole.{none_wrong, none_longer, none_tokens, settles_worth, settles_none}
use Rattle.outline.specs.Images.{symbol_nonterminal}
use Rattle.outline.specs.Outline.{grammar_in}
use Rattle.judge_nodes.specs.parts.Checked.{leaves_in, EndsOrNone, NodeReady, NodeEnds}
use Rattle.judge_nodes.specs.parts.Laws.{fits, ends_of_fits, none_of_wrong}
use Rattle.std.proofs.Common.{Option, None}
use Rattle.judge_nodes.specs.declared.parts.Ends.{Ends}
use Rattle.judge_sheet.specs.Judged.{SheetReady}

module _ {table rows inherited synthesized offsets ks : List ℕ} {vs : List ℤ} {sheet : List ℕ} {start result : ℕ} (y : SheetReady table rows inherited synthesized offsets ks vs sheet start result) where
  abbrev g : Grammar
  g = grammar_in table

  pub result_small : result < 256
  result_small = omega (arith, y.is_result, y.book.productions.rows_of.sound.result.1, counts_few)
    where
      counts_few : syn g (nonterminal g.start) ≤ attributes_limit
      counts_few = omega (arith, counts_most g y.book.productions.rows_of.sound g.start)

  pub start_is : symbol_of (nonterminal_base + start) ≡ nonterminal g.start
  start_is = symbol_nonterminal (nonterminal_base + start) (omega arith) ∙ ap nonterminal (omega (arith, y.is_start))

  abbrev pub root_ready : NodeReady table rows inherited synthesized offsets ks vs sheet 0 (nonterminal_base + start)
  root_ready = record { book = y.book; known = subst (Known g) (sym start_is) y.book.productions.rows_of.sound.start; low = omega arith }

  few_leaves : length (leaves_in g ks vs) < 4294967296
  few_leaves = omega (arith, leaves_many g ks vs y.book.even, y.book.few)

  module _ (r : Option Ends) (t : NodeEnds table rows inherited synthesized offsets ks vs sheet 0 0 (nonterminal_base + start) depth_limit r) where
    ends_there : EndsOrNone (Described g (leaves_in g ks vs) sheet 0 0 (nonterminal g.start) depth_limit) r
    ends_there = subst (λ z. EndsOrNone (Described g (leaves_in g ks vs) sheet 0 0 z depth_limit) r) start_is (t root_ready)

    pub sheet_wrong : r ≡ None → Settles g (leaves_in g ks vs) sheet (turned_back 43 0)
    sheet_wrong w = settles_none g y.book.productions.rows_of.sound ks vs sheet (none_wrong g y.book.productions.rows_of.sound ks vs sheet (none_of_wrong _ r ends_there w))

    module _ (n e : ℕ) (f : r ≡ fits n e) where
      only : Only (Described g (leaves_in g ks vs) sheet 0 0 (nonterminal g.start) depth_limit) n e
      only = ends_of_fits r n e ends_there f

      pub sheet_longer : (n ≡ length sheet → ⊥) → Settles g (leaves_in g ks vs) sheet (turned_back 43 0)
      sheet_longer k = settles_none g y.book.productions.rows_of.sound ks vs sheet (none_longer g y.book.productions.rows_of.sound ks vs sheet n e only k)

      pub tokens_longer : (e ≡ length ks → ⊥) → Settles g (leaves_in g ks vs) sheet (turned_back 43 0)
      tokens_longer k = settles_none g y.book.productions.rows_of.sound ks vs sheet (none_tokens g y.book.productions.rows_of.sound ks vs sheet n e only (λ q. k (q ∙ leaves_many g ks vs y.book.even)))

      pub sheet_worth : n ≡ length sheet → e ≡ length ks → (v : ℤ) → v ≡ read_mark sheet vs 0 result → Settles g (leaves_in g ks vs) sheet (worth v)
      sheet_worth p q v is = settles_worth g y.book.productions.rows_of.sound ks vs sheet n e only few_leaves p (q ∙ sym (leaves_many g ks vs y.book.even)) v (is ∙ ap (read_mark sheet vs 0) y.is_result)
