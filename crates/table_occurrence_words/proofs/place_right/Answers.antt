use Prim.Native.Nat.{ℕ, ◌+◌, ◌-◌, ◌<◌}
use mathlib.Core.Path.{◌≡◌, refl, sym, subst, subst₂}
use mathlib.Core.List.{List}
use native.Mathlib.Omega.{arith}
use lib.ListN.{length, set}
use Rattle.nonterminal_set.specs.declared.NonterminalSet.{NonterminalSet}
use Rattle.meaning.specs.Limits.{productions_limit}
use Rattle.outline.specs.Images.{row_start, rows_length}
use Rattle.meaning.specs.Table.{byte}
use Rattle.table_rows.specs.RowWritten.{Copied}
use Rattle.table_rows.proofs.Placing.{copying_two}
use Rattle.table_occurrence_words.specs.declared.Found.{Found}
use Rattle.table_occurrence_words.specs.Placed.{RightPlaced}
use Rattle.table_occurrence_words.proofs.Along.{Along, along_start, along_again, along_next, along_unknown, along_end, placed_from}
use Rattle.table_occurrence_words.proofs.place_right.Goals.{then-symbol-last+in_ok-last, else-symbol-last}
use Rattle.table_occurrence_words.proofs.place_right.Goals as goal

-- the first two bytes copied
two : (rows : List ℕ) (p : ℕ) (b : List ℕ) (at : ℕ) → at ≡ row_start p → length rows ≡ rows_length → p < productions_limit → Copied rows p b (set (set rows at (byte b 0)) (at + 1) (byte b 1)) 2
two rows p b at e l h = rw e (copying_two rows p b l h)

-- one symbol more, by the word and the words of the last symbol
abbrev Next : (rows₀ : List ℕ) (p : ℕ) (b : List ℕ) (terminals nonterminals carrying : ℕ) (inherited synthesized rows inputs settled inputs' settled' : List ℕ) (k : ℕ) → NonterminalSet → Found → Type 0
Next rows₀ p b terminals nonterminals carrying inherited synthesized rows inputs settled inputs' settled' k word f =
    inputs' ≡ set inputs (k - 1) f.inputs → settled' ≡ set settled (k - 1) f.others
    → Along rows₀ p b terminals nonterminals carrying inherited synthesized rows inputs' settled' word.0 f.symbol f.bit.0 f.inputs f.others (k + 1)

pub loop-k-init : goal.loop-k-init
loop-k-init c =
    let done = two _ _ c.args.body.now _ c.row_start-start.ensures c.requires.3 c.requires.0 in
    along_start _ _ _ _ _ _ _ _ _ _ _ _ _ _ _ (record { before = λ i h. refl; row = done.row; kept = done.kept }) c.requires.1 c.requires.5 c.requires.6 c.none_before-last.ensures

pub returns-in_err-last : goal.returns-in_err-last
returns-in_err-last c =
    subst (RightPlaced _ _ _ _ _ _ _ _ _ _ _) (sym c.from_residual.ensures)
    (placed_from _ _ _ _ _ _ _ _ _ _ _ _ _ (two _ _ c.args.body.now _ c.row_start-start.ensures c.requires.3 c.requires.0)
    (along_unknown _ _ _ _ _ _ _ _ c.requires.0 c.requires.2 _ _ _ _ _ _ _ _ _ c.loop-k.invariant c.loop-k-test.true _ c.row_start-start.ensures _ c.wide-symbol.ensures.0 c.in_err-last.ensures.other))

pub loop-k-preserved : goal.loop-k-preserved
loop-k-preserved c =
    let row = c.row_start-start.ensures in
    let symbol = c.wide-symbol.ensures in
    elim c.if-symbol-last.branch [
      | then-symbol-last+in_ok-last w ↦
          subst₂ (Next _ _ _ _ _ _ _ _ _ _ _ _ _ _) (sym w.word-is) (sym w.last-is)
          (along_next _ _ _ _ _ _ _ _ c.requires.0 c.requires.2 _ _ _ _ _ _ _ _ _ c.loop-k.invariant c.loop-k-test.true _ row _ _ _ _ _ _ _ _ symbol.0 w.in_ok-last.ensures.found.0 w.in_ok-last.ensures.found.1 w.union-word.ensures.word)
          c.put.ensures.0 c.put.ensures.1
      | else-symbol-last w ↦
          subst₂ (Next _ _ _ _ _ _ _ _ _ _ _ _ _ _) (sym w.word-is) (sym w.last-is)
          (along_again _ _ _ _ _ _ _ _ c.requires.0 c.requires.2 _ _ _ _ _ _ _ _ _ c.loop-k.invariant c.loop-k-test.true _ row _ _ _ symbol.0 symbol.1 (omega arith))
          c.put.ensures.0 c.put.ensures.1
    ]

pub returns : goal.returns
returns c =
    placed_from _ _ _ _ _ _ _ _ _ _ _ _ _ (two _ _ c.args.body.now _ c.row_start-start.ensures c.requires.3 c.requires.0) (along_end _ _ _ _ _ _ _ _ _ _ _ _ _ _ _ _ _ c.loop-k.invariant (omega arith))
