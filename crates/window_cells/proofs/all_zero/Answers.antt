use Rattle.std.proofs.Common.{rules, ◌∙◌}
use Rattle.std.proofs.lemmas.Iterator.{YieldsList-from_slice}
use Rattle.std.proofs.lemmas.Iterator.Search.{all_from_yields_List}
use Rattle.theory_window.specs.Parts.{is_zero}
use Rattle.window_cells.specs.Signed.{int_eq_same}
use Rattle.window_cells.proofs.Laws.{list_all_all}
use Rattle.window_cells.proofs.all_zero.Goals as goal

pub returns : goal.returns
returns c = all_from_yields_List is_zero _ _ _ c.all.ensures.ran (YieldsList-from_slice c.args.cells.now cc) (λ x b q k. search (rules, int_eq_same)) ∙ list_all_all is_zero c.args.cells.now
