use Rattle.std.proofs.Common.{rules, tests, ◌∙◌}
use Rattle.std.proofs.lemmas.Iterator.{YieldsList-from_slice}
use Rattle.std.proofs.lemmas.Iterator.Consumers.{YieldsList-from_copied}
use Rattle.std.proofs.lemmas.Iterator.Search.{all_from_yields_List}
use Rattle.meaning.specs.Value.{in_range}
use Rattle.run_fit.proofs.Tests.{list_all_is}
use Rattle.run_fit.proofs.cells.all_valued.Goals as goal

pub returns : goal.returns
returns c =
    all_from_yields_List in_range _ _ c.all.result c.all.ensures.ran (YieldsList-from_copied (YieldsList-from_slice c.args.cells.now cc)) (λ x b q k. search (rules, tests))
    ∙ list_all_is in_range c.args.cells.now
