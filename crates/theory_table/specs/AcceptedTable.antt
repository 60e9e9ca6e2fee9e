-- The grammar of an accepted table meets the rules of 01.
use Rattle.std.specs.Prelude.{ℕ, List}
use Rattle.std.proofs.Common.{subst}
use Rattle.meaning.specs.Grammar.{Grammar}
use Rattle.meaning.specs.Judgement.{Accepted}
use Rattle.meaning.specs.Rules.{WellFormed}
use Rattle.theory_table.specs.ReadWellFormed.{read_well_formed}

pub accepted_well_formed : (bs : List ℕ) (g : Grammar) → Accepted bs g → WellFormed g
accepted_well_formed bs g a = subst WellFormed a.is_grammar (read_well_formed bs a.state a.is_read)
