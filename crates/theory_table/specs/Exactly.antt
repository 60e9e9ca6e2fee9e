-- A table is read without one of refusals 1 to 10 exactly where a grammar that meets 01's rules is laid out in it, in at most 32,768 bytes.
use Rattle.std.specs.Prelude.{ℕ, ◌≤◌, ◌≡◌, ◌↔◌, List, length}
use Rattle.std.proofs.Common.{subst}
use Rattle.meaning.specs.Limits.{table_limit}
use Rattle.meaning.specs.Grammar.{Grammar}
use Rattle.meaning.specs.Rules.{WellFormed}
use Rattle.meaning.specs.Layout.{LaidOut, Bytes}
use Rattle.meaning.specs.Table.{State, well_formed, read_table, grammar_of}
use Rattle.theory_table.specs.Reading.{table_reads}
use Rattle.theory_table.specs.ReadWellFormed.{read_well_formed}
use Rattle.theory_table.specs.ReadLaidOut.{read_laid_out}
use Rattle.theory_table.specs.LaidOutRead.{laid_out_read}

pub well_formed_exactly : (bs : List ℕ) → Bytes bs → (g : Grammar) → ((s : State) × (read_table bs ≡ well_formed s) × (grammar_of s ≡ g)) ↔ (LaidOut g bs × WellFormed g × (length bs ≤ table_limit))
well_formed_exactly bs h g = (
  (λ r. (subst (λ z. LaidOut z bs) r.2 (read_laid_out bs r.0 h r.1), subst WellFormed r.2 (read_well_formed bs r.0 r.1), (table_reads bs r.0 r.1).0)),
  (λ r. laid_out_read bs g r.0 r.1 r.2),
)
