-- The program of a grammar written, and nothing behind it.
use Rattle.std.specs.Prelude.{ℕ, ◌≡◌, List, length}
use Rattle.meaning.specs.Grammar.{Grammar}
use Rattle.meaning.specs.Program.{program_of}
use Rattle.meaning.specs.PublicCalls.{written}

pub record ProgramWrote (g : Grammar) (old new : List ℕ) (next : ℕ) : Type 0 where
  pub memory : new ≡ written (program_of g) old
  pub size : next ≡ length (program_of g)
