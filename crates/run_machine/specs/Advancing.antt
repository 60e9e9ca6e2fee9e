-- What is answered for what the machine settles in.
use Rattle.std.specs.Prelude.{ℕ, ◌≡◌, List, ℤ, Result, Ok, Err}
use Rattle.meaning.specs.Grammar.{Grammar}
use Rattle.meaning.specs.Machine.{Config, Lent, Settled, stopped, failed}
use Rattle.refusals.specs.Numbers.{refusal_number}
use Rattle.run_moves.specs.declared.Run.{Run}
use Rattle.run_machine.specs.declared.Failed.{Failed}
use Rattle.run_moves.specs.Held.{Held}
pub use Rattle.run_next_token.specs.Operations.{Running, blocked_over, blocked_limit}

-- what moves lead to until one needs what comes next: the run that waits, or the run at which what comes or the move at hand is refused
abbrev pub Ended : Type 0
Ended = Result Run Failed

-- what is answered for what the machine settles in
abbrev pub Settles : Grammar → List ℕ → Lent → Settled → List ℤ → List ℕ → Ended → Type 0
Settles g ws lent o m ps (Ok run) = (d : Config) × (o ≡ stopped d) × Held g ws lent m ps run d
Settles g ws lent o m ps (Err f) = (d : Config) × (o ≡ failed d (refusal_number f.refusal)) × Held g ws lent m ps f.run d
