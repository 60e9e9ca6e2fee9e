-- The answer on a table that is read whole.
use Rattle.std.specs.Prelude.{ℕ, ◌≡◌, List, Result, Ok, Err}
use Rattle.meaning.specs.Judgement as Judgement
use Rattle.meaning.specs.Judgement.{accepted, rejected}
use Rattle.refusals.specs.Numbers.{fault_number}
use Rattle.refusals.specs.declared.TableRefusal.{TableRefusal}
use Rattle.outline.specs.declared.Sizes.{Sizes}
use Rattle.outline.specs.Outline.{grammar_in, Starting}

-- the answer for a verdict on what was read
abbrev pub Concludes : List ℕ → Sizes → List ℕ → Result (Unit {0}) TableRefusal → Judgement.Verdict → Type 0
Concludes t sizes sets (Ok _) v = (v ≡ accepted) × Starting (grammar_in t) sizes.productions sets
Concludes t sizes sets (Err r) v = v ≡ rejected (fault_number r.fault) r.offset
