-- 01's values for the records of the code, and what its calls hand back.
use Rattle.std.specs.Prelude.{ℕ, List, ℤ}
use Rattle.meaning.specs.Calls as Calls
use Rattle.meaning.specs.PublicCalls.{Effect, effect, stacks_of}
use Rattle.records.specs.declared.Handed.{Handed}
use Rattle.records.specs.Records.{state_is, answer_is, handed_is}
use Rattle.engine.specs.declared.Record.{Record}
use Rattle.engine.specs.declared.Called.{Called}

abbrev pub record_is : Record → Calls.Record
record_is r = state_is r.state

-- what a call answers, and the stacks and the program area that it leaves
abbrev pub effect_is : Called → List ℤ → List ℕ → List ℕ → Effect
effect_is r m ps area = effect (record { answer = answer_is r.answer; state = record_is r.«record»; stacks = stacks_of m ps }) area

-- the same of what is handed back below
abbrev pub leaves_as : Handed → List ℤ → List ℕ → List ℕ → Effect
leaves_as h m ps area = effect (handed_is h m ps) area

abbrev pub called_from : Handed → Called
called_from h = record { «record» = record { state = h.state }; answer = h.answer }
