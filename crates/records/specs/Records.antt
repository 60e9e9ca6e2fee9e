-- 01's numbers and values for the states and answers of the code.
use Rattle.std.specs.Prelude.{ℕ, List, ℤ}
use Rattle.meaning.specs.Calls as Calls
use Rattle.meaning.specs.Calls.{running, waiting, closed, outer, inner, more, value, refused, table_refused}
use Rattle.meaning.specs.PublicCalls.{stacks_of}
use Rattle.records.specs.declared.Status.{Status}
use Rattle.records.specs.declared.Status.TheVariants.{Running, Waiting, Closed}
use Rattle.records.specs.declared.Kind.{Kind}
use Rattle.records.specs.declared.Kind.TheVariants.{Outer, Inner}
use Rattle.records.specs.declared.State.{State}
use Rattle.records.specs.declared.Answer.{Answer}
use Rattle.records.specs.declared.Answer.TheVariants.{More, Value, Refused, TableRefused}
use Rattle.records.specs.declared.Handed.{Handed}

abbrev pub status_is : Status → Calls.Status
status_is Running = running
status_is Waiting = waiting
status_is Closed = closed

abbrev pub kind_is : Kind → Calls.Kind
kind_is Outer = outer
kind_is (Inner registers places) = inner registers places

abbrev pub state_is : State → Calls.Record
state_is s = record { status = status_is s.status; kind = kind_is s.kind; tokens = s.tokens; moves = s.moves; register_height = s.registers; place_height = s.places }

-- 01: "The answer carries the moves made since opening"; "Turned back because of the input", "because of the state"
abbrev pub answer_is : Answer → Calls.Answer
answer_is (More moves) = more moves
answer_is (Value v moves) = value v moves
answer_is (Refused number tokens) = refused number tokens
answer_is (TableRefused number offset) = table_refused number offset

-- what a call answers, and the stacks that it leaves
abbrev pub handed_is : Handed → List ℤ → List ℕ → Calls.Called
handed_is h m ps = record { answer = answer_is h.answer; state = state_is h.state; stacks = stacks_of m ps }
