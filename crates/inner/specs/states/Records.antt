-- 01's numbers and values for what the inner calls hand back, and what the code makes of states.
use Rattle.std.specs.Prelude.{ℕ, ◌≡◌, Bool, true, false, not, ◌&&◌, ◌||◌, List, ℤ}
use Rattle.std.proofs.Common.{sym}
use Rattle.meaning.specs.Calls as Calls
use Rattle.meaning.specs.PublicCalls.{stacks_of, feed, finish}
use Rattle.meaning_inner.specs.Inner as Inner
use Rattle.meaning_inner.specs.Inner.{InnerCall, give_up, handed_back, inner_effect, is_closed, is_running, is_waiting, is_outer, begins_at, belongs}
use Rattle.records.specs.declared.Status.TheVariants.{Running, Waiting, Closed}
use Rattle.records.specs.declared.Kind.TheVariants as Kinds
use Rattle.records.specs.declared.State.{State}
use Rattle.records.specs.declared.Answer.{Answer}
use Rattle.records.specs.declared.Handed.{Handed}
use Rattle.records.specs.Records.{state_is, answer_is}
use Rattle.records.specs.States.{closed_at_zero, with_status, with_kind}
use Rattle.inner.specs.declared.states.InnerHanded.{InnerHanded}
use Rattle.inner.specs.declared.states.Call.{Call}
use Rattle.inner.specs.declared.states.Call.TheVariants.{Feed, Finish, GiveUp}

-- what a call answers, and the stacks that it leaves
abbrev pub inner_handed_is : InnerHanded → List ℤ → List ℕ → Inner.InnerCalled
inner_handed_is r m ps = handed_back (answer_is r.answer) (state_is r.outer) (state_is r.inner) (stacks_of m ps)

-- the same with the program area
abbrev pub inner_leaves : InnerHanded → List ℤ → List ℕ → List ℕ → Inner.InnerEffect
inner_leaves r m ps area = inner_effect (inner_handed_is r m ps) area

-- kinds and values are a feed's
abbrev pub call_is : Call → List ℕ → List ℤ → InnerCall
call_is Feed ks vs = Inner.engine (feed ks vs)
call_is Finish ks vs = Inner.engine finish
call_is GiveUp ks vs = give_up

-- ---- 33 and 34 by the records

abbrev pub apart_by_value : Bool → Bool → ℕ
apart_by_value true b = 33
apart_by_value false false = 34
apart_by_value false true = 0

abbrev pub apart_number : Calls.Record → Calls.Record → ℕ
apart_number o i = apart_by_value (is_closed o.status || is_closed i.status) (belongs o i)

module _ (o i : Calls.Record) where
  pub belongs_by : {w u r b : Bool} → is_waiting o.status ≡ w → is_outer o.kind ≡ u → is_running i.status ≡ r → begins_at i.kind o.register_height o.place_height ≡ b → w && u && r && b ≡ belongs o i
  belongs_by e f g h = sym (λ j. e j && f j && g j && h j)

  pub apart_by : {x y b : Bool} → is_closed o.status ≡ x → is_closed i.status ≡ y → belongs o i ≡ b → apart_by_value (x || y) b ≡ apart_number o i
  apart_by e f g = sym (λ j. apart_by_value (e j || f j) (g j))

-- ---- what is handed back

abbrev pub not_opened_from : State → Answer → InnerHanded
not_opened_from o a = record { outer = o; inner = closed_at_zero; answer = a }

abbrev pub opened_by : Bool → State → Handed → InnerHanded
opened_by true o h = record { outer = with_status Waiting o; inner = with_kind (Kinds.Inner o.registers o.places) h.state; answer = h.answer }
opened_by false o h = not_opened_from o h.answer

abbrev pub opened_from : State → Handed → InnerHanded
opened_from o h = opened_by (Calls.is_open (state_is h.state)) o h

abbrev pub went_on_from : State → State → Handed → InnerHanded
went_on_from o i h = record { outer = o; inner = with_kind i.kind h.state; answer = h.answer }

abbrev pub ended_from : State → State → Handed → InnerHanded
ended_from o i h = record { outer = with_status Running o; inner = with_kind i.kind (with_status Closed h.state); answer = h.answer }

abbrev pub ends_by : Call → Handed → Bool
ends_by Feed h = not (Calls.is_open (state_is h.state))
ends_by Finish h = not (Calls.is_open (state_is h.state))
ends_by GiveUp h = Inner.goes_on (answer_is h.answer)
