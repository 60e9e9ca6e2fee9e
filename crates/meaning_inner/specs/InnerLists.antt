-- 02 (h): what a list of inner calls comes to, and what the same calls come to for a run alone.
use Rattle.std.specs.Prelude.{List, [], ◌∷◌}
use Rattle.meaning.specs.Grammar.{TableBytes, Area, ProgramBuilder}
use Rattle.meaning.specs.Calls.{Record, Stacks, Answer}
use Rattle.meaning.specs.PublicCalls.{Call, Effect, opens, performs}
use Rattle.meaning_inner.specs.Inner.{InnerCall, engine, InnerEffect, inner_opens, inner_performs}

-- a run alone, and two runs over the same stacks
pub record Alone : Type 0 where
  pub state : Record
  pub stacks : Stacks

pub record Both : Type 0 where
  pub outer_state : Record
  pub inner_state : Record
  pub stacks : Stacks

abbrev pub opened_alone : ProgramBuilder → TableBytes → Area → Stacks → Alone
opened_alone program bs area m = record { state = (opens program bs area m).state; stacks = (opens program bs area m).stacks }

abbrev pub both_of : InnerEffect → Both
both_of e = record { outer_state = e.outer_state; inner_state = e.inner_state; stacks = e.stacks }

-- a call of a list, with any table and area
pub record CallWithTable (C : Type 0) : Type 0 where
  pub table : TableBytes
  pub area : Area
  pub call : C

abbrev pub performs_alone : ProgramBuilder → Alone → CallWithTable Call → Effect
performs_alone program a s = performs program s.table s.area a.state a.stacks s.call

abbrev pub performs_inside : ProgramBuilder → Both → CallWithTable InnerCall → InnerEffect
performs_inside program b s = inner_performs program s.table s.area b.outer_state b.inner_state b.stacks s.call

-- a run alone after a list of calls, and what they answer
abbrev pub alone_after : ProgramBuilder → Alone → List (CallWithTable Call) → Alone
alone_after program a [] = a
alone_after program a (s ∷ ss) = alone_after program (record { state = (performs_alone program a s).state; stacks = (performs_alone program a s).stacks }) ss

abbrev pub alone_answers : ProgramBuilder → Alone → List (CallWithTable Call) → List Answer
alone_answers program a [] = []
alone_answers program a (s ∷ ss) = (performs_alone program a s).answer ∷ alone_answers program (record { state = (performs_alone program a s).state; stacks = (performs_alone program a s).stacks }) ss

abbrev pub inside_after : ProgramBuilder → Both → List (CallWithTable InnerCall) → Both
inside_after program b [] = b
inside_after program b (s ∷ ss) = inside_after program (both_of (performs_inside program b s)) ss

abbrev pub inside_answers : ProgramBuilder → Both → List (CallWithTable InnerCall) → List Answer
inside_answers program b [] = []
inside_answers program b (s ∷ ss) = (performs_inside program b s).answer ∷ inside_answers program (both_of (performs_inside program b s)) ss

-- the same calls, as an inner run's
abbrev pub inside : CallWithTable Call → CallWithTable InnerCall
inside s = record { table = s.table; area = s.area; call = engine s.call }

-- an inner run opened over the run r on the stacks m, after a list of calls
abbrev pub inner_run : ProgramBuilder → TableBytes → TableBytes → Area → Record → Stacks → List (CallWithTable InnerCall) → Both
inner_run program outer_table inner_table area r m ss = inside_after program (both_of (inner_opens program outer_table inner_table area r m)) ss
