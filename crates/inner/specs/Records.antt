-- 01's values for what the inner calls hand back.
use Rattle.std.specs.Prelude.{ℕ, List, ℤ}
use Rattle.meaning.specs.PublicCalls.{stacks_of}
use Rattle.meaning_inner.specs.Inner.{handed_back, InnerEffect, inner_effect}
use Rattle.records.specs.Records.{answer_is}
use Rattle.engine.specs.Records.{record_is}
use Rattle.inner.specs.declared.states.InnerHanded.{InnerHanded}
use Rattle.inner.specs.declared.InnerCalled.{InnerCalled}

-- what a call answers, and the stacks and the program area that it leaves
abbrev pub inner_effect_is : InnerCalled → List ℤ → List ℕ → List ℕ → InnerEffect
inner_effect_is r m ps area = inner_effect (handed_back (answer_is r.answer) (record_is r.outer) (record_is r.inner) (stacks_of m ps)) area

abbrev pub inner_called_from : InnerHanded → InnerCalled
inner_called_from h = record { outer = record { state = h.outer }; inner = record { state = h.inner }; answer = h.answer }
