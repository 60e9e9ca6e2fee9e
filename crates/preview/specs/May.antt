-- 02's numbers and sets for what the set's call answers.
use Rattle.std.specs.Prelude.{ℕ, List, ℤ}
use Rattle.meaning.specs.PublicCalls.{stacks_of}
use Rattle.meaning_preview.specs.Preview.{MayAnswer, tokens, turned, MayEffect, may_effect}
use Rattle.token_set.specs.SetBits.{set_of}
use Rattle.records.specs.Records.{answer_is}
use Rattle.preview.specs.declared.May.{May}
use Rattle.preview.specs.declared.May.TheVariants.{Tokens, Turned}

abbrev pub may_is : May → MayAnswer
may_is (Tokens set) = tokens (set_of set.0)
may_is (Turned answer) = turned (answer_is answer)

-- with the scratch and the program area afterwards
abbrev pub may_effect_is : May → List ℤ → List ℕ → List ℕ → MayEffect
may_effect_is a rs qs area = may_effect (may_is a) (stacks_of rs qs) area
