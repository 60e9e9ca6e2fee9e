-- The calls as a caller makes them: 30 comes before the table.
use Rattle.std.specs.Prelude.{ℕ, ◌≡◌, refl, List, [], ◌∷◌, length}
use Rattle.meaning.specs.Grammar.{Grammar}
use Rattle.meaning.specs.Calls.{Record, Stacks, Answer, refused, closed_record}
use Rattle.meaning.specs.PublicCalls.{Effect, opens, turned, made, made_of}
use Rattle.meaning.specs.Examples.CallRows.{used}

-- a program of two words and the number of productions
abbrev pub program : Grammar → List ℕ
program g = 7 ∷ 8 ∷ length g.productions ∷ []

-- what a call answers and leaves
abbrev pub effect : Answer → Record → Stacks → List ℕ → Effect
effect a r s ws = record { answer = a; state = r; stacks = s; area = ws }

-- 30 before the table: record closed and all zero, nothing written
opens_short_first : opens program [] (5 ∷ []) (used 0 0) ≡ effect (refused 30 0) closed_record (used 0 0) (5 ∷ [])
opens_short_first = refl

-- the program alone
program_short : made_of [] (5 ∷ []) ≡ made (turned 30 0) (5 ∷ [])
program_short = refl
