-- Examples: 01's grammar of words and tags, stopped after word open.
use Rattle.std.specs.Prelude.{ℕ, ◌≡◌, refl, true, false, List, [], ◌∷◌, ◌++◌, ℤ, pos}
use Rattle.meaning.specs.Value.{mark}
use Rattle.meaning.specs.Examples.WordsAndTags.{words}
use Rattle.meaning.specs.Calls.{stacks_fit, valued, marked}
use Rattle.theory_program.specs.Parts.{wait_symbol}
use Rattle.run_fit.specs.past.Passing.{fits_from}
use Rattle.run_fit.specs.Upward.{places_above, cells_above, stands_fit}
use Rattle.meaning.specs.Program.{program_of}
use Rattle.run_fit.specs.HasProgram.{wait_at, word_on, cells_in}
use Rattle.meaning.specs.PublicCalls.{stacks_of}
use Rattle.run_fit.specs.Cut.{numbers}

-- 01: "places from the bottom 32768, 0, 257, 513"; the registers from the bottom, the highest but one as given
abbrev places : List ℕ
places = 32768 ∷ 0 ∷ 257 ∷ 513 ∷ []

abbrev registers : ℤ → List ℤ
registers v = mark ∷ mark ∷ pos 0 ∷ mark ∷ pos 0 ∷ v ∷ pos 1 ∷ []

fits : stands_fit words places (registers mark) ≡ true
unfolding stands_fit places_above cells_above
fits = refl

-- a waiting symbol's synthesized register is marked
valued_waiting : stands_fit words places (registers (pos 0)) ≡ false
unfolding stands_fit places_above cells_above
valued_waiting = refl

-- the start symbol is left: its value alone, and one place
left : stands_fit words (32769 ∷ []) (pos 2 ∷ []) ≡ true
unfolding stands_fit
left = refl

left_on_left : stands_fit words (32769 ∷ 32769 ∷ []) (pos 2 ∷ []) ≡ false
unfolding stands_fit
left_on_left = refl

-- the start symbol's register and the first place's two are passed
from_two : fits_from (registers mark) 3 (cells_above words (257 ∷ 513 ∷ [])) ≡ true
unfolding fits_from cells_above
from_two = refl

-- 257: production 1 waits at its second symbol, L again (byte 129), with no register passed, one marked and one inherited
abbrev word : ℕ
word = wait_at (program_of words) 257

on_first : word_on word 129 ≡ true
unfolding wait_at
on_first = refl

on_start : word_on word 128 ≡ false
unfolding wait_at
on_start = refl

waits_again : wait_symbol word ≡ 129
unfolding wait_at
waits_again = refl

no_symbol_left : wait_at (program_of words) 258 ≡ 0
unfolding wait_at
no_symbol_left = refl

cells : cells_in word ≡ marked ∷ valued ∷ []
unfolding wait_at
cells = refl

-- 34 on lent cells, all above the heights cleared, and one not
cleared : stacks_fit words (numbers 2 11 7 4) (stacks_of (registers mark ++ (mark ∷ [])) (places ++ (0 ∷ []))) ≡ true
cleared = refl

not_cleared : stacks_fit words (numbers 2 11 7 4) (stacks_of (registers mark ++ (pos 0 ∷ [])) (places ++ (0 ∷ []))) ≡ false
not_cleared = refl
