-- The calls, computed on the grammar of words and tags, on stacks that held something else: record, answer and every cell.
use Rattle.std.specs.Prelude.{◌≡◌, refl, false, [], ◌∷◌, replicate, drop, pos}
use Rattle.meaning.specs.Calls.{value, lent_of, open_of}
use Rattle.meaning.specs.Examples.WordsAndTags.{words}
use Rattle.meaning.specs.Examples.SchemeRows.{wide}
use Rattle.meaning.specs.Examples.CallRows.{m, state, stacks, called, used, then_feed, then_finish}

-- in one list or in two: the same
fed_at_once : then_feed words (0 ∷ 1 ∷ []) (open_of words (used 8 5)) ≡ then_feed words (1 ∷ []) (then_feed words (0 ∷ []) (open_of words (used 8 5)))
fed_at_once = refl

-- an empty list changes nothing
fed_nothing : then_feed words [] (then_feed words (0 ∷ []) (open_of words (used 8 5))) ≡ then_feed words (0 ∷ []) (open_of words (used 8 5))
fed_nothing = refl

-- the finish makes no further move
start_left_finished : then_finish wide (then_feed wide (2 ∷ 0 ∷ 1 ∷ 2 ∷ []) (open_of wide (used 12 4))) ≡ called (value (pos 7) 30) (state false 4 30 1 1) (stacks (pos 7 ∷ replicate 11 m) (32769 ∷ 0 ∷ 0 ∷ 0 ∷ []))
start_left_finished = refl

-- ---- what is lent

caps : lent_of (used 4096 1024) ≡ record { max_registers = 4096; max_places = 1024 }
caps = refl

past_caps : lent_of (used 4097 1025) ≡ record { max_registers = 4096; max_places = 1024 }
past_caps = refl

-- cells past the caps are not written
untouched : stacks (drop 4095 (open_of words (used 4098 1026)).stacks.registers) (drop 1023 (open_of words (used 4098 1026)).stacks.places) ≡ stacks (m ∷ pos 7 ∷ pos 7 ∷ []) (0 ∷ 9 ∷ 9 ∷ [])
untouched = refl
