-- The calls, computed on the grammar of words and tags, on stacks that held something else: record, answer and every cell.
use Rattle.std.specs.Prelude.{ℕ, ◌≡◌, refl, Bool, true, false, List, [], ◌∷◌, map, replicate, ℤ, pos}
use Rattle.meaning.specs.Grammar.{Grammar}
use Rattle.meaning.specs.Value.{mark}
use Rattle.meaning.specs.Calls.{Called, Status, Kind, Record, outer, status_of, Stacks, Answer, more, value, lent_of, lay, open_of, feed_of, finish_of}
use Rattle.meaning.specs.Examples.WordsAndTags.{words}
use Rattle.meaning.specs.Examples.SchemeRows.{wide}

abbrev pub m : ℤ
m = mark

-- open or not, tokens, moves, height of the registers, of the places
abbrev pub state : Bool → ℕ → ℕ → ℕ → ℕ → Record
state o t n rs ps = record { status = status_of o; kind = outer; tokens = t; moves = n; register_height = rs; place_height = ps }

-- the same for a record of any status and kind
abbrev pub record_of : Status → Kind → ℕ → ℕ → ℕ → ℕ → Record
record_of s k t n rs ps = record { status = s; kind = k; tokens = t; moves = n; register_height = rs; place_height = ps }

-- from the bottom
abbrev pub stacks : List ℤ → List ℕ → Stacks
stacks rs ps = record { registers = rs; places = ps }

abbrev pub called : Answer → Record → Stacks → Called
called a r s = record { answer = a; state = r; stacks = s }

-- stacks of these lengths that held 7s and 9s
abbrev pub used : ℕ → ℕ → Stacks
used rs ps = stacks (replicate rs (pos 7)) (replicate ps 9)

-- kinds, with 0 for every value
abbrev pub feed_kinds : Grammar → Record → Stacks → List ℕ → Called
feed_kinds g r m ks = feed_of g r m ks (map (λ k. pos 0) ks)

-- a call on what the call before left
abbrev pub then_feed : Grammar → List ℕ → Called → Called
then_feed g ks c = feed_kinds g c.state c.stacks ks

abbrev pub then_finish : Grammar → Called → Called
then_finish g c = finish_of g c.state c.stacks

opened : open_of words (used 8 5) ≡ called (more 0) (state true 0 0 1 1) (stacks (replicate 8 m) (32768 ∷ 0 ∷ 0 ∷ 0 ∷ 0 ∷ []))
opened = refl

fed_one : then_feed words (0 ∷ []) (open_of words (used 8 5)) ≡ called (more 7) (state true 1 7 5 3) (stacks (m ∷ m ∷ pos 0 ∷ m ∷ pos 0 ∷ m ∷ m ∷ m ∷ []) (32768 ∷ 0 ∷ 257 ∷ 0 ∷ 0 ∷ []))
fed_one = refl

fed_two : then_feed words (1 ∷ []) (then_feed words (0 ∷ []) (open_of words (used 8 5))) ≡ called (more 11) (state true 2 11 7 4) (stacks (m ∷ m ∷ pos 0 ∷ m ∷ pos 0 ∷ m ∷ pos 1 ∷ m ∷ []) (32768 ∷ 0 ∷ 257 ∷ 513 ∷ 0 ∷ []))
fed_two = refl

finished : then_finish words (then_feed words (0 ∷ []) (open_of words (used 8 5))) ≡ called (value (pos 1) 14) (state false 1 14 1 1) (stacks (pos 1 ∷ replicate 7 m) (32769 ∷ 0 ∷ 0 ∷ 0 ∷ 0 ∷ []))
finished = refl

-- after the nested list is closed its registers and places are cleared again
closed_again : then_feed words (1 ∷ 2 ∷ []) (open_of words (used 8 5)) ≡ called (more 13) (state true 2 13 6 3) (stacks (m ∷ m ∷ pos 0 ∷ pos 0 ∷ m ∷ pos 0 ∷ m ∷ m ∷ []) (32768 ∷ 0 ∷ 515 ∷ 0 ∷ 0 ∷ []))
closed_again = refl

-- the start symbol is left with the last token
start_left : then_feed wide (2 ∷ 0 ∷ 1 ∷ 2 ∷ []) (open_of wide (used 12 4)) ≡ called (more 30) (state true 4 30 1 1) (stacks (pos 7 ∷ replicate 11 m) (32769 ∷ 0 ∷ 0 ∷ 0 ∷ []))
start_left = refl

-- ---- what is lent

lent_short : lent_of (used 3 2) ≡ record { max_registers = 3; max_places = 2 }
lent_short = refl

-- a stack, top first, in the first n cells, the rest of them cleared, the others as they were
laid : lay {A = ℕ} 4 0 (3 ∷ 2 ∷ 1 ∷ []) (replicate 6 9) ≡ (1 ∷ 2 ∷ 3 ∷ 0 ∷ 9 ∷ 9 ∷ [])
laid = refl
