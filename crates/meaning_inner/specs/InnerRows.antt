-- The inner run, computed: an outer run of words and tags stopped after word open (7 registers, 4 places), on 16 registers and 9 places; an inner run over it on the 9 registers and 5 places that are left.
use Rattle.std.specs.Prelude.{ℕ, ◌≡◌, refl, List, [], ◌∷◌, ◌++◌, map, replicate, ℤ, pos}
use Rattle.meaning.specs.Calls.{Status, running, waiting, closed, outer, inner, Record, Stacks, Answer, more, refused, closed_record}
use Rattle.meaning.specs.PublicCalls.{Call, feed}
use Rattle.meaning_inner.specs.Inner.{above, InnerCalled, InnerCall, engine, give_up, inner_open_of, inner_of, InnerEffect, when_outer_fits}
use Rattle.meaning.specs.Examples.WordsAndTags.{words}
use Rattle.meaning.specs.Examples.CallRows.{m, record_of, stacks, used}

abbrev pub at_outer : Status → Record
at_outer s = record_of s outer 2 11 7 4

-- it begins at 7 and 4
abbrev pub at_inner : Status → ℕ → ℕ → ℕ → ℕ → Record
at_inner s t n rs ps = record_of s (inner 7 4) t n rs ps

abbrev pub called : Answer → Record → Record → Stacks → InnerCalled
called a o i s = record { answer = a; outer_state = o; inner_state = i; stacks = s }

-- the outer run's own cells, and the stretch above them
abbrev pub over : List ℤ → List ℕ → Stacks
over rs ps = stacks ((m ∷ m ∷ pos 0 ∷ m ∷ pos 0 ∷ m ∷ pos 1 ∷ []) ++ rs) ((32768 ∷ 0 ∷ 257 ∷ 513 ∷ []) ++ ps)

abbrev pub stopped : Stacks
stopped = over (replicate 9 m) (replicate 5 0)

-- a feed of these kinds, with zeros as values
abbrev pub feed_only : List ℕ → Call
feed_only ks = feed ks (map (λ k. pos 0) ks)

-- ---- the stretch

-- cells past the caps are in no stretch
stretch_capped : above (inner 4095 1023) (used 4098 1026) ≡ used 1 1
stretch_capped = refl

-- ---- a run inside

abbrev pub opened_inner : InnerCalled
opened_inner = inner_open_of words (at_outer running) stopped

-- a call on what the call before left
abbrev pub then : InnerCall → InnerCalled → InnerCalled
then c k = inner_of words k.outer_state k.inner_state k.stacks c

-- given up: answered as an empty feed
inside_given_up : then give_up (then (engine (feed_only (0 ∷ []))) opened_inner) ≡ called (more 7) (at_outer running) (at_inner closed 1 7 5 3) stopped
inside_given_up = refl

-- ---- an opening, under the tables' grammars

-- turned back by 31: no mark
opened_31 : inner_open_of words (at_outer running) (over [] []) ≡ called (refused 31 0) (at_outer running) closed_record (over [] [])
opened_31 = refl

abbrev pub left : Answer → Record → Record → Stacks → List ℕ → InnerEffect
left a o i s ws = record { answer = a; outer_state = o; inner_state = i; stacks = s; area = ws }

-- turned back: no mark, the inner record closed and all zero, no cell changed
abbrev pub back : Answer → Record → Stacks → List ℕ → InnerEffect
back a o s ws = left a o closed_record s ws

-- the outer run is judged before anything of the inner one: 40 for one that waits or is an inner one, 34
judged_40 : (e : InnerEffect) → map (λ r. when_outer_fits words r (used 2 2) [] e) (at_outer waiting ∷ at_inner running 0 0 1 1 ∷ []) ≡ map (λ r. back (refused 40 0) r (used 2 2) []) (at_outer waiting ∷ at_inner running 0 0 1 1 ∷ [])
judged_40 e = refl

judged_34 : (e : InnerEffect) → when_outer_fits words (at_outer running) (used 16 9) [] e ≡ back (refused 34 0) (at_outer running) (used 16 9) []
judged_34 e = refl

-- ---- 33 and 34 of a later inner call

-- an empty feed on these records, on stacks whose stretch is just opened
abbrev pub brings : Record → Record → Answer
brings o i = (inner_of words o i (over (replicate 9 m) (32768 ∷ replicate 4 0)) (engine (feed [] []))).answer

either_closed_lem : brings (at_outer closed) (at_inner running 0 0 1 1) ∷ brings (at_outer waiting) (at_inner closed 0 0 1 1) ∷ brings (at_inner closed 0 0 0 0) (at_outer waiting) ∷ brings closed_record closed_record ∷ [] ≡ replicate 4 (refused 33 0)
either_closed_lem = refl

-- the outer one waits elsewhere
waits_elsewhere : brings (record_of waiting outer 2 11 6 4) (at_inner running 0 0 1 1) ∷ brings (record_of waiting outer 2 11 7 3) (at_inner running 0 0 1 1) ∷ [] ≡ replicate 2 (refused 34 0)
waits_elsewhere = refl
