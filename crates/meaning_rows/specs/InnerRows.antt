-- The inner run, computed: an outer run of words and tags stopped after word open (7 registers, 4 places), on 16 registers and 9 places; an inner run over it on the 9 registers and 5 places that are left.
use Rattle.std.specs.Prelude.{ℕ, ◌≡◌, refl, false, List, [], ◌∷◌, ◌++◌, map, replicate, length, drop, ltb, pos}
use Rattle.meaning.specs.Grammar.{Grammar}
use Rattle.meaning.specs.Calls.{running, waiting, closed, outer, inner, Stacks, Answer, more, value, refused, table_refused, open_of, feed_of}
use Rattle.meaning.specs.PublicCalls.{feed, finish, area_length, written, performs}
use Rattle.meaning.specs.PublicCalls as PublicCalls
use Rattle.meaning_inner.specs.Inner.{above, paste, InnerCalled, InnerCall, engine, give_up, inner_of, inner_opens, inner_performs}
use Rattle.meaning.specs.Examples.WordsAndTags.{words}
use Rattle.meaning.specs.Examples.Samples.{small}
use Rattle.meaning.specs.Examples.TokenRows.{lengths}
use Rattle.meaning.specs.Examples.TableRows.{bytes}
use Rattle.meaning.specs.Examples.CallRows.{m, record_of, stacks, used, feed_kinds, then_feed, then_finish}
use Rattle.meaning.specs.Examples.RefusalRows.{ordinary}
use Rattle.meaning_inner.specs.InnerRows.{at_outer, at_inner, called, over, stopped, feed_only, opened_inner, then, left, back, brings}

outer_run : then_feed words (0 ∷ 1 ∷ []) (open_of words (used 16 9)) ≡ record { answer = more 11; state = at_outer running; stacks = stopped }
outer_run = refl

-- ---- the stretch

stretches : map (λ k. above k (stacks (pos 1 ∷ pos 2 ∷ pos 3 ∷ []) (4 ∷ 5 ∷ 6 ∷ 7 ∷ []))) (outer ∷ inner 1 2 ∷ inner 3 4 ∷ inner 9 9 ∷ []) ≡ stacks (pos 1 ∷ pos 2 ∷ pos 3 ∷ []) (4 ∷ 5 ∷ 6 ∷ 7 ∷ []) ∷ stacks (pos 2 ∷ pos 3 ∷ []) (6 ∷ 7 ∷ []) ∷ stacks [] [] ∷ stacks [] [] ∷ []
stretches = refl

pasted : map (λ k. paste k (stacks (pos 9 ∷ []) (8 ∷ [])) (stacks (pos 1 ∷ pos 2 ∷ []) (4 ∷ 5 ∷ 6 ∷ []))) (inner 1 2 ∷ []) ≡ stacks (pos 1 ∷ pos 9 ∷ []) (4 ∷ 5 ∷ 8 ∷ []) ∷ []
pasted = refl

pasted_back : map (λ k. paste k (above k (used 5 3)) (used 5 3)) (inner 1 2 ∷ inner 5 3 ∷ inner 9 9 ∷ []) ≡ replicate 3 (used 5 3)
pasted_back = refl

-- ---- a run inside

inside_opened : opened_inner ≡ called (more 0) (at_outer waiting) (at_inner running 0 0 1 1) (over (replicate 9 m) (32768 ∷ 0 ∷ 0 ∷ 0 ∷ 0 ∷ []))
inside_opened = refl

inside_fed : then (engine (feed_only (0 ∷ []))) opened_inner ≡ called (more 7) (at_outer waiting) (at_inner running 1 7 5 3) (over (m ∷ m ∷ pos 0 ∷ m ∷ pos 0 ∷ m ∷ m ∷ m ∷ m ∷ []) (32768 ∷ 0 ∷ 257 ∷ 0 ∷ 0 ∷ []))
inside_fed = refl

inside_fed_nothing : then (engine (feed [] [])) (then (engine (feed_only (0 ∷ []))) opened_inner) ≡ then (engine (feed_only (0 ∷ []))) opened_inner
inside_fed_nothing = refl

-- a finish: the value, the record before the clearing, the stacks as they were
inside_finished : then (engine finish) (then (engine (feed_only (0 ∷ []))) opened_inner) ≡ called (value (pos 1) 14) (at_outer running) (at_inner closed 1 14 1 1) stopped
inside_finished = refl

-- a refusal that closes it: 20, 21, 22 (a fourth open), 32 (5 places are left)
inside_refused : map (λ ts. then (engine (feed_only ts)) opened_inner) ((0 ∷ 3 ∷ []) ∷ (0 ∷ 2 ∷ []) ∷ (1 ∷ 1 ∷ 1 ∷ 1 ∷ []) ∷ (0 ∷ 0 ∷ 0 ∷ 0 ∷ []) ∷ [])
    ≡ called (refused 20 1) (at_outer running) (at_inner closed 1 7 5 3) stopped
    ∷ called (refused 21 1) (at_outer running) (at_inner closed 1 14 1 1) stopped
    ∷ called (refused 22 3) (at_outer running) (at_inner closed 3 15 9 5) stopped
    ∷ called (refused 32 3) (at_outer running) (at_inner closed 3 15 9 5) stopped
    ∷ []
inside_refused = refl

-- 31: 4 registers are left
inside_31 : inner_of words (at_outer waiting) (at_inner running 0 0 1 1) (over (replicate 4 m) (32768 ∷ replicate 4 0)) (engine (feed_only (0 ∷ []))) ≡ called (refused 31 1) (at_outer running) (at_inner closed 1 5 3 3) (over (replicate 4 m) (replicate 5 0))
inside_31 = refl

-- 02 (e): lists of unequal length are a 38 inside too, which does not end the run; after 33 and 34
inside_uneven : map (λ ks. then (engine (feed ks (pos 1 ∷ []))) opened_inner) ([] ∷ (0 ∷ 0 ∷ []) ∷ []) ≡ replicate 2 (called (refused 38 0) (at_outer waiting) (at_inner running 0 0 1 1) opened_inner.stacks)
inside_uneven = refl

inside_uneven_after : map (λ s. (inner_of words (at_outer waiting) (at_inner s 0 0 1 1) stopped (engine (feed (0 ∷ []) []))).answer) (running ∷ closed ∷ []) ≡ refused 34 0 ∷ refused 33 0 ∷ []
inside_uneven_after = refl

-- a word that carries its length, inside: its value is lent
inside_valued : (let k = inner_of lengths (at_outer waiting) (at_inner running 0 0 1 1) (over (replicate 9 m) (32768 ∷ replicate 4 0)) (engine (feed (0 ∷ []) (pos 5 ∷ []))) in (inner_of lengths k.outer_state k.inner_state k.stacks (engine finish)).answer) ≡ value (pos 5) 14
inside_valued = refl

-- 24 at the end
inside_24 : (then (engine finish) (then (engine (feed_only (1 ∷ []))) opened_inner)).answer ≡ refused 24 1
inside_24 = refl

-- a call after the end: 33
inside_after_end : map (λ c. then c (then give_up opened_inner)) (engine (feed [] []) ∷ engine finish ∷ give_up ∷ []) ≡ replicate 3 (called (refused 33 0) (at_outer running) (at_inner closed 0 0 1 1) stopped)
inside_after_end = refl

-- the outer run goes on as if there had been none
outer_goes_on : feed_kinds words (then give_up opened_inner).outer_state (then give_up opened_inner).stacks (0 ∷ 2 ∷ []) ≡ feed_kinds words (at_outer running) stopped (0 ∷ 2 ∷ [])
outer_goes_on = refl

-- ---- alone on 9 registers and 5 places, which held something else: the same answers, heights and cells

abbrev stretch : InnerCalled → Stacks
stretch k = above (inner 7 4) k.stacks

alone_opened : open_of words (used 9 5) ≡ record { answer = opened_inner.answer; state = record_of running outer 0 0 1 1; stacks = stretch opened_inner }
alone_opened = refl

abbrev after_three : Stacks
after_three = stacks (m ∷ m ∷ pos 0 ∷ m ∷ pos 0 ∷ m ∷ pos 1 ∷ m ∷ pos 1 ∷ []) (32768 ∷ 0 ∷ 257 ∷ 513 ∷ 257 ∷ [])

alone_fed : then_feed words (0 ∷ 1 ∷ 0 ∷ []) (open_of words (used 9 5)) ≡ record { answer = more 15; state = record_of running outer 3 15 9 5; stacks = after_three }
alone_fed = refl

inside_fed_three : (let k = then (engine (feed_only (0 ∷ 1 ∷ 0 ∷ []))) opened_inner in called k.answer k.outer_state k.inner_state (stretch k)) ≡ called (more 15) (at_outer waiting) (at_inner running 3 15 9 5) after_three
inside_fed_three = refl

abbrev segments : List (List ℕ)
segments = [] ∷ (0 ∷ []) ∷ (1 ∷ 2 ∷ []) ∷ (1 ∷ []) ∷ []

abbrev verdicts : List Answer
verdicts = value (pos 0) 8 ∷ value (pos 1) 14 ∷ value (pos 0) 20 ∷ refused 24 1 ∷ []

alone_finished : map (λ ts. (then_finish words (then_feed words ts (open_of words (used 9 5)))).answer) segments ≡ verdicts
alone_finished = refl

inside_finished_too : map (λ ts. (then (engine finish) (then (engine (feed_only ts)) opened_inner)).answer) segments ≡ verdicts
inside_finished_too = refl

-- ---- an opening, from the bytes: 30, outer table, 33, 40, 34, inner table, 31, 32

-- as many words as there are productions: 4 for words and tags, 2 for the small table
abbrev program : Grammar → List ℕ
program g = replicate (length g.productions) (length g.productions)

abbrev outer_words : List ℕ
outer_words = 4 ∷ 4 ∷ 4 ∷ 4 ∷ []

abbrev bad : List ℕ
bad = 1 ∷ 0 ∷ []

abbrev Long : List ℕ → Type 0
Long area = ltb (length area) area_length ≡ false

-- everything else is wrong too
opens_30 : inner_opens program bad bad (5 ∷ []) (at_outer closed) (used 2 2) ≡ back (refused 30 0) (at_outer closed) (used 2 2) (5 ∷ [])
opens_30 = refl

opens_outer_table : (area : List ℕ) → Long area → inner_opens program bad bad area (at_outer closed) (used 2 2) ≡ back (table_refused 2 0) (at_outer closed) (used 2 2) area
opens_outer_table area h = rw (h, inner_opens)

-- the outer program is written, and no word of the inner one
opens_33 : (area : List ℕ) → Long area → map (λ k. inner_opens program bytes bad area (record_of closed k 9 9 9 9) (used 2 2)) (outer ∷ inner 1 1 ∷ []) ≡ map (λ k. back (refused 33 0) (record_of closed k 9 9 9 9) (used 2 2) (written outer_words area)) (outer ∷ inner 1 1 ∷ [])
unfolding bytes
opens_33 area h = rw (h, inner_opens)

-- the outer run waits, or is an inner one: a third run
opens_40 : (area : List ℕ) → Long area → map (λ r. inner_opens program bytes bad area r (used 2 2)) (at_outer waiting ∷ at_inner running 0 0 1 1 ∷ at_inner waiting 0 0 1 1 ∷ [])
    ≡ map (λ r. back (refused 40 0) r (used 2 2) (written outer_words area)) (at_outer waiting ∷ at_inner running 0 0 1 1 ∷ at_inner waiting 0 0 1 1 ∷ [])
unfolding bytes
opens_40 area h = rw (h, inner_opens)

opens_34 : (area : List ℕ) → Long area → inner_opens program bytes bad area (at_outer running) (used 16 9) ≡ back (refused 34 0) (at_outer running) (used 16 9) (written outer_words area)
unfolding bytes
opens_34 area h = rw (h, inner_opens)

opens_inner_table : (area : List ℕ) → Long area → inner_opens program bytes bad area (at_outer running) (over [] []) ≡ back (table_refused 2 0) (at_outer running) (over [] []) (written outer_words area)
unfolding bytes
opens_inner_table area h = rw (h, inner_opens)

-- the inner program is written over the outer one
opens_31 : (area : List ℕ) → Long area → inner_opens program bytes small area (at_outer running) (over [] []) ≡ back (refused 31 0) (at_outer running) (over [] []) (written (2 ∷ 2 ∷ []) (written outer_words area))
unfolding bytes
opens_31 area h = rw (h, inner_opens)

opens_32 : (area : List ℕ) → Long area → inner_opens program bytes small area (at_outer running) (over (m ∷ []) []) ≡ back (refused 32 0) (at_outer running) (over (m ∷ []) []) (written (2 ∷ 2 ∷ []) (written outer_words area))
unfolding bytes
opens_32 area h = rw (h, inner_opens)

opens_inner : (area : List ℕ) → Long area → inner_opens program bytes small area (at_outer running) (over (m ∷ []) (0 ∷ [])) ≡ left (more 0) (at_outer waiting) (at_inner running 0 0 1 1) (over (m ∷ []) (32768 ∷ [])) (written (2 ∷ 2 ∷ []) (written outer_words area))
unfolding bytes
opens_inner area h = rw (h, inner_opens)

written_over : written (2 ∷ 2 ∷ []) (written outer_words (replicate 6 5)) ≡ 2 ∷ 2 ∷ 4 ∷ 4 ∷ 5 ∷ 5 ∷ []
written_over = refl

-- ---- later inner calls, from the bytes: 30, table, 33, 34

abbrev calls : List InnerCall
calls = engine (feed_only (0 ∷ [])) ∷ engine finish ∷ give_up ∷ []

performs_30 : map (inner_performs program bad (5 ∷ []) (at_outer closed) (at_outer closed) (used 2 2)) calls ≡ replicate 3 (left (refused 30 0) (at_outer closed) (at_outer closed) (used 2 2) (5 ∷ []))
performs_30 = refl

performs_table : (area : List ℕ) → Long area → map (inner_performs program bad area (at_outer closed) (at_outer closed) (used 2 2)) calls ≡ replicate 3 (left (table_refused 2 0) (at_outer closed) (at_outer closed) (used 2 2) area)
performs_table area h = rw (h, inner_performs)

performs_33 : (area : List ℕ) → Long area → inner_performs program bytes area (at_outer running) (at_outer closed) (used 2 2) give_up ≡ left (refused 33 0) (at_outer running) (at_outer closed) (used 2 2) (written outer_words area)
unfolding bytes
performs_33 area h = rw (h, inner_performs)

performs_34 : (area : List ℕ) → Long area → inner_performs program bytes area (at_outer running) (at_outer running) (used 2 2) give_up ≡ left (refused 34 0) (at_outer running) (at_outer running) (used 2 2) (written outer_words area)
unfolding bytes
performs_34 area h = rw (h, inner_performs)

performs_finish : (area : List ℕ) → Long area → inner_performs program bytes area (at_outer waiting) (at_inner running 0 0 1 1) (over (replicate 3 m) (32768 ∷ 0 ∷ 0 ∷ [])) (engine finish)
    ≡ left (value (pos 0) 8) (at_outer running) (at_inner closed 0 8 1 1) (over (replicate 3 m) (replicate 3 0)) (written outer_words area)
unfolding bytes
performs_finish area h = rw (h, inner_performs)

-- ---- 33 and 34 of a later inner call

fits : brings (at_outer waiting) (at_inner running 0 0 1 1) ≡ more 0
fits = refl

-- the outer one does not wait, or is an inner one
outer_not_waiting : brings (at_outer running) (at_inner running 0 0 1 1) ≡ refused 34 0
outer_not_waiting = refl

outer_wrong_kind : map (λ s. brings (record_of s (inner 7 4) 2 11 7 4) (at_inner running 0 0 1 1)) (running ∷ waiting ∷ []) ≡ replicate 2 (refused 34 0)
outer_wrong_kind = refl

-- the inner one is no inner one, or waits; its heights are not those of the stretch
inner_wrong_kind : brings (at_outer waiting) (record_of running outer 0 0 1 1) ∷ brings (at_outer waiting) (at_inner waiting 0 0 1 1) ∷ [] ≡ replicate 2 (refused 34 0)
inner_wrong_kind = refl

inner_heights : brings (at_outer waiting) (at_inner running 0 0 0 1) ∷ brings (at_outer waiting) (at_inner running 0 0 2 1) ∷ brings (at_outer waiting) (at_inner running 0 0 1 0) ∷ brings (at_outer waiting) (at_inner running 0 0 1 2) ∷ [] ≡ replicate 4 (refused 34 0)
inner_heights = refl

inner_numbers : brings (at_outer waiting) (at_inner running 65536 0 1 1) ∷ brings (at_outer waiting) (at_inner running 0 4294967296 1 1) ∷ [] ≡ replicate 2 (refused 34 0)
inner_numbers = refl

-- the outer one's tokens and moves are not looked at, nor are the cells below the stretch
outer_numbers : brings (record_of waiting outer 65536 4294967296 7 4) (at_inner running 0 0 1 1) ≡ more 0
outer_numbers = refl

below_not_looked_at : (inner_of words (at_outer waiting) (at_inner running 0 0 1 1) (stacks (replicate 7 (pos 7) ++ replicate 9 m) ((9 ∷ 9 ∷ 9 ∷ 9 ∷ []) ++ (32768 ∷ replicate 4 0))) (engine (feed_only (0 ∷ [])))).stacks
    ≡ stacks (replicate 7 (pos 7) ++ (m ∷ m ∷ pos 0 ∷ m ∷ pos 0 ∷ replicate 4 m)) ((9 ∷ 9 ∷ 9 ∷ 9 ∷ []) ++ (32768 ∷ 0 ∷ 257 ∷ 0 ∷ 0 ∷ []))
below_not_looked_at = refl

-- what is above the stretch's heights is
above_not_cleared : inner_of words (at_outer waiting) (at_inner running 0 0 1 1) (over (m ∷ pos 0 ∷ []) (32768 ∷ 0 ∷ [])) give_up ≡ called (refused 34 0) (at_outer waiting) (at_inner running 0 0 1 1) (over (m ∷ pos 0 ∷ []) (32768 ∷ 0 ∷ []))
above_not_cleared = refl

-- it begins above what is lent
begins_above : (inner_of words (record_of waiting outer 2 11 99 99) (record_of running (inner 99 99) 0 0 1 1) stopped give_up).answer ≡ refused 34 0
begins_above = refl

-- cells past the caps stay, also where the inner run ends
past_caps : (let e = inner_of words (at_outer waiting) (at_inner running 0 0 1 1) (over (replicate 4089 m ++ (pos 7 ∷ [])) (32768 ∷ (replicate 1019 0 ++ (9 ∷ [])))) give_up in stacks (drop 4095 e.stacks.registers) (drop 1023 e.stacks.places)) ≡ stacks (m ∷ pos 7 ∷ []) (0 ∷ 9 ∷ [])
past_caps = refl

-- ---- ordinary calls: 33, 40, 34

waiting_kept : feed_kinds words (at_outer waiting) stopped (0 ∷ []) ≡ record { answer = refused 40 0; state = at_outer waiting; stacks = stopped }
waiting_kept = refl

-- 40 is before 38
waiting_uneven : (feed_of words (at_outer waiting) stopped (0 ∷ []) []).answer ≡ refused 40 0
waiting_uneven = refl

closed_is_33 : map (λ k. ordinary (record_of closed k 2 11 7 4)) (outer ∷ inner 0 0 ∷ []) ≡ replicate 2 (replicate 2 (refused 33 0))
closed_is_33 = refl

-- from the bytes: after 30 and the table; the program is written
performs_40 : (area : List ℕ) → Long area → performs program bytes area (at_outer waiting) stopped finish ≡ record { answer = refused 40 0; state = at_outer waiting; stacks = stopped; area = written outer_words area }
unfolding bytes
performs_40 area h = rw (h, PublicCalls.called)
