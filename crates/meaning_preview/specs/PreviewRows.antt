-- What may be typed now, computed: 02 (g). A run of words and tags stopped after word open (7 registers, 4 places), on 16 registers and 9 places, and scratch that held 7s and 9s.
use Rattle.std.specs.Prelude.{ℕ, ◌≡◌, refl, true, false, List, [], ◌∷◌, ◌++◌, map, replicate, length, take, pos}
use Rattle.meaning.specs.Grammar.{Grammar}
use Rattle.meaning.specs.Sets.{TokenSet, empty_set, singleton, ◌∪◌, has, end_number}
use Rattle.meaning.specs.Calls.{Status, running, waiting, closed, outer, inner, Record, Stacks, Called, Answer, more, value, refused, table_refused, open_of, feed_of}
use Rattle.meaning.specs.PublicCalls.{Effect}
use Rattle.meaning.specs.Examples.WordsAndTags.{words}
use Rattle.meaning.specs.Examples.TokenRows.{lengths}
use Rattle.meaning.specs.Examples.TableRows.{bytes}
use Rattle.meaning.specs.Examples.CallRows.{m, state, record_of, stacks, used, called, then_feed}
use Rattle.meaning_preview.specs.Preview.{is_short, tidied, when_copied, tried, preview_of, previews, no_refusal, may_follow, tokens, turned, may_effect, may_of, mays}

-- ---- the scratch

-- as long as the part that a run may use: not where a cell is missing in either
shorts : map (is_short (used 4 3)) (used 4 3 ∷ used 9 9 ∷ used 3 3 ∷ used 4 2 ∷ used 0 0 ∷ []) ≡ false ∷ false ∷ true ∷ true ∷ true ∷ []
shorts = refl

-- cells past 4,096 and 1,024 are not lent and need no scratch
shorts_capped : map (is_short (used 4098 1026)) (used 4096 1024 ∷ used 4095 1024 ∷ used 4096 1023 ∷ []) ≡ false ∷ true ∷ true ∷ []
shorts_capped = refl

tidies : tidied (used 2 1) (used 4 3) ≡ stacks (m ∷ m ∷ pos 7 ∷ pos 7 ∷ []) (0 ∷ 9 ∷ 9 ∷ [])
tidies = refl

tidies_capped : tidied (used 4099 1027) (used 4098 1026) ≡ stacks (replicate 4096 m ++ (pos 7 ∷ pos 7 ∷ [])) (replicate 1024 0 ++ (9 ∷ 9 ∷ []))
tidies_capped = refl

-- ---- a preview

abbrev at : Status → Record
at s = record_of s outer 2 11 7 4

abbrev own : Stacks
own = stacks ((m ∷ m ∷ pos 0 ∷ m ∷ pos 0 ∷ m ∷ pos 1 ∷ []) ++ replicate 9 m) ((32768 ∷ 0 ∷ 257 ∷ 513 ∷ []) ++ replicate 5 0)

stopped_there : then_feed words (0 ∷ 1 ∷ []) (open_of words (used 16 9)) ≡ called (more 11) (at running) own
stopped_there = refl

-- scratch of 18 and 10 cells after a try
abbrev clear : Stacks
clear = stacks (replicate 16 m ++ (pos 7 ∷ pos 7 ∷ [])) (replicate 9 0 ++ (9 ∷ []))

-- word, open, close, and what is no token: 20. The scratch ends cleared, on a refusal too
previewed : map (λ k. preview_of words (at running) own (used 18 10) k (pos 0)) (0 ∷ 1 ∷ 2 ∷ 3 ∷ 63 ∷ [])
    ≡ called (more 15) (record_of running outer 3 15 9 5) clear
    ∷ called (more 15) (record_of running outer 3 15 9 5) clear
    ∷ called (more 17) (record_of running outer 3 17 8 4) clear
    ∷ called (refused 20 2) (record_of closed outer 2 11 7 4) clear
    ∷ called (refused 20 2) (record_of closed outer 2 11 7 4) clear
    ∷ []
previewed = refl

-- 21 after the moves that the token brings about, 31 and 32: the record is that of the feed, closed where it failed
previewed_21 : preview_of words (state true 1 7 5 3) (stacks ((m ∷ m ∷ pos 0 ∷ m ∷ pos 0 ∷ []) ++ replicate 3 m) (32768 ∷ 0 ∷ 257 ∷ 0 ∷ [])) (used 8 4) 2 (pos 0) ≡ called (refused 21 1) (state false 1 14 1 1) (stacks (replicate 8 m) (replicate 4 0))
previewed_21 = refl

previewed_31 : preview_of words (at running) (stacks (take 8 own.registers) own.places) (used 8 9) 0 (pos 0) ≡ called (refused 31 3) (record_of closed outer 3 13 7 5) (stacks (replicate 8 m) (replicate 9 0))
previewed_31 = refl

previewed_32 : preview_of words (at running) (stacks own.registers (take 4 own.places)) (used 16 4) 0 (pos 0) ≡ called (refused 32 2) (record_of closed outer 2 11 7 4) (stacks (replicate 16 m) (replicate 4 0))
previewed_32 = refl

-- a word that carries its length
previewed_value : preview_of lengths (state true 0 0 1 1) (stacks (replicate 8 m) (32768 ∷ replicate 4 0)) (used 8 5) 0 (pos 5) ≡ called (more 7) (state true 1 7 6 3) (stacks (replicate 8 m) (replicate 5 0))
previewed_value = refl

-- 33, 40, 34 and 39, in this order: record and scratch as brought
abbrev judged : Record → Stacks → Stacks → Called
judged r o s = preview_of words r o s 0 (pos 0)

turned_back_lem : map (λ r. judged r own (used 18 10)) (at closed ∷ at waiting ∷ record_of running (inner 0 0) 2 11 7 4 ∷ record_of running outer 2 11 6 4 ∷ [])
    ≡ called (refused 33 0) (at closed) (used 18 10)
    ∷ called (refused 40 0) (at waiting) (used 18 10)
    ∷ called (refused 34 0) (record_of running (inner 0 0) 2 11 7 4) (used 18 10)
    ∷ called (refused 34 0) (record_of running outer 2 11 6 4) (used 18 10)
    ∷ []
turned_back_lem = refl

turned_back_39 : map (λ s. judged (at running) own s) (used 15 9 ∷ used 16 8 ∷ []) ≡ called (refused 39 0) (at running) (used 15 9) ∷ called (refused 39 0) (at running) (used 16 8) ∷ []
turned_back_39 = refl

-- 39 is judged after 33, 40 and 34
after_34 : map (λ r. (judged r own (used 1 1)).answer) (at closed ∷ at waiting ∷ record_of running (inner 0 0) 2 11 7 4 ∷ record_of running outer 2 11 6 4 ∷ at running ∷ []) ≡ refused 33 0 ∷ refused 40 0 ∷ refused 34 0 ∷ refused 34 0 ∷ refused 39 0 ∷ []
after_34 = refl

-- what is tried is the feed on a copy
tries : (let k = feed_of words (at running) own (2 ∷ []) (pos 0 ∷ []) in (k.answer ≡ (tried words (at running) own (used 18 10) 2 (pos 0)).answer) × (k.state ≡ (tried words (at running) own (used 18 10) 2 (pos 0)).state))
tries = (refl, refl)

copied : map (λ s. when_copied {A = ℕ} words (at running) own s (λ n. n) 7) (used 16 9 ∷ used 15 9 ∷ []) ≡ 7 ∷ 39 ∷ []
copied = refl

-- ---- the set

refusals : map no_refusal (more 3 ∷ value (pos 1) 3 ∷ refused 21 0 ∷ table_refused 3 0 ∷ []) ≡ true ∷ true ∷ false ∷ false ∷ []
refusals = refl

abbrev set_from : List ℕ → TokenSet
set_from [] = empty_set
set_from (t ∷ ts) = singleton t ∪ set_from ts

-- after word open all three may follow; at the start no close; the end is not in it, though the segment may end
follow_after_open : may_follow words (at running) own (used 16 9) (pos 0) ≡ set_from (0 ∷ 1 ∷ 2 ∷ [])
follow_after_open = refl

abbrev begun : Stacks
begun = stacks (replicate 8 m) (32768 ∷ replicate 4 0)

follow_at_first : may_follow words (state true 0 0 1 1) begun (used 8 5) (pos 0) ≡ set_from (0 ∷ 1 ∷ [])
follow_at_first = refl

end_not_in : has (may_follow words (state true 0 0 1 1) begun (used 8 5) (pos 0)) end_number ≡ false
end_not_in = refl

-- 8 registers are too few for a word or an open after word open, not for a close
follow_little_room : may_follow words (at running) (stacks (take 8 own.registers) own.places) (used 8 9) (pos 0) ≡ set_from (2 ∷ [])
follow_little_room = refl

set_answered : may_of words (at running) own (used 18 10) (pos 0) (5 ∷ []) ≡ may_effect (tokens (set_from (0 ∷ 1 ∷ 2 ∷ []))) clear (5 ∷ [])
set_answered = refl

set_turned_back : map (λ r. may_of words r own (used 1 1) (pos 0) []) (at closed ∷ at waiting ∷ record_of running (inner 0 0) 2 11 7 4 ∷ record_of running outer 2 11 6 4 ∷ at running ∷ []) ≡ map (λ n. may_effect (turned (refused n 0)) (used 1 1) []) (33 ∷ 40 ∷ 34 ∷ 34 ∷ 39 ∷ [])
set_turned_back = refl

-- ---- with table and area: 30, the table, the program written, then 33

-- a program of two words and the number of productions
abbrev program : Grammar → List ℕ
program g = 7 ∷ 8 ∷ length g.productions ∷ []

abbrev effect : Answer → Record → Stacks → List ℕ → Effect
effect a r s ws = record { answer = a; state = r; stacks = s; area = ws }

previews_30 : previews program bytes (replicate 3 5) (at closed) own (used 1 1) 0 (pos 0) ≡ effect (refused 30 0) (at closed) (used 1 1) (replicate 3 5)
previews_30 = refl

previews_table : previews program [] (replicate 16384 5) (at closed) own (used 1 1) 0 (pos 0) ≡ effect (table_refused 3 0) (at closed) (used 1 1) (replicate 16384 5)
previews_table = refl

previews_words : previews program bytes (replicate 16384 5) (at running) own (used 18 10) 2 (pos 0) ≡ effect (more 17) (record_of running outer 3 17 8 4) clear (7 ∷ 8 ∷ 4 ∷ replicate 16381 5)
unfolding bytes
previews_words = refl

previews_33 : previews program bytes (replicate 16384 5) (at closed) own (used 1 1) 2 (pos 0) ≡ effect (refused 33 0) (at closed) (used 1 1) (7 ∷ 8 ∷ 4 ∷ replicate 16381 5)
unfolding bytes
previews_33 = refl

mays_30 : mays program bytes (replicate 3 5) (at closed) own (used 1 1) (pos 0) ≡ may_effect (turned (refused 30 0)) (used 1 1) (replicate 3 5)
mays_30 = refl

mays_table : mays program [] (replicate 16384 5) (at closed) own (used 1 1) (pos 0) ≡ may_effect (turned (table_refused 3 0)) (used 1 1) (replicate 16384 5)
mays_table = refl

mays_words : mays program bytes (replicate 16384 5) (at running) own (used 18 10) (pos 0) ≡ may_effect (tokens (set_from (0 ∷ 1 ∷ 2 ∷ []))) clear (7 ∷ 8 ∷ 4 ∷ replicate 16381 5)
unfolding bytes
mays_words = refl
