-- What the statements on inner runs say and exclude: an outer run of words and tags stopped after word open, on 16 registers and 9 places, and inner runs over it.
use Rattle.std.specs.Prelude.{ℕ, ◌≡◌, refl, true, false, List, [], ◌∷◌, replicate, pos, T}
use Rattle.std.proofs.Common.{arith, ap, subst, inr}
use Rattle.meaning.specs.Grammar.{Token}
use Rattle.meaning.specs.Judgement.{Accepted, Judged, rejected}
use Rattle.meaning.specs.Calls.{running, waiting, closed, outer, inner, Record, Stacks, refused, table_refused, closed_record}
use Rattle.meaning.specs.PublicCalls.{feed, finish, written}
use Rattle.meaning_inner.specs.Inner.{register_base, place_base, give_up}
use Rattle.meaning_statements.specs.CallStatements.{Met, Case, is_waiting, is_inner, which_case}
use Rattle.meaning_statements.specs.InnerStatements.{both_back, outer_closed, is_third, bad_inner, opening_effect, Belongs, either_closed, apart, inner_call_effect, Kept, InsideHistory, begins, passes, feeds, finishes}
use Rattle.meaning.specs.Examples.WordsAndTags.{words}
use Rattle.meaning.specs.Examples.TableRows.{bytes}
use Rattle.meaning.specs.Examples.Samples.{small}
use Rattle.meaning.specs.Examples.CallRows.{m, record_of, stacks}
use Rattle.meaning_statements.specs.InnerStatementRows.{program, area, long, the_outer, the_inner, over, stopped, two, state_number}

-- ---- a list of inner calls: opened, an empty feed, a word, a short area, the end

abbrev Listed : List Token → Record → Stacks → Type 0
Listed ts i s = InsideHistory program bytes bytes (the_outer running) stopped ts false (two (the_outer waiting) i s)

start : Listed [] (the_inner running 0 0 1 1) (over (replicate 9 m) (32768 ∷ replicate 4 0))
unfolding bytes
start = begins area refl

one_word : Listed (record { kind = 0; value = pos 0 } ∷ []) (the_inner running 1 7 5 3) (over (m ∷ m ∷ pos 0 ∷ m ∷ pos 0 ∷ replicate 4 m) (32768 ∷ 0 ∷ 257 ∷ 0 ∷ 0 ∷ []))
unfolding bytes
one_word = feeds area (0 ∷ []) (pos 0 ∷ []) tt refl (feeds area [] [] tt refl start long refl) long refl

turned_back_lem : Listed (record { kind = 0; value = pos 0 } ∷ []) (the_inner running 1 7 5 3) (over (m ∷ m ∷ pos 0 ∷ m ∷ pos 0 ∷ replicate 4 m) (32768 ∷ 0 ∷ 257 ∷ 0 ∷ 0 ∷ []))
turned_back_lem = passes (record { table = bytes; area = []; call = give_up }) one_word refl

at_the_end : InsideHistory program bytes bytes (the_outer running) stopped (record { kind = 0; value = pos 0 } ∷ []) true (two (the_outer running) (the_inner closed 1 14 1 1) stopped)
unfolding bytes
at_the_end = finishes area turned_back_lem long refl

-- ---- which records belong together

together : Belongs (the_outer waiting) (the_inner running 1 7 5 3)
together = record { waits = refl; is_outer = refl; runs = refl; begins = refl }

not_waiting : Belongs (the_outer running) (the_inner running 1 7 5 3) → ⊥
not_waiting b = omega (arith, ap state_number b.waits)

inner_waits : Belongs (the_outer waiting) (the_inner waiting 1 7 5 3) → ⊥
inner_waits b = omega (arith, ap state_number b.runs)

other_places : Belongs (record_of waiting outer 2 11 7 3) (the_inner running 1 7 5 3) → ⊥
other_places b = omega (arith, ap place_base b.begins)

not_outer : Belongs (record_of waiting (inner 1 0) 2 11 7 4) (the_inner running 1 7 5 3) → ⊥
not_outer b = omega (arith, ap register_base b.is_outer)

-- ---- what is left of the outer run

ended : Kept (the_outer running) stopped (two (the_outer running) (the_inner closed 1 14 1 1) stopped)
ended = record { is_below = refl; past_registers = refl; past_places = refl; waits = λ e. absurd (subst T e tt); restored = λ e. (refl, refl) }

-- a mark that was never set, a cell below that changed
no_mark : Kept (the_outer running) stopped (two (the_outer running) (the_inner running 0 0 1 1) stopped) → ⊥
no_mark k = omega (arith, ap (λ r. state_number r.status) (k.waits refl))

abbrev first : List ℕ → ℕ
first [] = 0
first (p ∷ ps) = p

changed_below : Kept (the_outer running) stopped (two (the_outer waiting) (the_inner running 0 0 1 1) (stacks stopped.registers (9 ∷ 0 ∷ 257 ∷ 513 ∷ 32768 ∷ replicate 4 0))) → ⊥
changed_below k = omega (arith, ap (λ s. first s.places) k.is_below)

-- ---- what is turned back: numbers, records and the area

over_inner : (a : Accepted bytes words) (n : (the_inner running 0 0 1 1).status ≡ closed → ⊥) → (opening_effect program bytes small area (the_inner running 0 0 1 1) stopped (is_third long words a n refl)).answer ≡ refused 40 0
over_inner a n = refl

over_closed : (a : Accepted bytes words) → (opening_effect program bytes small area (the_outer closed) stopped (outer_closed long words a refl)).answer ≡ refused 33 0
over_closed a = refl

-- a refused inner table writes nothing further
inner_refused : (x : Met bytes words area (the_outer running) stopped) (j : Judged small (rejected 4 9)) → opening_effect program bytes small area (the_outer running) stopped (bad_inner words x 4 9 j) ≡ both_back (table_refused 4 9) (the_outer running) closed_record stopped (written (program words) area)
inner_refused x j = refl

-- both records as brought
inner_closed : (a : Accepted bytes words) → inner_call_effect program bytes area (the_outer waiting) (the_inner closed 0 0 1 1) stopped give_up (either_closed long words a (inr refl)) ≡ both_back (refused 33 0) (the_outer waiting) (the_inner closed 0 0 1 1) stopped (written (program words) area)
inner_closed a = refl

no_pair : (a : Accepted bytes words) (d : (the_outer running).status ≡ closed → ⊥) (e : (the_inner running 0 0 1 1).status ≡ closed → ⊥) (n : Belongs (the_outer running) (the_inner running 0 0 1 1) → ⊥)
    → (inner_call_effect program bytes area (the_outer running) (the_inner running 0 0 1 1) stopped give_up (apart long words a d e n)).answer ≡ refused 34 0
no_pair a d e n = refl

-- an ordinary call on the waiting run is a case of its own, and so is one that brings an inner record
waiting_case : (a : Accepted bytes words) → which_case {bs = bytes} {area = area} {r = the_outer waiting} {m = stopped} {c = finish} (is_waiting long words a refl refl) ≡ 4
waiting_case a = refl

inner_case : (a : Accepted bytes words) → Case bytes area (the_inner waiting 0 0 1 1) stopped (feed [] [])
inner_case a = is_inner long words a (λ e. omega (arith, ap state_number e)) (λ e. omega (arith, ap register_base e))
