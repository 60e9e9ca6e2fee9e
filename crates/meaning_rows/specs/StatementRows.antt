-- What the statements say and what they exclude: a list of calls, and answers, engines and records that do not meet them.
use Rattle.std.specs.Prelude.{ℕ, ◌≡◌, refl, true, false, List, [], ◌∷◌, ◌++◌, map, length, replicate, pos, T}
use Rattle.std.proofs.Common.{arith, sym, ap, ◌∙◌, subst, inl, lit≤}
use Rattle.meaning.specs.Grammar.{Grammar, Token, Leaf}
use Rattle.meaning.specs.Judgement.{Accepted}
use Rattle.meaning.specs.Scheme.{add}
use Rattle.meaning.specs.Machine.{Config, waits, is_finished}
use Rattle.meaning.specs.Walk.{Act}
use Rattle.meaning.specs.Calls.{Record, Stacks, Answer, more, value, refused, table_refused, config_of, result}
use Rattle.meaning.specs.Fit.{Fit, segment}
use Rattle.meaning.specs.PublicCalls.{Call, feed, finish, Effect, performs}
use Rattle.meaning_inner.specs.Inner.{is_closed, InnerCall, engine, give_up}
use Rattle.meaning_inner.specs.InnerLists.{CallWithTable, inner_run}
use Rattle.meaning_statements.specs.CallStatements.{handed_back, Refuses, too_many, not_token, at_token, at_end, between, MovesTo, CallsMoveOf}
use Rattle.meaning_statements.specs.Statements.{History, opened, counts_for_nothing, inner_ended_value, fed, finished}
use Rattle.meaning.specs.Examples.WordsAndTags.{words, plain}
use Rattle.meaning.specs.Examples.TableRows.{bytes}
use Rattle.meaning.specs.Examples.CallRows.{m, state, stacks, used}
use Rattle.meaning_statements.specs.StatementRows.{program, area, long, feed_kinds, stuck, fresh, Answered, lent, not_by}

-- ---- a list of calls: word open close in two pieces

abbrev tokens : List ℕ → List Token
tokens ks = map (λ k. record { kind = k; value = pos 0 }) ks

abbrev Listed : List ℕ → Record → Stacks → Type 0
Listed ks r s = History program bytes (used 8 5) (tokens ks) false r s

start : Listed [] (state true 0 0 1 1) (stacks (replicate 8 m) (32768 ∷ 0 ∷ 0 ∷ 0 ∷ 0 ∷ []))
unfolding bytes
start = opened area refl

-- an empty feed, and a word
one_word : Listed (0 ∷ []) (state true 1 7 5 3) (stacks (m ∷ m ∷ pos 0 ∷ m ∷ pos 0 ∷ m ∷ m ∷ m ∷ []) (32768 ∷ 0 ∷ 257 ∷ 0 ∷ 0 ∷ []))
unfolding bytes
one_word = fed area (0 ∷ []) (pos 0 ∷ []) tt refl (fed area [] [] tt refl start long refl) long refl

-- with another table, which is refused; with a short area
turned_back_lem : Listed (0 ∷ []) (state true 1 7 5 3) (stacks (m ∷ m ∷ pos 0 ∷ m ∷ pos 0 ∷ m ∷ m ∷ m ∷ []) (32768 ∷ 0 ∷ 257 ∷ 0 ∷ 0 ∷ []))
turned_back_lem = counts_for_nothing bytes [] finish (counts_for_nothing (1 ∷ 0 ∷ []) area (feed_kinds (1 ∷ [])) one_word refl refl) refl refl

-- a kind without its value: 38
uneven_turned_back : Listed (0 ∷ []) (state true 1 7 5 3) (stacks (m ∷ m ∷ pos 0 ∷ m ∷ pos 0 ∷ m ∷ m ∷ m ∷ []) (32768 ∷ 0 ∷ 257 ∷ 0 ∷ 0 ∷ []))
unfolding bytes
uneven_turned_back = counts_for_nothing bytes area (feed (1 ∷ []) []) one_word refl refl

-- 02 (h): inner runs on the 3 registers and 2 places that are left: one given up after an empty feed; one that its finish ends, by 32
abbrev inside_call : InnerCall → CallWithTable InnerCall
inside_call c = record { table = bytes; area = area; call = c }

inner_given_up : Listed (0 ∷ []) (state true 1 7 5 3) (stacks (m ∷ m ∷ pos 0 ∷ m ∷ pos 0 ∷ m ∷ m ∷ m ∷ []) (32768 ∷ 0 ∷ 257 ∷ 0 ∷ 0 ∷ []))
unfolding bytes
inner_given_up = inner_ended_value bytes bytes area (inside_call (engine (feed [] [])) ∷ inside_call give_up ∷ []) uneven_turned_back refl refl

inner_refused : Listed (0 ∷ []) (state true 1 7 5 3) (stacks (m ∷ m ∷ pos 0 ∷ m ∷ pos 0 ∷ m ∷ m ∷ m ∷ []) (32768 ∷ 0 ∷ 257 ∷ 0 ∷ 0 ∷ []))
unfolding bytes
inner_refused = inner_ended_value bytes bytes area (inside_call (engine finish) ∷ []) inner_given_up refl refl

-- one that is still open does not count
inner_still_open : map (λ c. is_closed (inner_run program bytes bytes area (state true 1 7 5 3) (stacks (m ∷ m ∷ pos 0 ∷ m ∷ pos 0 ∷ m ∷ m ∷ m ∷ []) (32768 ∷ 0 ∷ 257 ∷ 0 ∷ 0 ∷ [])) (inside_call c ∷ [])).inner_state.status) (engine (feed [] []) ∷ engine (feed (1 ∷ []) []) ∷ []) ≡ false ∷ false ∷ []
unfolding bytes
inner_still_open = refl

two_pieces : Listed (0 ∷ 1 ∷ 2 ∷ []) (state true 3 17 8 4) (stacks (m ∷ m ∷ pos 0 ∷ m ∷ pos 0 ∷ pos 0 ∷ m ∷ pos 0 ∷ []) (32768 ∷ 0 ∷ 257 ∷ 515 ∷ 0 ∷ []))
unfolding bytes
two_pieces = fed area (1 ∷ 2 ∷ []) (pos 0 ∷ pos 0 ∷ []) tt refl inner_refused long refl

-- finished; and a feed after it, which 33 turns back
after_the_end : History program bytes (used 8 5) (tokens (0 ∷ 1 ∷ 2 ∷ [])) true (state false 3 26 1 1) (stacks (pos 1 ∷ replicate 7 m) (32769 ∷ 0 ∷ 0 ∷ 0 ∷ 0 ∷ []))
unfolding bytes
after_the_end = counts_for_nothing bytes area (feed_kinds (0 ∷ [])) (finished area two_pieces long refl) refl refl

-- ---- answers that the moves do not give

-- the places and registers of a start symbol left with value 4
abbrev left4 : ℕ → Config
left4 n = config_of words (state true 2 n 1 1) (stacks (pos 4 ∷ []) (32769 ∷ []))

-- token 3 of 0 to 2 after 5 tokens: the answer is 20, with 5 tokens read
tokens_missing : Answered (fresh 5 9) (feed_kinds (3 ∷ [])) (refused 20 0)
tokens_missing r s ws x =
    let e = stuck words lent (plain (3 ∷ [])) (fresh 5 9) 21 refl (x.made [] tt) in
    absurd (omega (arith, x.says.0, ap (λ z. z.tokens) e.2))

-- it is not refused by 35, or by the 21 of the move, before which it is judged
not_35 : Answered (fresh 5 9) (feed_kinds (3 ∷ [])) (refused 35 5)
not_35 = not_by (fresh 5 9) 3 21 35 5 refl refl (λ q n. omega arith) (λ q n f. omega arith) (λ q n f. omega arith)

not_21 : Answered (fresh 5 9) (feed_kinds (3 ∷ [])) (refused 21 5)
not_21 = not_by (fresh 5 9) 3 21 21 5 refl refl (λ q n. omega arith) (λ q n f. omega arith) (λ q n f. omega arith)

-- a token after 65,535 is 35, not 20
not_20_at_limit : Answered (fresh 65535 9) (feed_kinds (3 ∷ [])) (refused 20 65535)
not_20_at_limit = not_by (fresh 65535 9) 3 21 20 65535 refl refl (λ q n. omega arith) (λ q n f. omega arith) (λ q n f. omega arith)

-- token 0 is one: 32, as one place is lent
not_20 : Answered (fresh 5 9) (feed_kinds (0 ∷ [])) (refused 20 5)
not_20 = not_by (fresh 5 9) 0 32 20 5 refl refl (λ q n. omega arith) (λ q n f. omega arith) (λ q n f. omega arith)

-- an empty feed has made 9 moves, not 8; and it does not predict as if the segment were over
moves_missing : Answered (fresh 0 9) (feed [] []) (more 8)
moves_missing r s ws x =
    let e = stuck words lent (plain (3 ∷ [])) (fresh 0 9) 21 refl (x.made (plain (3 ∷ [])) tt) in
    absurd (omega (arith, x.says.2, ap (λ z. z.moves) e.2))

nothing_left : {left us : List Leaf} {u : Leaf} → left ≡ u ∷ us → left ++ [] ≡ [] → ⊥
nothing_left l e = absurd (omega (arith, ap length (sym (ap (λ z. z ++ []) l) ∙ e)))

-- with all tokens read, at the limit of moves, the feed stops: no 35 before a next token
early_35 : Answered (fresh 5 4294967295) (feed [] []) (refused 35 5)
early_35 r s ws x = by x.says.1 (stuck words lent [] (fresh 5 4294967295) 35 refl (x.made [] tt))
  where
    by : {ts left : List Leaf} {c d : Config} {moves : List Act} → Refuses words lent (λ us. Unit {0}) ts c moves left d 35 → (moves ≡ []) × (left ++ [] ≡ []) × (d ≡ fresh 5 4294967295) → ⊥
    by (too_many q u us l n v y) e = nothing_left l e.1
    by (not_token q u us l n f v y) e = nothing_left l e.1
    by (at_token u us l n f h) e = nothing_left l e.1
    by (at_end l d f h) e = absurd (omega (arith, ap length (f (plain (3 ∷ [])) tt)))
    by (between v y h) e = subst T (sym (ap (λ d. waits d.frames) e.2) ∙ v) tt

-- no more than 65,535 tokens are read
one_too_many : Answered (fresh 65536 9) (feed [] []) (more 9)
one_too_many r s ws x = absurd (omega (arith, x.few, ap (λ z. z.tokens) (stuck words lent (plain (3 ∷ [])) (fresh 65536 9) 21 refl (x.made (plain (3 ∷ [])) tt)).2))

-- the value is the result register's
other_value : Answered (left4 9) finish (value (pos 5) 9)
other_value r s ws x =
    let e = stuck words lent [] (left4 9) 24 refl (x.made [] refl) in
    absurd (omega (arith, same 5 4 (x.says.1 ∙ ap (result words) e.2)))
  where
    same : (a b : ℕ) → pos a ≡ pos b → a ≡ b
    same a b e = cc

-- and it is given: no 24 where the start symbol is left
not_24 : Answered (left4 9) finish (refused 24 2)
not_24 r s ws x = by x.says.1 (stuck words lent [] (left4 9) 24 refl (x.made [] refl))
  where
    by : {ts left : List Leaf} {c d : Config} {moves : List Act} → Refuses words lent (λ us. us ≡ []) ts c moves left d 24 → (moves ≡ []) × (left ++ [] ≡ []) × (d ≡ left4 9) → ⊥
    by (too_many q u us l n v y) e = nothing_left l e.1
    by (not_token q u us l n f v y) e = nothing_left l e.1
    by (at_token u us l n f h) e = nothing_left l e.1
    by (at_end l d f h) e = subst T (sym (ap is_finished e.2) ∙ d) tt
    by (between v y h) e = subst T (sym (ap (λ d. waits d.frames) e.2) ∙ v) tt

-- what needs no next token is done before a stop, and a value is given where the start symbol is left: an add is still to make
abbrev at_add : Config
at_add = record { frames = record { production = 0; rest = add 2 ∷ [] } ∷ []; registers = m ∷ []; tokens = 1; moves = 2 }

stops_early : Answered at_add (feed [] []) (more 2)
stops_early r s ws x = subst (λ d. T (waits d.frames)) (stuck words lent [] at_add 31 refl (x.made [] tt)).2 x.says.1

ends_early : Answered at_add finish (value m 2)
ends_early r s ws x = subst (λ d. T (is_finished d)) (stuck words lent [] at_add 31 refl (x.made [] refl)).2 x.says.0

-- ---- engines

-- one that answers every refusal by 22 with no token read
abbrev flat : Answer → Answer
flat (more n) = more n
flat (value v n) = value v n
flat (refused k o) = refused 22 0
flat (table_refused k o) = table_refused k o

abbrev always22 : (Grammar → List ℕ) → List ℕ → List ℕ → Record → Stacks → Call → Effect
always22 program bs ws r s c = let e = performs program bs ws r s c in handed_back (flat e.answer) e.state e.stacks e.area

opened_fits : Fit words (state true 5 9 1 1) (stacks (m ∷ []) (32768 ∷ []))
opened_fits = record { tokens = lit≤ tt; moves = lit≤ tt; register_height = lit≤ tt; place_height = lit≤ tt; stands = inl (_, segment [] (record { size = refl; ranged = tt })); registers_cleared = λ i a b. absurd (omega arith); places_cleared = λ i a b. absurd (omega arith) }

refuses_by_22 : Accepted bytes words → CallsMoveOf always22 → ⊥
unfolding bytes
refuses_by_22 a h = tokens_22 (h program bytes area words (state true 5 9 1 1) (stacks (m ∷ []) (32768 ∷ [])) (feed_kinds (3 ∷ [])) tt refl (record { long = long; accepts = a; is_open = refl; fits = opened_fits }))
  where
    tokens_22 : {r : Record} {s : Stacks} {ws : List ℕ} → MovesTo program area words (stacks (m ∷ []) (32768 ∷ [])) (fresh 5 9) (feed_kinds (3 ∷ [])) (handed_back (refused 22 0) r s ws) → ⊥
    tokens_22 x = absurd (omega (arith, x.says.0, ap (λ z. z.tokens) (stuck words lent (plain (3 ∷ [])) (fresh 5 9) 21 refl (x.made [] tt)).2))
