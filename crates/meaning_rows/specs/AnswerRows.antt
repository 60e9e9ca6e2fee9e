-- Which refusals an opening, a feed and a finish may answer with.
use Rattle.std.specs.Prelude.{ℕ, ◌≡◌, refl, Bool, true, false, List, [], ◌∷◌, map, pos}
use Rattle.meaning.specs.Base.{keep, count_from}
use Rattle.meaning.specs.Calls.{Answer, more, value, refused, table_refused}
use Rattle.meaning.specs.PublicCalls.{feed, finish}
use Rattle.meaning_inner.specs.Inner.{engine, give_up}
use Rattle.meaning_statements.specs.CallStatements.{opening_answer, call_answer}
use Rattle.meaning_statements.specs.InnerStatements.{inner_opening_answer, inner_call_answer}

-- the numbers below 41 that are answered
abbrev numbers : (ℕ → Answer) → (Answer → Bool) → List ℕ
numbers made may = keep (λ k. may (made k)) (count_from 0 41)

opening_refusals : numbers (λ k. refused k 0) opening_answer ≡ 30 ∷ 31 ∷ 32 ∷ []
opening_refusals = refl

feed_refusals : numbers (λ k. refused k 0) (call_answer (feed [] [])) ≡ 20 ∷ 21 ∷ 22 ∷ 23 ∷ 30 ∷ 31 ∷ 32 ∷ 33 ∷ 34 ∷ 35 ∷ 38 ∷ 40 ∷ []
feed_refusals = refl

finish_refusals : numbers (λ k. refused k 0) (call_answer finish) ≡ 22 ∷ 23 ∷ 24 ∷ 30 ∷ 31 ∷ 32 ∷ 33 ∷ 34 ∷ 35 ∷ 40 ∷ []
finish_refusals = refl

table_refusals : map (numbers (λ k. table_refused k 0)) (opening_answer ∷ call_answer (feed [] []) ∷ call_answer finish ∷ []) ≡ (count_from 1 13) ∷ (count_from 1 13) ∷ (count_from 1 13) ∷ []
table_refusals = refl

-- opened with 0 moves, fed with any number, finished with a value in range
going_on : map opening_answer (more 0 ∷ more 1 ∷ value (pos 0) 0 ∷ []) ≡ true ∷ false ∷ false ∷ []
going_on = refl

fed : map (call_answer (feed [] [])) (more 9 ∷ value (pos 0) 0 ∷ []) ≡ true ∷ false ∷ []
fed = refl

finished : map (call_answer finish) (more 9 ∷ value (pos 1000000000000) 9 ∷ value (pos 1000000000001) 9 ∷ []) ≡ false ∷ true ∷ false ∷ []
finished = refl

-- 02 (h)
inner_opening_refusals : numbers (λ k. refused k 0) inner_opening_answer ≡ 30 ∷ 31 ∷ 32 ∷ 33 ∷ 34 ∷ 40 ∷ []
inner_opening_refusals = refl

inner_refusals : map (λ c. numbers (λ k. refused k 0) (inner_call_answer c)) (engine (feed [] []) ∷ engine finish ∷ give_up ∷ []) ≡ (20 ∷ 21 ∷ 22 ∷ 23 ∷ 30 ∷ 31 ∷ 32 ∷ 33 ∷ 34 ∷ 35 ∷ 38 ∷ []) ∷ (22 ∷ 23 ∷ 24 ∷ 30 ∷ 31 ∷ 32 ∷ 33 ∷ 34 ∷ 35 ∷ []) ∷ (30 ∷ 33 ∷ 34 ∷ []) ∷ []
inner_refusals = refl
