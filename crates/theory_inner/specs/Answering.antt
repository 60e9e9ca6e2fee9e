-- Demand 1 for inner runs: each inner call gives what it is for, or one numbered refusal; and what is turned back while the outer run waits changes nothing.
use Rattle.std.specs.Prelude.{ℕ, ◌≡◌, refl, Bool, true, false, List, [], T}
use Rattle.std.proofs.Common.{arith, sym, ap, subst}
use Rattle.meaning.specs.Grammar.{Grammar}
use Rattle.meaning.specs.Rules.{WellFormed}
use Rattle.meaning.specs.Judgement.{rejected, Judged}
use Rattle.meaning.specs.Calls.{waiting, Record, is_open, Stacks, Called, Answer, refused, table_refused}
use Rattle.meaning.specs.PublicCalls.{unusable, Call, feed, finish, call_of, Effect, performs}
use Rattle.meaning_inner.specs.Inner.{above, with_status, alone, InnerCall, engine, give_up, engine_call, ends, after_inner, inner_opens, inner_performs}
use Rattle.meaning_statements.specs.CallStatements.{engine_answer, handed_back, Case, short, bad_table, is_closed, is_waiting, is_inner, unfit, uneven, met}
use Rattle.meaning_statements.specs.InnerStatements as Stated
use Rattle.meaning_statements.specs.InnerStatements.{inner_opening_answer, inner_call_answer, InnerAlwaysAnswers, OpeningCase, opening_effect, InnerCase, stretch_call, called_by, inner_call_effect, WaitingTurnsBack}
use Rattle.theory_sets.specs.Accepted.{judged_is}
use Rattle.theory_table.specs.AcceptedTable.{accepted_well_formed}
use Rattle.theory_answers.specs.TableNumbers.{CheckedRight, check_number}
use Rattle.theory_answers.specs.Called.{called_is}
use Rattle.theory_answers.specs.Answers.{fit_answers}
use Rattle.theory_answers.specs.Memory.{open_is}
use Rattle.theory_answers.specs.TurnedBack.{refuses, short_area, bad_table_lem, bad_state, all_cases}
use Rattle.theory_inner.specs.OpenRunKept.{open_record, call_cases}
use Rattle.theory_inner.specs.Cases.{inner_openings}
use Rattle.theory_inner.specs.Calling.{alone_runs, inner_calls}

-- ---- an opening

-- a table's refusal has one of its numbers
table_number : (bs : List ℕ) (n f : ℕ) → Judged bs (rejected n f) → CheckedRight (unusable n f)
table_number bs n f j = subst CheckedRight (refuses bs n f ((judged_is bs (rejected n f)).0 j)) (check_number bs)

module _ (program : Grammar → List ℕ) (outer_table inner_table area : List ℕ) (r : Record) (m : Stacks) where
  opening_answer_lem : (y : OpeningCase outer_table inner_table area r m) → T (inner_opening_answer (opening_effect program outer_table inner_table area r m y).answer)
  opening_answer_lem (Stated.short l) = tt
  opening_answer_lem (Stated.bad_outer l n f j) = table_number outer_table n f j
  opening_answer_lem (Stated.outer_closed l g a e) = tt
  opening_answer_lem (Stated.is_third l g a e o) = tt
  opening_answer_lem (Stated.unfit l g a o e) = tt
  opening_answer_lem (Stated.bad_inner g x n f j) = table_number inner_table n f j
  opening_answer_lem (Stated.no_register g x h a l) = tt
  opening_answer_lem (Stated.no_place g x h a k l) = tt
  opening_answer_lem (Stated.is_opened g x h a k l) = tt

  inner_opening : T (inner_opening_answer (inner_opens program outer_table inner_table area r m).answer)
  inner_opening = let y = inner_openings program outer_table inner_table area r m in subst (λ e. T (inner_opening_answer e.answer)) (sym (y.1 y.0).1) (opening_answer_lem y.0)

-- ---- later calls

after_answer : (b : Bool) (o i : Record) (m : Stacks) (k : Called) → (after_inner b o i m k).answer ≡ k.answer
after_answer true o i m k = refl
after_answer false o i m k = refl

number_34 : (c : Call) → T (engine_answer c (refused 34 0))
number_34 (feed ks vs) = tt
number_34 finish = tt

stretch_answer : (g : Grammar) → WellFormed g → (t n h p : ℕ) (m : Stacks) (c : InnerCall) → T (inner_call_answer c (call_of g (open_record t n h p) m (engine_call c)).answer)
stretch_answer g wf t n h p m (engine c) = call_cases (λ k. T (engine_answer c k.answer)) g t n h p m c (number_34 c) (λ f. fit_answers g wf (open_record t n h p) m f c)
stretch_answer g wf t n h p m give_up = call_cases (λ k. T (inner_call_answer give_up k.answer)) g t n h p m (feed [] []) tt (λ f. tt)

turned : (c : InnerCall) → T (inner_call_answer c (refused 30 0)) × T (inner_call_answer c (refused 33 0)) × T (inner_call_answer c (refused 34 0))
turned (engine (feed ks vs)) = (tt, tt, tt)
turned (engine finish) = (tt, tt, tt)
turned give_up = (tt, tt, tt)

turned_table : (c : InnerCall) (n f : ℕ) → CheckedRight (unusable n f) → T (inner_call_answer c (table_refused n f))
turned_table (engine (feed ks vs)) n f t = t
turned_table (engine finish) n f t = t
turned_table give_up n f t = t

module _ (program : Grammar → List ℕ) (bs area : List ℕ) (o i : Record) (m : Stacks) (c : InnerCall) where
  call_answer_lem : (y : InnerCase bs area o i) → T (inner_call_answer c (inner_call_effect program bs area o i m c y).answer)
  call_answer_lem (Stated.too_short l) = (turned c).0
  call_answer_lem (Stated.bad_table l n f j) = turned_table c n f (table_number bs n f j)
  call_answer_lem (Stated.either_closed l g a e) = (turned c).1
  call_answer_lem (Stated.apart l g a d e n) = (turned c).2
  call_answer_lem (Stated.by_engine l g a b) =
      let e = stretch_call program bs area i m c in
      let s : Stacks = above i.kind m in
      let q = called_is program bs g a area l (alone i) s (λ h. call_of h (alone i) s (engine_call c)) in
      let w = stretch_answer g (accepted_well_formed bs g a) i.tokens i.moves i.register_height i.place_height s c in
      subst (λ a. T (inner_call_answer c a)) (sym (after_answer (ends c (called_by e)) o i m (called_by e)))
      (subst (λ (z : Effect). T (inner_call_answer c z.answer)) (sym q) (subst (λ r. T (inner_call_answer c (call_of g r s (engine_call c)).answer)) (sym (alone_runs o i b)) w))

  inner_performing : T (inner_call_answer c (inner_performs program bs area o i m c).answer)
  inner_performing = let y = inner_calls program bs area o i m c in subst (λ e. T (inner_call_answer c e.answer)) (sym (y.1 y.0).1) (call_answer_lem y.0)

pub inner_always_answers : InnerAlwaysAnswers
inner_always_answers = (inner_opening, inner_performing)

-- ---- while the outer run waits

waits_no : {A : Type 0} (r : Record) → is_open (with_status waiting r) ≡ true → A
waits_no r o = let e = (open_is waiting r.kind o).0 in absurd (let z : ◌≡◌ {A = ℕ} 0 1 = cc in omega arith)

module _ (program : Grammar → List ℕ) (bs area : List ℕ) (r : Record) (m : Stacks) (c : Call) where
  abbrev AsBrought : Effect → Type 0
  AsBrought e = (e.state ≡ with_status waiting r) × (e.stacks ≡ m)

  as_brought_lem : (k : Answer) (words : List ℕ) → performs program bs area (with_status waiting r) m c ≡ handed_back k (with_status waiting r) m words → AsBrought (performs program bs area (with_status waiting r) m c)
  as_brought_lem k words e = (ap (λ z. z.state) e, ap (λ z. z.stacks) e)

  waits_performs : AsBrought (performs program bs area (with_status waiting r) m c)
  waits_performs = go (all_cases bs area (with_status waiting r) m c).0
    where
      go : Case bs area (with_status waiting r) m c → AsBrought (performs program bs area (with_status waiting r) m c)
      go (short l) = as_brought_lem _ _ (short_area program bs area (with_status waiting r) m c l).1
      go (bad_table l n o j) = as_brought_lem _ _ (bad_table_lem program bs area (with_status waiting r) m c n o l j).1
      go (is_closed l g a e) = as_brought_lem _ _ ((bad_state program bs area g (with_status waiting r) m c l a).0 e)
      go (is_waiting l g a e f) = as_brought_lem _ _ ((bad_state program bs area g (with_status waiting r) m c l a).1 e f)
      go (is_inner l g a e f) = as_brought_lem _ _ ((bad_state program bs area g (with_status waiting r) m c l a).2 e f)
      go (unfit l g a o f) = waits_no r o
      go (uneven g x e) = waits_no r x.is_open
      go (met g x e) = waits_no r x.is_open

module _ (program : Grammar → List ℕ) (outer_table inner_table area : List ℕ) (r : Record) (m : Stacks) where
  waits_case : (y : OpeningCase outer_table inner_table area (with_status waiting r) m) → let e = opening_effect program outer_table inner_table area (with_status waiting r) m y in (e.outer_state ≡ with_status waiting r) × (e.stacks ≡ m)
  waits_case (Stated.short l) = (refl, refl)
  waits_case (Stated.bad_outer l n f j) = (refl, refl)
  waits_case (Stated.outer_closed l g a e) = (refl, refl)
  waits_case (Stated.is_third l g a e o) = (refl, refl)
  waits_case (Stated.unfit l g a o e) = (refl, refl)
  waits_case (Stated.bad_inner g x n f j) = (refl, refl)
  waits_case (Stated.no_register g x h a l) = (refl, refl)
  waits_case (Stated.no_place g x h a k l) = (refl, refl)
  waits_case (Stated.is_opened g x h a k l) = waits_no r x.is_open

  waits_opens : let e = inner_opens program outer_table inner_table area (with_status waiting r) m in (e.outer_state ≡ with_status waiting r) × (e.stacks ≡ m)
  waits_opens = let y = inner_openings program outer_table inner_table area (with_status waiting r) m in subst (λ e. (e.outer_state ≡ with_status waiting r) × (e.stacks ≡ m)) (sym (y.1 y.0).1) (waits_case y.0)

pub waiting_turns_back : WaitingTurnsBack
waiting_turns_back = (waits_performs, waits_opens)
