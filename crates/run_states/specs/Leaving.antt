-- What a call leaves, by the run that memory holds at its end.
use Rattle.std.specs.Prelude.{ℕ, ◌-◌, ◌≤◌, ◌<◌, ◌≡◌, refl, Bool, true, false, List, [], map, length, get_or, T, leb, ℤ, Result, Ok, Err}
use Rattle.std.proofs.Common.{arith, sym, ap, ap₂, ◌∙◌, subst, leb-true, leb-false}
use Rattle.std.proofs.lemmas.List.{length-map}
use Rattle.std.proofs.Math.ListN.{get_or-eq_default}
use Rattle.meaning.specs.Limits.{registers_limit, places_limit}
use Rattle.meaning.specs.Grammar.{Grammar}
use Rattle.meaning.specs.Value.{mark, in_range}
use Rattle.meaning.specs.Machine.{Config, read_register, Settled, stopped, place_of, is_finished, finish_all, moves_limit}
use Rattle.meaning.specs.Walk.{nothing}
use Rattle.meaning.specs.Calls as Calls
use Rattle.meaning.specs.Calls.{outer, lent_of, lay_all, status_of, record_of, result, after_feed, after_finish_value}
use Rattle.theory_answers.specs.Runs.{Finished, finished}
use Rattle.theory_answers.specs.ShapeMemory.{result_ranged}
use Rattle.theory_program.specs.Records.{segment_words_lem}
use Rattle.theory_program.specs.Addresses.{Begins, segment_at}
use Rattle.theory_program.specs.WordsStand.{stands_within}
use Rattle.run_moves.specs.declared.Run.{Run}
use Rattle.refusals.specs.Numbers.{refusal_number}
use Rattle.run_machine.specs.declared.Failed.{Failed}
use Rattle.run_moves.specs.Held.{Held}
use Rattle.run_registers.specs.Laid.{laid_stack, laid_inside}
use Rattle.run_registers.specs.Stack.{stack}
use Rattle.run_machine.specs.Advancing.{Ended, Settles}
use Rattle.meaning.specs.PublicCalls.{stacks_of}
use Rattle.records.specs.declared.Status.{Status}
use Rattle.records.specs.declared.Status.TheVariants.{Running, Closed}
use Rattle.records.specs.declared.State.{State}
use Rattle.records.specs.declared.Answer.TheVariants.{More, Value, Refused}
use Rattle.records.specs.declared.Handed.{Handed}
use Rattle.records.specs.Records.{status_is, state_is, handed_is}
use Rattle.records.specs.States.{running_at, with_status}
use Rattle.run_states.specs.declared.FailedAs.{FailedAs}
use Rattle.run_states.specs.Starting.{laid_all}

-- an outer run that goes on
abbrev pub open_from : Run → State
open_from run = running_at run.tokens run.moves run.registers run.places

-- one that is over
abbrev pub closed_from : Run → State
closed_from run = with_status Closed (open_from run)

-- the run and the number of what the machine fails with
abbrev pub failed_as : Failed → FailedAs
failed_as f = record { run = f.run; number = refusal_number f.refusal }

-- what is handed back where what comes or a move is refused, by whatever number
abbrev pub refused_as : FailedAs → Handed
refused_as f = record { state = closed_from f.run; answer = Refused f.number f.run.tokens }

-- what a feed and a finish hand back, whatever says which run is over and by which number. By `failed_as` these are `fed_from` and `finished_from`
abbrev pub fed_by : {F : Type 0} → (F → FailedAs) → Result Run F → Handed
fed_by f (Ok run) = record { state = open_from run; answer = More run.moves }
fed_by f (Err x) = refused_as (f x)

abbrev pub finished_by : {F : Type 0} → (F → FailedAs) → ℕ → List ℤ → Result Run F → Handed
finished_by f k m (Ok run) = record { state = closed_from run; answer = Value (read_register (stack run.registers m) k) run.moves }
finished_by f k m (Err x) = refused_as (f x)

-- what is handed back where what comes or a move is refused
abbrev pub refused_from : Failed → Handed
refused_from f = record { state = closed_from f.run; answer = Refused (refusal_number f.refusal) f.run.tokens }

-- what a feed hands back for what its tokens led to
abbrev pub fed_from : Ended → Handed
fed_from (Ok run) = record { state = open_from run; answer = More run.moves }
fed_from (Err f) = refused_from f

-- what a finish hands back: register k, from the top, is the segment's value
abbrev pub finished_from : ℕ → List ℤ → Ended → Handed
finished_from k m (Ok run) = record { state = closed_from run; answer = Value (read_register (stack run.registers m) k) run.moves }
finished_from k m (Err f) = refused_from f

pub fed_stopped : (e : Ended) (run : Run) (r : State) → e ≡ Ok run → r ≡ open_from run → record { state = r; answer = More run.moves } ≡ fed_from e
fed_stopped e run r q s = ap (λ z. record { state = z; answer = More run.moves }) s ∙ ap fed_from (sym q)

pub fed_failed : (e : Ended) (f : Failed) (r : State) → e ≡ Err f → r ≡ closed_from f.run → record { state = r; answer = Refused (refusal_number f.refusal) f.run.tokens } ≡ fed_from e
fed_failed e f r q s = ap (λ z. record { state = z; answer = Refused (refusal_number f.refusal) f.run.tokens }) s ∙ ap fed_from (sym q)

pub finished_stopped : (n : ℕ) (m : List ℤ) (e : Ended) (run : Run) (r : State) (v : ℤ) → e ≡ Ok run → r ≡ closed_from run → v ≡ read_register (stack run.registers m) n → record { state = r; answer = Value v run.moves } ≡ finished_from n m e
finished_stopped n m e run r v q s t = ap₂ (λ z w. record { state = z; answer = Value w run.moves }) s t ∙ ap (finished_from n m) (sym q)

pub finished_failed : (n : ℕ) (m : List ℤ) (e : Ended) (f : Failed) (r : State) → e ≡ Err f → r ≡ closed_from f.run → record { state = r; answer = Refused (refusal_number f.refusal) f.run.tokens } ≡ finished_from n m e
finished_failed n m e f r q s = ap (λ z. record { state = z; answer = Refused (refusal_number f.refusal) f.run.tokens }) s ∙ ap (finished_from n m) (sym q)

-- what the code relies on where a finish ends
pub record Ending {F : Type 0} (ws : List ℕ) (vs : List ℤ) (e : Result Run F) : Type 0 where
  pub some : (run : Run) → e ≡ Ok run → (run.registers ≤ length vs) × (1 ≤ get_or ws 5 0) × (get_or ws 5 0 ≤ run.registers)
  pub long : 5 < length ws

module _ (g : Grammar) (ws : List ℕ) (vs₀ : List ℤ) (ps₀ : List ℕ) (few : length vs₀ ≤ registers_limit) (little : length ps₀ ≤ places_limit) where
  module _ (vs : List ℤ) (ps : List ℕ) (run : Run) (d : Config) (h : Held g ws (lent_of (stacks_of vs₀ ps₀)) vs ps run d) where
    record_is : (s : Status) (o : Bool) → status_is s ≡ status_of o → state_is (with_status s (open_from run)) ≡ record_of o d
    record_is s o e =
        let a : run.registers ≡ length d.registers = sym h.registers.height in
        let b : run.places ≡ length d.frames = sym h.places.height ∙ length-map d.frames (place_of g) in
        let t = h.tokens in
        let v = h.moves in
        λ i. record { status = e i; kind = outer; tokens = t i; moves = v i; register_height = a i; place_height = b i }

    stacks_are : stacks_of vs ps ≡ lay_all g d (stacks_of vs₀ ps₀)
    stacks_are =
        let a = h.registers.memory ∙ sym (laid_all mark (lent_of (stacks_of vs₀ ps₀)).max_registers d.registers vs₀ (omega arith)) in
        let b = h.places.memory ∙ sym (laid_all 0 (lent_of (stacks_of vs₀ ps₀)).max_places (map (place_of g) d.frames) ps₀ (omega arith)) in
        λ i. stacks_of (a i) (b i)

    -- the result stands: past the height there is no value
    result_stands : T (is_finished d) → g.result ≤ run.registers
    result_stands t = go (leb g.result run.registers) refl
      where
        go : (b : Bool) → leb g.result run.registers ≡ b → g.result ≤ run.registers
        go true e = leb-true g.result run.registers e
        go false e =
            let l = leb-false g.result run.registers e in
            absurd (subst (λ v. T (in_range v)) (get_or-eq_default d.registers mark {n = g.result - 1} (omega (arith, h.registers.height))) (result_ranged g h.well_formed d h.shaped t))

    result_read : read_register (stack run.registers vs) (get_or ws 5 0) ≡ result g d
    result_read = ap₂ read_register (laid_stack h.registers) (segment_words_lem h.begins).result

    pub result_selected : T (is_finished d) → (1 ≤ get_or ws 5 0) × (get_or ws 5 0 ≤ run.registers)
    result_selected t = let k = (segment_words_lem h.begins).result in (omega (arith, h.well_formed.result.0), omega (arith, result_stands t))

  pub feed_leaves_lem : (vs : List ℤ) (ps : List ℕ) (e : Ended) (o : Settled) → Settles g ws (lent_of (stacks_of vs₀ ps₀)) o vs ps e → handed_is (fed_from e) vs ps ≡ after_feed g (stacks_of vs₀ ps₀) o
  feed_leaves_lem vs ps (Ok run) o s =
      let r = record_is vs ps run s.0 s.2 Running true refl in
      let k = stacks_are vs ps run s.0 s.2 in
      let v = s.2.moves in
      (λ i. record { answer = Calls.more (v i); state = r i; stacks = k i }) ∙ ap (after_feed g (stacks_of vs₀ ps₀)) (sym s.1)
  feed_leaves_lem vs ps (Err f) o s =
      let r = record_is vs ps f.run s.0 s.2 Closed false refl in
      let k = stacks_are vs ps f.run s.0 s.2 in
      let t = s.2.tokens in
      (λ i. record { answer = Calls.refused (refusal_number f.refusal) (t i); state = r i; stacks = k i }) ∙ ap (after_feed g (stacks_of vs₀ ps₀)) (sym s.1)

  module _ (c : Config) (few_moves_lem : c.moves ≤ moves_limit) where
    pub is_finished_lem : (d : Config) → finish_all g (lent_of (stacks_of vs₀ ps₀)) c ≡ stopped d → T (is_finished d)
    is_finished_lem d e = (subst (λ o. Finished g (lent_of (stacks_of vs₀ ps₀)) c [] c.tokens o) e (finished g (lent_of (stacks_of vs₀ ps₀)) c [] c (record { moves = []; made = λ us b. nothing; few = few_moves_lem }))).1

    pub finish_leaves : (vs : List ℤ) (ps : List ℕ) (e : Ended) → Settles g ws (lent_of (stacks_of vs₀ ps₀)) (finish_all g (lent_of (stacks_of vs₀ ps₀)) c) vs ps e → handed_is (finished_from (get_or ws 5 0) vs e) vs ps ≡ after_finish_value g (stacks_of vs₀ ps₀) (finish_all g (lent_of (stacks_of vs₀ ps₀)) c)
    finish_leaves vs ps (Ok run) s =
        let r = record_is vs ps run s.0 s.2 Closed false refl in
        let k = stacks_are vs ps run s.0 s.2 in
        let v = s.2.moves in
        let z = result_read vs ps run s.0 s.2 in
        (λ i. record { answer = Calls.value (z i) (v i); state = r i; stacks = k i }) ∙ ap (after_finish_value g (stacks_of vs₀ ps₀)) (sym s.1)
    finish_leaves vs ps (Err f) s =
        let r = record_is vs ps f.run s.0 s.2 Closed false refl in
        let k = stacks_are vs ps f.run s.0 s.2 in
        let t = s.2.tokens in
        (λ i. record { answer = Calls.refused (refusal_number f.refusal) (t i); state = r i; stacks = k i }) ∙ ap (after_finish_value g (stacks_of vs₀ ps₀)) (sym s.1)

    pub ended_by : Begins g ws → (vs : List ℤ) (ps : List ℕ) (e : Ended) → Settles g ws (lent_of (stacks_of vs₀ ps₀)) (finish_all g (lent_of (stacks_of vs₀ ps₀)) c) vs ps e → Ending ws vs e
    ended_by b vs ps e s =
        record {
          some = λ run q.
              let z = subst (Settles g ws (lent_of (stacks_of vs₀ ps₀)) (finish_all g (lent_of (stacks_of vs₀ ps₀)) c) vs ps) q s in
              let k = result_selected vs ps run z.0 z.2 (is_finished_lem z.0 z.1) in
              (laid_inside z.2.registers, k.0, k.1);
          long = omega (arith, stands_within (segment_at b));
        }
