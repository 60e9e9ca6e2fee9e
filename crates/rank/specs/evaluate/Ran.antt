-- What a candidate's run answers and leaves.
use Rattle.std.specs.Prelude.{ℕ, ◌-◌, ◌≤◌, ◌<◌, min, ◌≡◌, refl, Bool, true, List, ◌++◌, T, length, get_or, set, take, drop, replicate, ℤ, Ok, Err}
use Rattle.std.proofs.Common.{arith, sym, ap, ap₂, ◌∙◌, subst, subst₂, append-nil, length-append, length-drop, length-set, drop_of_length-le, take_at}
use Rattle.std.proofs.lemmas.List.{length-replicate}
use Rattle.meaning.specs.Limits.{registers_limit, places_limit}
use Rattle.meaning.specs.Value.{mark, in_range}
use Rattle.meaning.specs.Grammar.{Grammar, leaves, segment_place}
use Rattle.meaning.specs.Machine.{Config, Lent, Settled, stopped, failed, opening, feed_all, finish_all}
use Rattle.meaning.specs.Calls as Calls
use Rattle.meaning.specs.Calls.{Stacks, lent_of, refused, tokens_from, after_feed, after_finish_value}
use Rattle.meaning.specs.PublicCalls.{stacks_of}
use Rattle.meaning_ranking.specs.RankCall.{evaluated}
use Rattle.theory_answers.specs.Memory.{lay_above}
use Rattle.theory_answers.specs.ShapeMemory.{result_ranged}
use Rattle.theory_evaluating.specs.Outcomes.{Outcome, outcome, outcome_of, Goes, narrow, flat, failing, ending, goes_evaluated, goes_over}
use Rattle.records.specs.declared.Handed.{Handed}
use Rattle.records.specs.Records.{answer_is, handed_is}
use Rattle.run_registers.specs.Laid.{laid_inside}
use Rattle.run_moves.specs.declared.Run.{Run}
use Rattle.run_moves.specs.Laid.{LaidIn, laid_size}
use Rattle.run_moves.specs.Held.{Held}
use Rattle.refusals.specs.Numbers.{refusal_number}
use Rattle.run_machine.specs.declared.Failed.{Failed}
use Rattle.run_machine.specs.Advancing.{Ended, Settles, Running}
use Rattle.run_machine.specs.Feeding.{Feeds, Finishes}
use Rattle.run_fit.specs.HasProgram.{HasProgram, Readable}
use Rattle.run_cells.specs.Cutting.{uncut, lent_same, put_back, fed_cut, finished_cut}
use Rattle.run_states.specs.Leaving.{fed_from, finished_from, Ending, feed_leaves_lem, finish_leaves, is_finished_lem, ended_by}
use Rattle.rank.specs.declared.afresh.Candidate.{Candidate}
use Rattle.rank.specs.afresh.Opening.{Clean, LentClean, unopened_from, left_from}
use Rattle.rank.specs.evaluate.Opened.{Opened, start_run, held_opened, opening_count, roomy, placed, opened_lays, opening_within}

-- a value is within its limits
abbrev pub answer_ranged : Calls.Answer → Bool
answer_ranged (Calls.value v n) = in_range v
answer_ranged (Calls.more n) = true
answer_ranged (Calls.refused k n) = true
answer_ranged (Calls.table_refused k o) = true

-- from opened stacks, by what the tokens lead to
abbrev pub Through : List ℕ → List ℕ → List ℤ → List ℤ → List ℕ → Calls.Called → Type 0
Through ws ks us vs ps k = (g : Grammar) → HasProgram g ws → Goes g (stacks_of vs ps) ks us (outcome_of k)

pub record Ran (ws ks : List ℕ) (us vs : List ℤ) (ps : List ℕ) (vs' : List ℤ) (ps' : List ℕ) (r : Handed) : Type 0 where
  pub through : Through ws ks us vs ps (handed_is r vs' ps')
  pub clean : Clean vs' ps' r.state.registers r.state.places
  pub ranged : T (answer_ranged (answer_is r.answer))

pub record CandidateAs (ws ks : List ℕ) (us vs : List ℤ) (ps : List ℕ) (vs' : List ℤ) (ps' : List ℕ) (r : Candidate) : Type 0 where
  pub goes : (g : Grammar) → HasProgram g ws → Goes g (stacks_of vs ps) ks us (outcome (answer_is r.answer) (stacks_of vs' ps'))
  pub clean : Clean vs' ps' r.registers r.places
  pub ranged : T (answer_ranged (answer_is r.answer))

pub record EvaluatedAs (ws ks : List ℕ) (us vs : List ℤ) (ps : List ℕ) (vs' : List ℤ) (ps' : List ℕ) (r : Candidate) : Type 0 where
  pub outcome_is : (g : Grammar) → HasProgram g ws → outcome (answer_is r.answer) (stacks_of vs' ps') ≡ outcome_of (evaluated g (stacks_of vs ps) ks us)
  pub clean : LentClean vs' ps' r.registers r.places
  pub ranged : T (answer_ranged (answer_is r.answer))

-- ---- what a run holds is clear above its heights

laid_clean : {A : Type 0} {clear : A} {n : ℕ} {mem : List A} {h : ℕ} {xs : List A} → LaidIn clear n mem h xs → drop h mem ≡ replicate (length mem - h) clear
laid_clean {A} {clear} {n} {mem} {h} {xs} l =
    let e : length xs ≡ h = l.height in
    let size : n - length xs ≡ length mem - h = omega (arith, laid_size l) in
    ap₂ (λ k z. drop k z) (sym e) l.memory
    ∙ (lay_above n clear xs (replicate n clear)
    ∙ (ap (λ z. replicate (n - length xs) clear ++ z) (drop_of_length-le (replicate n clear) {i = n} (omega (arith, length-replicate n clear)))
    ∙ (append-nil (replicate (n - length xs) clear) ∙ ap (λ k. replicate k clear) size)))

held_clean : {g : Grammar} {ws : List ℕ} {lent : Lent} {vs : List ℤ} {ps : List ℕ} {run : Run} {c : Config} → Held g ws lent vs ps run c → Clean vs ps run.registers run.places
held_clean h = record { registers = laid_clean h.registers; places = laid_clean h.places; few = laid_inside h.registers; little = laid_inside h.places }

-- ---- the run of a candidate

module _ {ws : List ℕ} {vs : List ℤ} {ps : List ℕ} (b : Readable ws) (o : Opened ws vs ps) (count : ℕ) (e : count ≡ get_or ws 4 0) where
  pub start_running : Running ws vs ps (start_run count)
  start_running = record { grammar = b.grammar; lent = lent_of (stacks_of vs ps); config = opening b.grammar; held = held_opened b.grammar ws b.shown vs ps o count e }

  module _ (ks : List ℕ) (us : List ℤ) (vs₁ : List ℤ) (ps₁ : List ℕ) (x : Ended) (f : Feeds ws ks us vs ps (start_run count) vs₁ ps₁ x) where
    settled : (g : Grammar) → HasProgram g ws → Settles g ws (lent_of (stacks_of vs ps)) (feed_all g (lent_of (stacks_of vs ps)) (leaves g (tokens_from ks us)) (opening g)) vs₁ ps₁ x
    settled g s = f g (lent_of (stacks_of vs ps)) (opening g) (held_opened g ws s vs ps o count e)

    enough : (g : Grammar) → HasProgram g ws → length (opening g).registers ≤ (lent_of (stacks_of vs ps)).max_registers
    enough g s = omega (arith, opening_count g ws s, o.room, o.few)

    one : (g : Grammar) → 1 ≤ (lent_of (stacks_of vs ps)).max_places
    one g = omega (arith, o.some, o.little)

    -- a token is refused
    pub failed_ran : (w : Failed) (r : Handed) → x ≡ Err w → r ≡ fed_from (Err w) → Ran ws ks us vs ps vs₁ ps₁ r
    failed_ran w r q d =
        let at : (g : Grammar) (s : HasProgram g ws) → Settles g ws (lent_of (stacks_of vs ps)) (feed_all g (lent_of (stacks_of vs ps)) (leaves g (tokens_from ks us)) (opening g)) vs₁ ps₁ (Err w) =
        λ g s. subst (Settles g ws (lent_of (stacks_of vs ps)) (feed_all g (lent_of (stacks_of vs ps)) (leaves g (tokens_from ks us)) (opening g)) vs₁ ps₁) q (settled g s) in
        record {
          through = λ g s.
              let z = at g s in
              let k : handed_is r vs₁ ps₁ ≡ after_feed g (stacks_of vs ps) (failed z.0 (refusal_number w.refusal)) = ap (λ c. handed_is c vs₁ ps₁) d ∙ (feed_leaves_lem g ws vs ps o.few o.little vs₁ ps₁ (Err w) (failed z.0 (refusal_number w.refusal)) (z.0, refl, z.2)) in
              subst (λ y. Goes g (stacks_of vs ps) ks us (outcome_of y)) (sym k) (failing (enough g s) (one g) z.0 (refusal_number w.refusal) z.1);
          clean = subst (λ c. Clean vs₁ ps₁ c.state.registers c.state.places) (sym d) (held_clean (at b.grammar b.shown).2);
          ranged = subst (λ c. T (answer_ranged (answer_is c.answer))) (sym d) tt;
        }

    -- all tokens are read
    module _ (next : Run) (q : x ≡ Ok next) where
      stopped_at : (g : Grammar) → HasProgram g ws → Settles g ws (lent_of (stacks_of vs ps)) (feed_all g (lent_of (stacks_of vs ps)) (leaves g (tokens_from ks us)) (opening g)) vs₁ ps₁ (Ok next)
      stopped_at g s = subst (Settles g ws (lent_of (stacks_of vs ps)) (feed_all g (lent_of (stacks_of vs ps)) (leaves g (tokens_from ks us)) (opening g)) vs₁ ps₁) q (settled g s)

      pub next_running : Running ws vs₁ ps₁ next
      next_running = let z = stopped_at b.grammar b.shown in record { grammar = b.grammar; lent = lent_of (stacks_of vs ps); config = z.0; held = z.2 }

      module _ (vs₂ : List ℤ) (ps₂ : List ℕ) (y : Ended) (h : Finishes ws vs₁ ps₁ next vs₂ ps₂ y) where
        finish_settled : (g : Grammar) (s : HasProgram g ws) → Settles g ws (lent_of (stacks_of vs ps)) (finish_all g (lent_of (stacks_of vs ps)) (stopped_at g s).0) vs₂ ps₂ y
        finish_settled g s = h g (lent_of (stacks_of vs ps)) (stopped_at g s).0 (stopped_at g s).2

        pub next_ending : Ending ws vs₂ y
        next_ending = let z = stopped_at b.grammar b.shown in ended_by b.grammar ws vs ps o.few o.little z.0 z.2.few_moves b.shown.begins vs₂ ps₂ y (finish_settled b.grammar b.shown)

        heights : (w : Ended) → Settles b.grammar ws (lent_of (stacks_of vs ps)) (finish_all b.grammar (lent_of (stacks_of vs ps)) (stopped_at b.grammar b.shown).0) vs₂ ps₂ w
            → Clean vs₂ ps₂ (finished_from (get_or ws 5 0) vs₂ w).state.registers (finished_from (get_or ws 5 0) vs₂ w).state.places
        heights (Ok run) z = held_clean z.2
        heights (Err f) z = held_clean z.2

        ends_ranged : (w : Ended) → Settles b.grammar ws (lent_of (stacks_of vs ps)) (finish_all b.grammar (lent_of (stacks_of vs ps)) (stopped_at b.grammar b.shown).0) vs₂ ps₂ w
            → T (answer_ranged (after_finish_value b.grammar (stacks_of vs ps) (finish_all b.grammar (lent_of (stacks_of vs ps)) (stopped_at b.grammar b.shown).0)).answer)
        ends_ranged (Ok run) z =
            let c = stopped_at b.grammar b.shown in
            subst (λ o. T (answer_ranged (after_finish_value b.grammar (stacks_of vs ps) o).answer)) (sym z.1) (result_ranged b.grammar b.shown.formed z.0 z.2.shaped (is_finished_lem b.grammar ws vs ps o.few o.little c.0 c.2.few_moves z.0 z.1))
        ends_ranged (Err f) z = subst (λ o. T (answer_ranged (after_finish_value b.grammar (stacks_of vs ps) o).answer)) (sym z.1) tt

        pub finished_ran : (r : Handed) → r ≡ finished_from (get_or ws 5 0) vs₂ y → Ran ws ks us vs ps vs₂ ps₂ r
        finished_ran r d =
            record {
              through = λ g s.
                  let z = stopped_at g s in
                  let k : handed_is r vs₂ ps₂ ≡ after_finish_value g (stacks_of vs ps) (finish_all g (lent_of (stacks_of vs ps)) z.0) = ap (λ c. handed_is c vs₂ ps₂) d ∙ finish_leaves g ws vs ps o.few o.little z.0 z.2.few_moves vs₂ ps₂ y (finish_settled g s) in
                  subst (λ c. Goes g (stacks_of vs ps) ks us (outcome_of c)) (sym k) (ending (enough g s) (one g) z.0 z.1 z.2.shaped);
              clean = subst (λ c. Clean vs₂ ps₂ c.state.registers c.state.places) (sym d) (heights y (finish_settled b.grammar b.shown));
              ranged =
                  let z = stopped_at b.grammar b.shown in
                  let k = ap (λ c. (handed_is c vs₂ ps₂).answer) d ∙ ap (λ x. x.answer) (finish_leaves b.grammar ws vs ps o.few o.little z.0 z.2.few_moves vs₂ ps₂ y (finish_settled b.grammar b.shown)) in
                  subst (λ a. T (answer_ranged a)) (sym k) (ends_ranged y (finish_settled b.grammar b.shown));
            }

-- ---- on exactly the lent cells

module _ (ws ks : List ℕ) (us vs : List ℤ) (ps : List ℕ) (few : length vs ≤ registers_limit) (little : length ps ≤ places_limit) where
  module _ {a b : ℕ} (k : Clean vs ps a b) (r : Candidate) where
    pub narrow_as : length vs < get_or ws 4 0 → r ≡ unopened_from 31 a b → CandidateAs ws ks us vs ps vs ps r
    narrow_as l e = subst (CandidateAs ws ks us vs ps vs ps) (sym e) (record { goes = λ g s. narrow (omega (arith, opening_count g ws s)); clean = k; ranged = tt })

    pub flat_as : get_or ws 4 0 ≤ length vs → length ps ≡ 0 → r ≡ unopened_from 32 a b → CandidateAs ws ks us vs ps vs ps r
    flat_as m l e = subst (CandidateAs ws ks us vs ps vs ps) (sym e) (record { goes = λ g s. flat (omega (arith, opening_count g ws s)) (omega arith); clean = k; ranged = tt })

  module _ (room : get_or ws 4 0 ≤ length vs) (some : 1 ≤ length ps) (vs₁ : List ℤ) (ps₁ : List ℕ) (e : vs₁ ≡ replicate (length vs) mark) (d : ps₁ ≡ set (replicate (length ps) 0) 0 segment_place) where
    same_size : length vs₁ ≡ length vs
    same_size = ap length e ∙ length-replicate (length vs) mark

    same_size' : length ps₁ ≡ length ps
    same_size' = ap length d ∙ (length-set (replicate (length ps) 0) 0 segment_place ∙ length-replicate {A = ℕ} (length ps) 0)

    pub opened_as_lem : Opened ws vs₁ ps₁
    opened_as_lem =
        record {
          registers = e ∙ ap (λ n. replicate n mark) (sym same_size);
          places = d ∙ ap (λ n. set (replicate {A = ℕ} n 0) 0 segment_place) (sym same_size');
          few = omega (arith, same_size);
          little = omega (arith, same_size');
          room = omega (arith, same_size);
          some = omega (arith, same_size');
        }

    pub left_as : (vs' : List ℤ) (ps' : List ℕ) (c : Handed) (r : Candidate) → Ran ws ks us vs₁ ps₁ vs' ps' c → r ≡ left_from c → CandidateAs ws ks us vs ps vs' ps' r
    left_as vs' ps' c r z q =
        subst (CandidateAs ws ks us vs ps vs' ps') (sym q)
        (record {
          goes = λ g s.
              goes_over g (opening g) (stacks_of vs ps) (opening_within g ws s vs ps few little room some) ks us (roomy g ws s vs ps few little room some) (placed g ws s vs ps few little room some)
              (subst (λ m. Goes g m ks us (outcome_of (handed_is c vs' ps'))) (opened_lays g ws s vs ps few little room some vs₁ ps₁ e d) (z.through g s));
          clean = z.clean;
          ranged = z.ranged;
        })

-- ---- on stacks of any length

abbrev uncut_outcome : ℕ → ℕ → List ℤ → List ℕ → Outcome → Outcome
uncut_outcome n k vs ps x = outcome x.answer (stacks_of (x.stacks.registers ++ drop n vs) (x.stacks.places ++ drop k ps))

module _ (g : Grammar) (vs : List ℤ) (ps : List ℕ) (ks : List ℕ) (us : List ℤ) where
  abbrev n : ℕ
  n = (lent_of (stacks_of vs ps)).max_registers

  abbrev k : ℕ
  k = (lent_of (stacks_of vs ps)).max_places

  abbrev cells : Stacks
  cells = stacks_of (take (lent_of (stacks_of vs ps)).max_registers vs) (take (lent_of (stacks_of vs ps)).max_places ps)

  same_lent : lent_of cells ≡ lent_of (stacks_of vs ps)
  same_lent = lent_same g vs ps

  feeds_same : (o : Settled) → feed_all g (lent_of cells) (leaves g (tokens_from ks us)) (opening g) ≡ o → feed_all g (lent_of (stacks_of vs ps)) (leaves g (tokens_from ks us)) (opening g) ≡ o
  feeds_same o q = ap (λ l. feed_all g l (leaves g (tokens_from ks us)) (opening g)) (sym same_lent) ∙ q

  goes_cut : {x : Outcome} → Goes g cells ks us x → Goes g (stacks_of vs ps) ks us (uncut_outcome n k vs ps x)
  goes_cut (narrow l) = subst (Goes g (stacks_of vs ps) ks us) (ap (outcome (refused 31 0)) (sym (put_back g vs ps))) (narrow (subst (λ z. z.max_registers < length (opening g).registers) same_lent l))
  goes_cut (flat r l) = subst (Goes g (stacks_of vs ps) ks us) (ap (outcome (refused 32 0)) (sym (put_back g vs ps))) (flat (subst (λ z. length (opening g).registers ≤ z.max_registers) same_lent r) (subst (λ z. z.max_places < 1) same_lent l))
  goes_cut (failing r p c j q) =
      subst (Goes g (stacks_of vs ps) ks us) (ap outcome_of (sym (fed_cut g vs ps (failed c j))))
      (failing (subst (λ z. length (opening g).registers ≤ z.max_registers) same_lent r) (subst (λ z. 1 ≤ z.max_places) same_lent p) c j (feeds_same (failed c j) q))
  goes_cut (ending r p c q s) =
      subst (Goes g (stacks_of vs ps) ks us) (ap outcome_of (sym (ap (λ l. uncut n k vs ps (after_finish_value g cells (finish_all g l c))) same_lent ∙ finished_cut g vs ps (finish_all g (lent_of (stacks_of vs ps)) c))))
      (ending (subst (λ z. length (opening g).registers ≤ z.max_registers) same_lent r) (subst (λ z. 1 ≤ z.max_places) same_lent p) c (feeds_same (stopped c) q) s)

-- the lent cells of what is put back
taken_back : {A : Type 0} (cap : ℕ) (xs ys : List A) → length ys ≡ min (length xs) cap → take (min (length (ys ++ drop (min (length xs) cap) xs)) cap) (ys ++ drop (min (length xs) cap) xs) ≡ ys
taken_back cap xs ys e =
    let s : min (length (ys ++ drop (min (length xs) cap) xs)) cap ≡ length ys = omega (arith, length-append ys (drop (min (length xs) cap) xs), length-drop (min (length xs) cap) xs) in
    ap (λ i. take i (ys ++ drop (min (length xs) cap) xs)) s ∙ take_at ys (drop (min (length xs) cap) xs) (length ys) refl

module _ (ws ks : List ℕ) (us vs : List ℤ) (ps : List ℕ) (even : length ks ≡ length us) where
  whole' : (vs' : List ℤ) (ps' : List ℕ) (r : Candidate) → length vs' ≡ min (length vs) registers_limit → length ps' ≡ min (length ps) places_limit
      → CandidateAs ws ks us (take (min (length vs) registers_limit) vs) (take (min (length ps) places_limit) ps) vs' ps' r → EvaluatedAs ws ks us vs ps (vs' ++ drop (min (length vs) registers_limit) vs) (ps' ++ drop (min (length ps) places_limit) ps) r
  whole' vs' ps' r a b c =
      record {
        outcome_is = λ g s. goes_evaluated g s.formed (stacks_of vs ps) ks us even (goes_cut g vs ps ks us (c.goes g s));
        clean = subst₂ (λ x y. Clean x y r.registers r.places) (sym (taken_back registers_limit vs vs' a)) (sym (taken_back places_limit ps ps' b)) c.clean;
        ranged = c.ranged;
      }

  pub evaluated_as : (i j : ℕ) → i ≡ min (length vs) registers_limit → j ≡ min (length ps) places_limit → (vs' : List ℤ) (ps' : List ℕ) (r : Candidate) → length vs' ≡ i → length ps' ≡ j
      → CandidateAs ws ks us (take i vs) (take j ps) vs' ps' r → EvaluatedAs ws ks us vs ps (vs' ++ drop i vs) (ps' ++ drop j ps) r
  evaluated_as i j e d vs' ps' r a b c =
      subst₂ (λ x y. EvaluatedAs ws ks us vs ps (vs' ++ drop x vs) (ps' ++ drop y ps) r) (sym e) (sym d)
      (whole' vs' ps' r (a ∙ e) (b ∙ d) (subst₂ (λ x y. CandidateAs ws ks us (take x vs) (take y ps) vs' ps' r) e d c))
