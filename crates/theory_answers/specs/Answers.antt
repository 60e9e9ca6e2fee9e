-- Demand 1: each call, for arbitrary bytes, areas, records, stacks and tokens, gives what it is for, or exactly one numbered refusal of 01.
use Rattle.std.specs.Prelude.{ℕ, ◌≤◌, ◌≡◌, refl, ◌⊎◌, Bool, true, false, List, [], reverse, length, take, T, eqb, ltb, ℤ}
use Rattle.std.proofs.Common.{arith, sym, ap, ◌∙◌, subst, inl, inr, ne_eqb, eq-eqb}
use Rattle.meaning.specs.Grammar.{Grammar, Leaf, leaves}
use Rattle.meaning.specs.Rules.{WellFormed}
use Rattle.meaning.specs.Table.{State, Read, well_formed, malformed, read_table, grammar_of}
use Rattle.meaning.specs.Judgement.{Verdict, accepted, rejected}
use Rattle.meaning.specs.Decide.{judge}
use Rattle.meaning.specs.Machine.{Coming, comes, ends, Config, Settled, stopped, failed, waits, opening, feed_all, finish_all, tokens_limit, moves_limit}
use Rattle.meaning.specs.Base.{all}
use Rattle.meaning.specs.Tree.{is_leaf_of}
use Rattle.meaning.specs.Walk.{nothing}
use Rattle.meaning.specs.Calls.{Status, running, waiting, closed, Kind, outer, inner, Gate, admitted, turned_back, gate, is_open}
use Rattle.meaning.specs.Calls.{Record, Stacks, Called, Answer, closed_record, more, refused, table_refused, lent_of, record_of, lay_all, config_of, stacks_fit, as_brought, open_of, after_feed, after_finish_value, when_fit, when_even, tokens_from}
use Rattle.meaning.specs.Fit.{Fit}
use Rattle.meaning.specs.PublicCalls.{Checked, usable, unusable, checked_as, check, Call, feed, finish, call_of, area_length, written, Effect, effect, opens, performs}
use Rattle.meaning_statements.specs.CallStatements.{is_table_number, opening_answer, engine_answer, is_forty, call_answer, AlwaysAnswers, Lendable, Even, Met, UnevenLists, MovesTo, CallsMove, EmptyFeed, LimitsOnly, HandlesAlways}
use Rattle.theory_base.specs.Members.{T→true, or_left}
use Rattle.theory_base.specs.Feeds.{leaves_of}
use Rattle.theory_table.specs.ReadWellFormed.{read_well_formed}
use Rattle.theory_table.specs.AcceptedTable.{accepted_well_formed}
use Rattle.theory_answers.specs.FitTest.{fit_exactly}
use Rattle.theory_answers.specs.ShapeMoves.{ShapedAt, shape_move}
use Rattle.theory_answers.specs.ShapeMemory.{fit_shaped, fit_waits, at_stop, result_ranged}
use Rattle.theory_answers.specs.Handling.{handles}
use Rattle.theory_answers.specs.Memory.{Within, read_back, laid_fits, fit_within, same_record, same_stacks}
use Rattle.theory_answers.specs.Bounds.{Blocks, at_limit, not_expected, condition_false, out_of_range, no_register, no_place, within_move}
use Rattle.theory_answers.specs.Runs.{makes_keep, makes_keep_leaves, Led, Leads, Anything, with_nothing, with_end, FeedBlocks, many_tokens, unknown_token, blocked_move, Fed, fed, Finished, finished}
use Rattle.theory_answers.specs.TableNumbers.{CheckedRight, check_number}
use Rattle.theory_answers.specs.Called.{called_is}

-- ---- the table of a call

check_reads : (bs : List ℕ) (s : State) → check bs ≡ usable s → read_table bs ≡ well_formed s
check_reads bs s h = go (read_table bs) refl h
  where
    by : (u : State) (v : Verdict) → checked_as u v ≡ usable s → u ≡ s
    by u accepted h = cc
    by u (rejected n o) h = absurd (let z : ◌≡◌ {A = ℕ} 0 1 = cc in omega arith)

    go : (x : Read) → read_table bs ≡ x → elim x as (λ z. Checked) [ malformed n o ↦ unusable n o | well_formed u ↦ checked_as u (judge u) ] ≡ usable s → read_table bs ≡ well_formed s
    go (malformed n o) e h = absurd (let z : ◌≡◌ {A = ℕ} 0 1 = cc in omega arith)
    go (well_formed u) e h = e ∙ ap well_formed (by u (judge u) h)

pub checked_formed : (bs : List ℕ) (s : State) → check bs ≡ usable s → WellFormed (grammar_of s)
checked_formed bs s h = read_well_formed bs s (check_reads bs s h)

-- ---- the moves of a call on what fits

abbrev pub made : Grammar → Record → Stacks → Call → Called
made g r m (feed ks vs) = when_even (eqb (length ks) (length vs)) r m (after_feed g m (feed_all g (lent_of m) (leaves g (tokens_from ks vs)) (config_of g r m)))
made g r m finish = after_finish_value g m (finish_all g (lent_of m) (config_of g r m))

pub call_is_lem : (g : Grammar) (r : Record) (m : Stacks) (c : Call) → call_of g r m c ≡ when_fit g r m (made g r m c)
call_is_lem g r m (feed ks vs) = refl
call_is_lem g r m finish = refl

-- whatever holds of each way a call may go holds of the call
module _ (Q : Answer → Record → Stacks → Type 0) (program : Grammar → List ℕ) (bs area : List ℕ) (r : Record) (m : Stacks) (c : Call) where
  abbrev Holds : Called → Type 0
  Holds k = Q k.answer k.state k.stacks

  when_fit_lem : (g : Grammar) (k : Called) → Q (refused 33 0) r m → Q (refused 40 0) r m → Q (refused 34 0) r m → (Fit g r m → Holds k) → Holds (when_fit g r m k)
  when_fit_lem g k a d b h = go r.status r.kind (stacks_fit g r m) refl
    where
      go : (s : Status) (u : Kind) (b : Bool) → stacks_fit g r m ≡ b → Holds (elim (gate 34 s u) as (λ z. Called) [ turned_back n ↦ as_brought (refused n 0) r m | admitted ↦ elim b as (λ z. Called) [ false ↦ as_brought (refused 34 0) r m | true ↦ k ] ])
      go closed u f e = a
      go waiting outer f e = d
      go waiting (inner x y) f e = b
      go running (inner x y) f e = b
      go running outer false e = b
      go running outer true e = h ((fit_exactly g r m).0 (rw e tt))

  abbrev Leaves : Effect → Type 0
  Leaves e = Q e.answer e.state e.stacks

  pub by_cases : Q (refused 30 0) r m → ((n o : ℕ) → T (is_table_number n) → Q (table_refused n o) r m) → Q (refused 33 0) r m → Q (refused 40 0) r m → Q (refused 34 0) r m
      → ((s : State) → check bs ≡ usable s → Fit (grammar_of s) r m → Holds (made (grammar_of s) r m c))
      → Leaves (performs program bs area r m c)
  by_cases short turned over33 over40 unfit h = go (ltb (length area) area_length) (check bs) refl (check_number bs)
    where
      go : (b : Bool) (k : Checked) → check bs ≡ k → CheckedRight k → Leaves (elim b as (λ z. Effect) [
        | true ↦ effect (as_brought (refused 30 0) r m) area
        | false ↦ elim k as (λ z. Effect) [ unusable n o ↦ effect (as_brought (table_refused n o) r m) area | usable s ↦ effect (call_of (grammar_of s) r m c) (written (program (grammar_of s)) area) ]
      ])
      go true k e t = short
      go false (unusable n o) e t = turned n o t
      go false (usable s) e t = subst Holds (sym (call_is_lem (grammar_of s) r m c)) (when_fit_lem (grammar_of s) (made (grammar_of s) r m c) over33 over40 unfit (h s e))

-- ---- every configuration that the moves of a call lead to

module _ (g : Grammar) (wf : WellFormed g) (r : Record) (m : Stacks) (f : Fit g r m) where
  pub fits_shaped : ShapedAt g (config_of g r m)
  fits_shaped = fit_shaped g wf (reverse (take r.place_height m.places)) (reverse (take r.register_height m.registers)) f.stands

  fits_wait : T (waits (config_of g r m).frames)
  fits_wait = fit_waits g wf (reverse (take r.place_height m.places)) (reverse (take r.register_height m.registers)) f.stands

  start : Leads g (lent_of m) Anything [] (config_of g r m) [] (config_of g r m)
  start = record { moves = []; made = λ us b. nothing; few = f.moves }

  led_shaped : (us vs : List Leaf) (e : Config) → T (all (is_leaf_of g) us) → Led g (lent_of m) us (config_of g r m) vs e → ShapedAt g e
  led_shaped us vs e t l = makes_keep_leaves g (lent_of m) (ShapedAt g) (λ k u a b s h. shape_move g wf (lent_of m) k u a b s h) t l.made fits_shaped

  pub led_within : (us vs : List Leaf) (e : Config) → Led g (lent_of m) us (config_of g r m) vs e → Within (lent_of m) e
  led_within us vs e l = makes_keep g (lent_of m) (Within (lent_of m)) (λ k a b s h. within_move g (lent_of m) k a b s h) l.made (fit_within g wf r m f)

  -- what a feed, and a finish, leads to, as plain moves
  pub fed_led : (us vs : List Leaf) (e : Config) → Leads g (lent_of m) Anything us (config_of g r m) vs e → Led g (lent_of m) us (config_of g r m) vs e
  fed_led us vs e l = with_nothing g (lent_of m) us (config_of g r m) vs e (with_end g (lent_of m) us (config_of g r m) vs e l)

  pub feed_leads : (ts : List Leaf) → Fed g (lent_of m) (config_of g r m) ts (feed_all g (lent_of m) ts (config_of g r m))
  feed_leads ts = fed g (lent_of m) (config_of g r m) ts [] (config_of g r m) start fits_wait f.tokens

  pub finish_leads : Finished g (lent_of m) (config_of g r m) [] r.tokens (finish_all g (lent_of m) (config_of g r m))
  finish_leads = finished g (lent_of m) (config_of g r m) [] (config_of g r m) start

-- ---- 01's numbers

token_number : (t : Leaf) (e : Config) {k : ℕ} → Blocks (comes t) e k → (ks : List ℕ) (vs : List ℤ) (n : ℕ) → T (engine_answer (feed ks vs) (refused k n))
token_number t e (at_limit l) ks vs n = tt
token_number t e not_expected ks vs n = tt
token_number t e condition_false ks vs n = tt
token_number t e out_of_range ks vs n = tt
token_number t e no_register ks vs n = tt
token_number t e no_place ks vs n = tt

feed_number : (e : Config) {k : ℕ} → FeedBlocks e k → (ks : List ℕ) (vs : List ℤ) (n : ℕ) → T (engine_answer (feed ks vs) (refused k n))
feed_number e (many_tokens l) ks vs n = tt
feed_number e unknown_token ks vs n = tt
feed_number e (blocked_move t b) ks vs n = token_number t e b ks vs n

end_number_lem : (e : Config) {k : ℕ} → Blocks ends e k → (n : ℕ) → T (engine_answer finish (refused k n))
end_number_lem e (at_limit l) n = tt
end_number_lem e not_expected n = tt
end_number_lem e condition_false n = tt
end_number_lem e out_of_range n = tt
end_number_lem e no_register n = tt
end_number_lem e no_place n = tt

-- before the moves
early : (c : Call) → T (engine_answer c (refused 30 0)) × T (engine_answer c (refused 33 0)) × T (call_answer c (refused 40 0)) × T (engine_answer c (refused 34 0))
early (feed ks vs) = (tt, tt, tt, tt)
early finish = (tt, tt, tt, tt)

turned_back_lem : (c : Call) (n o : ℕ) → T (is_table_number n) → T (engine_answer c (table_refused n o))
turned_back_lem (feed ks vs) n o t = t
turned_back_lem finish n o t = t

pub fit_answers : (g : Grammar) → WellFormed g → (r : Record) (m : Stacks) → Fit g r m → (c : Call) → T (engine_answer c (made g r m c).answer)
fit_answers g wf r m f (feed ks vs) = even (eqb (length ks) (length vs)) (feed_all g (lent_of m) us (config_of g r m)) (feed_leads g wf r m f us)
  where
    us : List Leaf
    us = leaves g (tokens_from ks vs)

    go : (o : Settled) → Fed g (lent_of m) (config_of g r m) us o → T (engine_answer (feed ks vs) (after_feed g m o).answer)
    go (stopped e) v = tt
    go (failed e k) v = feed_number e v.3 ks vs e.tokens

    even : (b : Bool) (o : Settled) → Fed g (lent_of m) (config_of g r m) us o → T (engine_answer (feed ks vs) (when_even b r m (after_feed g m o)).answer)
    even true o v = go o v
    even false o v = tt
fit_answers g wf r m f finish = go (finish_all g (lent_of m) (config_of g r m)) (finish_leads g wf r m f)
  where
    go : (o : Settled) → Finished g (lent_of m) (config_of g r m) [] r.tokens o → T (engine_answer finish (after_finish_value g m o).answer)
    go (stopped e) v = result_ranged g wf e (led_shaped g wf r m f [] [] e tt (with_nothing g (lent_of m) [] (config_of g r m) [] e v.0)) v.1
    go (failed e k) v = end_number_lem e v.1 e.tokens

opens_right : (program : Grammar → List ℕ) (bs area : List ℕ) (m : Stacks) → T (opening_answer (opens program bs area m).answer)
opens_right program bs area m = go (ltb (length area) area_length) (check bs) (check_number bs)
  where
    opened : (a b : Bool) (g : Grammar) → T (opening_answer (elim a as (λ z. Called) [
      | true ↦ as_brought (refused 31 0) closed_record m
      | false ↦ elim b as (λ z. Called) [ true ↦ as_brought (refused 32 0) closed_record m | false ↦ record { answer = more 0; state = record_of true (opening g); stacks = lay_all g (opening g) m } ]
    ]).answer)
    opened true b g = tt
    opened false true g = tt
    opened false false g = tt

    go : (b : Bool) (k : Checked) → CheckedRight k → T (opening_answer (elim b as (λ z. Effect) [
      | true ↦ effect (as_brought (refused 30 0) closed_record m) area
      | false ↦ elim k as (λ z. Effect) [ unusable n o ↦ effect (as_brought (table_refused n o) closed_record m) area | usable s ↦ effect (open_of (grammar_of s) m) (written (program (grammar_of s)) area) ]
    ]).answer)
    go true k t = tt
    go false (unusable n o) t = t
    go false (usable s) t = opened (ltb (lent_of m).max_registers (length (opening (grammar_of s)).registers)) (ltb (lent_of m).max_places 1) (grammar_of s)

pub always_answers : AlwaysAnswers
always_answers = (opens_right, performs_right)
  where
    either : (c : Call) (a : Answer) → T (engine_answer c a) → T (call_answer c a)
    either c a t = or_left (engine_answer c a) (is_forty a) t

    performs_right : (program : Grammar → List ℕ) (bs area : List ℕ) (r : Record) (m : Stacks) (c : Call) → T (call_answer c (performs program bs area r m c).answer)
    performs_right program bs area r m c = by_cases (λ a u v. T (call_answer c a)) program bs area r m c
        (either c (refused 30 0) (early c).0)
        (λ n o t. either c (table_refused n o) (turned_back_lem c n o t))
        (either c (refused 33 0) (early c).1)
        (early c).2
        (either c (refused 34 0) (early c).3)
        (λ s e f. either c (made (grammar_of s) r m c).answer (fit_answers (grammar_of s) (checked_formed bs s e) r m f c))

-- ---- 35

refused_is : (a b c d : ℕ) → refused a b ≡ refused c d → a ≡ c
refused_is a b c d e = cc

move_limit : (l : Coming) (e : Config) {k : ℕ} → Blocks l e k → k ≡ 35 → moves_limit ≤ e.moves
move_limit l e (at_limit m) q = m
move_limit (comes t) e not_expected q = absurd (omega arith)
move_limit ends e not_expected q = absurd (omega arith)
move_limit l e condition_false q = absurd (omega arith)
move_limit l e out_of_range q = absurd (omega arith)
move_limit l e no_register q = absurd (omega arith)
move_limit l e no_place q = absurd (omega arith)

feed_limit : (e : Config) {k : ℕ} → FeedBlocks e k → e.moves ≤ moves_limit → k ≡ 35 → (e.tokens ≡ tokens_limit) ⊎ (e.moves ≡ moves_limit)
feed_limit e (many_tokens l) m q = inl l
feed_limit e unknown_token m q = absurd (omega arith)
feed_limit e (blocked_move t b) m q = inr (omega (arith, move_limit (comes t) e b q))

abbrev AtLimit : ℕ → Answer → Record → Type 0
AtLimit n a r = a ≡ refused 35 n → (r.tokens ≡ tokens_limit) ⊎ (r.moves ≡ moves_limit)

fit_limits : (g : Grammar) → WellFormed g → (r : Record) (m : Stacks) → Fit g r m → (c : Call) (n : ℕ) → AtLimit n (made g r m c).answer (made g r m c).state
fit_limits g wf r m f (feed ks vs) n = even (eqb (length ks) (length vs)) (feed_all g (lent_of m) us (config_of g r m)) (feed_leads g wf r m f us)
  where
    us : List Leaf
    us = leaves g (tokens_from ks vs)

    go : (o : Settled) → Fed g (lent_of m) (config_of g r m) us o → AtLimit n (after_feed g m o).answer (after_feed g m o).state
    go (stopped e) v q = absurd (let z : ◌≡◌ {A = ℕ} 0 1 = cc in omega arith)
    go (failed e k) v q = feed_limit e v.3 v.1.few (refused_is k e.tokens 35 n q)

    even : (b : Bool) (o : Settled) → Fed g (lent_of m) (config_of g r m) us o → AtLimit n (when_even b r m (after_feed g m o)).answer (when_even b r m (after_feed g m o)).state
    even true o v q = go o v q
    even false o v q = absurd (omega (arith, refused_is 38 0 35 n q))
fit_limits g wf r m f finish n = go (finish_all g (lent_of m) (config_of g r m)) (finish_leads g wf r m f)
  where
    go : (o : Settled) → Finished g (lent_of m) (config_of g r m) [] r.tokens o → AtLimit n (after_finish_value g m o).answer (after_finish_value g m o).state
    go (stopped e) v q = absurd (let z : ◌≡◌ {A = ℕ} 0 1 = cc in omega arith)
    go (failed e k) v q = inr (omega (arith, v.0.few, move_limit ends e v.1 (refused_is k e.tokens 35 n q)))

pub limits_only : LimitsOnly
limits_only program bs area r m c n = by_cases (λ a u v. AtLimit n a u) program bs area r m c
    (λ q. absurd (omega (arith, refused_is 30 0 35 n q)))
    (λ k o t q. absurd (let z : ◌≡◌ {A = ℕ} 0 1 = cc in omega arith))
    (λ q. absurd (omega (arith, refused_is 33 0 35 n q)))
    (λ q. absurd (omega (arith, refused_is 40 0 35 n q)))
    (λ q. absurd (omega (arith, refused_is 34 0 35 n q)))
    (λ s e f. fit_limits (grammar_of s) (checked_formed bs s e) r m f c n)

-- ---- calls that are not turned back before their moves

pub when_met : (g : Grammar) (r : Record) (m : Stacks) (k : Called) → is_open r ≡ true → Fit g r m → when_fit g r m k ≡ k
when_met g r m k o f = go (gate 34 r.status r.kind) (stacks_fit g r m) o (T→true (stacks_fit g r m) ((fit_exactly g r m).1 f))
  where
    go : (a : Gate) (b : Bool) → elim a as (λ z. Bool) [ admitted ↦ true | turned_back n ↦ false ] ≡ true → b ≡ true → (elim a as (λ z. Called) [ turned_back n ↦ as_brought (refused n 0) r m | admitted ↦ elim b as (λ z. Called) [ false ↦ as_brought (refused 34 0) r m | true ↦ k ] ]) ≡ k
    go admitted true x y = refl
    go (turned_back n) b x y = absurd (subst T (sym x) tt)
    go admitted false x y = absurd (subst T (sym y) tt)

module _ (program : Grammar → List ℕ) (bs area : List ℕ) (g : Grammar) (r : Record) (m : Stacks) (met : Met bs g area r m) where
  pub performs_met : (c : Call) → performs program bs area r m c ≡ effect (made g r m c) (written (program g) area)
  performs_met c = called_is program bs g met.accepts area met.long r m (λ h. call_of h r m c) ∙ ap (λ k. effect k (written (program g) area)) (call_is_lem g r m c ∙ when_met g r m (made g r m c) met.is_open met.fits)

  wf : WellFormed g
  wf = accepted_well_formed bs g met.accepts

  abbrev To : Call → Effect → Type 0
  To c e = MovesTo program area g m (config_of g r m) c e

  fed_to : (ks : List ℕ) (vs : List ℤ) → Lendable (feed ks vs) → (o : Settled) → Fed g (lent_of m) (config_of g r m) (leaves g (tokens_from ks vs)) o → To (feed ks vs) (effect (after_feed g m o) (written (program g) area))
  fed_to ks vs t (stopped e) v =
      let us : List Leaf = leaves g (tokens_from ks vs) in
      let l = fed_led g wf r m met.fits us [] e v.0 in
      let s = at_stop g wf e.frames e.registers (led_shaped g wf r m met.fits us [] e (leaves_of g ks vs t) l) v.1 in
      let w = led_within g wf r m met.fits us [] e l in
      record { moves = v.0.moves; left = []; to = e; made = v.0.made; few = v.2; says = (refl, v.1, refl); is_record = refl; is_stacks = refl; is_area = refl; read_back_value = λ z. (laid_fits g true e m s w v.2, read_back g true e m s w) }
  fed_to ks vs t (failed e k) v = record { moves = v.1.moves; left = v.0; to = e; made = v.1.made; few = v.2; says = (refl, v.4); is_record = refl; is_stacks = refl; is_area = refl; read_back_value = λ z. absurd (subst T (sym z) tt) }

  finished_to : (o : Settled) → Finished g (lent_of m) (config_of g r m) [] r.tokens o → To finish (effect (after_finish_value g m o) (written (program g) area))
  finished_to (stopped e) v = record { moves = v.0.moves; left = []; to = e; made = v.0.made; few = omega (arith, v.2, met.fits.tokens); says = (v.1, refl, refl); is_record = refl; is_stacks = refl; is_area = refl; read_back_value = λ z. absurd (subst T (sym z) tt) }
  finished_to (failed e k) v = record { moves = v.0.moves; left = []; to = e; made = v.0.made; few = omega (arith, v.3, met.fits.tokens); says = (refl, v.2); is_record = refl; is_stacks = refl; is_area = refl; read_back_value = λ z. absurd (subst T (sym z) tt) }

  made_to : (c : Call) → Lendable c → Even c → To c (effect (made g r m c) (written (program g) area))
  made_to (feed ks vs) t e =
      let us : List Leaf = leaves g (tokens_from ks vs) in
      let k : Called = after_feed g m (feed_all g (lent_of m) us (config_of g r m)) in
      subst (λ b. To (feed ks vs) (effect (when_even b r m k) (written (program g) area))) (sym (eq-eqb (length ks) (length vs) e)) (fed_to ks vs t (feed_all g (lent_of m) us (config_of g r m)) (feed_leads g wf r m met.fits us))
  made_to finish t e = finished_to (finish_all g (lent_of m) (config_of g r m)) (finish_leads g wf r m met.fits)

pub calls_move : CallsMove
calls_move program bs area g r m c t e met = subst (λ e. MovesTo program area g m (config_of g r m) c e) (sym (performs_met program bs area g r m met c)) (made_to program bs area g r m met c t e)

pub uneven_lists : UnevenLists
uneven_lists program bs area g r m (feed ks vs) met u =
    performs_met program bs area g r m met (feed ks vs)
    ∙ ap (λ b. effect (when_even b r m (after_feed g m (feed_all g (lent_of m) (leaves g (tokens_from ks vs)) (config_of g r m)))) (written (program g) area)) (ne_eqb (length ks) (length vs) u)
uneven_lists program bs area g r m finish met u = absurd (u tt)

pub empty_feed : EmptyFeed
empty_feed program bs area g r m met =
    let f : WellFormed g = accepted_well_formed bs g met.accepts in
    let state : record_of true (config_of g r m) ≡ r = same_record g f r m met.fits met.is_open in
    let stacks : lay_all g (config_of g r m) m ≡ m = same_stacks g f r m met.fits in
    performs_met program bs area g r m met (feed [] []) ∙ (λ i. record { answer = more r.moves; state = state i; stacks = stacks i; area = written (program g) area })

-- ---- what fits is handled, whatever tokens come

pub handles_always : HandlesAlways
handles_always bs g r m a f ws us vs c t mk p i is fs e =
    let wf : WellFormed g = accepted_well_formed bs g a in
    handles g wf c (makes_keep_leaves g (lent_of m) (ShapedAt g) (λ l u x y s h. shape_move g wf (lent_of m) l u x y s h) t mk (fits_shaped g wf r m f)) p i is fs e
