-- One turn of the loop over the moves: what is left after it, and what it answers.
use Rattle.std.specs.Prelude.{ℕ, suc, ◌+◌, ◌-◌, ◌≤◌, ◌<◌, ◌≡◌, refl, ◌⊎◌, Bool, true, false, ◌&&◌, List, length, get_or, drop, T, eqb, ltb, leb, ℤ, pos, Ok, Err}
use Rattle.std.proofs.Common.{arith, sym, ap, ap₂, ◌∙◌, subst, subst₂, inl, inr, drop_of_length-le, lt-ltb, le-ltb, leb-true, leb-false, eq-eqb, ne_eqb}
use Rattle.std.proofs.Math.Bool.{and-false}
use Rattle.meaning.specs.Sets.{end_number}
use Rattle.meaning.specs.Grammar.{Grammar, Leaf}
use Rattle.meaning.specs.Rules.{four_bytes}
use Rattle.meaning.specs.Calls.{tokens_from}
use Rattle.meaning.specs.Machine.{Config, Lent, Coming, comes, ends, as_look, moved, blocked, counted, next, next_of, predict, waits, is_done, is_finished, Settled, stopped, failed, advance, advance_from, moves_limit, unexpected}
use Rattle.theory_base.specs.Steps.{advance_stopped, advance_failed, advance_moved}
use Rattle.theory_answers.specs.Bounds.{Counts, counts, look_free, no_read, Blocks, at_limit, not_expected, condition_false, out_of_range, no_register, no_place}
use Rattle.theory_answers.specs.ShapeMoves.{IsAhead}
use Rattle.meaning.specs.Program.{read_operation, predict_operation, nothing_operation}
use Rattle.theory_program.specs.Parts.{head_operation, head_operand}
use Rattle.run_looking.specs.Judging.{looks_ahead, judged_by, judged_of, taken_of, value_at}
use Rattle.run_moves.specs.declared.Run.{Run}
use Rattle.refusals.specs.declared.Refusal.{Refusal}
use Rattle.refusals.specs.declared.Refusal.TheVariants.{UnexpectedToken, LimitReached, UnknownToken}
use Rattle.refusals.specs.Numbers.{refusal_number}
use Rattle.run_moves.specs.declared.Halt.{Halt}
use Rattle.run_moves.specs.declared.Halt.TheVariants.{Pause, Refused}
use Rattle.run_moves.specs.Held.{Held, Step, Stage, halting, Made, Answers, hand_nonterminal}
use Rattle.run_moves.specs.Passing.{look_if, look_of, coming_of}
use Rattle.run_next_token.specs.Operations.{Running, waits_is, finished_is, blocked_over}
use Rattle.run_next_token.specs.Coming.{comes_if, comes_to, comes_is, comes_ahead, chosen, going_on, take_looks, tokens_few, tokens_turn}

-- ---- what ends the moves

-- what they settle in, by what ends them: a pause is a stop, and a refusal fails by its number
abbrev pub SettlesBy : Grammar → List ℕ → Lent → Settled → List ℤ → List ℕ → Run → Halt → Type 0
SettlesBy g ws lent o m ps run Pause = (d : Config) × (o ≡ stopped d) × Held g ws lent m ps run d
SettlesBy g ws lent o m ps run (Refused r) = (d : Config) × (o ≡ failed d (refusal_number r)) × Held g ws lent m ps run d

-- ---- what is left

-- the first i tokens are read, in configuration d: the next one is taken and its moves are to be made, or those after the last read; o is what all settles in
pub data Left (bound most : ℕ) (us : List ℕ) (vs : List ℤ) (g : Grammar) (lent : Lent) (i : ℕ) (d : Config) (o : Settled) : Type 0 where
  ahead : Ok tt ≡ judged_of bound most us i d.tokens → o ≡ take_looks bound most g lent (drop i (tokens_from us vs)) d → Left bound most us vs g lent i d o
  behind : (u : Leaf) (n : ℕ) → n < d.tokens → o ≡ going_on (advance (moves_limit - d.moves) g lent (comes u) n d) (take_looks bound most g lent (drop i (tokens_from us vs))) → Left bound most us vs g lent i d o

module _ (bound most : ℕ) (us : List ℕ) (vs : List ℤ) (even : length us ≡ length vs) (g : Grammar) (lent : Lent) (i : ℕ) where
  abbrev after : Config → Settled
  after = take_looks bound most g lent (drop (suc i) (tokens_from us vs))

  -- the token at hand
  abbrev here : Coming
  here = comes_to g (get_or us i 0) (get_or vs i (pos 0))

  chosen_of : i < length us → (d : Config) (a b : Bool) → ltb most d.tokens ≡ a → ltb (get_or us i 0) bound ≡ b → take_looks bound most g lent (drop i (tokens_from us vs)) d ≡ going_on (chosen g lent (get_or us i 0) (get_or vs i (pos 0)) d a b) after
  chosen_of l d a b x y = ap (λ ts. take_looks bound most g lent ts d) (tokens_turn us vs i even l) ∙ ap₂ (λ p q. going_on (chosen g lent (get_or us i 0) (get_or vs i (pos 0)) d p q) after) x y

  -- its moves come next
  taken : (d : Config) → Ok tt ≡ judged_of bound most us i d.tokens → take_looks bound most g lent (drop i (tokens_from us vs)) d ≡ going_on (advance_from g lent here d) after
  taken d j =
      let t = taken_of bound most us i d.tokens j in
      chosen_of t.0 d false true (le-ltb most d.tokens t.1) (lt-ltb (get_or us i 0) bound t.2)

  -- the token at hand and those behind it
  abbrev rest : Config → Settled
  rest = take_looks bound most g lent (drop i (tokens_from us vs))

  -- it is not taken
  pub refused : {ws : List ℕ} {m : List ℤ} {ps : List ℕ} {run : Run} (d : Config) (k : Halt) → Held g ws lent m ps run d → Err k ≡ judged_of bound most us i d.tokens → SettlesBy g ws lent (take_looks bound most g lent (drop i (tokens_from us vs)) d) m ps run k
  refused {ws} {m} {ps} {run} d k h = go (leb (length us) i) (ltb most d.tokens) (ltb (get_or us i 0) bound) refl refl refl
    where
      go : (a b c : Bool) → leb (length us) i ≡ a → ltb most d.tokens ≡ b → ltb (get_or us i 0) bound ≡ c → Err k ≡ judged_by a b c → SettlesBy g ws lent (rest d) m ps run k
      go true b c x y t e =
          let is : Pause ≡ k = cc in
          subst (SettlesBy g ws lent (rest d) m ps run) is (d, ap (λ ts. take_looks bound most g lent ts d) (drop_of_length-le (tokens_from us vs) {i = i} (omega (arith, tokens_few us vs, leb-true (length us) i x))), h)
      go false true c x y t e =
          let is : Refused LimitReached ≡ k = cc in
          subst (SettlesBy g ws lent (rest d) m ps run) is (d, chosen_of (leb-false (length us) i x) d true c y t, h)
      go false false false x y t e =
          let is : Refused UnknownToken ≡ k = cc in
          subst (SettlesBy g ws lent (rest d) m ps run) is (d, chosen_of (leb-false (length us) i x) d false false y t, h)
      go false false true x y t e = cc

  -- a move that leads from d to f
  module _ (d f : Config) (l : Coming) (e : next g lent l d ≡ moved f) where
    step_of : (n : ℕ) → waits d.frames && is_done l n d ≡ false → d.moves < moves_limit → advance (moves_limit - d.moves) g lent l n d ≡ advance (moves_limit - f.moves) g lent l n f
    step_of n w s =
        let left : moves_limit - d.moves ≡ suc (moves_limit - f.moves) = omega (arith, (counts g lent l d f e).moves) in
        ap (λ j. advance j g lent l n d) left ∙ advance_moved g lent l n (moves_limit - f.moves) d f w e

  -- ---- a move that looks at nothing

  module _ (d : Config) (w : waits d.frames ≡ false) (s : d.moves < moves_limit) where
    stays : (l : Coming) (n : ℕ) → waits d.frames && is_done l n d ≡ false
    stays l n = ap (λ b. b && is_done l n d) w

    pub quiet_moved : (f : Config) (o : Settled) → next g lent ends d ≡ moved f → Left bound most us vs g lent i d o → Left bound most us vs g lent i f o
    quiet_moved f o e (ahead j q) =
        let k : next g lent here d ≡ moved f = look_free g lent here ends d w ∙ e in
        let t : f.tokens ≡ d.tokens = no_read g lent here d f w k in
        let j' : Ok tt ≡ judged_of bound most us i f.tokens = subst (λ n. Ok tt ≡ judged_of bound most us i n) (sym t) j in
        let on : advance_from g lent here d ≡ advance_from g lent here f = step_of d f here k d.tokens (stays here d.tokens) s ∙ ap (λ n. advance (moves_limit - f.moves) g lent here n f) (sym t) in
        ahead j' (q ∙ (taken d j ∙ (ap (λ z. going_on z after) on ∙ sym (taken f j'))))
    quiet_moved f o e (behind u n l q) =
        let k : next g lent (comes u) d ≡ moved f = look_free g lent (comes u) ends d w ∙ e in
        behind u n (omega (arith, no_read g lent (comes u) d f w k)) (q ∙ ap (λ z. going_on z (take_looks bound most g lent (drop i (tokens_from us vs)))) (step_of d f (comes u) k n (stays (comes u) n) s))

  module _ (d : Config) (w : waits d.frames ≡ false) where
    pub quiet_blocked : (k : ℕ) (o : Settled) → next g lent ends d ≡ blocked k → Left bound most us vs g lent i d o → o ≡ failed d k
    quiet_blocked k o e (ahead j q) = q ∙ (taken d j ∙ ap (λ z. going_on z after) (advance_failed g lent here d.tokens (moves_limit - d.moves) d k (ap (λ b. b && is_done here d.tokens d) w) (look_free g lent here ends d w ∙ e)))
    quiet_blocked k o e (behind u n l q) = q ∙ ap (λ z. going_on z (take_looks bound most g lent (drop i (tokens_from us vs)))) (advance_failed g lent (comes u) n (moves_limit - d.moves) d k (ap (λ b. b && is_done (comes u) n d) w) (look_free g lent (comes u) ends d w ∙ e))

  -- ---- a move that looks

  module _ (d : Config) (o : Settled) (w : waits d.frames ≡ true) (left : Left bound most us vs g lent i d o) where
    -- the token before is done with
    pub looked : o ≡ take_looks bound most g lent (drop i (tokens_from us vs)) d
    looked = go left
      where
        go : Left bound most us vs g lent i d o → o ≡ take_looks bound most g lent (drop i (tokens_from us vs)) d
        go (ahead j q) = q
        go (behind u n l q) = q ∙ ap (λ z. going_on z (take_looks bound most g lent (drop i (tokens_from us vs)))) (advance_stopped g lent (comes u) n (moves_limit - d.moves) d (ap₂ ◌&&◌ w (lt-ltb n d.tokens l)))

    module _ (j : Ok tt ≡ judged_of bound most us i d.tokens) where
      by_moves : o ≡ going_on (advance_from g lent here d) after
      by_moves = looked ∙ taken d j

      -- the end of the segment, which comes alone
      pub look_over : waits d.frames && is_done here d.tokens d ≡ true → length us ≤ suc i → o ≡ stopped d
      look_over e l = by_moves ∙ (ap (λ z. going_on z after) (advance_stopped g lent here d.tokens (moves_limit - d.moves) d e) ∙ ap (λ ts. take_looks bound most g lent ts d) (drop_of_length-le (tokens_from us vs) {i = suc i} (omega (arith, tokens_few us vs))))

      module _ (n : waits d.frames && is_done here d.tokens d ≡ false) where
        pub look_blocked : (k : ℕ) → next g lent here d ≡ blocked k → o ≡ failed d k
        look_blocked k e = by_moves ∙ ap (λ z. going_on z after) (advance_failed g lent here d.tokens (moves_limit - d.moves) d k n e)

        -- only the read counts a token
        pub look_moved : (f : Config) → next g lent here d ≡ moved f → d.moves < moves_limit → Left bound most us vs g lent (i + (f.tokens - d.tokens)) f o
        look_moved f e s = go (counts g lent here d f e).tokens
          where
            on : (k : ℕ) → k ≡ d.tokens → o ≡ going_on (advance (moves_limit - f.moves) g lent here k f) after
            on k z = by_moves ∙ ap (λ y. going_on y after) (step_of d f here e d.tokens n s ∙ ap (λ y. advance (moves_limit - f.moves) g lent here y f) (sym z))

            go : (f.tokens ≡ d.tokens) ⊎ ((t : Leaf) × (here ≡ comes t) × (f.tokens ≡ suc d.tokens)) → Left bound most us vs g lent (i + (f.tokens - d.tokens)) f o
            go (inl t) =
                let j' : Ok tt ≡ judged_of bound most us i f.tokens = subst (λ x. Ok tt ≡ judged_of bound most us i x) (sym t) j in
                let same : i ≡ i + (f.tokens - d.tokens) = omega arith in
                subst (λ x. Left bound most us vs g lent x f o) same (ahead j' (on f.tokens t ∙ sym (taken f j')))
            go (inr (u, z, t)) =
                let same : suc i ≡ i + (f.tokens - d.tokens) = omega arith in
                subst (λ x. Left bound most us vs g lent x f o) same (behind u d.tokens (omega arith) (on d.tokens refl ∙ ap (λ y. going_on (advance (moves_limit - f.moves) g lent y d.tokens f) after) z))

-- ---- what one turn answers

-- memory is held, the lists are beside each other, and the end comes alone
pub record Fed (bound : ℕ) (ws : List ℕ) (m : List ℤ) (ps : List ℕ) (run : Run) (us : List ℕ) (vs : List ℤ) : Type 0 where
  pub running : Running ws m ps run
  pub few : bound ≤ 64
  pub even : length us ≡ length vs
  pub alone : bound ≡ 64 → length us ≤ 1

-- at least one move, as many reads more as tokens are counted; or what all settles in
abbrev pub Goes : ℕ → ℕ → List ℕ → List ℕ → List ℤ → ℕ → Run → Grammar → Lent → Settled → List ℤ → List ℕ → Stage → Type 0
Goes bound most ws us vs i run g lent o m ps (Ok run') = (f : Config) × Held g ws lent m ps run' f × (run.moves < run'.moves) × (run.tokens ≤ run'.tokens) × Left bound most us vs g lent (i + (run'.tokens - run.tokens)) f o
Goes bound most ws us vs i run g lent o m ps (Err k) = SettlesBy g ws lent o m ps run k

abbrev pub Turned : ℕ → ℕ → List ℕ → List ℕ → List ℤ → ℕ → List ℤ → List ℕ → Run → List ℤ → List ℕ → Stage → Type 0
Turned bound most ws us vs i m ps run m' ps' s = (g : Grammar) (lent : Lent) (d : Config) (o : Settled) → Held g ws lent m ps run d → Left bound most us vs g lent i d o → Goes bound most ws us vs i run g lent o m' ps' s

-- the same whatever memory there is, which stays as it is, where the operation at hand has number k
abbrev pub Stays : ℕ → ℕ → List ℕ → ℕ → Run → ℕ → Stage → Type 0
Stays bound most us i run k s = (ws : List ℕ) (m : List ℤ) (ps : List ℕ) (vs : List ℤ) → Fed bound ws m ps run us vs → head_operation (get_or ws run.at 0) ≡ k → Turned bound most ws us vs i m ps run m ps s

-- a refused move changes nothing
-- no refusal has the number 0
pub refuses : {l : Coming} {c : Config} {k : ℕ} → Blocks l c k → k ≡ 0 → ⊥
refuses (at_limit l) e = omega (arith, e)
refuses {l} not_expected e = go l e
  where
    go : (l : Coming) → unexpected (as_look l) ≡ 0 → ⊥
    go (comes u) e = omega (arith, e)
    go ends e = omega (arith, e)
refuses condition_false e = omega (arith, e)
refuses out_of_range e = omega (arith, e)
refuses no_register e = omega (arith, e)
refuses no_place e = omega (arith, e)

refused_by : {g : Grammar} {ws : List ℕ} {lent : Lent} {o : Settled} {m m' : List ℤ} {ps ps' : List ℕ} {run : Run} {d : Config} (r : Refusal) → Held g ws lent m ps run d → (m' ≡ m) × (ps' ≡ ps) → o ≡ failed d (refusal_number r) → SettlesBy g ws lent o m' ps' run (Refused r)
refused_by {g} {ws} {lent} {o} {m} {m'} {ps} {ps'} {run} {d} r h z q = (d, q, subst₂ (λ x y. Held g ws lent x y run d) (sym z.0) (sym z.1) h)

-- a token that is not read yet, and the end before the start symbol is left
to_do : (g : Grammar) (d : Config) (u : ℕ) (v : ℤ) (x : Bool) → is_finished d ≡ false → waits d.frames && is_done (comes_if x g u v) d.tokens d ≡ false
to_do g d u v true e = ap (λ b. waits d.frames && b) e ∙ and-false (waits d.frames)
to_do g d u v false e = ap (λ b. waits d.frames && b) (le-ltb d.tokens d.tokens (omega arith)) ∙ and-false (waits d.frames)

rising : {l : Coming} {c f : Config} → Counts l c f → c.tokens ≤ f.tokens
rising {l} {c} {f} k = by k.tokens
  where
    by : (f.tokens ≡ c.tokens) ⊎ ((t : Leaf) × (l ≡ comes t) × (f.tokens ≡ suc c.tokens)) → c.tokens ≤ f.tokens
    by (inl e) = omega arith
    by (inr (t, e, r)) = omega arith

seen : (g : Grammar) (u : ℕ) (v : ℤ) (b : Bool) → as_look (comes_if b g u v) ≡ look_if b u
seen g u v true = refl
seen g u v false = refl

-- one turn for the tokens us and vs, from memory m and ps and the run
module _ (bound most : ℕ) (ws us : List ℕ) (vs m : List ℤ) (ps : List ℕ) (run : Run) (i : ℕ) (even : length us ≡ length vs) where
  abbrev operation : ℕ
  operation = head_operation (get_or ws run.at 0)

  -- a move that looks at nothing
  pub turned_quiet : (m' : List ℤ) (ps' : List ℕ) (s : Step) → looks_ahead operation ≡ false → Answers ws m ps run ends m' ps' s → Turned bound most ws us vs i m ps run m' ps' (halting s)
  turned_quiet m' ps' (Ok run') w a g lent d o h left =
      let s = a g lent d h tt in
      let f = s.0 in
      let e : next g lent ends d ≡ moved f = s.1 in
      let w' : waits d.frames ≡ false = sym (waits_is h) ∙ w in
      let n : f.tokens ≡ d.tokens = no_read g lent ends d f w' e in
      let c = (counts g lent ends d f e).moves in
      let x : run'.tokens ≡ f.tokens = s.2.tokens in
      let y : run.tokens ≡ d.tokens = h.tokens in
      let p : run'.moves ≡ f.moves = s.2.moves in
      let q : run.moves ≡ d.moves = h.moves in
      let r = s.2.few_moves in
      let same : i ≡ i + (run'.tokens - run.tokens) = omega arith in
      (f, s.2, omega arith, omega arith, subst (λ j. Left bound most us vs g lent j f o) same (quiet_moved bound most us vs even g lent i d w' (omega arith) f o e left))
  turned_quiet m' ps' (Err r) w a g lent d o h left =
      let s = a g lent d h tt in
      refused_by r h (s.1, s.2) (quiet_blocked bound most us vs even g lent i d (sym (waits_is h) ∙ w) (refusal_number r) o s.0 left)

  -- what comes next is not taken
  pub turned_judged : (k : Halt) → looks_ahead operation ≡ true → Err k ≡ judged_of bound most us i run.tokens → Turned bound most ws us vs i m ps run m ps (Err k)
  turned_judged k w e g lent d o h left = subst (λ x. SettlesBy g ws lent x m ps run k) (sym (looked bound most us vs even g lent i d o (sym (waits_is h) ∙ w) left)) (refused bound most us vs even g lent i d k h (e ∙ ap (judged_of bound most us i) h.tokens))

  module _ (j : Ok tt ≡ judged_of bound most us i run.tokens) where
    judged_at : (d : Config) → run.tokens ≡ d.tokens → Ok tt ≡ judged_of bound most us i d.tokens
    judged_at d e = j ∙ ap (judged_of bound most us i) e

    pub turned_look : (m' : List ℤ) (ps' : List ℕ) (s : Step) → looks_ahead operation ≡ true → (operation ≡ nothing_operation → ⊥)
        → ((g : Grammar) (lent : Lent) (d : Config) → Held g ws lent m ps run d → Made g ws lent (next g lent (comes_to g (get_or us i 0) (get_or vs i (pos 0))) d) m ps m' ps' s) → Turned bound most ws us vs i m ps run m' ps' (halting s)
    turned_look m' ps' s w z a g lent d o h left = go s (a g lent d h)
      where
        look : Coming
        look = comes_to g (get_or us i 0) (get_or vs i (pos 0))

        waiting : waits d.frames ≡ true
        waiting = sym (waits_is h) ∙ w

        undone : waits d.frames && is_done look d.tokens d ≡ false
        undone = to_do g d (get_or us i 0) (get_or vs i (pos 0)) (eqb (get_or us i 0) end_number) (sym (finished_is h) ∙ ne_eqb operation nothing_operation z)

        go : (s : Step) → Made g ws lent (next g lent look d) m ps m' ps' s → Goes bound most ws us vs i run g lent o m' ps' (halting s)
        go (Ok run') (f, e, k) =
            let c = counts g lent look d f e in
            let x : run'.tokens ≡ f.tokens = k.tokens in
            let y : run.tokens ≡ d.tokens = h.tokens in
            let p : run'.moves ≡ f.moves = k.moves in
            let q : run.moves ≡ d.moves = h.moves in
            let r = k.few_moves in
            let n = c.moves in
            let more : d.tokens ≤ f.tokens = rising c in
            (f, k, omega arith, omega arith, subst₂ (λ a b. Left bound most us vs g lent (i + (a - b)) f o) (sym x) (sym y) (look_moved bound most us vs even g lent i d o waiting left (judged_at d y) undone f e (omega arith)))
        go (Err r) (e, x, y) = refused_by r h (x, y) (look_blocked bound most us vs even g lent i d o waiting left (judged_at d h.tokens) undone (refusal_number r) e)

    -- the read
    pub turned_read : (m' : List ℤ) (ps' : List ℕ) (s : Step) → operation ≡ read_operation → get_or us i 0 < 64 → T (four_bytes (get_or vs i (pos 0))) → Answers ws m ps run (coming_of (get_or us i 0) (value_at ws (get_or us i 0) (get_or vs i (pos 0)))) m' ps' s → Turned bound most ws us vs i m ps run m' ps' (halting s)
    turned_read m' ps' s e small four a =
        turned_look m' ps' s (ap looks_ahead e) (λ z. omega (arith, e, z))
        (λ g lent d h.
        let same = comes_is h.begins (get_or us i 0) (get_or vs i (pos 0)) small four in
        let ok = subst (IsAhead g) (sym same) (comes_ahead h.begins (get_or us i 0) (get_or vs i (pos 0)) small four) in
        subst (λ l. Made g ws lent (next g lent l d) m ps m' ps' s) same (a g lent d h ok))

    -- the predict, which sees no value
    pub turned_predict : (m' : List ℤ) (ps' : List ℕ) (s : Step) → operation ≡ predict_operation → get_or us i 0 < 64 → ((l : Coming) → as_look l ≡ look_of (get_or us i 0) → Answers ws m ps run l m' ps' s) → Turned bound most ws us vs i m ps run m' ps' (halting s)
    turned_predict m' ps' s e small a =
        turned_look m' ps' s (ap looks_ahead e) (λ z. omega (arith, e, z))
        (λ g lent d h.
        let l = comes_to g (get_or us i 0) (pos 0) in
        let x = hand_nonterminal h e in
        let n = head_operand (get_or ws run.at 0) in
        let see : (v : ℤ) → as_look (comes_to g (get_or us i 0) v) ≡ look_of (get_or us i 0) = λ v. seen g (get_or us i 0) v (eqb (get_or us i 0) end_number) in
        let by : (k : Coming) → next g lent k d ≡ counted d (predict g lent d n (as_look k)) = λ k. ap (next_of g lent k d) x.frames in
        let same : next g lent l d ≡ next g lent (comes_to g (get_or us i 0) (get_or vs i (pos 0))) d = by l ∙ (ap (λ k. counted d (predict g lent d n k)) (see (pos 0) ∙ sym (see (get_or vs i (pos 0)))) ∙ sym (by (comes_to g (get_or us i 0) (get_or vs i (pos 0))))) in
        subst (λ o. Made g ws lent o m ps m' ps' s) same (a l (see (pos 0)) g lent d h (comes_ahead h.begins (get_or us i 0) (pos 0) small tt)))

    -- nothing is left: a token is refused by 21
    pub turned_more : operation ≡ nothing_operation → (get_or us i 0 ≡ end_number → ⊥) → Turned bound most ws us vs i m ps run m ps (Err (Refused UnexpectedToken))
    turned_more e z g lent d o h left =
        let look = comes_to g (get_or us i 0) (get_or vs i (pos 0)) in
        let token : eqb (get_or us i 0) end_number ≡ false = ne_eqb (get_or us i 0) end_number z in
        let w : waits d.frames ≡ true = sym (waits_is h) ∙ ap looks_ahead e in
        let n : waits d.frames && is_done look d.tokens d ≡ false = ap (λ b. waits d.frames && is_done (comes_if b g (get_or us i 0) (get_or vs i (pos 0))) d.tokens d) token ∙ (ap (λ b. waits d.frames && b) (le-ltb d.tokens d.tokens (omega arith)) ∙ and-false (waits d.frames)) in
        let k : next g lent look d ≡ blocked 21 = blocked_over h look e ∙ ap (λ b. blocked (unexpected (as_look (comes_if b g (get_or us i 0) (get_or vs i (pos 0)))))) token in
        (d, look_blocked bound most us vs even g lent i d o w left (judged_at d h.tokens) n 21 k, h)

    -- and the end is what it waits for
    pub turned_over : operation ≡ nothing_operation → get_or us i 0 ≡ end_number → length us ≤ suc i → Turned bound most ws us vs i m ps run m ps (Err Pause)
    turned_over e z l g lent d o h left =
        let w : waits d.frames ≡ true = sym (waits_is h) ∙ ap looks_ahead e in
        let v = get_or vs i (pos 0) in
        let n : waits d.frames && is_done (comes_to g (get_or us i 0) v) d.tokens d ≡ true = ap (λ b. waits d.frames && is_done (comes_if b g (get_or us i 0) v) d.tokens d) (eq-eqb (get_or us i 0) end_number z) ∙ ap₂ ◌&&◌ w (sym (finished_is h) ∙ eq-eqb operation nothing_operation e) in
        (d, look_over bound most us vs even g lent i d o w left (judged_at d h.tokens) n l, h)
