-- A part of a segment's run as one big step: it is passed and the run goes on behind it, or it fails, and the run from before it on fails with it (Whole.Failing). A well evaluated tree's part, on whatever stacks, fails with 31, 32 or 35 only.
use Rattle.std.specs.Prelude.{ℕ, ◌+◌, ◌<◌, ◌≡◌, refl, ◌⊎◌, Bool, true, false, ◌&&◌, List, [], ◌∷◌, ◌++◌, length, eqb, ltb, ℤ}
use Rattle.std.proofs.Common.{arith, sym, ap, ◌∙◌, subst, inl, inr, append-nil}
use Rattle.std.proofs.Math.Decide.{dec_lt}
use Rattle.std.proofs.Math.Bool.{and-false}
use Rattle.meaning.specs.Base.{In, is_empty}
use Rattle.meaning.specs.Grammar.{Grammar, Leaf, Symbol, nonterminal, whole}
use Rattle.meaning.specs.Rules.{WellFormed}
use Rattle.meaning.specs.Scheme.{Instruction, expect}
use Rattle.meaning.specs.Machine.{Frame, Config, Lent, Outcome, ends, moved, blocked, Settled, stopped, failed, waits, is_finished, next, next_of, look_at, unread, opening, tokens_limit}
use Rattle.meaning.specs.Tree.{Tree, yield, width, WellEvaluated, synthesized_of, waiting, TreeOf}
use Rattle.meaning.specs.Part.{config, frame}
use Rattle.meaning.specs.Calls.{refused}
use Rattle.theory_base.specs.Walks.{all_moves}
use Rattle.theory_base.specs.Steps.{not_moved}
use Rattle.theory_complete.specs.Run.{Steps, done, executed, predicted, accepted, Short, registers_short, places_short, limit_short, Goes, makes, halts, as_far}
use Rattle.theory_complete.specs.PredictsOfWalk.{Foreseen, foresee_all}
use Rattle.theory_complete.specs.SubtreeComplete.{walks}
use Rattle.theory_complete.specs.SegmentComplete.{opening_expects, tokens_known}
use Rattle.theory_answers.specs.Runs.{unread_same}
use Rattle.theory_sheet.specs.Whole.{run_from, Failing, fails_behind, unread_next}
use Rattle.theory_sheet.specs.Walking.{Fair, idle_stuck, idle_goes, look_stuck, look_goes, look_35, look_over}
use Rattle.theory_sheet.specs.Segment.{answer_of, opened_as, segment_run}

-- ---- a part that is passed or fails because a limit is short

pub data BigStep (g : Grammar) (lent : Lent) (us : List Leaf) (c : Config) (vs : List Leaf) (d : Config) : Type 0 where
  passed : run_from g lent us c ≡ run_from g lent vs d → BigStep g lent us c vs d
  fails : (e : Config) (k : ℕ) → Short k → Failing g lent us c e k → BigStep g lent us c vs d

-- two parts, one after the other
follow : {g : Grammar} {lent : Lent} {us vs ws : List Leaf} {c d e : Config} → BigStep g lent us c vs d → BigStep g lent vs d ws e → BigStep g lent us c ws e
follow (passed p) (passed q) = passed (p ∙ q)
follow (passed p) (fails e k s f) = fails e k s (fails_behind p f)
follow (fails e k s f) t = fails e k s f

-- ---- the moves of a walk as such a step

-- every token to come is one of the table's
abbrev pub Known : Grammar → List Leaf → Type 0
Known g us = (u : Leaf) → In u us → u.kind < g.terminals

module _ (g : Grammar) (lent : Lent) where
  -- where the start symbol is left at the end, nothing is expected
  finished_over : (c : Config) (o : Outcome) → next g lent ends c ≡ o → (o ≡ blocked 24 → ⊥) → is_finished c ≡ false
  finished_over c o h other = go c.frames h
    where
      at : (p : ℕ) (is : List Instruction) (fs : List Frame) → next_of g lent ends c (frame p is ∷ fs) ≡ o → eqb p whole && is_empty is ≡ false
      at p [] fs h = absurd (other (sym h))
      at p (i ∷ is) fs h = and-false (eqb p whole)

      go : (fs : List Frame) → next_of g lent ends c fs ≡ o → elim fs as (λ z. Bool) [ [] ↦ false | f ∷ gs ↦ eqb f.production whole && is_empty f.rest ] ≡ false
      go [] h = refl
      go (f ∷ fs) h = at f.production f.rest fs h

  -- what comes next is let through, or it is one token more than allowed
  let_through : (us : List Leaf) (c : Config) (o : Outcome) → waits c.frames ≡ true → Known g us → next g lent (look_at us) c ≡ o → (o ≡ blocked 24 → ⊥) → Fair g c us ⊎ Failing g lent us c c 35
  let_through [] c o w k h other = inl (finished_over c o h other)
  let_through (u ∷ us) c o w k h other = go (dec_lt c.tokens tokens_limit)
    where
      go : Dec (c.tokens < tokens_limit) → Fair g c (u ∷ us) ⊎ Failing g lent (u ∷ us) c c 35
      go (yes l) = inl (l, k u (inl refl))
      go (no l) = inr (look_35 g lent (u ∷ us) c w u us refl (omega (arith, l)))

  looked : (us vs : List Leaf) (c d : Config) → waits c.frames ≡ true → Known g us → next g lent (look_at us) c ≡ moved d → unread c d us ≡ vs → BigStep g lent us c vs d
  looked us vs c d w k h r = go (let_through us c (moved d) w k h (λ e. not_moved (sym e)))
    where
      go : Fair g c us ⊎ Failing g lent us c c 35 → BigStep g lent us c vs d
      go (inl f) = passed (look_goes g lent us c w f d h ∙ ap (λ z. run_from g lent z d) r)
      go (inr f) = fails c 35 limit_short f

  -- the moves of a walk, and what follows them
  steps_run : (us vs ws : List Leaf) (c d e : Config) → Known g us → Steps g lent 0 us c vs d → (Known g vs → BigStep g lent vs d ws e) → BigStep g lent us c ws e
  steps_run us vs ws c d e k done t = t k
  steps_run us vs ws c d e k (executed {d = b} w h n m s) t =
      follow (passed (idle_goes g lent us c w (look_at us) b (h (look_at us)) ∙ ap (λ z. run_from g lent z b) (unread_same c b us n))) (steps_run us vs ws b d e k s t)
  steps_run us vs ws c d e k (predicted {d = b} w l h n m s) t = follow (looked us us c b w k h (unread_same c b us n)) (steps_run us vs ws b d e k s t)
  steps_run us vs ws c d e k (accepted {u = u} {us = rs} {d = b} w h n m s) t = follow (looked (u ∷ rs) rs c b w k h (unread_next c b u rs n)) (steps_run rs vs ws b d e (λ v i. k v (inr i)) s t)

  short_other : (k : ℕ) → Short k → blocked k ≡ blocked 24 → ⊥
  short_other k registers_short e = let z : ◌≡◌ {A = ℕ} 31 24 = cc in omega arith
  short_other k places_short e = let z : ◌≡◌ {A = ℕ} 32 24 = cc in omega arith
  short_other k limit_short e = let z : ◌≡◌ {A = ℕ} 35 24 = cc in omega arith

  -- a move that is blocked because a limit is short
  stuck : (us ws : List Leaf) (c e : Config) (k : ℕ) → Known g us → Short k → next g lent (look_at us) c ≡ blocked k → BigStep g lent us c ws e
  stuck us ws c e k known s h = by (waits c.frames) refl
    where
      on : waits c.frames ≡ true → Fair g c us ⊎ Failing g lent us c c 35 → BigStep g lent us c ws e
      on w (inl f) = fails c k s (look_stuck g lent us c w f k h)
      on w (inr f) = fails c 35 limit_short f

      by : (b : Bool) → waits c.frames ≡ b → BigStep g lent us c ws e
      by true w = on w (let_through us c (blocked k) w known h (short_other k s))
      by false w = fails c k s (idle_stuck g lent us c w (look_at us) k h)

  goes_run : (us vs : List Leaf) (c d : Config) → Known g us → Goes as_far g lent 0 us c vs d → BigStep g lent us c vs d
  goes_run us vs c d k (makes s) = steps_run us vs vs c d d k s (λ z. passed refl)
  goes_run us vs c d k (halts e h) = steps_run us h.left vs c h.at d k h.steps (λ z. stuck h.left vs h.at d h.number z h.short h.blocks)

-- ---- the step itself, on any stacks

-- a well evaluated tree, from where its symbol is expected to where it is left: the run goes on behind it, or it fails with 31, 32 or 35
pub big_step : (g : Grammar) → WellFormed g → (lent : Lent) (t : Tree) (us : List Leaf) (x : Symbol) (q : ℕ) (is : List Instruction) (fs : List Frame) (rs : List ℤ) (n m : ℕ)
    → WellEvaluated g t x → Foreseen g us t → Known g (yield t ++ us)
    → BigStep g lent (yield t ++ us) (config (frame q (expect x ∷ is) ∷ fs) (waiting g t ++ rs) n m) us (config (frame q is ∷ fs) (synthesized_of g t ++ rs) (n + width t) (m + all_moves g t))
big_step g formed lent t us x q is fs rs n m w o k = goes_run g lent (yield t ++ us) us _ _ k (walks as_far g formed lent 0 t us x q is fs rs n m (foresee_all g t us o) (record { evaluated = w; registers = tt; places = tt; moves = tt }))

-- ---- a segment that has a tree

module _ (g : Grammar) (formed : WellFormed g) (lent : Lent) (us : List Leaf) (t : Tree) (tree : TreeOf g us t) (o : Foreseen g [] t) where
  abbrev S : Symbol
  S = nonterminal g.start

  -- where the start symbol is left
  abbrev left : Config
  left = config (frame whole [] ∷ []) (synthesized_of g t ++ []) (0 + width t) (0 + all_moves g t)

  whole_step : BigStep g lent us (opening g) [] left
  whole_step =
      let w = tree.evaluated in
      let read : yield t ++ [] ≡ us = append-nil (yield t) ∙ tree.read in
      let known : Known g (yield t ++ []) = subst (Known g) (sym (append-nil (yield t))) (tokens_known g formed t S formed.start w) in
      let s = big_step g formed lent t [] S whole [] [] [] 0 0 w o known in
      subst (λ c. BigStep g lent us c [] left) (sym (opening_expects g formed t w)) (subst (λ z. BigStep g lent z (config (frame whole (expect S ∷ []) ∷ []) (waiting g t ++ []) 0 0) [] left) read s)

  -- its run gets to the end, or fails with 31, 32 or 35
  run_short : (e : Config) (k : ℕ) → run_from g lent us (opening g) ≡ failed e k → Short k
  run_short e k f = go whole_step
    where
      go : BigStep g lent us (opening g) [] left → Short k
      go (passed p) = let z : stopped left ≡ failed e k = sym (look_over g lent [] left refl refl refl) ∙ (sym p ∙ f) in let y : ◌≡◌ {A = ℕ} 0 1 = cc in absurd (omega arith)
      go (fails d j s h) = let z : failed d j ≡ failed e k = sym h.is_failed ∙ f in let y : j ≡ k = cc in subst Short y s

  -- and so does its stack run
  pub refused_short : (k n : ℕ) → segment_run g lent us ≡ refused k n → Short k
  refused_short k n = by (ltb lent.max_registers (length (opening g).registers)) (ltb lent.max_places 1)
    where
      ran : (s : Settled) → run_from g lent us (opening g) ≡ s → answer_of g s ≡ refused k n → Short k
      ran (stopped c) e h = let y : ◌≡◌ {A = ℕ} 0 1 = cc in absurd (omega arith)
      ran (failed c j) e h = let y : j ≡ k = cc in run_short c k (e ∙ ap (failed c) y)

      by : (a b : Bool) → opened_as a b (answer_of g (run_from g lent us (opening g))) ≡ refused k n → Short k
      by true b h = let y : 31 ≡ k = cc in subst Short y registers_short
      by false true h = let y : 32 ≡ k = cc in subst Short y places_short
      by false false h = ran (run_from g lent us (opening g)) refl h
