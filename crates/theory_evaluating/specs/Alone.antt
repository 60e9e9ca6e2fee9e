-- What others left on the stacks plays no part; what a candidate answers.
use Rattle.std.specs.Prelude.{ℕ, suc, ◌≤◌, ◌<◌, min, ◌≡◌, refl, ◌⊎◌, List, [], ◌∷◌, map, length, take, drop, T, ℤ}
use Rattle.std.proofs.Common.{arith, sym, ap, ◌∙◌, subst, inl, inr, length-take, length-drop}
use Rattle.std.proofs.Math.Decide.{dec_lt}
use Rattle.meaning.specs.Base.{all}
use Rattle.meaning.specs.Grammar.{Grammar, Leaf, leaves}
use Rattle.meaning.specs.Rules.{four_bytes, WellFormed}
use Rattle.meaning.specs.Machine.{Config, Settled, stopped, failed, comes, ends, opening, feed_all, finish_all}
use Rattle.meaning.specs.Calls.{Stacks, Answer, lent_of, lay_all, tokens_from, after_finish_value}
use Rattle.meaning_ranking.specs.RankCall.{evaluated, Evaluation, and_then, evaluations}
use Rattle.meaning_ranking.specs.RankingStatements.{Candidate, candidates_of, numbered, last_left, is_refusal, candidate_answer}
use Rattle.theory_base.specs.Members.{all_take, all_drop}
use Rattle.theory_base.specs.Feeds.{leaves_of}
use Rattle.theory_answers.specs.Memory.{Within, lent_kept}
use Rattle.theory_answers.specs.Bounds.{Blocks, at_limit, not_expected, condition_false, out_of_range, no_register, no_place}
use Rattle.theory_answers.specs.Runs.{FeedBlocks, many_tokens, unknown_token, blocked_move}
use Rattle.theory_evaluating.specs.Whole.{wholly, wholly_over, evaluated_31, evaluated_32, evaluated_runs, failed_at, ended_at, refused_at, value_at}

-- ---- parts of the lists

pub even_take : {A B : Type 0} (n : ℕ) (xs : List A) (ys : List B) → length xs ≡ length ys → length (take n xs) ≡ length (take n ys)
even_take n xs ys e = length-take n xs ∙ (ap (min n) e ∙ sym (length-take n ys))

pub even_drop : {A B : Type 0} (n : ℕ) (xs : List A) (ys : List B) → length xs ≡ length ys → length (drop n xs) ≡ length (drop n ys)
even_drop n xs ys e = omega (arith, length-drop n xs, length-drop n ys)

-- ---- numbers

block_refusal : {c : Config} {k : ℕ} (t : Leaf) → Blocks (comes t) c k → T (is_refusal k)
block_refusal t (at_limit l) = tt
block_refusal t not_expected = tt
block_refusal t condition_false = tt
block_refusal t out_of_range = tt
block_refusal t no_register = tt
block_refusal t no_place = tt

end_refusal : {c : Config} {k : ℕ} → Blocks ends c k → T (is_refusal k)
end_refusal (at_limit l) = tt
end_refusal not_expected = tt
end_refusal condition_false = tt
end_refusal out_of_range = tt
end_refusal no_register = tt
end_refusal no_place = tt

feed_refusal : {c : Config} {k : ℕ} → FeedBlocks c k → T (is_refusal k)
feed_refusal (many_tokens e) = tt
feed_refusal unknown_token = tt
feed_refusal (blocked_move t b) = block_refusal t b

module _ (g : Grammar) (f : WellFormed g) (m : Stacks) where
  -- over what is brought a candidate's run has laid a configuration
  pub record Laid (s : Stacks) : Type 0 where
    pub room : length (opening g).registers ≤ (lent_of m).max_registers
    pub place : 1 ≤ (lent_of m).max_places
    pub config : Config
    pub within : Within (lent_of m) config
    pub is_stacks : s ≡ lay_all g config m

  abbrev pub Left : Stacks → Type 0
  Left s = (s ≡ m) ⊎ Laid s

  module _ (ks : List ℕ) (vs : List ℤ) (even : length ks ≡ length vs) (t : T (all four_bytes vs)) where
    abbrev us : List Leaf
    us = leaves g (tokens_from ks vs)

    -- the same on stacks that another candidate left
    pub left_same : (s : Stacks) → Left s → evaluated g s ks vs ≡ evaluated g m ks vs
    left_same s (inl e) = ap (λ z. evaluated g z ks vs) e
    left_same s (inr l) =
        let n : Stacks = lay_all g l.config m in
        let same : lent_of n ≡ lent_of m = lent_kept g l.config m l.within in
        let r : length (opening g).registers ≤ (lent_of n).max_registers = subst (λ z. length (opening g).registers ≤ z.max_registers) (sym same) l.room in
        let p : 1 ≤ (lent_of n).max_places = subst (λ z. 1 ≤ z.max_places) (sym same) l.place in
        ap (λ z. evaluated g z ks vs) l.is_stacks
        ∙ (evaluated_runs g n f r p ks vs even t
        ∙ (ap (λ z. wholly g n (feed_all g z us (opening g))) same
        ∙ (wholly_over g l.config m l.within (feed_all g (lent_of m) us (opening g))
        ∙ sym (evaluated_runs g m f l.room l.place ks vs even t))))

    module _ (r : length (opening g).registers ≤ (lent_of m).max_registers) (p : 1 ≤ (lent_of m).max_places) where
      finishes : (c : Config) → feed_all g (lent_of m) us (opening g) ≡ stopped c → (o : Settled) → finish_all g (lent_of m) c ≡ o → Laid (after_finish_value g m o).stacks × T (candidate_answer (after_finish_value g m o).answer)
      finishes c q (stopped d) e = (record { room = r; place = p; config = d; within = ended_at g m f r p us c q d e; is_stacks = refl }, value_at g m f r p us c q (leaves_of g ks vs t) d e)
      finishes c q (failed d k) e = let z = refused_at g m f r p us c q d k e in (record { room = r; place = p; config = d; within = z.0; is_stacks = refl }, end_refusal z.1)

      comes_to_lem : (o : Settled) → feed_all g (lent_of m) us (opening g) ≡ o → Laid (wholly g m o).stacks × T (candidate_answer (wholly g m o).answer)
      comes_to_lem (stopped c) q = finishes c q (finish_all g (lent_of m) c) refl
      comes_to_lem (failed c k) q = let z = failed_at g m f r p us c k q in (record { room = r; place = p; config = c; within = z.0; is_stacks = refl }, feed_refusal z.1)

    both_of : Dec ((lent_of m).max_registers < length (opening g).registers) → Dec ((lent_of m).max_places < 1) → Left (evaluated g m ks vs).stacks × T (candidate_answer (evaluated g m ks vs).answer)
    both_of (yes l) x = let e = evaluated_31 g m ks vs l in (inl (ap (λ z. z.stacks) e), subst (λ z. T (candidate_answer z.answer)) (sym e) tt)
    both_of (no l) (yes x) = let e = evaluated_32 g m ks vs (omega arith) x in (inl (ap (λ z. z.stacks) e), subst (λ z. T (candidate_answer z.answer)) (sym e) tt)
    both_of (no l) (no x) =
        let r : length (opening g).registers ≤ (lent_of m).max_registers = omega arith in
        let p : 1 ≤ (lent_of m).max_places = omega arith in
        let z = comes_to_lem r p (feed_all g (lent_of m) us (opening g)) refl in
        let e = evaluated_runs g m f r p ks vs even t in
        (inr (subst (λ w. Laid w.stacks) (sym e) z.0), subst (λ w. T (candidate_answer w.answer)) (sym e) z.1)

    pub left_after : Left (evaluated g m ks vs).stacks
    left_after = (both_of (dec_lt (lent_of m).max_registers (length (opening g).registers)) (dec_lt (lent_of m).max_places 1)).0

    pub answers : T (candidate_answer (evaluated g m ks vs).answer)
    answers = (both_of (dec_lt (lent_of m).max_registers (length (opening g).registers)) (dec_lt (lent_of m).max_places 1)).1

  -- ---- one after the other

  abbrev pub answer_of : Candidate → Answer
  answer_of c = (evaluated g m c.kinds c.values).answer

  abbrev pub alone_from : ℕ → Stacks → List Candidate → Evaluation
  alone_from i s cs = record { entries = numbered i (map answer_of cs); stacks = last_left g m s cs }

  pub alone : (i : ℕ) (ns ks : List ℕ) (vs : List ℤ) → length ks ≡ length vs → T (all four_bytes vs) → (s : Stacks) → Left s → evaluations g i ns ks vs s ≡ alone_from i s (candidates_of ns ks vs)
  alone i [] ks vs even t s l = refl
  alone i (n ∷ ns) ks vs even t s l =
      let e = even_take n ks vs even in
      let q = all_take four_bytes n vs t in
      ap (λ c. and_then i c (evaluations g (suc i) ns (drop n ks) (drop n vs) c.stacks)) (left_same (take n ks) (take n vs) e q s l)
      ∙ ap (and_then i (evaluated g m (take n ks) (take n vs))) (alone (suc i) ns (drop n ks) (drop n vs) (even_drop n ks vs even) (all_drop four_bytes n vs t) (evaluated g m (take n ks) (take n vs)).stacks (left_after (take n ks) (take n vs) e q))
