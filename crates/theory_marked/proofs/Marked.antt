-- The marked token is the first impossible one: after every list of calls. What rests on `marked_at` and `finish_none` of specs/Marked.
use Rattle.std.specs.Prelude.{ℕ, suc, ◌<◌, ◌≡◌, refl, Bool, List, ◌++◌, length, take, ℤ}
use Rattle.std.proofs.Common.{arith, sym, ap, ap₂, ◌∙◌, subst, inl, inr}
use Rattle.std.proofs.Math.Decide.{ℕ_discrete}
use Rattle.meaning.specs.Grammar.{Grammar, Token, Leaf, leaves}
use Rattle.meaning.specs.Machine.{Config, Settled, stopped, failed, feed_all}
use Rattle.meaning.specs.Calls.{closed, gate, Record, Stacks, refused, lent_of, lay_all, after_feed, tokens_from, feed_of}
use Rattle.meaning.specs.PublicCalls.{Call, feed, finish, call_of, performs}
use Rattle.theory_base.specs.Feeds.{feed_leaves, even_feed, uneven_feed}
use Rattle.theory_answers.specs.TurnedBack.{by_gate_lem}
use Rattle.theory_sets.specs.Accepted.{Sane, accepted_sane}
use Rattle.theory_sound.specs.CallSound.{feed_is}
use Rattle.theory_sound.specs.Histories.{OpenRun, Run, runs, not_more}
use Rattle.theory_demands.specs.ByGrammar.{performs_is, by_grammar}
use Rattle.meaning_statements.specs.MarkedToken.{kinds, TokenString, Begins, OneStart, MarkedToken, MarkedByStart, MarkedBegins}
use Rattle.theory_marked.specs.Remaining.{kinds_of}
use Rattle.theory_marked.specs.Choice.{unconditional_starts}
use Rattle.meaning.specs.Judgement.{Accepted}
use Rattle.meaning_statements.specs.Statements.{History}
use Rattle.theory_marked.specs.Marked.{kinds_append, refused_is, MarkedAt, marked_at, finish_begins, finish_none, uneven_no, kinds_of_tokens, kinds_of_feed, long_area}

-- ---- the calls on an open run

module _ {g : Grammar} (s : Sane g) (m₀ : Stacks) (ts : List Leaf) (r : Record) (m : Stacks) (o : OpenRun g m₀ ts r m) where
  feed_marked : (us : List Leaf) (n : ℕ) → (feed_leaves g r m us).answer ≡ refused 21 n → MarkedAt s m₀ ts r m o us n
  feed_marked us n h =
      let c : Config = o.config in
      let e : feed_leaves g r m us ≡ after_feed g (lay_all g c m₀) (feed_all g (lent_of m₀) us c) = ap₂ (λ a b. feed_leaves g a b us) o.is_record o.is_stacks ∙ feed_is g s.formed m₀ ts c o.stop us in
      go (feed_all g (lent_of m₀) us c) refl (sym (ap (λ z. z.answer) e) ∙ h)
    where
      go : (k : Settled) → feed_all g (lent_of m₀) us o.config ≡ k → (after_feed g (lay_all g o.config m₀) k).answer ≡ refused 21 n → MarkedAt s m₀ ts r m o us n
      go (stopped d) q h = not_more (sym h)
      go (failed d j) q h = let u = refused_is h in subst (MarkedAt s m₀ ts r m o us) u.1 (marked_at s m₀ ts r m o us d (q ∙ ap (failed d) u.0))

-- ---- any run, any area

module _ (program : Grammar → List ℕ) (bs area : List ℕ) (g : Grammar) (m₀ : Stacks) (ts : List Token) (is_over : Bool) (r : Record) (m : Stacks) (a : Accepted bs g) (h : History program bs m₀ ts is_over r m) where
  s : Sane g
  s = accepted_sane bs g a

  called : (c : Call) (k n : ℕ) → (performs program bs area r m c).answer ≡ refused k n → (k ≡ 30 → ⊥) → (call_of g r m c).answer ≡ refused k n
  called c k n q other = sym (ap (λ z. z.answer) (performs_is program bs g a area r m c (long_area program bs area r m c k n q other))) ∙ q

  -- a 21 or a 24 is given by an open run
  open_run_lem : (c : Call) (k n : ℕ) → (k ≡ 33 → ⊥) → (call_of g r m c).answer ≡ refused k n → OpenRun g m₀ (leaves g ts) r m
  open_run_lem c k n other q = go (runs g s.formed m₀ (leaves g ts) is_over r m (by_grammar program bs g a h))
    where
      -- a closed run answers 33
      shut : r.status ≡ closed → k ≡ 33
      shut e = sym (refused_is (sym (ap (λ z. z.answer) (by_gate_lem g r m 33 c (ap (λ s. gate 34 s r.kind) e))) ∙ q)).0

      go : Run g m₀ (leaves g ts) r m → OpenRun g m₀ (leaves g ts) r m
      go (inl o) = o
      go (inr o) = absurd (other (shut (ap (λ z. z.status) o.is_record)))

  abbrev Marked : List ℕ → ℕ → Type 0
  Marked all n = (n < length all) × Begins g (take n all) × (OneStart g → Begins g (take (suc n) all) → ⊥)

  by_feed : (ks : List ℕ) (vs : List ℤ) (n : ℕ) → (performs program bs area r m (feed ks vs)).answer ≡ refused 21 n → Marked (kinds ts ++ ks) n
  by_feed ks vs n k = go (ℕ_discrete (length ks) (length vs))
    where
      us : List Leaf
      us = leaves g (tokens_from ks vs)

      q : (feed_of g r m ks vs).answer ≡ refused 21 n
      q = called (feed ks vs) 21 n k (λ z. omega arith)

      go : Dec (length ks ≡ length vs) → Marked (kinds ts ++ ks) n
      go (yes e) =
          let v = feed_marked s m₀ (leaves g ts) r m (open_run_lem (feed ks vs) 21 n (λ z. omega arith) q) us n (sym (ap (λ z. z.answer) (even_feed g r m ks vs e)) ∙ q) in
          let same : kinds_of (leaves g ts ++ us) ≡ kinds ts ++ ks = kinds_append (leaves g ts) us ∙ ap₂ (λ x y. x ++ y) (kinds_of_tokens g ts) (kinds_of_feed g ks vs e) in
          subst (λ z. Marked z n) same (v.inside, v.begins, v.none)
      go (no e) = absurd (uneven_no g r m n (sym (ap (λ z. z.answer) (uneven_feed g r m ks vs e)) ∙ q))

  by_finish : (n : ℕ) → (performs program bs area r m finish).answer ≡ refused 24 n → Begins g (kinds ts) × (OneStart g → TokenString g (kinds ts) → ⊥)
  by_finish n k =
      let q = called finish 24 n k (λ z. omega arith) in
      let o = open_run_lem finish 24 n (λ z. omega arith) q in
      subst (λ z. Begins g z × (OneStart g → TokenString g z → ⊥)) (kinds_of_tokens g ts) (finish_begins s m₀ (leaves g ts) r m o, finish_none s m₀ (leaves g ts) r m o n q)

pub marked_begins : MarkedBegins
marked_begins program bs area g m₀ ts is_over r m a h = ((λ ks vs n k. let v = by_feed program bs area g m₀ ts is_over r m a h ks vs n k in (v.0, v.1)), (λ n k. (by_finish program bs area g m₀ ts is_over r m a h n k).0))

pub marked_by_start : MarkedByStart
marked_by_start program bs area g m₀ ts is_over r m a one h =
    ((λ ks vs n k. let v = by_feed program bs area g m₀ ts is_over r m a h ks vs n k in (v.0, v.1, v.2 one)), (λ n k. let v = by_finish program bs area g m₀ ts is_over r m a h n k in (v.0, v.1 one)))

pub marked_token : MarkedToken
marked_token program bs area g m₀ ts is_over r m a plain h = marked_by_start program bs area g m₀ ts is_over r m a (unconditional_starts (accepted_sane bs g a) plain) h
