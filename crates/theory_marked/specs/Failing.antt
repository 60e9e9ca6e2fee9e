-- A feed or a finish that is refused: the token at hand, and what its moves kept until one was blocked.
use Rattle.std.specs.Prelude.{ℕ, zero, suc, ◌-◌, ◌≤◌, ◌<◌, ◌≡◌, refl, ◌⊎◌, Bool, true, false, ◌&&◌, List, [], ◌∷◌, ◌++◌, drop, T, ltb, leb}
use Rattle.std.proofs.Common.{arith, sym, ap, ◌∙◌, subst, inl, inr, lt→ltb}
use Rattle.std.proofs.Math.Decide.{dec_lt}
use Rattle.meaning.specs.Grammar.{Grammar, Leaf, Look, token, over}
use Rattle.meaning.specs.Machine.{Config, Lent, Coming, comes, ends, as_look, Outcome, moved, blocked, Settled, stopped, failed, waits, next, look_at, is_done, is_finished, advance, advance_from, feed_token, feed_all, tokens_limit, moves_limit, unexpected}
use Rattle.theory_base.specs.Members.{T→true, left_false}
use Rattle.theory_answers.specs.Bounds.{counts, look_free, Blocks, at_limit, not_expected, condition_false, out_of_range, no_register, no_place, blocks}
use Rattle.theory_sets.specs.Accepted.{Sane}
use Rattle.meaning_statements.specs.MarkedToken.{OneStart}
use Rattle.theory_marked.specs.Following.{Following, follow_move}
use Rattle.theory_marked.specs.Unblocked.{only_over}

-- ---- the moves of a token or of the end

module _ (g : Grammar) (lent : Lent) (l : Coming) (n : ℕ) (Inv : Config → Type 0) (keeps : (c d : Config) → Inv c → next g lent l c ≡ moved d → Inv d) where
  abbrev Fails : Settled → Type 0
  Fails (stopped e) = Unit {0}
  Fails (failed e k) = (k ≡ 35) ⊎ (Inv e × (waits e.frames && is_done l n e ≡ false) × (next g lent l e ≡ blocked k))

  pub fails : (left : ℕ) (c : Config) → Inv c → Fails (advance left g lent l n c)
  fails zero c s = ready (waits c.frames && is_done l n c) refl (next g lent l c) refl
    where
      ready : (b : Bool) → waits c.frames && is_done l n c ≡ b → (o : Outcome) → next g lent l c ≡ o → Fails (elim b [ true ↦ stopped c | false ↦ elim o [ blocked k ↦ failed c k | moved d ↦ failed c 35 ] ])
      ready true w o h = tt
      ready false w (blocked k) h = inr (s, w, h)
      ready false w (moved d) h = inl refl
  fails (suc left) c s = ready (waits c.frames && is_done l n c) refl (next g lent l c) refl (λ d t. fails left d t)
    where
      ready : (b : Bool) → waits c.frames && is_done l n c ≡ b → (o : Outcome) → next g lent l c ≡ o → ((d : Config) → Inv d → Fails (advance left g lent l n d)) → Fails (elim b [ true ↦ stopped c | false ↦ elim o [ blocked k ↦ failed c k | moved d ↦ advance left g lent l n d ] ])
      ready true w o h ih = tt
      ready false w (blocked k) h ih = inr (s, w, h)
      ready false w (moved d) h ih = ih d (keeps c d s h)

-- ---- after its token is read, a feed is not refused 21

no_21 : {e : Config} {k : ℕ} → Blocks ends e k → k ≡ 21 → ⊥
no_21 (at_limit m) z = omega arith
no_21 not_expected z = omega arith
no_21 condition_false z = omega arith
no_21 out_of_range z = omega arith
no_21 no_register z = omega arith
no_21 no_place z = omega arith

pub not_after : (g : Grammar) (lent : Lent) (t : Leaf) (n : ℕ) (e : Config) → n < e.tokens → waits e.frames && is_done (comes t) n e ≡ false → next g lent (comes t) e ≡ blocked 21 → ⊥
not_after g lent t n e m w h =
    let done : ltb n e.tokens ≡ true = T→true (ltb n e.tokens) (lt→ltb n e.tokens m) in
    let idle : waits e.frames ≡ false = left_false (waits e.frames) (ltb n e.tokens) done w in
    no_21 (blocks g lent ends e 21 (look_free g lent ends (comes t) e idle ∙ h)) refl

-- so it leaves the count as it was
pub count_kept : (g : Grammar) (lent : Lent) (t : Leaf) (c e : Config) → advance_from g lent (comes t) c ≡ failed e 21 → e.tokens ≡ c.tokens
count_kept g lent t c e h = go (subst (Fails g lent (comes t) c.tokens AtLeast on) h (fails g lent (comes t) c.tokens AtLeast on (moves_limit - c.moves) c (omega arith)))
  where
    AtLeast : Config → Type 0
    AtLeast d = c.tokens ≤ d.tokens

    on : (d d' : Config) → c.tokens ≤ d.tokens → next g lent (comes t) d ≡ moved d' → c.tokens ≤ d'.tokens
    on d d' m q = at (counts g lent (comes t) d d' q).tokens
      where
        at : (d'.tokens ≡ d.tokens) ⊎ ((u : Leaf) × (comes t ≡ comes u) × (d'.tokens ≡ suc d.tokens)) → c.tokens ≤ d'.tokens
        at (inl e) = omega arith
        at (inr v) = omega (arith, v.2)

    decided : c.tokens ≤ e.tokens → waits e.frames && is_done (comes t) c.tokens e ≡ false → next g lent (comes t) e ≡ blocked 21 → Dec (c.tokens < e.tokens) → e.tokens ≡ c.tokens
    decided m w q (yes k) = absurd (not_after g lent t c.tokens e k w q)
    decided m w q (no k) = omega arith

    go : ◌≡◌ {A = ℕ} 21 35 ⊎ (AtLeast e × (waits e.frames && is_done (comes t) c.tokens e ≡ false) × (next g lent (comes t) e ≡ blocked 21)) → e.tokens ≡ c.tokens
    go (inl z) = absurd (omega arith)
    go (inr v) = decided v.0 v.1 v.2 (dec_lt c.tokens e.tokens)

-- ---- where the tokens to come complete a token string, neither 21 nor 24 refuses them

module _ {g : Grammar} (s : Sane g) (one : OneStart g) (lent : Lent) (vs : List Leaf) (n : ℕ) where
  -- the token at hand is to come, or read
  abbrev Still : Config → Type 0
  Still c = (Following g vs c × (c.tokens ≡ n)) ⊎ ((t : Leaf) × (look_at vs ≡ comes t) × (n < c.tokens))

  still : (c d : Config) → Still c → next g lent (look_at vs) c ≡ moved d → Still d
  still c d (inl v) h = go (counts g lent (look_at vs) c d h).tokens
    where
      go : (d.tokens ≡ c.tokens) ⊎ ((t : Leaf) × (look_at vs ≡ comes t) × (d.tokens ≡ suc c.tokens)) → Still d
      go (inl e) =
          let z : d.tokens - c.tokens ≡ 0 = omega (arith, e) in
          inl (subst (λ k. Following g (drop k vs) d) z (follow_move s one lent vs c d v.0 h), e ∙ v.1)
      go (inr u) = inr (u.0, u.1, omega (arith, u.2, v.1))
  still c d (inr v) h = go (counts g lent (look_at vs) c d h).tokens
    where
      go : (d.tokens ≡ c.tokens) ⊎ ((t : Leaf) × (look_at vs ≡ comes t) × (d.tokens ≡ suc c.tokens)) → Still d
      go (inl e) = inr (v.0, v.1, omega (arith, e, v.2))
      go (inr u) = inr (v.0, v.1, omega (arith, u.2, v.2))

  refuted : (e : Config) → Still e → waits e.frames && is_done (look_at vs) n e ≡ false → next g lent (look_at vs) e ≡ blocked (unexpected (as_look (look_at vs))) → ⊥
  refuted e (inr v) w h =
      not_after g lent v.0 n e v.2 (subst (λ z. waits e.frames && is_done z n e ≡ false) v.1 w) (subst (λ z. next g lent z e ≡ blocked (unexpected (as_look z))) v.1 h)
  refuted e (inl v) w h =
      let o = only_over s lent vs e v.0 h in
      let w' : waits e.frames && is_finished e ≡ false = subst (λ z. waits e.frames && is_done (look_at z) n e ≡ false) o.0 w in
      subst T (sym (both_true (waits e.frames) (is_finished e) o.1 o.2) ∙ w') tt
    where
      both_true : (a b : Bool) → T a → T b → a && b ≡ true
      both_true true b x y = T→true b y
      both_true false b x y = absurd x

  not_35 : (l : Look) → unexpected l ≡ 35 → ⊥
  not_35 (token t) z = omega arith
  not_35 over z = omega arith

  pub never : (c e : Config) → c.tokens ≡ n → Following g vs c → advance (moves_limit - c.moves) g lent (look_at vs) n c ≡ failed e (unexpected (as_look (look_at vs))) → ⊥
  never c e k f h = go (subst (Fails g lent (look_at vs) n Still still) h (fails g lent (look_at vs) n Still still (moves_limit - c.moves) c (inl (f, k))))
    where
      go : (unexpected (as_look (look_at vs)) ≡ 35) ⊎ (Still e × (waits e.frames && is_done (look_at vs) n e ≡ false) × (next g lent (look_at vs) e ≡ blocked (unexpected (as_look (look_at vs))))) → ⊥
      go (inl z) = not_35 (as_look (look_at vs)) z
      go (inr v) = refuted e v.0 v.1 v.2

-- ---- the token at which a feed is refused

not_failed : {A : Type 0} {c e : Config} {k : ℕ} → stopped c ≡ failed e k → A
not_failed h = absurd (let z : ◌≡◌ {A = ℕ} 0 1 = cc in omega arith)

failed_with : {c e : Config} {j k : ℕ} → failed c j ≡ failed e k → j ≡ k
failed_with h = cc

pub record FailedAt (g : Grammar) (lent : Lent) (us : List Leaf) (c e : Config) (k : ℕ) : Type 0 where
  pub before : List Leaf
  pub marked : Leaf
  pub after : List Leaf
  pub config : Config
  pub whole : us ≡ before ++ (marked ∷ after)
  pub fed : feed_all g lent before c ≡ stopped config
  pub fails : feed_token g lent marked config ≡ failed e k

module _ (g : Grammar) (lent : Lent) where
  abbrev fed_on : List Leaf → Settled → Settled
  fed_on ts o = elim o as (λ x. Settled) [ failed d k ↦ failed d k | stopped d ↦ feed_all g lent ts d ]

  pub failed_at : (us : List Leaf) (c e : Config) (k : ℕ) → feed_all g lent us c ≡ failed e k → FailedAt g lent us c e k
  failed_at [] c e k h = not_failed h
  failed_at (t ∷ us) c e k h = go (feed_token g lent t c) refl h (λ d q. failed_at us d e k q)
    where
      go : (o : Settled) → feed_token g lent t c ≡ o → fed_on us o ≡ failed e k → ((d : Config) → feed_all g lent us d ≡ failed e k → FailedAt g lent us d e k) → FailedAt g lent (t ∷ us) c e k
      go (failed d j) q h ih = record { before = []; marked = t; after = us; config = c; whole = refl; fed = refl; fails = q ∙ h }
      go (stopped d) q h ih = let r = ih d h in record { before = t ∷ r.before; marked = r.marked; after = r.after; config = r.config; whole = ap (λ z. t ∷ z) r.whole; fed = ap (fed_on r.before) q ∙ r.fed; fails = r.fails }

  -- 21 comes of the token's moves
  pub by_moves : (t : Leaf) (c e : Config) → feed_token g lent t c ≡ failed e 21 → advance_from g lent (comes t) c ≡ failed e 21
  by_moves t c e h = go (leb tokens_limit c.tokens) (ltb t.kind g.terminals) h
    where
      go : (a b : Bool) → elim a as (λ x. Settled) [ true ↦ failed c 35 | false ↦ elim b as (λ x. Settled) [ true ↦ advance_from g lent (comes t) c | false ↦ failed c 20 ] ] ≡ failed e 21 → advance_from g lent (comes t) c ≡ failed e 21
      go true b h = absurd (omega (arith, failed_with h))
      go false true h = h
      go false false h = absurd (omega (arith, failed_with h))
