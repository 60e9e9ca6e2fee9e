-- The run of a whole segment as one sequence of moves: a token is judged where it is first looked at, and the end where the tokens are over.
use Prim.Native.Nat.{ℕ, zero, suc, ◌+◌, ◌-◌, ◌≤◌}
use native.Mathlib.Omega.{arith}
use Rattle.std.specs.Prelude.{◌≡◌, ◌⊎◌, Bool, true, false, ◌&&◌, drop}
use Rattle.std.proofs.Math.Path.{refl, sym, ap, ap₂}
use Rattle.std.proofs.Common.{◌∙◌, subst, inl, inr, lt-ltb, le-ltb}
use Rattle.std.proofs.Math.Bool.{and-false}
use mathlib.Core.List.{List, [], ◌∷◌}
use Rattle.std.proofs.Math.Dec.{T, ltb, leb}
use Rattle.meaning.specs.Grammar.{Grammar, Leaf}
use Rattle.meaning.specs.Machine.{Config, Lent, comes, ends, Outcome, moved, blocked, Settled, stopped, failed, waits, next, look_at, unread, is_done, is_finished, advance, advance_from, feed_all, finish_all, tokens_limit, moves_limit}
use Rattle.theory_base.specs.Members.{both, T→true}
use Rattle.theory_base.specs.Steps.{at_hand, advance_stopped, advance_failed, advance_moved}
use Rattle.theory_answers.specs.Bounds.{counts, look_free, no_read}
use Rattle.theory_answers.specs.Runs.{unread_same}

-- what a configuration with tokens to come does next: the segment is over, a refusal, or what a move leads to
pub data WhatNext : Type 0 where
  done : WhatNext
  fails : ℕ → WhatNext
  goes : Config → WhatNext

abbrev pub as_next : Outcome → WhatNext
as_next (moved d) = goes d
as_next (blocked k) = fails k

abbrev pub by_next : Config → WhatNext → (Config → Settled) → Settled
by_next c done f = stopped c
by_next c (fails k) f = failed c k
by_next c (goes d) f = f d

-- the start symbol left at the end
abbrev pub end_if : Bool → WhatNext → WhatNext
end_if true t = done
end_if false t = t

-- 01: "35 a token after 65,535", "20 token not below T, judged before its moves"
abbrev pub token_if : Bool → Bool → WhatNext → WhatNext
token_if true b t = fails 35
token_if false true t = t
token_if false false t = fails 20

abbrev pub judged : Grammar → Config → List Leaf → WhatNext → WhatNext
judged g c [] t = end_if (is_finished c) t
judged g c (u ∷ us) t = token_if (leb tokens_limit c.tokens) (ltb u.kind g.terminals) t

-- by whether the move at hand needs what comes next
abbrev pub turn_if : Bool → WhatNext → WhatNext → WhatNext
turn_if false a b = a
turn_if true a b = b

abbrev pub turn : Grammar → Lent → List Leaf → Config → WhatNext
turn g lent us c = turn_if (waits c.frames) (as_next (next g lent (look_at us) c)) (judged g c us (as_next (next g lent (look_at us) c)))

-- one turn after the other; `left` is how many moves the limit still allows
abbrev pub run : ℕ → Grammar → Lent → List Leaf → Config → Settled
run zero g lent us c = by_next c (turn g lent us c) (λ d. failed c 35)
run (suc left) g lent us c = by_next c (turn g lent us c) (λ d. run left g lent (unread c d us) d)

unfoldable pub run_from : Grammar → Lent → List Leaf → Config → Settled
run_from g lent us c = run (moves_limit - c.moves) g lent us c

abbrev pub and_then : Settled → (Config → Settled) → Settled
and_then (stopped c) f = f c
and_then (failed c k) f = failed c k

-- ---- a part that fails, as one step

-- the run from c on, with us to come, fails at e with k
pub record Failing (g : Grammar) (lent : Lent) (us : List Leaf) (c e : Config) (k : ℕ) : Type 0 where
  pub is_failed : run_from g lent us c ≡ failed e k

-- what fails behind a part that is passed fails the run from before that part on, at the same place and with the same number
pub fails_behind : {g : Grammar} {lent : Lent} {us vs : List Leaf} {c d e : Config} {k : ℕ} → run_from g lent us c ≡ run_from g lent vs d → Failing g lent vs d e k → Failing g lent us c e k
fails_behind p f = record { is_failed = p ∙ f.is_failed }

-- ---- one turn

module _ (g : Grammar) (lent : Lent) (us : List Leaf) (c : Config) where
  pub run_fails : (k : ℕ) → turn g lent us c ≡ fails k → Failing g lent us c c k
  unfolding run_from
  run_fails k e = record { is_failed = go (moves_limit - c.moves) }
    where
      go : (left : ℕ) → run left g lent us c ≡ failed c k
      go zero = ap (λ z. by_next c z (λ d. failed c 35)) e
      go (suc left) = ap (λ z. by_next c z (λ d. run left g lent (unread c d us) d)) e

  pub run_done : turn g lent us c ≡ done → run_from g lent us c ≡ stopped c
  unfolding run_from
  run_done e = go (moves_limit - c.moves)
    where
      go : (left : ℕ) → run left g lent us c ≡ stopped c
      go zero = ap (λ z. by_next c z (λ d. failed c 35)) e
      go (suc left) = ap (λ z. by_next c z (λ d. run left g lent (unread c d us) d)) e

  pub run_goes : (d : Config) → turn g lent us c ≡ goes d → next g lent (look_at us) c ≡ moved d → run_from g lent us c ≡ run_from g lent (unread c d us) d
  unfolding run_from
  run_goes d e h =
      let left : moves_limit - c.moves ≡ suc (moves_limit - d.moves) = omega (arith, (at_hand g lent (look_at us) c d h).limit, (counts g lent (look_at us) c d h).moves) in
      ap (λ n. run n g lent us c) left ∙ ap (λ z. by_next c z (λ x. run (moves_limit - d.moves) g lent (unread c x us) x)) e

-- ---- the same as a feed of all tokens and a finish

abbrev pub fed_finished : Grammar → Lent → List Leaf → Config → Settled
fed_finished g lent us c = and_then (feed_all g lent us c) (finish_all g lent)

-- one round of `advance`
abbrev round : Bool → Outcome → Config → (Config → Settled) → Settled
round b o c f = elim b [ true ↦ stopped c | false ↦ elim o [ blocked k ↦ failed c k | moved d ↦ f d ] ]

pub unread_next : (c d : Config) (u : Leaf) (us : List Leaf) → d.tokens ≡ suc c.tokens → unread c d (u ∷ us) ≡ us
unread_next c d u us e = let z : d.tokens - c.tokens ≡ 1 = omega (arith, e) in ap (λ n. drop n (u ∷ us)) z

unread_none : (n : ℕ) → ◌≡◌ {A = List Leaf} (drop n []) []
unread_none zero = refl
unread_none (suc n) = refl

module _ (g : Grammar) (lent : Lent) where
  -- at the end
  at_end_lem : (n : ℕ) (left : ℕ) (c : Config) → run left g lent [] c ≡ advance left g lent ends n c
  at_end_lem n zero c = go (waits c.frames) (is_finished c) (next g lent ends c)
    where
      go : (w f : Bool) (o : Outcome) → by_next c (turn_if w (as_next o) (end_if f (as_next o))) (λ d. failed c 35) ≡ round (w && f) o c (λ d. failed c 35)
      go true true o = refl
      go true false (moved d) = refl
      go true false (blocked k) = refl
      go false f (moved d) = refl
      go false f (blocked k) = refl
  at_end_lem n (suc left) c = go (waits c.frames) (is_finished c) (next g lent ends c) (λ d. at_end_lem n left d)
    where
      go : (w f : Bool) (o : Outcome) → ((d : Config) → run left g lent [] d ≡ advance left g lent ends n d)
          → by_next c (turn_if w (as_next o) (end_if f (as_next o))) (λ d. run left g lent (unread c d []) d) ≡ round (w && f) o c (λ d. advance left g lent ends n d)
      go true true o ih = refl
      go true false (moved d) ih = ap (λ us. run left g lent us d) (unread_none (d.tokens - c.tokens)) ∙ ih d
      go true false (blocked k) ih = refl
      go false f (moved d) ih = ap (λ us. run left g lent us d) (unread_none (d.tokens - c.tokens)) ∙ ih d
      go false f (blocked k) ih = refl

  -- a token at hand that was let through, n read before it; us come after it. Rest is what follows once it is read
  module _ (u : Leaf) (us : List Leaf) (n : ℕ) (few : leb tokens_limit n ≡ false) (known : ltb u.kind g.terminals ≡ true) (rest : (c : Config) → T (waits c.frames) → c.moves ≤ moves_limit → run_from g lent us c ≡ fed_finished g lent us c) where
    after_token : (left : ℕ) (c : Config) → left + c.moves ≡ moves_limit → waits c.frames && is_done (comes u) n c ≡ true → run left g lent us c ≡ and_then (advance left g lent (comes u) n c) (fed_finished g lent us)
    unfolding run_from
    after_token left c m w =
        let l : left ≡ moves_limit - c.moves = omega arith in
        let t : T (waits c.frames && is_done (comes u) n c) = rw w tt in
        ap (λ k. run k g lent us c) l
        ∙ (rest c (both (waits c.frames) (is_done (comes u) n c) t).0 (omega arith)
        ∙ sym (ap (λ s. and_then s (fed_finished g lent us)) (advance_stopped g lent (comes u) n left c w)))

    abbrev Then : List Leaf → ℕ → Config → Type 0
    Then vs left c = run left g lent vs c ≡ and_then (advance left g lent (comes u) n c) (fed_finished g lent us)

    -- the same with one move less
    abbrev Before : List Leaf → ℕ → ℕ → Type 0
    Before vs k zero = Unit {0}
    Before vs k (suc left) = (d : Config) → left + d.moves ≡ moves_limit → d.tokens ≡ k → Then vs left d

    -- a move that reads no token, where vs are still to come
    module _ (vs : List Leaf) (c : Config) (w : waits c.frames && is_done (comes u) n c ≡ false) where
      stuck : (left k : ℕ) → turn g lent vs c ≡ fails k → next g lent (comes u) c ≡ blocked k → Then vs left c
      stuck zero k t h = ap (λ z. by_next c z (λ d. failed c 35)) t ∙ sym (ap (λ s. and_then s (fed_finished g lent us)) (advance_failed g lent (comes u) n 0 c k w h))
      stuck (suc left) k t h = ap (λ z. by_next c z (λ d. run left g lent (unread c d vs) d)) t ∙ sym (ap (λ s. and_then s (fed_finished g lent us)) (advance_failed g lent (comes u) n (suc left) c k w h))

      onward : (ws : List Leaf) (left : ℕ) (d : Config) → left + c.moves ≡ moves_limit → turn g lent vs c ≡ goes d → next g lent (comes u) c ≡ moved d → unread c d vs ≡ ws → Before ws d.tokens left → Then vs left c
      onward ws zero d m t h q ih = absurd (omega (arith, (at_hand g lent (comes u) c d h).limit))
      onward ws (suc left) d m t h q ih =
          ap (λ z. by_next c z (λ d. run left g lent (unread c d vs) d)) t
          ∙ (ap (λ zs. run left g lent zs d) q
          ∙ (ih d (omega (arith, (counts g lent (comes u) c d h).moves)) refl
          ∙ sym (ap (λ s. and_then s (fed_finished g lent us)) (advance_moved g lent (comes u) n left c d w h))))

    -- it is read
    past_by : (left : ℕ) (c : Config) → left + c.moves ≡ moves_limit → c.tokens ≡ suc n → Before us (suc n) left → Then us left c
    past_by left c m e ih = by (waits c.frames) refl
      where
        on : waits c.frames ≡ false → (o : Outcome) → next g lent (comes u) c ≡ o → Then us left c
        on x o h = go o h (ap (λ b. turn_if b (as_next (next g lent (look_at us) c)) (judged g c us (as_next (next g lent (look_at us) c)))) x ∙ ap as_next (look_free g lent (look_at us) (comes u) c x ∙ h))
          where
            idle : waits c.frames && is_done (comes u) n c ≡ false
            idle = ap (λ b. b && is_done (comes u) n c) x

            go : (o : Outcome) → next g lent (comes u) c ≡ o → turn g lent us c ≡ as_next o → Then us left c
            go (blocked k) h t = stuck us c idle left k t h
            go (moved d) h t =
                let same : d.tokens ≡ c.tokens = no_read g lent (comes u) c d x h in
                onward us c idle us left d m t h (unread_same c d us same) (subst (λ k. Before us k left) (sym (same ∙ e)) ih)

        by : (w : Bool) → waits c.frames ≡ w → Then us left c
        by true x = after_token left c m (ap₂ ◌&&◌ x (lt-ltb n c.tokens (omega arith)))
        by false x = on x (next g lent (comes u) c) refl

    past_token : (left : ℕ) (c : Config) → left + c.moves ≡ moves_limit → c.tokens ≡ suc n → Then us left c
    past_token zero c m e = past_by zero c m e tt
    past_token (suc left) c m e = past_by (suc left) c m e (λ d l k. past_token left d l k)

    -- it is still to come
    to_come_by : (left : ℕ) (c : Config) → left + c.moves ≡ moves_limit → c.tokens ≡ n → Before (u ∷ us) n left → Then (u ∷ us) left c
    to_come_by left c m e ih = go (next g lent (comes u) c) refl
      where
        unread_yet : waits c.frames && is_done (comes u) n c ≡ false
        unread_yet = ap (λ b. waits c.frames && b) (le-ltb n c.tokens (omega arith)) ∙ and-false (waits c.frames)

        turns : (o : Outcome) → next g lent (comes u) c ≡ o → turn g lent (u ∷ us) c ≡ as_next o
        turns o h = by (waits c.frames) ∙ ap as_next h
          where
            let_through : (t : WhatNext) → token_if (leb tokens_limit c.tokens) (ltb u.kind g.terminals) t ≡ t
            let_through t = ap₂ (λ a b. token_if a b t) (subst (λ k. leb tokens_limit k ≡ false) (sym e) few) known

            by : (b : Bool) → turn_if b (as_next (next g lent (comes u) c)) (judged g c (u ∷ us) (as_next (next g lent (comes u) c))) ≡ as_next (next g lent (comes u) c)
            by true = let_through (as_next (next g lent (comes u) c))
            by false = refl

        moves_on : (d : Config) → next g lent (comes u) c ≡ moved d → (d.tokens ≡ c.tokens) ⊎ ((t : Leaf) × (comes u ≡ comes t) × (d.tokens ≡ suc c.tokens)) → Then (u ∷ us) left c
        moves_on d h (inl same) = onward (u ∷ us) c unread_yet (u ∷ us) left d m (turns (moved d) h) h (unread_same c d (u ∷ us) same) (subst (λ k. Before (u ∷ us) k left) (sym (same ∙ e)) ih)
        moves_on d h (inr v) = onward (u ∷ us) c unread_yet us left d m (turns (moved d) h) h (unread_next c d u us v.2) (past left)
          where
            past : (left : ℕ) → Before us d.tokens left
            past zero = tt
            past (suc left) = λ x l k. past_token left x l (k ∙ (v.2 ∙ ap suc e))

        go : (o : Outcome) → next g lent (comes u) c ≡ o → Then (u ∷ us) left c
        go (blocked k) h = stuck (u ∷ us) c unread_yet left k (turns (blocked k) h) h
        go (moved d) h = moves_on d h (counts g lent (comes u) c d h).tokens

    to_come_lem : (left : ℕ) (c : Config) → left + c.moves ≡ moves_limit → c.tokens ≡ n → Then (u ∷ us) left c
    to_come_lem zero c m e = to_come_by zero c m e tt
    to_come_lem (suc left) c m e = to_come_by (suc left) c m e (λ d l k. to_come_lem left d l k)

  -- by the judgement of a token
  abbrev feed_by : Leaf → List Leaf → Config → Bool → Bool → Settled
  feed_by u us c a b = and_then (elim (elim a as (λ z. Settled) [ true ↦ failed c 35 | false ↦ elim b as (λ z. Settled) [ true ↦ advance_from g lent (comes u) c | false ↦ failed c 20 ] ]) as (λ z. Settled) [ failed d k ↦ failed d k | stopped d ↦ feed_all g lent us d ]) (finish_all g lent)

  fed_after_lem : (us : List Leaf) (s : Settled) → and_then s (fed_finished g lent us) ≡ and_then (elim s as (λ z. Settled) [ failed d k ↦ failed d k | stopped d ↦ feed_all g lent us d ]) (finish_all g lent)
  fed_after_lem us (stopped d) = refl
  fed_after_lem us (failed d k) = refl

  -- 01's run of a whole segment, from a stop on
  pub run_whole : (us : List Leaf) (c : Config) → T (waits c.frames) → c.moves ≤ moves_limit → run_from g lent us c ≡ fed_finished g lent us c
  unfolding run_from
  run_whole [] c w m = at_end_lem c.tokens (moves_limit - c.moves) c
  run_whole (u ∷ us) c w m = go (leb tokens_limit c.tokens) refl (ltb u.kind g.terminals) refl (λ d x l. run_whole us d x l)
    where
      judges : (a : Bool) → leb tokens_limit c.tokens ≡ a → (b : Bool) → ltb u.kind g.terminals ≡ b → turn g lent (u ∷ us) c ≡ token_if a b (as_next (next g lent (comes u) c))
      judges a x b y =
          ap (λ z. turn_if z (as_next (next g lent (comes u) c)) (judged g c (u ∷ us) (as_next (next g lent (comes u) c)))) (T→true (waits c.frames) w)
          ∙ ap₂ (λ p q. token_if p q (as_next (next g lent (comes u) c))) x y

      go : (a : Bool) → leb tokens_limit c.tokens ≡ a → (b : Bool) → ltb u.kind g.terminals ≡ b → ((d : Config) → T (waits d.frames) → d.moves ≤ moves_limit → run_from g lent us d ≡ fed_finished g lent us d)
          → run_from g lent (u ∷ us) c ≡ feed_by u us c a b
      go true x b y ih = (run_fails g lent (u ∷ us) c 35 (judges true x b y)).is_failed
      go false x false y ih = (run_fails g lent (u ∷ us) c 20 (judges false x false y)).is_failed
      go false x true y ih = to_come_lem u us c.tokens x y ih (moves_limit - c.moves) c (omega arith) refl ∙ fed_after_lem us (advance_from g lent (comes u) c)
