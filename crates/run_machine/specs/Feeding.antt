-- What comes next, one after the other: tokens that are fed, or the end; as memory and the program's words hold the configuration.
use Rattle.std.specs.Prelude.{ℕ, ◌-◌, ◌≤◌, ◌<◌, ◌≡◌, refl, Bool, true, false, List, [], ◌∷◌, get_or, ltb, ℤ}
use Rattle.std.proofs.Common.{arith, ap, ◌∙◌, subst, le-ltb, ltb-true, ne_eqb}
use Rattle.meaning.specs.Sets.{end_number}
use Rattle.meaning.specs.Grammar.{Grammar, Token, leaf_of, leaves}
use Rattle.meaning.specs.Rules.{WellFormed}
use Rattle.meaning.specs.Calls.{tokens_from}
use Rattle.meaning.specs.Machine.{Config, Lent, Coming, comes, Settled, stopped, failed, advance_from, feed_token, feed_all, finish_all, tokens_limit}
use Rattle.theory_program.specs.Records.{segment_words_lem}
use Rattle.run_moves.specs.declared.Run.{Run}
use Rattle.run_moves.specs.Held.{Held}
use Rattle.run_machine.specs.Advancing.{Ended, Settles, Running}
use Rattle.run_next_token.specs.Coming.{comes_if, chosen, take_look, going_on, take_looks}
pub use Rattle.run_next_token.specs.Coming.{comes_to, comes_is, comes_ahead}

-- what is answered, whatever configuration is held at entry
abbrev pub Answered : List ℕ → (Grammar → Lent → Config → Settled) → List ℤ → List ℕ → Run → List ℤ → List ℕ → Ended → Type 0
Answered ws f m₀ ps₀ run₀ m ps e = (g : Grammar) (lent : Lent) (c : Config) → Held g ws lent m₀ ps₀ run₀ c → Settles g ws lent (f g lent c) m ps e

abbrev pub TakesTokens : ℕ → ℕ → List ℕ → List ℕ → List ℤ → List ℤ → List ℕ → Run → List ℤ → List ℕ → Ended → Type 0
TakesTokens bound most ws us vs = Answered ws (λ g lent c. take_looks bound most g lent (tokens_from us vs) c)

abbrev pub Feeds : List ℕ → List ℕ → List ℤ → List ℤ → List ℕ → Run → List ℤ → List ℕ → Ended → Type 0
Feeds ws ks vs = Answered ws (λ g lent c. feed_all g lent (leaves g (tokens_from ks vs)) c)

-- ---- tokens, and one look alone

-- 01: "35 a token after 65,535", "20 token not below T"
token_taken : (g : Grammar) (lent : Lent) (t : Token) (c : Config) → WellFormed g → take_look g.terminals (tokens_limit - 1) g lent t.kind t.value c ≡ feed_token g lent (leaf_of g t) c
token_taken g lent t c w = go (ltb (tokens_limit - 1) c.tokens) (ltb t.kind g.terminals) refl
  where
    go : (a b : Bool) → ltb t.kind g.terminals ≡ b → chosen g lent t.kind t.value c a b ≡ elim a as (λ z. Settled) [ true ↦ failed c 35 | false ↦ elim b as (λ z. Settled) [ true ↦ advance_from g lent (comes (leaf_of g t)) c | false ↦ failed c 20 ] ]
    go true b e = refl
    go false false e = refl
    go false true e = ap (λ x. advance_from g lent (comes_if x g t.kind t.value) c) (ne_eqb t.kind end_number (λ z. omega (arith, ltb-true t.kind g.terminals e, w.terminals.1)))

tokens_taken : (g : Grammar) (lent : Lent) (ts : List Token) (c : Config) → WellFormed g → take_looks g.terminals (tokens_limit - 1) g lent ts c ≡ feed_all g lent (leaves g ts) c
tokens_taken g lent [] c w = refl
tokens_taken g lent (t ∷ ts) c w = ap (λ o. going_on o (take_looks g.terminals (tokens_limit - 1) g lent ts)) (token_taken g lent t c w) ∙ go (feed_token g lent (leaf_of g t) c) (λ d. tokens_taken g lent ts d w)
  where
    go : (o : Settled) → ((d : Config) → take_looks g.terminals (tokens_limit - 1) g lent ts d ≡ feed_all g lent (leaves g ts) d)
        → going_on o (take_looks g.terminals (tokens_limit - 1) g lent ts) ≡ elim o as (λ z. Settled) [ failed d k ↦ failed d k | stopped d ↦ feed_all g lent (leaves g ts) d ]
    go (failed d k) f = refl
    go (stopped d) f = f d

-- the end of the segment, whatever value stands beside it
end_taken : (g : Grammar) (lent : Lent) (most : ℕ) (v : ℤ) (c : Config) → c.tokens ≤ most → take_looks 64 most g lent (record { kind = end_number; value = v } ∷ []) c ≡ finish_all g lent c
end_taken g lent most v c l = ap (λ o. going_on o stopped) (ap (λ a. chosen g lent end_number v c a true) (le-ltb most c.tokens l)) ∙ go (finish_all g lent c)
  where
    go : (o : Settled) → going_on o stopped ≡ o
    go (failed d k) = refl
    go (stopped d) = refl

-- what the end of the segment brings about
abbrev pub Finishes : List ℕ → List ℤ → List ℕ → Run → List ℤ → List ℕ → Ended → Type 0
Finishes ws = Answered ws (λ g lent c. finish_all g lent c)

module _ {ws : List ℕ} {m : List ℤ} {ps : List ℕ} {run : Run} (m' : List ℤ) (ps' : List ℕ) (e : Ended) where
  pub tokens_fed : (bound : ℕ) (ks : List ℕ) (vs : List ℤ) → bound ≡ get_or ws 3 0 → TakesTokens bound (tokens_limit - 1) ws ks vs m ps run m' ps' e → Feeds ws ks vs m ps run m' ps' e
  tokens_fed bound ks vs b a g lent c h =
      let ts = tokens_from ks vs in
      let same : take_looks bound (tokens_limit - 1) g lent ts c ≡ feed_all g lent (leaves g ts) c = ap (λ k. take_looks k (tokens_limit - 1) g lent ts c) (b ∙ (segment_words_lem h.begins).terminals) ∙ tokens_taken g lent ts c h.well_formed in
      subst (λ o. Settles g ws lent o m' ps' e) same (a g lent c h)

  pub end_finished : (most : ℕ) (v : ℤ) → run.tokens ≤ most → TakesTokens 64 most ws (end_number ∷ []) (v ∷ []) m ps run m' ps' e → Finishes ws m ps run m' ps' e
  end_finished most v l a g lent c h = subst (λ o. Settles g ws lent o m' ps' e) (end_taken g lent most v c (omega (arith, h.tokens))) (a g lent c h)

-- T is at most 63
pub terminals_few : {ws : List ℕ} {m : List ℤ} {ps : List ℕ} {run : Run} → Running ws m ps run → get_or ws 3 0 < 64
terminals_few r = omega (arith, (segment_words_lem r.held.begins).terminals, r.held.well_formed.terminals.1)
