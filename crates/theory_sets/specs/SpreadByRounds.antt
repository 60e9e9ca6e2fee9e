-- The nonterminals that those already in lead to by a production, by rounds: what reachable and left recursion share.
use Rattle.std.specs.Prelude.{ℕ, ◌<◌, ◌⊎◌, Bool, false, ◌&&◌, ◌||◌, List, map, get_or, T}
use Rattle.std.proofs.Common.{inl, inr}
use Rattle.meaning.specs.Base.{any, count_from}
use Rattle.meaning.specs.Grammar.{Symbol, Production, Grammar, production_at, nonterminal_count}
use Rattle.meaning.specs.Derivation.{Listed}
use Rattle.meaning.specs.Sets.{rounds}
use Rattle.meaning.specs.Rules.{WellFormed}
use Rattle.theory_base.specs.Members.{and, or_left, or_right, or_cases, both}
use Rattle.theory_sets.specs.Tests.{tabled_cases, tabled_at}
use Rattle.theory_sets.specs.Rounds.{Below, settles, kept}
use Rattle.theory_sets.specs.Productions.{Chosen, chosen_cases, chosen_at, lefts}
use Rattle.theory_sets.specs.GrownByRounds.{see}

module _ (g : Grammar) (link : ℕ → List Symbol → Bool) where
  abbrev pub by : List Bool → ℕ → Production → Bool
  by e n p = get_or e p.left false && link n p.right

  abbrev pub spread : List Bool → List Bool
  spread e = map (λ n. get_or e n false || any (λ p. get_or e p.left false && link n p.right) g.productions) (count_from 0 (nonterminal_count g))

module _ {g : Grammar} (s : WellFormed g) (link : ℕ → List Symbol → Bool) where
  spread_cases : (e : List Bool) (n : ℕ) → T (see (spread g link e) n) → T (see e n) ⊎ Chosen g (by g link e n)
  spread_cases e n t = go (or_cases (see e n) (any (by g link e n) g.productions) (tabled_cases (λ m. get_or e m false || any (by g link e m) g.productions) (nonterminal_count g) n t).1)
    where
      go : T (see e n) ⊎ T (any (by g link e n) g.productions) → T (see e n) ⊎ Chosen g (by g link e n)
      go (inl u) = inl u
      go (inr u) = inr (chosen_cases s (by g link e n) u)

  spread_kept : (e : List Bool) (n : ℕ) → n < nonterminal_count g → T (see e n) → T (see (spread g link e) n)
  spread_kept e n l t = tabled_at (λ m. get_or e m false || any (by g link e m) g.productions) (nonterminal_count g) n l (or_left (see e n) (any (by g link e n) g.productions) t)

  spread_at : (e : List Bool) (n p : ℕ) → n < nonterminal_count g → Listed g p → T (see e (production_at g p).left) → T (link n (production_at g p).right) → T (see (spread g link e) n)
  spread_at e n p l m t u =
      tabled_at (λ k. get_or e k false || any (by g link e k) g.productions) (nonterminal_count g) n l
      (or_right (see e n) (any (by g link e n) g.productions) (chosen_at s (by g link e n) p m (and (see e (production_at g p).left) (link n (production_at g p).right) t u)))

  module _ (Q : ℕ → Type 0) (each : (n p : ℕ) → Listed g p → Q (production_at g p).left → T (link n (production_at g p).right) → Q n) where
    spread_keeps : (e : List Bool) → ((n : ℕ) → T (see e n) → Q n) → (n : ℕ) → T (see (spread g link e) n) → Q n
    spread_keeps e k n t = go (spread_cases e n t)
      where
        go : T (see e n) ⊎ Chosen g (by g link e n) → Q n
        go (inl u) = k n u
        go (inr c) =
            let q = production_at g c.number in
            each n c.number c.listed (k q.left (both (see e q.left) (link n q.right) c.passes).0) (both (see e q.left) (link n q.right) c.passes).1

    pub spread_only : (a : List Bool) → ((n : ℕ) → T (see a n) → Q n) → (n : ℕ) → T (see (rounds (nonterminal_count g) (spread g link) a) n) → Q n
    spread_only = kept (λ e. (n : ℕ) → T (see e n) → Q n) (spread g link) spread_keeps (nonterminal_count g)

  pub spread_grows : (k : ℕ) (a : List Bool) (n : ℕ) → n < nonterminal_count g → T (see a n) → T (see (rounds k (spread g link) a) n)
  spread_grows k a n l = kept (λ e. T (see e n)) (spread g link) (λ e. spread_kept e n l) k a

  spread_mono : (a b : List Bool) → Below (nonterminal_count g) (see a) (see b) → Below (nonterminal_count g) (see (spread g link a)) (see (spread g link b))
  spread_mono a b k n l t = go (spread_cases a n t)
    where
      go : T (see a n) ⊎ Chosen g (by g link a n) → T (see (spread g link b) n)
      go (inl u) = spread_kept b n l (k n l u)
      go (inr c) =
          let q = production_at g c.number in
          spread_at b n c.number l c.listed (k q.left (lefts s c.number c.listed) (both (see a q.left) (link n q.right) c.passes).0) (both (see a q.left) (link n q.right) c.passes).1

  pub spread_closed : (a : List Bool) (n p : ℕ) → n < nonterminal_count g → Listed g p → T (see (rounds (nonterminal_count g) (spread g link) a) (production_at g p).left) → T (link n (production_at g p).right) → T (see (rounds (nonterminal_count g) (spread g link) a) n)
  spread_closed a n p l m t u =
      settles see (nonterminal_count g) (spread g link) spread_mono a (λ k. spread_kept a k) n l
      (spread_at (rounds (nonterminal_count g) (spread g link) a) n p l m t u)
