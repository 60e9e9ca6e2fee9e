-- The left recursive nonterminals over the rows are those that 01's definition computes.
use Rattle.std.specs.Prelude.{ℕ, ◌<◌, ◌≡◌, refl, ◌⊎◌, Bool, false, ◌&&◌, ◌||◌, T, eqb, get_or, replicate}
use Rattle.std.proofs.Common.{zero-le, sym, ◌∙◌, inl, inr, eqb→eq, ltb→lt}
use mathlib.Core.List.{List, [], ◌∷◌, ◌++◌, nil≢cons, head-eq_of_cons-eq}
use Rattle.std.proofs.Math.Dec.{eqb_refl}
use Rattle.meaning.specs.Limits.{nonterminals_limit}
use Rattle.meaning.specs.Base.{all, any}
use Rattle.meaning.specs.Grammar.{Symbol, terminal, nonterminal, Grammar, production_at, nonterminal_count, is_nonterminal}
use Rattle.meaning.specs.Derivation.{Listed, LeftRecursive}
use Rattle.meaning.specs.Sets.{rounds, nullable, empty_symbol, productions_of}
use Rattle.meaning.specs.Decide.{leads, leads_to, leads_on, is_left_recursive}
use Rattle.theory_base.specs.Members.{and, both, or_cases, or_left, or_right, same_truth}
use Rattle.theory_sets.specs.Derivations.{Yields, nothing, same, expand, derives→yields}
use Rattle.theory_sets.specs.Tests.{tabled_cases, tabled_at}
use Rattle.theory_sets.specs.Productions.{known, Chosen, of_cases, of_at, symbols}
use Rattle.theory_sets.specs.Nullable.{nullable_closed, yields→empty_string}
use Rattle.theory_sets.specs.SpreadByRounds.{spread_grows, spread_closed}
use Rattle.theory_sets.specs.LeftRecursion.{recursive→LeftRecursive}
use Rattle.theory_sets.specs.LeastSets.{led_least}
use Rattle.outline.specs.Images.{ImageOf, left_at}
use Rattle.set_words.specs.Views.{members, sees, WithinAll, opens, LeadAt}
use Rattle.analysis.specs.Tables.{SettledTable, zeros_none}
use Rattle.analysis.specs.Agreeing.{Marks, listed, counted}

-- a front that is seen stands behind symbols that derive nothing
pub opens_leads : (gone see : ℕ → Bool) (e : List Bool) → ((n : ℕ) → gone n ≡ get_or e n false) → (u : ℕ) (xs : List Symbol) → T (opens false gone see u false xs) → (m : ℕ) × T (leads e m xs) × T (see m)
opens_leads gone see e marks u [] t = absurd t
opens_leads gone see e marks u (terminal s ∷ xs) t = absurd t
opens_leads gone see e marks u (nonterminal n ∷ xs) t = go (or_cases (see n) (gone n && opens false gone see u false xs) t) (opens_leads gone see e marks u xs)
  where
    go : T (see n) ⊎ T (gone n && opens false gone see u false xs) → (T (opens false gone see u false xs) → (m : ℕ) × T (leads e m xs) × T (see m)) → (m : ℕ) × T (leads e m (nonterminal n ∷ xs)) × T (see m)
    go (inl h) k = (n, or_left (eqb n n) (get_or e n false && leads e n xs) (eqb_refl n), h)
    go (inr h) k =
        let w = k (both (gone n) (opens false gone see u false xs) h).1 in
        (w.0, or_right (eqb n w.0) (get_or e n false && leads e w.0 xs) (and (get_or e n false) (leads e w.0 xs) (rw (marks n) at (both (gone n) (opens false gone see u false xs) h).0) w.1), w.2)

-- what leads is a known nonterminal
known_lead : (g : Grammar) (e : List Bool) (m : ℕ) (xs : List Symbol) → T (all (known g) xs) → T (leads e m xs) → m < nonterminal_count g
known_lead g e m [] k t = absurd t
known_lead g e m (x ∷ xs) k t = go x (both (known g x) (all (known g) xs) k).0 (or_cases (is_nonterminal m x) (empty_symbol e x && leads e m xs) t) (known_lead g e m xs (both (known g x) (all (known g) xs) k).1)
  where
    go : (y : Symbol) → T (known g y) → T (is_nonterminal m y) ⊎ T (empty_symbol e y && leads e m xs) → (T (leads e m xs) → m < nonterminal_count g) → m < nonterminal_count g
    go (terminal s) q (inl h) j = absurd h
    go (nonterminal n) q (inl h) j = rw (sym (eqb→eq n m h)) (ltb→lt n (nonterminal_count g) q)
    go y q (inr h) j = j (both (empty_symbol e y) (leads e m xs) h).1

module _ {rows : List ℕ} {count : ℕ} {g : Grammar} (r : ImageOf rows count g) (null : ℕ) (gone : Marks null (nullable g)) where
  abbrev led : ℕ → List Bool
  led n = rounds (nonterminal_count g) (leads_on g) (leads_to g n)

  -- where a production of n leads, and on from there
  led_start : (p m : ℕ) → Listed g p → T (leads (nullable g) m (production_at g p).right) → T (get_or (led (production_at g p).left) m false)
  led_start p m l t =
      let k = known_lead g (nullable g) m (production_at g p).right (symbols r.sound p l) t in
      spread_grows r.sound (leads (nullable g)) (nonterminal_count g) (leads_to g (production_at g p).left) m k
      (tabled_at (λ q. any (λ x. leads (nullable g) q x.right) (productions_of g (production_at g p).left)) (nonterminal_count g) m k (of_at r.sound (λ x. leads (nullable g) m x.right) p l t))

  led_next : (n m p : ℕ) → Listed g p → T (get_or (led n) (production_at g p).left false) → T (leads (nullable g) m (production_at g p).right) → T (get_or (led n) m false)
  led_next n m p l h t = spread_closed r.sound (leads (nullable g)) (leads_to g n) m p (known_lead g (nullable g) m (production_at g p).right (symbols r.sound p l) t) l h t

  led_trans : (a m n : ℕ) → T (get_or (led a) m false) → T (get_or (led m) n false) → T (get_or (led a) n false)
  led_trans a m n h = led_least r.sound m (led a) start (λ k p l. led_next a k p l) n
    where
      start : (k : ℕ) → T (get_or (leads_to g m) k false) → T (get_or (led a) k false)
      start k t = go (of_cases r.sound (λ x. leads (nullable g) k x.right) m (tabled_cases (λ q. any (λ x. leads (nullable g) q x.right) (productions_of g m)) (nonterminal_count g) k t).1)
        where
          go : Chosen g (λ p. eqb p.left m && leads (nullable g) k p.right) → T (get_or (led a) k false)
          go c =
              let q = production_at g c.number in
              let e = eqb→eq q.left m (both (eqb q.left m) (leads (nullable g) k q.right) c.passes).0 in
              led_next a k c.number c.listed (rw e h) (both (eqb q.left m) (leads (nullable g) k q.right) c.passes).1

  -- m is n or leads to n
  abbrev reaches : ℕ → ℕ → Bool
  reaches n m = eqb m n || get_or (led m) n false

  lead_on : (n p : ℕ) → Listed g p → T (opens false (members null) (reaches n) n false (production_at g p).right) → T (get_or (led (production_at g p).left) n false)
  lead_on n p l t = go (opens_leads (members null) (reaches n) (nullable g) gone.is n (production_at g p).right t)
    where
      go : (m : ℕ) × T (leads (nullable g) m (production_at g p).right) × T (reaches n m) → T (get_or (led (production_at g p).left) n false)
      go w = on (or_cases (eqb w.0 n) (get_or (led w.0) n false) w.2)
        where
          on : T (eqb w.0 n) ⊎ T (get_or (led w.0) n false) → T (get_or (led (production_at g p).left) n false)
          on (inl e) = rw (eqb→eq w.0 n e) at (led_start p w.0 l w.1)
          on (inr h) = led_trans (production_at g p).left w.0 n (led_start p w.0 l w.1) h

  module _ (t : List ℕ) (st : SettledTable (WithinAll (LeadAt (members null) rows) 0 count) (replicate nonterminals_limit 0) t) where
    to : (n : ℕ) → T (sees t n n) → T (is_left_recursive g n)
    to n = st.least n (λ m. get_or (led m) n false) (record { at = λ p _ l h. rw (r.left p l) (lead_on n p (listed r p l) (rw (r.right p l) at h)) }) (λ m h. absurd (zeros_none nonterminals_limit n m h)) n

    -- a is m or leads to m, by the table
    abbrev near : ℕ → ℕ → Bool
    near m a = eqb a m || sees t m a

    abbrev fronts : ℕ → List Symbol → Bool
    fronts m xs = opens false (members null) (near m) m false xs

    -- a string that derives one with m at its front has m, or one that leads to m, at its front
    yields_front : (m : ℕ) {xs ys : List Symbol} → Yields g xs ys → (a : List Symbol) → ys ≡ nonterminal m ∷ a → T (fronts m xs)
    yields_front m nothing a e = absurd (nil≢cons e)
    yields_front m (same x {xs} d) a e = rw (head-eq_of_cons-eq e) (or_left (near m m) (members null m && fronts m xs) (or_left (eqb m m) (sees t m m) (eqb_refl m)))
    yields_front m (expand p {xs} {zs} {ys} l d d') a e = go zs e d (λ b h. yields_front m d b h) (λ b h. yields_front m d' b h)
      where
        go : (zs : List Symbol) → zs ++ ys ≡ nonterminal m ∷ a → Yields g (production_at g p).right zs → ((b : List Symbol) → zs ≡ nonterminal m ∷ b → T (fronts m (production_at g p).right))
            → ((b : List Symbol) → ys ≡ nonterminal m ∷ b → T (fronts m xs)) → T (fronts m (nonterminal (production_at g p).left ∷ xs))
        go [] e d i j =
            or_right (near m (production_at g p).left) (members null (production_at g p).left && fronts m xs)
            (and (members null (production_at g p).left) (fronts m xs) (rw (gone.is (production_at g p).left) (nullable_closed r.sound p l (yields→empty_string r.sound d refl))) (j a e))
        go (z ∷ zs) e d i j =
            let c = counted r p l in
            or_left (near m (production_at g p).left) (members null (production_at g p).left && fronts m xs)
            (or_right (eqb (production_at g p).left m) (sees t m (production_at g p).left)
            (rw (r.left p c) at ((st.closed m).at p zero-le c (rw (r.right p c) (i zs (cc (head-eq_of_cons-eq e)))))))

    back : (n : ℕ) → T (is_left_recursive g n) → T (sees t n n)
    back n h = go (recursive→LeftRecursive r.sound n h)
      where
        go : LeftRecursive g n → T (sees t n n)
        go q =
            let c = counted r q.0 q.2 in
            let e : left_at rows q.0 ≡ n = r.left q.0 c ∙ q.3 in
            rw e at ((st.closed n).at q.0 zero-le c (rw (r.right q.0 c) (yields_front n (derives→yields q.4) q.1 refl)))

    pub recursive_is : (n : ℕ) → sees t n n ≡ is_left_recursive g n
    recursive_is n = same_truth (sees t n n) (is_left_recursive g n) (to n) (back n)
