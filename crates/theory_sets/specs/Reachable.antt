-- reachable is: stands in a string derived from the start symbol.
use Rattle.std.specs.Prelude.{ℕ, ◌<◌, ◌≡◌, ◌↔◌, ◌⊎◌, Bool, true, false, List, [], ◌∷◌, ◌++◌, get_or, replicate, set, T, eqb}
use Rattle.std.proofs.Math.Decide.{ℕ_discrete}
use Rattle.std.proofs.Common.{inl, inr, append_assoc, get_or-set_same, get_or-set_other, eqb→eq, ltb→lt}
use Rattle.std.proofs.lemmas.List.{length-replicate}
use Rattle.std.proofs.Math.Dec.{eqb_refl}
use Rattle.meaning.specs.Base.{all, any}
use Rattle.meaning.specs.Grammar.{Symbol, terminal, nonterminal, Grammar, production_at, nonterminal_count, is_nonterminal}
use Rattle.meaning.specs.Derivation.{Derives, itself, step, Listed, Reachable, start_form}
use Rattle.meaning.specs.Decide.{productive_symbol, reachable}
use Rattle.meaning.specs.Rules.{WellFormed}
use Rattle.theory_base.specs.Members.{and, or_left, or_right, or_cases, all_append, true→T, both}
use Rattle.theory_sets.specs.Derivations.{joined}
use Rattle.theory_sets.specs.Tests.{all_left, all_right, get_d_no}
use Rattle.theory_sets.specs.Productions.{known, symbols}
use Rattle.theory_sets.specs.GrownByRounds.{see}
use Rattle.theory_sets.specs.SpreadByRounds.{spread_only, spread_grows, spread_closed}

-- where a nonterminal stands in a string
pub record StandsIn (n : ℕ) (xs : List Symbol) : Type 0 where
  pub before : List Symbol
  pub after : List Symbol
  pub whole : xs ≡ before ++ (nonterminal n ∷ after)

pub stands : (n : ℕ) (xs : List Symbol) → T (any (is_nonterminal n) xs) → StandsIn n xs
stands n [] t = absurd t
stands n (terminal u ∷ xs) t = let r = stands n xs t in record { before = terminal u ∷ r.before; after = r.after; whole = cc r.whole }
stands n (nonterminal m ∷ xs) t = go (or_cases (eqb m n) (any (is_nonterminal n) xs) t) (stands n xs)
  where
    go : T (eqb m n) ⊎ T (any (is_nonterminal n) xs) → (T (any (is_nonterminal n) xs) → StandsIn n xs) → StandsIn n (nonterminal m ∷ xs)
    go (inl u) k = record { before = []; after = xs; whole = cc (eqb→eq m n u) }
    go (inr u) k = let r = k u in record { before = nonterminal m ∷ r.before; after = r.after; whole = cc r.whole }

module _ {g : Grammar} (s : WellFormed g) where
  abbrev link : ℕ → List Symbol → Bool
  link n xs = any (is_nonterminal n) xs

  abbrev pub first : List Bool
  first = set (replicate (nonterminal_count g) false) g.start true

  pub first_only : (n : ℕ) → T (see first n) → n ≡ g.start
  first_only n t = go (ℕ_discrete n g.start)
    where
      go : Dec (n ≡ g.start) → n ≡ g.start
      go (yes e) = e
      go (no e) = absurd (rw (get_or-set_other (replicate (nonterminal_count g) false) g.start n true false e, get_d_no (nonterminal_count g) n) at t)

  first_has : T (see first g.start)
  first_has = true→T _ (get_or-set_same (replicate (nonterminal_count g) false) g.start true false (rw (length-replicate (nonterminal_count g) false) s.start))

  reach_on : (n p : ℕ) → Listed g p → Reachable g (production_at g p).left → T (any (is_nonterminal n) (production_at g p).right) → Reachable g n
  reach_on n p l r t = go (stands n (production_at g p).right t)
    where
      go : StandsIn n (production_at g p).right → Reachable g n
      go w =
          let d : Derives g (start_form g) (r.0 ++ ((production_at g p).right ++ r.1)) = joined r.2 (step p r.0 r.1 l itself) in
          (r.0 ++ w.before, w.after ++ r.1, rw (w.whole, append_assoc w.before (nonterminal n ∷ w.after) r.1, ← append_assoc r.0 w.before (nonterminal n ∷ (w.after ++ r.1))) at d)

  reach_start : (n : ℕ) → T (see first n) → Reachable g n
  reach_start n t = ([], [], rw (first_only n t) itself)

  pub reachable→Reachable : (n : ℕ) → T (get_or (reachable g) n false) → Reachable g n
  reachable→Reachable = spread_only s link (Reachable g) reach_on first reach_start

  pub reachable_start : T (get_or (reachable g) g.start false)
  reachable_start = spread_grows s link (nonterminal_count g) first g.start s.start first_has

  pub reachable_closed : (n p : ℕ) → n < nonterminal_count g → Listed g p → T (get_or (reachable g) (production_at g p).left false) → T (any (is_nonterminal n) (production_at g p).right) → T (get_or (reachable g) n false)
  reachable_closed = spread_closed s link first

  all_in : (e : List Bool) (xs : List Symbol) → T (all (known g) xs) → ((n : ℕ) → n < nonterminal_count g → T (any (is_nonterminal n) xs) → T (see e n)) → T (all (productive_symbol e) xs)
  all_in e [] c k = tt
  all_in e (terminal u ∷ xs) c k = all_in e xs (both (known g (terminal u)) (all (known g) xs) c).1 k
  all_in e (nonterminal m ∷ xs) c k =
      and (see e m) (all (productive_symbol e) xs)
      (k m (ltb→lt m (nonterminal_count g) (both (known g (nonterminal m)) (all (known g) xs) c).0) (or_left (eqb m m) (any (is_nonterminal m) xs) (eqb_refl m)))
      (all_in e xs (both (known g (nonterminal m)) (all (known g) xs) c).1 (λ n l t. k n l (or_right (eqb m n) (any (is_nonterminal n) xs) t)))

  pub derived_in : {xs ys : List Symbol} → Derives g xs ys → T (all (productive_symbol (reachable g)) xs) → T (all (productive_symbol (reachable g)) ys)
  derived_in itself t = t
  derived_in (step p b a l d) t =
      let e = productive_symbol (reachable g) in
      let x = nonterminal (production_at g p).left in
      let u = all_right e b (x ∷ a) t in
      let w = all_in (reachable g) (production_at g p).right (symbols s p l) (λ n m k. reachable_closed n p m l (both (e x) (all e a) u).0 k) in
      derived_in d (all_append e b ((production_at g p).right ++ a) (all_left e b (x ∷ a) t) (all_append e (production_at g p).right a w (both (e x) (all e a) u).1))

  pub Reachable→reachable : (n : ℕ) → Reachable g n → T (get_or (reachable g) n false)
  Reachable→reachable n r =
      let e = productive_symbol (reachable g) in
      (both (e (nonterminal n)) (all e r.1) (all_right e r.0 (nonterminal n ∷ r.1) (derived_in r.2 (and (e (nonterminal g.start)) true reachable_start tt)))).0

  pub reachable_is : (n : ℕ) → T (get_or (reachable g) n false) ↔ Reachable g n
  reachable_is n = (reachable→Reachable n, Reachable→reachable n)
