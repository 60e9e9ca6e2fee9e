-- What holds of a field without a fault.
use Prim.Native.Nat.{ℕ, ◌+◌, ◌≤◌, ◌<◌}
use mathlib.Core.Path.{◌≡◌, refl}
use mathlib.Core.Bool.{Bool, true, false, cond}
use mathlib.Core.List.{List}
use lib.Dec.{eqb, leb, ltb}
use lib.ListN.{length}
use native.Mathlib.Omega.{arith}
use borrow.Author.Tests.{eqb-true, leb-true, ltb-true}
use Rattle.meaning.specs.Limits.{attributes_limit, nonterminals_limit, productions_limit, symbols_limit, terminals_limit}
use Rattle.meaning.specs.Table.{byte}
use Rattle.table_fields.specs.Demand.{holds, equal, at_most, below}
use Rattle.table_fields.specs.Judge.{header_fault, counts_fault, head_fault, production_fault, carrier_fault, symbols_known}
use Rattle.table_fields.proofs.Cases.{nonzero}
use Rattle.table_fields.proofs.Demands.{equal_met, at_most_met, below_met}

-- a demand with number n that is met, and the demands after it
by_test : (b : Bool) (n r : ℕ) → cond b r n ≡ 0 → (n ≡ 0 → ⊥) → (b ≡ true) × (r ≡ 0)
by_test true n r e h = (refl, e)
by_test false n r e h = absurd (h e)

-- two lists of demands with one in front: what fails in front fails in both
first_fails : (b : Bool) (m r s n : ℕ) → n ≡ cond b r m → (n ≡ r → n ≡ s) → n ≡ cond b s m
first_fails true m r s n e f = f e
first_fails false m r s n e f = e

module _ {n r : ℕ} (h : n ≡ 0 → ⊥) where
  pub equal_fine : (a b : ℕ) → equal a b n r ≡ 0 → (a ≡ b) × (r ≡ 0)
  unfolding equal
  equal_fine a b e = let q = by_test (eqb a b) n r e h in (eqb-true a b q.0, q.1)

  pub at_most_fine : (a b : ℕ) → at_most a b n r ≡ 0 → (a ≤ b) × (r ≡ 0)
  unfolding at_most
  at_most_fine a b e = let q = by_test (leb a b) n r e h in (leb-true a b q.0, q.1)

  pub below_fine : (a b : ℕ) → below a b n r ≡ 0 → (a < b) × (r ≡ 0)
  unfolding below
  below_fine a b e = let q = by_test (ltb a b) n r e h in (ltb-true a b q.0, q.1)

  pub holds_fine : (b : Bool) → holds b n r ≡ 0 → (b ≡ true) × (r ≡ 0)
  unfolding holds
  holds_fine b e = by_test b n r e h

module _ (b : List ℕ) where
  pub header_fine : header_fault b ≡ 0 → (length b ≡ 4) × (byte b 1 ≤ nonterminals_limit) × (byte b 0 ≤ terminals_limit)
  unfolding header_fault
  header_fine e =
      let q = equal_fine (nonzero 3) (length b) 4 e in
      let u = at_most_fine (nonzero 3) 1 (byte b 0) q.1 in
      let v = at_most_fine (nonzero 3) (byte b 0) terminals_limit u.1 in
      let w = at_most_fine (nonzero 3) 1 (byte b 1) v.1 in
      (q.0, (at_most_fine (nonzero 3) (byte b 1) nonterminals_limit w.1).0, v.0)

  pub counts_fine : (n start result : ℕ) → counts_fault n start result b ≡ 0 → (length b ≡ 2) × (byte b 0 + byte b 1 ≤ attributes_limit)
  unfolding counts_fault
  counts_fine n start result e =
      let q = equal_fine (nonzero 3) (length b) 2 e in
      (q.0, (at_most_fine (nonzero 3) (byte b 0 + byte b 1) attributes_limit q.1).0)

  pub carrier_fine : (terminals least : ℕ) → carrier_fault terminals least b ≡ 0 → (length b ≡ 1) × (byte b 0 < terminals)
  unfolding carrier_fault
  carrier_fine terminals least e =
      let q = equal_fine (nonzero 3) (length b) 1 e in
      (q.0, (below_fine (nonzero 4) (byte b 0) terminals q.1).0)

  pub record HeadFine (nonterminals p : ℕ) : Type 0 where
    pub short : byte b 1 ≤ symbols_limit
    pub long : length b ≡ 2 + byte b 1
    pub few : p < productions_limit
    pub left : byte b 0 < nonterminals

  pub head_fine : (nonterminals p : ℕ) → head_fault nonterminals p b ≡ 0 → HeadFine nonterminals p
  unfolding head_fault
  head_fine nonterminals p e =
      let q = at_most_fine (nonzero 3) 2 (length b) e in
      let u = at_most_fine (nonzero 3) (byte b 1) symbols_limit q.1 in
      let v = equal_fine (nonzero 3) (length b) (2 + byte b 1) u.1 in
      let w = below_fine (nonzero 3) p productions_limit v.1 in
      record { short = u.0; long = v.0; few = w.0; left = (below_fine (nonzero 4) (byte b 0) nonterminals w.1).0 }

  -- without a fault before them the symbols decide
  pub symbols_decide : (terminals nonterminals p : ℕ) → head_fault nonterminals p b ≡ 0 → holds (symbols_known terminals nonterminals b 2) 5 0 ≡ production_fault terminals nonterminals p b
  unfolding production_fault
  symbols_decide terminals nonterminals p e =
      let f = head_fine nonterminals p e in
      at_most_met _ _ _ _ (omega (arith, f.long)) (at_most_met _ _ _ _ f.short (equal_met _ _ _ _ f.long (below_met _ _ _ _ f.few (below_met _ _ _ _ f.left refl))))

  -- else the fault before them is the whole one's
  pub head_decides : (terminals nonterminals p n : ℕ) → n ≡ head_fault nonterminals p b → (n ≡ 0 → ⊥) → n ≡ production_fault terminals nonterminals p b
  unfolding head_fault production_fault at_most equal below
  head_decides terminals nonterminals p n e z =
      first_fails (leb 2 (length b)) 4 _ _ n e
      (λ f.
      first_fails (leb (byte b 1) symbols_limit) 4 _ _ n f
      (λ g.
      first_fails (eqb (length b) (2 + byte b 1)) 4 _ _ n g
      (λ h.
      first_fails (ltb p productions_limit) 4 _ _ n h
      (λ i. first_fails (ltb (byte b 0) nonterminals) 5 _ _ n i (λ j. absurd (z j))))))

  pub record ProductionFine (terminals nonterminals p : ℕ) : Type 0 where
    pub short : byte b 1 ≤ symbols_limit
    pub long : length b ≡ 2 + byte b 1
    pub few : p < productions_limit
    pub left : byte b 0 < nonterminals
    pub symbols : symbols_known terminals nonterminals b 2 ≡ true

  pub production_fine : (terminals nonterminals p : ℕ) → production_fault terminals nonterminals p b ≡ 0 → ProductionFine terminals nonterminals p
  unfolding production_fault
  production_fine terminals nonterminals p e =
      let q = at_most_fine (nonzero 3) 2 (length b) e in
      let u = at_most_fine (nonzero 3) (byte b 1) symbols_limit q.1 in
      let v = equal_fine (nonzero 3) (length b) (2 + byte b 1) u.1 in
      let w = below_fine (nonzero 3) p productions_limit v.1 in
      let x = below_fine (nonzero 4) (byte b 0) nonterminals w.1 in
      record { short = u.0; long = v.0; few = w.0; left = x.0; symbols = (holds_fine (nonzero 4) (symbols_known terminals nonterminals b 2) x.1).0 }
