-- Productions that are the same but for order, one by one; a grammar with other productions.
use Rattle.std.specs.Prelude.{ℕ, zero, suc, ◌≡◌, refl, Bool, true, false, ◌||◌, cond, List, [], ◌∷◌, map, length, get_or, T, eqb, ltb}
use Rattle.std.proofs.Common.{sym, ap, ap₂, subst, inl, inr, true≢false, ltb→lt, nltb→le}
use Rattle.std.proofs.Math.ListN.{get_or-eq_default}
use Rattle.std.proofs.Math.Dec.{not_T}
use Rattle.meaning.specs.Base.{any, keep, cons_if, In}
use Rattle.meaning.specs.Grammar.{Symbol, terminal, nonterminal, Occurrence, Rule, Condition, Production, Grammar, production_at, marked_for, whole_production, whole}
use Rattle.meaning.specs.Rules.{WellFormed}
use Rattle.theory_base.specs.Members.{get_d_in, true→T}
use Rattle.theory_base.specs.WellFormed.{Evaluable, evaluable, evaluable_whole}
use Rattle.meaning_house.specs.Order.{SameProduction, SameEach, SameButOrder}
use Rattle.theory_order.specs.Shuffles.{shuffled_refl, shuffled_sym, members_refl, members_sym}

-- ---- one production

pub same_refl : (p : Production) → SameProduction p p
same_refl p = record { left = refl; right = refl; rules = shuffled_refl p.rules; conditions = members_refl p.conditions }

pub same_sym : {p q : Production} → SameProduction p q → SameProduction q p
same_sym {p} {q} s = record { left = sym s.left; right = sym s.right; rules = shuffled_sym s.rules; conditions = members_sym p.conditions q.conditions s.conditions }

-- p with other rules and conditions
abbrev pub redone : Production → List (Rule Occurrence) → List (Condition Occurrence) → Production
redone p rs cs = record { left = p.left; right = p.right; rules = rs; conditions = cs }

pub redone_is : (p q : Production) → SameProduction p q → redone p q.rules q.conditions ≡ q
redone_is p q s = λ i. record { left = s.left i; right = s.right i; rules = q.rules; conditions = q.conditions }

-- ---- each of a list

pub each_sym : (ps qs : List Production) → SameEach ps qs → SameEach qs ps
each_sym [] [] e = tt
each_sym [] (q ∷ qs) e = e
each_sym (p ∷ ps) [] e = e
each_sym (p ∷ ps) (q ∷ qs) e = (same_sym e.0, each_sym ps qs e.1)

pub each_length : (ps qs : List Production) → SameEach ps qs → length ps ≡ length qs
each_length [] [] e = refl
each_length [] (q ∷ qs) e = absurd e
each_length (p ∷ ps) [] e = absurd e
each_length (p ∷ ps) (q ∷ qs) e = ap suc (each_length ps qs e.1)

pub each_at : (ps qs : List Production) → SameEach ps qs → (n : ℕ) (d : Production) → SameProduction (get_or ps n d) (get_or qs n d)
each_at [] [] e n d = same_refl d
each_at [] (q ∷ qs) e n d = absurd e
each_at (p ∷ ps) [] e n d = absurd e
each_at (p ∷ ps) (q ∷ qs) e zero d = e.0
each_at (p ∷ ps) (q ∷ qs) e (suc n) d = each_at ps qs e.1 n d

-- what stands in one list has its like in the other
pub each_in : (ps qs : List Production) → SameEach ps qs → (q : Production) → In q qs → (p : Production) × In p ps × SameProduction p q
each_in [] [] e q i = absurd i
each_in [] (r ∷ qs) e q i = absurd e
each_in (p ∷ ps) [] e q i = absurd e
each_in (p ∷ ps) (r ∷ qs) e q (inl x) = (p, inl refl, subst (SameProduction p) (sym x) e.0)
each_in (p ∷ ps) (r ∷ qs) e q (inr i) = let v = each_in ps qs e.1 q i in (v.0, inr v.1, v.2)

pub any_each : (f : Production → Bool) → ((p q : Production) → SameProduction p q → f p ≡ f q) → (ps qs : List Production) → SameEach ps qs → any f ps ≡ any f qs
any_each f h [] [] e = refl
any_each f h [] (q ∷ qs) e = absurd e
any_each f h (p ∷ ps) [] e = absurd e
any_each f h (p ∷ ps) (q ∷ qs) e = ap₂ ◌||◌ (h p q e.0) (any_each f h ps qs e.1)

pub map_each : {B : Type 0} (f : Production → B) → ((p q : Production) → SameProduction p q → f p ≡ f q) → (ps qs : List Production) → SameEach ps qs → map f ps ≡ map f qs
map_each f h [] [] e = refl
map_each f h [] (q ∷ qs) e = absurd e
map_each f h (p ∷ ps) [] e = absurd e
map_each f h (p ∷ ps) (q ∷ qs) e = ap₂ ◌∷◌ (h p q e.0) (map_each f h ps qs e.1)

pub keep_each : (f : Production → Bool) → ((p q : Production) → SameProduction p q → f p ≡ f q) → (ps qs : List Production) → SameEach ps qs → SameEach (keep f ps) (keep f qs)
keep_each f h [] [] e = tt
keep_each f h [] (q ∷ qs) e = absurd e
keep_each f h (p ∷ ps) [] e = absurd e
keep_each f h (p ∷ ps) (q ∷ qs) e = go (f p) (f q) (h p q e.0) (keep_each f h ps qs e.1)
  where
    go : (a b : Bool) → a ≡ b → SameEach (keep f ps) (keep f qs) → SameEach (cons_if a p (keep f ps)) (cons_if b q (keep f qs))
    go true true x s = (e.0, s)
    go true false x s = absurd (true≢false x)
    go false true x s = absurd (true≢false (sym x))
    go false false x s = s

-- ---- a grammar with other productions

abbrev pub regrouped : Grammar → List Production → Grammar
regrouped g qs = record { terminals = g.terminals; counts = g.counts; carrying = g.carrying; start = g.start; result = g.result; productions = qs }

pub regrouped_is : (g h : Grammar) → SameButOrder g h → regrouped g h.productions ≡ h
regrouped_is g h s = λ i. record { terminals = s.terminals i; counts = s.counts i; carrying = s.carrying i; start = s.start i; result = s.result i; productions = h.productions }

-- a symbol is waited at with the same registers
pub marked_redone : (g : Grammar) (qs : List Production) (x : Symbol) → marked_for g x ≡ marked_for (regrouped g qs) x
marked_redone g qs (terminal t) = refl
marked_redone g qs (nonterminal n) = refl

pub same_at : (g : Grammar) (qs : List Production) → SameEach g.productions qs → (n : ℕ) → SameProduction (production_at g n) (production_at (regrouped g qs) n)
same_at g qs e n = go (eqb n whole)
  where
    go : (b : Bool) → SameProduction (cond b (whole_production g) (get_or g.productions n (whole_production g))) (cond b (whole_production g) (get_or qs n (whole_production g)))
    go true = same_refl (whole_production g)
    go false = each_at g.productions qs e n (whole_production g)

-- whatever the number, its production's rules are in order
pub ready_at : (g : Grammar) → WellFormed g → (n : ℕ) → Evaluable g (production_at g n)
ready_at g w n = go (eqb n whole) (ltb n (length g.productions)) refl
  where
    go : (b c : Bool) → ltb n (length g.productions) ≡ c → Evaluable g (cond b (whole_production g) (get_or g.productions n (whole_production g)))
    go true c e = evaluable_whole g w
    go false true e = evaluable (w.each (get_or g.productions n (whole_production g)) (get_d_in g.productions n (whole_production g) (ltb→lt n (length g.productions) (true→T (ltb n (length g.productions)) e))))
    go false false e = subst (Evaluable g) (sym (get_or-eq_default g.productions (whole_production g) (nltb→le n (length g.productions) (not_T (ltb n (length g.productions)) (λ t. subst T e t))))) (evaluable_whole g w)
