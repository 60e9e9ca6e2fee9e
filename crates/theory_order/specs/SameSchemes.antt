-- Rules in another order write the same registers, conditions with the same members test the same: schemes correspond.
use Rattle.std.specs.Prelude.{ℕ, zero, suc, ◌+◌, ◌-◌, ◌≤◌, ◌≡◌, refl, Bool, true, false, not, cond, List, [], ◌∷◌, map, length, set, eqb, ltb, ℤ}
use Rattle.std.proofs.Common.{arith, sym, ap, ap₂, subst, ◌∙◌, inl}
use Rattle.std.proofs.Math.Path.{fun_ext}
use Rattle.std.proofs.lemmas.List.{set_comm}
use Rattle.meaning.specs.Base.{cons_if, is_empty, In}
use Rattle.meaning.specs.Grammar.{Symbol, nonterminal, Occurrence, Rule, Condition, Production, Grammar, production_at, symbol_at, added_for, inh, whole, condition_position, map_rule, map_condition, conditions_at}
use Rattle.meaning.specs.Value.{apply, holds, in_range}
use Rattle.meaning.specs.Rules.{Distinct, OutputAt, WellFormed}
use Rattle.meaning.specs.Scheme.{Instruction, add, select_inherited, select_after, syn_between, rules_for, entry_tests, tests_after, inherited_rules, synthesized_rules, removed, symbols_scheme, scheme, expect}
use Rattle.meaning.specs.Machine.{read_register, write_all, scheme_at, entered}
use Rattle.theory_base.specs.WellFormed.{Evaluable}
use Rattle.theory_base.specs.Selectors.{target_of_inherited, target_of_synthesized}
use Rattle.theory_base.specs.Present.{in_for}
use Rattle.theory_base.specs.Evaluations.{occ_eq}
use Rattle.meaning_house.specs.Order.{Shuffled, neither, kept, swapped, through, SameMembers, SameProduction, SameEach}
use Rattle.theory_order.specs.Shuffles.{Apart, apart_shuffled, apart_keep, apart_map, all_shuffled, empty_shuffled, keep_shuffled, map_shuffled, all_members, empty_members, keep_members, map_members}
use Rattle.theory_order.specs.Alike.{SameEffect, Alike, adds, evaluates, awaits, tests, removes, AlikeAll, ended, followed}
use Rattle.theory_order.specs.Each.{redone, redone_is, regrouped, marked_redone, same_at, ready_at}

-- ---- evaluate

abbrev cell : Rule ℕ → ℕ
cell r = r.target - 1

write_shuffled : {rs qs : List (Rule ℕ)} → Shuffled rs qs → Apart cell rs → (old ts : List ℤ) → write_all rs old ts ≡ write_all qs old ts
write_shuffled neither a old ts = refl
write_shuffled (kept r s) a old ts = write_shuffled s a.1 old (set ts (cell r) (apply (read_register old) r.function))
write_shuffled (swapped r q rs) a old ts = ap (λ z. write_all rs old z) (set_comm ts (cell r) (cell q) (apply (read_register old) r.function) (apply (read_register old) q.function) (λ e. a.0 q (inl refl) (sym e)))
write_shuffled (through s t) a old ts = write_shuffled s a old ts ∙ write_shuffled t (apart_shuffled cell s a) old ts

same_effect : {rs qs : List (Rule ℕ)} → Shuffled rs qs → Apart cell rs → SameEffect rs qs
same_effect s a = record { ranged = λ old. all_shuffled (λ r. in_range (apply (read_register old) r.function)) s; written = λ old. write_shuffled s a old old }

pub distinct_apart : (rs : List (Rule Occurrence)) → Distinct rs → Apart (λ r. r.target) rs
distinct_apart [] d = tt
distinct_apart (r ∷ rs) d = (d.0, distinct_apart rs d.1)

pub apart_distinct : (rs : List (Rule Occurrence)) → Apart (λ r. r.target) rs → Distinct rs
apart_distinct [] d = tt
apart_distinct (r ∷ rs) d = (d.0, apart_distinct rs d.1)

-- ---- a production and its like

alike_if : (a b : Bool) → a ≡ b → {i j : Instruction} {is js : List Instruction} → Alike i j → AlikeAll is js → AlikeAll (cons_if a i is) (cons_if b j js)
alike_if a b e {i} {j} {is} {js} x y = subst (λ z. AlikeAll (cons_if a i is) (cons_if z j js)) e (go a)
  where
    go : (c : Bool) → AlikeAll (cons_if c i is) (cons_if c j js)
    go true = followed x y
    go false = y

add_alike : (m n : ℕ) → m ≡ n → {is js : List Instruction} → AlikeAll is js → AlikeAll (cons_if (ltb 0 m) (add m) is) (cons_if (ltb 0 n) (add n) js)
add_alike m n e {is} {js} a = subst (λ z. AlikeAll (cons_if (ltb 0 m) (add m) is) (cons_if (ltb 0 z) (add z) js)) e (alike_if (ltb 0 m) (ltb 0 m) refl (adds m) a)

module _ (g : Grammar) (qs : List Production) (p : Production) (rs : List (Rule Occurrence)) (cs : List (Condition Occurrence)) where
  symbol_redone : (k : ℕ) → symbol_at p k ≡ symbol_at (redone p rs cs) k
  symbol_redone zero = refl
  symbol_redone (suc k) = refl

  added_redone : (x : Symbol) → added_for g x ≡ added_for (regrouped g qs) x
  added_redone x = ap (λ n. inh g x + n) (marked_redone g qs x)

  inherited_redone : (k : ℕ) → select_inherited g p k ≡ select_inherited (regrouped g qs) (redone p rs cs) k
  inherited_redone k = fun_ext (λ o. ap₂ (λ (n : ℕ) (y : Symbol).
      cond (eqb o.position k)
      o.attribute
      (cond (eqb o.position 0)
      (n + syn_between g p 0 (k - 1) + o.attribute)
      (n + syn_between g p o.position (k - 1) + (o.attribute - inh g y)))) (ap (added_for g) (symbol_redone k) ∙ added_redone (symbol_at (redone p rs cs) k)) (symbol_redone o.position))

  after_redone : (k : ℕ) → select_after g p k ≡ select_after (regrouped g qs) (redone p rs cs) k
  after_redone k = fun_ext (λ o. ap (λ y.
      cond (eqb o.position 0)
      (syn_between g p 0 k + o.attribute)
      (syn_between g p o.position k + (o.attribute - inh g y))) (symbol_redone o.position))

  tests_redone : SameMembers p.conditions cs → (k : ℕ) → SameMembers (tests_after g p k) (tests_after (regrouped g qs) (redone p rs cs) k)
  tests_redone c k = subst (λ f. SameMembers (tests_after g p k) (map (map_condition f) (conditions_at (redone p rs cs) k))) (after_redone k)
      (map_members (map_condition (select_after g p k)) (conditions_at p k) (conditions_at (redone p rs cs) k) (keep_members (λ d. eqb (condition_position d) k) p.conditions cs c))

module _ (g : Grammar) (qs : List Production) (p : Production) (rs : List (Rule Occurrence)) (cs : List (Condition Occurrence)) (v : Evaluable g p) (s : Shuffled p.rules rs) (c : SameMembers p.conditions cs) where
  rules_shuffled : (k : ℕ) → Shuffled (rules_for p k) (rules_for (redone p rs cs) k)
  rules_shuffled k = keep_shuffled (λ r. eqb r.target.position k) s

  apart_for : (k : ℕ) → Apart (λ r. r.target) (rules_for p k)
  apart_for k = apart_keep (λ r. r.target) (λ r. eqb r.target.position k) p.rules (distinct_apart p.rules v.distinct)

  inherited_apart : (k : ℕ) → Apart cell (inherited_rules g p (suc k))
  inherited_apart k = apart_map (λ r. r.target) (map_rule (select_inherited g p (suc k))) cell (rules_for p (suc k)) (apart_for (suc k)) one
    where
      first : (r : Rule Occurrence) → In r (rules_for p (suc k)) → (r.target.position ≡ suc k) × (1 ≤ r.target.attribute) × (select_inherited g p (suc k) r.target ≡ r.target.attribute)
      first r i =
          let h = in_for p (suc k) r i in
          let o : OutputAt g p (suc k) r.target.attribute = rw h.0 at (v.targets r h.1) in
          (h.0, o.1, target_of_inherited g p (suc k) r.target h.0)

      one : (x y : Rule Occurrence) → In x (rules_for p (suc k)) → In y (rules_for p (suc k)) → select_inherited g p (suc k) x.target - 1 ≡ select_inherited g p (suc k) y.target - 1 → x.target ≡ y.target
      one x y i j e = let a = first x i in let b = first y j in occ_eq x.target y.target (a.0 ∙ sym b.0) (omega (arith, a.1, a.2, b.1, b.2, e))

  synthesized_apart : Apart cell (synthesized_rules g p)
  synthesized_apart = apart_map (λ r. r.target) (map_rule (select_after g p (length p.right))) cell (rules_for p 0) (apart_for 0) one
    where
      first : (r : Rule Occurrence) → In r (rules_for p 0) → (r.target.position ≡ 0) × (1 ≤ r.target.attribute) × (select_after g p (length p.right) r.target ≡ syn_between g p 0 (length p.right) + r.target.attribute)
      first r i =
          let h = in_for p 0 r i in
          let o : OutputAt g p 0 r.target.attribute = rw h.0 at (v.targets r h.1) in
          (h.0, omega (arith, o.0), target_of_synthesized g p (length p.right) r.target h.0)

      one : (x y : Rule Occurrence) → In x (rules_for p 0) → In y (rules_for p 0) → select_after g p (length p.right) x.target - 1 ≡ select_after g p (length p.right) y.target - 1 → x.target ≡ y.target
      one x y i j e = let a = first x i in let b = first y j in occ_eq x.target y.target (a.0 ∙ sym b.0) (omega (arith, a.1, a.2, b.1, b.2, e))

  inherited_shuffled : (k : ℕ) → Shuffled (inherited_rules g p k) (inherited_rules (regrouped g qs) (redone p rs cs) k)
  inherited_shuffled k = subst (λ f. Shuffled (inherited_rules g p k) (map (map_rule f) (rules_for (redone p rs cs) k))) (inherited_redone g qs p rs cs k) (map_shuffled (map_rule (select_inherited g p k)) (rules_shuffled k))

  synthesized_shuffled : Shuffled (synthesized_rules g p) (synthesized_rules (regrouped g qs) (redone p rs cs))
  synthesized_shuffled = subst (λ f. Shuffled (synthesized_rules g p) (map (map_rule f) (rules_for (redone p rs cs) 0))) (after_redone g qs p rs cs (length p.right)) (map_shuffled (map_rule (select_after g p (length p.right))) (rules_shuffled 0))

  tests_members : (k : ℕ) → SameMembers (tests_after g p k) (tests_after (regrouped g qs) (redone p rs cs) k)
  tests_members k = tests_redone g qs p rs cs c k

  symbols_alike : (k : ℕ) (xs : List Symbol) {is js : List Instruction} → AlikeAll is js → AlikeAll (symbols_scheme g p (suc k) xs is) (symbols_scheme (regrouped g qs) (redone p rs cs) (suc k) xs js)
  symbols_alike k [] a = a
  symbols_alike k (x ∷ xs) a =
      add_alike (added_for g x) (added_for (regrouped g qs) x) (added_redone g qs p rs cs x)
      (alike_if (not (is_empty (inherited_rules g p (suc k)))) (not (is_empty (inherited_rules (regrouped g qs) (redone p rs cs) (suc k)))) (ap not (empty_shuffled (inherited_shuffled (suc k)))) (evaluates (same_effect (inherited_shuffled (suc k)) (inherited_apart k)))
      (followed (awaits x)
      (alike_if (not (is_empty (tests_after g p (suc k)))) (not (is_empty (tests_after (regrouped g qs) (redone p rs cs) (suc k)))) (ap not (empty_members (tests_after g p (suc k)) (tests_after (regrouped g qs) (redone p rs cs) (suc k)) (tests_members (suc k))))
      (tests (λ old. all_members (holds (read_register old)) (tests_after g p (suc k)) (tests_after (regrouped g qs) (redone p rs cs) (suc k)) (tests_members (suc k))))
      (symbols_alike (suc k) xs a))))

  scheme_redone : AlikeAll (scheme g p) (scheme (regrouped g qs) (redone p rs cs))
  scheme_redone = symbols_alike 0 p.right
      (alike_if (not (is_empty (synthesized_rules g p))) (not (is_empty (synthesized_rules (regrouped g qs) (redone p rs cs)))) (ap not (empty_shuffled synthesized_shuffled)) (evaluates (same_effect synthesized_shuffled synthesized_apart))
      (followed (removes (removed g p)) ended))

-- ---- a grammar and its like

module _ (g : Grammar) (w : WellFormed g) (qs : List Production) (s : SameEach g.productions qs) where
  pub scheme_same : (n : ℕ) → AlikeAll (scheme_at g n) (scheme_at (regrouped g qs) n)
  scheme_same n = go (eqb n whole)
    where
      h : Grammar
      h = regrouped g qs

      x : SameProduction (production_at g n) (production_at (regrouped g qs) n)
      x = same_at g qs s n

      go : (b : Bool) → AlikeAll (cond b (expect (nonterminal g.start) ∷ []) (scheme g (production_at g n))) (cond b (expect (nonterminal (regrouped g qs).start) ∷ []) (scheme (regrouped g qs) (production_at (regrouped g qs) n)))
      go true = followed (awaits (nonterminal g.start)) ended
      go false = subst (λ z. AlikeAll (scheme g (production_at g n)) (scheme (regrouped g qs) z)) (redone_is (production_at g n) (production_at (regrouped g qs) n) x)
          (scheme_redone g qs (production_at g n) (production_at (regrouped g qs) n).rules (production_at (regrouped g qs) n).conditions (ready_at g w n) x.rules x.conditions)

-- the entry conditions of a production and of its like
entry_members : (g : Grammar) (qs : List Production) (p q : Production) → SameProduction p q → SameMembers (entry_tests g p) (entry_tests (regrouped g qs) q)
entry_members g qs p q x = subst (λ z. SameMembers (entry_tests g p) (entry_tests (regrouped g qs) z)) (redone_is p q x)
    (tests_redone g qs p q.rules q.conditions x.conditions 0)

pub entered_same : (g : Grammar) (qs : List Production) → SameEach g.productions qs → (rs : List ℤ) (n : ℕ) → entered g rs n ≡ entered (regrouped g qs) rs n
entered_same g qs s rs n = all_members (holds (read_register rs)) (entry_tests g (production_at g n)) (entry_tests (regrouped g qs) (production_at (regrouped g qs) n)) (entry_members g qs (production_at g n) (production_at (regrouped g qs) n) (same_at g qs s n))
