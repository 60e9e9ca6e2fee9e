-- An instruction stands in a scheme exactly where the walk counts a move for it.
use Rattle.std.specs.Prelude.{ℕ, zero, suc, ◌+◌, ◌<◌, ◌≡◌, refl, not, List, [], ◌∷◌, map, length, ltb, eqb}
use Rattle.std.proofs.Common.{arith, sym, ap, ◌∙◌, subst, inl, eqb→eq, lt→ltb}
use Rattle.std.proofs.Math.Dec.{eqb_refl}
use Rattle.meaning.specs.Base.{is_empty, In}
use Rattle.meaning.specs.Grammar.{nonterminal, Rule, Occurrence, Production, Grammar, inh, syn, symbol_at, map_rule, map_condition, conditions_at}
use Rattle.meaning.specs.Scheme.{rules_for, inherited_rules, synthesized_rules, tests_after, select_inherited, select_after}
use Rattle.meaning.specs.Rules.{OutputAt}
use Rattle.meaning.specs.Selectors.{occurrence}
use Rattle.theory_base.specs.Members.{keep_in, in_keep, T→true}
use Rattle.theory_base.specs.WellFormed.{Evaluable}

-- a rule of position k, and back
pub for_in : (p : Production) (k : ℕ) (r : Rule Occurrence) → In r p.rules → r.target.position ≡ k → In r (rules_for p k)
for_in p k r i e = keep_in (λ q. eqb q.target.position k) p.rules r i (rw e (eqb_refl k))

pub in_for : (p : Production) (k : ℕ) (r : Rule Occurrence) → In r (rules_for p k) → (r.target.position ≡ k) × In r p.rules
in_for p k r i = let h = in_keep (λ q. eqb q.target.position k) p.rules r i in (eqb→eq _ _ h.0, h.1)

-- a list has an element exactly where n is above 0
present : {A : Type 0} (xs : List A) (n : ℕ) → ((x : A) → In x xs → 0 < n) → (0 < n → (x : A) × In x xs) → not (is_empty xs) ≡ ltb 0 n
present [] zero h k = refl
present [] (suc n) h k = absurd (k (omega arith)).1
present (x ∷ xs) n h k = sym (T→true (ltb 0 n) (lt→ltb 0 n (h x (inl refl))))

map_empty : {A B : Type 0} (f : A → B) (xs : List A) → is_empty (map f xs) ≡ is_empty xs
map_empty f [] = refl
map_empty f (x ∷ xs) = refl

module _ (g : Grammar) (p : Production) (e : Evaluable g p) where
  -- n is how many attributes the rules of position k set
  rules_present : (k n : ℕ) → ((a : ℕ) → OutputAt g p k a → 0 < n) → (0 < n → (a : ℕ) × OutputAt g p k a) → not (is_empty (rules_for p k)) ≡ ltb 0 n
  rules_present k n out some = present (rules_for p k) n
      (λ r i. let h = in_for p k r i in out r.target.attribute (subst (λ m. OutputAt g p m r.target.attribute) h.0 (e.targets r h.1)))
      (λ l. let o = some l in let r = e.every (occurrence k o.0) o.1 in (r.0, for_in p k r.0 r.1 (ap (λ z. z.position) r.2)))

  pub inherited_present : (k : ℕ) → k < length p.right → not (is_empty (inherited_rules g p (suc k))) ≡ ltb 0 (inh g (symbol_at p (suc k)))
  inherited_present k l =
      ap not (map_empty (map_rule (select_inherited g p (suc k))) (rules_for p (suc k)))
      ∙ rules_present (suc k) (inh g (symbol_at p (suc k))) (λ a o. omega (arith, o.1, o.2)) (λ h. (1, (l, omega arith, h)))

  pub synthesized_present : not (is_empty (synthesized_rules g p)) ≡ ltb 0 (syn g (nonterminal p.left))
  synthesized_present =
      ap not (map_empty (map_rule (select_after g p (length p.right))) (rules_for p 0))
      ∙ rules_present 0 (syn g (nonterminal p.left)) (λ a o. omega (arith, o.0, o.1)) (λ h. (inh g (nonterminal p.left) + 1, (omega arith, omega arith)))

pub tests_present : (g : Grammar) (p : Production) (k : ℕ) → not (is_empty (tests_after g p k)) ≡ not (is_empty (conditions_at p k))
tests_present g p k = ap not (map_empty (map_condition (select_after g p k)) (conditions_at p k))
