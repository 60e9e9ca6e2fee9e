-- Grammars that are the same but for order: well-formed, useful, without left recursion and without clashes together.
use Rattle.std.specs.Prelude.{ℕ, zero, suc, ◌≤◌, ◌<◌, ◌≡◌, refl, ◌⊎◌, not, List, [], ◌∷◌, ◌++◌, map, length, T, eqb, ℤ}
use Rattle.std.proofs.Common.{sym, ap, subst, ◌∙◌, inl, inr}
use Rattle.std.proofs.Math.Path.{fun_ext}
use Rattle.meaning.specs.Limits.{rules_limit, conditions_limit, productions_limit}
use Rattle.meaning.specs.Base.{In, all, total}
use Rattle.meaning.specs.Grammar.{Symbol, terminal, nonterminal, Rule, Condition, Occurrence, Production, Grammar, production_at, inh, Look, token, over, nonterminal_count, condition_position, conditions_at}
use Rattle.meaning.specs.Value.{holds, in_range}
use Rattle.meaning.specs.Rules.{WellFormed, WellFormedProduction, Known, Input, InputAt, Output, OutputAt, Operand, Operands, Reads}
use Rattle.meaning.specs.Derivation.{Listed, Derives, itself, step, start_form, Reachable, Productive, LeftRecursive, Follow, Starts, entry_conditional, entry_value, Enters, Clash}
use Rattle.meaning.specs.Judgement.{AllUseful, NoneRecursive, NoneClash}
use Rattle.meaning_house.specs.Order.{SameProduction, SameEach, SameButOrder, SameMembers}
use Rattle.theory_order.specs.Shuffles.{shuffled_in, shuffled_sym, length_shuffled, apart_shuffled, all_members, empty_members, keep_members}
use Rattle.theory_order.specs.Each.{redone, redone_is, regrouped, regrouped_is, each_sym, each_length, each_in, map_each, same_at}
use Rattle.theory_order.specs.SameSchemes.{distinct_apart, apart_distinct}

pub same_but_sym : (g h : Grammar) → SameButOrder g h → SameButOrder h g
same_but_sym g h s = record { terminals = sym s.terminals; counts = sym s.counts; carrying = sym s.carrying; start = sym s.start; result = sym s.result; productions = each_sym g.productions h.productions s.productions }

-- ---- 4 to 10

module _ (g : Grammar) (qs : List Production) (p : Production) (rs : List (Rule Occurrence)) (cs : List (Condition Occurrence)) where
  known_redone : (x : Symbol) → Known g x ≡ Known (regrouped g qs) x
  known_redone (terminal t) = refl
  known_redone (nonterminal n) = refl

  input_redone : (o : Occurrence) → Input g p o ≡ Input (regrouped g qs) (redone p rs cs) o
  input_redone o = go o.position o.attribute
    where
      go : (k a : ℕ) → InputAt g p k a ≡ InputAt (regrouped g qs) (redone p rs cs) k a
      go zero a = refl
      go (suc k) a = refl

  output_redone : (o : Occurrence) → Output g p o ≡ Output (regrouped g qs) (redone p rs cs) o
  output_redone o = go o.position o.attribute
    where
      go : (k a : ℕ) → OutputAt g p k a ≡ OutputAt (regrouped g qs) (redone p rs cs) k a
      go zero a = refl
      go (suc k) a = refl

  operand_redone : (k : ℕ) → Operand g p k ≡ Operand (regrouped g qs) (redone p rs cs) k
  operand_redone zero = fun_ext input_redone
  operand_redone (suc k) = fun_ext (λ o. ap (λ I. I × (o.position ≤ k)) (input_redone o))

redone_well : (g : Grammar) (qs : List Production) (p q : Production) → SameProduction p q → WellFormedProduction g p → WellFormedProduction (regrouped g qs) (redone p q.rules q.conditions)
redone_well g qs p q s w = record {
  left = w.left;
  short = w.short;
  symbols = λ x i. subst (λ A. A) (known_redone g qs p q.rules q.conditions x) (w.symbols x i);
  targets = λ r i. subst (λ A. A) (output_redone g qs p q.rules q.conditions r.target) (w.targets r (back r i));
  distinct = apart_distinct q.rules (apart_shuffled (λ r. r.target) s.rules (distinct_apart p.rules w.distinct));
  every = λ o u. let r = w.every o (subst (λ A. A) (sym (output_redone g qs p q.rules q.conditions o)) u) in (r.0, shuffled_in s.rules r.0 r.1, r.2);
  operands = λ r i. subst (λ P. Operands P r.function) (operand_redone g qs p q.rules q.conditions r.target.position) (w.operands r (back r i));
  constants = λ r i. w.constants r (back r i);
  reads = λ c i. subst (λ P. Reads P c) (fun_ext (input_redone g qs p q.rules q.conditions)) (w.reads c ((s.conditions c).1 i));
  proper = λ c i. w.proper c ((s.conditions c).1 i);
}
  where
    back : (r : Rule Occurrence) → In r q.rules → In r p.rules
    back r i = shuffled_in (shuffled_sym s.rules) r i

abbrev pub FewConditions : Grammar → Type 0
FewConditions g = total (map (λ p. length p.conditions) g.productions) ≤ conditions_limit

well_regrouped : (g : Grammar) (qs : List Production) → SameEach g.productions qs → WellFormed g → FewConditions (regrouped g qs) → WellFormed (regrouped g qs)
well_regrouped g qs s w few = record {
  terminals = w.terminals;
  nonterminals = w.nonterminals;
  start = w.start;
  attributes = w.attributes;
  carriers = w.carriers;
  rising = w.rising;
  start_alone = w.start_alone;
  result = w.result;
  productions = subst (λ n. (1 ≤ n) × (n ≤ productions_limit)) (each_length g.productions qs s) w.productions;
  rules = subst (λ n. n ≤ rules_limit) (ap total (map_each (λ p. length p.rules) (λ p q x. length_shuffled x.rules) g.productions qs s)) w.rules;
  conditions = few;
  each = λ q i. let v = each_in g.productions qs s q i in subst (WellFormedProduction (regrouped g qs)) (redone_is v.0 q v.2) (redone_well g qs v.0 q v.2 (w.each v.0 v.1));
}

-- (duplicates count among the 512 conditions)
pub well_formed_same : (g h : Grammar) → SameButOrder g h → WellFormed g → FewConditions h → WellFormed h
well_formed_same g h s w few = subst WellFormed (regrouped_is g h s) (well_regrouped g h.productions s.productions w (subst FewConditions (sym (regrouped_is g h s)) few))

-- ---- 11 to 13: what they read of a grammar

pub record SameSides (g h : Grammar) : Type 0 where
  pub start : g.start ≡ h.start
  pub nonterminals : nonterminal_count g ≡ nonterminal_count h
  pub listed : length g.productions ≡ length h.productions
  pub lefts : (n : ℕ) → (production_at g n).left ≡ (production_at h n).left
  pub rights : (n : ℕ) → (production_at g n).right ≡ (production_at h n).right
  pub inherited : (n : ℕ) → inh g (nonterminal n) ≡ inh h (nonterminal n)
  pub conditional : (n : ℕ) → entry_conditional g n ≡ entry_conditional h n
  pub enters : (vs : List ℤ) (n : ℕ) → all (holds (entry_value vs)) (conditions_at (production_at g n) 0) ≡ all (holds (entry_value vs)) (conditions_at (production_at h n) 0)

sides_regrouped : (g : Grammar) (qs : List Production) → SameEach g.productions qs → SameSides g (regrouped g qs)
sides_regrouped g qs s = record {
  start = refl;
  nonterminals = refl;
  listed = each_length g.productions qs s;
  lefts = λ n. (same_at g qs s n).left;
  rights = λ n. (same_at g qs s n).right;
  inherited = λ n. refl;
  conditional = λ n. ap not (empty_members (conditions_at (production_at g n) 0) (conditions_at (production_at (regrouped g qs) n) 0) (same_entries n));
  enters = λ vs n. all_members (holds (entry_value vs)) (conditions_at (production_at g n) 0) (conditions_at (production_at (regrouped g qs) n) 0) (same_entries n);
}
  where
    same_entries : (n : ℕ) → SameMembers (conditions_at (production_at g n) 0) (conditions_at (production_at (regrouped g qs) n) 0)
    same_entries n = keep_members (λ c. eqb (condition_position c) 0) (production_at g n).conditions (production_at (regrouped g qs) n).conditions (same_at g qs s n).conditions

pub same_sides : (g h : Grammar) → SameButOrder g h → SameSides g h
same_sides g h s = subst (SameSides g) (regrouped_is g h s) (sides_regrouped g h.productions s.productions)

module _ (g h : Grammar) (s : SameSides g h) where
  listed_same : (p : ℕ) → Listed g p → Listed h p
  listed_same p l = subst (λ n. p < n) s.listed l

  pub derives_same : {xs ys : List Symbol} → Derives g xs ys → Derives h xs ys
  derives_same itself = itself
  derives_same (step p b a {ys} l d) =
      subst (λ n. Derives h (b ++ (nonterminal n ∷ a)) ys) (sym (s.lefts p))
      (step p b a (listed_same p l) (subst (λ xs. Derives h (b ++ (xs ++ a)) ys) (s.rights p) (derives_same d)))

  from_start : {ys : List Symbol} → Derives g (start_form g) ys → Derives h (start_form h) ys
  from_start {ys} d = subst (λ n. Derives h (nonterminal n ∷ []) ys) s.start (derives_same d)

  from_right : (p : ℕ) {ys : List Symbol} → Derives g (production_at g p).right ys → Derives h (production_at h p).right ys
  from_right p {ys} d = subst (λ xs. Derives h xs ys) (s.rights p) (derives_same d)

  reachable_same : (n : ℕ) → Reachable g n → Reachable h n
  reachable_same n r = (r.0, r.1, from_start r.2)

  productive_same : (n : ℕ) → Productive g n → Productive h n
  productive_same n r = (r.0, derives_same r.1)

  recursive_same : (n : ℕ) → LeftRecursive g n → LeftRecursive h n
  recursive_same n r = (r.0, r.1, listed_same r.0 r.2, sym (s.lefts r.0) ∙ r.3, from_right r.0 r.4)

  follow_there : (n : ℕ) (l : Look) → Follow g n l → Follow h n l
  follow_there n (token u) r = (r.0, r.1, from_start r.2)
  follow_there n over r = (r.0, from_start r.1)

  follow_left : (p : ℕ) (l : Look) → Follow g (production_at g p).left l → Follow h (production_at h p).left l
  follow_left p l r = subst (λ n. Follow h n l) (s.lefts p) (follow_there (production_at g p).left l r)

  starts_there : (p : ℕ) (l : Look) → Starts g p l → Starts h p l
  starts_there p (token u) (inl r) = inl (r.0, from_right p r.1)
  starts_there p (token u) (inr r) = inr (from_right p r.0, follow_left p (token u) r.1)
  starts_there p over r = (from_right p r.0, follow_left p over r.1)

  clash_same : (p q : ℕ) → Clash g p q → Clash h p q
  clash_same p q c = record {
    left = sym (s.lefts p) ∙ (c.left ∙ s.lefts q);
    meet = (c.meet.0, starts_there p c.meet.0 c.meet.1, starts_there q c.meet.0 c.meet.2);
    enter = go c.enter;
  }
    where
      go : T (not (entry_conditional g p)) ⊎ (T (not (entry_conditional g q)) ⊎ ((vs : List ℤ) × (length vs ≡ inh g (nonterminal (production_at g p).left)) × T (all in_range vs) × Enters g vs p × Enters g vs q))
          → T (not (entry_conditional h p)) ⊎ (T (not (entry_conditional h q)) ⊎ ((vs : List ℤ) × (length vs ≡ inh h (nonterminal (production_at h p).left)) × T (all in_range vs) × Enters h vs p × Enters h vs q))
      go (inl t) = inl (subst (λ b. T (not b)) (s.conditional p) t)
      go (inr (inl t)) = inr (inl (subst (λ b. T (not b)) (s.conditional q) t))
      go (inr (inr v)) = inr (inr (v.0, v.1 ∙ (s.inherited (production_at g p).left ∙ ap (λ n. inh h (nonterminal n)) (s.lefts p)), v.2, subst T (s.enters v.0 p) v.3, subst T (s.enters v.0 q) v.4))

  pub useful_same : AllUseful g → AllUseful h
  useful_same u n l = let r = u n (subst (λ k. n < k) (sym s.nonterminals) l) in (reachable_same n r.0, productive_same n r.1)

module _ (g h : Grammar) (s : SameSides g h) (t : SameSides h g) where
  pub none_recursive_same : NoneRecursive g → NoneRecursive h
  none_recursive_same u n l r = u n (subst (λ k. n < k) t.nonterminals l) (recursive_same h g t n r)

  pub none_clash_same : NoneClash g → NoneClash h
  none_clash_same u p l c = u p (listed_same h g t p l) (c.0, c.1, clash_same h g t p c.0 c.2)

-- ---- together

pub record Accepts (g : Grammar) : Type 0 where
  pub well_formed : WellFormed g
  pub useful : AllUseful g
  pub no_recursion : NoneRecursive g
  pub no_clash : NoneClash g

pub accepts_same : (g h : Grammar) → SameButOrder g h → FewConditions h → Accepts g → Accepts h
accepts_same g h s few a =
    let x = same_sides g h s in
    let y = same_sides h g (same_but_sym g h s) in
    record { well_formed = well_formed_same g h s a.well_formed few; useful = useful_same g h x a.useful; no_recursion = none_recursive_same g h x y a.no_recursion; no_clash = none_clash_same g h x y a.no_clash }
