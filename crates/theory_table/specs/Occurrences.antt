-- The tests of 5, 7, 8 and 9 on one production as it is read, against 01's inputs and outputs: each test passes exactly where its clause of the rules holds.
use Rattle.std.specs.Prelude.{ℕ, zero, suc, ◌+◌, ◌≤◌, ◌<◌, ◌≡◌, refl, ◌⊎◌, Bool, true, false, not, ◌||◌, cond, List, [], ◌∷◌, length, get_or, T, eqb, ltb, leb}
use Rattle.std.proofs.Common.{arith, sym, ap, ◌∙◌, subst, inl, inr, eqb→eq, leb→le, le→leb, ltb→lt, lt→ltb, T_not}
use Rattle.std.proofs.Math.Dec.{eqb_refl, nleb→lt, eqb-suc-zero, not_T}
use Rattle.meaning.specs.Base.{all, count_from, In}
use Rattle.meaning.specs.Grammar.{Symbol, terminal, nonterminal, Occurrence, Function, const, copy, binary, addc, quot, Rule, Condition, range, atmost, Production, Grammar, Counts, counts_in, inh, att, symbol_at}
use Rattle.meaning.specs.Rules.{Operands, Reads, Input, InputAt, OutputAt, Operand}
use Rattle.meaning.specs.Table.{State, Entry, counts_at, entry_symbol, occurrence_known, is_input, is_inherited, within, operands, reads, same_occurrence, has_rule, occurrences_at, complete, production_of, grammar_of}
use Rattle.theory_base.specs.Members.{both, and, or_cases, or_right, not_not, all_in, in_all, any_in, in_any, in_map, map_in, in_from, from_in, twice_not}

abbrev occ : ℕ → ℕ → Occurrence
occ k a = record { position = k; attribute = a }

-- ---- inputs and outputs depend on the counts, the terminals that carry a value and the symbols alone

abbrev LeftOutput : List Counts → List ℕ → ℕ → ℕ → Type 0
LeftOutput cs ws n a = let c = counts_in cs ws (nonterminal n) in (c.inherited < a) × (a ≤ c.inherited + c.synthesized)

abbrev RightInput : List Counts → List ℕ → List Symbol → ℕ → ℕ → Type 0
RightInput cs ws xs k a = let c = counts_in cs ws (get_or xs k (terminal 0)) in (k < length xs) × (c.inherited < a) × (a ≤ c.inherited + c.synthesized)

abbrev RightOutput : List Counts → List ℕ → List Symbol → ℕ → ℕ → Type 0
RightOutput cs ws xs k a = (k < length xs) × (1 ≤ a) × (a ≤ (counts_in cs ws (get_or xs k (terminal 0))).inherited)

module _ (g g' : Grammar) (p p' : Production) (e : g.counts ≡ g'.counts) (w : g.carrying ≡ g'.carrying) (l : p.left ≡ p'.left) (r : p.right ≡ p'.right) where
  pub input_over : (k a : ℕ) → InputAt g p k a → InputAt g' p' k a
  input_over zero a h = subst (λ (z : List Counts × List ℕ). (1 ≤ a) × (a ≤ (counts_in z.0 z.1 (nonterminal p'.left)).inherited)) (λ i. (e i, w i)) (subst (λ n. (1 ≤ a) × (a ≤ (counts_in g.counts g.carrying (nonterminal n)).inherited)) l h)
  input_over (suc k) a h = subst (λ (z : List Counts × List ℕ). RightInput z.0 z.1 p'.right k a) (λ i. (e i, w i)) (subst (λ xs. RightInput g.counts g.carrying xs k a) r h)

  pub output_over : (k a : ℕ) → OutputAt g p k a → OutputAt g' p' k a
  output_over zero a h = subst (λ (z : List Counts × List ℕ). LeftOutput z.0 z.1 p'.left a) (λ i. (e i, w i)) (subst (λ n. LeftOutput g.counts g.carrying n a) l h)
  output_over (suc k) a h = subst (λ (z : List Counts × List ℕ). RightOutput z.0 z.1 p'.right k a) (λ i. (e i, w i)) (subst (λ xs. RightOutput g.counts g.carrying xs k a) r h)

  pub operand_over : (k : ℕ) (o : Occurrence) → Operand g p k o → Operand g' p' k o
  operand_over zero o h = input_over o.position o.attribute h
  operand_over (suc k) o h = (input_over o.position o.attribute h.0, h.1)

-- ---- one occurrence

same_inherited : (s : State) (x : Symbol) → (counts_at s x).inherited ≡ inh (grammar_of s) x
same_inherited s (terminal t) = refl
same_inherited s (nonterminal n) = refl

same_att : (s : State) (x : Symbol) → (counts_at s x).inherited + (counts_at s x).synthesized ≡ att (grammar_of s) x
same_att s (terminal t) = refl
same_att s (nonterminal n) = refl

same_symbol : (e : Entry) (k : ℕ) → entry_symbol e k ≡ symbol_at (production_of e) k
same_symbol e zero = refl
same_symbol e (suc k) = refl

module _ (s : State) (e : Entry) where
  -- how many attributes the symbol at k has, inherited and in all
  abbrev inh_at : ℕ → ℕ
  inh_at k = (counts_at s (entry_symbol e k)).inherited

  abbrev att_at : ℕ → ℕ
  att_at k = (counts_at s (entry_symbol e k)).inherited + (counts_at s (entry_symbol e k)).synthesized

  inh_is : (k : ℕ) → inh_at k ≡ inh (grammar_of s) (symbol_at (production_of e) k)
  inh_is k = same_inherited s (entry_symbol e k) ∙ ap (inh (grammar_of s)) (same_symbol e k)

  att_is : (k : ℕ) → att_at k ≡ att (grammar_of s) (symbol_at (production_of e) k)
  att_is k = same_att s (entry_symbol e k) ∙ ap (att (grammar_of s)) (same_symbol e k)

  known_facts : (k a : ℕ) → T (occurrence_known s e (occ k a)) → (k ≤ length e.right) × (1 ≤ a) × (a ≤ att (grammar_of s) (symbol_at (production_of e) k))
  known_facts k a h =
      let u = both (leb k (length e.right)) (within 1 a (att_at k)) h in
      let v = both (leb 1 a) (leb a (att_at k)) u.1 in
      (leb→le k (length e.right) u.0, leb→le 1 a v.0, omega (arith, att_is k, leb→le a (att_at k) v.1))

  facts_known : (k a : ℕ) → k ≤ length e.right → 1 ≤ a → a ≤ att (grammar_of s) (symbol_at (production_of e) k) → T (occurrence_known s e (occ k a))
  facts_known k a l m h = and (leb k (length e.right)) (within 1 a (att_at k)) (le→leb k (length e.right) l) (and (leb 1 a) (leb a (att_at k)) (le→leb 1 a m) (le→leb a (att_at k) (omega (arith, att_is k))))

  inherited_yes : (k a : ℕ) → T (is_inherited s e (occ k a)) → a ≤ inh (grammar_of s) (symbol_at (production_of e) k)
  inherited_yes k a h = omega (arith, leb→le a (inh_at k) h, inh_is k)

  inherited_no : (k a : ℕ) → T (not (is_inherited s e (occ k a))) → inh (grammar_of s) (symbol_at (production_of e) k) < a
  inherited_no k a h = omega (arith, nleb→lt a (inh_at k) h, inh_is k)

  yes_inherited : (k a : ℕ) → a ≤ inh (grammar_of s) (symbol_at (production_of e) k) → T (is_inherited s e (occ k a))
  yes_inherited k a h = le→leb a (inh_at k) (omega (arith, inh_is k))

  no_inherited : (k a : ℕ) → inh (grammar_of s) (symbol_at (production_of e) k) < a → T (not (is_inherited s e (occ k a)))
  no_inherited k a h = not_T (leb a (inh_at k)) (λ t. omega (arith, leb→le a (inh_at k) t, inh_is k))

  -- at a right-side position, an input is what is not inherited
  abbrev right_test : ℕ → ℕ → Bool → Bool
  right_test k a b = cond b (is_inherited s e (occ (suc k) a)) (not (is_inherited s e (occ (suc k) a)))

  pub input_at : (k a : ℕ) → T (occurrence_known s e (occ k a)) → T (is_input s e (occ k a)) → InputAt (grammar_of s) (production_of e) k a
  input_at zero a h i = ((known_facts zero a h).1, inherited_yes zero a i)
  input_at (suc k) a h i =
      let u = known_facts (suc k) a h in
      (u.0, inherited_no (suc k) a (subst (λ b. T (right_test k a b)) (eqb-suc-zero k) i), u.2)

  pub output_at : (k a : ℕ) → T (occurrence_known s e (occ k a)) → T (not (is_input s e (occ k a))) → OutputAt (grammar_of s) (production_of e) k a
  output_at zero a h i = (inherited_no zero a i, (known_facts zero a h).2)
  output_at (suc k) a h i =
      let u = known_facts (suc k) a h in
      let v : T (not (not (is_inherited s e (occ (suc k) a)))) = subst (λ b. T (not (right_test k a b))) (eqb-suc-zero k) i in
      (u.0, u.1, inherited_yes (suc k) a (not_not (is_inherited s e (occ (suc k) a)) v))

  pub at_input : (k a : ℕ) → InputAt (grammar_of s) (production_of e) k a → T (occurrence_known s e (occ k a)) × T (is_input s e (occ k a))
  at_input zero a h = (facts_known zero a (omega arith) h.0 (omega (arith, h.1)), yes_inherited zero a h.1)
  at_input (suc k) a h = (facts_known (suc k) a h.0 (omega (arith, h.1)) h.2, subst (λ b. T (right_test k a b)) (sym (eqb-suc-zero k)) (no_inherited (suc k) a h.1))

  pub at_output : (k a : ℕ) → OutputAt (grammar_of s) (production_of e) k a → T (occurrence_known s e (occ k a)) × T (not (is_input s e (occ k a)))
  at_output zero a h = (facts_known zero a (omega arith) (omega (arith, h.0)) h.1, no_inherited zero a h.0)
  at_output (suc k) a h = (facts_known (suc k) a h.0 h.1 (omega (arith, h.2)), subst (λ b. T (not (right_test k a b))) (sym (eqb-suc-zero k)) (twice_not (is_inherited s e (occ (suc k) a)) (yes_inherited (suc k) a h.2)))

-- ---- operands and what a condition reads, as lists

pub operands_all : (P : Occurrence → Type 0) (f : Function Occurrence) → ((o : Occurrence) → In o (operands f) → P o) → Operands P f
operands_all P (const c) h = tt
operands_all P (copy a) h = h a (inl refl)
operands_all P (binary f a b) h = (h a (inl refl), h b (inr (inl refl)))
operands_all P (addc a c) h = h a (inl refl)
operands_all P (quot a c) h = h a (inl refl)

of_one : (P : Occurrence → Type 0) (a : Occurrence) → P a → (o : Occurrence) → In o (a ∷ []) → P o
of_one P a x o (inl e) = rw e x
of_one P a x o (inr i) = absurd i

of_two : (P : Occurrence → Type 0) (a b : Occurrence) → P a × P b → (o : Occurrence) → In o (a ∷ b ∷ []) → P o
of_two P a b x o (inl e) = rw e x.0
of_two P a b x o (inr i) = of_one P b x.1 o i

pub all_operands : (P : Occurrence → Type 0) (f : Function Occurrence) → Operands P f → (o : Occurrence) → In o (operands f) → P o
all_operands P (const c) h o i = absurd i
all_operands P (copy a) h o i = of_one P a h o i
all_operands P (binary f a b) h o i = of_two P a b h o i
all_operands P (addc a c) h o i = of_one P a h o i
all_operands P (quot a c) h o i = of_one P a h o i

pub operands_map : {P Q : Occurrence → Type 0} → ((o : Occurrence) → P o → Q o) → (f : Function Occurrence) → Operands P f → Operands Q f
operands_map {P} {Q} h f u = operands_all Q f (λ o i. h o (all_operands P f u o i))

pub reads_all : (P : Occurrence → Type 0) (c : Condition Occurrence) → ((o : Occurrence) → In o (reads c) → P o) → Reads P c
reads_all P (range a l u) h = h a (inl refl)
reads_all P (atmost a b c) h = (h a (inl refl), h b (inr (inl refl)))

pub all_reads : (P : Occurrence → Type 0) (c : Condition Occurrence) → Reads P c → (o : Occurrence) → In o (reads c) → P o
all_reads P (range a l u) h o i = of_one P a h o i
all_reads P (atmost a b c) h o i = of_two P a b h o i

pub reads_map : {P Q : Occurrence → Type 0} → ((o : Occurrence) → P o → Q o) → (c : Condition Occurrence) → Reads P c → Reads Q c
reads_map {P} {Q} h c u = reads_all Q c (λ o i. h o (all_reads P c u o i))

-- ---- the operands of a rule, and what a condition reads

operand_at : (g : Grammar) (p : Production) (k : ℕ) (o : Occurrence) → Input g p o → T (eqb k 0) ⊎ T (ltb o.position k) → Operand g p k o
operand_at g p zero o i h = i
operand_at g p (suc k) o i (inl h) = absurd (subst T (eqb-suc-zero k) h)
operand_at g p (suc k) o i (inr h) = (i, omega (arith, ltb→lt o.position (suc k) h))

operand_input : (g : Grammar) (p : Production) (k : ℕ) (o : Occurrence) → Operand g p k o → Input g p o
operand_input g p zero o h = h
operand_input g p (suc k) o h = h.0

module _ (s : State) (e : Entry) where
  -- 5, 7 and 9 for the operands of a rule
  pub rule_operands : (k : ℕ) (f : Function Occurrence) → T (all (occurrence_known s e) (operands f)) → T (all (is_input s e) (operands f)) → T (eqb k 0 || all (λ o. ltb o.position k) (operands f)) → Operands (Operand (grammar_of s) (production_of e) k) f
  rule_operands k f h i l = operands_all (Operand (grammar_of s) (production_of e) k) f (λ o m. operand_at (grammar_of s) (production_of e) k o (input o m) (go o m (or_cases (eqb k 0) (all (λ u. ltb u.position k) (operands f)) l)))
    where
      input : (o : Occurrence) → In o (operands f) → Input (grammar_of s) (production_of e) o
      input o m = input_at s e o.position o.attribute (all_in (occurrence_known s e) (operands f) h o m) (all_in (is_input s e) (operands f) i o m)

      go : (o : Occurrence) → In o (operands f) → T (eqb k 0) ⊎ T (all (λ u. ltb u.position k) (operands f)) → T (eqb k 0) ⊎ T (ltb o.position k)
      go o m (inl t) = inl t
      go o m (inr t) = inr (all_in (λ u. ltb u.position k) (operands f) t o m)

  pub operands_inputs : (k : ℕ) (f : Function Occurrence) → Operands (Operand (grammar_of s) (production_of e) k) f → T (all (occurrence_known s e) (operands f)) × T (all (is_input s e) (operands f))
  operands_inputs k f h =
      (in_all (occurrence_known s e) (operands f) (λ o i. (at_input s e o.position o.attribute (at o i)).0), in_all (is_input s e) (operands f) (λ o i. (at_input s e o.position o.attribute (at o i)).1))
    where
      at : (o : Occurrence) → In o (operands f) → Input (grammar_of s) (production_of e) o
      at o i = operand_input (grammar_of s) (production_of e) k o (all_operands (Operand (grammar_of s) (production_of e) k) f h o i)

  pub operands_leftward : (k : ℕ) (f : Function Occurrence) → Operands (Operand (grammar_of s) (production_of e) k) f → T (eqb k 0 || all (λ o. ltb o.position k) (operands f))
  operands_leftward zero f h = tt
  operands_leftward (suc k) f h = or_right (eqb (suc k) 0) (all (λ o. ltb o.position (suc k)) (operands f)) (in_all (λ o. ltb o.position (suc k)) (operands f) (λ o i. lt→ltb o.position (suc k) (omega (arith, (all_operands (Operand (grammar_of s) (production_of e) (suc k)) f h o i).1))))

  pub condition_reads : (c : Condition Occurrence) → T (all (occurrence_known s e) (reads c)) → T (all (is_input s e) (reads c)) → Reads (Input (grammar_of s) (production_of e)) c
  condition_reads c h i = reads_all (Input (grammar_of s) (production_of e)) c (λ o m. input_at s e o.position o.attribute (all_in (occurrence_known s e) (reads c) h o m) (all_in (is_input s e) (reads c) i o m))

  pub reads_inputs : (c : Condition Occurrence) → Reads (Input (grammar_of s) (production_of e)) c → T (all (occurrence_known s e) (reads c)) × T (all (is_input s e) (reads c))
  reads_inputs c h =
      (in_all (occurrence_known s e) (reads c) (λ o i. (at_input s e o.position o.attribute (at o i)).0), in_all (is_input s e) (reads c) (λ o i. (at_input s e o.position o.attribute (at o i)).1))
    where
      at : (o : Occurrence) → In o (reads c) → Input (grammar_of s) (production_of e) o
      at o i = all_reads (Input (grammar_of s) (production_of e)) c h o i

-- ---- 8: one rule for each output

same_refl : (o u : Occurrence) → o ≡ u → T (same_occurrence o u)
same_refl o u e = rw e (and (eqb u.position u.position) (eqb u.attribute u.attribute) (eqb_refl u.position) (eqb_refl u.attribute))

same_is : (o u : Occurrence) → T (same_occurrence o u) → o ≡ u
same_is o u t =
    let h = both (eqb o.position u.position) (eqb o.attribute u.attribute) t in
    let a : o.position ≡ u.position = eqb→eq o.position u.position h.0 in
    let b : o.attribute ≡ u.attribute = eqb→eq o.attribute u.attribute h.1 in
    λ i. record { position = a i; attribute = b i }

pub set_once_lem : (e : Entry) (r : Rule Occurrence) → T (not (has_rule e r.target)) → (q : Rule Occurrence) → In q e.rules → q.target ≡ r.target → ⊥
set_once_lem e r t q i p = T_not (has_rule e r.target) t (in_any (λ u. same_occurrence u.target r.target) e.rules q i (same_refl q.target r.target p))

pub once_set : (e : Entry) (r : Rule Occurrence) → ((q : Rule Occurrence) → In q e.rules → q.target ≡ r.target → ⊥) → T (not (has_rule e r.target))
once_set e r h = not_T (has_rule e r.target) (λ t. let w = any_in (λ u. same_occurrence u.target r.target) e.rules t in h w.0 w.1 (same_is w.0.target r.target w.2))

out_facts : (g : Grammar) (p : Production) (k a : ℕ) → OutputAt g p k a → (k ≤ length p.right) × (1 ≤ a) × (a ≤ att g (symbol_at p k))
out_facts g p zero a h = (omega arith, omega (arith, h.0), h.1)
out_facts g p (suc k) a h = (h.0, h.1, omega (arith, h.2))

module _ (s : State) (e : Entry) where
  abbrev ruled : Occurrence → Bool
  ruled o = is_input s e o || has_rule e o

  pub complete_every : T (complete s e) → (k a : ℕ) → OutputAt (grammar_of s) (production_of e) k a → (r : Rule Occurrence) × In r e.rules × (r.target ≡ occ k a)
  complete_every t k a o =
      let f = out_facts (grammar_of s) (production_of e) k a o in
      let n : ℕ = att_at s e k in
      let u = all_in (λ j. all ruled (occurrences_at s e j)) (count_from 0 (suc (length e.right))) t k (in_from 0 (suc (length e.right)) k (omega arith) (omega (arith, f.0))) in
      let v = all_in ruled (occurrences_at s e k) u (occ k a) (in_map (occ k) (count_from 1 n) a (in_from 1 n a f.1 (omega (arith, f.2, att_is s e k)))) in
      go (or_cases (is_input s e (occ k a)) (has_rule e (occ k a)) v)
    where
      go : T (is_input s e (occ k a)) ⊎ T (has_rule e (occ k a)) → (r : Rule Occurrence) × In r e.rules × (r.target ≡ occ k a)
      go (inl i) = absurd (T_not (is_input s e (occ k a)) (at_output s e k a o).1 i)
      go (inr j) = let w = any_in (λ r. same_occurrence r.target (occ k a)) e.rules j in (w.0, w.1, same_is w.0.target (occ k a) w.2)

  pub every_complete : ((k a : ℕ) → OutputAt (grammar_of s) (production_of e) k a → (r : Rule Occurrence) × In r e.rules × (r.target ≡ occ k a)) → T (complete s e)
  every_complete h = in_all (λ k. all ruled (occurrences_at s e k)) (count_from 0 (suc (length e.right))) (λ k i. in_all ruled (occurrences_at s e k) (λ o j. at k i o (map_in (occ k) (count_from 1 (att_at s e k)) o j)))
    where
      split : (k a : ℕ) → k ≤ length e.right → 1 ≤ a → a ≤ att_at s e k → (b : Bool) → is_input s e (occ k a) ≡ b → T (b || has_rule e (occ k a))
      split k a l m n true q = tt
      split k a l m n false q =
          let c = facts_known s e k a l m (omega (arith, att_is s e k)) in
          let r = h k a (output_at s e k a c (subst (λ b. T (not b)) (sym q) tt)) in
          in_any (λ u. same_occurrence u.target (occ k a)) e.rules r.0 r.1 (same_refl r.0.target (occ k a) r.2)

      at : (k : ℕ) → In k (count_from 0 (suc (length e.right))) → (o : Occurrence) → (a : ℕ) × In a (count_from 1 (att_at s e k)) × (o ≡ occ k a) → T (ruled o)
      at k i o w =
          let f = from_in 0 (suc (length e.right)) k i in
          let d = from_in 1 (att_at s e k) w.0 w.1 in
          subst (λ u. T (ruled u)) (sym w.2) (split k w.0 (omega (arith, f.1)) d.0 (omega (arith, d.1)) (is_input s e (occ k w.0)) refl)
