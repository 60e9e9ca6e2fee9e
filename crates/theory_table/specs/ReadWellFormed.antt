-- A table read without one of refusals 1 to 10 holds a grammar that meets 01's rules.
use Rattle.std.specs.Prelude.{ℕ, ◌+◌, ◌<◌, ◌≡◌, refl, ◌⊎◌, length, T}
use Rattle.std.proofs.Common.{arith, sym, ap, ◌∙◌, subst, inl, inr}
use mathlib.Core.List.{List, [], ◌∷◌, map, reverse, reverse_aux}
use Rattle.std.proofs.lemmas.List.{length-map, length-reverse}
use Rattle.meaning.specs.Base.{In, total}
use Rattle.meaning.specs.Grammar.{Symbol, terminal, nonterminal, Occurrence, Rule, Production, Grammar}
use Rattle.meaning.specs.Rules.{Distinct, Rising, Known, WellFormed, WellFormedProduction}
use Rattle.meaning.specs.Table.{State, Entry, header_of, complete, last_complete, well_formed, read_table, production_of, grammar_of}
use Rattle.theory_base.specs.Members.{in_reverse, reverse_in, map_in}
use Rattle.theory_table.specs.Reading.{Reads, over, more, Full, table_reads}
use Rattle.theory_table.specs.Occurrences.{input_over, output_over, operand_over, operands_map, reads_map, complete_every}
use Rattle.theory_table.specs.Invariant.{KnownIn, Falling, EntryOk, Inv, nothing_yet, all_complete, keeps, counts_only, bare, rule_count, condition_count}

-- ---- what holds at the end

pub record Whole (s : State) : Type 0 where
  pub inv : Inv s
  pub full : Full s
  pub some_entry : 0 < length s.entries
  pub last : T (last_complete s)

pub whole : {s u : State} {o : ℕ} {bs : List ℕ} → Reads s o bs u → Inv s → Whole u
whole (over f l t) v = record { inv = v; full = f; some_entry = l; last = t }
whole {s} (more {o = o} k high low body e n p r) v = whole r (keeps s o k body v n p)

pub whole_table : (bs : List ℕ) (s : State) → read_table bs ≡ well_formed s → Whole s
whole_table bs s e = whole (table_reads bs s e).1 nothing_yet

-- ---- lists turned round

distinct_aux : (l r : List (Rule Occurrence)) → Distinct l → Distinct r → ((q u : Rule Occurrence) → In q l → In u r → q.target ≡ u.target → ⊥) → Distinct (reverse_aux l r)
distinct_aux [] r d e c = e
distinct_aux (x ∷ l) r d e c = distinct_aux l (x ∷ r) d.1 ((λ q i p. c x q (inl refl) i (sym p)), e) cross
  where
    cross : (q u : Rule Occurrence) → In q l → (u ≡ x) ⊎ In u r → q.target ≡ u.target → ⊥
    cross q u i (inl p) z = d.0 q i (z ∙ ap (λ w. w.target) p)
    cross q u i (inr j) z = c q u (inr i) j z

pub distinct_reverse : (l : List (Rule Occurrence)) → Distinct l → Distinct (reverse l)
distinct_reverse l d = distinct_aux l [] d tt (λ q u i j z. j)

rising_aux : (l r : List ℕ) → Falling l → Rising r → ((t u : ℕ) → In t l → In u r → t < u) → Rising (reverse_aux l r)
rising_aux [] r d e c = e
rising_aux (x ∷ l) r d e c = rising_aux l (x ∷ r) d.1 ((λ u i. c x u (inl refl) i), e) cross
  where
    cross : (t u : ℕ) → In t l → (u ≡ x) ⊎ In u r → t < u
    cross t u i (inl p) = rw p (d.0 t i)
    cross t u i (inr j) = c t u (inr i) j

pub rising_reverse : (l : List ℕ) → Falling l → Rising (reverse l)
rising_reverse l d = rising_aux l [] d tt (λ t u i j. absurd j)

total_aux : {A : Type 0} (f : A → ℕ) (l r : List A) → total (map f (reverse_aux l r)) ≡ total (map f l) + total (map f r)
total_aux f [] r = omega arith
total_aux f (x ∷ l) r = let z = total_aux f l (x ∷ r) in omega arith

pub total_reverse : {A : Type 0} (f : A → ℕ) (l : List A) → total (map f (reverse l)) ≡ total (map f l)
total_reverse f l = let z = total_aux f l [] in omega arith

total_same : {A B : Type 0} (f : B → ℕ) (h : A → B) (k : A → ℕ) → ((x : A) → f (h x) ≡ k x) → (l : List A) → total (map f (map h l)) ≡ total (map k l)
total_same f h k e [] = refl
total_same f h k e (x ∷ l) = let z = total_same f h k e l in omega (arith, e x)

-- how many rules and conditions the productions of a state have
pub rule_total_lem : (es : List Entry) → total (map (λ p. length p.rules) (map production_of (reverse es))) ≡ rule_count es
rule_total_lem es = total_same (λ p. length p.rules) production_of (λ e. length e.rules) (λ e. length-reverse e.rules) (reverse es) ∙ total_reverse (λ e. length e.rules) es

pub condition_total_lem : (es : List Entry) → total (map (λ p. length p.conditions) (map production_of (reverse es))) ≡ condition_count es
condition_total_lem es = total_same (λ p. length p.conditions) production_of (λ e. length e.conditions) (λ e. length-reverse e.conditions) (reverse es) ∙ total_reverse (λ e. length e.conditions) es

-- ---- the grammar

module _ (s : State) (w : Whole s) where
  abbrev g : Grammar
  g = grammar_of s

  pub all_counted : length g.counts ≡ (header_of s).nonterminals
  all_counted = omega (arith, length-reverse s.counts, w.inv.few_counts, w.full.1)

  known : (x : Symbol) → KnownIn (header_of s) x → Known g x
  known (terminal t) k = k
  known (nonterminal n) k = omega (arith, all_counted)

  production_formed : (e : Entry) → EntryOk (header_of s) s.counts s.carrying e → T (complete s e) → WellFormedProduction g (production_of e)
  production_formed e k c =
      let g' : Grammar = counts_only s.counts s.carrying in
      record {
        left = omega (arith, all_counted, k.left);
        short = k.short;
        symbols = λ x i. known x (k.symbols x i);
        targets = λ r i. output_over g' g (bare e) (production_of e) refl refl refl refl r.target.position r.target.attribute (k.targets r (in_reverse r e.rules i));
        distinct = distinct_reverse e.rules k.distinct;
        every = λ o u. let r = complete_every s e c o.position o.attribute u in (r.0, reverse_in r.0 e.rules r.1, r.2);
        operands = λ r i. operands_map (operand_over g' g (bare e) (production_of e) refl refl refl refl r.target.position) r.function (k.operands r (in_reverse r e.rules i));
        constants = λ r i. k.constants r (in_reverse r e.rules i);
        reads = λ q i. reads_map (λ o u. input_over g' g (bare e) (production_of e) refl refl refl refl o.position o.attribute u) q (k.reads q (in_reverse q e.conditions i));
        proper = λ q i. k.proper q (in_reverse q e.conditions i);
      }

  each_formed : (p : Production) → In p g.productions → WellFormedProduction g p
  each_formed p i =
      let m = map_in production_of (reverse s.entries) p i in
      let j = in_reverse m.0 s.entries m.1 in
      subst (WellFormedProduction g) (sym m.2) (production_formed m.0 (w.inv.entries m.0 j) (all_complete s w.inv w.last m.0 j))

  grammar_formed : WellFormed g
  grammar_formed =
      let h = w.inv.header w.full.0 in
      let many = length-map (reverse s.entries) production_of in
      let many' = length-reverse s.entries in
      let start = w.inv.start_ok (omega (arith, h.start, w.full.1)) in
      record {
        terminals = h.terminals;
        nonterminals = (omega (arith, all_counted, h.nonterminals.0), omega (arith, all_counted, h.nonterminals.1));
        start = omega (arith, all_counted, h.start);
        attributes = λ c i. w.inv.attributes c (in_reverse c s.counts i);
        carriers = λ t i. w.inv.carriers t (in_reverse t s.carrying i);
        rising = rising_reverse s.carrying w.inv.falling;
        start_alone = start.0;
        result = (start.1, start.2);
        productions = (omega (arith, many, many', w.some_entry), omega (arith, many, many', w.inv.few_entries));
        rules = omega (arith, rule_total_lem s.entries, w.inv.rules.0, w.inv.rules.1);
        conditions = omega (arith, condition_total_lem s.entries, w.inv.conditions.0, w.inv.conditions.1);
        each = each_formed;
      }

pub read_well_formed : (bs : List ℕ) (s : State) → read_table bs ≡ well_formed s → WellFormed (grammar_of s)
read_well_formed bs s e = grammar_formed s (whole_table bs s e)
