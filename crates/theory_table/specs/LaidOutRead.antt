-- A grammar that meets 01's rules is read from every table in which it is laid out.
use Rattle.std.specs.Prelude.{ℕ, suc, ◌+◌, ◌/◌, ◌%◌, ◌≤◌, ◌<◌, ◌≡◌, refl, Bool, true, false, not, ◌&&◌, ◌||◌, List, [], ◌∷◌, ◌++◌, map, reverse, get_or, length, pos, T, eqb, ltb, leb}
use Rattle.std.proofs.Common.{arith, sym, ap, ap₂, ◌∙◌, subst, inl, inr, append_assoc, append-nil, length-append, eqb→eq, le→leb, lt→ltb}
use Rattle.std.proofs.Math.Option.{some}
use Rattle.std.proofs.lemmas.List.{reverse-reverse, length-map, length-reverse, get_or_at}
use Rattle.std.specs.Int.Signed.{le_z}
use Rattle.std.proofs.Math.Facts.{yes_eqb}
use Rattle.meaning.specs.Limits.{rules_limit, conditions_limit, table_limit, attributes_limit, nonterminals_limit, productions_limit, symbols_limit, terminals_limit, divisor_limit}
use Rattle.meaning.specs.Base.{In, all, total}
use Rattle.meaning.specs.Grammar.{Symbol, terminal, nonterminal, Occurrence, Function, Rule, Condition, range, atmost, Production, Counts, no_counts, Grammar, nonterminal_count}
use Rattle.meaning.specs.Rules.{Operands, Operand, Distinct, Rising, Proper, Known, WellFormed, WellFormedProduction}
use Rattle.meaning.specs.Layout as Layout
use Rattle.meaning.specs.Layout.{field, symbol_byte, header_bytes, counts_bytes, production_bytes, rule_bytes, condition_bytes, RulesAndConditions, Productions, counts_fields, carrying_fields, LaidOut}
use Rattle.meaning.specs.Table.{State, Header, Entry, Kind, header, counts, production, rule, condition, carrier, rises, byte, within, symbol_of, symbol_known, rule_length, condition_length, constant_at, operands, reads}
use Rattle.meaning.specs.Table.{occurrence_known, is_input, ordered, has_rule, complete, last_complete, read_field, with_rule, with_condition, well_formed, read_table, nothing_read, production_of, grammar_of}
use Rattle.theory_base.specs.Members.{and, reverse_in, in_all, in_right, in_reverse, map_in, one_more, map_one_more}
use Rattle.theory_table.specs.Reading.{Faultless, tag_of, Full, Next, over, more, reads_table}
use Rattle.theory_table.specs.Reading as Reading
use Rattle.theory_table.specs.Occurrences.{input_over, output_over, operand_over, at_output, operands_map, reads_map, operands_inputs, operands_leftward, reads_inputs, once_set, every_complete}
use Rattle.theory_table.specs.Invariant.{mk}
use Rattle.theory_table.specs.Numbers.{two_bytes, known_back, rule_read, condition_read}

within_is : (low n high : ℕ) → low ≤ n → n ≤ high → T (within low n high)
within_is low n high l h = and (leb low n) (leb n high) (le→leb low n l) (le→leb n high h)

-- a rule is set by none of those before it
distinct_before : (xs : List (Rule Occurrence)) (r : Rule Occurrence) (ys : List (Rule Occurrence)) → Distinct (xs ++ (r ∷ ys)) → (q : Rule Occurrence) → In q xs → q.target ≡ r.target → ⊥
distinct_before [] r ys d q i e = i
distinct_before (x ∷ xs) r ys d q (inl p) e = d.0 r (in_right r xs (r ∷ ys) (inl refl)) (sym e ∙ ap (λ z. z.target) p)
distinct_before (x ∷ xs) r ys d q (inr i) e = distinct_before xs r ys d.1 q i e

proper_test : (c : Condition Occurrence) → Proper c → T (ordered c)
proper_test (range o l h) p = p.2
proper_test (atmost o u c) p = tt

module _ (g : Grammar) (wf : WellFormed g) where
  abbrev header_is : Header
  header_is = record { terminals = g.terminals; nonterminals = nonterminal_count g; start = g.start; result = g.result }

  -- the state where header, counts and carriers are read
  abbrev st : List ℕ → List Entry → ℕ → ℕ → State
  st co es rn cn = mk (some header_is) (reverse g.counts) co (reverse g.carrying) es rn cn

  -- the rest is read, and the grammar is this one
  abbrev Found : State → ℕ → List ℕ → Type 0
  Found s o bs = (u : State) × Reading.Reads s o bs u × (grammar_of u ≡ g)

  found_field : (s : State) (o : ℕ) (k : Kind) (body rest : List ℕ) → Next s k → Faultless s k body → Found (read_field s o k body) (o + 3 + length body) rest → Found s o (field (tag_of k) body ++ rest)
  found_field s o k body rest n p f = (f.0, more k (length body / 256) (length body % 256) body (two_bytes (length body)) n p f.1, f.2)

  full : (co : List ℕ) (es : List Entry) (rn cn : ℕ) → Full (st co es rn cn)
  full co es rn cn = (tt, omega (arith, length-reverse g.counts))

  back : reverse (reverse g.counts) ≡ g.counts
  back = reverse-reverse g.counts

  carried_back : reverse (reverse g.carrying) ≡ g.carrying
  carried_back = reverse-reverse g.carrying

  -- ---- each field passes

  module _ (p : Production) (w : WellFormedProduction g p) (e : Entry) (el : e.left ≡ p.left) (er : e.right ≡ p.right) (co : List ℕ) (es : List Entry) (rn cn : ℕ) where
    abbrev s : State
    s = st co (e ∷ es) rn cn

    rule_passed : (r : Rule Occurrence) → In r p.rules → ((q : Rule Occurrence) → In q e.rules → q.target ≡ r.target → ⊥) → rn < rules_limit → Faultless s rule (rule_bytes r)
    rule_passed r i once room =
        let b : List ℕ = rule_bytes r in
        let k : ℕ = r.target.position in
        let f : Function Occurrence = r.function in
        let q = rule_read r (w.constants r i) in
        let o = at_output s e k r.target.attribute (output_over g (grammar_of s) p (production_of e) (sym back) (sym carried_back) (sym el) (sym er) k r.target.attribute (w.targets r i)) in
        let ops : Operands (Operand (grammar_of s) (production_of e) k) f = operands_map (operand_over g (grammar_of s) p (production_of e) (sym back) (sym carried_back) (sym el) (sym er) k) f (w.operands r i) in
        let ins = operands_inputs s e k f ops in
        let fits : Bool = ltb 8 (byte b 2) || eqb (length b) (rule_length (byte b 2)) in
        let divides : Bool = not (eqb (byte b 2) 8) || (le_z (pos 1) (constant_at b 5) && le_z (constant_at b 5) (pos divisor_limit)) in
        record {
          limits = and (leb 3 (length b) && ltb rn rules_limit && fits) divides (and (leb 3 (length b) && ltb rn rules_limit) fits (and (leb 3 (length b)) (ltb rn rules_limit) q.long (lt→ltb rn rules_limit room)) q.right) q.divides;
          named = subst (λ z. T (leb (byte b 2) 8 && occurrence_known s e z.target && all (occurrence_known s e) (operands z.function))) (sym q.same)
              (and (leb (byte b 2) 8 && occurrence_known s e r.target) (all (occurrence_known s e) (operands f))
              (and (leb (byte b 2) 8) (occurrence_known s e r.target) q.named o.0) ins.0);
          start = tt;
          directions = subst (λ z. T (not (is_input s e z.target) && all (is_input s e) (operands z.function))) (sym q.same) (and (not (is_input s e r.target)) (all (is_input s e) (operands f)) o.1 ins.1);
          once = subst (λ z. T (not (has_rule e z.target))) (sym q.same) (once_set e r once);
          leftward = subst (λ z. T (eqb z.target.position 0 || all (λ u. ltb u.position z.target.position) (operands z.function))) (sym q.same) (operands_leftward s e k f ops);
          bounds = tt;
        }

    condition_passed : (c : Condition Occurrence) → In c p.conditions → cn < conditions_limit → Faultless s condition (condition_bytes c)
    condition_passed c i room =
        let b : List ℕ = condition_bytes c in
        let q = condition_read c (w.proper c i) in
        let ins = reads_inputs s e c (reads_map (λ o u. input_over g (grammar_of s) p (production_of e) (sym back) (sym carried_back) (sym el) (sym er) o.position o.attribute u) c (w.reads c i)) in
        let fits : Bool = ltb 2 (byte b 0) || eqb (length b) (condition_length (byte b 0)) in
        record {
          limits = and (leb 1 (length b) && ltb cn conditions_limit) fits (and (leb 1 (length b)) (ltb cn conditions_limit) q.long (lt→ltb cn conditions_limit room)) q.right;
          named = subst (λ z. T (leb (byte b 0) 2 && all (occurrence_known s e) (reads z))) (sym q.same) (and (leb (byte b 0) 2) (all (occurrence_known s e) (reads c)) q.named ins.0);
          start = tt;
          directions = subst (λ z. T (all (is_input s e) (reads z))) (sym q.same) ins.1;
          once = tt;
          leftward = tt;
          bounds = subst (λ z. T (ordered z)) (sym q.same) (proper_test c (w.proper c i));
        }

    -- a production all of whose rules are read
    whole_entry : production_of e ≡ p → T (complete s e)
    whole_entry q = every_complete s e (λ k a u.
        let r = w.every (record { position = k; attribute = a }) (output_over (grammar_of s) g (production_of e) p back carried_back el er k a u) in
        (r.0, in_reverse r.0 e.rules (subst (λ z. In r.0 z.rules) (sym q) r.1), r.2))

  symbols_back : (xs : List Symbol) → ((x : Symbol) → In x xs → Known g x) → map symbol_of (map symbol_byte xs) ≡ xs
  symbols_back [] h = refl
  symbols_back (x ∷ xs) h = ap₂ ◌∷◌ (known_back g wf x (h x (inl refl))) (symbols_back xs (λ y i. h y (inr i)))

  production_passed : (p : Production) → WellFormedProduction g p → (co : List ℕ) (es : List Entry) (rn cn : ℕ) → length es < productions_limit → Faultless (st co es rn cn) production (production_bytes p)
  production_passed p w co es rn cn room =
      let b : List ℕ = production_bytes p in
      let long = length-map p.right symbol_byte in
      let bytes : List ℕ = map symbol_byte p.right in
      let known_byte : ℕ → Bool = λ n. symbol_known (st co es rn cn) (symbol_of n) in
      let short = and (leb 2 (length b)) (leb (byte b 1) symbols_limit) (le→leb 2 (length b) (omega arith)) (le→leb (byte b 1) symbols_limit w.short) in
      let exact = and (leb 2 (length b) && leb (byte b 1) symbols_limit) (eqb (length b) (2 + byte b 1)) short (yes_eqb {a = length b} {b = 2 + byte b 1} (omega arith)) in
      record {
        limits = and (leb 2 (length b) && leb (byte b 1) symbols_limit && eqb (length b) (2 + byte b 1)) (ltb (length es) productions_limit) exact (lt→ltb (length es) productions_limit room);
        named = and (ltb p.left (nonterminal_count g)) (all known_byte bytes) (lt→ltb p.left (nonterminal_count g) w.left) (in_all known_byte bytes (λ n i. symbol n (map_in symbol_byte p.right n i)));
        start = tt;
        directions = tt;
        once = tt;
        leftward = tt;
        bounds = tt;
      }
    where
      known : (x : Symbol) → Known g x → T (symbol_known (st co es rn cn) x)
      known (terminal t) k = lt→ltb t g.terminals k
      known (nonterminal n) k = lt→ltb n (nonterminal_count g) k

      symbol : (n : ℕ) → (x : Symbol) × In x p.right × (n ≡ symbol_byte x) → T (symbol_known (st co es rn cn) (symbol_of n))
      symbol n v =
          let k = w.symbols v.0 v.1 in
          subst (λ z. T (symbol_known (st co es rn cn) z)) (sym (ap symbol_of v.2 ∙ known_back g wf v.0 k)) (known v.0 k)

  -- ---- the rules and conditions of one production

  abbrev Onward : Production → List ℕ → List Entry → ℕ → ℕ → List ℕ → Type 0
  Onward p co es rn cn rest = (e : Entry) → production_of e ≡ p → (o : ℕ) → Found (st co (e ∷ es) rn cn) o rest

  in_production : {rs : List (Rule Occurrence)} {cs : List (Condition Occurrence)} {body : List ℕ} → RulesAndConditions rs cs body → (p : Production) → WellFormedProduction g p
      → (e : Entry) → e.left ≡ p.left → e.right ≡ p.right → reverse e.rules ++ rs ≡ p.rules → reverse e.conditions ++ cs ≡ p.conditions
      → (co : List ℕ) (es : List Entry) (rn cn rn' cn' o : ℕ) (rest : List ℕ) → rn + length rs ≡ rn' → rn' ≤ rules_limit → cn + length cs ≡ cn' → cn' ≤ conditions_limit
      → Onward p co es rn' cn' rest → Found (st co (e ∷ es) rn cn) o (body ++ rest)
  in_production Layout.nothing p w e el er re ce co es rn cn rn' cn' o rest a b c d k =
      let x : rn ≡ rn' = omega arith in
      let y : cn ≡ cn' = omega arith in
      let re' : reverse e.rules ≡ p.rules = sym (append-nil (reverse e.rules)) ∙ re in
      let ce' : reverse e.conditions ≡ p.conditions = sym (append-nil (reverse e.conditions)) ∙ ce in
      rw (x, y) (k e (λ i. record { left = el i; right = er i; rules = re' i; conditions = ce' i }) o)
  in_production (Layout.rule r {rs} {cs} {bs} ds) p w e el er re ce co es rn cn rn' cn' o rest a b c d k =
      let i : In r p.rules = subst (In r) re (in_right r (reverse e.rules) (r ∷ rs) (inl refl)) in
      let once : (q : Rule Occurrence) → In q e.rules → q.target ≡ r.target → ⊥ = λ q j. distinct_before (reverse e.rules) r rs (subst Distinct (sym re) w.distinct) q (reverse_in q e.rules j) in
      let rest' : Found (st co (with_rule e r ∷ es) (suc rn) cn) (o + 3 + length (rule_bytes r)) (bs ++ rest) = in_production ds p w (with_rule e r) el er (one_more r e.rules rs ∙ re) ce co es (suc rn) cn rn' cn' (o + 3 + length (rule_bytes r)) rest (omega arith) b c d k in
      let next = subst (λ z. Found (st co (with_rule e z ∷ es) (suc rn) cn) (o + 3 + length (rule_bytes r)) (bs ++ rest)) (sym (rule_read r (w.constants r i)).same) rest' in
      let whole = found_field (st co (e ∷ es) rn cn) o rule (rule_bytes r) (bs ++ rest) (full co (e ∷ es) rn cn, omega arith) (rule_passed p w e el er co es rn cn r i once (omega arith)) next in
      subst (λ z. Found (st co (e ∷ es) rn cn) o z) (sym (append_assoc (field 4 (rule_bytes r)) bs rest)) whole
  in_production (Layout.condition q {rs} {cs} {bs} ds) p w e el er re ce co es rn cn rn' cn' o rest a b c d k =
      let i : In q p.conditions = subst (In q) ce (in_right q (reverse e.conditions) (q ∷ cs) (inl refl)) in
      let rest' : Found (st co (with_condition e q ∷ es) rn (suc cn)) (o + 3 + length (condition_bytes q)) (bs ++ rest) = in_production ds p w (with_condition e q) el er re (one_more q e.conditions cs ∙ ce) co es rn (suc cn) rn' cn' (o + 3 + length (condition_bytes q)) rest a b (omega arith) d k in
      let next = subst (λ z. Found (st co (with_condition e z ∷ es) rn (suc cn)) (o + 3 + length (condition_bytes q)) (bs ++ rest)) (sym (condition_read q (w.proper q i)).same) rest' in
      let whole = found_field (st co (e ∷ es) rn cn) o condition (condition_bytes q) (bs ++ rest) (full co (e ∷ es) rn cn, omega arith) (condition_passed p w e el er co es rn cn q i (omega arith)) next in
      subst (λ z. Found (st co (e ∷ es) rn cn) o z) (sym (append_assoc (field 5 (condition_bytes q)) bs rest)) whole

  -- ---- the productions

  abbrev rule_total : List Production → ℕ
  rule_total ps = total (map (λ p. length p.rules) ps)

  abbrev condition_total : List Production → ℕ
  condition_total ps = total (map (λ p. length p.conditions) ps)

  productions_read : {ps : List Production} {bs : List ℕ} → Productions ps bs → (co : List ℕ) (es : List Entry) (rn cn o : ℕ) → map production_of (reverse es) ++ ps ≡ g.productions
      → T (last_complete (st co es rn cn)) → rn + rule_total ps ≤ rules_limit → cn + condition_total ps ≤ conditions_limit → Found (st co es rn cn) o bs
  productions_read Layout.nothing co es rn cn o q t a b =
      let e : map production_of (reverse es) ≡ g.productions = sym (append-nil (map production_of (reverse es))) ∙ q in
      let l : 0 < length es = omega (arith, ap length e, length-map (reverse es) production_of, length-reverse es, wf.productions.0) in
      (st co es rn cn, over (full co es rn cn) l t, λ i. record { terminals = g.terminals; counts = back i; carrying = carried_back i; start = g.start; result = g.result; productions = e i })
  productions_read (Layout.production p {ps} {body} {rest} d ds) co es rn cn o q t a b =
      let i : In p g.productions = subst (In p) q (in_right p (map production_of (reverse es)) (p ∷ ps) (inl refl)) in
      let w = wf.each p i in
      let room : length es < productions_limit = omega (arith, ap length q, length-append (map production_of (reverse es)) (p ∷ ps), length-map (reverse es) production_of, length-reverse es, wf.productions.1) in
      let new : Entry = record { offset = o; left = p.left; right = map symbol_of (map symbol_byte p.right); rules = []; conditions = [] } in
      let rn₁ = rn + length p.rules in
      let cn₁ = cn + length p.conditions in
      found_field (st co es rn cn) o production (production_bytes p) (body ++ rest) (full co es rn cn, t) (production_passed p w co es rn cn room)
      (in_production d p w new refl (symbols_back p.right w.symbols) refl refl co es rn cn rn₁ cn₁ (o + 3 + length (production_bytes p)) rest refl (omega arith) refl (omega arith)
      (λ e u o'. productions_read ds co (e ∷ es) rn₁ cn₁ o' (map_one_more production_of e es ps ∙ ap (λ z. map production_of (reverse es) ++ (z ∷ ps)) u ∙ q) (whole_entry p w e (ap (λ z. z.left) u) (ap (λ z. z.right) u) co es rn₁ cn₁ u) (omega arith) (omega arith)))

  -- ---- the counts

  counts_passed : (co : List ℕ) (done : List Counts) (c : Counts) (todo : List Counts) → reverse done ++ (c ∷ todo) ≡ g.counts → Faultless (mk (some header_is) done co [] [] 0 0) counts (counts_bytes c)
  counts_passed co done c todo q = record {
    limits = le→leb (c.inherited + c.synthesized) attributes_limit (wf.attributes c (subst (In c) q (in_right c (reverse done) (c ∷ todo) (inl refl))));
    named = tt;
    start = go (eqb (length done) g.start) refl;
    directions = tt;
    once = tt;
    leftward = tt;
    bounds = tt;
  }
    where
      this : length done ≡ g.start → get_or g.counts g.start no_counts ≡ c
      this e = subst (λ z. get_or z g.start no_counts ≡ c) q (get_or_at (reverse done) c todo no_counts g.start (length-reverse done ∙ e))

      go : (b : Bool) → eqb (length done) g.start ≡ b → T (not b || (eqb c.inherited 0 && within 1 g.result c.synthesized))
      go false e = tt
      go true e =
          let z = this (eqb→eq (length done) g.start (rw e tt)) in
          and (eqb c.inherited 0) (within 1 g.result c.synthesized) (yes_eqb (sym (ap (λ x. x.inherited) z) ∙ wf.start_alone)) (within_is 1 g.result c.synthesized wf.result.0 (subst (λ x. g.result ≤ x.synthesized) z wf.result.1))

  -- ---- the carriers

  rising_before : (xs : List ℕ) (t : ℕ) (ys : List ℕ) → Rising (xs ++ (t ∷ ys)) → (u : ℕ) → In u xs → u < t
  rising_before [] t ys d u i = absurd i
  rising_before (x ∷ xs) t ys d u (inl p) = rw p (d.0 t (in_right t xs (t ∷ ys) (inl refl)))
  rising_before (x ∷ xs) t ys d u (inr i) = rising_before xs t ys d.1 u i

  carrier_passed : (co done : List ℕ) (t : ℕ) (todo : List ℕ) → reverse done ++ (t ∷ todo) ≡ g.carrying → Faultless (mk (some header_is) (reverse g.counts) co done [] 0 0) carrier (t ∷ [])
  carrier_passed co done t todo q = record {
    limits = tt;
    named = and (ltb t g.terminals) (rises done t) (lt→ltb t g.terminals (wf.carriers t (subst (In t) q (in_right t (reverse done) (t ∷ todo) (inl refl))))) (above done (λ u i. rising_before (reverse done) t todo (subst Rising (sym q) wf.rising) u (reverse_in u done i)));
    start = tt;
    directions = tt;
    once = tt;
    leftward = tt;
    bounds = tt;
  }
    where
      above : (us : List ℕ) → ((u : ℕ) → In u us → u < t) → T (rises us t)
      above [] h = tt
      above (u ∷ us) h = lt→ltb u t (h u (inl refl))

  carriers_read : (todo done co : List ℕ) (o : ℕ) (rest : List ℕ) → reverse done ++ todo ≡ g.carrying → Productions g.productions rest → Found (mk (some header_is) (reverse g.counts) co done [] 0 0) o (carrying_fields todo ++ rest)
  carriers_read [] done co o rest q d =
      let e : reverse g.carrying ≡ done = ap reverse (sym (sym (append-nil (reverse done)) ∙ q)) ∙ reverse-reverse done in
      subst (λ z. Found (mk (some header_is) (reverse g.counts) co z [] 0 0) o rest) e (productions_read d co [] 0 0 o refl tt (omega (arith, wf.rules)) (omega (arith, wf.conditions)))
  carriers_read (t ∷ todo) done co o rest q d =
      let s : State = mk (some header_is) (reverse g.counts) co done [] 0 0 in
      found_field s o carrier (t ∷ []) (carrying_fields todo ++ rest) ((tt, omega (arith, length-reverse g.counts)), refl) (carrier_passed co done t todo q) (carriers_read todo (t ∷ done) co (o + 3 + 1) rest (one_more t done todo ∙ q) d)

  counts_read : (todo done : List Counts) (co : List ℕ) (o : ℕ) (rest : List ℕ) → reverse done ++ todo ≡ g.counts → Productions g.productions rest → Found (mk (some header_is) done co [] [] 0 0) o (counts_fields todo ++ (carrying_fields g.carrying ++ rest))
  counts_read [] done co o rest q d =
      let e : reverse g.counts ≡ done = ap reverse (sym (sym (append-nil (reverse done)) ∙ q)) ∙ reverse-reverse done in
      subst (λ z. Found (mk (some header_is) z co [] [] 0 0) o (carrying_fields g.carrying ++ rest)) e (carriers_read g.carrying [] co o rest refl d)
  counts_read (c ∷ todo) done co o rest q d =
      let s : State = mk (some header_is) done co [] [] 0 0 in
      let l : length done < nonterminal_count g = omega (arith, ap length q, length-append (reverse done) (c ∷ todo), length-reverse done) in
      found_field s o counts (counts_bytes c) (counts_fields todo ++ (carrying_fields g.carrying ++ rest)) (tt, l) (counts_passed co done c todo q) (counts_read todo (c ∷ done) (o ∷ co) (o + 3 + 2) rest (one_more c done todo ∙ q) d)

  -- ---- the whole table

  header_passed : Faultless nothing_read header (header_bytes g)
  header_passed = record {
    limits = and (within 1 g.terminals terminals_limit) (within 1 (nonterminal_count g) nonterminals_limit) (within_is 1 g.terminals terminals_limit wf.terminals.0 wf.terminals.1) (within_is 1 (nonterminal_count g) nonterminals_limit wf.nonterminals.0 wf.nonterminals.1);
    named = lt→ltb g.start (nonterminal_count g) wf.start;
    start = tt;
    directions = tt;
    once = tt;
    leftward = tt;
    bounds = tt;
  }

  table_found : (bs : List ℕ) → LaidOut g bs → Found nothing_read 0 bs
  table_found bs l = subst (Found nothing_read 0) (sym l.is_table) (found_field nothing_read 0 header (header_bytes g) (counts_fields g.counts ++ (carrying_fields g.carrying ++ l.rest)) tt header_passed (counts_read g.counts [] [] 7 l.rest refl l.productions))

pub laid_out_read : (bs : List ℕ) (g : Grammar) → LaidOut g bs → WellFormed g → length bs ≤ table_limit → (s : State) × (read_table bs ≡ well_formed s) × (grammar_of s ≡ g)
laid_out_read bs g l w n = let f = table_found g w bs l in (f.0, reads_table bs f.0 n f.1, f.2)
