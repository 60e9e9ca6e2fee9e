-- What holds of everything read so far, and that each field that passes keeps it.
use Rattle.std.specs.Prelude.{ℕ, zero, suc, ◌+◌, ◌-◌, ◌*◌, ◌≤◌, ◌<◌, ◌≡◌, refl, ◌⊎◌, Bool, true, false, not, ◌&&◌, ◌||◌, get_or, length, drop, ℤ, pos, negsuc, T, eqb, ltb, leb}
use Rattle.std.proofs.Common.{arith, sym, ◌∙◌, subst, inl, inr, length-drop, eqb→eq, leb→le, le→leb, ltb→lt, nltb→le, T_not}
use Rattle.std.proofs.Math.Option.{Option, none, some}
use mathlib.Core.List.{List, [], ◌∷◌, ◌++◌, map, reverse, reverse-cons}
use Rattle.std.proofs.lemmas.List.{length-map, length-reverse, get_or_at}
use Rattle.std.proofs.Math.ListN.{get_or-append}
use Rattle.std.specs.Int.Signed.{le_z}
use Rattle.std.proofs.Math.Dec.{eqb_refl}
use Rattle.meaning.specs.Limits.{rules_limit, conditions_limit, attributes_limit, nonterminals_limit, productions_limit, symbols_limit, terminals_limit, divisor_limit}
use Rattle.meaning.specs.Base.{all, In, total}
use Rattle.meaning.specs.Grammar.{Symbol, terminal, nonterminal, Occurrence, Function, const, functions_of, Rule, Condition, range, atmost, Production, Counts, no_counts, Grammar}
use Rattle.meaning.specs.Rules.{Operands, Reads, Input, Output, Operand, Distinct, Constant, Proper, InFourBytes}
use Rattle.meaning.specs.Table as Table
use Rattle.meaning.specs.Table.{State, Header, Entry, Kind, header, counts, production, rule, condition, carrier, no_header, header_of, is_some, byte, signed, constant_at, occurrence_at, within, symbol_of, symbol_known, function_of}
use Rattle.meaning.specs.Table.{rule_of, condition_of, occurrence_known, is_input, ordered, has_rule, complete, last_complete, read_field, with_rule, with_condition, rises, production_of, grammar_of, nothing_read}
use Rattle.theory_base.specs.Members.{both, in_some, all_in, map_in}
use Rattle.theory_table.specs.Reading.{Faultless, Next, Full}
use Rattle.theory_table.specs.Occurrences.{input_over, output_over, operand_over, output_at, operands_map, reads_map, rule_operands, condition_reads, set_once_lem}

-- ---- constants

-- four bytes' number is in 32 bits, for any list of numbers
pub signed_in : (n : ℕ) → InFourBytes (signed n)
signed_in n = go (ltb n 2147483648) (λ t. ltb→lt n 2147483648 t) (λ t. nltb→le n 2147483648 t)
  where
    go : (b : Bool) → (T b → n < 2147483648) → (T (not b) → 2147483648 ≤ n) → InFourBytes (elim b [ true ↦ pos n | false ↦ negsuc (4294967295 - n) ])
    go true j k = (tt, le→leb n 2147483647 (let l = j tt in omega arith))
    go false j k = (le→leb (4294967295 - n) 2147483647 (let l = k tt in omega arith), tt)

constant_in_lem : (b : List ℕ) (i : ℕ) → InFourBytes (constant_at b i)
constant_in_lem b i = signed_in (((byte b i * 256 + byte b (i + 1)) * 256 + byte b (i + 2)) * 256 + byte b (i + 3))

abbrev divisor : ℤ → Bool
divisor c = le_z (pos 1) c && le_z c (pos divisor_limit)

constant_of : (b : List ℕ) → T (not (eqb (byte b 2) 8) || divisor (constant_at b 5)) → Constant (function_of b)
constant_of b h = go (byte b 2) h
  where
    fs : List (Function Occurrence)
    fs = functions_of (occurrence_at b 3) (occurrence_at b 5) (constant_at b 3) (constant_at b 5)

    go : (f : ℕ) → T (not (eqb f 8) || divisor (constant_at b 5)) → Constant (get_or fs f (const (pos 0)))
    go zero h = constant_in_lem b 3
    go (suc zero) h = tt
    go (suc (suc zero)) h = tt
    go (suc (suc (suc zero))) h = tt
    go (suc (suc (suc (suc zero)))) h = tt
    go (suc (suc (suc (suc (suc zero))))) h = tt
    go (suc (suc (suc (suc (suc (suc zero)))))) h = tt
    go (suc (suc (suc (suc (suc (suc (suc zero))))))) h = constant_in_lem b 5
    go (suc (suc (suc (suc (suc (suc (suc (suc zero)))))))) h = both (le_z (pos 1) (constant_at b 5)) (le_z (constant_at b 5) (pos divisor_limit)) h
    go (suc (suc (suc (suc (suc (suc (suc (suc (suc f))))))))) h = (tt, tt)

abbrev Ends : Condition Occurrence → Type 0
Ends (range o l h) = InFourBytes l × InFourBytes h
Ends (atmost o u none) = Unit {0}
Ends (atmost o u (some c)) = InFourBytes c

ends_in : (b : List ℕ) → Ends (condition_of b)
ends_in b = go (eqb (byte b 0) 0) (eqb (byte b 0) 1)
  where
    go : (c d : Bool) → Ends (elim c [ true ↦ range (occurrence_at b 1) (constant_at b 3) (constant_at b 7) | false ↦ atmost (occurrence_at b 1) (occurrence_at b 3) (elim d [ true ↦ none | false ↦ some (constant_at b 5) ]) ])
    go true d = (constant_in_lem b 3, constant_in_lem b 7)
    go false true = tt
    go false false = constant_in_lem b 5

proper_from : (c : Condition Occurrence) → Ends c → T (ordered c) → Proper c
proper_from (range o l h) d t = (d.0, d.1, t)
proper_from (atmost o u none) d t = tt
proper_from (atmost o u (some c)) d t = d

-- ---- one production, whatever else is read

-- a grammar with these counts and carrying terminals alone, and a production's symbols alone
abbrev pub counts_only : List Counts → List ℕ → Grammar
counts_only cs ws = record { terminals = 0; counts = reverse cs; carrying = reverse ws; start = 0; result = 0; productions = [] }

abbrev pub bare : Entry → Production
bare e = record { left = e.left; right = e.right; rules = []; conditions = [] }

abbrev pub KnownIn : Header → Symbol → Type 0
KnownIn h (terminal t) = t < h.terminals
KnownIn h (nonterminal n) = n < h.nonterminals

pub record EntryOk (h : Header) (cs : List Counts) (ws : List ℕ) (e : Entry) : Type 0 where
  pub left : e.left < h.nonterminals
  pub short : length e.right ≤ symbols_limit
  pub symbols : (x : Symbol) → In x e.right → KnownIn h x
  pub targets : (r : Rule Occurrence) → In r e.rules → Output (counts_only cs ws) (bare e) r.target
  pub distinct : Distinct e.rules
  pub operands : (r : Rule Occurrence) → In r e.rules → Operands (Operand (counts_only cs ws) (bare e) r.target.position) r.function
  pub constants : (r : Rule Occurrence) → In r e.rules → Constant r.function
  pub reads : (c : Condition Occurrence) → In c e.conditions → Reads (Input (counts_only cs ws) (bare e)) c
  pub proper : (c : Condition Occurrence) → In c e.conditions → Proper c

module _ (s : State) (h : Header) (e : Entry) (k : EntryOk h s.counts s.carrying e) where
  with_rule_lem : (r : Rule Occurrence) → T (occurrence_known s e r.target) → T (all (occurrence_known s e) (Table.operands r.function)) → T (not (is_input s e r.target))
      → T (all (is_input s e) (Table.operands r.function)) → T (not (has_rule e r.target))
      → T (eqb r.target.position 0 || all (λ o. ltb o.position r.target.position) (Table.operands r.function)) → Constant r.function
      → EntryOk h s.counts s.carrying (with_rule e r)
  with_rule_lem r a b c d once l con = record {
    left = k.left;
    short = k.short;
    symbols = k.symbols;
    targets = λ q i. target q i;
    distinct = ((λ q i p. set_once_lem e r once q i p), k.distinct);
    operands = λ q i. operand q i;
    constants = λ q i. constant q i;
    reads = k.reads;
    proper = k.proper;
  }
    where
      target : (q : Rule Occurrence) → (q ≡ r) ⊎ In q e.rules → Output (counts_only s.counts s.carrying) (bare e) q.target
      target q (inl p) = rw p (output_over (grammar_of s) (counts_only s.counts s.carrying) (production_of e) (bare e) refl refl refl refl r.target.position r.target.attribute (output_at s e r.target.position r.target.attribute a c))
      target q (inr i) = k.targets q i

      operand : (q : Rule Occurrence) → (q ≡ r) ⊎ In q e.rules → Operands (Operand (counts_only s.counts s.carrying) (bare e) q.target.position) q.function
      operand q (inl p) = rw p (operands_map (operand_over (grammar_of s) (counts_only s.counts s.carrying) (production_of e) (bare e) refl refl refl refl r.target.position) r.function (rule_operands s e r.target.position r.function b d l))
      operand q (inr i) = k.operands q i

      constant : (q : Rule Occurrence) → (q ≡ r) ⊎ In q e.rules → Constant q.function
      constant q (inl p) = rw p con
      constant q (inr i) = k.constants q i

  with_condition_lem : (c : Condition Occurrence) → T (all (occurrence_known s e) (Table.reads c)) → T (all (is_input s e) (Table.reads c)) → Proper c → EntryOk h s.counts s.carrying (with_condition e c)
  with_condition_lem c a b p = record {
    left = k.left;
    short = k.short;
    symbols = k.symbols;
    targets = k.targets;
    distinct = k.distinct;
    operands = k.operands;
    constants = k.constants;
    reads = λ q i. read q i;
    proper = λ q i. right q i;
  }
    where
      read : (q : Condition Occurrence) → (q ≡ c) ⊎ In q e.conditions → Reads (Input (counts_only s.counts s.carrying) (bare e)) q
      read q (inl z) = rw z (reads_map (λ o u. input_over (grammar_of s) (counts_only s.counts s.carrying) (production_of e) (bare e) refl refl refl refl o.position o.attribute u) c (condition_reads s e c a b))
      read q (inr i) = k.reads q i

      right : (q : Condition Occurrence) → (q ≡ c) ⊎ In q e.conditions → Proper q
      right q (inl z) = rw z p
      right q (inr i) = k.proper q i

-- ---- everything read so far

pub record HeaderOk (h : Header) : Type 0 where
  pub terminals : (1 ≤ h.terminals) × (h.terminals ≤ terminals_limit)
  pub nonterminals : (1 ≤ h.nonterminals) × (h.nonterminals ≤ nonterminals_limit)
  pub start : h.start < h.nonterminals

abbrev pub StartOk : Header → List Counts → Type 0
StartOk h cs = ((get_or cs h.start no_counts).inherited ≡ 0) × (1 ≤ h.result) × (h.result ≤ (get_or cs h.start no_counts).synthesized)

-- the latest first
abbrev pub Falling : List ℕ → Type 0
Falling [] = Unit {0}
Falling (t ∷ ts) = ((u : ℕ) → In u ts → u < t) × Falling ts

abbrev pub rule_count : List Entry → ℕ
rule_count es = total (map (λ e. length e.rules) es)

abbrev pub condition_count : List Entry → ℕ
condition_count es = total (map (λ e. length e.conditions) es)

pub record Inv (s : State) : Type 0 where
  pub header : T (is_some s.header) → HeaderOk (header_of s)
  pub few_counts : length s.counts ≤ (header_of s).nonterminals
  pub attributes : (c : Counts) → In c s.counts → c.inherited + c.synthesized ≤ attributes_limit
  pub start_ok : (header_of s).start < length s.counts → StartOk (header_of s) (reverse s.counts)
  pub carriers : (t : ℕ) → In t s.carrying → t < (header_of s).terminals
  pub falling : Falling s.carrying
  pub tagged : 0 < length s.carrying → Full s
  pub filled : 0 < length s.entries → Full s
  pub few_entries : length s.entries ≤ productions_limit
  pub entries : (e : Entry) → In e s.entries → EntryOk (header_of s) s.counts s.carrying e
  -- all but the latest
  pub completes : (e : Entry) → In e (drop 1 s.entries) → T (complete s e)
  pub rules : (rule_count s.entries ≡ s.rules) × (s.rules ≤ rules_limit)
  pub conditions : (condition_count s.entries ≡ s.conditions) × (s.conditions ≤ conditions_limit)

pub nothing_yet : Inv nothing_read
nothing_yet =
    record {
      header = λ t. absurd t;
      few_counts = omega arith;
      attributes = λ c i. absurd i;
      start_ok = λ l. absurd (omega arith);
      carriers = λ t i. absurd i;
      falling = tt;
      tagged = λ l. absurd (omega arith);
      filled = λ l. absurd (omega arith);
      few_entries = omega arith;
      entries = λ e i. absurd i;
      completes = λ e i. absurd i;
      rules = (refl, omega arith);
      conditions = (refl, omega arith);
    }

in_drop : {A : Type 0} (x : A) (xs : List A) → In x (drop 1 xs) → In x xs
in_drop x [] i = i
in_drop x (y ∷ ys) i = inr i

pub all_complete : (s : State) → Inv s → T (last_complete s) → (e : Entry) → In e s.entries → T (complete s e)
all_complete s v t e i = go s.entries t (λ a j. v.completes a j) i
  where
    go : (es : List Entry) → T (elim es as (λ x. Bool) [ [] ↦ true | a ∷ bs ↦ complete s a ]) → ((a : Entry) → In a (drop 1 es) → T (complete s a)) → In e es → T (complete s e)
    go [] t h i = absurd i
    go (a ∷ es) t h (inl p) = subst (λ x. T (complete s x)) (sym p) t
    go (a ∷ es) t h (inr j) = h e j

no_header_lem : (h : Option Header) → T (not (is_some h)) → ◌≡◌ {A = ℕ} (elim h as (λ x. Header) [ none ↦ no_header | some y ↦ y ]).nonterminals 0
no_header_lem none t = refl
no_header_lem (some h) t = absurd t

module _ (s : State) (v : Inv s) (o : ℕ) (b : List ℕ) where
  read_header : T (not (is_some s.header)) → Faultless s header b → Inv (read_field s o header b)
  read_header n p = record {
    header = λ t. record { terminals = (leb→le 1 (byte b 0) l₃.0, leb→le (byte b 0) terminals_limit l₃.1); nonterminals = (leb→le 1 (byte b 1) l₄.0, leb→le (byte b 1) nonterminals_limit l₄.1); start = ltb→lt (byte b 2) (byte b 1) p.named };
    few_counts = omega (arith, none);
    attributes = v.attributes;
    start_ok = λ l. absurd (omega (arith, none));
    carriers = λ t i. absurd (untagged (in_some t s.carrying i));
    falling = v.falling;
    tagged = λ l. absurd (untagged l);
    filled = λ l. absurd (unfilled l);
    few_entries = v.few_entries;
    entries = λ e i. absurd (unfilled (in_some e s.entries i));
    completes = λ e i. absurd (unfilled (in_some e s.entries (in_drop e s.entries i)));
    rules = v.rules;
    conditions = v.conditions;
  }
    where
      l₁ : T (eqb (length b) 4 && within 1 (byte b 0) terminals_limit) × T (within 1 (byte b 1) nonterminals_limit)
      l₁ = both (eqb (length b) 4 && within 1 (byte b 0) terminals_limit) (within 1 (byte b 1) nonterminals_limit) p.limits

      l₃ : T (leb 1 (byte b 0)) × T (leb (byte b 0) terminals_limit)
      l₃ = both (leb 1 (byte b 0)) (leb (byte b 0) terminals_limit) (both (eqb (length b) 4) (within 1 (byte b 0) terminals_limit) l₁.0).1

      l₄ : T (leb 1 (byte b 1)) × T (leb (byte b 1) nonterminals_limit)
      l₄ = both (leb 1 (byte b 1)) (leb (byte b 1) nonterminals_limit) l₁.1

      none : length s.counts ≡ 0
      none = let z = no_header_lem s.header n in omega (arith, v.few_counts)

      untagged : 0 < length s.carrying → ⊥
      untagged l = T_not (is_some s.header) n (v.tagged l).0

      unfilled : 0 < length s.entries → ⊥
      unfilled l = T_not (is_some s.header) n (v.filled l).0

  read_counts : T (is_some s.header) → length s.counts < (header_of s).nonterminals → Faultless s counts b → Inv (read_field s o counts b)
  read_counts t l p = record {
    header = v.header;
    few_counts = l;
    attributes = λ c i. few c i;
    start_ok = λ m. subst (StartOk (header_of s)) (sym (reverse-cons new s.counts)) (go m (eqb (length s.counts) (header_of s).start) refl);
    carriers = v.carriers;
    falling = v.falling;
    tagged = λ m. absurd (omega (arith, (v.tagged m).1));
    filled = λ m. absurd (omega (arith, (v.filled m).1));
    few_entries = v.few_entries;
    entries = λ e i. absurd (omega (arith, (v.filled (in_some e s.entries i)).1));
    completes = λ e i. absurd (omega (arith, (v.filled (in_some e s.entries (in_drop e s.entries i))).1));
    rules = v.rules;
    conditions = v.conditions;
  }
    where
      new : Counts
      new = record { inherited = byte b 0; synthesized = byte b 1 }

      few : (c : Counts) → (c ≡ new) ⊎ In c s.counts → c.inherited + c.synthesized ≤ attributes_limit
      few c (inl e) = rw e (leb→le (byte b 0 + byte b 1) attributes_limit (both (eqb (length b) 2) (leb (byte b 0 + byte b 1) attributes_limit) p.limits).1)
      few c (inr i) = v.attributes c i

      right : length s.counts ≡ (header_of s).start → (byte b 0 ≡ 0) × (1 ≤ (header_of s).result) × ((header_of s).result ≤ byte b 1)
      right q =
          let w = both (eqb (byte b 0) 0) (within 1 (header_of s).result (byte b 1)) (implied (eqb (length s.counts) (header_of s).start) (eqb (byte b 0) 0 && within 1 (header_of s).result (byte b 1)) p.start (rw q (eqb_refl (header_of s).start))) in
          let z = both (leb 1 (header_of s).result) (leb (header_of s).result (byte b 1)) w.1 in
          (eqb→eq (byte b 0) 0 w.0, leb→le 1 (header_of s).result z.0, leb→le (header_of s).result (byte b 1) z.1)
        where
          implied : (a c : Bool) → T (not a || c) → T a → T c
          implied true c t u = t
          implied false c t u = absurd u

      go : (header_of s).start < suc (length s.counts) → (c : Bool) → eqb (length s.counts) (header_of s).start ≡ c → StartOk (header_of s) (reverse s.counts ++ (new ∷ []))
      go m true e =
          let q : length s.counts ≡ (header_of s).start = eqb→eq (length s.counts) (header_of s).start (rw e tt) in
          rw (get_or_at (reverse s.counts) new [] no_counts (header_of s).start (length-reverse s.counts ∙ q)) (right q)
      go m false e =
          let q : length s.counts ≡ (header_of s).start → ⊥ = λ u. subst T e (rw u (eqb_refl (header_of s).start)) in
          rw (get_or-append (reverse s.counts) (new ∷ []) no_counts (header_of s).start (omega (arith, length-reverse s.counts))) (v.start_ok (omega arith))

  read_production : Full s → T (last_complete s) → Faultless s production b → Inv (read_field s o production b)
  read_production f t p = record {
    header = v.header;
    few_counts = v.few_counts;
    attributes = v.attributes;
    start_ok = v.start_ok;
    carriers = v.carriers;
    falling = v.falling;
    tagged = v.tagged;
    filled = λ m. f;
    few_entries = ltb→lt (length s.entries) productions_limit l₁.1;
    entries = λ e i. entry e i;
    completes = λ e i. all_complete s v t e i;
    rules = (omega (arith, v.rules.0), v.rules.1);
    conditions = (omega (arith, v.conditions.0), v.conditions.1);
  }
    where
      new : Entry
      new = record { offset = o; left = byte b 0; right = map symbol_of (drop 2 b); rules = []; conditions = [] }

      l₁ : T (leb 2 (length b) && leb (byte b 1) symbols_limit && eqb (length b) (2 + byte b 1)) × T (ltb (length s.entries) productions_limit)
      l₁ = both (leb 2 (length b) && leb (byte b 1) symbols_limit && eqb (length b) (2 + byte b 1)) (ltb (length s.entries) productions_limit) p.limits

      l₂ : T (leb 2 (length b) && leb (byte b 1) symbols_limit) × T (eqb (length b) (2 + byte b 1))
      l₂ = both (leb 2 (length b) && leb (byte b 1) symbols_limit) (eqb (length b) (2 + byte b 1)) l₁.0

      l₃ : T (leb 2 (length b)) × T (leb (byte b 1) symbols_limit)
      l₃ = both (leb 2 (length b)) (leb (byte b 1) symbols_limit) l₂.0

      names : T (ltb (byte b 0) (header_of s).nonterminals) × T (all (λ n. symbol_known s (symbol_of n)) (drop 2 b))
      names = both (ltb (byte b 0) (header_of s).nonterminals) (all (λ n. symbol_known s (symbol_of n)) (drop 2 b)) p.named

      symbol : (x : Symbol) → T (symbol_known s x) → KnownIn (header_of s) x
      symbol (terminal x) k = ltb→lt x (header_of s).terminals k
      symbol (nonterminal n) k = ltb→lt n (header_of s).nonterminals k

      ok : EntryOk (header_of s) s.counts s.carrying new
      ok = record {
        left = ltb→lt (byte b 0) (header_of s).nonterminals names.0;
        short = omega (arith, length-map (drop 2 b) symbol_of, length-drop 2 b, eqb→eq (length b) (2 + byte b 1) l₂.1, leb→le (byte b 1) symbols_limit l₃.1);
        symbols = λ x i. let w = map_in symbol_of (drop 2 b) x i in rw w.2 (symbol (symbol_of w.0) (all_in (λ n. symbol_known s (symbol_of n)) (drop 2 b) names.1 w.0 w.1));
        targets = λ r i. absurd i;
        distinct = tt;
        operands = λ r i. absurd i;
        constants = λ r i. absurd i;
        reads = λ q i. absurd i;
        proper = λ q i. absurd i;
      }

      entry : (e : Entry) → (e ≡ new) ⊎ In e s.entries → EntryOk (header_of s) s.counts s.carrying e
      entry e (inl q) = rw q ok
      entry e (inr i) = v.entries e i

  read_carrier : Full s → length s.entries ≡ 0 → Faultless s carrier b → Inv (read_field s o carrier b)
  read_carrier f z p = record {
    header = v.header;
    few_counts = v.few_counts;
    attributes = v.attributes;
    start_ok = v.start_ok;
    carriers = λ t i. known t i;
    falling = ((λ u i. above s.carrying v.falling names.1 u i), v.falling);
    tagged = λ m. f;
    filled = v.filled;
    few_entries = v.few_entries;
    entries = λ e i. absurd (omega (arith, z, in_some e s.entries i));
    completes = λ e i. absurd (omega (arith, z, in_some e s.entries (in_drop e s.entries i)));
    rules = v.rules;
    conditions = v.conditions;
  }
    where
      names : T (ltb (byte b 0) (header_of s).terminals) × T (rises s.carrying (byte b 0))
      names = both (ltb (byte b 0) (header_of s).terminals) (rises s.carrying (byte b 0)) p.named

      known : (t : ℕ) → (t ≡ byte b 0) ⊎ In t s.carrying → t < (header_of s).terminals
      known t (inl e) = rw e (ltb→lt (byte b 0) (header_of s).terminals names.0)
      known t (inr i) = v.carriers t i

      above : (ts : List ℕ) → Falling ts → T (rises ts (byte b 0)) → (u : ℕ) → In u ts → u < byte b 0
      above [] f r u i = absurd i
      above (t ∷ ts) f r u (inl e) = rw e (ltb→lt t (byte b 0) r)
      above (t ∷ ts) f r u (inr i) = omega (arith, f.0 u i, ltb→lt t (byte b 0) r)

abbrev pub mk : Option Header → List Counts → List ℕ → List ℕ → List Entry → ℕ → ℕ → State
mk hd cs co ws es rn cn = record { header = hd; counts = cs; counts_offsets = co; carrying = ws; entries = es; rules = rn; conditions = cn }

module _ (hd : Option Header) (cs : List Counts) (co ws : List ℕ) (rn cn o : ℕ) (b : List ℕ) where
  replaced : (e e' : Entry) (es : List Entry) → Inv (mk hd cs co ws (e ∷ es) rn cn) → EntryOk (header_of (mk hd cs co ws (e ∷ es) rn cn)) cs ws e' → (a : Entry) → (a ≡ e') ⊎ In a es → EntryOk (header_of (mk hd cs co ws (e ∷ es) rn cn)) cs ws a
  replaced e e' es v k a (inl p) = rw p k
  replaced e e' es v k a (inr i) = v.entries a (inr i)

  -- another latest production, with the table's counts of rules and conditions
  with_latest :
      (e e' : Entry) (es : List Entry) (rn' cn' : ℕ) → Inv (mk hd cs co ws (e ∷ es) rn cn) → EntryOk (header_of (mk hd cs co ws (e ∷ es) rn cn)) cs ws e'
      → (rule_count (e' ∷ es) ≡ rn') × (rn' ≤ rules_limit) → (condition_count (e' ∷ es) ≡ cn') × (cn' ≤ conditions_limit) → Inv (mk hd cs co ws (e' ∷ es) rn' cn')
  with_latest e e' es rn' cn' v k few little =
      record {
        header = v.header;
        few_counts = v.few_counts;
        attributes = v.attributes;
        start_ok = v.start_ok;
        carriers = v.carriers;
        falling = v.falling;
        tagged = v.tagged;
        filled = v.filled;
        few_entries = v.few_entries;
        entries = replaced e e' es v k;
        completes = v.completes;
        rules = few;
        conditions = little;
      }

  read_rule : (es : List Entry) → Inv (mk hd cs co ws es rn cn) → 0 < length es → Faultless (mk hd cs co ws es rn cn) rule b → Inv (read_field (mk hd cs co ws es rn cn) o rule b)
  read_rule [] v l p = absurd (omega arith)
  read_rule (e ∷ es) v l p =
      let s : State = mk hd cs co ws (e ∷ es) rn cn in
      let r : Rule Occurrence = rule_of b in
      let a = both (leb (byte b 2) 8 && occurrence_known s e r.target) (all (occurrence_known s e) (Table.operands r.function)) p.named in
      let c = both (leb (byte b 2) 8) (occurrence_known s e r.target) a.0 in
      let d = both (not (is_input s e r.target)) (all (is_input s e) (Table.operands r.function)) p.directions in
      let m = both (leb 3 (length b) && ltb rn rules_limit && (ltb 8 (byte b 2) || eqb (length b) (Table.rule_length (byte b 2)))) (not (eqb (byte b 2) 8) || divisor (constant_at b 5)) p.limits in
      let m' = both (leb 3 (length b) && ltb rn rules_limit) (ltb 8 (byte b 2) || eqb (length b) (Table.rule_length (byte b 2))) m.0 in
      let room = ltb→lt rn rules_limit (both (leb 3 (length b)) (ltb rn rules_limit) m'.0).1 in
      let k = with_rule_lem s (header_of s) e (v.entries e (inl refl)) r c.1 a.1 d.0 d.1 p.once p.leftward (constant_of b m.1) in
      with_latest e (with_rule e r) es (suc rn) cn v k (omega (arith, v.rules.0), room) v.conditions

  read_condition : (es : List Entry) → Inv (mk hd cs co ws es rn cn) → 0 < length es → Faultless (mk hd cs co ws es rn cn) condition b → Inv (read_field (mk hd cs co ws es rn cn) o condition b)
  read_condition [] v l p = absurd (omega arith)
  read_condition (e ∷ es) v l p =
      let s : State = mk hd cs co ws (e ∷ es) rn cn in
      let c : Condition Occurrence = condition_of b in
      let a = both (leb (byte b 0) 2) (all (occurrence_known s e) (Table.reads c)) p.named in
      let m = both (leb 1 (length b) && ltb cn conditions_limit) (ltb 2 (byte b 0) || eqb (length b) (Table.condition_length (byte b 0))) p.limits in
      let room = ltb→lt cn conditions_limit (both (leb 1 (length b)) (ltb cn conditions_limit) m.0).1 in
      let k = with_condition_lem s (header_of s) e (v.entries e (inl refl)) c a.1 p.directions (proper_from c (ends_in b) p.bounds) in
      with_latest e (with_condition e c) es rn (suc cn) v k v.rules (omega (arith, v.conditions.0), room)

pub keeps : (s : State) (o : ℕ) (k : Kind) (b : List ℕ) → Inv s → Next s k → Faultless s k b → Inv (read_field s o k b)
keeps s o header b v n p = read_header s v o b n p
keeps s o counts b v n p = read_counts s v o b n.0 n.1 p
keeps s o production b v n p = read_production s v o b n.0 n.1 p
keeps s o rule b v n p = read_rule s.header s.counts s.counts_offsets s.carrying s.rules s.conditions o b s.entries v n.1 p
keeps s o condition b v n p = read_condition s.header s.counts s.counts_offsets s.carrying s.rules s.conditions o b s.entries v n.1 p
keeps s o carrier b v n p = read_carrier s v o b n.0 n.1 p
