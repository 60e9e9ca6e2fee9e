-- What the program says: two well-formed grammars with the same words have the same right sides with their counts, translation scheme, sets and entry tests.
use Rattle.std.specs.Prelude.{ℕ, suc, ◌+◌, ◌-◌, ◌*◌, ◌<◌, ◌≡◌, refl, Bool, true, false, not, List, [], ◌∷◌, length, get_or, ltb}
use Rattle.std.proofs.Common.{arith, sym, ap, ap₂, ◌∙◌, subst, inl, inr, ext_get_or}
use Rattle.meaning.specs.Base.{In, cons_if, is_empty}
use Rattle.meaning.specs.Grammar.{Symbol, terminal, nonterminal, Rule, Condition, Production, Grammar, inh, marked_for, added_for, symbol_at, production_at}
use Rattle.meaning.specs.Rules.{WellFormed}
use Rattle.meaning.specs.Sets.{has, starts}
use Rattle.meaning.specs.Scheme.{Instruction, add, evaluate, expect, test, remove, scheme, symbols_scheme, entry_tests, inherited_rules, synthesized_rules, tests_after, removed}
use Rattle.meaning.specs.Program.{instruction_words, records_address, program_of}
use Rattle.meaning_statements.specs.TableStatements.{SameProduction, SameScheme}
use Rattle.theory_base.specs.Members.{in_at}
use Rattle.theory_program.specs.Parts.{in_set}
use Rattle.theory_program.specs.WordsStand.{WordsStand, stands_whole}
use Rattle.theory_program.specs.Code.{RulesAt, ConditionsAt, CodeAt, rule_first_lem, condition_first_lem, operation, operand, code_head, code_next, code_evaluate, code_test, is_add, is_evaluate, is_terminal_lem, is_nonterminal_lem, is_test, is_remove}
use Rattle.theory_program.specs.Unpacked.{rule_at, condition_at}
use Rattle.theory_program.specs.Proper.{ProperRule, ProperCondition, ProperInstruction, AllProper, production_in, scheme_proper, entry_proper}
use Rattle.theory_program.specs.Addresses.{Begins, record_address, wait_address, entry_address, scheme_address, entry_at, scheme_at_lem, entry_before}
use Rattle.theory_program.specs.Waits.{Waits, place_waits_lem}
use Rattle.theory_program.specs.Records.{segment_words_lem, carrier_word, record_words_lem, set_word}

-- ---- rules and conditions that stand at one address

rules_same : {ws : List ℕ} {a : ℕ} (rs qs : List (Rule ℕ)) → length rs ≡ length qs → ((r : Rule ℕ) → In r rs → ProperRule r) → ((q : Rule ℕ) → In q qs → ProperRule q) → RulesAt ws a rs → RulesAt ws a qs → rs ≡ qs
rules_same [] [] l h k s t = refl
rules_same [] (q ∷ qs) l h k s t = absurd (omega arith)
rules_same (r ∷ rs) [] l h k s t = absurd (omega arith)
rules_same {a = a} (r ∷ rs) (q ∷ qs) l h k s t =
    ap₂ (λ x xs. x ∷ xs) (sym (rule_at s (h r (inl refl))) ∙ rule_at t (k q (inl refl))) (rules_same {a = a + 2} rs qs (omega arith) (λ x i. h x (inr i)) (λ x i. k x (inr i)) (rule_first_lem s).2 (rule_first_lem t).2)

conditions_same : {ws : List ℕ} {a : ℕ} (cs ds : List (Condition ℕ)) → length cs ≡ length ds → ((c : Condition ℕ) → In c cs → ProperCondition c) → ((d : Condition ℕ) → In d ds → ProperCondition d) → ConditionsAt ws a cs → ConditionsAt ws a ds → cs ≡ ds
conditions_same [] [] l h k s t = refl
conditions_same [] (d ∷ ds) l h k s t = absurd (omega arith)
conditions_same (c ∷ cs) [] l h k s t = absurd (omega arith)
conditions_same {a = a} (c ∷ cs) (d ∷ ds) l h k s t =
    ap₂ (λ x xs. x ∷ xs) (sym (condition_at s (h c (inl refl))) ∙ condition_at t (k d (inl refl))) (conditions_same {a = a + 3} cs ds (omega arith) (λ x i. h x (inr i)) (λ x i. k x (inr i)) (condition_first_lem s).3 (condition_first_lem t).3)

-- ---- instructions that stand at one address

module _ {ws : List ℕ} {a : ℕ} {is js : List Instruction} (g h : Grammar) where
  first_same : (i j : Instruction) → ProperInstruction g i → ProperInstruction h j → CodeAt ws a (i ∷ is) → CodeAt ws a (j ∷ js) → i ≡ j
  first_same i j p q s t = go i p s (sym (code_head s).0 ∙ (code_head t).0) (sym (code_head s).1 ∙ (code_head t).1)
    where
      evaluates : (rs : List (Rule ℕ)) → ProperInstruction g (evaluate rs) → CodeAt ws a (evaluate rs ∷ is) → length rs ≡ operand j → (qs : List (Rule ℕ)) × (j ≡ evaluate qs) → evaluate rs ≡ j
      evaluates rs p s l (qs, e) =
          let k = subst (ProperInstruction h) e q in
          let u = subst (λ x. CodeAt ws a (x ∷ js)) e t in
          ap evaluate (rules_same rs qs (l ∙ ap operand e) p.2 k.2 (code_evaluate s).1 (code_evaluate u).1) ∙ sym e

      tests : (cs : List (Condition ℕ)) → ProperInstruction g (test cs) → CodeAt ws a (test cs ∷ is) → length cs ≡ operand j → (ds : List (Condition ℕ)) × (j ≡ test ds) → test cs ≡ j
      tests cs p s l (ds, e) =
          let k = subst (ProperInstruction h) e q in
          let u = subst (λ x. CodeAt ws a (x ∷ js)) e t in
          ap test (conditions_same cs ds (l ∙ ap operand e) p.2 k.2 (code_test s).1 (code_test u).1) ∙ sym e

      go : (i : Instruction) → ProperInstruction g i → CodeAt ws a (i ∷ is) → operation i ≡ operation j → operand i ≡ operand j → i ≡ j
      go (add n) p s e f = ap add f ∙ sym (is_add j (sym e))
      go (evaluate rs) p s e f = evaluates rs p s f (is_evaluate j (sym e))
      go (expect (terminal t)) p s e f = ap (λ n. expect (terminal n)) f ∙ sym (is_terminal_lem j (sym e))
      go (expect (nonterminal n)) p s e f = ap (λ m. expect (nonterminal m)) f ∙ sym (is_nonterminal_lem j (sym e))
      go (test cs) p s e f = tests cs p s f (is_test j (sym e))
      go (remove n) p s e f = ap remove f ∙ sym (is_remove j (sym e))

-- a remove ends a scheme, and no other instruction of it is one
data Ended : List Instruction → Type 0 where
  last : (n : ℕ) → Ended (remove n ∷ [])
  and_then : (i : Instruction) {is : List Instruction} → operation i < 5 → Ended is → Ended (i ∷ is)

code_same : {ws : List ℕ} {a : ℕ} {is js : List Instruction} (g h : Grammar) → Ended is → Ended js → AllProper g is → AllProper h js → CodeAt ws a is → CodeAt ws a js → is ≡ js
code_same g h (last m) (last n) p q s t = ap (λ i. i ∷ []) (first_same g h (remove m) (remove n) (p (remove m) (inl refl)) (q (remove n) (inl refl)) s t)
code_same g h (last m) (and_then j l e) p q s t = absurd (omega (arith, ap operation (first_same g h (remove m) j (p (remove m) (inl refl)) (q j (inl refl)) s t)))
code_same g h (and_then i l e) (last n) p q s t = absurd (omega (arith, ap operation (first_same g h i (remove n) (p i (inl refl)) (q (remove n) (inl refl)) s t)))
code_same {ws} {a} g h (and_then i l e) (and_then j {is = js} m f) p q s t =
    let x = first_same g h i j (p i (inl refl)) (q j (inl refl)) s t in
    let u : CodeAt ws (a + length (instruction_words i)) js = subst (λ k. CodeAt ws (a + length (instruction_words k)) js) (sym x) (code_next t) in
    ap₂ (λ y ys. y ∷ ys) x (code_same {a = a + length (instruction_words i)} g h e f (λ k o. p k (inr o)) (λ k o. q k (inr o)) (code_next s) u)

-- ---- schemes end so

ended_if : (b : Bool) (i : Instruction) {is : List Instruction} → operation i < 5 → Ended is → Ended (cons_if b i is)
ended_if true i l e = and_then i l e
ended_if false i l e = e

expect_low : (x : Symbol) → operation (expect x) < 5
expect_low (terminal t) = omega arith
expect_low (nonterminal n) = omega arith

symbols_ended : (g : Grammar) (p : Production) (k : ℕ) (xs : List Symbol) {rest : List Instruction} → Ended rest → Ended (symbols_scheme g p k xs rest)
symbols_ended g p k [] e = e
symbols_ended g p k (x ∷ xs) e =
    ended_if (ltb 0 (added_for g x)) (add (added_for g x)) (omega arith)
    (ended_if (not (is_empty (inherited_rules g p k))) (evaluate (inherited_rules g p k)) (omega arith)
    (and_then (expect x) (expect_low x)
    (ended_if (not (is_empty (tests_after g p k))) (test (tests_after g p k)) (omega arith) (symbols_ended g p (suc k) xs e))))

scheme_ended : (g : Grammar) (p : Production) → Ended (scheme g p)
scheme_ended g p = symbols_ended g p 1 p.right (ended_if (not (is_empty (synthesized_rules g p))) (evaluate (synthesized_rules g p)) (omega arith) (last (removed g p)))

-- ---- one program, two grammars

module _ {g h : Grammar} {ws : List ℕ} (b : Begins g ws) (c : Begins h ws) (w : WellFormed g) (v : WellFormed h) where
  same_records : records_address g ≡ records_address h
  same_records = sym (segment_words_lem b).records ∙ (segment_words_lem c).records

  same_count : length g.productions ≡ length h.productions
  same_count = sym (segment_words_lem b).productions ∙ (segment_words_lem c).productions

  module _ (p : ℕ) (l : p < length g.productions) where
    same_waits : wait_address g p ≡ wait_address h p
    same_waits = omega (arith, same_records, same_count)

    listed : p < length h.productions
    listed = omega (arith, same_count)

    -- the words of the two records are the same
    same_word : (k x y : ℕ) → get_or ws (record_address g p + k) 0 ≡ x → get_or ws (record_address h p + k) 0 ≡ y → x ≡ y
    same_word k x y e f = sym e ∙ (ap (λ a. get_or ws (a + 8 * p + k) 0) same_records ∙ f)

    abbrev in_g : Production
    in_g = production_at g p

    abbrev in_h : Production
    in_h = production_at h p

    same_tests : length (entry_tests g in_g) ≡ length (entry_tests h in_h) → entry_address g p ≡ entry_address h p → entry_tests g in_g ≡ entry_tests h in_h
    same_tests n e =
        let there = subst (λ a. ConditionsAt ws a (entry_tests h in_h)) (sym e) (entry_at c v p listed) in
        conditions_same (entry_tests g in_g) (entry_tests h in_h) n (entry_proper g w in_g (production_in g w p l)) (entry_proper h v in_h (production_in h v p listed)) (entry_at b w p l) there

    same_instructions : scheme_address g p ≡ scheme_address h p → scheme g in_g ≡ scheme h in_h
    same_instructions e =
        let there = subst (λ a. CodeAt ws a (scheme h in_h)) (sym e) (scheme_at_lem c v p listed) in
        code_same g h (scheme_ended g in_g) (scheme_ended h in_h) (scheme_proper g w in_g (production_in g w p l)) (scheme_proper h v in_h (production_in h v p listed)) (scheme_at_lem b w p l) there

    same_set : (u : ℕ) → u < 64 → has (starts g in_g) u ≡ has (starts h in_h) u
    same_set u m =
        sym (set_word b w p l u m) ∙ (ap (λ a. in_set ws (a + 8 * p + 2) u) same_records ∙ set_word c v p listed u m)

    -- what a place of the production waits at is in one word
    module _ (e : length in_g.right ≡ length in_h.right) (k : ℕ) (m : k < length in_g.right) where
      waiting : Waits h in_h k (get_or ws (wait_address g p + k) 0)
      waiting = subst (λ a. Waits h in_h k (get_or ws (a + k) 0)) (sym same_waits) (place_waits_lem c v p listed k (omega arith))

      same_symbol : symbol_at in_g (suc k) ≡ symbol_at in_h (suc k)
      same_symbol = sym (place_waits_lem b w p l k m).symbol ∙ waiting.symbol

      same_symbol_counts : (inh g (symbol_at in_g (suc k)) ≡ inh h (symbol_at in_g (suc k))) × (marked_for g (symbol_at in_g (suc k)) ≡ marked_for h (symbol_at in_g (suc k)))
      same_symbol_counts = (
        sym (place_waits_lem b w p l k m).inherited ∙ (waiting.inherited ∙ ap (inh h) (sym same_symbol)),
        sym (place_waits_lem b w p l k m).marked ∙ (waiting.marked ∙ ap (marked_for h) (sym same_symbol)),
      )

    same_counts : length in_g.right ≡ length in_h.right → (x : Symbol) → In x in_g.right → (inh g x ≡ inh h x) × (marked_for g x ≡ marked_for h x)
    same_counts e x i =
        let at = in_at x in_g.right (terminal 0) i in
        subst (λ y. (inh g y ≡ inh h y) × (marked_for g y ≡ marked_for h y)) at.2 (same_symbol_counts e at.0 at.1)

    same_production : SameProduction g h p
    same_production =
        let r = record_words_lem b w p l in
        let s = record_words_lem c v p listed in
        let tests : length (entry_tests g in_g) ≡ length (entry_tests h in_h) = same_word 5 _ _ r.tests s.tests in
        let address : scheme_address g p ≡ scheme_address h p = same_word 6 _ _ r.scheme s.scheme in
        let entry : entry_address g p ≡ entry_address h p = entry_before g p ∙ (ap₂ (λ x y. x - 3 * y) address tests ∙ sym (entry_before h p)) in
        let long : length in_g.right ≡ length in_h.right = same_word 7 _ _ r.symbols s.symbols in
        record { left = same_word 0 _ _ r.left s.left; right = ext_get_or (terminal 0) in_g.right in_h.right long (same_symbol long); counts = same_counts long; entered = same_set; tests = same_tests tests entry; instructions = same_instructions address }

  same_scheme : SameScheme g h
  same_scheme =
      let s = segment_words_lem b in
      let t = segment_words_lem c in
      record {
        terminals = sym s.terminals ∙ t.terminals;
        nonterminals = omega (arith, same_records);
        carrying = λ u l. sym (carrier_word b u l) ∙ carrier_word c u l;
        start = omega (arith, s.expected, t.expected);
        result = sym s.result ∙ t.result;
        start_registers = sym s.registers ∙ t.registers;
        productions = same_count;
        each = same_production;
      }

pub program_tells : (g h : Grammar) → WellFormed g → WellFormed h → program_of g ≡ program_of h → SameScheme g h
program_tells g h w v e = same_scheme (record { words = stands_whole (program_of g) }) (record { words = subst (WordsStand (program_of g) 0) e (stands_whole (program_of g)) }) w v
