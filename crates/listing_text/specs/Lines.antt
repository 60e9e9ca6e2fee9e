-- The listing's lines read off the entry tests and the scheme of each production: instruction by instruction, positions counted by the expects passed.
use Prim.Native.Nat.{ℕ, zero, suc, ◌+◌}
use Rattle.std.proofs.Common.{arith, sym, ap, ◌∙◌, append_assoc, lt-ltb, le-ltb}
use Rattle.std.specs.Prelude.{◌≡◌, Bool, true, false, not, List, [], ◌∷◌, ◌++◌, length, ltb}
use Rattle.std.proofs.Math.Path.{refl}
use Rattle.meaning.specs.Base.{cons_if, is_empty}
use Rattle.meaning.specs.Grammar.{Symbol, Rule, Condition, Production, Grammar, added_for}
use Rattle.meaning.specs.Scheme.{Instruction, add, evaluate, expect, test, remove, entry_tests, tests_after, inherited_rules, synthesized_rules, removed, symbols_scheme, scheme}
use Rattle.meaning.specs.Listing.{Text, rule_lines, condition_lines, add_lines, symbol_lines, production_lines}
use Rattle.listing_lines.specs.Line.{add_line, rule_line, condition_line, remove_line}

abbrev pub rules_of : ℕ → ℕ → List (Rule ℕ) → List Text
rules_of i k [] = []
rules_of i k (r ∷ rs) = rule_line i k r ∷ rules_of i k rs

abbrev pub conditions_of : ℕ → ℕ → List (Condition ℕ) → List Text
conditions_of i k [] = []
conditions_of i k (c ∷ cs) = condition_line i k c ∷ conditions_of i k cs

-- ---- the lines of a scheme

-- whose attributes an evaluate sets, after k of n symbols: the next symbol's, or the left side's
abbrev pub position_at : Bool → ℕ → ℕ
position_at true k = suc k
position_at false k = 0

-- of production i with n symbols, k of which are passed
abbrev pub code_lines : ℕ → ℕ → ℕ → List Instruction → List Text
code_lines i n k [] = []
code_lines i n k (add m ∷ is) = add_line i (suc k) m ∷ code_lines i n k is
code_lines i n k (evaluate rs ∷ is) = rules_of i (position_at (ltb k n) k) rs ++ code_lines i n k is
code_lines i n k (expect x ∷ is) = code_lines i n (suc k) is
code_lines i n k (test cs ∷ is) = conditions_of i k cs ++ code_lines i n k is
code_lines i n k (remove m ∷ is) = remove_line i m ∷ code_lines i n k is

-- ---- agreement with the definition of the listing

rules_lines : (i k : ℕ) (rs : List (Rule ℕ)) → rule_lines i k rs ≡ rules_of i k rs
unfolding rule_line
rules_lines i k [] = refl
rules_lines i k (r ∷ rs) = ap (λ ls. rule_line i k r ∷ ls) (rules_lines i k rs)

conditions_lines : (i k : ℕ) (cs : List (Condition ℕ)) → condition_lines i k cs ≡ conditions_of i k cs
unfolding condition_line
conditions_lines i k [] = refl
conditions_lines i k (c ∷ cs) = ap (λ ls. condition_line i k c ∷ ls) (conditions_lines i k cs)

module _ (i n : ℕ) where
  -- an instruction that is absent has no line
  add_if : (k m : ℕ) (is : List Instruction) → code_lines i n k (cons_if (ltb 0 m) (add m) is) ≡ add_lines i (suc k) m ++ code_lines i n k is
  unfolding add_line
  add_if k zero is = refl
  add_if k (suc m) is = rw (lt-ltb 0 (suc m) (omega arith)) refl

  evaluate_if : (k j : ℕ) (rs : List (Rule ℕ)) (is : List Instruction) → position_at (ltb k n) k ≡ j → code_lines i n k (cons_if (not (is_empty rs)) (evaluate rs) is) ≡ rule_lines i j rs ++ code_lines i n k is
  evaluate_if k j [] is e = refl
  evaluate_if k j (r ∷ rs) is e = ap (λ l. l ++ code_lines i n k is) (ap (λ p. rules_of i p (r ∷ rs)) e ∙ sym (rules_lines i j (r ∷ rs)))

  test_if : (k : ℕ) (cs : List (Condition ℕ)) (is : List Instruction) → code_lines i n k (cons_if (not (is_empty cs)) (test cs) is) ≡ condition_lines i k cs ++ code_lines i n k is
  test_if k [] is = refl
  test_if k (c ∷ cs) is = ap (λ l. l ++ code_lines i n k is) (sym (conditions_lines i k (c ∷ cs)))

  module _ (g : Grammar) (p : Production) where
    symbols_lines : (k m : ℕ) (xs : List Symbol) (rest : List Instruction) → k + length xs ≡ m → m ≡ n → code_lines i n k (symbols_scheme g p (suc k) xs rest) ≡ symbol_lines g i p (suc k) xs ++ code_lines i n m rest
    symbols_lines k m [] rest e q = ap (λ j. code_lines i n j rest) (omega arith)
    symbols_lines k m (x ∷ xs) rest e q =
        let rules = inherited_rules g p (suc k) in
        let tests = tests_after g p (suc k) in
        let later = symbols_scheme g p (suc (suc k)) xs rest in
        let behind = cons_if (not (is_empty tests)) (test tests) later in
        let here : position_at (ltb k n) k ≡ suc k = ap (λ b. position_at b k) (lt-ltb k n (omega arith)) in
        add_if k (added_for g x) (cons_if (not (is_empty rules)) (evaluate rules) (expect x ∷ behind))
        ∙ (ap (λ l. add_lines i (suc k) (added_for g x) ++ l) (evaluate_if k (suc k) rules (expect x ∷ behind) here
        ∙ ap (λ l. rule_lines i (suc k) rules ++ l) (test_if (suc k) tests later
        ∙ ap (λ l. condition_lines i (suc k) tests ++ l) (symbols_lines (suc k) m xs rest (omega arith) q)))
        ∙ regroup (add_lines i (suc k) (added_for g x)) (rule_lines i (suc k) rules) (condition_lines i (suc k) tests) (symbol_lines g i p (suc (suc k)) xs) (code_lines i n m rest))
      where
        regroup : (a b c d e : List Text) → a ++ (b ++ (c ++ (d ++ e))) ≡ (((a ++ b) ++ c) ++ d) ++ e
        regroup a b c d e = sym (simp append_assoc)

-- 001's Definition 2 is the scheme with the entry tests before it
pub production_lines_lem : (g : Grammar) (i : ℕ) (p : Production) → production_lines g i p ≡ conditions_of i 0 (entry_tests g p) ++ code_lines i (length p.right) 0 (scheme g p)
unfolding remove_line
production_lines_lem g i p =
    let n = length p.right in
    let rules = synthesized_rules g p in
    let last = remove (removed g p) ∷ [] in
    let left : position_at (ltb n n) n ≡ 0 = ap (λ b. position_at b n) (le-ltb n n (omega arith)) in
    let symbols = symbol_lines g i p 1 p.right in
    regroup (condition_lines i 0 (entry_tests g p)) symbols (rule_lines i 0 rules) (remove_line i (removed g p) ∷ [])
    ∙ (ap (λ l. l ++ (symbols ++ (rule_lines i 0 rules ++ code_lines i n n last))) (conditions_lines i 0 (entry_tests g p))
    ∙ ap (λ l. conditions_of i 0 (entry_tests g p) ++ l) (sym (symbols_lines i n g p 0 n p.right (cons_if (not (is_empty rules)) (evaluate rules) last) (omega arith) refl ∙ ap (λ l. symbols ++ l) (evaluate_if i n n 0 rules last left))))
  where
    regroup : (a b c d : List Text) → ((a ++ b) ++ c) ++ d ≡ a ++ (b ++ (c ++ d))
    regroup a b c d = simp append_assoc
