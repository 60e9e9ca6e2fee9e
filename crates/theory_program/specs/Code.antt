-- Instructions, rules and conditions as words that stand in a list: what the first word says, and where the others stand.
use Rattle.std.specs.Prelude.{ℕ, zero, suc, ◌+◌, ◌*◌, ◌≤◌, ◌<◌, ◌≡◌, refl, List, [], ◌∷◌, map, length, get_or}
use Rattle.std.proofs.Common.{arith, ap, ◌∙◌, inl, inr, length-append}
use Rattle.std.proofs.Math.Option.{none, some}
use Rattle.meaning.specs.Base.{In}
use Rattle.meaning.specs.Grammar.{terminal, nonterminal, Function, const, copy, binary, addc, quot, Rule, Condition, range, atmost}
use Rattle.meaning.specs.Scheme.{Instruction, add, evaluate, expect, test, remove}
use Rattle.meaning.specs.Machine.{expects}
use Rattle.meaning.specs.Calls.{from_expect}
use Rattle.meaning.specs.Program.{concat, function_words, rule_words, condition_words, instruction_words, scheme_words, expects_at, add_operation, evaluate_operation, read_operation, predict_operation, test_operation, remove_operation, head_of}
use Rattle.theory_program.specs.Parts.{head_operation, head_operand}
use Rattle.theory_program.specs.WordsStand.{WordsStand, stands_at, stands_left, stands_right, stands_tail, stands_word, stands_head}

pub record RulesAt (ws : List ℕ) (a : ℕ) (rs : List (Rule ℕ)) : Type 0 where
  pub words : WordsStand ws a (concat (map rule_words rs))

pub record ConditionsAt (ws : List ℕ) (a : ℕ) (cs : List (Condition ℕ)) : Type 0 where
  pub words : WordsStand ws a (concat (map condition_words cs))

pub record CodeAt (ws : List ℕ) (a : ℕ) (is : List Instruction) : Type 0 where
  pub words : WordsStand ws a (scheme_words is)

-- ---- how many words there are

pub rule_length_lem : (r : Rule ℕ) → length (rule_words r) ≡ 2
rule_length_lem r = go r.target r.function
  where
    go : (t : ℕ) (f : Function ℕ) → length (function_words t f) ≡ 2
    go t (const c) = refl
    go t (copy a) = refl
    go t (binary f a b) = refl
    go t (addc a c) = refl
    go t (quot a c) = refl

pub condition_length_lem : (c : Condition ℕ) → length (condition_words c) ≡ 3
condition_length_lem (range a l h) = refl
condition_length_lem (atmost a b none) = refl
condition_length_lem (atmost a b (some c)) = refl

-- lists of the same length, one after the other
each_length : {A : Type 0} (n : ℕ) (f : A → List ℕ) → ((x : A) → length (f x) ≡ n) → (xs : List A) → length (concat (map f xs)) ≡ n * length xs
each_length n f h [] = omega arith
each_length n f h (x ∷ xs) = length-append (f x) (concat (map f xs)) ∙ (omega (arith, h x, each_length n f h xs))

pub rules_length : (rs : List (Rule ℕ)) → length (concat (map rule_words rs)) ≡ 2 * length rs
rules_length rs = each_length 2 rule_words rule_length_lem rs

pub conditions_length : (cs : List (Condition ℕ)) → length (concat (map condition_words cs)) ≡ 3 * length cs
conditions_length cs = each_length 3 condition_words condition_length_lem cs

-- ---- rules and conditions, one by one

-- two words, and the rules behind them
pub rule_first_lem : {ws : List ℕ} {a : ℕ} {r : Rule ℕ} {rs : List (Rule ℕ)} → RulesAt ws a (r ∷ rs) → (get_or ws a 0 ≡ get_or (rule_words r) 0 0) × (get_or ws (a + 1) 0 ≡ get_or (rule_words r) 1 0) × RulesAt ws (a + 2) rs
rule_first_lem {ws} {a} {r} {rs} s =
    let here = stands_left (rule_words r) (concat (map rule_words rs)) s.words in
    let l = rule_length_lem r in
    let behind : RulesAt ws (a + 2) rs = record { words = stands_at (a + 2) (omega arith) (stands_right (rule_words r) (concat (map rule_words rs)) s.words) } in
    (ap (λ b. get_or ws b 0) (omega arith) ∙ stands_word here 0 (omega arith), stands_word here 1 (omega arith), behind)

-- three words, and the conditions behind them
pub condition_first_lem : {ws : List ℕ} {a : ℕ} {c : Condition ℕ} {cs : List (Condition ℕ)} → ConditionsAt ws a (c ∷ cs)
    → (get_or ws a 0 ≡ get_or (condition_words c) 0 0) × (get_or ws (a + 1) 0 ≡ get_or (condition_words c) 1 0) × (get_or ws (a + 2) 0 ≡ get_or (condition_words c) 2 0) × ConditionsAt ws (a + 3) cs
condition_first_lem {ws} {a} {c} {cs} s =
    let here = stands_left (condition_words c) (concat (map condition_words cs)) s.words in
    let l = condition_length_lem c in
    let behind : ConditionsAt ws (a + 3) cs = record { words = stands_at (a + 3) (omega arith) (stands_right (condition_words c) (concat (map condition_words cs)) s.words) } in
    (ap (λ b. get_or ws b 0) (omega arith) ∙ stands_word here 0 (omega arith), stands_word here 1 (omega arith), stands_word here 2 (omega arith), behind)

-- ---- instructions by their first word

-- the number of the operation, and its operand
abbrev pub operation : Instruction → ℕ
operation (add n) = add_operation
operation (evaluate rs) = evaluate_operation
operation (expect x) = elim x [ terminal t ↦ read_operation | nonterminal n ↦ predict_operation ]
operation (test cs) = test_operation
operation (remove n) = remove_operation

abbrev pub operand : Instruction → ℕ
operand (add n) = n
operand (evaluate rs) = length rs
operand (expect x) = elim x [ terminal t ↦ t | nonterminal n ↦ n ]
operand (test cs) = length cs
operand (remove n) = n

head_word : (i : Instruction) → get_or (instruction_words i) 0 0 ≡ head_of (operation i) (operand i)
head_word (add n) = refl
head_word (evaluate rs) = refl
head_word (expect (terminal t)) = refl
head_word (expect (nonterminal n)) = refl
head_word (test cs) = refl
head_word (remove n) = refl

some_word : (i : Instruction) → 0 < length (instruction_words i)
some_word (add n) = omega arith
some_word (evaluate rs) = omega arith
some_word (expect x) = omega arith
some_word (test cs) = omega arith
some_word (remove n) = omega arith

-- none of them is the number that says that nothing is left
pub low_operation : (i : Instruction) → operation i ≤ remove_operation
low_operation (add n) = omega arith
low_operation (evaluate rs) = omega arith
low_operation (expect (terminal t)) = omega arith
low_operation (expect (nonterminal n)) = omega arith
low_operation (test cs) = omega arith
low_operation (remove n) = omega arith

-- the word at hand, taken apart
pub code_head : {ws : List ℕ} {a : ℕ} {i : Instruction} {is : List Instruction} → CodeAt ws a (i ∷ is) → (head_operation (get_or ws a 0) ≡ operation i) × (head_operand (get_or ws a 0) ≡ operand i)
code_head {ws} {a} {i} {is} s =
    let e : get_or ws a 0 ≡ head_of (operation i) (operand i) = ap (λ b. get_or ws b 0) (omega arith) ∙ (stands_word (stands_left (instruction_words i) (scheme_words is) s.words) 0 (some_word i) ∙ head_word i) in
    let l = low_operation i in
    (omega arith, omega arith)

-- the instructions behind the first one
pub code_next : {ws : List ℕ} {a : ℕ} {i : Instruction} {is : List Instruction} → CodeAt ws a (i ∷ is) → CodeAt ws (a + length (instruction_words i)) is
code_next {i = i} {is = is} s = record { words = stands_right (instruction_words i) (scheme_words is) s.words }

pub code_evaluate : {ws : List ℕ} {a : ℕ} {rs : List (Rule ℕ)} {is : List Instruction} → CodeAt ws a (evaluate rs ∷ is) → (get_or ws a 0 ≡ head_of evaluate_operation (length rs)) × RulesAt ws (a + 1) rs × CodeAt ws (a + 1 + 2 * length rs) is
code_evaluate {ws} {a} {rs} {is} s =
    let t = stands_tail s.words in
    let rules : RulesAt ws (a + 1) rs = record { words = stands_left (concat (map rule_words rs)) (scheme_words is) t } in
    let behind : CodeAt ws (a + 1 + 2 * length rs) is = record { words = stands_at (a + 1 + 2 * length rs) (omega (arith, rules_length rs)) (stands_right (concat (map rule_words rs)) (scheme_words is) t) } in
    (stands_head s.words, rules, behind)

pub code_test : {ws : List ℕ} {a : ℕ} {cs : List (Condition ℕ)} {is : List Instruction} → CodeAt ws a (test cs ∷ is) → (get_or ws a 0 ≡ head_of test_operation (length cs)) × ConditionsAt ws (a + 1) cs × CodeAt ws (a + 1 + 3 * length cs) is
code_test {ws} {a} {cs} {is} s =
    let t = stands_tail s.words in
    let conditions : ConditionsAt ws (a + 1) cs = record { words = stands_left (concat (map condition_words cs)) (scheme_words is) t } in
    let behind : CodeAt ws (a + 1 + 3 * length cs) is = record { words = stands_at (a + 1 + 3 * length cs) (omega (arith, conditions_length cs)) (stands_right (concat (map condition_words cs)) (scheme_words is) t) } in
    (stands_head s.words, conditions, behind)

-- ---- which instruction a number means

pub is_add : (i : Instruction) → operation i ≡ add_operation → i ≡ add (operand i)
is_add (add n) e = refl
is_add (evaluate rs) e = absurd (omega arith)
is_add (expect (terminal t)) e = absurd (omega arith)
is_add (expect (nonterminal n)) e = absurd (omega arith)
is_add (test cs) e = absurd (omega arith)
is_add (remove n) e = absurd (omega arith)

pub is_evaluate : (i : Instruction) → operation i ≡ evaluate_operation → (rs : List (Rule ℕ)) × (i ≡ evaluate rs)
is_evaluate (add n) e = absurd (omega arith)
is_evaluate (evaluate rs) e = (rs, refl)
is_evaluate (expect (terminal t)) e = absurd (omega arith)
is_evaluate (expect (nonterminal n)) e = absurd (omega arith)
is_evaluate (test cs) e = absurd (omega arith)
is_evaluate (remove n) e = absurd (omega arith)

pub is_terminal_lem : (i : Instruction) → operation i ≡ read_operation → i ≡ expect (terminal (operand i))
is_terminal_lem (add n) e = absurd (omega arith)
is_terminal_lem (evaluate rs) e = absurd (omega arith)
is_terminal_lem (expect (terminal t)) e = refl
is_terminal_lem (expect (nonterminal n)) e = absurd (omega arith)
is_terminal_lem (test cs) e = absurd (omega arith)
is_terminal_lem (remove n) e = absurd (omega arith)

pub is_nonterminal_lem : (i : Instruction) → operation i ≡ predict_operation → i ≡ expect (nonterminal (operand i))
is_nonterminal_lem (add n) e = absurd (omega arith)
is_nonterminal_lem (evaluate rs) e = absurd (omega arith)
is_nonterminal_lem (expect (terminal t)) e = absurd (omega arith)
is_nonterminal_lem (expect (nonterminal n)) e = refl
is_nonterminal_lem (test cs) e = absurd (omega arith)
is_nonterminal_lem (remove n) e = absurd (omega arith)

pub is_test : (i : Instruction) → operation i ≡ test_operation → (cs : List (Condition ℕ)) × (i ≡ test cs)
is_test (add n) e = absurd (omega arith)
is_test (evaluate rs) e = absurd (omega arith)
is_test (expect (terminal t)) e = absurd (omega arith)
is_test (expect (nonterminal n)) e = absurd (omega arith)
is_test (test cs) e = (cs, refl)
is_test (remove n) e = absurd (omega arith)

pub is_remove : (i : Instruction) → operation i ≡ remove_operation → i ≡ remove (operand i)
is_remove (add n) e = absurd (omega arith)
is_remove (evaluate rs) e = absurd (omega arith)
is_remove (expect (terminal t)) e = absurd (omega arith)
is_remove (expect (nonterminal n)) e = absurd (omega arith)
is_remove (test cs) e = absurd (omega arith)
is_remove (remove n) e = refl

-- ---- expects

pub expects_length : (a : ℕ) (is : List Instruction) → length (expects_at a is) ≡ expects is
expects_length a [] = refl
expects_length a (expect x ∷ is) = omega (arith, expects_length (suc a) is)
expects_length a (add n ∷ is) = omega (arith, expects_length (a + length (instruction_words (add n))) is)
expects_length a (evaluate rs ∷ is) = omega (arith, expects_length (a + length (instruction_words (evaluate rs))) is)
expects_length a (test cs ∷ is) = omega (arith, expects_length (a + length (instruction_words (test cs))) is)
expects_length a (remove n ∷ is) = omega (arith, expects_length (a + length (instruction_words (remove n))) is)

-- an expect stands in its scheme
pub expects_below : (a : ℕ) (is : List Instruction) (v : ℕ) → In v (expects_at a is) → v < a + length (scheme_words is)
expects_below a [] v i = absurd i
expects_below a (expect x ∷ is) v (inl e) = omega arith
expects_below a (expect x ∷ is) v (inr i) = omega (arith, expects_below (suc a) is v i)
expects_below a (add n ∷ is) v i = omega (arith, expects_below (a + length (instruction_words (add n))) is v i)
expects_below a (evaluate rs ∷ is) v i = omega (arith, expects_below (a + length (instruction_words (evaluate rs))) is v i, length-append (instruction_words (evaluate rs)) (scheme_words is))
expects_below a (test cs ∷ is) v i = omega (arith, expects_below (a + length (instruction_words (test cs))) is v i, length-append (instruction_words (test cs)) (scheme_words is))
expects_below a (remove n ∷ is) v i = omega (arith, expects_below (a + length (instruction_words (remove n))) is v i)

-- the code from the expect of a symbol on
pub code_from : {ws : List ℕ} (a : ℕ) (is : List Instruction) (k : ℕ) → k < expects is → CodeAt ws a is → CodeAt ws (get_or (expects_at a is) k 0) (from_expect is k)
code_from a [] k l s = absurd (omega arith)
code_from a (expect x ∷ is) zero l s = s
code_from a (expect x ∷ is) (suc k) l s = code_from (suc a) is k (omega arith) (record { words = stands_at (suc a) (omega arith) (stands_tail s.words) })
code_from a (add n ∷ is) k l s = code_from (a + length (instruction_words (add n))) is k (omega arith) (code_next s)
code_from a (evaluate rs ∷ is) k l s = code_from (a + length (instruction_words (evaluate rs))) is k (omega arith) (code_next s)
code_from a (test cs ∷ is) k l s = code_from (a + length (instruction_words (test cs))) is k (omega arith) (code_next s)
code_from a (remove n ∷ is) k l s = code_from (a + length (instruction_words (remove n))) is k (omega arith) (code_next s)
