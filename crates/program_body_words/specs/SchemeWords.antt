-- The words of a scheme, symbol by symbol: an add, an evaluate, an expect, a test.
use Prim.Native.Nat.{ℕ, zero, suc, ◌+◌, ◌*◌}
use native.Mathlib.Omega.{arith}
use Rattle.std.specs.Prelude.{◌≡◌, refl, Bool, not, cond, eqb, ltb}
use Rattle.std.proofs.Common.{sym, ◌∙◌, length-append, lt-ltb}
use Rattle.std.proofs.Math.Path.{ap, ap₂}
use Rattle.std.proofs.Math.Bool.{true, false}
use mathlib.Core.List.{List, [], ◌∷◌, ◌++◌, map, append_assoc, append-nil}
use Rattle.std.proofs.Math.ListN.{length}
use Rattle.std.proofs.Math.Dec.{eqb-suc-zero}
use Rattle.meaning.specs.Base.{cons_if, is_empty}
use Rattle.meaning.specs.Grammar.{Symbol, Rule, Condition, Production, Grammar, added_for}
use Rattle.meaning.specs.Scheme.{Instruction, add, evaluate, expect, test, remove, removed, inherited_rules, synthesized_rules, tests_after, symbol_scheme}
use Rattle.meaning.specs.Program.{concat, rule_words, condition_words, instruction_words, symbol_head, scheme_words, expects_at, head_of, add_operation, remove_operation}
use Rattle.theory_program.specs.Code.{rules_length, conditions_length}
use Rattle.program_block_words.specs.Items.{choose_words, item_size}
use Rattle.program_block_words.specs.Walk.{block}

unfoldable pub add_words : ℕ → List ℕ
add_words n = choose_words (eqb n 0) [] (8 * n ∷ [])

-- ---- sizes

unfoldable pub add_size : ℕ → ℕ
add_size n = cond (eqb n 0) 0 1

unfoldable pub block_size : Bool → ℕ → ℕ
block_size rules n = cond (eqb n 0) 0 (1 + item_size rules * n)

pub add_length : (n : ℕ) → length (add_words n) ≡ add_size n
unfolding add_words add_size
add_length n = go (eqb n 0)
  where
    go : (b : Bool) → length (choose_words b [] (8 * n ∷ [])) ≡ cond b 0 1
    go true = refl
    go false = refl

pub block_length : (rules : Bool) (n : ℕ) (ws : List ℕ) → length ws ≡ item_size rules * n → length (block rules n ws) ≡ block_size rules n
unfolding block block_size
block_length rules n ws e = go (eqb n 0) _
  where
    go : (b : Bool) (h : ℕ) → length (choose_words b [] (h ∷ ws)) ≡ cond b 0 (1 + item_size rules * n)
    go true h = refl
    go false h = omega (arith, e)

-- ---- instructions that may be absent

abbrev pub evaluate_words : List (Rule ℕ) → List ℕ
evaluate_words rs = block true (length rs) (concat (map rule_words rs))

abbrev pub test_words_value : List (Condition ℕ) → List ℕ
test_words_value cs = block false (length cs) (concat (map condition_words cs))

pub evaluate_length : (rs : List (Rule ℕ)) → length (evaluate_words rs) ≡ block_size true (length rs)
evaluate_length rs = block_length true (length rs) (concat (map rule_words rs)) (rules_length rs)

pub test_length : (cs : List (Condition ℕ)) → length (test_words_value cs) ≡ block_size false (length cs)
test_length cs = block_length false (length cs) (concat (map condition_words cs)) (conditions_length cs)

add_here_lem : (n : ℕ) (rest : List Instruction) → scheme_words (cons_if (ltb 0 n) (add n) rest) ≡ add_words n ++ scheme_words rest
unfolding add_words
add_here_lem zero rest = refl
add_here_lem (suc n) rest =
    let e : head_of add_operation (suc n) ≡ 8 * suc n = omega arith in
    rw (lt-ltb 0 (suc n) (omega arith), eqb-suc-zero n, e)

pub evaluate_here : (rs : List (Rule ℕ)) (rest : List Instruction) → scheme_words (cons_if (not (is_empty rs)) (evaluate rs) rest) ≡ evaluate_words rs ++ scheme_words rest
unfolding block
evaluate_here [] rest = refl
evaluate_here (r ∷ rs) rest = rw (eqb-suc-zero (length rs))

test_here : (cs : List (Condition ℕ)) (rest : List Instruction) → scheme_words (cons_if (not (is_empty cs)) (test cs) rest) ≡ test_words_value cs ++ scheme_words rest
unfolding block
test_here [] rest = refl
test_here (c ∷ cs) rest = rw (eqb-suc-zero (length cs))

-- ---- one symbol

unfoldable pub symbol_words : Grammar → Production → ℕ → Symbol → List ℕ
symbol_words g p k x = add_words (added_for g x) ++ (evaluate_words (inherited_rules g p k) ++ (symbol_head x ∷ test_words_value (tests_after g p k)))

-- the words before its expect
unfoldable pub ahead_size : Grammar → Production → ℕ → Symbol → ℕ
ahead_size g p k x = add_size (added_for g x) + block_size true (length (inherited_rules g p k))

pub symbol_length : (g : Grammar) (p : Production) (k : ℕ) (x : Symbol) → length (symbol_words g p k x) ≡ ahead_size g p k x + 1 + block_size false (length (tests_after g p k))
unfolding symbol_words ahead_size
symbol_length g p k x =
    let e = evaluate_words (inherited_rules g p k) in
    let t = test_words_value (tests_after g p k) in
    omega (arith, length-append (add_words (added_for g x)) (e ++ (symbol_head x ∷ t)), length-append e (symbol_head x ∷ t), add_length (added_for g x), evaluate_length (inherited_rules g p k), test_length (tests_after g p k))

pub scheme_symbol : (g : Grammar) (p : Production) (k : ℕ) (x : Symbol) (rest : List Instruction) → scheme_words (symbol_scheme g p k x rest) ≡ symbol_words g p k x ++ scheme_words rest
unfolding symbol_words
scheme_symbol g p k x rest =
    let a = add_words (added_for g x) in
    let e = evaluate_words (inherited_rules g p k) in
    let t = test_words_value (tests_after g p k) in
    add_here_lem (added_for g x) _
    ∙ (ap (λ z. a ++ z) (evaluate_here (inherited_rules g p k) _ ∙ ap (λ z. e ++ (symbol_head x ∷ z)) (test_here (tests_after g p k) rest))
    ∙ simp append_assoc)

-- ---- the addresses of expects

expects_if : (b : Bool) (i : Instruction) (a n : ℕ) (rest : List Instruction) → ((s : List Instruction) → expects_at a (i ∷ s) ≡ expects_at (a + length (instruction_words i)) s) → length (scheme_words (cons_if b i [])) ≡ n → expects_at a (cons_if b i rest) ≡ expects_at (a + n) rest
expects_if true i a n rest h e =
    let same : length (instruction_words i) ≡ n = sym (ap length (append-nil (instruction_words i))) ∙ e in
    h rest ∙ ap (λ z. expects_at (a + z) rest) same
expects_if false i a n rest h e =
    let same : a ≡ a + n = omega (arith, e) in
    ap (λ z. expects_at z rest) same

module _ (g : Grammar) (p : Production) (k : ℕ) (x : Symbol) (rest : List Instruction) where
  pub expects_symbol : (a : ℕ) → expects_at a (symbol_scheme g p k x rest) ≡ (a + ahead_size g p k x) ∷ expects_at (a + length (symbol_words g p k x)) rest
  unfolding ahead_size
  expects_symbol a =
      let rules = inherited_rules g p k in
      let tests = tests_after g p k in
      let m = add_size (added_for g x) in
      let n = block_size true (length rules) in
      let behind = cons_if (not (is_empty tests)) (test tests) rest in
      let first = expects_if (ltb 0 (added_for g x)) (add (added_for g x)) a m (cons_if (not (is_empty rules)) (evaluate rules) (expect x ∷ behind)) (λ s. refl) (ap length (add_here_lem (added_for g x) []) ∙ simp append-nil (add_length (added_for g x))) in
      let second = expects_if (not (is_empty rules)) (evaluate rules) (a + m) n (expect x ∷ behind) (λ s. refl) (ap length (evaluate_here rules []) ∙ simp append-nil (evaluate_length rules)) in
      let here : a + m + n ≡ a + (m + n) = omega arith in
      let third = expects_if (not (is_empty tests)) (test tests) (suc (a + m + n)) (block_size false (length tests)) rest (λ s. refl) (ap length (test_here tests []) ∙ simp append-nil (test_length tests)) in
      let there : suc (a + m + n) + block_size false (length tests) ≡ a + length (symbol_words g p k x) = omega (arith, symbol_length g p k x) in
      first ∙ (second ∙ ap₂ (λ y ys. y ∷ ys) here (third ∙ ap (λ z. expects_at z rest) there))

-- ---- the end of a scheme

abbrev pub end_scheme : Grammar → Production → List Instruction
end_scheme g p = cons_if (not (is_empty (synthesized_rules g p))) (evaluate (synthesized_rules g p)) (remove (removed g p) ∷ [])

unfoldable pub end_words : Grammar → Production → List ℕ
end_words g p = evaluate_words (synthesized_rules g p) ++ (head_of remove_operation (removed g p) ∷ [])

pub scheme_end_lem : (g : Grammar) (p : Production) → scheme_words (end_scheme g p) ≡ end_words g p
unfolding end_words
scheme_end_lem g p = evaluate_here (synthesized_rules g p) (remove (removed g p) ∷ [])

pub expects_end : (g : Grammar) (p : Production) (a : ℕ) → expects_at a (end_scheme g p) ≡ []
expects_end g p a =
    expects_if (not (is_empty (synthesized_rules g p))) (evaluate (synthesized_rules g p)) a (block_size true (length (synthesized_rules g p))) (remove (removed g p) ∷ []) (λ s. refl) (ap length (evaluate_here (synthesized_rules g p) []) ∙ simp append-nil (evaluate_length (synthesized_rules g p)))
