-- A cursor at an instruction: what its word says, and what comes behind it.
use Rattle.std.specs.Prelude.{ℕ, ◌+◌, ◌*◌, ◌≤◌, ◌≡◌, refl, true, List, [], ◌∷◌, ◌++◌, length, T}
use Rattle.std.proofs.Common.{add-one, arith, sym, ap, ◌∙◌, subst, inl, inr, append_assoc, eq-eqb, ne_eqb, length-append}
use Rattle.meaning.specs.Limits.{area_length}
use Rattle.meaning.specs.Grammar.{Symbol, terminal, nonterminal, Grammar}
use Rattle.meaning.specs.Scheme.{Instruction, add, evaluate, expect, test, remove}
use Rattle.meaning.specs.Machine.{expects}
use Rattle.meaning.specs.Program.{instruction_words, scheme_words, add_operation, remove_operation, evaluate_operation, test_operation}
use Rattle.meaning.specs.Listing.{Text}
use Rattle.theory_program.specs.WordsStand.{stands_at, stands_left}
use Rattle.theory_program.specs.Parts.{head_operand}
use Rattle.theory_program.specs.Code.{CodeAt, operation, code_head, code_next, code_evaluate, code_test, rules_length, conditions_length}
use Rattle.listing_lines.specs.Line.{add_line, remove_line}
use Rattle.program_parts.specs.declared.Items.TheVariants.{Conditions}
use Rattle.listing_text.specs.declared.Cursor.{Cursor}
use Rattle.listing_text.specs.Lines.{code_lines}
use Rattle.listing_text.specs.Pending.{Items, rules, conditions, instruction_of, kind_of, item_count, item_size, item_lines, ItemsAt, ProperItems, Ends, symbols, later, Unread, Inside, Pending, some}
use Rattle.listing_text.specs.Cursors.{word_at, operation_at, operand_at, go_on, silent, skipped}

-- no items are left
pub record AtHead (g : Grammar) (ws : List ℕ) (c : Cursor) (is : List Instruction) (ls : List Text) : Type 0 where
  pub unread : Unread g c.production c.passed is
  pub code : CodeAt ws c.at is
  pub fits : c.at + length (scheme_words is) ≤ area_length
  pub lines : ls ≡ code_lines c.production (symbols g c) c.passed is ++ later g c

code_at : {ws : List ℕ} {a : ℕ} {is : List Instruction} (b : ℕ) → a ≡ b → CodeAt ws a is → CodeAt ws b is
code_at b e s = record { words = stands_at b e s.words }

-- behind one more instruction
unread_next : {g : Grammar} {i k l : ℕ} {j : Instruction} {is : List Instruction} → l + expects is ≡ k + expects (j ∷ is) → (Ends (j ∷ is) → Ends is) → Unread g i k (j ∷ is) → Unread g i l is
unread_next e f h = record { listed = h.listed; proper = λ i j. h.proper i (inr j); passed = e ∙ h.passed; ends = f h.ends }

-- ---- the items of an evaluate or a test

items_unread : {g : Grammar} {i k : ℕ} {is : List Instruction} (items : Items) → Unread g i k (instruction_of items ∷ is) → Unread g i k is × ProperItems items
items_unread (rules rs) h = (unread_next (omega arith) (λ e. e) h, (h.proper (evaluate rs) (inl refl)).2)
items_unread (conditions cs) h = (unread_next (omega arith) (λ e. e) h, (h.proper (test cs) (inl refl)).2)

-- how many there are, they, and what stands behind them
items_at : {ws : List ℕ} {a : ℕ} {is : List Instruction} (items : Items) → CodeAt ws a (instruction_of items ∷ is) → (head_operand (word_at ws a) ≡ item_count items) × ItemsAt ws (a + 1) items × CodeAt ws (a + 1 + item_size items) is
items_at (rules rs) s = ((code_head s).1, (code_evaluate s).1, (code_evaluate s).2)
items_at (conditions cs) s = ((code_head s).1, (code_test s).1, (code_test s).2)

items_length : (items : Items) → length (instruction_words (instruction_of items)) ≡ 1 + item_size items
items_length (rules rs) = omega (arith, rules_length rs)
items_length (conditions cs) = omega (arith, conditions_length cs)

items_lines : (i n k : ℕ) (items : Items) (is : List Instruction) (ls : List Text) → code_lines i n k (instruction_of items ∷ is) ++ ls ≡ item_lines i n k items ++ (code_lines i n k is ++ ls)
items_lines i n k (rules rs) is ls = simp append_assoc
items_lines i n k (conditions cs) is ls = simp append_assoc

module _ {g : Grammar} {ws : List ℕ} {c : Cursor} {ls : List Text} where
  pub head_of : {is : List Instruction} (items : Items) → Inside g ws c items is ls → c.left ≡ 0 → AtHead g ws c is ls
  head_of (rules []) h e = record { unread = h.unread; code = code_at c.at (omega arith) h.behind; fits = omega (arith, h.fits); lines = h.lines }
  head_of (conditions []) h e = record { unread = h.unread; code = code_at c.at (omega arith) h.behind; fits = omega (arith, h.fits); lines = h.lines }
  head_of (rules (r ∷ rs)) h e = absurd (omega (arith, h.count))
  head_of (conditions (d ∷ ds)) h e = absurd (omega (arith, h.count))

  -- on at an instruction
  resume : {is : List Instruction} → AtHead g ws c is ls → c.left ≡ 0 → c.items ≡ Conditions → Pending g ws c ls
  resume {is} h e f = some (conditions []) is (record {
    unread = h.unread;
    kind = f;
    count = e;
    here = record { words = stands_left [] (scheme_words is) h.code.words };
    behind = code_at (c.at + 3 * 0) (omega arith) h.code;
    proper_items = λ d i. absurd i;
    fits = omega (arith, h.fits);
    lines = h.lines;
  })

  -- on at the items of an instruction
  on_items : (items : Items) {is : List Instruction} → AtHead g ws c (instruction_of items ∷ is) ls → Pending g ws (go_on c c.passed (kind_of items) (operand_at ws c) (c.at + 1)) ls
  on_items items {is} h =
      let w = items_at items h.code in
      let u = items_unread items h.unread in
      some items is (record {
        unread = u.0;
        kind = refl;
        count = w.0;
        here = w.1;
        behind = w.2;
        proper_items = u.1;
        fits = omega (arith, h.fits, length-append (instruction_words (instruction_of items)) (scheme_words is), items_length items);
        lines = h.lines ∙ items_lines c.production (symbols g c) c.passed items is (later g c);
      })

-- the next instruction, behind one of one word
module _ {g : Grammar} {ws : List ℕ} {c : Cursor} where
  pub on_expect_lem : {x : Symbol} {is : List Instruction} {ls : List Text} → AtHead g ws c (expect x ∷ is) ls → Pending g ws (go_on c (c.passed + 1) Conditions 0 (c.at + 1)) ls
  on_expect_lem {x} {is} {ls} h = resume (record {
    unread = unread_next (omega arith) (λ e. e) h.unread;
    code = code_next h.code;
    fits = omega (arith, h.fits);
    lines = h.lines ∙ ap (λ k. code_lines c.production (symbols g c) k is ++ later g c) (sym (add-one c.passed));
  }) refl refl

  pub on_add_lem : {m : ℕ} {is : List Instruction} {ls : List Text} → AtHead g ws c (add m ∷ is) ls → (rest : List Text) × (ls ≡ add_line c.production (c.passed + 1) (operand_at ws c) ∷ rest) × Pending g ws (go_on c c.passed Conditions 0 (c.at + 1)) rest
  on_add_lem {m} {is} {ls} h =
      let rest = code_lines c.production (symbols g c) c.passed is ++ later g c in
      let next : AtHead g ws (go_on c c.passed Conditions 0 (c.at + 1)) is rest = record {
        unread = unread_next (omega arith) (λ e. e) h.unread;
        code = code_next h.code;
        fits = omega (arith, h.fits);
        lines = refl;
      } in
      (rest, h.lines ∙ λ t. add_line c.production (sym (add-one c.passed) t) (sym (code_head h.code).1 t) ∷ rest, resume next refl refl)

  pub on_remove : {m : ℕ} {is : List Instruction} {ls : List Text} → AtHead g ws c (remove m ∷ is) ls → ls ≡ remove_line c.production (operand_at ws c) ∷ later g c
  on_remove {m} {is} {ls} h =
      h.lines
      ∙ (ap (λ l. remove_line c.production m ∷ (code_lines c.production (symbols g c) c.passed l ++ later g c)) h.unread.ends
      ∙ ap (λ n. remove_line c.production n ∷ later g c) (sym (code_head h.code).1))

-- ---- an instruction without a line

no_line : (w : ℕ) → silent w ≡ true → (w ≡ add_operation → ⊥) × (w ≡ remove_operation → ⊥)
no_line w e = ((λ f. subst T (sym (sym (ap silent f) ∙ e)) tt), (λ f. subst T (sym (sym (ap silent f) ∙ e)) tt))

of_expect : (x : Symbol) → (operation (expect x) ≡ evaluate_operation → ⊥) × (operation (expect x) ≡ test_operation → ⊥)
of_expect (terminal t) = ((λ e. omega arith), (λ e. omega arith))
of_expect (nonterminal n) = ((λ e. omega arith), (λ e. omega arith))

module _ {g : Grammar} {ws : List ℕ} {c : Cursor} where
  pub on_silent : (is : List Instruction) {ls : List Text} → silent (operation_at ws c) ≡ true → AtHead g ws c is ls → Pending g ws (skipped ws c) ls
  on_silent [] t h = absurd h.unread.ends
  on_silent (add m ∷ is) t h = absurd ((no_line (operation_at ws c) t).0 (code_head h.code).0)
  on_silent (evaluate rs ∷ is) t h = rw (eq-eqb (operation_at ws c) evaluate_operation (code_head h.code).0) (on_items (rules rs) h)
  on_silent (expect x ∷ is) t h =
      let e : operation_at ws c ≡ operation (expect x) = (code_head h.code).0 in
      rw (ne_eqb (operation_at ws c) evaluate_operation (λ f. (of_expect x).0 (sym e ∙ f)), ne_eqb (operation_at ws c) test_operation (λ f. (of_expect x).1 (sym e ∙ f))) (on_expect_lem h)
  on_silent (test cs ∷ is) t h =
      let e : operation_at ws c ≡ test_operation = (code_head h.code).0 in
      rw (ne_eqb (operation_at ws c) evaluate_operation (λ f. omega arith), eq-eqb (operation_at ws c) test_operation e) (on_items (conditions cs) h)
  on_silent (remove m ∷ is) t h = absurd ((no_line (operation_at ws c) t).1 (code_head h.code).0)
