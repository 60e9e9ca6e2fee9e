-- In the program of a grammar the lines left at a cursor are those of the listing that are still to come.
use Rattle.std.specs.Prelude.{ℕ, zero, suc, ◌+◌, ◌-◌, ◌<◌, ◌≡◌, refl, Bool, true, false, List, [], ◌∷◌, ◌++◌, length, T, eqb, ltb}
use Rattle.std.proofs.Common.{add-one, arith, sym, ap, ◌∙◌, subst, inl, inr}
use borrow.Author.Tests.{ltb-true, ltb-false, eqb-true, eqb-false}
use Rattle.meaning.specs.Program.{add_operation}
use Rattle.meaning.specs.Grammar.{terminal, nonterminal, Grammar}
use Rattle.meaning.specs.Rules.{WellFormed}
use Rattle.meaning.specs.Scheme.{Instruction, add, evaluate, expect, test, remove}
use Rattle.meaning.specs.Listing.{Text, listing}
use Rattle.theory_program.specs.WordsStand.{stands_at}
use Rattle.theory_program.specs.Code.{code_head, rule_first_lem, condition_first_lem}
use Rattle.theory_program.specs.Addresses.{Begins}
use Rattle.theory_program.specs.Unpacked.{rule_at, condition_at}
use Rattle.listing_lines.specs.Line.{rule_line, condition_line}
use Rattle.program_parts.specs.declared.Items.{Items as Kind}
use Rattle.program_parts.specs.declared.Items.TheVariants.{Rules, Conditions}
use Rattle.program_parts.specs.Items.{are_rules}
use Rattle.listing_text.specs.declared.Cursor.{Cursor}
use Rattle.listing_text.specs.Lines.{position_at, rules_of, conditions_of, code_lines}
use Rattle.listing_text.specs.Pending.{Items, rules, conditions, kind_of, item_count, item_size, item_lines, ItemsAt, ProperItems, symbols, later, Inside, Pending, none, some}
use Rattle.listing_text.specs.Cursors.{operation_at, start_of, go_on, inside_of, silent, skips_of, skipped, rule_here, behind_rule, condition_here, behind_condition, add_here, behind_add, remove_here, NextLine, stop, skip, emit, pick_step, item_step, head_step, step_of, followed, ahead, lines_left}
use Rattle.listing_text.specs.Tests.{skips_facts, is_loud}
use Rattle.listing_text.specs.Falling.{Onward, onward, lines_step}
use Rattle.listing_text.specs.Heads.{AtHead, head_of, on_add_lem, on_remove, on_silent}
use Rattle.listing_text.specs.Starts.{symbols_word, inside_some, inside_none, pending_start}

-- ---- the first line

-- t comes first, and what comes behind it is what is still to come at c
pub record First (g : Grammar) (ws : List ℕ) (ls : List Text) (t : Text) (c : Cursor) : Type 0 where
  pub rest : List Text
  pub lines : ls ≡ t ∷ rest
  pub pending : Pending g ws c rest

outside : {g : Grammar} {ws : List ℕ} → WellFormed g → Begins g ws → (c : Cursor) → inside_of ws c ≡ true → c.production ≡ length g.productions → ⊥
outside w b c e p = subst T (sym e ∙ inside_none w b c p) tt

module _ {g : Grammar} {ws : List ℕ} (w : WellFormed g) (b : Begins g ws) (c : Cursor) {ls : List Text} where
  pub pending_over : inside_of ws c ≡ false → Pending g ws c ls → ls ≡ []
  pending_over e (none p f) = f
  pending_over e (some items is h) = absurd (subst T (sym (inside_some w b h) ∙ e) tt)

  -- ---- instructions

  -- behind an instruction that has no line of its own
  pub pending_skip : skips_of ws c ≡ true → Pending g ws c ls → Pending g ws (skipped ws c) ls
  pending_skip e (none p f) = absurd (outside w b c (skips_facts ws c e).inside p)
  pending_skip e (some items is h) = let s = skips_facts ws c e in on_silent is s.quiet (head_of items h s.none)

  at_add_lem : (is : List Instruction) → AtHead g ws c is ls → operation_at ws c ≡ add_operation → First g ws ls (add_here ws c) (behind_add c)
  at_add_lem [] h e = absurd h.unread.ends
  at_add_lem (add m ∷ is) h e = let f = on_add_lem h in record { rest = f.0; lines = f.1; pending = f.2 }
  at_add_lem (evaluate rs ∷ is) h e = absurd (omega (arith, (code_head h.code).0))
  at_add_lem (expect (terminal t) ∷ is) h e = absurd (omega (arith, (code_head h.code).0))
  at_add_lem (expect (nonterminal n) ∷ is) h e = absurd (omega (arith, (code_head h.code).0))
  at_add_lem (test cs ∷ is) h e = absurd (omega (arith, (code_head h.code).0))
  at_add_lem (remove m ∷ is) h e = absurd (omega (arith, (code_head h.code).0))

  at_remove : (is : List Instruction) → AtHead g ws c is ls → (operation_at ws c ≡ add_operation → ⊥) → silent (operation_at ws c) ≡ false → First g ws ls (remove_here ws c) (start_of ws (c.production + 1))
  at_remove [] h e q = absurd h.unread.ends
  at_remove (add m ∷ is) h e q = absurd (e (code_head h.code).0)
  at_remove (evaluate rs ∷ is) h e q = absurd (subst T (sym (ap silent (code_head h.code).0) ∙ q) tt)
  at_remove (expect (terminal t) ∷ is) h e q = absurd (subst T (sym (ap silent (code_head h.code).0) ∙ q) tt)
  at_remove (expect (nonterminal n) ∷ is) h e q = absurd (subst T (sym (ap silent (code_head h.code).0) ∙ q) tt)
  at_remove (test cs ∷ is) h e q = absurd (subst T (sym (ap silent (code_head h.code).0) ∙ q) tt)
  at_remove (remove m ∷ is) h e q = record { rest = later g c; lines = on_remove h; pending = subst (λ i. Pending g ws (start_of ws i) (later g c)) (sym (add-one c.production)) (pending_start w b (suc c.production) h.unread.listed) }

  module _ (inside : inside_of ws c ≡ true) (alone : c.left ≡ 0) where
    pub pending_add : operation_at ws c ≡ add_operation → Pending g ws c ls → First g ws ls (add_here ws c) (behind_add c)
    pending_add e (none p f) = absurd (outside w b c inside p)
    pending_add e (some items is h) = at_add_lem is (head_of items h alone) e

    pub pending_remove : (operation_at ws c ≡ add_operation → ⊥) → skips_of ws c ≡ false → Pending g ws c ls → First g ws ls (remove_here ws c) (start_of ws (c.production + 1))
    pending_remove e q (none p f) = absurd (outside w b c inside p)
    pending_remove e q (some items is h) = at_remove is (head_of items h alone) e (is_loud ws c inside alone q)

  -- ---- items

  -- the line of the first item comes first, and the other items behind it
  behind_first : {is : List Instruction} (items others : Items) (n : ℕ) (t : Text) → Inside g ws c items is ls → item_count items ≡ suc (item_count others) → item_size items ≡ n + item_size others
      → ItemsAt ws (c.at + n) others → ProperItems others → item_lines c.production (symbols g c) c.passed items ≡ t ∷ item_lines c.production (symbols g c) c.passed others
      → First g ws ls t (go_on c c.passed (kind_of others) (c.left - 1) (c.at + n))
  behind_first {is} items others n t h counted sized here proper line =
      let behind = code_lines c.production (symbols g c) c.passed is ++ later g c in
      record {
        rest = item_lines c.production (symbols g c) c.passed others ++ behind;
        lines = h.lines ∙ ap (λ l. l ++ behind) line;
        pending = some others is (record {
          unread = h.unread;
          kind = refl;
          count = omega (arith, h.count, counted);
          here = here;
          behind = record { words = stands_at _ (omega (arith, sized)) h.behind.words };
          proper_items = proper;
          fits = omega (arith, h.fits, sized);
          lines = refl;
        });
      }

  module _ (more : 0 < c.left) where
    at_rule : (items : Items) (is : List Instruction) → Inside g ws c items is ls → c.items ≡ Rules → First g ws ls (rule_here ws c) (behind_rule c)
    at_rule (rules []) is h e = absurd (omega (arith, h.count))
    at_rule (conditions cs) is h e = let k = h.kind in cc
    at_rule (rules (r ∷ rs)) is h e =
        let at = position_at (ltb c.passed (symbols g c)) c.passed in
        behind_first (rules (r ∷ rs)) (rules rs) 2 (rule_here ws c) h refl (omega arith) (rule_first_lem h.here).2 (λ q i. h.proper_items q (inr i))
        (λ t. rule_line c.production (position_at (ltb c.passed (sym (symbols_word w b c h.unread.listed) t)) c.passed) (sym (rule_at h.here (h.proper_items r (inl refl))) t) ∷ rules_of c.production at rs)

    pub pending_rule : inside_of ws c ≡ true → c.items ≡ Rules → Pending g ws c ls → First g ws ls (rule_here ws c) (behind_rule c)
    pending_rule inside e (none p f) = absurd (outside w b c inside p)
    pending_rule inside e (some items is h) = at_rule items is h e

    at_condition : (items : Items) (is : List Instruction) → Inside g ws c items is ls → c.items ≡ Conditions → First g ws ls (condition_here ws c) (behind_condition c)
    at_condition (conditions []) is h e = absurd (omega (arith, h.count))
    at_condition (rules rs) is h e = let k = h.kind in cc
    at_condition (conditions (d ∷ ds)) is h e =
        behind_first (conditions (d ∷ ds)) (conditions ds) 3 (condition_here ws c) h refl (omega arith) (condition_first_lem h.here).3 (λ q i. h.proper_items q (inr i))
        (ap (λ q. condition_line c.production c.passed q ∷ conditions_of c.production c.passed ds) (sym (condition_at h.here (h.proper_items d (inl refl)))))

    pub pending_condition : inside_of ws c ≡ true → c.items ≡ Conditions → Pending g ws c ls → First g ws ls (condition_here ws c) (behind_condition c)
    pending_condition inside e (none p f) = absurd (outside w b c inside p)
    pending_condition inside e (some items is h) = at_condition items is h e

-- ---- all lines

abbrev Follows : Grammar → List ℕ → List Text → NextLine → Type 0
Follows g ws ls stop = ls ≡ []
Follows g ws ls (skip d) = Pending g ws d ls
Follows g ws ls (emit t d) = First g ws ls t d

only_rules : (k : Kind) → are_rules k ≡ true → k ≡ Rules
only_rules Rules e = refl
only_rules Conditions e = cc

only_conditions : (k : Kind) → are_rules k ≡ false → k ≡ Conditions
only_conditions Rules e = cc
only_conditions Conditions e = refl

follows_pick : (g : Grammar) (ws : List ℕ) (ls : List Text) (b : Bool) (s t : NextLine) → (b ≡ true → Follows g ws ls s) → (b ≡ false → Follows g ws ls t) → Follows g ws ls (pick_step b s t)
follows_pick g ws ls true s t h k = h refl
follows_pick g ws ls false s t h k = k refl

module _ {g : Grammar} {ws : List ℕ} (w : WellFormed g) (b : Begins g ws) where
  module _ (c : Cursor) (ls : List Text) (p : Pending g ws c ls) (inside : inside_of ws c ≡ true) where
    follows_item : 0 < c.left → Follows g ws ls (item_step ws c)
    follows_item more =
        follows_pick g ws ls (are_rules c.items) (emit (rule_here ws c) (behind_rule c)) (emit (condition_here ws c) (behind_condition c))
        (λ e. pending_rule w b c more inside (only_rules c.items e) p)
        (λ e. pending_condition w b c more inside (only_conditions c.items e) p)

    follows_head : c.left ≡ 0 → skips_of ws c ≡ false → Follows g ws ls (head_step ws c)
    follows_head alone loud =
        let operation = operation_at ws c in
        follows_pick g ws ls (eqb operation add_operation) (emit (add_here ws c) (behind_add c)) (emit (remove_here ws c) (start_of ws (c.production + 1)))
        (λ e. pending_add w b c inside alone (eqb-true operation add_operation e) p)
        (λ e. pending_remove w b c inside alone (eqb-false operation add_operation e) loud p)

  follows : (c : Cursor) (ls : List Text) → Pending g ws c ls → Follows g ws ls (step_of ws c)
  unfolding step_of
  follows c ls p =
      let more = pick_step (ltb 0 c.left) (item_step ws c) (head_step ws c) in
      follows_pick g ws ls (skips_of ws c) (skip (skipped ws c)) (pick_step (inside_of ws c) more stop)
      (λ e. pending_skip w b c e p)
      (λ e. follows_pick g ws ls (inside_of ws c) more stop
      (λ i. follows_pick g ws ls (ltb 0 c.left) (item_step ws c) (head_step ws c)
      (λ l. follows_item c ls p i (ltb-true 0 c.left l))
      (λ l. follows_head c ls p i (omega (arith, ltb-false 0 c.left l)) e))
      (λ i. pending_over w b c i p))

  lines_pending : (f : ℕ) (c : Cursor) (ls : List Text) → ahead ws c < f → Pending g ws c ls → lines_left ws c ≡ ls
  lines_pending zero c ls l p = absurd (omega arith)
  lines_pending (suc f) c ls l p = lines_step ws c ∙ go (step_of ws c) (onward ws c) (follows c ls p) (λ d ks m q. lines_pending f d ks (omega arith) q)
    where
      go : (s : NextLine) → Onward ws c s → Follows g ws ls s → ((d : Cursor) (ks : List Text) → ahead ws d < ahead ws c → Pending g ws d ks → lines_left ws d ≡ ks) → followed s (λ d. lines_left ws d) ≡ ls
      go stop o q h = sym q
      go (skip d) o q h = h d ls o q
      go (emit t d) o q h = ap (λ ks. t ∷ ks) (h d q.rest o q.pending) ∙ sym q.lines

  -- from the first production on: the listing
  pub lines_first : lines_left ws (start_of ws 0) ≡ listing g
  lines_first = lines_pending (suc (ahead ws (start_of ws 0))) (start_of ws 0) (listing g) (omega arith) (pending_start w b 0 (omega arith))
