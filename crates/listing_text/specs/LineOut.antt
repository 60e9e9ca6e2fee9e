-- What is promised of a line that is handed out, and when which step is due.
use Rattle.std.specs.Prelude.{ℕ, ◌+◌, ◌≤◌, ◌<◌, ◌≡◌, refl, Bool, true, false, List, [], ◌∷◌, length, eqb, ltb, Option, Some, None}
use Rattle.std.proofs.Common.{arith, sym, ap, ◌∙◌, subst, lt-ltb, le-ltb, eq-eqb, ne_eqb}
use Rattle.meaning.specs.Grammar.{Grammar}
use Rattle.meaning.specs.Rules.{WellFormed}
use Rattle.meaning.specs.Listing.{Text, listing}
use Rattle.meaning.specs.PublicCalls.{written}
use Rattle.theory_program.specs.Addresses.{Begins}
use Rattle.listing_bytes.specs.Written.{Wrote, wrote_first}
use Rattle.program_parts.specs.declared.Items.TheVariants.{Rules, Conditions}
use Rattle.program_parts.specs.Items.{are_rules}
use Rattle.listing_text.specs.declared.Cursor.{Cursor}
use Rattle.listing_text.specs.declared.Line.{Line}
use Rattle.listing_text.specs.Cursors.{operation_at, start_of, inside_of, skips_of, skipped, rule_here, behind_rule, condition_here, behind_condition, add_here, behind_add, remove_here, NextLine, stop, skip, emit, pick_step, item_step, head_step, step_of, followed, lines_left}
use Rattle.listing_text.specs.Falling.{lines_step}

-- the text t was written from the first byte on, and the cursor moved to d
pub record Emits (before after : List ℕ) (r : Line) (t : Text) (d : Cursor) : Type 0 where
  pub text : Wrote before 0 t after r.length
  pub short : r.length ≤ 64
  pub next : r.next ≡ d

pub emits_as : {before after : List ℕ} {r : Line} {t u : Text} {d : Cursor} → t ≡ u → Emits before after r t d → Emits before after r u d
emits_as {before} {after} {r} {t} {u} {d} e h = subst (λ k. Emits before after r k d) e h

-- of the lines still to come: the first one, and the cursor of the others; or that there is none
abbrev pub FirstLineOrOver : List ℕ → List Text → List ℕ → List ℕ → Option Line → Type 0
FirstLineOrOver ws [] before after r = (r ≡ None) × (after ≡ before)
FirstLineOrOver ws (l ∷ ls) before after r = (x : Line) × (r ≡ Some x) × (x.length ≡ length l) × (after ≡ written l before) × (lines_left ws x.next ≡ ls)

-- the whole listing is still to come, whatever grammar the words begin with the program of
abbrev pub BeforeAll : List ℕ → Cursor → Type 0
BeforeAll ws c = (g : Grammar) → WellFormed g → Begins g ws → lines_left ws c ≡ listing g

-- ---- steps

pick_yes : (b : Bool) (s t : NextLine) → b ≡ true → pick_step b s t ≡ s
pick_yes b s t e = ap (λ x. pick_step x s t) e

pick_no : (b : Bool) (s t : NextLine) → b ≡ false → pick_step b s t ≡ t
pick_no b s t e = ap (λ x. pick_step x s t) e

module _ (ws : List ℕ) (c : Cursor) where
  abbrev more : NextLine
  more = pick_step (ltb 0 c.left) (item_step ws c) (head_step ws c)

  step_skip : skips_of ws c ≡ true → step_of ws c ≡ skip (skipped ws c)
  unfolding step_of
  step_skip e = pick_yes (skips_of ws c) (skip (skipped ws c)) (pick_step (inside_of ws c) more stop) e

  pub lines_skip : skips_of ws c ≡ true → lines_left ws (skipped ws c) ≡ lines_left ws c
  lines_skip e = sym (lines_step ws c ∙ ap (λ s. followed s (λ d. lines_left ws d)) (step_skip e))

  module _ (settled : skips_of ws c ≡ false) where
    pub step_stop : inside_of ws c ≡ false → step_of ws c ≡ stop
    unfolding step_of
    step_stop i = pick_no (skips_of ws c) (skip (skipped ws c)) (pick_step (inside_of ws c) more stop) settled ∙ pick_no (inside_of ws c) more stop i

    module _ (inside : inside_of ws c ≡ true) where
      step_more : step_of ws c ≡ more
      unfolding step_of
      step_more = pick_no (skips_of ws c) (skip (skipped ws c)) (pick_step (inside_of ws c) more stop) settled ∙ pick_yes (inside_of ws c) more stop inside

      step_item : 0 < c.left → step_of ws c ≡ item_step ws c
      step_item l = step_more ∙ pick_yes (ltb 0 c.left) (item_step ws c) (head_step ws c) (lt-ltb 0 c.left l)

      step_head : c.left ≤ 0 → step_of ws c ≡ head_step ws c
      step_head l = step_more ∙ pick_no (ltb 0 c.left) (item_step ws c) (head_step ws c) (le-ltb 0 c.left l)

      pub step_rule : 0 < c.left → c.items ≡ Rules → step_of ws c ≡ emit (rule_here ws c) (behind_rule c)
      step_rule l e = step_item l ∙ pick_yes (are_rules c.items) (emit (rule_here ws c) (behind_rule c)) (emit (condition_here ws c) (behind_condition c)) (ap are_rules e)

      pub step_condition : 0 < c.left → c.items ≡ Conditions → step_of ws c ≡ emit (condition_here ws c) (behind_condition c)
      step_condition l e = step_item l ∙ pick_no (are_rules c.items) (emit (rule_here ws c) (behind_rule c)) (emit (condition_here ws c) (behind_condition c)) (ap are_rules e)

      pub step_add : c.left ≤ 0 → operation_at ws c ≡ 0 → step_of ws c ≡ emit (add_here ws c) (behind_add c)
      step_add l e = step_head l ∙ pick_yes (eqb (operation_at ws c) 0) (emit (add_here ws c) (behind_add c)) (emit (remove_here ws c) (start_of ws (c.production + 1))) (eq-eqb (operation_at ws c) 0 e)

      pub step_remove : c.left ≤ 0 → (operation_at ws c ≡ 0 → ⊥) → step_of ws c ≡ emit (remove_here ws c) (start_of ws (c.production + 1))
      step_remove l n = step_head l ∙ pick_no (eqb (operation_at ws c) 0) (emit (add_here ws c) (behind_add c)) (emit (remove_here ws c) (start_of ws (c.production + 1))) (ne_eqb (operation_at ws c) 0 n)

-- ---- what is answered

-- the lines left at c are asked for, and a step at d, where as many are left, answers
module _ (ws : List ℕ) (c d : Cursor) (same : lines_left ws d ≡ lines_left ws c) where
  after_step : (s : NextLine) → step_of ws d ≡ s → lines_left ws c ≡ followed s (λ e. lines_left ws e)
  after_step s e = sym same ∙ (lines_step ws d ∙ ap (λ k. followed k (λ f. lines_left ws f)) e)

  pub over_at_stop : (m : List ℕ) → step_of ws d ≡ stop → FirstLineOrOver ws (lines_left ws c) m m None
  over_at_stop m e = subst (λ ls. FirstLineOrOver ws ls m m None) (sym (after_step stop e)) (refl, refl)

  pub line_at_step : {before after : List ℕ} {r : Line} {t : Text} {e : Cursor} → 64 ≤ length before → step_of ws d ≡ emit t e → Emits before after r t e → (r.length ≤ 64) × FirstLineOrOver ws (lines_left ws c) before after (Some r)
  line_at_step {before} {after} {r} {t} {e} l s h = (
    h.short,
    subst (λ ls. FirstLineOrOver ws ls before after (Some r)) (sym (after_step (emit t e) s))
        (r, refl, omega (arith, h.text.behind), wrote_first (omega (arith, h.short)) h.text, ap (lines_left ws) h.next),
  )

-- ---- for a caller that asks for one line after the other

-- a line was handed out: it comes first, and one line less is left
pub first_of_lines : (ws : List ℕ) (ls : List Text) {before after : List ℕ} (r : Option Line) (x : Line) → r ≡ Some x → FirstLineOrOver ws ls before after r → (l : Text) × (ls ≡ l ∷ lines_left ws x.next) × (x.length ≡ length l) × (after ≡ written l before)
first_of_lines ws [] r x e t = let h = t.0 in cc
first_of_lines ws (l ∷ ls) r x e t =
    let h = t.1 in
    let same : t.0 ≡ x = cc in
    (l, ap (λ k. l ∷ k) (sym (subst (λ y. lines_left ws y.next ≡ ls) same t.4)), subst (λ y. y.length ≡ length l) same t.2, t.3)

-- none was
pub none_of_lines : (ws : List ℕ) (ls : List Text) {before after : List ℕ} (r : Option Line) → r ≡ None → FirstLineOrOver ws ls before after r → (ls ≡ []) × (after ≡ before)
none_of_lines ws [] r e t = (refl, t.1)
none_of_lines ws (l ∷ ls) r e t = let h = t.1 in cc
