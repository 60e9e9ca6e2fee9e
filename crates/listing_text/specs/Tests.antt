-- What the tests on cursors say, and what they follow from.
use Rattle.std.specs.Prelude.{ℕ, ◌+◌, ◌≤◌, ◌<◌, ◌≡◌, refl, Bool, true, false, ◌&&◌, List, eqb, ltb, leb}
use Rattle.std.proofs.Common.{arith, sym, ◌∙◌, ltb-true, ltb-false, leb-true, lt-ltb, le-ltb, eq-eqb, ne_eqb}
use Rattle.std.proofs.Math.Path.{ap}
use Rattle.std.proofs.Math.Bool.{not, and-eq-true_iff}
use Rattle.std.proofs.lemmas.Bool.{not-true}
use Rattle.meaning.specs.Program.{add_operation, test_operation, evaluate_operation}
use Rattle.meaning.specs.Limits.{area_length, symbols_limit}
use Rattle.theory_program.specs.Parts.{head_operation, head_operand}
use Rattle.theory_base.specs.Members.{right_false}
use Rattle.program_parts.specs.declared.Items.TheVariants.{Rules, Conditions}
use Rattle.listing_text.specs.declared.Cursor.{Cursor}
use Rattle.listing_text.specs.Cursors.{word_at, operation_at, operand_at, go_on, inside_of, silent, skips_of, skipped_by, skipped}

-- what is known inside
pub inside_facts : (ws : List ℕ) (c : Cursor) → inside_of ws c ≡ true → (c.production < word_at ws 6) × (c.at < area_length) × (c.passed ≤ symbols_limit)
inside_facts ws c e =
    let h = (and-eq-true_iff (ltb c.production (word_at ws 6)) (ltb c.at area_length && leb c.passed symbols_limit)).0 e in
    let k = (and-eq-true_iff (ltb c.at area_length) (leb c.passed symbols_limit)).0 h.1 in
    (ltb-true c.production (word_at ws 6) h.0, ltb-true c.at area_length k.0, leb-true c.passed symbols_limit k.1)

pub record Skips (ws : List ℕ) (c : Cursor) : Type 0 where
  pub none : c.left ≡ 0
  pub inside : inside_of ws c ≡ true
  pub quiet : silent (operation_at ws c) ≡ true

pub skips_facts : (ws : List ℕ) (c : Cursor) → skips_of ws c ≡ true → Skips ws c
unfolding skips_of
skips_facts ws c e =
    let h = (and-eq-true_iff (not (ltb 0 c.left)) (inside_of ws c && silent (operation_at ws c))).0 e in
    let k = (and-eq-true_iff (inside_of ws c) (silent (operation_at ws c))).0 h.1 in
    record { none = omega (arith, ltb-false 0 c.left (not-true (ltb 0 c.left) h.0)); inside = k.0; quiet = k.1 }

-- an instruction that is not passed over has a line of its own
pub is_loud : (ws : List ℕ) (c : Cursor) → inside_of ws c ≡ true → c.left ≡ 0 → skips_of ws c ≡ false → silent (operation_at ws c) ≡ false
unfolding skips_of
is_loud ws c inside alone e = right_false (inside_of ws c) (silent (operation_at ws c)) inside (right_false (not (ltb 0 c.left)) (inside_of ws c && silent (operation_at ws c)) (ap (λ n. not (ltb 0 n)) alone) e)

-- ---- what the code finds

silent_loud : (w : ℕ) → (w ≡ add_operation → ⊥) → silent w ≡ leb w test_operation
silent_loud w n = rw (ne_eqb w add_operation n)

module _ (ws : List ℕ) (c : Cursor) where
  pub outside_last : word_at ws 6 ≤ c.production → false ≡ inside_of ws c
  outside_last h = rw (le-ltb c.production (word_at ws 6) h)

  pub outside_area : c.production < word_at ws 6 → area_length ≤ c.at → false ≡ inside_of ws c
  outside_area h k = rw (lt-ltb c.production (word_at ws 6) h, le-ltb c.at area_length k)

  pub inside_area : c.production < word_at ws 6 → c.at < area_length → leb c.passed symbols_limit ≡ inside_of ws c
  inside_area h k = rw (lt-ltb c.production (word_at ws 6) h, lt-ltb c.at area_length k)

  pub stays_items : 0 < c.left → false ≡ skips_of ws c
  unfolding skips_of
  stays_items h = rw (lt-ltb 0 c.left h)

  module _ (alone : c.left ≤ 0) where
    skips_by : inside_of ws c && silent (operation_at ws c) ≡ skips_of ws c
    unfolding skips_of
    skips_by = ap (λ b. not b && (inside_of ws c && silent (operation_at ws c))) (sym (le-ltb 0 c.left alone))

    pub stays_outside : inside_of ws c ≡ false → false ≡ skips_of ws c
    stays_outside e = ap (λ b. b && silent (operation_at ws c)) (sym e) ∙ skips_by

    module _ (v : ℕ) (here : v ≡ word_at ws c.at) (inside : inside_of ws c ≡ true) where
      skips_silent : silent (head_operation v) ≡ skips_of ws c
      skips_silent = ap (λ n. silent (head_operation n)) here ∙ (ap (λ b. b && silent (operation_at ws c)) (sym inside) ∙ skips_by)

      pub stays_add : head_operation v ≡ add_operation → false ≡ skips_of ws c
      stays_add e = sym (ap silent e) ∙ skips_silent

      pub skips_others : (head_operation v ≡ add_operation → ⊥) → leb (head_operation v) test_operation ≡ skips_of ws c
      skips_others n = sym (silent_loud (head_operation v) n) ∙ skips_silent

  -- ---- behind an instruction

  module _ (v : ℕ) (here : v ≡ word_at ws c.at) where
    operation : head_operation v ≡ operation_at ws c
    operation = ap head_operation here

    pub to_rules : head_operation v ≡ evaluate_operation → go_on c c.passed Rules (head_operand v) (c.at + 1) ≡ skipped ws c
    to_rules e = ap (λ n. go_on c c.passed Rules (head_operand n) (c.at + 1)) here ∙ rw (eq-eqb (operation_at ws c) evaluate_operation (sym operation ∙ e)) refl

    pub to_conditions : (head_operation v ≡ evaluate_operation → ⊥) → head_operation v ≡ test_operation → go_on c c.passed Conditions (head_operand v) (c.at + 1) ≡ skipped ws c
    to_conditions n e = ap (λ n. go_on c c.passed Conditions (head_operand n) (c.at + 1)) here ∙ rw (ne_eqb (operation_at ws c) evaluate_operation (λ f. n (operation ∙ f)), eq-eqb (operation_at ws c) test_operation (sym operation ∙ e)) refl

    pub past_symbol : (head_operation v ≡ evaluate_operation → ⊥) → (head_operation v ≡ test_operation → ⊥) → go_on c (c.passed + 1) Conditions 0 (c.at + 1) ≡ skipped ws c
    past_symbol n m = rw (ne_eqb (operation_at ws c) evaluate_operation (λ f. n (operation ∙ f)), ne_eqb (operation_at ws c) test_operation (λ f. m (operation ∙ f))) refl

  pub skipped_on : ((skipped ws c).production ≡ c.production) × ((skipped ws c).at ≡ c.at + 1)
  skipped_on = go (eqb (operation_at ws c) evaluate_operation) (eqb (operation_at ws c) test_operation)
    where
      go : (a b : Bool) → ((skipped_by a b c (operand_at ws c)).production ≡ c.production) × ((skipped_by a b c (operand_at ws c)).at ≡ c.at + 1)
      go true b = (refl, refl)
      go false true = (refl, refl)
      go false false = (refl, refl)
