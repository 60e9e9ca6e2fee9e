-- The words at the positions of a production against the classes of its occurrences.
use Prim.Native.Nat.{ℕ, zero, suc, ◌+◌, ◌-◌, ◌≤◌, ◌<◌}
use mathlib.Core.Path.{◌≡◌, refl, sym, ◌∙◌, ap, ap₂}
use mathlib.Core.Bool.{true, false, not, true≢false}
use mathlib.Core.List.{List}
use mathlib.Core.Logic.{⊎_elim}
use native.Mathlib.Omega.{arith}
use native.Mathlib.Decide.{ℕ_discrete}
use lib.ListN.{get_or, length, set, replicate, length-set, length-replicate}
use lib.Seq.{get_or-set_same, get_or-set_other}
use borrow.Author.Tests.{not-false}
use Rattle.meaning.specs.Limits.{positions_limit}
use Rattle.table_fields.proofs.Cases.{lt_or_le}
use Rattle.table_fields.proofs.Demands.{equal_yes, equal_no}
use Rattle.table_rules.specs.Rule.{Small, bit, class_at}
use Rattle.table_rules.proofs.Laws.{class_inside, class_first, class_last}
use Rattle.table_rule_fields.proofs.note.Bits.{bit_zero}
use Rattle.table_rule_fields.proofs.Sound.{output_left, output_right, input_left, input_right}
use Rattle.theory_base.specs.Members.{replicate_at}
use Rattle.table_occurrences.specs.OccurrenceBits.{range_word, input_word, output_word, other_word, Filled, Inputs, Settled}
use Rattle.table_occurrences.proofs.Ranges.{between, between_yes, between_low, between_high, range_in, range_out, full}

-- ---- the loop over the positions

-- words are written below k, and stand as they were from k on
pub record Filling (f : ℕ → ℕ) (none k : ℕ) (words : List ℕ) : Type 0 where
  pub each : (j : ℕ) → j < k → get_or words j 0 ≡ f j
  pub beyond : (j : ℕ) → k ≤ j → j < positions_limit → get_or words j 0 ≡ none
  pub kept : length words ≡ positions_limit

replicated : (x n k : ℕ) → k < n → get_or (replicate n x) k 0 ≡ x
replicated x zero k l = absurd (omega arith)
replicated x (suc n) zero l = refl
replicated x (suc n) (suc k) l = replicated x n k (omega arith)

pub filling_start : (f : ℕ → ℕ) (none : ℕ) (words : List ℕ) → words ≡ replicate positions_limit none → Filling f none 0 words
filling_start f none words e =
    record {
      each = λ j l. absurd (omega arith);
      beyond = λ j l m. ap (λ (w : List ℕ). get_or w j 0) e ∙ replicated none positions_limit j m;
      kept = ap length e ∙ length-replicate {A = ℕ} positions_limit none;
    }

module _ (f : ℕ → ℕ) (none k : ℕ) (words : List ℕ) (w : Filling f none k words) (room : k < positions_limit) where
  pub filling_more : (x : ℕ) → x ≡ f k → Filling f none (k + 1) (set words k x)
  filling_more x e =
      record {
        each = λ j l. ⊎_elim (λ m. get_or-set_other words k j x 0 (λ q. omega arith) ∙ w.each j m) (λ m. here j (omega arith)) (lt_or_le j k);
        beyond = λ j l m. get_or-set_other words k j x 0 (λ q. omega arith) ∙ w.beyond j (omega arith) m;
        kept = length-set words k x ∙ w.kept;
      }
    where
      here : (j : ℕ) → j ≡ k → get_or (set words k x) j 0 ≡ f j
      here j q = ap (λ (i : ℕ). get_or (set words k x) i 0) q ∙ get_or-set_same words k x 0 (omega (arith, w.kept)) ∙ e ∙ ap f (sym q)

pub filled : (f : ℕ → ℕ) (none k width : ℕ) (words : List ℕ) → Filling f none k words → k ≡ width + 1 → Filled f width none words
filled f none k width words w e = record { each = λ j l. w.each j (omega arith); beyond = λ j l m. w.beyond j (omega arith) m; kept = w.kept }

-- ---- words by the side

module _ (k i s : ℕ) where
  pub input_first : k ≡ 0 → range_word 0 i ≡ input_word k i s
  unfolding input_word
  input_first e = equal_yes _ _ _ _ e refl

  pub input_later : (k ≡ 0 → ⊥) → range_word i (i + s) ≡ input_word k i s
  unfolding input_word
  input_later e = equal_no _ _ _ _ e refl

  pub output_first : k ≡ 0 → range_word i (i + s) ≡ output_word k i s
  unfolding output_word
  output_first e = equal_yes _ _ _ _ e refl

  pub output_later : (k ≡ 0 → ⊥) → range_word 0 i ≡ output_word k i s
  unfolding output_word
  output_later e = equal_no _ _ _ _ e refl

  pub other_first : k ≡ 0 → 65535 - range_word i (i + s) ≡ other_word k i s
  unfolding other_word
  other_first e = ap (λ (x : ℕ). 65535 - x) (output_first e)

  pub other_later : (k ≡ 0 → ⊥) → 65535 - range_word 0 i ≡ other_word k i s
  unfolding other_word
  other_later e = ap (λ (x : ℕ). 65535 - x) (output_later e)

-- ---- classes

module _ (width : ℕ) (inh syn : List ℕ) (p a : ℕ) (out : 2 ≡ class_at width inh syn p a) where
  known : class_at width inh syn p a ≡ 0 → ⊥
  known e = omega (arith, out)

  pub inside : p ≤ width
  inside = class_inside width inh syn p a known

  first : 1 ≤ a
  first = class_first width inh syn p a known

  last : a ≤ get_or inh p 0 + get_or syn p 0
  last = class_last width inh syn p a known

  pub above_left : p ≡ 0 → get_or inh p 0 < a
  above_left e = ⊎_elim (λ l. l) (λ l. absurd (let q = input_left width inh syn p a inside e first l in omega (arith, out))) (lt_or_le (get_or inh p 0) a)

  pub below_right : (p ≡ 0 → ⊥) → a ≤ get_or inh p 0
  below_right n = ⊎_elim (λ l. absurd (let q = input_right width inh syn p a inside n l last in omega (arith, out))) (λ l. l) (lt_or_le (get_or inh p 0) a)

-- the outputs at a position by the bits of their word
module _ (width : ℕ) (inh syn : List ℕ) (small : Small width inh syn) (p a : ℕ) (l : p ≤ width) (m : a < 16) where
  abbrev outputs : ℕ
  outputs = output_word p (get_or inh p 0) (get_or syn p 0)

  bit_left : p ≡ 0 → bit outputs a ≡ between (get_or inh p 0) (get_or inh p 0 + get_or syn p 0) a
  bit_left z = ap (λ (x : ℕ). bit x a) (sym (output_first p (get_or inh p 0) (get_or syn p 0) z)) ∙ range_in (get_or inh p 0) (get_or inh p 0 + get_or syn p 0) a (omega arith) (small.1 p l) m

  bit_right : (p ≡ 0 → ⊥) → bit outputs a ≡ between 0 (get_or inh p 0) a
  bit_right n = ap (λ (x : ℕ). bit x a) (sym (output_later p (get_or inh p 0) (get_or syn p 0) n)) ∙ range_in 0 (get_or inh p 0) a (omega arith) (omega (arith, small.1 p l)) m

  pub output_class : bit outputs a ≡ true → 2 ≡ class_at width inh syn p a
  output_class e = go (ℕ_discrete p 0)
    where
      go : Dec (p ≡ 0) → 2 ≡ class_at width inh syn p a
      go (yes z) =
          let b = sym (bit_left z) ∙ e in
          output_left width inh syn p a l z (between_low (get_or inh p 0) (get_or inh p 0 + get_or syn p 0) a b) (between_high (get_or inh p 0) (get_or inh p 0 + get_or syn p 0) a b)
      go (no n) =
          let b = sym (bit_right n) ∙ e in
          output_right width inh syn p a l n (between_low 0 (get_or inh p 0) a b) (between_high 0 (get_or inh p 0) a b)

  pub class_output : 2 ≡ class_at width inh syn p a → bit outputs a ≡ true
  class_output out = go (ℕ_discrete p 0)
    where
      go : Dec (p ≡ 0) → bit outputs a ≡ true
      go (yes z) = bit_left z ∙ between_yes (get_or inh p 0) (get_or inh p 0 + get_or syn p 0) a (above_left width inh syn p a out z) (last width inh syn p a out)
      go (no n) = bit_right n ∙ between_yes 0 (get_or inh p 0) a (first width inh syn p a out) (below_right width inh syn p a out n)

  other_bit : bit (other_word p (get_or inh p 0) (get_or syn p 0)) a ≡ not (bit outputs a)
  other_bit = go (ℕ_discrete p 0)
    where
      go : Dec (p ≡ 0) → bit (other_word p (get_or inh p 0) (get_or syn p 0)) a ≡ not (bit outputs a)
      go (yes z) =
          ap (λ (x : ℕ). bit x a) (sym (other_first p (get_or inh p 0) (get_or syn p 0) z))
          ∙ range_out (get_or inh p 0) (get_or inh p 0 + get_or syn p 0) a (omega arith) (small.1 p l) m ∙ ap not (sym (bit_left z))
      go (no n) =
          ap (λ (x : ℕ). bit x a) (sym (other_later p (get_or inh p 0) (get_or syn p 0) n))
          ∙ range_out 0 (get_or inh p 0) a (omega arith) (omega (arith, small.1 p l)) m ∙ ap not (sym (bit_right n))

module _ (width : ℕ) (inh syn : List ℕ) (small : Small width inh syn) (i s : ℕ → ℕ) (inherits : (k : ℕ) → k ≤ width → get_or inh k 0 ≡ i k) (synthesizes : (k : ℕ) → k ≤ width → get_or syn k 0 ≡ s k) where
  module _ (words : List ℕ) (w : Filled (λ k. input_word k (i k) (s k)) width 0 words) where
    word_at : (p : ℕ) → p ≤ width → get_or words p 0 ≡ input_word p (get_or inh p 0) (get_or syn p 0)
    word_at p l = w.each p l ∙ ap₂ (input_word p) (sym (inherits p l)) (sym (synthesizes p l))

    input_here : (p a : ℕ) → p ≤ width → a < 16 → bit (get_or words p 0) a ≡ true → 1 ≡ class_at width inh syn p a
    input_here p a l m e = go (ℕ_discrete p 0)
      where
        go : Dec (p ≡ 0) → 1 ≡ class_at width inh syn p a
        go (yes z) =
            let b = sym (range_in 0 (get_or inh p 0) a (omega arith) (omega (arith, small.1 p l)) m) ∙ ap (λ (x : ℕ). bit x a) (input_first p (get_or inh p 0) (get_or syn p 0) z ∙ sym (word_at p l)) ∙ e in
            input_left width inh syn p a l z (between_low 0 (get_or inh p 0) a b) (between_high 0 (get_or inh p 0) a b)
        go (no n) =
            let b = sym (range_in (get_or inh p 0) (get_or inh p 0 + get_or syn p 0) a (omega arith) (small.1 p l) m) ∙ ap (λ (x : ℕ). bit x a) (input_later p (get_or inh p 0) (get_or syn p 0) n ∙ sym (word_at p l)) ∙ e in
            input_right width inh syn p a l n (between_low (get_or inh p 0) (get_or inh p 0 + get_or syn p 0) a b) (between_high (get_or inh p 0) (get_or inh p 0 + get_or syn p 0) a b)

    pub inputs_placed : Inputs width inh syn words
    inputs_placed =
        record {
          each = λ p a l m e.
              ⊎_elim
              (λ q. absurd (true≢false (sym e ∙ ap (λ (x : ℕ). bit x a) (w.beyond p q l) ∙ bit_zero a)))
              (λ q. input_here p a q m e)
              (lt_or_le width p);
        }

  module _ (words : List ℕ) (w : Filled (λ k. other_word k (i k) (s k)) width 65535 words) where
    others_at : (p : ℕ) → p ≤ width → get_or words p 0 ≡ other_word p (get_or inh p 0) (get_or syn p 0)
    others_at p l = w.each p l ∙ ap₂ (other_word p) (sym (inherits p l)) (sym (synthesizes p l))

    bit_at : (p a : ℕ) → p ≤ width → a < 16 → bit (get_or words p 0) a ≡ not (bit (output_word p (get_or inh p 0) (get_or syn p 0)) a)
    bit_at p a l m = ap (λ (x : ℕ). bit x a) (others_at p l) ∙ other_bit width inh syn small p a l m

    output_here : (p a : ℕ) → p ≤ width → a < 16 → bit (get_or words p 0) a ≡ false → 2 ≡ class_at width inh syn p a
    output_here p a l m e = output_class width inh syn small p a l m (not-false _ (sym (bit_at p a l m) ∙ e))

    output_unnoted : (p a : ℕ) → a < 16 → 2 ≡ class_at width inh syn p a → bit (get_or words p 0) a ≡ false
    output_unnoted p a m out =
        let l = inside width inh syn p a out in
        bit_at p a l m ∙ ap not (class_output width inh syn small p a l m out)

    none_noted : (p a : ℕ) → bit (get_or (replicate positions_limit 0) p 0) (a - 1) ≡ false
    none_noted p a = ap (λ (x : ℕ). bit x (a - 1)) (replicate_at {A = ℕ} positions_limit p 0) ∙ bit_zero (a - 1)

    pub settled_placed : Settled width inh syn (replicate positions_limit 0) words
    settled_placed =
        record {
          unset = λ p a l m e.
              ⊎_elim
              (λ q. absurd (true≢false (sym (ap (λ (x : ℕ). bit x a) (w.beyond p q l) ∙ full a m) ∙ e)))
              (λ q. (output_here p a q m e, none_noted p a))
              (lt_or_le width p);
          unnoted = λ p a l m out e. output_unnoted p a m out;
          only = λ p a l f g e. absurd (true≢false (sym e ∙ none_noted p a));
          note_kept = length-replicate {A = ℕ} positions_limit 0;
          kept = w.kept;
        }
