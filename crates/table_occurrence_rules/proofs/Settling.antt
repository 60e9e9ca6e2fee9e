-- A rule's target settled: what is said of the words and the note holds on; and the operands of a rule by its function.
use Prim.Native.Nat.{ℕ, ◌-◌, ◌*◌, ◌%◌, ◌^◌, ◌≤◌, ◌<◌}
use mathlib.Core.Path.{◌≡◌, refl, sym, ◌∙◌, ap, ap₂, subst}
use mathlib.Core.Bool.{Bool, true, false, ◌||◌}
use mathlib.Core.List.{List}
use mathlib.Core.Logic.{⊎_elim}
use native.Mathlib.Omega.{arith}
use native.Mathlib.Decide.{ℕ_discrete}
use lib.Bits.{bit_or}
use lib.Dec.{eqb}
use lib.ListN.{get_or, set, length-set}
use lib.Seq.{get_or-set_same, get_or-set_other}
use borrow.Author.Tests.{ne_eqb}
use Rattle.meaning.specs.Limits.{attributes_limit, positions_limit}
use Rattle.meaning.specs.Table.{byte}
use Rattle.table_fields.proofs.Cases.{lt_or_le}
use Rattle.table_fields.specs.Demand.{if_equal, if_below}
use Rattle.table_fields.proofs.Demands.{equal_yes, equal_no, below_yes, below_no}
use Rattle.table_rules.specs.Rule.{bit, class_at, class_in, operand_count, OperandsFit, rule_items}
use Rattle.table_rules.proofs.Laws.{class_first}
use Rattle.table_rule_fields.proofs.note.Bits.{bit_set, one_bit}
use Rattle.table_rule_fields.proofs.Sound.{class_bytes, note_bytes, sound_left, sound_right}
use Rattle.table_occurrences.specs.OccurrenceBits.{Settled, noted_by}
use Rattle.table_rule_fields.proofs.note.Noting.{less_one}
use Rattle.table_rule_fields.proofs.note.Gaps.{or_parts}

-- ---- where operands may stand

pub limit_at_least : (p : ℕ) → 1 ≤ if_equal p 0 positions_limit p
limit_at_least p = go (ℕ_discrete p 0)
  where
    go : Dec (p ≡ 0) → 1 ≤ if_equal p 0 positions_limit p
    go (yes z) = subst (λ (x : ℕ). 1 ≤ x) (equal_yes p 0 positions_limit p z refl) (omega arith)
    go (no n) = subst (λ (x : ℕ). 1 ≤ x) (equal_no p 0 positions_limit p n refl) (omega arith)

-- ---- a target settled

module _ (width : ℕ) (inh syn note words : List ℕ) (w : Settled width inh syn note words) (p a : ℕ) (place : p < positions_limit) (near : a < 16) (free : bit (get_or words p 0) a ≡ false) where
  abbrev note' : List ℕ
  note' = set note p (bit_or (get_or note p 0) (2 ^ (a - 1)))

  abbrev words' : List ℕ
  words' = set words p (bit_or (get_or words p 0) (2 ^ a))

  class_one : (b : ℕ) → 2 ≡ class_at width inh syn p b → 1 ≤ b
  class_one b e = class_first width inh syn p b (λ q. omega (arith, e))

  note_here : (b : ℕ) → bit (get_or note' p 0) (b - 1) ≡ eqb (a - 1) (b - 1) || bit (get_or note p 0) (b - 1)
  note_here b = ap (λ (x : ℕ). bit x (b - 1)) (get_or-set_same note p (bit_or (get_or note p 0) (2 ^ (a - 1))) 0 (omega (arith, w.note_kept))) ∙ bit_set (get_or note p 0) (a - 1) (b - 1)

  word_here : (b : ℕ) → bit (get_or words' p 0) b ≡ eqb a b || bit (get_or words p 0) b
  word_here b = ap (λ (x : ℕ). bit x b) (get_or-set_same words p (bit_or (get_or words p 0) (2 ^ a)) 0 (omega (arith, w.kept))) ∙ bit_set (get_or words p 0) a b

  own : 2 ≡ class_at width inh syn p a
  own = (w.unset p a place near free).0

  unset_here : (b : ℕ) → b < 16 → bit (get_or words' p 0) b ≡ false → (2 ≡ class_at width inh syn p b) × (bit (get_or note' p 0) (b - 1) ≡ false)
  unset_here b m e =
      let parts = or_parts (eqb a b) (bit (get_or words p 0) b) (sym (word_here b) ∙ e) in
      let old = w.unset p b place m parts.1 in
      (old.0, note_here b ∙ ap₂ ◌||◌ (less_one a b (class_one a own) (class_one b old.0) ∙ parts.0) old.1)

  unnoted_here : (b : ℕ) → b < 16 → 2 ≡ class_at width inh syn p b → bit (get_or note' p 0) (b - 1) ≡ false → bit (get_or words' p 0) b ≡ false
  unnoted_here b m out e =
      let parts = or_parts (eqb (a - 1) (b - 1)) (bit (get_or note p 0) (b - 1)) (sym (note_here b) ∙ e) in
      word_here b ∙ ap₂ ◌||◌ (sym (less_one a b (class_one a own) (class_one b out)) ∙ parts.0) (w.unnoted p b place m out parts.1)

  only_here : (b : ℕ) → 1 ≤ b → b ≤ attributes_limit → bit (get_or note' p 0) (b - 1) ≡ true → 2 ≡ class_at width inh syn p b
  only_here b l m e = go (ℕ_discrete a b)
    where
      go : Dec (a ≡ b) → 2 ≡ class_at width inh syn p b
      go (yes z) = own ∙ ap (class_at width inh syn p) z
      go (no n) =
          w.only p b place l m
          (sym (ap (λ (x : Bool). x || bit (get_or note p 0) (b - 1)) (less_one a b (class_one a own) l ∙ ne_eqb a b n)) ∙ sym (note_here b) ∙ e)

  note_there : (q b : ℕ) → (q ≡ p → ⊥) → bit (get_or note' q 0) b ≡ bit (get_or note q 0) b
  note_there q b n = ap (λ (x : ℕ). bit x b) (get_or-set_other note p q (bit_or (get_or note p 0) (2 ^ (a - 1))) 0 n)

  word_there : (q b : ℕ) → (q ≡ p → ⊥) → bit (get_or words' q 0) b ≡ bit (get_or words q 0) b
  word_there q b n = ap (λ (x : ℕ). bit x b) (get_or-set_other words p q (bit_or (get_or words p 0) (2 ^ a)) 0 n)

  pub settled_more : Settled width inh syn note' words'
  settled_more =
      record {
        unset = λ q b l m e. unset q b l m e (ℕ_discrete q p);
        unnoted = λ q b l m out e. unnoted q b l m out e (ℕ_discrete q p);
        only = λ q b l f g e. only q b l f g e (ℕ_discrete q p);
        note_kept = length-set note p (bit_or (get_or note p 0) (2 ^ (a - 1))) ∙ w.note_kept;
        kept = length-set words p (bit_or (get_or words p 0) (2 ^ a)) ∙ w.kept;
      }
    where
      unset : (q b : ℕ) → q < positions_limit → b < 16 → bit (get_or words' q 0) b ≡ false → Dec (q ≡ p) → (2 ≡ class_at width inh syn q b) × (bit (get_or note' q 0) (b - 1) ≡ false)
      unset q b l m e (yes z) =
          subst
          (λ (x : ℕ). (2 ≡ class_at width inh syn x b) × (bit (get_or note' x 0) (b - 1) ≡ false))
          (sym z)
          (unset_here b m (ap (λ (x : ℕ). bit (get_or words' x 0) b) (sym z) ∙ e))
      unset q b l m e (no n) = let old = w.unset q b l m (sym (word_there q b n) ∙ e) in (old.0, note_there q (b - 1) n ∙ old.1)

      unnoted : (q b : ℕ) → q < positions_limit → b < 16 → 2 ≡ class_at width inh syn q b → bit (get_or note' q 0) (b - 1) ≡ false → Dec (q ≡ p) → bit (get_or words' q 0) b ≡ false
      unnoted q b l m out e (yes z) =
          ap (λ (x : ℕ). bit (get_or words' x 0) b) z
          ∙ unnoted_here b m (out ∙ ap (λ (x : ℕ). class_at width inh syn x b) z) (ap (λ (x : ℕ). bit (get_or note' x 0) (b - 1)) (sym z) ∙ e)
      unnoted q b l m out e (no n) = word_there q b n ∙ w.unnoted q b l m out (sym (note_there q (b - 1) n) ∙ e)

      only : (q b : ℕ) → q < positions_limit → 1 ≤ b → b ≤ attributes_limit → bit (get_or note' q 0) (b - 1) ≡ true → Dec (q ≡ p) → 2 ≡ class_at width inh syn q b
      only q b l f g e (yes z) = only_here b f g (ap (λ (x : ℕ). bit (get_or note' x 0) (b - 1)) (sym z) ∙ e) ∙ ap (λ (x : ℕ). class_at width inh syn x b) (sym z)
      only q b l f g e (no n) = w.only q b l f g (sym (note_there q (b - 1) n) ∙ e)

module _ (width : ℕ) (inh syn note b : List ℕ) (p a : ℕ) (is-place : p ≡ byte b 0) (is-attribute : a ≡ byte b 1) where
  -- the rule of a target that is settled
  pub settle_sound :
      (limit n : ℕ) → 2 ≡ class_at width inh syn p a → bit (get_or note p 0) (a - 1) ≡ false → OperandsFit limit width inh syn b n → ((p ≡ 0 → ⊥) → limit ≡ p)
      → 0 ≡ rule_items width inh syn note b n
  settle_sound limit n out free fit lim = go (ℕ_discrete p 0)
    where
      target : 2 ≡ class_in width inh syn b 0
      target = class_bytes width inh syn b 0 p a is-place is-attribute out

      unnoted : bit (get_or note (byte b 0) 0) (byte b 1 - 1) ≡ false
      unnoted = note_bytes note b p a is-place is-attribute refl free

      go : Dec (p ≡ 0) → 0 ≡ rule_items width inh syn note b n
      go (yes z) = sound_left limit width inh syn note b n target unnoted fit (sym is-place ∙ z)
      go (no m) = sound_right limit width inh syn note b n target unnoted fit (λ q. m (is-place ∙ q)) (lim m ∙ is-place)

  pub settle_more :
      (words : List ℕ) → Settled width inh syn note words → p < positions_limit → a < 16 → bit (get_or words p 0) a ≡ false
      → Settled width inh syn (noted_by note b) (set words p (bit_or (get_or words p 0) (1 * 2 ^ a % 2 ^ 16)))
  settle_more words w l m e =
      subst
      (λ (x : ℕ). Settled width inh syn (noted_by note b) (set words p (bit_or (get_or words p 0) x)))
      (sym (one_bit 16 a m))
      (subst
      (λ (x : List ℕ). Settled width inh syn x (set words p (bit_or (get_or words p 0) (2 ^ a))))
      (ap₂ (λ (x y : ℕ). set note x (bit_or (get_or note x 0) (2 ^ (y - 1)))) is-place is-attribute)
      (settled_more width inh syn note words w p a l m e))

-- ---- operands by the function

pub count_none : (f : ℕ) → f ≡ 0 → operand_count f ≡ 0
unfolding operand_count
count_none f e = sym (equal_yes _ _ _ _ e refl)

pub count_two : (f : ℕ) → (f ≡ 0 → ⊥) → (f ≡ 1 → ⊥) → f < 7 → operand_count f ≡ 2
unfolding operand_count
count_two f n m l = sym (equal_no _ _ _ _ n (equal_no _ _ _ _ m (below_yes _ _ _ _ l refl)))

pub count_one : (f : ℕ) → (f ≡ 0 → ⊥) → (2 ≤ f → f ≤ 6 → ⊥) → operand_count f ≡ 1
unfolding operand_count
count_one f n m = sym (equal_no _ _ _ _ n (go (ℕ_discrete f 1)))
  where
    late : (f ≡ 1 → ⊥) → 7 ≤ f
    late o = ⊎_elim (λ l. absurd (m (omega arith) (omega arith))) (λ l. l) (lt_or_le f 7)

    go : Dec (f ≡ 1) → ◌≡◌ {A = ℕ} 1 (if_equal f 1 1 (if_below f 7 2 1))
    go (yes e) = equal_yes _ _ _ _ e refl
    go (no o) = equal_no _ _ _ _ o (below_no _ _ _ _ (late o) refl)
