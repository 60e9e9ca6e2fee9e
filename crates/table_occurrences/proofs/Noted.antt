-- The note by which words are settled, made again from the words.
use Prim.Native.Nat.{ℕ, suc, ◌-◌, ◌/◌, ◌≤◌, ◌<◌}
use mathlib.Core.Path.{◌≡◌, refl, sym, ◌∙◌, ap, ap₂}
use mathlib.Core.Bool.{Bool, true, false, ◌&&◌, true≢false, and-false, and-true}
use mathlib.Core.List.{List}
use mathlib.Core.Logic.{⊎_elim}
use native.Mathlib.Omega.{arith}
use lib.Bits.{bit_and}
use lib.ListN.{get_or}
use Rattle.meaning.specs.Limits.{attributes_limit, positions_limit}
use Rattle.table_fields.proofs.Cases.{lt_or_le}
use Rattle.table_rules.specs.Rule.{Small, bit, class_at}
use Rattle.table_rule_fields.proofs.note.Bits.{bit_both, bit_suc, bit_zero}
use Rattle.table_rule_fields.proofs.note.Noting.{notes_same}
use Rattle.table_occurrences.specs.OccurrenceBits.{output_word, Filled, Settled, noted_in, NoteOf}
use Rattle.table_occurrences.proofs.Laws.{inside, output_class, class_output}

-- ---- what the words tell of the note

module _ (width : ℕ) (inh syn note words : List ℕ) (w : Settled width inh syn note words) (p a : ℕ) (place : p < positions_limit) where
  output_noted : a < 16 → 2 ≡ class_at width inh syn p a → bit (get_or words p 0) a ≡ bit (get_or note p 0) (a - 1)
  output_noted m out = go (bit (get_or words p 0) a) (bit (get_or note p 0) (a - 1)) refl refl
    where
      go : (x y : Bool) → bit (get_or words p 0) a ≡ x → bit (get_or note p 0) (a - 1) ≡ y → x ≡ y
      go true true e f = refl
      go false false e f = refl
      go false true e f = absurd (true≢false (sym f ∙ (w.unset p a place m e).1))
      go true false e f = absurd (true≢false (sym e ∙ w.unnoted p a place m out f))

  other_unnoted : 1 ≤ a → a ≤ attributes_limit → (2 ≡ class_at width inh syn p a → ⊥) → false ≡ bit (get_or note p 0) (a - 1)
  other_unnoted l m n = go (bit (get_or note p 0) (a - 1)) refl
    where
      go : (y : Bool) → bit (get_or note p 0) (a - 1) ≡ y → false ≡ y
      go false f = refl
      go true f = absurd (n (w.only p a place l m f))

-- ---- the note that is made

-- its byte at a position, by what was read there
pub byte_made :
    (inh syn : List ℕ) (word k i s out x : ℕ) → i ≡ get_or inh k 0 → s ≡ get_or syn k 0 → out ≡ output_word k i s → x ≡ bit_and word out / 2
    → x ≡ noted_in word k (get_or inh k 0) (get_or syn k 0)
byte_made inh syn word k i s out x e f g h = h ∙ ap (λ (y : ℕ). bit_and word y / 2) (g ∙ ap₂ (output_word k) e f)

half_bit : (n a : ℕ) → 1 ≤ a → bit (n / 2) (a - 1) ≡ bit n a
half_bit n a l = sym (bit_suc n (a - 1)) ∙ ap (bit n) {x = suc (a - 1)} {y = a} (omega arith)

module _ (width : ℕ) (inh syn words made : List ℕ) (small : Small width inh syn) (f : Filled (λ k. noted_in (get_or words k 0) k (get_or inh k 0) (get_or syn k 0)) width 0 made) where
  made_bit : (p a : ℕ) → p ≤ width → 1 ≤ a → bit (get_or made p 0) (a - 1) ≡ bit (get_or words p 0) a && bit (output_word p (get_or inh p 0) (get_or syn p 0)) a
  made_bit p a l m =
      ap (λ (x : ℕ). bit x (a - 1)) (f.each p l)
      ∙ half_bit (bit_and (get_or words p 0) (output_word p (get_or inh p 0) (get_or syn p 0))) a m
      ∙ bit_both (get_or words p 0) (output_word p (get_or inh p 0) (get_or syn p 0)) a

  module _ (note : List ℕ) (w : Settled width inh syn note words) where
    same_inside : (p a : ℕ) → p < positions_limit → p ≤ width → 1 ≤ a → a ≤ attributes_limit → bit (get_or made p 0) (a - 1) ≡ bit (get_or note p 0) (a - 1)
    same_inside p a q l m n = made_bit p a l m ∙ go (bit (output_word p (get_or inh p 0) (get_or syn p 0)) a) refl
      where
        near : a < 16
        near = omega arith

        go : (x : Bool) → bit (output_word p (get_or inh p 0) (get_or syn p 0)) a ≡ x → bit (get_or words p 0) a && x ≡ bit (get_or note p 0) (a - 1)
        go true e = and-true _ ∙ output_noted width inh syn note words w p a q near (output_class width inh syn small p a l near e)
        go false e =
            and-false (bit (get_or words p 0) a)
            ∙ other_unnoted width inh syn note words w p a q m n (λ out. true≢false (sym (class_output width inh syn small p a l near out) ∙ e))

    same_bits : (p a : ℕ) → p < positions_limit → 1 ≤ a → a ≤ attributes_limit → bit (get_or made p 0) (a - 1) ≡ bit (get_or note p 0) (a - 1)
    same_bits p a q m n =
        ⊎_elim
        (λ l.
        ap (λ (x : ℕ). bit x (a - 1)) (f.beyond p l q) ∙ bit_zero (a - 1)
        ∙ other_unnoted width inh syn note words w p a q m n (λ out. let k = inside width inh syn p a out in omega arith))
        (λ l. same_inside p a q l m n)
        (lt_or_le width p)

  pub note_made : NoteOf width inh syn words made
  note_made note rs w nt = notes_same note made rs f.kept (same_bits note w) nt
