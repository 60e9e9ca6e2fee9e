-- The walk past sound rules and conditions, and its end: every output has its rule.
use Prim.Native.Nat.{ℕ, zero, suc, ◌+◌, ◌-◌, ◌/◌, ◌^◌, ◌≤◌, ◌<◌}
use mathlib.Core.Path.{◌≡◌, refl, sym, ◌∙◌, ap, ap₂, subst}
use mathlib.Core.Bool.{Bool, true, false, ◌&&◌, not, true≢false}
use mathlib.Core.List.{List, []}
use native.Mathlib.Omega.{arith}
use native.Mathlib.Decide.{ℕ_discrete}
use lib.ListN.{get_or, length, replicate, take, drop}
use Rattle.std.specs.Prelude.{Ok}
use Rattle.meaning.specs.Limits.{positions_limit}
use Rattle.meaning.specs.Table.{byte}
use Rattle.table_fields.specs.Field.{body_at}
use Rattle.table_fields.proofs.Demands.{equal_yes, equal_no}
use Rattle.table_fields.proofs.Rest.{body_length}
use Rattle.table_rules.specs.Rule.{Small, bit, ones, filled_at, settled, all_count, complete_note, class_at}
use Rattle.table_rule_fields.proofs.note.Bits.{bit_suc, bit_first, bit_shifted}
use Rattle.table_rule_fields.proofs.note.Noting.{notes_begin, notes_taken}
use Rattle.table_rule_fields.proofs.note.Gaps.{gaps_answered}
use Rattle.table_rule_fields.proofs.Sound.{output_left, output_right}
use Rattle.table_rows.specs.RowWritten.{symbol_byte, Written}
use Rattle.outline.specs.Counts.{count_at_value, synthesized_at}
use Rattle.table_items.specs.Progress.{Over, setting_of, Walked, Walking}
use Rattle.table_items.proofs.Walking.{use_rule, use_condition, walk_start, walk_rule, walk_condition, walk_over}
use Rattle.table_occurrences.specs.OccurrenceBits.{input_word, other_word, Filled, Inputs, Settled, noted_by}
use Rattle.table_occurrences.proofs.Ranges.{full}
use Rattle.table_occurrences.proofs.Laws.{inputs_placed, settled_placed}
use Rattle.theory_base.specs.Members.{counted_all}
use Rattle.table_sound_items.specs.Sound.{RuleStands, ConditionStands, WordsSettled, Sounding, done, BodySound, BodyTaken}

-- ---- the loop

module _ (t : List ℕ) (from r₀ c₀ : ℕ) (inputs words₀ : List ℕ) where
  pub sounding_start : from ≤ length t → r₀ ≤ from → c₀ ≤ from → Sounding t from r₀ c₀ inputs words₀ words₀ from r₀ c₀
  sounding_start l m n =
      record {
        note = replicate positions_limit 0;
        after = omega arith;
        inside = l;
        rules = m;
        conditions = n;
        walked = λ o width inh syn small i w a. ([], [], notes_begin, refl);
        settled = λ width inh syn small i w. w;
      }

  module _ (words : List ℕ) (at r c : ℕ) (s : Sounding t from r₀ c₀ inputs words₀ words at r c) (more : at < length t) where
    here : (o width : ℕ) (inh syn : List ℕ) → Walking t at o width inh syn r c s.note s.note at r c
    here o width inh syn = walk_start t at o width inh syn r c s.note s.inside s.rules s.conditions

    pub sounding_rule : (words' : List ℕ) (end : ℕ) → byte t at ≡ 4 → RuleStands t at r inputs words words' end → Sounding t from r₀ c₀ inputs words₀ words' end (r + 1) c
    sounding_rule words' end tag f =
        let b : List ℕ = body_at t at f.size in
        let note' : List ℕ = noted_by s.note b in
        record {
          note = note';
          after = omega (arith, s.after, f.ends);
          inside = omega (arith, f.whole.inside, f.ends);
          rules = omega (arith, s.rules, f.ends);
          conditions = omega (arith, s.conditions, f.ends);
          walked = λ o width inh syn small i w.
              let q = f.sound width inh syn s.note r small i (s.settled width inh syn small i w) f.few in
              let u = use_rule t at f.size r c width inh syn s.note more (λ e. omega arith) f.whole small b refl 0 note' tag q.0 (notes_taken r width inh syn s.note b small 0 q.0 refl (byte b 0) (byte b 1) note' refl refl refl) (λ n. absurd (n refl)) in
              let n = walk_rule t at o width inh syn r c s.note s.note at r c (here o width inh syn) f.size note' 0 u refl tag in
              subst (λ (x : ℕ). Walked (setting_of t o width inh syn) from r₀ c₀ note' x (r + 1) c) (sym f.ends) (n.walked from r₀ c₀ (s.walked o width inh syn small i w));
          settled = λ width inh syn small i w. (f.sound width inh syn s.note r small i (s.settled width inh syn small i w) f.few).1;
        }

    pub sounding_condition : (end : ℕ) → byte t at ≡ 5 → ConditionStands t at c inputs end → Sounding t from r₀ c₀ inputs words₀ words end r (c + 1)
    sounding_condition end tag f =
        record {
          note = s.note;
          after = omega (arith, s.after, f.ends);
          inside = omega (arith, f.whole.inside, f.ends);
          rules = omega (arith, s.rules, f.ends);
          conditions = omega (arith, s.conditions, f.ends);
          walked = λ o width inh syn small i w.
              let q = f.sound width inh syn c i f.few in
              let u = use_condition t at f.size r c width inh syn s.note more (λ e. omega arith) f.whole small (body_at t at f.size) refl 0 tag q in
              let n = walk_condition t at o width inh syn r c s.note s.note at r c (here o width inh syn) f.size s.note 0 u refl (λ e. omega arith) in
              subst (λ (x : ℕ). Walked (setting_of t o width inh syn) from r₀ c₀ s.note x r (c + 1)) (sym f.ends) (n.walked from r₀ c₀ (s.walked o width inh syn small i w));
          settled = s.settled;
        }

-- ---- all outputs are noted

ones_all : (d n : ℕ) → ((i : ℕ) → i < d → bit n i ≡ true) → ones n d ≡ true
unfolding ones
ones_all zero n h = refl
ones_all (suc d) n h = ap₂ ◌&&◌ (sym (bit_first n) ∙ h 0 (omega arith)) (ones_all d (n / 2) (λ i l. sym (bit_suc n i) ∙ h (suc i) (omega arith)))

module _ (width : ℕ) (inh syn note words : List ℕ) (small : Small width inh syn) (w : Settled width inh syn note words) (All-set : WordsSettled words width) where
  noted : (k a : ℕ) → k ≤ width → a < 16 → 2 ≡ class_at width inh syn k a → bit (get_or note k 0) (a - 1) ≡ true
  noted k a l m out = go (bit (get_or note k 0) (a - 1)) refl
    where
      go : (x : Bool) → bit (get_or note k 0) (a - 1) ≡ x → x ≡ true
      go true e = refl
      go false e =
          absurd (true≢false (sym (ap (λ (y : ℕ). bit y a) (All-set k l) ∙ full a m) ∙ w.unnoted k a (omega (arith, small.0)) m out e))

  bit_before : (k a : ℕ) → bit (get_or note k 0) (suc a - 1) ≡ bit (get_or note k 0) a
  bit_before k a = ap (bit (get_or note k 0)) {x = suc a - 1} {y = a} (omega arith)

  filled_here : (k : ℕ) → k ≤ width → settled inh syn note k ≡ true
  unfolding settled filled_at
  filled_here k l = go (ℕ_discrete k 0)
    where
      go : Dec (k ≡ 0) → settled inh syn note k ≡ true
      go (yes z) =
          sym
          (equal_yes k 0 _ _ z
          (sym
          (ones_all (get_or syn k 0) (get_or note k 0 / 2 ^ get_or inh k 0)
          (λ i m.
          bit_shifted (get_or note k 0) (get_or inh k 0) i ∙ sym (bit_before k (get_or inh k 0 + i))
          ∙ noted k (suc (get_or inh k 0 + i)) l (omega (arith, small.1 k l)) (output_left width inh syn k (suc (get_or inh k 0 + i)) l z (omega arith) (omega arith))))))
      go (no n) =
          sym
          (equal_no k 0 _ _ n
          (sym
          (ones_all (get_or inh k 0) (get_or note k 0)
          (λ i m.
          sym (bit_before k i)
          ∙ noted k (suc i) l (omega (arith, small.1 k l)) (output_right width inh syn k (suc i) l n (omega arith) (omega arith))))))

  pub complete : complete_note width inh syn note ≡ true
  unfolding all_count
  complete = counted_all (settled inh syn note) 0 (suc width) (λ i p q. filled_here i (omega arith))

-- ---- the whole production

module _ (t : List ℕ) (at carrying : ℕ) (inherited synthesized : List ℕ) (r₀ c₀ : ℕ) (inputs words₀ words : List ℕ) (end r c : ℕ) where
  abbrev width : ℕ
  width = byte t (at + 4)

  abbrev body : List ℕ
  body = body_at t at (2 + width)

  abbrev inputs_by : List ℕ → ℕ → ℕ
  inputs_by part k = input_word k (count_at_value inherited (symbol_byte part k)) (synthesized_at carrying synthesized (symbol_byte part k))

  abbrev others_by : List ℕ → ℕ → ℕ
  others_by part k = other_word k (count_at_value inherited (symbol_byte part k)) (synthesized_at carrying synthesized (symbol_byte part k))

  module _ (part : List ℕ) (e : part ≡ body) (long : length part ≡ width + 2) (fi : Filled (inputs_by part) width 0 inputs) (fo : Filled (others_by part) width 65535 words₀) where
    module _ (inh syn : List ℕ) (wi : Written (count_at_value inherited) body inh) (ws : Written (synthesized_at carrying synthesized) body syn) (small : Small width inh syn) where
      first_at : (k : ℕ) → k ≤ width → get_or inh k 0 ≡ count_at_value inherited (symbol_byte part k)
      first_at k m = (subst (λ x. Written (count_at_value inherited) x inh) (sym e) wi).each k (omega arith)

      second_at : (k : ℕ) → k ≤ width → get_or syn k 0 ≡ synthesized_at carrying synthesized (symbol_byte part k)
      second_at k m = (subst (λ x. Written (synthesized_at carrying synthesized) x syn) (sym e) ws).each k (omega arith)

      inputs_here : Inputs width inh syn inputs
      inputs_here = inputs_placed width inh syn small _ _ first_at second_at inputs fi

      settled_here : Settled width inh syn (replicate positions_limit 0) words₀
      settled_here = settled_placed width inh syn small _ _ first_at second_at words₀ fo

    body_taken : Sounding t (at + 5 + width) r₀ c₀ inputs words₀ words end r c → BodyTaken t at carrying inherited synthesized r₀ c₀ words end r c
    body_taken s =
        record {
          note = s.note;
          walked = λ inh syn wi ws small. s.walked at width inh syn small (inputs_here inh syn wi ws small) (settled_here inh syn wi ws small);
          settled = λ inh syn wi ws small. s.settled width inh syn small (inputs_here inh syn wi ws small) (settled_here inh syn wi ws small);
          after = s.after;
          inside = s.inside;
          rules = s.rules;
          conditions = s.conditions;
        }

  -- the same by the width as it was read
  module _ (w : ℕ) (is : w ≡ width) (part : List ℕ) (e : part ≡ body) (long : length part ≡ width + 2) (fi : Filled (inputs_by part) w 0 inputs) (fo : Filled (others_by part) w 65535 words₀) where
    fi' : Filled (inputs_by part) width 0 inputs
    fi' = subst (λ (x : ℕ). Filled (inputs_by part) x 0 inputs) is fi

    fo' : Filled (others_by part) width 65535 words₀
    fo' = subst (λ (x : ℕ). Filled (others_by part) x 65535 words₀) is fo

    pub body_taken_by : Sounding t (at + 5 + w) r₀ c₀ inputs words₀ words end r c → BodyTaken t at carrying inherited synthesized r₀ c₀ words end r c
    body_taken_by s = body_taken part e long fi' fo' (subst (λ (x : ℕ). Sounding t (at + 5 + x) r₀ c₀ inputs words₀ words end r c) is s)

-- where the production is over and no output is left, all is read
pub body_sound :
    (t : List ℕ) (at carrying : ℕ) (inherited synthesized : List ℕ) (r₀ c₀ : ℕ) (words : List ℕ) (end r c w : ℕ) → at ≤ length t → BodyTaken t at carrying inherited synthesized r₀ c₀ words end r c
    → Over t end → w ≡ byte t (at + 4) → WordsSettled words w → BodySound t at carrying inherited synthesized r₀ c₀ end r c
body_sound t at carrying inherited synthesized r₀ c₀ words end r c w l s o is st =
    let note : List ℕ = s.note in
    let width : ℕ = byte t (at + 4) in
    let All-set = subst (WordsSettled words) is st in
    record {
      read = λ inh syn wi ws small.
          let g = gaps_answered width inh syn note small false (sym (ap not (complete width inh syn note words small (s.settled inh syn wi ws small) All-set))) in
          (walk_over t end at width inh syn r c note note end r c (walk_start t end at width inh syn r c note s.inside s.rules s.conditions) o false g (Ok (done end r c)) refl l).read (at + 5 + width) r₀ c₀ (s.walked inh syn wi ws small);
      next = record { after = s.after; inside = s.inside; over = o; rules = s.rules; conditions = s.conditions };
    }

-- ---- the part of a table that is a production's body

module _ (t : List ℕ) (at w : ℕ) (e : w ≡ byte t (at + 4)) where
  pub part_in : take (at + 5 + w - (at + 3)) (drop (at + 3) t) ≡ body_at t at (2 + byte t (at + 4))
  part_in = ap (λ (n : ℕ). take n (drop (at + 3) t)) {x = at + 5 + w - (at + 3)} {y = 2 + byte t (at + 4)} (omega arith)

  turned : 2 + byte t (at + 4) ≡ byte t (at + 4) + 2
  turned = omega arith

  pub part_size : at + 5 + byte t (at + 4) ≤ length t → length (take (at + 5 + w - (at + 3)) (drop (at + 3) t)) ≡ byte t (at + 4) + 2
  part_size l = ap length part_in ∙ body_length t at (2 + byte t (at + 4)) (omega arith) ∙ turned
