-- Rules and conditions that nothing is wrong with, and a walk past them.
use Rattle.std.specs.Prelude.{ℕ, ◌+◌, ◌≤◌, ◌<◌, ◌≡◌, List, get_or, length, replicate, Result, Ok, Err}
use Rattle.meaning.specs.Limits.{rules_limit, conditions_limit, positions_limit}
use Rattle.meaning.specs.Table.{byte}
use Rattle.table_fields.specs.Field.{Whole, body_at}
use Rattle.table_rules.specs.Rule.{Small, rule_fault, condition_fault}
use Rattle.table_rows.specs.RowWritten.{Written}
use Rattle.outline.specs.Counts.{count_at_value, synthesized_at}
use Rattle.table_items.specs.declared.Items.{Items}
use Rattle.table_items.specs.Progress.{setting_of, Walked, ItemsRead, Next}
use Rattle.table_occurrences.specs.OccurrenceBits.{Inputs, Settled, noted_by}

-- a rule after any that are fewer than the most: nothing applies, and its target is settled
abbrev pub RuleSound : List ℕ → List ℕ → List ℕ → List ℕ → Type 0
RuleSound inputs words words' b =
    (width : ℕ) (inh syn note : List ℕ) (r : ℕ) → Small width inh syn → Inputs width inh syn inputs → Settled width inh syn note words → r < rules_limit
    → (0 ≡ rule_fault r width inh syn note b) × Settled width inh syn (noted_by note b) words'

-- the same of the field at an offset, after r rules, which ends at another
pub record RuleStands (t : List ℕ) (at r : ℕ) (inputs words words' : List ℕ) (end : ℕ) : Type 0 where
  pub few : r < rules_limit
  pub size : ℕ
  pub whole : Whole t at size
  pub ends : end ≡ at + 3 + size
  pub sound : RuleSound inputs words words' (body_at t at size)

abbrev pub ConditionSound : List ℕ → List ℕ → Type 0
ConditionSound inputs b = (width : ℕ) (inh syn : List ℕ) (c : ℕ) → Inputs width inh syn inputs → c < conditions_limit → 0 ≡ condition_fault c width inh syn b

pub record ConditionStands (t : List ℕ) (at c : ℕ) (inputs : List ℕ) (end : ℕ) : Type 0 where
  pub few : c < conditions_limit
  pub size : ℕ
  pub whole : Whole t at size
  pub ends : end ≡ at + 3 + size
  pub sound : ConditionSound inputs (body_at t at size)

-- all outputs up to a position are settled
abbrev pub WordsSettled : List ℕ → ℕ → Type 0
WordsSettled words width = (k : ℕ) → k ≤ width → get_or words k 0 ≡ 65535

-- the words from one on up to another are full
abbrev pub AllFull : List ℕ → ℕ → ℕ → Type 0
AllFull words from end = (k : ℕ) → from ≤ k → k < end → get_or words k 0 ≡ 65535

-- past sound rules and conditions from an offset to another: a note of their rules, by which the words are settled
pub record Sounding (t : List ℕ) (from r₀ c₀ : ℕ) (inputs words₀ words : List ℕ) (at r c : ℕ) : Type 0 where
  pub note : List ℕ
  pub after : from ≤ at
  pub inside : at ≤ length t
  pub rules : r ≤ at
  pub conditions : c ≤ at
  pub walked :
      (offset width : ℕ) (inh syn : List ℕ) → Small width inh syn → Inputs width inh syn inputs → Settled width inh syn (replicate positions_limit 0) words₀
      → Walked (setting_of t offset width inh syn) from r₀ c₀ note at r c
  pub settled : (width : ℕ) (inh syn : List ℕ) → Small width inh syn → Inputs width inh syn inputs → Settled width inh syn (replicate positions_limit 0) words₀ → Settled width inh syn note words

abbrev pub done : ℕ → ℕ → ℕ → Items
done at r c = record { at = at; rules = r; conditions = c }

-- where a walk stops: behind all that is sound, or at a field that is to be judged
abbrev pub stop_of : Result Items Items → Items
stop_of (Ok u) = u
stop_of (Err u) = u

-- a production's rules and conditions read, by lists of the counts at its positions
pub record BodySound (t : List ℕ) (at carrying : ℕ) (inherited synthesized : List ℕ) (r₀ c₀ : ℕ) (end r c : ℕ) : Type 0 where
  pub read :
      (inh syn : List ℕ) → Written (count_at_value inherited) (body_at t at (2 + byte t (at + 4))) inh → Written (synthesized_at carrying synthesized) (body_at t at (2 + byte t (at + 4))) syn
      → Small (byte t (at + 4)) inh syn
      → ItemsRead (setting_of t at (byte t (at + 4)) inh syn) (at + 5 + byte t (at + 4)) r₀ c₀ (Ok (done end r c))
  pub next : Next t (at + 5 + byte t (at + 4)) (done end r c)

-- its fields taken up to one of them: a note of their rules, by which the words are settled
pub record BodyTaken (t : List ℕ) (at carrying : ℕ) (inherited synthesized : List ℕ) (r₀ c₀ : ℕ) (words : List ℕ) (end r c : ℕ) : Type 0 where
  pub note : List ℕ
  pub walked :
      (inh syn : List ℕ) → Written (count_at_value inherited) (body_at t at (2 + byte t (at + 4))) inh → Written (synthesized_at carrying synthesized) (body_at t at (2 + byte t (at + 4))) syn
      → Small (byte t (at + 4)) inh syn
      → Walked (setting_of t at (byte t (at + 4)) inh syn) (at + 5 + byte t (at + 4)) r₀ c₀ note end r c
  pub settled :
      (inh syn : List ℕ) → Written (count_at_value inherited) (body_at t at (2 + byte t (at + 4))) inh → Written (synthesized_at carrying synthesized) (body_at t at (2 + byte t (at + 4))) syn
      → Small (byte t (at + 4)) inh syn
      → Settled (byte t (at + 4)) inh syn note words
  pub after : at + 5 + byte t (at + 4) ≤ end
  pub inside : end ≤ length t
  pub rules : r ≤ end
  pub conditions : c ≤ end
