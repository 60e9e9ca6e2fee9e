-- What the lists of counts and the note of a production stand for, and what is asked of the note.
use Rattle.std.specs.Prelude.{ℕ, zero, suc, ◌-◌, ◌≤◌, ◌≡◌, refl, Bool, true, false, ◌&&◌, not, List, [], ◌∷◌, reverse, ltb, get_or, length}
use Rattle.meaning.specs.Limits.{attributes_limit, positions_limit}
use Rattle.meaning.specs.Base.{any}
use Rattle.meaning.specs.Grammar.{Symbol, terminal, nonterminal, Occurrence, Rule, Counts, counts_in}
use Rattle.meaning.specs.Table.{State, Entry, within, rule_of, occurrence_known, is_input, same_occurrence, has_rule, complete}
use Rattle.table_fields.specs.Demand.{if_equal}
use Rattle.table_rules.specs.Rule.{bit}

-- the symbol at a position, by the left side and the right side
abbrev pub symbol_in : ℕ → List Symbol → ℕ → Symbol
symbol_in l xs zero = nonterminal l
symbol_in l xs (suc k) = get_or xs k (terminal 0)

-- the counts at each position of a production, of counts and terminals that carry a value, both read latest first
pub record Placed (cs : List Counts) (ws : List ℕ) (l : ℕ) (xs : List Symbol) (width : ℕ) (inh syn : List ℕ) : Type 0 where
  pub wide : width ≡ length xs
  pub inherits : (k : ℕ) → k ≤ width → get_or inh k 0 ≡ (counts_in (reverse cs) (reverse ws) (symbol_in l xs k)).inherited
  pub synthesizes : (k : ℕ) → k ≤ width → get_or syn k 0 ≡ (counts_in (reverse cs) (reverse ws) (symbol_in l xs k)).synthesized

abbrev pub occurrence : ℕ → ℕ → Occurrence
occurrence k a = record { position = k; attribute = a }

-- some rule sets the occurrence
abbrev pub is_set : List (Rule Occurrence) → Occurrence → Bool
is_set rs o = any (λ r. same_occurrence r.target o) rs

-- ---- the note of a production: a number for each position, whose bit a - 1 stands for attribute a

-- the occurrence is in the note
unfoldable pub is_noted : List ℕ → Occurrence → Bool
is_noted note o = ltb o.position positions_limit && within 1 o.attribute attributes_limit && bit (get_or note o.position 0) (o.attribute - 1)

-- 02: "the notes hold exactly the occurrences that its production's rules have set so far"
pub record Notes (note : List ℕ) (rs : List (Rule Occurrence)) : Type 0 where
  pub kept : length note ≡ positions_limit
  pub holds : (o : Occurrence) → is_noted note o ≡ is_set rs o

-- the rules of a production after a rule field with this body: one more, unless the field is refused
unfoldable pub rules_after : ℕ → List ℕ → List (Rule Occurrence) → List (Rule Occurrence)
rules_after number b rs = if_equal number 0 (rule_of b ∷ rs) rs

-- ---- gaps

-- an output of a production without a rule
pub record Gap (s : State) (e : Entry) : Type 0 where
  pub place : Occurrence
  pub known : occurrence_known s e place ≡ true
  pub output : is_input s e place ≡ false
  pub unset : has_rule e place ≡ false

-- the answer whether a production as read has a gap
pub record GapAnswered (s : State) (e : Entry) (gap : Bool) : Type 0 where
  pub judged : gap ≡ not (complete s e)
  pub found : gap ≡ true → Gap s e
  pub seen : Gap s e → gap ≡ true

-- 02: "Gaps are answered from the notes, the symbols and the attribute counts": for every production whose symbols have these counts at their positions and whose rules are noted
abbrev pub GapsAnswered : ℕ → List ℕ → List ℕ → List ℕ → Bool → Type 0
GapsAnswered width inh syn note gap =
    (s : State) (e : Entry) → Placed s.counts s.carrying e.left e.right width inh syn → Notes note e.rules → GapAnswered s e gap

-- ---- computed

-- attributes 1 and 3 at position 1
abbrev example : List ℕ
example = 0 ∷ 5 ∷ []

noted_first : is_noted example (occurrence 1 1) ≡ true
unfolding is_noted bit
noted_first = refl

noted_between : is_noted example (occurrence 1 2) ≡ false
unfolding is_noted bit
noted_between = refl

noted_last : is_noted example (occurrence 1 3) ≡ true
unfolding is_noted bit
noted_last = refl

noted_none : is_noted example (occurrence 0 1) ≡ false
unfolding is_noted bit
noted_none = refl
