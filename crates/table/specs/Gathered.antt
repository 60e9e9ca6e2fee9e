-- The reader with a note of the occurrences set: 8 is asked of the note, the symbols and the counts, never of the rules read before. For every table it says what `read_table` says, which knows no note.
use Rattle.std.specs.Prelude.{Result, ℕ, zero, suc, ◌+◌, ◌-◌, ◌*◌, ◌≡◌, refl, Bool, true, false, ◌&&◌, ◌||◌, not, List, [], ◌∷◌, map, eqb, ltb, leb, length, drop, take}
use Rattle.std.proofs.Common.{sym, ◌∙◌, ap, ap₂, subst, true≢false, arith, eqb-true}
use Rattle.std.proofs.Math.Option.{Option}
use Rattle.meaning.specs.Limits.{table_limit}
use Rattle.meaning.specs.Base.{all, any, count_from}
use Rattle.meaning.specs.Grammar.{Occurrence, Rule, Counts}
use Rattle.meaning.specs.Table.{byte, Header, header_of, Field, Entry, State, nothing_read, current, is_some, at_header, at_counts, at_first, at_any, stage, tag_stands, Kind, header, counts, production, rule, condition, carrier, kind_of}
use Rattle.meaning.specs.Table.{limits_hold, known, start_right, directions_right, rule_of, is_input, same_occurrence, set_once, occurrences_at, complete, last_complete, left_to_right, bounds_right, lowest_of, judge_field, read_field, Read, well_formed, malformed, read_all, read_table}
use Rattle.table_rules.specs.Note.{is_noted, Notes}
use Rattle.outline.specs.declared.Sizes.{Sizes}
use Rattle.refusals.specs.declared.TableRefusal.{TableRefusal}
use Rattle.table.specs.Answer.{Answers}

-- ---- the note, as the list of its occurrences

abbrev pub in_note : List Occurrence → Occurrence → Bool
in_note note o = any (λ u. same_occurrence u o) note

-- after a field: empty after a production's, one occurrence more after a rule's
abbrev pub note_after : Kind → List ℕ → List Occurrence → List Occurrence
note_after header b note = note
note_after counts b note = note
note_after production b note = []
note_after rule b note = (rule_of b).target ∷ note
note_after condition b note = note
note_after carrier b note = note

-- ---- 8 by the note

-- no second rule
abbrev pub set_once_by : List Occurrence → Kind → List ℕ → Bool
set_once_by note header b = true
set_once_by note counts b = true
set_once_by note production b = true
set_once_by note rule b = not (in_note note (rule_of b).target)
set_once_by note condition b = true
set_once_by note carrier b = true

-- no output without a rule
abbrev pub complete_by : State → List Occurrence → Entry → Bool
complete_by s note e = all (λ k. all (λ o. is_input s e o || in_note note o) (occurrences_at s e k)) (count_from 0 (suc (length e.right)))

abbrev pub last_complete_by : State → List Occurrence → Bool
last_complete_by s note = elim s.entries [ [] ↦ true | e ∷ es ↦ complete_by s note e ]

-- ---- the table

abbrev pub judge_field_by : State → List Occurrence → Field → ℕ
judge_field_by s note f = elim (tag_stands (stage s) f.tag) [
  | false ↦ 3
  | true ↦ lowest_of (
      (limits_hold s (kind_of f.tag) f.body, 4)
      ∷ (known s (kind_of f.tag) f.body, 5)
      ∷ (start_right s (kind_of f.tag) f.body, 6)
      ∷ (directions_right s (kind_of f.tag) f.body, 7)
      ∷ (set_once_by note (kind_of f.tag) f.body, 8)
      ∷ (left_to_right s (kind_of f.tag) f.body, 9)
      ∷ (bounds_right s (kind_of f.tag) f.body, 10)
      ∷ [])
]

abbrev pub at_end_by : State → List Occurrence → ℕ → Read
at_end_by s note o = elim (stage s) [
  | at_header ↦ malformed 3 o
  | at_counts ↦ malformed 3 o
  | at_first ↦ malformed 3 o
  | at_any ↦ elim (last_complete_by s note) [ true ↦ well_formed s | false ↦ malformed 8 (current s).offset ]
]

abbrev pub read_all_by : ℕ → State → List Occurrence → ℕ → List ℕ → Read
read_all_by zero s note o bs = malformed 2 o
read_all_by (suc n) s note o [] = at_end_by s note o
read_all_by (suc n) s note o (t ∷ bs) =
    elim (eqb t 3 && not (last_complete_by s note)) [
      | true ↦ malformed 8 (current s).offset
      | false ↦ elim (leb 2 (length bs) && leb (byte bs 0 * 256 + byte bs 1) (length bs - 2)) [
        | false ↦ malformed 2 o
        | true ↦
            let size : ℕ = byte bs 0 * 256 + byte bs 1 in
            let body : List ℕ = take size (drop 2 bs) in
            let number : ℕ = judge_field_by s note (record { offset = o; tag = t; body = body }) in
            elim (eqb number 0) [
              | false ↦ malformed number o
              | true ↦ read_all_by n (read_field s o (kind_of t) body) (note_after (kind_of t) body note) (o + 3 + size) (drop (2 + size) bs)
            ]
      ]
    ]

abbrev pub read_gathered : List ℕ → Read
read_gathered bs = elim (leb (length bs) table_limit) [ false ↦ malformed 1 0 | true ↦ read_all_by (suc (length bs)) nothing_read [] 0 bs ]

-- ---- it reads as `read_table` does

abbrev targets : List (Rule Occurrence) → List Occurrence
targets rs = map (λ r. r.target) rs

abbrev note_of : State → List Occurrence
note_of s = targets (current s).rules

in_targets : (rs : List (Rule Occurrence)) (o : Occurrence) → in_note (targets rs) o ≡ any (λ r. same_occurrence r.target o) rs
in_targets [] o = refl
in_targets (r ∷ rs) o = ap (λ x. same_occurrence r.target o || x) (in_targets rs o)

all_same : {A : Type 0} (f g : A → Bool) → ((x : A) → f x ≡ g x) → (xs : List A) → all f xs ≡ all g xs
all_same f g e [] = refl
all_same f g e (x ∷ xs) = ap₂ ◌&&◌ (e x) (all_same f g e xs)

once_same : (s : State) (k : Kind) (b : List ℕ) → set_once_by (note_of s) k b ≡ set_once s k b
once_same s header b = refl
once_same s counts b = refl
once_same s production b = refl
once_same s rule b = ap not (in_targets (current s).rules (rule_of b).target)
once_same s condition b = refl
once_same s carrier b = refl

complete_same : (s : State) (e : Entry) → complete_by s (targets e.rules) e ≡ complete s e
complete_same s e =
    all_same _ _
    (λ k. all_same _ _ (λ o. ap (λ x. is_input s e o || x) (in_targets e.rules o)) (occurrences_at s e k))
    (count_from 0 (suc (length e.right)))

module _ (h : Option Header) (cs : List Counts) (os ws : List ℕ) (r c : ℕ) where
  abbrev state_with : List Entry → State
  state_with es = record { header = h; counts = cs; counts_offsets = os; carrying = ws; entries = es; rules = r; conditions = c }

  last_same : (es : List Entry) → last_complete_by (state_with es) (note_of (state_with es)) ≡ last_complete (state_with es)
  last_same [] = refl
  last_same (e ∷ es) = complete_same (state_with (e ∷ es)) e

  module _ (o t : ℕ) (b : List ℕ) where
    -- the note after the field of a tag, by what is read so far
    abbrev Right : List Entry → ℕ → Type 0
    Right es m = note_after (kind_of m) b (note_of (state_with es)) ≡ note_of (read_field (state_with es) o (kind_of m) b)

    -- before the first production
    after_none : (x y : Bool) → tag_stands (elim x [ false ↦ at_header | true ↦ elim y [ true ↦ at_counts | false ↦ at_first ] ]) t ≡ true → Right [] t
    after_none false y e = subst (Right []) (sym (eqb-true t 1 e)) refl
    after_none true true e = subst (Right []) (sym (eqb-true t 2 e)) refl
    after_none true false e = first (eqb t 3) (eqb t 6) refl refl e
      where
        first : (x y : Bool) → eqb t 3 ≡ x → eqb t 6 ≡ y → x || y ≡ true → Right [] t
        first true y p q z = subst (Right []) (sym (eqb-true t 3 p)) refl
        first false true p q z = subst (Right []) (sym (eqb-true t 6 q)) refl
        first false false p q z = absurd (true≢false (sym z))

    after_some : (e : Entry) (es : List Entry) (k : Kind) → note_after k b (targets e.rules) ≡ note_of (read_field (state_with (e ∷ es)) o k b)
    after_some e es header = refl
    after_some e es counts = refl
    after_some e es production = refl
    after_some e es rule = refl
    after_some e es condition = refl
    after_some e es carrier = refl

    next_in_lem : (es : List Entry) → tag_stands (stage (state_with es)) t ≡ true → Right es t
    next_in_lem [] q = after_none (is_some h) (ltb (length cs) (header_of (state_with [])).nonterminals) q
    next_in_lem (e ∷ es) q = after_some e es (kind_of t)

-- one field, by its parts
abbrev judge_with : State → Field → Bool → Bool → ℕ
judge_with s f stands once = elim stands [
  | false ↦ 3
  | true ↦ lowest_of (
      (limits_hold s (kind_of f.tag) f.body, 4)
      ∷ (known s (kind_of f.tag) f.body, 5)
      ∷ (start_right s (kind_of f.tag) f.body, 6)
      ∷ (directions_right s (kind_of f.tag) f.body, 7)
      ∷ (once, 8)
      ∷ (left_to_right s (kind_of f.tag) f.body, 9)
      ∷ (bounds_right s (kind_of f.tag) f.body, 10)
      ∷ [])
]

abbrev end_with : State → ℕ → Bool → Read
end_with s o done = elim (stage s) [
  | at_header ↦ malformed 3 o
  | at_counts ↦ malformed 3 o
  | at_first ↦ malformed 3 o
  | at_any ↦ elim done [ true ↦ well_formed s | false ↦ malformed 8 (current s).offset ]
]

abbrev or_more : Bool → ℕ → ℕ → Read → Read
or_more fine number o more = elim fine [ false ↦ malformed number o | true ↦ more ]

abbrev step_with : State → ℕ → Bool → Bool → Read → Read
step_with s o gap whole after = elim gap [ true ↦ malformed 8 (current s).offset | false ↦ elim whole [ false ↦ malformed 2 o | true ↦ after ] ]

module _ (s : State) where
  judge_same : (f : Field) → judge_field_by s (note_of s) f ≡ judge_field s f
  judge_same f = ap (judge_with s f (tag_stands (stage s) f.tag)) (once_same s (kind_of f.tag) f.body)

  done_same : last_complete_by s (note_of s) ≡ last_complete s
  done_same = last_same s.header s.counts s.counts_offsets s.carrying s.rules s.conditions s.entries

  next_same : (o t : ℕ) (b : List ℕ) → judge_field s (record { offset = o; tag = t; body = b }) ≡ 0 → note_after (kind_of t) b (note_of s) ≡ note_of (read_field s o (kind_of t) b)
  next_same o t b q = next_in_lem s.header s.counts s.counts_offsets s.carrying s.rules s.conditions o t b s.entries (stands (tag_stands (stage s) t) q)
    where
      stands : (x : Bool) → judge_with s (record { offset = o; tag = t; body = b }) x (set_once s (kind_of t) b) ≡ 0 → x ≡ true
      stands true e = refl
      stands false e = absurd (omega arith)

-- a field without a refusal, or its refusal
more_same : (number number' o : ℕ) (more more' : Read) → number ≡ number' → (number' ≡ 0 → more ≡ more') → or_more (eqb number 0) number o more ≡ or_more (eqb number' 0) number' o more'
more_same number number' o more more' e f = ap (λ (m : ℕ). or_more (eqb m 0) m o more) e ∙ go (eqb number' 0) refl
  where
    go : (x : Bool) → eqb number' 0 ≡ x → or_more x number' o more ≡ or_more x number' o more'
    go false q = refl
    go true q = f (eqb-true number' 0 q)

read_same : (n : ℕ) (s : State) (o : ℕ) (bs : List ℕ) → read_all_by n s (note_of s) o bs ≡ read_all n s o bs
read_same zero s o bs = refl
read_same (suc n) s o [] = ap (end_with s o) (done_same s)
read_same (suc n) s o (t ∷ bs) =
    let size : ℕ = byte bs 0 * 256 + byte bs 1 in
    let body : List ℕ = take size (drop 2 bs) in
    let f : Field = record { offset = o; tag = t; body = body } in
    ap₂
    (λ done after. step_with s o (eqb t 3 && not done) (leb 2 (length bs) && leb size (length bs - 2)) after)
    (done_same s)
    (more_same (judge_field_by s (note_of s) f) (judge_field s f) o _ _ (judge_same s f)
    (λ q. ap (λ note. read_all_by n (read_field s o (kind_of t) body) note (o + 3 + size) (drop (2 + size) bs)) (next_same s o t body q) ∙ read_same n (read_field s o (kind_of t) body) (o + 3 + size) (drop (2 + size) bs)))

-- 02: "Every table keeps its number and offset."
pub gathered : (bs : List ℕ) → read_gathered bs ≡ read_table bs
gathered bs = ap (λ x. elim (leb (length bs) table_limit) [ false ↦ malformed 1 0 | true ↦ x ]) (read_same (suc (length bs)) nothing_read 0 bs)

-- ---- and so does the code

-- the code's note of rules holds the same occurrences
pub note_same : (note : List ℕ) (rs : List (Rule Occurrence)) → Notes note rs → (o : Occurrence) → is_noted note o ≡ in_note (targets rs) o
note_same note rs n o = n.holds o ∙ sym (in_targets rs o)

-- what `read_table` answers, by the reader with a note
pub answers_gathered :
    (r : Result Sizes TableRefusal) (inherited synthesized rows offsets bs : List ℕ)
    → Answers r inherited synthesized rows offsets (read_table bs) → Answers r inherited synthesized rows offsets (read_gathered bs)
answers_gathered r inherited synthesized rows offsets bs a = subst (Answers r inherited synthesized rows offsets) (sym (gathered bs)) a
