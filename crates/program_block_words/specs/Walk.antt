-- The words and numbers of a production's rules and conditions, by a walk along their fields.
use Rattle.std.specs.Prelude.{ℕ, ◌+◌, ◌≤◌, ◌<◌, ◌≡◌, refl, Bool, true, false, List, [], ◌∷◌, ◌++◌, map, length, drop, eqb}
use Rattle.std.proofs.Common.{arith, sym, ap, ap₂, ◌∙◌, length-append, ne_eqb}
use Rattle.meaning.specs.Base.{keep, cons_if}
use Rattle.meaning.specs.Grammar.{Occurrence, Rule, Condition, condition_position, map_rule, map_condition}
use Rattle.meaning.specs.Rules.{Constant, Proper}
use Rattle.meaning.specs.Layout.{field, rule_bytes, condition_bytes, RulesAndConditions, nothing, rule, condition}
use Rattle.meaning.specs.Program.{concat, rule_words, condition_words, head_of, evaluate_operation, test_operation}
use Rattle.meaning.specs.Table.{byte}
use Rattle.theory_program.specs.Proper.{keep_few}
use Rattle.program_block_words.specs.Fields.{Listed, Behind, field_at_lem, none_left}
use Rattle.program_block_words.specs.Items.{selector_of, rule_item_lem, condition_item_lem, condition_place_lem, choose_words, place_of, item_of, item_here, Whole, rule_whole, condition_whole}

-- ---- the rules (true) or conditions (false) of position k: their words, and how many they are

abbrev pub rules_at : ℕ → List (Rule Occurrence) → List (Rule Occurrence)
rules_at k rs = keep (λ r. eqb r.target.position k) rs

abbrev pub tests_at : ℕ → List (Condition Occurrence) → List (Condition Occurrence)
tests_at k cs = keep (λ c. eqb (condition_position c) k) cs

unfoldable pub words_of : Bool → ℕ → List ℕ → ℕ → List (Rule Occurrence) → List (Condition Occurrence) → List ℕ
words_of true top below k rs cs = concat (map rule_words (map (map_rule (selector_of top below)) (rules_at k rs)))
words_of false top below k rs cs = concat (map condition_words (map (map_condition (selector_of top below)) (tests_at k cs)))

unfoldable pub items_at : Bool → ℕ → List (Rule Occurrence) → List (Condition Occurrence) → ℕ
items_at true k rs cs = length (rules_at k rs)
items_at false k rs cs = length (tests_at k cs)

abbrev pub item_words : Bool → ℕ → List ℕ → ℕ → {d : List ℕ} → Listed d → List ℕ
item_words rules top below k x = words_of rules top below k x.rules x.conditions

abbrev pub item_count : Bool → ℕ → {d : List ℕ} → Listed d → ℕ
item_count rules k x = items_at rules k x.rules x.conditions

-- ---- one field

abbrev pub one : Bool → ℕ
one true = 1
one false = 0

-- 1 where the field has such an item
abbrev pub count_here : Bool → ℕ → List ℕ → ℕ
count_here rules k d = one (eqb (place_of rules d) k)

-- how many fields there are
abbrev pub field_count : {d : List ℕ} → Listed d → ℕ
field_count x = length x.rules + length x.conditions

-- what a walk learns of the first field d, of the rules and conditions before it is passed, and of those behind it
pub record Here (d : List ℕ) (rs : List (Rule Occurrence)) (cs : List (Condition Occurrence)) (rs' : List (Rule Occurrence)) (cs' : List (Condition Occurrence)) : Type 0 where
  pub long : 8 ≤ length d
  pub whole : (rules : Bool) → place_of rules d < 255 → Whole rules d
  pub fewer : length rs + length cs ≡ length rs' + length cs' + 1
  pub words : (rules : Bool) (top : ℕ) (below : List ℕ) (k : ℕ) → k < 255 → words_of rules top below k rs cs ≡ item_here rules top below k d ++ words_of rules top below k rs' cs'
  pub counts : (rules : Bool) (k : ℕ) → k < 255 → items_at rules k rs cs ≡ count_here rules k d + items_at rules k rs' cs'

module _ {A B : Type 0} (f : B → List ℕ) (h : A → B) where
  concat_if : (b : Bool) (x : A) (xs : List A) → concat (map f (map h (cons_if b x xs))) ≡ choose_words b (f (h x)) [] ++ concat (map f (map h xs))
  concat_if true x xs = refl
  concat_if false x xs = refl

length_if : {A : Type 0} (b : Bool) (x : A) (xs : List A) → length (cons_if b x xs) ≡ one b + length xs
length_if true x xs = omega arith
length_if false x xs = omega arith

-- the field holds an item of the other kind
other_words : (k : ℕ) (ws rest : List ℕ) → k < 255 → rest ≡ choose_words (eqb 255 k) ws [] ++ rest
other_words k ws rest l = rw (ne_eqb 255 k (λ e. omega arith))

other_count : (k n : ℕ) → k < 255 → n ≡ one (eqb 255 k) + n
other_count k n l = rw (ne_eqb 255 k (λ e. omega arith)) (omega arith)

rule_here_lem : (r : Rule Occurrence) (rs : List (Rule Occurrence)) (cs : List (Condition Occurrence)) (bs : List ℕ) → Constant r.function → Here (field 4 (rule_bytes r) ++ bs) (r ∷ rs) cs rs cs
unfolding words_of items_at place_of item_of item_here
rule_here_lem r rs cs bs constant =
    let d : List ℕ = field 4 (rule_bytes r) ++ bs in
    record {
      long = (rule_whole r bs).target;
      whole = λ b m. elim b as (λ y. place_of y d < 255 → Whole y d) [ true ↦ λ n. rule_whole r bs | false ↦ λ n. absurd (omega arith) ] m;
      fewer = omega arith;
      words = λ b top below k m. elim b as (λ y. words_of y top below k (r ∷ rs) cs ≡ item_here y top below k d ++ words_of y top below k rs cs) [
        | true ↦
            concat_if rule_words (map_rule (selector_of top below)) (eqb r.target.position k) r (rules_at k rs)
            ∙ ap (λ z. choose_words (eqb r.target.position k) z [] ++ words_of true top below k rs cs) (sym (rule_item_lem top below r bs constant))
        | false ↦ other_words k (item_of false top below d) (words_of false top below k rs cs) m
      ];
      counts = λ b k m. elim b as (λ y. items_at y k (r ∷ rs) cs ≡ count_here y k d + items_at y k rs cs) [
        | true ↦ length_if (eqb r.target.position k) r (rules_at k rs)
        | false ↦ other_count k (items_at false k rs cs) m
      ];
    }

condition_here_lem : (c : Condition Occurrence) (rs : List (Rule Occurrence)) (cs : List (Condition Occurrence)) (bs : List ℕ) → Proper c → Here (field 5 (condition_bytes c) ++ bs) rs (c ∷ cs) rs cs
unfolding words_of items_at place_of item_of item_here
condition_here_lem c rs cs bs proper =
    let d : List ℕ = field 5 (condition_bytes c) ++ bs in
    let place : place_of false d ≡ condition_position c = condition_place_lem c bs in
    record {
      long = (condition_whole c bs).first;
      whole = λ b m. elim b as (λ y. place_of y d < 255 → Whole y d) [ true ↦ λ n. absurd (omega arith) | false ↦ λ n. condition_whole c bs ] m;
      fewer = omega arith;
      words = λ b top below k m. elim b as (λ y. words_of y top below k rs (c ∷ cs) ≡ item_here y top below k d ++ words_of y top below k rs cs) [
        | true ↦ other_words k (item_of true top below d) (words_of true top below k rs cs) m
        | false ↦
            concat_if condition_words (map_condition (selector_of top below)) (eqb (condition_position c) k) c (tests_at k cs)
            ∙ ap₂ (λ z v. choose_words (eqb z k) v [] ++ words_of false top below k rs cs) (sym place) (sym (condition_item_lem top below c bs proper))
      ];
      counts = λ b k m. elim b as (λ y. items_at y k rs (c ∷ cs) ≡ count_here y k d + items_at y k rs cs) [
        | true ↦ other_count k (items_at true k rs cs) m
        | false ↦ length_if (eqb (condition_position c) k) c (tests_at k cs) ∙ ap (λ z. one (eqb z k) + items_at false k rs cs) (sym place)
      ];
    }

pub listed_at : (fields : List ℕ) (at size : ℕ) → at < length fields → size ≡ byte (drop at fields) 2 → (x : Listed (drop at fields)) → Behind Here fields at (at + 3 + size) x
listed_at = field_at_lem (record { of_rule = rule_here_lem; of_condition = condition_here_lem })

pub listed_none : (d : List ℕ) (x : Listed d) → length d ≡ 0 → (rules : Bool) (top : ℕ) (below : List ℕ) (k : ℕ) → (item_words rules top below k x ≡ []) × (item_count rules k x ≡ 0)
unfolding words_of items_at
listed_none d x l rules top below k = let e = none_left x.own l in elim rules as (λ y. (item_words y top below k x ≡ []) × (item_count y k x ≡ 0)) [
  | true ↦ (rw e.0 refl, rw e.0 refl)
  | false ↦ (rw e.1 refl, rw e.1 refl)
]

-- each item takes bytes
pub count_few : (d : List ℕ) (x : Listed d) (rules : Bool) (k : ℕ) → item_count rules k x ≤ length d
unfolding items_at
count_few d x rules k = elim rules as (λ y. item_count y k x ≤ length d) [
  | true ↦ omega (arith, keep_few (λ (r : Rule Occurrence). eqb r.target.position k) x.rules, few x.own)
  | false ↦ omega (arith, keep_few (λ (c : Condition Occurrence). eqb (condition_position c) k) x.conditions, few x.own)
]
  where
    few : {rs : List (Rule Occurrence)} {cs : List (Condition Occurrence)} {b : List ℕ} → RulesAndConditions rs cs b → length rs + length cs ≤ length b
    few nothing = omega arith
    few (rule r {rs} {cs} {bs} own) = omega (arith, few own, length-append (field 4 (rule_bytes r)) bs)
    few (condition c {rs} {cs} {bs} own) = omega (arith, few own, length-append (field 5 (condition_bytes c)) bs)

-- ---- a block

abbrev pub operation_of : Bool → ℕ
operation_of true = evaluate_operation
operation_of false = test_operation

-- an evaluate or a test of n items; nothing where there are none
unfoldable pub block : Bool → ℕ → List ℕ → List ℕ
block rules n ws = choose_words (eqb n 0) [] (head_of (operation_of rules) n ∷ ws)

abbrev pub block_words : Bool → ℕ → List ℕ → ℕ → {d : List ℕ} → Listed d → List ℕ
block_words rules top below k x = block rules (item_count rules k x) (item_words rules top below k x)
