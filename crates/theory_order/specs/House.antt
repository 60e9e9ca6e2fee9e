-- House order: the same but for order, alike for grammars that are, done once for all, laid out, and never longer than a table of the grammar.
use Rattle.std.specs.Prelude.{ℕ, ◌+◌, ◌≤◌, ◌≡◌, refl, List, [], ◌∷◌, ◌++◌, map, length}
use Rattle.std.proofs.Common.{arith, sym, ap, ap₂, ◌∙◌, inl, inr, length-append}
use Rattle.meaning.specs.Base.{In, total}
use Rattle.meaning.specs.Grammar.{Occurrence, Rule, Condition, Production, Grammar}
use Rattle.meaning.specs.Rules.{WellFormed, WellFormedProduction, Proper}
use Rattle.meaning.specs.Layout as Layout
use Rattle.meaning.specs.Layout.{field, header_bytes, counts_fields, carrying_fields, production_bytes, rule_bytes, condition_bytes, RulesAndConditions, rule, condition, Productions, production, LaidOut}
use Rattle.meaning.specs.Table.{condition_of}
use Rattle.theory_table.specs.Numbers.{condition_read}
use Rattle.meaning_house.specs.Order.{Shuffled, SameMembers, SameProduction, SameEach, SameButOrder, arranged, rule_key, house_production, house_grammar, condition_fields, rule_fields, production_fields, table_bytes, house_bytes}
use Rattle.theory_order.specs.Shuffles.{Apart, apart_one, apart_shuffled, shuffled_in, shuffled_sym}
use Rattle.theory_order.specs.SameSchemes.{distinct_apart}
use Rattle.theory_order.specs.SameVerdict.{FewConditions}
use Rattle.theory_order.specs.Arranging.{Keyed, arranged_members, arranged_alike, arranged_twice, arranged_shuffled, arranged_total, arranged_length}

-- ---- keys

occurrence_of : (q r : Rule Occurrence) → rule_key q ≡ rule_key r → q.target ≡ r.target
occurrence_of q r e =
    let x : q.target.position ≡ r.target.position = cc in
    let y : q.target.attribute ≡ r.target.attribute = cc in
    λ i. record { position = x i; attribute = y i }

rules_apart : (rs : List (Rule Occurrence)) → Apart (λ r. r.target) rs → Apart rule_key rs
rules_apart [] a = tt
rules_apart (r ∷ rs) a = ((λ q i e. a.0 q i (occurrence_of q r e)), rules_apart rs a.1)

condition_is : (c d : Condition Occurrence) → Proper c → Proper d → condition_bytes c ≡ condition_bytes d → c ≡ d
condition_is c d x y e = sym (condition_read c x).same ∙ (ap condition_of e ∙ (condition_read d y).same)

module _ (g : Grammar) (p : Production) (w : WellFormedProduction g p) where
  keys_apart : Apart rule_key p.rules
  keys_apart = rules_apart p.rules (distinct_apart p.rules w.distinct)

  rules_keyed : (rs : List (Rule Occurrence)) → Shuffled p.rules rs → Keyed rule_key rs
  rules_keyed rs s = apart_one rule_key rs (apart_shuffled rule_key s keys_apart)

  conditions_keyed : (cs : List (Condition Occurrence)) → SameMembers p.conditions cs → Keyed condition_bytes cs
  conditions_keyed cs s c d i j e = condition_is c d (w.proper c ((s c).1 i)) (w.proper d ((s d).1 j)) e

  pub house_production_lem : SameProduction p (house_production p)
  house_production_lem = record {
    left = refl;
    right = refl;
    rules = arranged_shuffled rule_key p.rules keys_apart;
    conditions = arranged_members condition_bytes p.conditions (conditions_keyed p.conditions (λ c. ((λ i. i), (λ i. i))));
  }

  pub production_alike : (q : Production) → SameProduction p q → house_production p ≡ house_production q
  production_alike q s =
      let r : arranged rule_key p.rules ≡ arranged rule_key q.rules = arranged_alike rule_key p.rules q.rules (apart_one rule_key p.rules keys_apart) (rules_keyed q.rules s.rules) (λ x. (shuffled_in s.rules x, shuffled_in (shuffled_sym s.rules) x)) in
      let c : arranged condition_bytes p.conditions ≡ arranged condition_bytes q.conditions = arranged_alike condition_bytes p.conditions q.conditions (conditions_keyed p.conditions (λ c. ((λ i. i), (λ i. i)))) (conditions_keyed q.conditions s.conditions) s.conditions in
      λ i. record { left = s.left i; right = s.right i; rules = r i; conditions = c i }

-- ---- the same but for order

each_house : (g : Grammar) (ps : List Production) → ((p : Production) → In p ps → WellFormedProduction g p) → SameEach ps (map house_production ps)
each_house g [] w = tt
each_house g (p ∷ ps) w = (house_production_lem g p (w p (inl refl)), each_house g ps (λ q i. w q (inr i)))

pub house_same : (g : Grammar) → WellFormed g → SameButOrder g (house_grammar g)
house_same g w = record { terminals = refl; counts = refl; carrying = refl; start = refl; result = refl; productions = each_house g g.productions w.each }

-- ---- alike

each_alike : (g : Grammar) (ps qs : List Production) → ((p : Production) → In p ps → WellFormedProduction g p) → SameEach ps qs → map house_production ps ≡ map house_production qs
each_alike g [] [] w s = refl
each_alike g [] (q ∷ qs) w s = absurd s
each_alike g (p ∷ ps) [] w s = absurd s
each_alike g (p ∷ ps) (q ∷ qs) w s = ap₂ ◌∷◌ (production_alike g p (w p (inl refl)) q s.0) (each_alike g ps qs (λ r i. w r (inr i)) s.1)

pub house_alike : (g h : Grammar) → WellFormed g → SameButOrder g h → house_grammar g ≡ house_grammar h
house_alike g h w s =
    let e = each_alike g g.productions h.productions w.each s.productions in
    λ i. record { terminals = s.terminals i; counts = s.counts i; carrying = s.carrying i; start = s.start i; result = s.result i; productions = e i }

pub bytes_alike : (g h : Grammar) → WellFormed g → SameButOrder g h → house_bytes g ≡ house_bytes h
bytes_alike g h w s = ap table_bytes (house_alike g h w s)

-- ---- a second time

production_twice : (p : Production) → house_production (house_production p) ≡ house_production p
production_twice p = λ i. record { left = p.left; right = p.right; rules = arranged_twice rule_key p.rules i; conditions = arranged_twice condition_bytes p.conditions i }

each_twice : (ps : List Production) → map house_production (map house_production ps) ≡ map house_production ps
each_twice [] = refl
each_twice (p ∷ ps) = ap₂ ◌∷◌ (production_twice p) (each_twice ps)

pub house_twice : (g : Grammar) → house_grammar (house_grammar g) ≡ house_grammar g
house_twice g = λ i. record { terminals = g.terminals; counts = g.counts; carrying = g.carrying; start = g.start; result = g.result; productions = each_twice g.productions i }

pub bytes_twice : (g : Grammar) → house_bytes (house_grammar g) ≡ house_bytes g
bytes_twice g = ap table_bytes (house_twice g)

-- ---- laid out

conditions_laid : (cs : List (Condition Occurrence)) → RulesAndConditions [] cs (condition_fields cs)
conditions_laid [] = Layout.nothing
conditions_laid (c ∷ cs) = condition c (conditions_laid cs)

rules_laid : (rs : List (Rule Occurrence)) (cs : List (Condition Occurrence)) → RulesAndConditions rs cs (rule_fields rs (condition_fields cs))
rules_laid [] cs = conditions_laid cs
rules_laid (r ∷ rs) cs = rule r (rules_laid rs cs)

productions_laid : (ps : List Production) → Productions ps (production_fields ps)
productions_laid [] = Layout.nothing
productions_laid (p ∷ ps) = production p (rules_laid p.rules p.conditions) (productions_laid ps)

pub table_laid_out : (g : Grammar) → LaidOut g (table_bytes g)
table_laid_out g = record { rest = production_fields g.productions; productions = productions_laid g.productions; is_table = refl }

pub house_laid_out : (g : Grammar) → LaidOut (house_grammar g) (house_bytes g)
house_laid_out g = table_laid_out (house_grammar g)

-- ---- never longer

abbrev rule_size : Rule Occurrence → ℕ
rule_size r = length (field 4 (rule_bytes r))

abbrev condition_size : Condition Occurrence → ℕ
condition_size c = length (field 5 (condition_bytes c))

abbrev production_size : Production → ℕ
production_size p = length (field 3 (production_bytes p)) + (total (map rule_size p.rules) + total (map condition_size p.conditions))

body_size_lem : {rs : List (Rule Occurrence)} {cs : List (Condition Occurrence)} {bs : List ℕ} → RulesAndConditions rs cs bs → length bs ≡ total (map rule_size rs) + total (map condition_size cs)
body_size_lem Layout.nothing = refl
body_size_lem (rule r {bs = bs} d) = omega (arith, length-append (field 4 (rule_bytes r)) bs, body_size_lem d)
body_size_lem (condition c {bs = bs} d) = omega (arith, length-append (field 5 (condition_bytes c)) bs, body_size_lem d)

productions_size : {ps : List Production} {bs : List ℕ} → Productions ps bs → length bs ≡ total (map production_size ps)
productions_size Layout.nothing = refl
productions_size (production p {body = body} {rest = rest} b d) = omega (arith, length-append (field 3 (production_bytes p)) (body ++ rest), length-append body rest, body_size_lem b, productions_size d)

pub table_size : (g : Grammar) (bs : List ℕ) → LaidOut g bs → length bs ≡ length (field 1 (header_bytes g)) + (length (counts_fields g.counts) + (length (carrying_fields g.carrying) + total (map production_size g.productions)))
table_size g bs l =
    let ws : List ℕ = carrying_fields g.carrying in
    ap length l.is_table ∙ omega (arith, length-append (field 1 (header_bytes g)) (counts_fields g.counts ++ (ws ++ l.rest)), length-append (counts_fields g.counts) (ws ++ l.rest), length-append ws l.rest, productions_size l.productions)

house_size : (ps : List Production) → total (map production_size (map house_production ps)) ≤ total (map production_size ps)
house_size [] = omega arith
house_size (p ∷ ps) = omega (arith, arranged_total rule_key rule_size p.rules, arranged_total condition_bytes condition_size p.conditions, house_size ps)

pub house_short : (g : Grammar) (bs : List ℕ) → LaidOut g bs → length (house_bytes g) ≤ length bs
house_short g bs l = omega (arith, table_size g bs l, table_size (house_grammar g) (house_bytes g) (house_laid_out g), house_size g.productions)

few_house : (ps : List Production) → total (map (λ p. length p.conditions) (map house_production ps)) ≤ total (map (λ p. length p.conditions) ps)
few_house [] = omega arith
few_house (p ∷ ps) = omega (arith, arranged_length condition_bytes p.conditions, few_house ps)

pub house_few : (g : Grammar) → WellFormed g → FewConditions (house_grammar g)
house_few g w = omega (arith, few_house g.productions, w.conditions)

-- ---- for the code: a field's key tells it from its production's others

pub keyed_rules : (g : Grammar) (p : Production) → WellFormedProduction g p → Keyed rule_key p.rules
keyed_rules g p w = apart_one rule_key p.rules (keys_apart g p w)

pub keyed_conditions : (g : Grammar) (p : Production) → WellFormedProduction g p → Keyed condition_bytes p.conditions
keyed_conditions g p w = conditions_keyed g p w p.conditions (λ c. ((λ i. i), (λ i. i)))
