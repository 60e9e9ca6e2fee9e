-- Every byte in house order is one of the table's.
use Rattle.std.specs.Prelude.{ℕ, refl, ◌⊎◌, List, [], ◌∷◌, ◌++◌, map}
use Rattle.std.proofs.Common.{sym, subst, inl, inr}
use Rattle.meaning.specs.Base.{In}
use Rattle.meaning.specs.Grammar.{Occurrence, Rule, Condition, Production, Grammar}
use Rattle.meaning.specs.Layout as Layout
use Rattle.meaning.specs.Layout.{field, header_bytes, counts_fields, carrying_fields, production_bytes, rule_bytes, condition_bytes, RulesAndConditions, rule, condition, Productions, production, LaidOut, Bytes}
use Rattle.theory_base.specs.Members.{in_append, in_left, in_right}
use Rattle.meaning_house.specs.Order.{arranged, rule_key, house_production, condition_fields, rule_fields, production_fields, house_bytes}
use Rattle.theory_order.specs.Arranging.{arranged_in}

-- a field's bytes are among those of a production's rules and conditions
rule_in : {rs : List (Rule Occurrence)} {cs : List (Condition Occurrence)} {bs : List ℕ} → RulesAndConditions rs cs bs → (r : Rule Occurrence) → In r rs → (b : ℕ) → In b (field 4 (rule_bytes r)) → In b bs
rule_in Layout.nothing r i b j = absurd i
rule_in (rule q {bs = bs} d) r (inl p) b j = in_left b (field 4 (rule_bytes q)) bs (subst (λ z. In b (field 4 (rule_bytes z))) p j)
rule_in (rule q {bs = bs} d) r (inr i) b j = in_right b (field 4 (rule_bytes q)) bs (rule_in d r i b j)
rule_in (condition c {bs = bs} d) r i b j = in_right b (field 5 (condition_bytes c)) bs (rule_in d r i b j)

condition_in : {rs : List (Rule Occurrence)} {cs : List (Condition Occurrence)} {bs : List ℕ} → RulesAndConditions rs cs bs → (c : Condition Occurrence) → In c cs → (b : ℕ) → In b (field 5 (condition_bytes c)) → In b bs
condition_in Layout.nothing c i b j = absurd i
condition_in (rule q {bs = bs} d) c i b j = in_right b (field 4 (rule_bytes q)) bs (condition_in d c i b j)
condition_in (condition e {bs = bs} d) c (inl p) b j = in_left b (field 5 (condition_bytes e)) bs (subst (λ z. In b (field 5 (condition_bytes z))) p j)
condition_in (condition e {bs = bs} d) c (inr i) b j = in_right b (field 5 (condition_bytes e)) bs (condition_in d c i b j)

in_conditions : (cs : List (Condition Occurrence)) (b : ℕ) → In b (condition_fields cs) → (c : Condition Occurrence) × In c cs × In b (field 5 (condition_bytes c))
in_conditions [] b i = absurd i
in_conditions (c ∷ cs) b i = go (in_append b (field 5 (condition_bytes c)) (condition_fields cs) i) (in_conditions cs b)
  where
    go : In b (field 5 (condition_bytes c)) ⊎ In b (condition_fields cs) → (In b (condition_fields cs) → (d : Condition Occurrence) × In d cs × In b (field 5 (condition_bytes d))) → (d : Condition Occurrence) × In d (c ∷ cs) × In b (field 5 (condition_bytes d))
    go (inl j) ih = (c, inl refl, j)
    go (inr j) ih = let v = ih j in (v.0, inr v.1, v.2)

in_rules : (rs : List (Rule Occurrence)) (rest : List ℕ) (b : ℕ) → In b (rule_fields rs rest) → ((r : Rule Occurrence) × In r rs × In b (field 4 (rule_bytes r))) ⊎ In b rest
in_rules [] rest b i = inr i
in_rules (r ∷ rs) rest b i = go (in_append b (field 4 (rule_bytes r)) (rule_fields rs rest) i) (in_rules rs rest b)
  where
    deeper : ((q : Rule Occurrence) × In q rs × In b (field 4 (rule_bytes q))) ⊎ In b rest → ((q : Rule Occurrence) × In q (r ∷ rs) × In b (field 4 (rule_bytes q))) ⊎ In b rest
    deeper (inl v) = inl (v.0, inr v.1, v.2)
    deeper (inr j) = inr j

    go : In b (field 4 (rule_bytes r)) ⊎ In b (rule_fields rs rest) → (In b (rule_fields rs rest) → ((q : Rule Occurrence) × In q rs × In b (field 4 (rule_bytes q))) ⊎ In b rest) → ((q : Rule Occurrence) × In q (r ∷ rs) × In b (field 4 (rule_bytes q))) ⊎ In b rest
    go (inl j) ih = inl (r, inl refl, j)
    go (inr j) ih = deeper (ih j)

body_in_lem : (p : Production) {bs : List ℕ} → RulesAndConditions p.rules p.conditions bs → (b : ℕ) → In b (rule_fields (arranged rule_key p.rules) (condition_fields (arranged condition_bytes p.conditions))) → In b bs
body_in_lem p {bs} d b i = go (in_rules (arranged rule_key p.rules) (condition_fields (arranged condition_bytes p.conditions)) b i)
  where
    go : ((r : Rule Occurrence) × In r (arranged rule_key p.rules) × In b (field 4 (rule_bytes r))) ⊎ In b (condition_fields (arranged condition_bytes p.conditions)) → In b bs
    go (inl v) = rule_in d v.0 (arranged_in rule_key p.rules v.0 v.1) b v.2
    go (inr j) = let v = in_conditions (arranged condition_bytes p.conditions) b j in condition_in d v.0 (arranged_in condition_bytes p.conditions v.0 v.1) b v.2

productions_in_lem : {ps : List Production} {bs : List ℕ} → Productions ps bs → (b : ℕ) → In b (production_fields (map house_production ps)) → In b bs
productions_in_lem Layout.nothing b i = i
productions_in_lem (production p {ps} {body} {rest} d e) b i = go (in_append b head (inner ++ production_fields (map house_production ps)) i) (λ j. productions_in_lem e b j)
  where
    head : List ℕ
    head = field 3 (production_bytes p)

    inner : List ℕ
    inner = rule_fields (arranged rule_key p.rules) (condition_fields (arranged condition_bytes p.conditions))

    deeper : In b inner ⊎ In b (production_fields (map house_production ps)) → (In b (production_fields (map house_production ps)) → In b rest) → In b (body ++ rest)
    deeper (inl j) ih = in_left b body rest (body_in_lem p d b j)
    deeper (inr j) ih = in_right b body rest (ih j)

    go : In b head ⊎ In b (inner ++ production_fields (map house_production ps)) → (In b (production_fields (map house_production ps)) → In b rest) → In b (head ++ (body ++ rest))
    go (inl j) ih = in_left b head (body ++ rest) j
    go (inr j) ih = in_right b head (body ++ rest) (deeper (in_append b inner (production_fields (map house_production ps)) j) ih)

-- behind a part that stays
behind : (b : ℕ) (xs ys zs : List ℕ) → (In b ys → In b zs) → In b (xs ++ ys) → In b (xs ++ zs)
behind b xs ys zs f i = go (in_append b xs ys i)
  where
    go : In b xs ⊎ In b ys → In b (xs ++ zs)
    go (inl j) = in_left b xs zs j
    go (inr j) = in_right b xs zs (f j)

pub house_in : (g : Grammar) (bs : List ℕ) → LaidOut g bs → (b : ℕ) → In b (house_bytes g) → In b bs
house_in g bs l b i =
    let house : List ℕ = production_fields (map house_production g.productions) in
    let values : List ℕ = carrying_fields g.carrying in
    let counts : List ℕ = counts_fields g.counts in
    let third : In b (values ++ house) → In b (values ++ l.rest) = behind b values house l.rest (productions_in_lem l.productions b) in
    let second : In b (counts ++ (values ++ house)) → In b (counts ++ (values ++ l.rest)) = behind b counts (values ++ house) (values ++ l.rest) third in
    subst (In b) (sym l.is_table) (behind b (field 1 (header_bytes g)) (counts ++ (values ++ house)) (counts ++ (values ++ l.rest)) second i)

pub house_bytes_lem : (g : Grammar) (bs : List ℕ) → LaidOut g bs → Bytes bs → Bytes (house_bytes g)
house_bytes_lem g bs l h b i = h b (house_in g bs l b i)
