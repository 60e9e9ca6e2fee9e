-- House order read off the fields of a table, with no grammar in between: 02's sentence taken literally. It gives the same bytes.
use Rattle.std.specs.Prelude.{ℕ, zero, suc, ◌+◌, ◌*◌, ◌≤◌, ◌≡◌, refl, Bool, true, false, List, [], ◌∷◌, ◌++◌, map, length, get_or, take, drop, eqb}
use Rattle.std.proofs.Common.{arith, sym, ap, ap₂, subst, ◌∙◌, append_assoc, length-append}
use Rattle.std.proofs.Math.Seq.{take-append_seam, drop-append_seam}
use Rattle.meaning.specs.Grammar.{Occurrence, Rule, Condition, Production, Counts, Grammar}
use Rattle.meaning.specs.Layout as Layout
use Rattle.meaning.specs.Layout.{field, header_bytes, counts_bytes, counts_fields, carrying_fields, production_bytes, rule_bytes, condition_bytes, RulesAndConditions, rule, condition, Productions, production, LaidOut}
use Rattle.meaning_house.specs.Order.{arranged, rule_key, house_production, condition_fields, rule_fields, production_fields, house_bytes}
use Rattle.theory_order.specs.Gathering.{arranged_map}

-- ---- the definition on fields

pub record Piece : Type 0 where
  pub tag : ℕ
  pub body : List ℕ

abbrev pub piece : ℕ → List ℕ → Piece
piece t b = record { tag = t; body = b }

-- 01: "fields: one-byte tag, two-byte length, body"
abbrev pub joined : List Piece → List ℕ
joined [] = []
joined (f ∷ fs) = field f.tag f.body ++ joined fs

abbrev pub body_size : List ℕ → ℕ
body_size bs = get_or bs 1 0 * 256 + get_or bs 2 0

-- the first n fields of a table
abbrev pub split : ℕ → List ℕ → List Piece
split zero bs = []
split (suc n) [] = []
split (suc n) (t ∷ bs) = piece t (take (body_size (t ∷ bs)) (drop 3 (t ∷ bs))) ∷ split n (drop (3 + body_size (t ∷ bs)) (t ∷ bs))

-- rules and conditions that wait for their production, and what stands in order already
pub record Waiting : Type 0 where
  pub rules : List Piece
  pub conditions : List Piece
  pub ordered : List Piece

-- 02: "its rules by occurrence set, then its conditions by their body's bytes, both rising, duplicates of a condition dropped"
abbrev pub settled : Waiting → List Piece
settled w = arranged (λ f. take 2 f.body) w.rules ++ (arranged (λ f. f.body) w.conditions ++ w.ordered)

-- a field before others: is it a rule, is it a condition; else they settle behind it
abbrev pub joins : Bool → Bool → Piece → Waiting → Waiting
joins true b f w = record { rules = f ∷ w.rules; conditions = w.conditions; ordered = w.ordered }
joins false true f w = record { rules = w.rules; conditions = f ∷ w.conditions; ordered = w.ordered }
joins false false f w = record { rules = []; conditions = []; ordered = f ∷ settled w }

abbrev pub in_order_value : List Piece → Waiting
in_order_value [] = record { rules = []; conditions = []; ordered = [] }
in_order_value (f ∷ fs) = joins (eqb f.tag 4) (eqb f.tag 5) f (in_order_value fs)

abbrev pub house_fields : List Piece → List Piece
house_fields fs = settled (in_order_value fs)

-- ---- splitting finds the fields

sized : (t : ℕ) (b rest : List ℕ) → 3 + body_size (field t b ++ rest) ≡ length (field t b)
sized t b rest = omega arith

split_field : (n t : ℕ) (b rest : List ℕ) → split (suc n) (field t b ++ rest) ≡ piece t b ∷ split n rest
split_field n t b rest =
    let e : body_size (field t b ++ rest) ≡ length b = omega arith in
    let x : take (body_size (field t b ++ rest)) (b ++ rest) ≡ b = ap (λ k. take k (b ++ rest)) e ∙ take-append_seam b rest in
    let y : drop (3 + body_size (field t b ++ rest)) (field t b ++ rest) ≡ rest = ap (λ k. drop k (field t b ++ rest)) (sized t b rest) ∙ drop-append_seam (field t b) rest in
    ap₂ (λ u v. piece t u ∷ split n v) x y

split_joined : (fs : List Piece) (n : ℕ) → length fs ≤ n → split n (joined fs) ≡ fs
split_joined [] zero l = refl
split_joined [] (suc n) l = refl
split_joined (f ∷ fs) zero l = absurd (omega arith)
split_joined (f ∷ fs) (suc n) l = split_field n f.tag f.body (joined fs) ∙ ap (λ z. f ∷ z) (split_joined fs n (omega arith))

few_fields : (fs : List Piece) → length fs ≤ length (joined fs)
few_fields [] = omega arith
few_fields (f ∷ fs) = omega (arith, length-append (field f.tag f.body) (joined fs), few_fields fs)

pub split_all : (fs : List Piece) → split (length (joined fs)) (joined fs) ≡ fs
split_all fs = split_joined fs (length (joined fs)) (few_fields fs)

joined_append : (fs hs : List Piece) → joined (fs ++ hs) ≡ joined fs ++ joined hs
joined_append [] hs = refl
joined_append (f ∷ fs) hs = ap (λ z. field f.tag f.body ++ z) (joined_append fs hs) ∙ sym (append_assoc (field f.tag f.body) (joined fs) (joined hs))

-- ---- the fields of a grammar

abbrev rule_field : Rule Occurrence → Piece
rule_field r = piece 4 (rule_bytes r)

abbrev condition_field : Condition Occurrence → Piece
condition_field c = piece 5 (condition_bytes c)

abbrev production_field : Production → Piece
production_field p = piece 3 (production_bytes p)

pub record Body (rs : List (Rule Occurrence)) (cs : List (Condition Occurrence)) (bs : List ℕ) : Type 0 where
  pub fields : List Piece
  pub bytes : joined fields ≡ bs
  pub waits : (more ordered : List Piece) → in_order_value more ≡ record { rules = []; conditions = []; ordered = ordered } → in_order_value (fields ++ more) ≡ record { rules = map rule_field rs; conditions = map condition_field cs; ordered = ordered }

body_fields : {rs : List (Rule Occurrence)} {cs : List (Condition Occurrence)} {bs : List ℕ} → RulesAndConditions rs cs bs → Body rs cs bs
body_fields Layout.nothing = record { fields = []; bytes = refl; waits = λ more o e. e }
body_fields (rule r d) =
    let b = body_fields d in
    record { fields = rule_field r ∷ b.fields; bytes = ap (λ z. field 4 (rule_bytes r) ++ z) b.bytes; waits = λ more o e. ap (joins true false (rule_field r)) (b.waits more o e) }
body_fields (condition c d) =
    let b = body_fields d in
    record { fields = condition_field c ∷ b.fields; bytes = ap (λ z. field 5 (condition_bytes c) ++ z) b.bytes; waits = λ more o e. ap (joins false true (condition_field c)) (b.waits more o e) }

abbrev house_pieces : List Production → List Piece
house_pieces [] = []
house_pieces (p ∷ ps) = production_field p ∷ (arranged (λ f. take 2 f.body) (map rule_field p.rules) ++ (arranged (λ f. f.body) (map condition_field p.conditions) ++ house_pieces ps))

pub record Fields (ps : List Production) (bs : List ℕ) : Type 0 where
  pub fields : List Piece
  pub bytes : joined fields ≡ bs
  pub order : in_order_value fields ≡ record { rules = []; conditions = []; ordered = house_pieces ps }

production_fields_lem : {ps : List Production} {bs : List ℕ} → Productions ps bs → Fields ps bs
production_fields_lem Layout.nothing = record { fields = []; bytes = refl; order = refl }
production_fields_lem (production p {ps} {body} {rest} d e) =
    let b = body_fields d in
    let r = production_fields_lem e in
    record {
      fields = production_field p ∷ (b.fields ++ r.fields);
      bytes = ap (λ z. field 3 (production_bytes p) ++ z) (joined_append b.fields r.fields ∙ ap₂ ◌++◌ b.bytes r.bytes);
      order = ap (joins false false (production_field p)) (b.waits r.fields (house_pieces ps) r.order);
    }

-- ---- the bytes

condition_bytes_lem : (cs : List (Condition Occurrence)) → joined (map condition_field cs) ≡ condition_fields cs
condition_bytes_lem [] = refl
condition_bytes_lem (c ∷ cs) = ap (λ z. field 5 (condition_bytes c) ++ z) (condition_bytes_lem cs)

rule_bytes_lem : (rs : List (Rule Occurrence)) (rest : List ℕ) → joined (map rule_field rs) ++ rest ≡ rule_fields rs rest
rule_bytes_lem [] rest = refl
rule_bytes_lem (r ∷ rs) rest = append_assoc (field 4 (rule_bytes r)) (joined (map rule_field rs)) rest ∙ ap (λ z. field 4 (rule_bytes r) ++ z) (rule_bytes_lem rs rest)

house_pieces_lem : (ps : List Production) → joined (house_pieces ps) ≡ production_fields (map house_production ps)
house_pieces_lem [] = refl
house_pieces_lem (p ∷ ps) =
    let rs : List (Rule Occurrence) = arranged rule_key p.rules in
    let cs : List (Condition Occurrence) = arranged condition_bytes p.conditions in
    let a : arranged (λ f. take 2 f.body) (map rule_field p.rules) ≡ map rule_field rs = arranged_map rule_field (λ f. take 2 f.body) p.rules in
    let b : arranged (λ f. f.body) (map condition_field p.conditions) ≡ map condition_field cs = arranged_map condition_field (λ f. f.body) p.conditions in
    ap (λ z. field 3 (production_bytes p) ++ z) (
    ap₂ (λ u v. joined (u ++ (v ++ house_pieces ps))) a b
    ∙ (joined_append (map rule_field rs) (map condition_field cs ++ house_pieces ps)
    ∙ (ap (λ z. joined (map rule_field rs) ++ z) (joined_append (map condition_field cs) (house_pieces ps) ∙ ap₂ ◌++◌ (condition_bytes_lem cs) (house_pieces_lem ps))
    ∙ (sym (append_assoc (joined (map rule_field rs)) (condition_fields cs) (production_fields (map house_production ps)))
    ∙ ap (λ z. z ++ production_fields (map house_production ps)) (rule_bytes_lem rs (condition_fields cs))))))

abbrev counts_pieces : List Counts → List Piece → List Piece
counts_pieces [] rest = rest
counts_pieces (c ∷ cs) rest = piece 2 (counts_bytes c) ∷ counts_pieces cs rest

counts_joined : (cs : List Counts) (rest : List Piece) → joined (counts_pieces cs rest) ≡ counts_fields cs ++ joined rest
counts_joined [] rest = refl
counts_joined (c ∷ cs) rest = ap (λ z. field 2 (counts_bytes c) ++ z) (counts_joined cs rest) ∙ sym (append_assoc (field 2 (counts_bytes c)) (counts_fields cs) (joined rest))

counts_order : (cs : List Counts) (rest ordered : List Piece) → in_order_value rest ≡ record { rules = []; conditions = []; ordered = ordered } → in_order_value (counts_pieces cs rest) ≡ record { rules = []; conditions = []; ordered = counts_pieces cs ordered }
counts_order [] rest ordered e = e
counts_order (c ∷ cs) rest ordered e = ap (joins false false (piece 2 (counts_bytes c))) (counts_order cs rest ordered e)

abbrev carrying_pieces : List ℕ → List Piece → List Piece
carrying_pieces [] rest = rest
carrying_pieces (t ∷ ts) rest = piece 6 (t ∷ []) ∷ carrying_pieces ts rest

carrying_joined : (ts : List ℕ) (rest : List Piece) → joined (carrying_pieces ts rest) ≡ carrying_fields ts ++ joined rest
carrying_joined [] rest = refl
carrying_joined (t ∷ ts) rest = ap (λ z. field 6 (t ∷ []) ++ z) (carrying_joined ts rest) ∙ sym (append_assoc (field 6 (t ∷ [])) (carrying_fields ts) (joined rest))

carrying_order : (ts : List ℕ) (rest ordered : List Piece) → in_order_value rest ≡ record { rules = []; conditions = []; ordered = ordered } → in_order_value (carrying_pieces ts rest) ≡ record { rules = []; conditions = []; ordered = carrying_pieces ts ordered }
carrying_order [] rest ordered e = e
carrying_order (t ∷ ts) rest ordered e = ap (joins false false (piece 6 (t ∷ []))) (carrying_order ts rest ordered e)

-- everything before the first production stays
abbrev front_pieces : Grammar → List Piece → List Piece
front_pieces g rest = piece 1 (header_bytes g) ∷ counts_pieces g.counts (carrying_pieces g.carrying rest)

front_joined : (g : Grammar) (rest : List Piece) → joined (front_pieces g rest) ≡ field 1 (header_bytes g) ++ (counts_fields g.counts ++ (carrying_fields g.carrying ++ joined rest))
front_joined g rest = ap (λ z. field 1 (header_bytes g) ++ z) (counts_joined g.counts (carrying_pieces g.carrying rest) ∙ ap (λ z. counts_fields g.counts ++ z) (carrying_joined g.carrying rest))

front_order : (g : Grammar) (rest ordered : List Piece) → in_order_value rest ≡ record { rules = []; conditions = []; ordered = ordered } → in_order_value (front_pieces g rest) ≡ record { rules = []; conditions = []; ordered = front_pieces g ordered }
front_order g rest ordered e = ap (joins false false (piece 1 (header_bytes g))) (counts_order g.counts (carrying_pieces g.carrying rest) (carrying_pieces g.carrying ordered) (carrying_order g.carrying rest ordered e))

-- the house table of a grammar is any table of it with its fields in house order
pub on_fields : (g : Grammar) (bs : List ℕ) → LaidOut g bs → joined (house_fields (split (length bs) bs)) ≡ house_bytes g
on_fields g bs l =
    let f = production_fields_lem l.productions in
    let fs : List Piece = front_pieces g f.fields in
    let hs : List Piece = house_pieces g.productions in
    let front : List ℕ → List ℕ = λ z. field 1 (header_bytes g) ++ (counts_fields g.counts ++ (carrying_fields g.carrying ++ z)) in
    let e : joined fs ≡ bs = front_joined g f.fields ∙ (ap front f.bytes ∙ sym l.is_table) in
    let s : split (length bs) bs ≡ fs = subst (λ z. split (length z) z ≡ fs) e (split_all fs) in
    ap (λ z. joined (house_fields z)) s ∙ (ap (λ z. joined (settled z)) (front_order g f.fields hs f.order) ∙ (front_joined g hs ∙ ap front (house_pieces_lem g.productions)))
