-- The fields of a production's rules and conditions, one after the other: where each begins, and a fact of the first one and of those behind it.
use Rattle.std.specs.Prelude.{ℕ, ◌+◌, ◌≤◌, ◌<◌, ◌≡◌, refl, List, [], ◌∷◌, ◌++◌, length, drop}
use Rattle.std.proofs.Common.{arith, sym, ap, ◌∙◌, subst, inl, inr, length-append, length-drop, drop-drop}
use Rattle.std.proofs.Math.Option.{none, some}
use Rattle.std.proofs.Math.Seq.{drop-append_seam}
use Rattle.meaning.specs.Base.{In}
use Rattle.meaning.specs.Grammar.{Occurrence, Function, const, copy, binary, addc, quot, Rule, Condition, range, atmost}
use Rattle.meaning.specs.Rules.{Constant, Proper}
use Rattle.meaning.specs.Layout.{field, rule_bytes, condition_bytes, RulesAndConditions, nothing, rule, condition}
use Rattle.meaning.specs.Table.{byte}

-- the rules and conditions that a list of bytes holds
pub record Listed (d : List ℕ) : Type 0 where
  pub rules : List (Rule Occurrence)
  pub conditions : List (Condition Occurrence)
  pub own : RulesAndConditions rules conditions d
  pub constants : (r : Rule Occurrence) → In r rules → Constant r.function
  pub proper : (c : Condition Occurrence) → In c conditions → Proper c

-- where the next field begins
abbrev field_size : List ℕ → ℕ
field_size d = 3 + byte d 2

rule_size_lem : (r : Rule Occurrence) → field_size (field 4 (rule_bytes r)) ≡ length (field 4 (rule_bytes r))
rule_size_lem r = go r.target r.function
  where
    go : (o : Occurrence) (f : Function Occurrence) → field_size (field 4 (rule_bytes (record { target = o; function = f }))) ≡ length (field 4 (rule_bytes (record { target = o; function = f })))
    go o (const c) = refl
    go o (copy a) = refl
    go o (binary f a b) = refl
    go o (addc a c) = refl
    go o (quot a c) = refl

condition_size_lem : (c : Condition Occurrence) → field_size (field 5 (condition_bytes c)) ≡ length (field 5 (condition_bytes c))
condition_size_lem (range o l h) = refl
condition_size_lem (atmost o u none) = refl
condition_size_lem (atmost o u (some c)) = refl

-- a fact of a list of bytes, of the rules and conditions that it holds, and of those behind its first field
abbrev pub Fact : Type 1
Fact = List ℕ → List (Rule Occurrence) → List (Condition Occurrence) → List (Rule Occurrence) → List (Condition Occurrence) → Type 0

-- it holds where the first field is a rule's, and where it is a condition's
pub record OfEach (P : Fact) : Type 0 where
  pub of_rule : (r : Rule Occurrence) (rs : List (Rule Occurrence)) (cs : List (Condition Occurrence)) (bs : List ℕ) → Constant r.function → P (field 4 (rule_bytes r) ++ bs) (r ∷ rs) cs rs cs
  pub of_condition : (c : Condition Occurrence) (rs : List (Rule Occurrence)) (cs : List (Condition Occurrence)) (bs : List ℕ) → Proper c → P (field 5 (condition_bytes c) ++ bs) rs (c ∷ cs) rs cs

-- the fields from `next` on are those behind the field at `at`
pub record Behind (P : Fact) (fields : List ℕ) (at next : ℕ) (x : Listed (drop at fields)) : Type 0 where
  pub later : Listed (drop next fields)
  pub inside : next ≤ length fields
  pub here : P (drop at fields) x.rules x.conditions later.rules later.conditions

module _ {P : Fact} (each : OfEach P) where
  first : {rs : List (Rule Occurrence)} {cs : List (Condition Occurrence)} {d : List ℕ} (own : RulesAndConditions rs cs d)
      (constants : (r : Rule Occurrence) → In r rs → Constant r.function) (proper : (c : Condition Occurrence) → In c cs → Proper c) → 0 < length d
      → (next : Listed (drop (field_size d) d)) × ((field_size d ≤ length d) × P d rs cs next.rules next.conditions)
  first nothing constants proper l = absurd (omega arith)
  first (rule r {rs} {cs} {bs} own) constants proper l =
      let d : List ℕ = field 4 (rule_bytes r) ++ bs in
      let behind : drop (field_size d) d ≡ bs = ap (λ n. drop n d) (rule_size_lem r) ∙ drop-append_seam (field 4 (rule_bytes r)) bs in
      let next : Listed (drop (field_size d) d) = record { rules = rs; conditions = cs; own = subst (λ z. RulesAndConditions rs cs z) (sym behind) own; constants = λ q i. constants q (inr i); proper = proper } in
      (next, (omega (arith, rule_size_lem r, length-append (field 4 (rule_bytes r)) bs), each.of_rule r rs cs bs (constants r (inl refl))))
  first (condition c {rs} {cs} {bs} own) constants proper l =
      let d : List ℕ = field 5 (condition_bytes c) ++ bs in
      let behind : drop (field_size d) d ≡ bs = ap (λ n. drop n d) (condition_size_lem c) ∙ drop-append_seam (field 5 (condition_bytes c)) bs in
      let next : Listed (drop (field_size d) d) = record { rules = rs; conditions = cs; own = subst (λ z. RulesAndConditions rs cs z) (sym behind) own; constants = constants; proper = λ q i. proper q (inr i) } in
      (next, (omega (arith, condition_size_lem c, length-append (field 5 (condition_bytes c)) bs), each.of_condition c rs cs bs (proper c (inl refl))))

  pub field_at_lem : (fields : List ℕ) (at size : ℕ) → at < length fields → size ≡ byte (drop at fields) 2 → (x : Listed (drop at fields)) → Behind P fields at (at + 3 + size) x
  field_at_lem fields at size l e x =
      let d : List ℕ = drop at fields in
      let s = first x.own x.constants x.proper (omega (arith, length-drop at fields)) in
      let next = s.0 in
      let same : at + field_size d ≡ at + 3 + size = omega (arith, e) in
      let there : drop (field_size d) d ≡ drop (at + 3 + size) fields = drop-drop (field_size d) at fields ∙ ap (λ n. drop n fields) same in
      record {
        later = record { rules = next.rules; conditions = next.conditions; own = subst (λ z. RulesAndConditions next.rules next.conditions z) there next.own; constants = next.constants; proper = next.proper };
        inside = omega (arith, s.1.0, length-drop at fields, e);
        here = s.1.1;
      }

-- no field is left
pub none_left : {rs : List (Rule Occurrence)} {cs : List (Condition Occurrence)} {d : List ℕ} → RulesAndConditions rs cs d → length d ≡ 0 → (rs ≡ []) × (cs ≡ [])
none_left nothing l = (refl, refl)
none_left (rule r {rs} {cs} {bs} own) l = absurd (omega (arith, length-append (field 4 (rule_bytes r)) bs))
none_left (condition c {rs} {cs} {bs} own) l = absurd (omega (arith, length-append (field 5 (condition_bytes c)) bs))
