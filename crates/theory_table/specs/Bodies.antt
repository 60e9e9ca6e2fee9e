-- The body of each field that passes, as the bytes of what it says.
use Rattle.std.specs.Prelude.{ℕ, ◌+◌, ◌*◌, ◌≤◌, ◌<◌, ◌≡◌, refl, ◌⊎◌, Bool, not, ◌&&◌, ◌||◌, List, [], ◌∷◌, ◌++◌, map, length, drop, pos, T, eqb, ltb, leb}
use Rattle.std.proofs.Common.{arith, sym, ap, ap₂, ◌∙◌, inl, inr, eqb→eq, leb→le, ltb→lt}
use Rattle.std.proofs.lemmas.List.{length-map}
use Rattle.std.specs.Int.Signed.{le_z}
use Rattle.meaning.specs.Limits.{rules_limit, conditions_limit, attributes_limit, nonterminals_limit, productions_limit, symbols_limit, terminals_limit, divisor_limit}
use Rattle.meaning.specs.Base.{all}
use Rattle.meaning.specs.Layout.{field, symbol_byte, rule_bytes, condition_bytes, Bytes}
use Rattle.meaning.specs.Table.{State, production, rule, condition, byte, within, symbol_of, rule_of, condition_of, rule_length, condition_length, constant_at, operands, reads, occurrence_known, current}
use Rattle.theory_base.specs.Members.{both, or_cases, in_left, in_right}
use Rattle.theory_table.specs.Reading.{Faultless}
use Rattle.theory_table.specs.Numbers.{high_byte, low_byte, bytes_back, rule_bytes_lem, condition_bytes_lem, listed}

-- a field read is the field of its body
pub field_is : (t high low : ℕ) (body b rest : List ℕ) → low < 256 → high * 256 + low ≡ length body → body ≡ b → t ∷ high ∷ low ∷ body ++ rest ≡ field t b ++ rest
field_is t high low body b rest l e q = ap₂ (λ x y. t ∷ x ∷ y ∷ body ++ rest) (high_byte high low (length body) l e) (low_byte high low (length body) l e) ∙ ap (λ z. field t z ++ rest) q

module _ (t high low : ℕ) (body rest : List ℕ) (h : Bytes (t ∷ high ∷ low ∷ body ++ rest)) where
  pub low_small : low < 256
  low_small = h low (inr (inr (inl refl)))

  pub body_bytes : Bytes body
  body_bytes x i = h x (inr (inr (inr (in_left x body rest i))))

  pub rest_bytes : Bytes rest
  rest_bytes x i = h x (inr (inr (inr (in_right x body rest i))))

pub rule_body : (s : State) (b : List ℕ) → Bytes b → Faultless s rule b → b ≡ rule_bytes (rule_of b)
rule_body s b h p =
    let n = leb→le (byte b 2) 8 (both (leb (byte b 2) 8) (occurrence_known s (current s) (rule_of b).target) (both (leb (byte b 2) 8 && occurrence_known s (current s) (rule_of b).target) (all (occurrence_known s (current s)) (operands (rule_of b).function)) p.named).0).0 in
    rule_bytes_lem b h n (go n (or_cases (ltb 8 (byte b 2)) (eqb (length b) (rule_length (byte b 2))) fits))
  where
    right : Bool
    right = ltb 8 (byte b 2) || eqb (length b) (rule_length (byte b 2))

    divides : Bool
    divides = not (eqb (byte b 2) 8) || (le_z (pos 1) (constant_at b 5) && le_z (constant_at b 5) (pos divisor_limit))

    fits : T right
    fits = (both (leb 3 (length b) && ltb s.rules rules_limit) right (both (leb 3 (length b) && ltb s.rules rules_limit && right) divides p.limits).0).1

    go : byte b 2 ≤ 8 → T (ltb 8 (byte b 2)) ⊎ T (eqb (length b) (rule_length (byte b 2))) → length b ≡ rule_length (byte b 2)
    go n (inl t) = absurd (omega (arith, ltb→lt 8 (byte b 2) t))
    go n (inr t) = eqb→eq (length b) (rule_length (byte b 2)) t

pub condition_body : (s : State) (b : List ℕ) → Bytes b → Faultless s condition b → b ≡ condition_bytes (condition_of b)
condition_body s b h p =
    let n = leb→le (byte b 0) 2 (both (leb (byte b 0) 2) (all (occurrence_known s (current s)) (reads (condition_of b))) p.named).0 in
    condition_bytes_lem b h n (go n (or_cases (ltb 2 (byte b 0)) (eqb (length b) (condition_length (byte b 0))) (both (leb 1 (length b) && ltb s.conditions conditions_limit) (ltb 2 (byte b 0) || eqb (length b) (condition_length (byte b 0))) p.limits).1))
  where
    go : byte b 0 ≤ 2 → T (ltb 2 (byte b 0)) ⊎ T (eqb (length b) (condition_length (byte b 0))) → length b ≡ condition_length (byte b 0)
    go n (inl t) = absurd (omega (arith, ltb→lt 2 (byte b 0) t))
    go n (inr t) = eqb→eq (length b) (condition_length (byte b 0)) t

-- the body of a production: left side, length, symbols
pub production_length : (s : State) (b : List ℕ) → Faultless s production b → length b ≡ 2 + byte b 1
production_length s b p = eqb→eq (length b) (2 + byte b 1) (both (leb 2 (length b) && leb (byte b 1) symbols_limit) (eqb (length b) (2 + byte b 1)) (both (leb 2 (length b) && leb (byte b 1) symbols_limit && eqb (length b) (2 + byte b 1)) (ltb (length s.entries) productions_limit) p.limits).0).1

pub production_body : (b : List ℕ) → length b ≡ 2 + byte b 1 → b ≡ byte b 0 ∷ length (map symbol_of (drop 2 b)) ∷ map symbol_byte (map symbol_of (drop 2 b))
production_body [] e = absurd (omega arith)
production_body (x ∷ []) e = absurd (omega arith)
production_body (x ∷ y ∷ b) e = ap₂ (λ n zs. x ∷ n ∷ zs) (omega (arith, length-map b symbol_of)) (sym (bytes_back b))

-- the bodies of a carrier, of counts and of the header
pub carrier_body : (b : List ℕ) → T (eqb (length b) 1) → b ≡ byte b 0 ∷ []
carrier_body b t = listed 1 b (eqb→eq (length b) 1 t)

pub counts_body : (b : List ℕ) → T (eqb (length b) 2 && leb (byte b 0 + byte b 1) attributes_limit) → b ≡ byte b 0 ∷ byte b 1 ∷ []
counts_body b t = listed 2 b (eqb→eq (length b) 2 (both (eqb (length b) 2) (leb (byte b 0 + byte b 1) attributes_limit) t).0)

pub header_body : (b : List ℕ) → T (eqb (length b) 4 && within 1 (byte b 0) terminals_limit && within 1 (byte b 1) nonterminals_limit) → b ≡ byte b 0 ∷ byte b 1 ∷ byte b 2 ∷ byte b 3 ∷ []
header_body b t = listed 4 b (eqb→eq (length b) 4 (both (eqb (length b) 4) (within 1 (byte b 0) terminals_limit) (both (eqb (length b) 4 && within 1 (byte b 0) terminals_limit) (within 1 (byte b 1) nonterminals_limit) t).0).0)
