-- Rules for one symbol set different attributes, so there are at most as many as it has attributes.
use Rattle.std.specs.Prelude.{ℕ, zero, suc, ◌≤◌, ◌≡◌, refl, Bool, true, false, not, List, [], ◌∷◌, length, T, eqb}
use Rattle.std.proofs.Common.{arith, sym, ap, ◌∙◌, inl, inr, eqb→eq, T_not}
use Rattle.std.proofs.Math.Dec.{eqb_refl, not_T}
use Rattle.meaning.specs.Base.{In, keep, cons_if}
use Rattle.meaning.specs.Grammar.{Occurrence, Rule}
use Rattle.meaning.specs.Rules.{Distinct}
use Rattle.theory_base.specs.Members.{in_keep}
use Rattle.theory_base.specs.Evaluate.{distinct_keep}

keep_all : {A : Type 0} (f : A → Bool) (xs : List A) → ((x : A) → In x xs → T (f x)) → keep f xs ≡ xs
keep_all f [] h = refl
keep_all f (x ∷ xs) h = go (f x) (h x (inl refl)) (keep_all f xs (λ y i. h y (inr i)))
  where
    go : (b : Bool) → T b → keep f xs ≡ xs → cons_if b x (keep f xs) ≡ x ∷ xs
    go true t e = ap (λ l. x ∷ l) e
    go false t e = absurd t

-- the rules that do not set attribute a
abbrev others : ℕ → Rule Occurrence → Bool
others a r = not (eqb r.target.attribute a)

same_target : (q r : Rule Occurrence) → q.target.position ≡ r.target.position → q.target.attribute ≡ r.target.attribute → q.target ≡ r.target
same_target q r e f = λ i. record { position = e i; attribute = f i }

-- at most one rule sets it
one_less : (k a : ℕ) (rs : List (Rule Occurrence)) → Distinct rs → ((r : Rule Occurrence) → In r rs → r.target.position ≡ k) → length rs ≤ suc (length (keep (others a) rs))
one_less k a [] d h = omega arith
one_less k a (r ∷ rs) d h = go (eqb r.target.attribute a) refl (one_less k a rs d.1 (λ q i. h q (inr i)))
  where
    go : (b : Bool) → eqb r.target.attribute a ≡ b → length rs ≤ suc (length (keep (others a) rs)) → suc (length rs) ≤ suc (length (cons_if (not b) r (keep (others a) rs)))
    go false e ih = omega arith
    go true e ih = rw (keep_all (others a) rs (λ q i. not_T (eqb q.target.attribute a) (λ t. d.0 q i (same_target q r (h q (inr i) ∙ sym (h r (inl refl))) (eqb→eq q.target.attribute a t ∙ sym (eqb→eq r.target.attribute a (rw e tt))))))) (omega arith)

pub rules_few : (k n : ℕ) (rs : List (Rule Occurrence)) → Distinct rs → ((r : Rule Occurrence) → In r rs → (r.target.position ≡ k) × (1 ≤ r.target.attribute) × (r.target.attribute ≤ n)) → length rs ≤ n
rules_few k zero [] d h = omega arith
rules_few k zero (r ∷ rs) d h = let f = h r (inl refl) in absurd (omega (arith, f.1, f.2))
rules_few k (suc n) rs d h =
    let m = rules_few k n (keep (others (suc n)) rs) (distinct_keep (others (suc n)) rs d) (λ r i. few r (in_keep (others (suc n)) rs r i)) in
    omega (arith, m, one_less k (suc n) rs d (λ r i. (h r i).0))
  where
    few : (r : Rule Occurrence) → T (others (suc n) r) × In r rs → (r.target.position ≡ k) × (1 ≤ r.target.attribute) × (r.target.attribute ≤ n)
    few r i =
        let f = h r i.1 in
        let x : r.target.attribute ≡ suc n → ⊥ = λ e. T_not (eqb r.target.attribute (suc n)) i.0 (rw e (eqb_refl (suc n))) in
        (f.0, f.1, omega (arith, f.2))
