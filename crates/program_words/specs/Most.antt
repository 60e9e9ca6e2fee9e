-- One production has at most 104 rules, 8 for each of 13 positions, and 512 conditions; each takes eight bytes of the table.
use Rattle.std.specs.Prelude.{ℕ, zero, suc, ◌+◌, ◌*◌, ◌≤◌, ◌<◌, ◌≡◌, refl, Bool, true, false, not, List, [], ◌∷◌, length, T, eqb}
use Rattle.std.proofs.Common.{arith, inl, length-append, eqb→eq, T_not}
use Rattle.std.proofs.Math.Dec.{eqb_refl}
use Rattle.meaning.specs.Limits.{attributes_limit, positions_limit, symbols_limit}
use Rattle.meaning.specs.Base.{In, keep, cons_if}
use Rattle.meaning.specs.Grammar.{nonterminal, Occurrence, Rule, Condition, Production, Grammar, symbol_at}
use Rattle.meaning.specs.Rules.{OutputAt, Distinct, WellFormed}
use Rattle.meaning.specs.Layout.{field, rule_bytes, condition_bytes, RulesAndConditions, nothing, rule, condition}
use Rattle.theory_base.specs.Members.{in_keep}
use Rattle.theory_base.specs.Evaluate.{distinct_keep}
use Rattle.theory_program.specs.Proper.{att_most}
use Rattle.theory_program.specs.RuleCounts.{rules_few}
use Rattle.program_block_words.specs.Items.{rule_whole, condition_whole}

-- those of a kind and the others
keep_split : {A : Type 0} (f : A → Bool) (xs : List A) → length xs ≡ length (keep f xs) + length (keep (λ x. not (f x)) xs)
keep_split f [] = refl
keep_split f (x ∷ xs) = go (f x) (keep_split f xs)
  where
    go : (b : Bool) → length xs ≡ length (keep f xs) + length (keep (λ x. not (f x)) xs) → suc (length xs) ≡ length (cons_if b x (keep f xs)) + length (cons_if (not b) x (keep (λ x. not (f x)) xs))
    go true h = omega arith
    go false h = omega arith

abbrev here_at : ℕ → Rule Occurrence → Bool
here_at n r = eqb r.target.position n

rules_below : (n : ℕ) (rs : List (Rule Occurrence)) → Distinct rs → ((r : Rule Occurrence) → In r rs → (r.target.position < n) × (1 ≤ r.target.attribute) × (r.target.attribute ≤ attributes_limit)) → length rs ≤ attributes_limit * n
rules_below zero [] d h = omega arith
rules_below zero (r ∷ rs) d h = absurd (omega (arith, (h r (inl refl)).0))
rules_below (suc n) rs d h =
    let at = rules_few n attributes_limit (keep (here_at n) rs) (distinct_keep (here_at n) rs d) (λ r i. own r (in_keep (here_at n) rs r i)) in
    let below = rules_below n (keep (λ r. not (here_at n r)) rs) (distinct_keep (λ r. not (here_at n r)) rs d) (λ r i. other r (in_keep (λ q. not (here_at n q)) rs r i)) in
    omega (arith, keep_split (here_at n) rs, at, below)
  where
    own : (r : Rule Occurrence) → T (here_at n r) × In r rs → (r.target.position ≡ n) × (1 ≤ r.target.attribute) × (r.target.attribute ≤ attributes_limit)
    own r i = let f = h r i.1 in (eqb→eq r.target.position n i.0, f.1, f.2)

    other : (r : Rule Occurrence) → T (not (here_at n r)) × In r rs → (r.target.position < n) × (1 ≤ r.target.attribute) × (r.target.attribute ≤ attributes_limit)
    other r i =
        let f = h r i.1 in
        let m : r.target.position ≡ n → ⊥ = λ e. T_not (here_at n r) i.0 (rw e (eqb_refl n)) in
        (omega (arith, f.0), f.1, f.2)

module _ (g : Grammar) (w : WellFormed g) (p : Production) where
  output_small : length p.right ≤ symbols_limit → (i a : ℕ) → OutputAt g p i a → (i < positions_limit) × (1 ≤ a) × (a ≤ attributes_limit)
  output_small s zero a o = (omega arith, omega (arith, o.0), omega (arith, o.1, att_most g w (nonterminal p.left)))
  output_small s (suc i) a o = (omega (arith, o.0), o.1, omega (arith, o.2, att_most g w (symbol_at p (suc i))))

  pub rules_most : In p g.productions → length p.rules ≤ 104
  rules_most i =
      let f = w.each p i in
      omega (arith, rules_below positions_limit p.rules f.distinct (λ r j. output_small f.short r.target.position r.target.attribute (f.targets r j)))

-- each takes eight bytes of the table at least
pub fields_long : {rs : List (Rule Occurrence)} {cs : List (Condition Occurrence)} {d : List ℕ} → RulesAndConditions rs cs d → 8 * (length rs + length cs) ≤ length d
fields_long nothing = omega arith
fields_long (rule r {rs} {cs} {bs} own) = omega (arith, fields_long own, length-append (field 4 (rule_bytes r)) bs, (rule_whole r []).target, length-append (field 4 (rule_bytes r)) [])
fields_long (condition c {rs} {cs} {bs} own) = omega (arith, fields_long own, length-append (field 5 (condition_bytes c)) bs, (condition_whole c []).first, length-append (field 5 (condition_bytes c)) [])
