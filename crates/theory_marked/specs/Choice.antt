-- Where what comes next leaves one alternative, it is the one that every derivation of the tokens to come takes.
use Rattle.std.specs.Prelude.{ℕ, ◌<◌, ◌≡◌, refl, T}
use Rattle.std.proofs.Common.{arith, sym, ap, ◌∙◌, subst, inl, inr}
use Rattle.std.proofs.Math.Decide.{dec_lt}
use mathlib.Core.List.{List, [], ◌∷◌, ◌++◌, map, nil≢cons, cons≢nil, head-eq_of_cons-eq, tail-eq_of_cons-eq}
use Rattle.meaning.specs.Grammar.{Symbol, terminal, nonterminal, Grammar, production_at, nonterminal_count, Look}
use Rattle.meaning.specs.Derivation.{Derives, Listed, Reachable, Starts, Clash, start_form}
use Rattle.meaning.specs.Sets.{has, starts, look_number}
use Rattle.theory_sets.specs.Accepted.{Sane}
use Rattle.theory_sets.specs.Derivations.{Yields, nothing, same, expand, yields→derives, derives→yields, joined, before}
use Rattle.theory_sets.specs.Looks.{Starts→possible}
use Rattle.theory_sets.specs.StartSets.{starts_is}
use Rattle.meaning_statements.specs.MarkedToken.{Unconditional, OneStart}
use Rattle.theory_marked.specs.Remaining.{look_of}

-- ---- the first symbol of what derives a token string

not_token_lem : {A : Type 0} {n t : ℕ} → nonterminal n ≡ terminal t → A
not_token_lem e = absurd (let z : ◌≡◌ {A = ℕ} 0 1 = cc in omega arith)

same_token : {t u : ℕ} → terminal t ≡ terminal u → t ≡ u
same_token e = cc

same_nonterminal : {n m : ℕ} → nonterminal n ≡ nonterminal m → n ≡ m
same_nonterminal e = cc

pub record Halves (xs ys : List Symbol) (vs : List ℕ) : Type 0 where
  pub first : List ℕ
  pub others : List ℕ
  pub whole : vs ≡ first ++ others
  pub firsts : xs ≡ map terminal first
  pub rests : ys ≡ map terminal others

halves : (xs ys : List Symbol) (vs : List ℕ) → xs ++ ys ≡ map terminal vs → Halves xs ys vs
halves [] ys vs e = record { first = []; others = vs; whole = refl; firsts = refl; rests = e }
halves (x ∷ xs) ys [] e = absurd (cons≢nil e)
halves (x ∷ xs) ys (v ∷ vs) e =
    let r = halves xs ys vs (tail-eq_of_cons-eq e) in
    let h : x ≡ terminal v = head-eq_of_cons-eq e in
    record { first = v ∷ r.first; others = r.others; whole = ap (λ z. v ∷ z) r.whole; firsts = cc (h, r.firsts); rests = r.rests }

-- the production that a derivation of vs from n and xs takes for n
pub record Taken (g : Grammar) (n : ℕ) (xs : List Symbol) (vs : List ℕ) : Type 0 where
  pub production : ℕ
  pub listed : Listed g production
  pub left : (production_at g production).left ≡ n
  pub first : List ℕ
  pub others : List ℕ
  pub whole : vs ≡ first ++ others
  pub firsts : Derives g (production_at g production).right (map terminal first)
  pub rests : Derives g xs (map terminal others)

module _ {g : Grammar} where
  taken_by : {ws zs : List Symbol} → Yields g ws zs → (n : ℕ) (xs : List Symbol) (vs : List ℕ) → ws ≡ nonterminal n ∷ xs → zs ≡ map terminal vs → Taken g n xs vs
  taken_by nothing n xs vs e f = absurd (nil≢cons e)
  taken_by (same x d) n xs [] e f = absurd (cons≢nil f)
  taken_by (same x d) n xs (v ∷ vs) e f = not_token_lem (sym (head-eq_of_cons-eq e) ∙ head-eq_of_cons-eq f)
  taken_by (expand p {xs = us} {zs} {ys} l d d') n xs vs e f =
      let r = halves zs ys vs f in
      record {
        production = p;
        listed = l;
        left = same_nonterminal (head-eq_of_cons-eq e);
        first = r.first;
        others = r.others;
        whole = r.whole;
        firsts = subst (λ z. Derives g (production_at g p).right z) r.firsts (yields→derives d);
        rests = subst (λ z. Derives g z (map terminal r.others)) (tail-eq_of_cons-eq e) (subst (λ z. Derives g us z) r.rests (yields→derives d'));
      }

  pub taken : (n : ℕ) (xs : List Symbol) (vs : List ℕ) → Derives g (nonterminal n ∷ xs) (map terminal vs) → Taken g n xs vs
  taken n xs vs d = taken_by (derives→yields d) n xs vs refl refl

  -- a terminal stays
  read_by : {ws zs : List Symbol} → Yields g ws zs → (t : ℕ) (xs : List Symbol) (vs : List ℕ) → ws ≡ terminal t ∷ xs → zs ≡ map terminal vs → (us : List ℕ) × (vs ≡ t ∷ us) × Derives g xs (map terminal us)
  read_by nothing t xs vs e f = absurd (nil≢cons e)
  read_by (same x d) t xs [] e f = absurd (cons≢nil f)
  read_by (same x {xs = us} {ys} d) t xs (v ∷ vs) e f =
      let h : v ≡ t = same_token (sym (head-eq_of_cons-eq f) ∙ head-eq_of_cons-eq e) in
      (vs, ap (λ z. z ∷ vs) h, subst (λ z. Derives g z (map terminal vs)) (tail-eq_of_cons-eq e) (subst (λ z. Derives g us z) (tail-eq_of_cons-eq f) (yields→derives d)))
  read_by (expand p l d d') t xs vs e f = not_token_lem (head-eq_of_cons-eq e)

  pub read : (t : ℕ) (xs : List Symbol) (vs : List ℕ) → Derives g (terminal t ∷ xs) (map terminal vs) → (us : List ℕ) × (vs ≡ t ∷ us) × Derives g xs (map terminal us)
  read t xs vs d = read_by (derives→yields d) t xs vs refl refl

  none_by : {ws zs : List Symbol} → Yields g ws zs → (vs : List ℕ) → ws ≡ [] → zs ≡ map terminal vs → vs ≡ []
  none_by d [] e f = refl
  none_by nothing (v ∷ vs) e f = absurd (nil≢cons f)
  none_by (same x d) (v ∷ vs) e f = absurd (cons≢nil e)
  none_by (expand p l d d') (v ∷ vs) e f = absurd (cons≢nil e)

  pub none : (vs : List ℕ) → Derives g [] (map terminal vs) → vs ≡ []
  none vs d = none_by (derives→yields d) vs refl refl

-- ---- the one alternative

module _ {g : Grammar} where
  starts_of_lem : (p : ℕ) (xs us : List ℕ) (b : List Symbol) → Derives g (production_at g p).right (map terminal xs) → Derives g (start_form g) (b ++ (nonterminal (production_at g p).left ∷ map terminal us)) → Starts g p (look_of (xs ++ us))
  starts_of_lem p (u ∷ xs) us b d c = inl (map terminal xs, d)
  starts_of_lem p [] (u ∷ us) b d c = inr (d, (b, map terminal us, c))
  starts_of_lem p [] [] b d c = (d, (b, c))

  -- what is taken is an alternative of what comes next
  pub taken_starts : (n : ℕ) (xs : List Symbol) (vs : List ℕ) (b : List Symbol) → Derives g (start_form g) (b ++ (nonterminal n ∷ xs)) → (r : Taken g n xs vs) → Starts g r.production (look_of vs)
  taken_starts n xs vs b c r =
      let d : Derives g (start_form g) (b ++ (nonterminal n ∷ map terminal r.others)) = joined c (before b (before (nonterminal n ∷ []) r.rests)) in
      let d' : Derives g (start_form g) (b ++ (nonterminal (production_at g r.production).left ∷ map terminal r.others)) = subst (λ m. Derives g (start_form g) (b ++ (nonterminal m ∷ map terminal r.others))) (sym r.left) d in
      subst (λ z. Starts g r.production (look_of z)) (sym r.whole) (starts_of_lem r.production r.first r.others b r.firsts d')

module _ {g : Grammar} (s : Sane g) where
  -- clashes are refused, so without entry conditions no two sets meet
  clashes : Unconditional g → (l : Look) (p q : ℕ) → Listed g p → (production_at g p).left ≡ (production_at g q).left → Starts g p l → Starts g q l → Clash g p q
  clashes plain l p q k e a b = record { left = e; meet = (l, a, b); enter = inl (rw (plain p k) tt) }

  pub unconditional_starts : Unconditional g → OneStart g
  unconditional_starts plain l p q lp lq e a b = go (dec_lt p q) (dec_lt q p)
    where
      go : Dec (p < q) → Dec (q < p) → p ≡ q
      go (yes k) x = absurd (s.clashless q lq (p, k, clashes plain l q p lq (sym e) b a))
      go (no k) (yes m) = absurd (s.clashless p lp (q, m, clashes plain l p q lp e a b))
      go (no k) (no m) = omega arith

  pub only : OneStart g → (l : Look) (p q : ℕ) → Listed g p → Listed g q → (production_at g p).left ≡ (production_at g q).left → T (has (starts g (production_at g p)) (look_number l)) → Starts g q l → p ≡ q
  only one l p q lp lq e h b = one l p q lp lq e a b
    where
      reached : (n : ℕ) → n < nonterminal_count g → Reachable g n
      reached n k = (s.useful n k).0

      a : Starts g p l
      a = (starts_is s.formed reached p l lp).0 (Starts→possible s.formed q l lq b, h)
