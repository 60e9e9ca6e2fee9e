-- The search along the program's words finds the production that the machine predicts: the directory and the next-words lead through the productions of a nonterminal in their order.
use Rattle.std.specs.Prelude.{ℕ, zero, suc, ◌+◌, ◌-◌, ◌*◌, ◌/◌, ◌≤◌, ◌<◌, ◌≡◌, refl, ◌↔◌, Bool, true, false, ◌&&◌, cond, List, [], ◌∷◌, length, get_or, drop, T, eqb, ℤ}
use Rattle.std.proofs.Common.{arith, sym, ap, ◌∙◌, subst, length-drop, get_or-drop, eqb→eq}
use Rattle.std.proofs.Math.Dec.{eqb_refl}
use Rattle.meaning.specs.Base.{keep, cons_if, count_from, is_empty}
use Rattle.meaning.specs.Grammar.{Production, Grammar, production_at, whole_production, Look}
use Rattle.meaning.specs.Rules.{WellFormed}
use Rattle.meaning.specs.Sets.{has, starts, look_number}
use Rattle.meaning.specs.Machine.{is_of, alternatives, entered}
use Rattle.meaning.specs.Scheme.{entry_tests}
use Rattle.meaning.specs.Program.{first_of, first_alternative, entry_of, scheme_address}
use Rattle.theory_base.specs.Members.{T→true, true→T, both}
use Rattle.theory_base.specs.WellFormed.{listed_at}
use Rattle.theory_sets.specs.Alternatives.{keep_keep}
use Rattle.theory_program.specs.Parts.{directory_step, directory_number, directory_scheme}

-- ---- the first of some numbers, plus 1, or 0

abbrev pub first_number : List ℕ → ℕ
first_number [] = 0
first_number (p ∷ ps) = suc p

pub first_none : (xs : List ℕ) → (first_number xs ≡ 0) ↔ (is_empty xs ≡ true)
first_none [] = ((λ e. refl), (λ e. refl))
first_none (x ∷ xs) = ((λ e. absurd (omega arith)), (λ e. let z : ◌≡◌ {A = ℕ} 0 1 = cc in absurd (omega arith)))

pub first_some : (xs : List ℕ) (p : ℕ) → (first_number xs ≡ suc p) ↔ ((ps : List ℕ) × (xs ≡ p ∷ ps))
first_some [] p = ((λ e. absurd (omega arith)), (λ h. let e = h.1 in let z : ◌≡◌ {A = ℕ} 0 1 = cc in absurd (omega arith)))
first_some (x ∷ xs) p = ((λ e. let h : x ≡ p = omega arith in (xs, ap (λ y. y ∷ xs) h)), (λ h. ap first_number h.1))

-- the first of i, i + 1, .., n of them, that passes a test
abbrev pub first_from : (ℕ → Bool) → ℕ → ℕ → ℕ
first_from f i n = first_number (keep f (count_from i n))

first_kept : (b : Bool) (i : ℕ) (xs : List ℕ) → first_number (cons_if b i xs) ≡ cond b (suc i) (first_number xs)
first_kept true i xs = refl
first_kept false i xs = refl

pub first_passes : (f : ℕ → Bool) (i n q : ℕ) → first_from f i n ≡ suc q → (i ≤ q) × (q < i + n) × T (f q)
first_passes f i zero q e = absurd (omega arith)
first_passes f i (suc n) q e = go (f i) refl (sym (first_kept (f i) i (keep f (count_from (suc i) n))) ∙ e) (λ h. first_passes f (suc i) n q h)
  where
    go : (b : Bool) → f i ≡ b → cond b (suc i) (first_from f (suc i) n) ≡ suc q → (first_from f (suc i) n ≡ suc q → (suc i ≤ q) × (q < suc i + n) × T (f q)) → (i ≤ q) × (q < i + suc n) × T (f q)
    go true t h ih = let z : q ≡ i = omega arith in (omega arith, omega arith, subst (λ k. T (f k)) (sym z) (rw t tt))
    go false t h ih = let r = ih h in (omega (arith, r.0), omega (arith, r.1), r.2)

-- from a number plus 1 on, below m; 0 leads nowhere
abbrev pub resumed : (ℕ → Bool) → ℕ → ℕ → ℕ
resumed f m zero = 0
resumed f m (suc q) = first_from f q (m - q)

-- a test that implies another may begin at the other's first
first_skips : (f c : ℕ → Bool) → ((k : ℕ) → T (f k) → T (c k)) → (i n : ℕ) → first_from f i n ≡ resumed f (i + n) (first_from c i n)
first_skips f c h i zero = refl
first_skips f c h i (suc n) = rw (first_kept (c i) i (keep c (count_from (suc i) n))) (go (c i) refl (first_skips f c h (suc i) n))
  where
    go : (b : Bool) → c i ≡ b → first_from f (suc i) n ≡ resumed f (suc i + n) (first_from c (suc i) n) → first_from f i (suc n) ≡ resumed f (i + suc n) (cond b (suc i) (first_from c (suc i) n))
    go true e ih = let z : suc n ≡ i + suc n - i = omega arith in ap (first_from f i) z
    go false e ih =
        let z : suc i + n ≡ i + suc n = omega arith in
        first_kept (f i) i (keep f (count_from (suc i) n)) ∙ (ap (λ b. cond b (suc i) (first_from f (suc i) n)) (fails (f i) (h i)) ∙ subst (λ m. first_from f (suc i) n ≡ resumed f m (first_from c (suc i) n)) z ih)
      where
        fails : (b : Bool) → (T b → T (c i)) → b ≡ false
        fails true k = absurd (rw e at (k tt))
        fails false k = refl

-- ---- the words of the directory and of the records

first_numbered : (f : Production → Bool) (h : ℕ → Bool) (i : ℕ) (ps : List Production) (d : Production) → ((k : ℕ) → k < length ps → h (i + k) ≡ f (get_or ps k d)) → first_of f i ps ≡ first_from h i (length ps)
first_numbered f h i [] d e = refl
first_numbered f h i (p ∷ ps) d e =
    let here : h i ≡ f p = ap h (omega arith) ∙ e 0 (omega arith) in
    let later = first_numbered f h (suc i) ps d (λ k l. ap h (omega arith) ∙ e (suc k) (omega arith)) in
    go (f p) later ∙ (ap (λ b. cond b (suc i) (first_from h (suc i) (length ps))) (sym here) ∙ sym (first_kept (h i) i (keep h (count_from (suc i) (length ps)))))
  where
    go : (b : Bool) → first_of f (suc i) ps ≡ first_from h (suc i) (length ps) → ◌≡◌ {A = ℕ} (elim b [ true ↦ suc i | false ↦ first_of f (suc i) ps ]) (cond b (suc i) (first_from h (suc i) (length ps)))
    go true q = refl
    go false q = q

-- word 1 of a record: the next production of the same left side, its number plus 1, or 0
abbrev pub next_word : Grammar → ℕ → ℕ
next_word g p = first_of (λ q. eqb q.left (production_at g p).left) (suc p) (drop (suc p) g.productions)

abbrev is_left : Grammar → ℕ → ℕ → Bool
is_left g n k = eqb (production_at g k).left n

module _ (g : Grammar) (w : WellFormed g) where
  first_listed : (f : Production → Bool) (i : ℕ) → first_of f i (drop i g.productions) ≡ first_from (λ k. f (production_at g k)) i (length g.productions - i)
  first_listed f i =
      first_numbered f (λ k. f (production_at g k)) i (drop i g.productions) (whole_production g)
      (λ k l. ap f (listed_at g w (i + k) (omega (arith, length-drop i g.productions)) ∙ sym (get_or-drop i g.productions k (whole_production g))))
      ∙ ap (first_from (λ k. f (production_at g k)) i) (length-drop i g.productions)

  -- the directory names the first alternative
  pub directory_is : (n : ℕ) (look : Look) → first_alternative g n (look_number look) ≡ first_number (alternatives g n look)
  directory_is n look =
      let z : length g.productions - 0 ≡ length g.productions = omega arith in
      first_listed (λ p. eqb p.left n && has (starts g p) (look_number look)) 0 ∙ ap (first_from (is_of g n look) 0) z

  pub directory_none : (n : ℕ) (look : Look) → (first_alternative g n (look_number look) ≡ 0) ↔ (is_empty (alternatives g n look) ≡ true)
  directory_none n look =
      let k = first_none (alternatives g n look) in
      let e = directory_is n look in
      ((λ h. k.0 (sym e ∙ h)), (λ h. e ∙ k.1 h))

  pub directory_listed : (n : ℕ) (look : Look) (p : ℕ) → first_alternative g n (look_number look) ≡ suc p → (p < length g.productions) × ((production_at g p).left ≡ n) × T (has (starts g (production_at g p)) (look_number look))
  directory_listed n look p e =
      let h = first_passes (is_of g n look) 0 (length g.productions) p (sym (directory_is n look) ∙ e) in
      let k = both (is_left g n p) (has (starts g (production_at g p)) (look_number look)) h.2 in
      (omega (arith, h.1), eqb→eq (production_at g p).left n k.0, k.1)

  next_is : (p : ℕ) → next_word g p ≡ first_from (is_left g (production_at g p).left) (suc p) (length g.productions - suc p)
  next_is p = first_listed (λ q. eqb q.left (production_at g p).left) (suc p)

  -- next-words lead upwards, and stay with the nonterminal
  pub next_listed : (p q : ℕ) → p < length g.productions → next_word g p ≡ suc q → (p < q) × (q < length g.productions) × ((production_at g q).left ≡ (production_at g p).left)
  next_listed p q l e =
      let h = first_passes (is_left g (production_at g p).left) (suc p) (length g.productions - suc p) q (sym (next_is p) ∙ e) in
      (h.0, omega (arith, h.1), eqb→eq (production_at g q).left (production_at g p).left h.2)

-- ---- what the directory says of a production

pub entry_number : (g : Grammar) (k : ℕ) → k < 256 → directory_number (entry_of g k) ≡ k
entry_number g zero l = refl
entry_number g (suc p) l = let x : ℕ = cond (eqb (length (entry_tests g (production_at g p))) 0) (scheme_address g p) 0 in omega (arith, l)

-- where its scheme begins, if it has no entry tests
pub entry_high : (g : Grammar) (k : ℕ) → k < 256 → directory_step ≤ entry_of g k → (q : ℕ) × (k ≡ suc q) × (length (entry_tests g (production_at g q)) ≡ 0) × (directory_scheme (entry_of g k) ≡ scheme_address g q)
entry_high g zero l h = absurd (omega arith)
entry_high g (suc p) l h = go (eqb tests 0) refl h
  where
    tests : ℕ
    tests = length (entry_tests g (production_at g p))

    go : (b : Bool) → eqb tests 0 ≡ b → 256 ≤ suc p + 256 * cond b (scheme_address g p) 0 → (q : ℕ) × (suc p ≡ suc q) × (length (entry_tests g (production_at g q)) ≡ 0) × (entry_of g (suc p) / 256 ≡ scheme_address g q)
    go true e m =
        let a : ℕ = scheme_address g p in
        let z : directory_scheme (suc p + 256 * a) ≡ a = omega (arith, l) in
        (p, refl, eqb→eq tests 0 (true→T (eqb tests 0) e), ap (λ b. directory_scheme (suc p + 256 * cond b a 0)) e ∙ z)
    go false e m = absurd (omega (arith, l, m))

-- ---- the search

-- of a production of the nonterminal expected: its set holds what comes next and its entry tests hold
abbrev pub passes : Grammar → List ℤ → Look → ℕ → Bool
passes g rs look p = has (starts g (production_at g p)) (look_number look) && entered g rs p

-- what the search finds from a word on: the first production from there on that the machine may enter
abbrev pub found : Grammar → List ℤ → ℕ → Look → ℕ → ℕ
found g rs n look d = resumed (λ k. is_of g n look k && entered g rs k) (length g.productions) d

module _ (g : Grammar) (w : WellFormed g) (rs : List ℤ) (n : ℕ) (look : Look) where
  abbrev wanted : ℕ → Bool
  wanted k = is_of g n look k && entered g rs k

  abbrev holding : ℕ → Bool
  holding k = has (starts g (production_at g k)) (look_number look)

  wanted_is : (p : ℕ) → (production_at g p).left ≡ n → wanted p ≡ passes g rs look p
  wanted_is p e = ap (λ b. (b && holding p) && entered g rs p) (T→true (is_left g n p) (subst (λ m. T (eqb (production_at g p).left m)) e (eqb_refl (production_at g p).left)))

  found_at : (p : ℕ) → p < length g.productions → (production_at g p).left ≡ n → found g rs n look (suc p) ≡ cond (passes g rs look p) (suc p) (found g rs n look (next_word g p))
  found_at p l e =
      let m = length g.productions in
      let z : m - p ≡ suc (m - suc p) = omega arith in
      let y : suc p + (m - suc p) ≡ m = omega arith in
      let skips = first_skips wanted (is_left g n) (λ k t. (both (is_left g n k) (holding k) (both (is_of g n look k) (entered g rs k) t).0).0) (suc p) (m - suc p) in
      let next : first_from (is_left g n) (suc p) (m - suc p) ≡ next_word g p = subst (λ r. first_from (is_left g r) (suc p) (m - suc p) ≡ next_word g p) e (sym (next_is g w p)) in
      ap (first_from wanted p) z
      ∙ (first_kept (wanted p) p (keep wanted (count_from (suc p) (m - suc p)))
      ∙ (ap (λ b. cond b (suc p) (first_from wanted (suc p) (m - suc p))) (wanted_is p e)
      ∙ ap (cond (passes g rs look p) (suc p)) (skips ∙ (ap (λ k. resumed wanted k (first_from (is_left g n) (suc p) (m - suc p))) y ∙ ap (resumed wanted m) next))))

  -- start, turn and stop of the search
  pub found_start : found g rs n look (first_alternative g n (look_number look)) ≡ first_number (keep (entered g rs) (alternatives g n look))
  found_start =
      let m = length g.productions in
      let z : 0 + m ≡ m = omega arith in
      let skips = first_skips wanted (is_of g n look) (λ k t. (both (is_of g n look k) (entered g rs k) t).0) 0 m in
      sym (ap first_number (keep_keep (is_of g n look) (entered g rs) (count_from 0 m)) ∙ (skips ∙ (ap (λ k. resumed wanted k (first_from (is_of g n look) 0 m)) z ∙ ap (resumed wanted m) (sym (directory_is g w n look)))))

  pub found_turn : (p : ℕ) → p < length g.productions → (production_at g p).left ≡ n → passes g rs look p ≡ false → found g rs n look (suc p) ≡ found g rs n look (next_word g p)
  found_turn p l e h = found_at p l e ∙ ap (λ b. cond b (suc p) (found g rs n look (next_word g p))) h

  pub found_stop : (p : ℕ) → p < length g.productions → (production_at g p).left ≡ n → passes g rs look p ≡ true → found g rs n look (suc p) ≡ suc p
  found_stop p l e h = found_at p l e ∙ ap (λ b. cond b (suc p) (found g rs n look (next_word g p))) h
