-- The leaders: one more value, the oldest gone, the largest by a scan, and a walk from the newest.
use Rattle.std.specs.Prelude.{ℕ, zero, suc, ◌-◌, ◌≤◌, ◌<◌, ◌≡◌, refl, Bool, true, false, ◌&&◌, not, cond, length, get_or, set, eqb, ltb, ℤ, pos, negsuc}
use Rattle.std.proofs.Common.{arith, sym, ap, ap₂, ◌∙◌, ne_eqb, eq-eqb, eqb-true, ltb-true, ltb-false, lt-ltb, drop_of_length-le, get_or-set_same, get_or-set_other}
use Rattle.std.proofs.Math.Bool.{and-true, and_assoc}
use mathlib.Core.List.{List, [], ◌∷◌, ◌++◌, map, reverse, reverse-append, reverse-reverse, reverse-cons, append-nil}
use Rattle.std.proofs.lemmas.Bool.{eqb-false, not-true}
use Rattle.std.specs.Int.Signed.{lt_z}
use Rattle.meaning.specs.Base.{all, keep, count_from, cons_if}
use Rattle.meaning.specs.Value.{in_range, mark}
use Rattle.meaning_window.specs.Window.{larger, largest, leads, leaders_of, order, after, value_at, turned}
use Rattle.value.specs.Overflow.{in_range_size}
use Rattle.theory_base.specs.Members.{length_count_from, all_mapped}
use Rattle.theory_window.specs.Lists.{both, and_left, and_right, map_reverse}
use Rattle.theory_window.specs.Ring.{length_turned, grown, staying, order_push, order_room, order_full, staying_others, values_order}
use Rattle.theory_window.specs.Parts.{values_of}

-- ---- orders

pub lt_lt : (a b c : ℤ) → lt_z a b ≡ true → lt_z b c ≡ true → lt_z a c ≡ true
lt_lt (pos a) (pos b) (pos c) p q = lt-ltb a c (omega (arith, ltb-true a b p, ltb-true b c q))
lt_lt (pos a) (pos b) (negsuc c) p q = q
lt_lt (pos a) (negsuc b) c p q = absurd (let z : ◌≡◌ {A = ℕ} 0 1 = cc in omega arith)
lt_lt (negsuc a) b (pos c) p q = refl
lt_lt (negsuc a) (pos b) (negsuc c) p q = absurd (let z : ◌≡◌ {A = ℕ} 0 1 = cc in omega arith)
lt_lt (negsuc a) (negsuc b) (negsuc c) p q = lt-ltb c a (omega (arith, ltb-true b a p, ltb-true c b q))

-- a is at most b, b below c
pub le_lt : (a b c : ℤ) → lt_z b a ≡ false → lt_z b c ≡ true → lt_z a c ≡ true
le_lt (pos a) (pos b) (pos c) p q = lt-ltb a c (omega (arith, ltb-false b a p, ltb-true b c q))
le_lt (pos a) (pos b) (negsuc c) p q = q
le_lt (pos a) (negsuc b) c p q = absurd (let z : ◌≡◌ {A = ℕ} 0 1 = cc in omega arith)
le_lt (negsuc a) b (pos c) p q = refl
le_lt (negsuc a) (pos b) (negsuc c) p q = absurd (let z : ◌≡◌ {A = ℕ} 0 1 = cc in omega arith)
le_lt (negsuc a) (negsuc b) (negsuc c) p q = lt-ltb c a (omega (arith, ltb-false a b p, ltb-true c b q))

larger_below : (v m y : ℤ) → (lt_z v y && lt_z m y) ≡ lt_z (larger v m) y
larger_below v m y = by (lt_z m v) refl (lt_z v y) refl (lt_z m y) refl
  where
    by : (b : Bool) → lt_z m v ≡ b → (p : Bool) → lt_z v y ≡ p → (q : Bool) → lt_z m y ≡ q → (p && q) ≡ lt_z (cond b v m) y
    by true e true f true g = sym f
    by true e true f false g = sym g ∙ (lt_lt m v y e f ∙ sym f)
    by true e false f q g = sym f
    by false e true f q g = sym g
    by false e false f true g = sym f ∙ (le_lt v m y e g ∙ sym g)
    by false e false f false g = sym g

pub below_largest : (v : ℤ) (vs : List ℤ) (y : ℤ) → all (λ x. lt_z x y) (v ∷ vs) ≡ lt_z (largest v vs) y
below_largest v [] y = and-true (lt_z v y)
below_largest v (w ∷ ws) y = ap (λ t. lt_z v y && t) (below_largest w ws y) ∙ larger_below v (largest w ws) y

-- ---- tests along a list

all_snoc : (p : ℕ → Bool) (is : List ℕ) (j : ℕ) → all p (is ++ (j ∷ [])) ≡ (all p is && p j)
all_snoc p [] j = and-true (p j)
all_snoc p (i ∷ is) j = ap (λ t. p i && t) (all_snoc p is j) ∙ sym (and_assoc (p i) (all p is) (p j))

module _ (f : ℕ → ℤ) where
  -- the oldest leader's value is the largest
  pub first_leads : (i : ℕ) (is : List ℕ) → f (get_or (leads f (i ∷ is)) 0 0) ≡ largest (f i) (map f is)
  first_leads i [] = refl
  first_leads i (j ∷ js) = by (lt_z (largest (f j) (map f js)) (f i)) refl (first_leads j js)
    where
      leads_all : all (λ x. lt_z (f x) (f i)) (j ∷ js) ≡ lt_z (largest (f j) (map f js)) (f i)
      leads_all = sym (all_mapped (λ x. lt_z x (f i)) f (j ∷ js)) ∙ below_largest (f j) (map f js) (f i)

      by : (b : Bool) → lt_z (largest (f j) (map f js)) (f i) ≡ b → f (get_or (leads f (j ∷ js)) 0 0) ≡ largest (f j) (map f js) → f (get_or (leads f (i ∷ j ∷ js)) 0 0) ≡ cond b (f i) (largest (f j) (map f js))
      by true e h = ap (λ t. f (get_or (cons_if t i (leads f (j ∷ js))) 0 0)) (leads_all ∙ e)
      by false e h = ap (λ t. f (get_or (cons_if t i (leads f (j ∷ js))) 0 0)) (leads_all ∙ e) ∙ h

  pub some_leads : (i : ℕ) (is : List ℕ) → 0 < length (leads f (i ∷ is))
  some_leads i [] = omega arith
  some_leads i (j ∷ js) = by (all (λ x. lt_z (f x) (f i)) (j ∷ js)) (some_leads j js)
    where
      by : (b : Bool) → 0 < length (leads f (j ∷ js)) → 0 < length (cons_if b i (leads f (j ∷ js)))
      by true h = omega arith
      by false h = h

  pub all_leads : (good : ℕ → Bool) (is : List ℕ) → all good is ≡ true → all good (leads f is) ≡ true
  all_leads good [] h = refl
  all_leads good (i ∷ is) h = by (all (λ j. lt_z (f j) (f i)) is) (all_leads good is (and_right (good i) (all good is) h))
    where
      by : (b : Bool) → all good (leads f is) ≡ true → all good (cons_if b i (leads f is)) ≡ true
      by true q = both (and_left (good i) (all good is) h) q
      by false q = q

  pub length_leads : (is : List ℕ) → length (leads f is) ≤ length is
  length_leads [] = omega arith
  length_leads (i ∷ is) = by (all (λ j. lt_z (f j) (f i)) is) (length_leads is)
    where
      by : (b : Bool) → length (leads f is) ≤ length is → length (cons_if b i (leads f is)) ≤ suc (length is)
      by true q = omega arith
      by false q = omega arith

  -- one more: those greater than it, and itself
  pub leads_snoc : (is : List ℕ) (j : ℕ) → leads f (is ++ (j ∷ [])) ≡ keep (λ i. lt_z (f j) (f i)) (leads f is) ++ (j ∷ [])
  leads_snoc [] j = refl
  leads_snoc (i ∷ is) j = step (leads_snoc is j)
    where
      by : (p q : Bool) → lt_z (f j) (f i) ≡ q → leads f (is ++ (j ∷ [])) ≡ keep (λ x. lt_z (f j) (f x)) (leads f is) ++ (j ∷ [])
          → cons_if (p && q) i (leads f (is ++ (j ∷ []))) ≡ keep (λ x. lt_z (f j) (f x)) (cons_if p i (leads f is)) ++ (j ∷ [])
      by true true e h = ap (λ t. i ∷ t) h ∙ sym (ap (λ t. cons_if t i (keep (λ x. lt_z (f j) (f x)) (leads f is)) ++ (j ∷ [])) e)
      by true false e h = h ∙ sym (ap (λ t. cons_if t i (keep (λ x. lt_z (f j) (f x)) (leads f is)) ++ (j ∷ [])) e)
      by false q e h = h

      step : leads f (is ++ (j ∷ [])) ≡ keep (λ x. lt_z (f j) (f x)) (leads f is) ++ (j ∷ []) → leads f (i ∷ is ++ (j ∷ [])) ≡ keep (λ x. lt_z (f j) (f x)) (leads f (i ∷ is)) ++ (j ∷ [])
      step h = ap (λ t. cons_if t i (leads f (is ++ (j ∷ [])))) (all_snoc (λ x. lt_z (f x) (f i)) is j) ∙ by (all (λ x. lt_z (f x) (f i)) is) (lt_z (f j) (f i)) refl h

-- a test that follows from another
all_follows : {A : Type 0} (p q : A → Bool) → ((x : A) → p x ≡ true → q x ≡ true) → (xs : List A) → all p xs ≡ true → all q xs ≡ true
all_follows p q h [] a = refl
all_follows p q h (x ∷ xs) a = both (h x (and_left (p x) (all p xs) a)) (all_follows p q h xs (and_right (p x) (all p xs) a))

-- ---- keep

module _ (p q : ℕ → Bool) where
  -- tests that agree where a third holds
  keep_agree : (good : ℕ → Bool) (is : List ℕ) → all good is ≡ true → ((i : ℕ) → good i ≡ true → p i ≡ q i) → keep p is ≡ keep q is
  keep_agree good [] h a = refl
  keep_agree good (i ∷ is) h a =
      let rest : keep p is ≡ keep q is = keep_agree good is (and_right (good i) (all good is) h) a in
      (λ j. cons_if (a i (and_left (good i) (all good is) h) j) i (rest j))

  -- the second test implies the first
  keep_keep : (is : List ℕ) → ((i : ℕ) → q i ≡ true → p i ≡ true) → keep p (keep q is) ≡ keep q is
  keep_keep [] a = refl
  keep_keep (i ∷ is) a = by (q i) refl (keep_keep is a)
    where
      by : (b : Bool) → q i ≡ b → keep p (keep q is) ≡ keep q is → keep p (cons_if b i (keep q is)) ≡ cons_if b i (keep q is)
      by true e h = ap (λ t. cons_if t i (keep p (keep q is))) (a i e) ∙ ap (λ t. i ∷ t) h
      by false e h = h

  -- the first test implies the second
  keep_both : (is : List ℕ) → ((i : ℕ) → p i ≡ true → q i ≡ true) → keep p (keep q is) ≡ keep p is
  keep_both [] a = refl
  keep_both (i ∷ is) a = by (p i) refl (q i) refl (keep_both is a)
    where
      by : (c : Bool) → p i ≡ c → (b : Bool) → q i ≡ b → keep p (keep q is) ≡ keep p is → keep p (cons_if b i (keep q is)) ≡ cons_if c i (keep p is)
      by c d true e h = (λ j. cons_if (d j) i (h j))
      by true d false e h = absurd (let z : true ≡ false = sym (a i d) ∙ e in let y : ◌≡◌ {A = ℕ} 0 1 = cc in omega arith)
      by false d false e h = h

keep_all : (p : ℕ → Bool) (is : List ℕ) → all p is ≡ true → keep p is ≡ is
keep_all p [] h = refl
keep_all p (i ∷ is) h = ap (λ t. cons_if t i (keep p is)) (and_left (p i) (all p is) h) ∙ ap (λ t. i ∷ t) (keep_all p is (and_right (p i) (all p is) h))

pub keep_append : (p : ℕ → Bool) (is js : List ℕ) → keep p (is ++ js) ≡ keep p is ++ keep p js
keep_append p [] js = refl
keep_append p (i ∷ is) js = by (p i) (keep_append p is js)
  where
    by : (b : Bool) → keep p (is ++ js) ≡ keep p is ++ keep p js → cons_if b i (keep p (is ++ js)) ≡ cons_if b i (keep p is) ++ keep p js
    by true h = ap (λ t. i ∷ t) h
    by false h = h

-- ---- one more value

-- leaders under values that agree on the slots
leads_agree : (f g : ℕ → ℤ) (is : List ℕ) → map f is ≡ map g is → leads f is ≡ leads g is
leads_agree f g [] e = refl
leads_agree f g (i ∷ is) e =
    let head : f i ≡ g i = cc in
    let tail : map f is ≡ map g is = cc in
    let tests : all (λ x. lt_z (f x) (f i)) is ≡ all (λ x. lt_z (g x) (g i)) is = sym (all_mapped (λ x. lt_z x (f i)) f is) ∙ ((λ j. all (λ x. lt_z x (head j)) (tail j)) ∙ all_mapped (λ x. lt_z x (g i)) g is) in
    let rest : leads f is ≡ leads g is = leads_agree f g is tail in
    (λ j. cons_if (tests j) i (rest j))

set_others : (s : List ℤ) (k : ℕ) (v : ℤ) (is : List ℕ) → all (λ j. not (eqb j k)) is ≡ true → map (value_at (set s k v)) is ≡ map (value_at s) is
set_others s k v [] h = refl
set_others s k v (i ∷ is) h =
    ap₂ (λ x l. x ∷ l) (get_or-set_other s k i v (pos 0) (eqb-false i k (not-true (eqb i k) (and_left (not (eqb i k)) (all (λ j. not (eqb j k)) is) h))))
    (set_others s k v is (and_right (not (eqb i k)) (all (λ j. not (eqb j k)) is) h))

-- a leader stays that does not leave and is greater than v
abbrev pub stays : List ℤ → ℕ → ℤ → ℕ → Bool
stays s k v i = not (eqb i k) && lt_z v (value_at s i)

module _ (n h k : ℕ) (l : h ≤ n) (q : k < n) (s : List ℤ) (e : length s ≡ n) (v : ℤ) where
  abbrev kept : List ℕ
  kept = staying n h k l q

  others : all (λ j. not (eqb j k)) (leads (value_at s) kept) ≡ true
  others = all_leads (value_at s) (λ j. not (eqb j k)) kept (staying_others n h k l q)

  old_leaders : keep (stays s k v) (leaders_of n h k s) ≡ keep (stays s k v) (leads (value_at s) kept)
  old_leaders = by (ltb h n) refl
    where
      by : (b : Bool) → ltb h n ≡ b → keep (stays s k v) (leaders_of n h k s) ≡ keep (stays s k v) (leads (value_at s) kept)
      by true d = ap (λ t. keep (stays s k v) (leads (value_at s) t)) (order_room n h k l q (ltb-true h n d))
      by false d = ap (λ t. keep (stays s k v) (leads (value_at s) t)) (order_full n h k l q (omega (arith, ltb-false h n d))) ∙ gone (all (λ x. lt_z (value_at s x) (value_at s k)) kept)
        where
          gone : (b : Bool) → keep (stays s k v) (cons_if b k (leads (value_at s) kept)) ≡ keep (stays s k v) (leads (value_at s) kept)
          gone true = ap (λ t. cons_if (not t && lt_z v (value_at s k)) k (keep (stays s k v) (leads (value_at s) kept))) (eq-eqb k k refl)
          gone false = refl

  pub leaders_push : leaders_of n (grown n h) (after n k) (set s k v) ≡ keep (stays s k v) (leaders_of n h k s) ++ (k ∷ [])
  leaders_push =
      let f : ℕ → ℤ = value_at (set s k v) in
      let same : f k ≡ v = get_or-set_same s k v (pos 0) (omega arith) in
      ap (leads f) (order_push n h k l q)
      ∙ (leads_snoc f kept k
      ∙ ap (λ t. t ++ (k ∷ [])) (ap (keep (λ i. lt_z (f k) (f i))) (leads_agree f (value_at s) kept (set_others s k v kept (staying_others n h k l q)))
      ∙ (keep_agree (λ i. lt_z (f k) (f i)) (stays s k v) (λ j. not (eqb j k)) (leads (value_at s) kept) others
      (λ i g. (λ j. lt_z (same j) (get_or-set_other s k i v (pos 0) (eqb-false i k (not-true (eqb i k) g)) j)) ∙ ap (λ t. t && lt_z v (value_at s i)) (sym g))
      ∙ sym old_leaders)))

-- ---- a walk from the newest

-- leaders of slots from the newest, where the values before had this top
abbrev pub leads_back : (ℕ → ℤ) → ℤ → List ℕ → List ℕ
leads_back f top [] = []
leads_back f top (i ∷ is) = cond (lt_z top (f i)) (i ∷ leads_back f (f i) is) (leads_back f top is)

pub back_leads : (f : ℕ → ℤ) (top : ℤ) (is : List ℕ) → leads_back f top is ≡ reverse (keep (λ i. lt_z top (f i)) (leads f (reverse is)))
back_leads f top [] = refl
back_leads f top (i ∷ is) = by (lt_z top (f i)) refl (back_leads f (f i) is) (back_leads f top is)
  where
    above : ℤ → ℕ → Bool
    above y j = lt_z y (f j)

    older : List ℕ
    older = leads f (reverse is)

    split : keep (above top) (leads f (reverse (i ∷ is))) ≡ keep (above top) (keep (above (f i)) older) ++ keep (above top) (i ∷ [])
    split = ap (λ t. keep (above top) (leads f t)) (reverse-cons i is) ∙ (ap (keep (above top)) (leads_snoc f (reverse is) i) ∙ keep_append (above top) (keep (above (f i)) older) (i ∷ []))

    by : (b : Bool) → lt_z top (f i) ≡ b → leads_back f (f i) is ≡ reverse (keep (above (f i)) older) → leads_back f top is ≡ reverse (keep (above top) older)
        → cond b (i ∷ leads_back f (f i) is) (leads_back f top is) ≡ reverse (keep (above top) (leads f (reverse (i ∷ is))))
    by true e h g =
        ap (λ t. i ∷ t) h
        ∙ (sym (reverse-append (keep (above (f i)) older) (i ∷ []))
        ∙ ap reverse (sym (split ∙ ((λ j. keep_keep (above top) (above (f i)) older (λ x q. lt_lt top (f i) (f x) e q) j ++ cons_if (e j) i [])))))
    by false e h g =
        g ∙ ap reverse (sym (split ∙ ((λ j. keep_both (above top) (above (f i)) older (λ x q. le_lt (f i) top (f x) e q) j ++ cons_if (e j) i []) ∙ append-nil (keep (above top) older))))

-- the slots back from slot k
abbrev pub before : ℕ → ℕ → ℕ
before n k = cond (eqb k 0) (n - 1) (k - 1)

abbrev pub down_from : ℕ → ℕ → ℕ → List ℕ
down_from n zero k = []
down_from n (suc h) k = before n k ∷ down_from n h (before n k)

pub before_below : (n k : ℕ) → k < n → before n k < n
before_below n k l = by (eqb k 0) refl
  where
    by : (b : Bool) → eqb k 0 ≡ b → cond b (n - 1) (k - 1) < n
    by true e = omega arith
    by false e = omega arith

after_before : (n k : ℕ) → k < n → after n (before n k) ≡ k
after_before n k l = by (eqb k 0) refl
  where
    by : (b : Bool) → eqb k 0 ≡ b → after n (cond b (n - 1) (k - 1)) ≡ k
    by true e = let d : suc (n - 1) ≡ n = omega arith in rw (eq-eqb (suc (n - 1)) n d) (sym (eqb-true k 0 e))
    by false e =
        let z : k ≡ 0 → ⊥ = eqb-false k 0 e in
        let d : suc (k - 1) ≡ k = omega arith in
        rw (d, ne_eqb k n (λ y. omega arith)) refl

pub down_order : (n h k : ℕ) → h ≤ n → k < n → down_from n h k ≡ reverse (order n h k)
down_order n zero k l q = ap reverse (sym (drop_of_length-le (turned k (count_from 0 n)) {i = n - 0} (omega (arith, length_turned k (count_from 0 n), length_count_from 0 n))))
down_order n (suc h) k l q =
    let j : ℕ = before n k in
    let b : j < n = before_below n k q in
    let u : h < n = l in
    let m : h ≤ n = omega arith in
    let g : grown n h ≡ suc h = rw (lt-ltb h n u) refl in
    let e : order n (suc h) k ≡ order n h j ++ (j ∷ []) =
    sym (λ i. order n (g i) (after_before n k q i)) ∙ (order_push n h j m b ∙ ap (λ t. t ++ (j ∷ [])) (sym (order_room n h j m b u))) in
    ap (λ t. j ∷ t) (down_order n h j m b) ∙ (sym (reverse-append (order n h j) (j ∷ [])) ∙ ap reverse (sym e))

-- the mark is below every value
above_mark : (v : ℤ) → in_range v ≡ true → lt_z mark v ≡ true
above_mark (pos m) e = refl
above_mark (negsuc m) e = lt-ltb m 9223372036854775807 (omega (arith, in_range_size (negsuc m) e))

-- the values by a walk from the newest
pub values_back : (n h k : ℕ) (s : List ℤ) → length s ≡ n → h ≤ n → k < n → map (value_at s) (down_from n h k) ≡ reverse (values_of n h k s)
values_back n h k s e l q = ap (map (value_at s)) (down_order n h k l q) ∙ (map_reverse (value_at s) (order n h k) ∙ ap reverse (values_order n h k s e))

-- the leaders by a walk from the newest
pub leaders_back : (n h k : ℕ) (s : List ℤ) → length s ≡ n → h ≤ n → k < n → all in_range (values_of n h k s) ≡ true → leads_back (value_at s) mark (down_from n h k) ≡ reverse (leaders_of n h k s)
leaders_back n h k s e l q a =
    ap (leads_back (value_at s) mark) (down_order n h k l q)
    ∙ (back_leads (value_at s) mark (reverse (order n h k))
    ∙ (ap (λ t. reverse (keep above (leads (value_at s) t))) (reverse-reverse (order n h k))
    ∙ ap reverse (keep_all above (leaders_of n h k s) (all_leads (value_at s) above (order n h k) held_above))))
  where
    above : ℕ → Bool
    above i = lt_z mark (value_at s i)

    held_above : all above (order n h k) ≡ true
    held_above = sym (all_mapped (λ v. lt_z mark v) (value_at s) (order n h k)) ∙ all_follows in_range (λ v. lt_z mark v) above_mark (map (value_at s) (order n h k)) (ap (all in_range) (values_order n h k s e) ∙ a)
