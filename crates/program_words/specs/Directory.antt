-- The directory: zeros, then what is said of each production at the tokens of its set, the last production first, so that the first one stays.
use Rattle.std.specs.Prelude.{ℕ, zero, suc, ◌+◌, ◌-◌, ◌*◌, ◌/◌, ◌%◌, ◌^◌, ◌≤◌, ◌<◌, ◌≡◌, refl, ◌⊎◌, Bool, true, false, ◌&&◌, cond, List, ◌∷◌, length, get_or, set, drop, replicate, eqb, ltb}
use Rattle.std.proofs.Math.Nat.{div-eq_of_lt, zero-div}
use Rattle.std.proofs.Common.{div-one, lt_of_lt_of_le, not-suc-le-zero, pow-suc, zero-add, one-add, arith, sym, ap, ap₂, ◌∙◌, subst, inl, inr, length-set, drop_of_length-le, drop-cons, get_or-set_same, get_or-set_other, ext_get_or, shr-shr, pow_mono, lt-ltb, le-ltb, eq-eqb, ne_eqb}
use Rattle.std.specs.Int.Count.{count_trailing_zeros, under}
use Rattle.std.proofs.Math.Decide.{dec_lt, ℕ_discrete}
use Rattle.std.proofs.lemmas.List.{length-replicate, get_or-replicate}
use Rattle.meaning.specs.Grammar.{Production, Grammar, whole_production, nonterminal_count, production_at}
use Rattle.meaning.specs.Sets.{has, starts}
use Rattle.meaning.specs.Scheme.{entry_tests}
use Rattle.meaning.specs.Program.{first_of, directory, directory_word, entry_of, scheme_address}
use Rattle.theory_base.specs.WellFormed.{listed_at, well_formed_at}
use Rattle.token_set.specs.SetBits.{bit, has_bit}
use Rattle.outline.specs.declared.Sizes.{Sizes}
use Rattle.outline.specs.Images.{ImageOf, left_at}
use Rattle.outline.specs.Outline.{grammar_in, Starting, Outlined}
use Rattle.theory_program.specs.Addresses.{row_at, directory_length, record_address}
use Rattle.program_block_words.specs.Patch.{patch, Wrote, patch_length, patch_before, patch_inside, patch_behind}

-- what is brought of the productions as alternatives of their left sides
pub record Alternatives (rows sets : List ℕ) (nonterminals count : ℕ) : Type 0 where
  pub grammar : Grammar
  pub rows_of : ImageOf rows count grammar
  pub is_nonterminals : nonterminals ≡ nonterminal_count grammar
  pub starting : Starting grammar count sets

abbrev pub alternatives : {table : List ℕ} {sizes : Sizes} {inherited synthesized rows offsets sets : List ℕ} → Outlined table sizes inherited synthesized rows offsets sets → Alternatives rows sets sizes.nonterminals sizes.productions
alternatives {table} x = record { grammar = grammar_in table; rows_of = x.outline.productions.rows_of; is_nonterminals = x.outline.numbers.nonterminals; starting = x.starting }

-- a set's bits
pub start_bit : (g : Grammar) (count : ℕ) (sets : List ℕ) → Starting g count sets → (p u : ℕ) → p < count → u < 64 → eqb (get_or sets p 0 / 2 ^ u % 2) 1 ≡ has (starts g (production_at g p)) u
unfolding bit
start_bit g count sets k p u l m = sym (has_bit (get_or sets p 0) u m) ∙ ap (λ z. has z u) (k p l)

abbrev pub zeros : ℕ → List ℕ
zeros n = replicate n 0

-- ---- the words of one set

-- the first u places of a row of 64 words hold the number where the set has a bit
pub record Marked (old new : List ℕ) (from set number u : ℕ) : Type 0 where
  pub size : length new ≡ length old
  pub inside : (v : ℕ) → v < 64 → get_or new (from + v) 0 ≡ cond (ltb v u && eqb (set / 2 ^ v % 2) 1) number (get_or old (from + v) 0)
  pub outside : (i : ℕ) → (i < from) ⊎ (from + 64 ≤ i) → get_or new i 0 ≡ get_or old i 0

pub marked_start : (area : List ℕ) (from set number : ℕ) → Marked area area from set number 0
marked_start area from set number = record { size = refl; inside = λ v l. rw (le-ltb v 0 (omega arith)); outside = λ i h. refl }

module _ {old area : List ℕ} {from bits number u : ℕ} (m : Marked old area from bits number u) where
  -- a place where the set has no bit stays
  none_at : (v : ℕ) → v < 64 → u ≤ v → get_or area (from + v) 0 ≡ get_or old (from + v) 0
  none_at v k h = rw (le-ltb v u h) at (m.inside v k)

  -- a run of places without a bit
  pub marked_skip : (j : ℕ) → ((v : ℕ) → v < j → bits / 2 ^ u / 2 ^ v % 2 ≡ 0) → Marked old area from bits number (u + j)
  marked_skip j none = record { size = m.size; inside = λ v k. go v k (dec_lt v u) (dec_lt v (u + j)); outside = m.outside }
    where
      go : (v : ℕ) → v < 64 → Dec (v < u) → Dec (v < u + j) → get_or area (from + v) 0 ≡ cond (ltb v (u + j) && eqb (bits / 2 ^ v % 2) 1) number (get_or old (from + v) 0)
      go v k (yes h) e = m.inside v k ∙ ap (λ c. cond (c && eqb (bits / 2 ^ v % 2) 1) number (get_or old (from + v) 0)) (lt-ltb v u h ∙ sym (lt-ltb v (u + j) (omega arith)))
      go v k (no h) (no e) = rw (le-ltb v (u + j) (omega arith)) (none_at v k (omega arith))
      go v k (no h) (yes e) =
          let s : u + (v - u) ≡ v = omega arith in
          let z : bits / 2 ^ v % 2 ≡ 0 = subst (λ w. bits / 2 ^ w % 2 ≡ 0) s (ap (λ n. n % 2) (sym (shr-shr bits u (v - u))) ∙ none (v - u) (omega arith)) in
          rw (lt-ltb v (u + j) e, z) (none_at v k (omega arith))

  -- a place with one
  pub marked_set : bits / 2 ^ u % 2 ≡ 1 → u < 64 → from + u < length area → Marked old (set area (from + u) number) from bits number (u + 1)
  marked_set one l h = record { size = length-set area (from + u) number ∙ m.size; inside = λ v k. go v k (ℕ_discrete v u); outside = λ i k. get_or-set_other area (from + u) i number 0 (apart i k) ∙ m.outside i k }
    where
      apart : (i : ℕ) → (i < from) ⊎ (from + 64 ≤ i) → i ≡ from + u → ⊥
      apart i (inl k) q = omega arith
      apart i (inr k) q = omega arith

      below : (v : ℕ) → (v ≡ u → ⊥) → Dec (v < u) → ltb v (u + 1) ≡ ltb v u
      below v n (yes k) = lt-ltb v (u + 1) (omega arith) ∙ sym (lt-ltb v u k)
      below v n (no k) = le-ltb v (u + 1) (omega arith) ∙ sym (le-ltb v u (omega arith))

      go : (v : ℕ) → v < 64 → Dec (v ≡ u) → get_or (set area (from + u) number) (from + v) 0 ≡ cond (ltb v (u + 1) && eqb (bits / 2 ^ v % 2) 1) number (get_or old (from + v) 0)
      go v k (yes q) = rw (q, lt-ltb u (u + 1) (omega arith), one) (get_or-set_same area (from + u) number 0 h)
      go v k (no n) = get_or-set_other area (from + u) (from + v) number 0 (λ q. n (omega arith)) ∙ (m.inside v k ∙ ap (λ c. cond (c && eqb (bits / 2 ^ v % 2) 1) number (get_or old (from + v) 0)) (sym (below v n (dec_lt v u))))

  pub marked_end : bits / 2 ^ u ≡ 0 → u ≤ 64 → Marked old area from bits number 64
  marked_end e l = record { size = m.size; inside = λ v k. m.inside v k ∙ ap (λ c. cond c number (get_or old (from + v) 0)) (go v k (dec_lt v u)); outside = m.outside }
    where
      go : (v : ℕ) → v < 64 → Dec (v < u) → (ltb v u && eqb (bits / 2 ^ v % 2) 1) ≡ (ltb v 64 && eqb (bits / 2 ^ v % 2) 1)
      go v k (yes h) = rw (lt-ltb v u h, lt-ltb v 64 k)
      go v k (no h) =
          let s : u + (v - u) ≡ v = omega arith in
          let z : bits / 2 ^ v ≡ 0 = subst (λ w. bits / 2 ^ w ≡ 0) s (sym (shr-shr bits u (v - u)) ∙ (ap (λ n. n / 2 ^ (v - u)) e ∙ zero-div (2 ^ (v - u)))) in
          rw (le-ltb v u (omega arith), lt-ltb v 64 k, z) refl

-- bits above 63 are none
pub bits_end : (set u : ℕ) → set < 2 ^ 64 → 64 ≤ u → set / 2 ^ u ≡ 0
bits_end set u l h = div-eq_of_lt (lt_of_lt_of_le l (pow_mono {i = 64} {j = u} h))

-- ---- the lowest bit of a number

halved : (n w : ℕ) → n / 2 ^ suc w ≡ n / 2 / 2 ^ w
halved n w = ap (λ x. n / 2 ^ x) (sym (one-add w)) ∙ sym (shr-shr n 1 w)

-- no bit stands below it
pub zero_run : (d n v : ℕ) → v < count_trailing_zeros d n → n / 2 ^ v % 2 ≡ 0
unfolding count_trailing_zeros
zero_run zero n v l = absurd (not-suc-le-zero l)
zero_run (suc d) n v l = go (n % 2) refl v l (zero_run d (n / 2))
  where
    go : (r : ℕ) → n % 2 ≡ r → (v : ℕ) → v < under r (count_trailing_zeros d (n / 2)) → ((w : ℕ) → w < count_trailing_zeros d (n / 2) → n / 2 / 2 ^ w % 2 ≡ 0) → n / 2 ^ v % 2 ≡ 0
    go zero e zero h ih = ap (λ x. x % 2) (div-one n) ∙ e
    go zero e (suc w) h ih = ap (λ x. x % 2) (halved n w) ∙ ih w (omega arith)
    go (suc r) e v h ih = absurd (not-suc-le-zero h)

pub bit_there : (d n : ℕ) → (n ≡ 0 → ⊥) → n < 2 ^ d → n / 2 ^ count_trailing_zeros d n % 2 ≡ 1
unfolding count_trailing_zeros
bit_there zero n h l = absurd (h (omega arith))
bit_there (suc d) n h l = go (n % 2) refl (λ (e : n % 2 ≡ 0). bit_there d (n / 2) (λ q. h (omega arith)) (omega (arith, pow-suc 2 d)))
  where
    go : (r : ℕ) → n % 2 ≡ r → (n % 2 ≡ 0 → n / 2 / 2 ^ count_trailing_zeros d (n / 2) % 2 ≡ 1) → n / 2 ^ under r (count_trailing_zeros d (n / 2)) % 2 ≡ 1
    go zero e ih = ap (λ x. x % 2) (halved n (count_trailing_zeros d (n / 2))) ∙ ih e
    go (suc r) e ih = ap (λ x. x % 2) (div-one n) ∙ omega arith

-- ---- all productions from p on

abbrev pub starts_of : Grammar → ℕ → ℕ → Production → Bool
starts_of g n u q = eqb q.left n && has (starts g q) u

pub record Filled (g : Grammar) (old area : List ℕ) (p : ℕ) : Type 0 where
  pub size : length area ≡ length old
  pub words : (n u : ℕ) → n < nonterminal_count g → u < 64 → get_or area (9 + 64 * n + u) 0 ≡ entry_of g (first_of (starts_of g n u) p (drop p g.productions))
  pub outside : (i : ℕ) → (i < 9) ⊎ (9 + 64 * nonterminal_count g ≤ i) → get_or area i 0 ≡ get_or old i 0

module _ (g : Grammar) (old : List ℕ) (room : 9 + 64 * nonterminal_count g ≤ length old) where
  pub filled_start : (p : ℕ) → length g.productions ≤ p → Filled g old (patch old 9 (zeros (64 * nonterminal_count g))) p
  filled_start p l = record {
    size = patch_length old 9 (zeros (64 * nonterminal_count g));
    words = λ n u m h.
        ap (λ i. get_or (patch old 9 (zeros (64 * nonterminal_count g))) i 0) (place n u)
        ∙ (patch_inside old 9 (zeros (64 * nonterminal_count g)) (64 * n + u) (omega (arith, wide)) (omega (arith, wide))
        ∙ (get_or-replicate (64 * nonterminal_count g) (64 * n + u) nought 0 (omega arith) ∙ sym (ap (λ qs. entry_of g (first_of (starts_of g n u) p qs)) (drop_of_length-le g.productions {i = p} l))));
    outside = go;
  }
    where
      nought : ℕ
      nought = 0

      wide : length (zeros (64 * nonterminal_count g)) ≡ 64 * nonterminal_count g
      wide = length-replicate (64 * nonterminal_count g) nought

      place : (n u : ℕ) → 9 + 64 * n + u ≡ 9 + (64 * n + u)
      place n u = omega arith

      go : (i : ℕ) → (i < 9) ⊎ (9 + 64 * nonterminal_count g ≤ i) → get_or (patch old 9 (zeros (64 * nonterminal_count g))) i 0 ≡ get_or old i 0
      go i (inl h) = patch_before old 9 (zeros (64 * nonterminal_count g)) i h
      go i (inr h) = patch_behind old 9 (zeros (64 * nonterminal_count g)) i (omega (arith, wide))

  module _ {area : List ℕ} where
    pub filled_end : Filled g old area 0 → Wrote old area 9 (9 + 64 * nonterminal_count g) (directory g)
    filled_end f = record { memory = ext_get_or 0 area (patch old 9 (directory g)) (f.size ∙ sym (patch_length old 9 (directory g))) (λ i l. go i (dec_lt i 9) (dec_lt i (9 + 64 * nonterminal_count g))); address = omega (arith, directory_length g) }
      where
        go : (i : ℕ) → Dec (i < 9) → Dec (i < 9 + 64 * nonterminal_count g) → get_or area i 0 ≡ get_or (patch old 9 (directory g)) i 0
        go i (yes h) k = f.outside i (inl h) ∙ sym (patch_before old 9 (directory g) i h)
        go i (no h) (no k) = f.outside i (inr (omega arith)) ∙ sym (patch_behind old 9 (directory g) i (omega (arith, directory_length g)))
        go i (no h) (yes k) =
            let n : ℕ = (i - 9) / 64 in
            let u : ℕ = (i - 9) % 64 in
            let e : 9 + 64 * n + u ≡ i = omega arith in
            let d : 9 + (64 * n + u) ≡ i = omega arith in
            let m : n < nonterminal_count g = omega arith in
            let left : get_or area i 0 ≡ directory_word g n u = ap (λ j. get_or area j 0) (sym e) ∙ f.words n u m (omega arith) in
            let inside = patch_inside old 9 (directory g) (64 * n + u) (omega (arith, directory_length g)) (omega (arith, directory_length g)) in
            let word = row_at (directory_word g) 64 0 (nonterminal_count g) n u m (omega arith) ∙ ap (λ j. directory_word g j u) (zero-add n) in
            let right : get_or (patch old 9 (directory g)) i 0 ≡ directory_word g n u = ap (λ j. get_or (patch old 9 (directory g)) j 0) (sym d) ∙ (inside ∙ word) in
            left ∙ sym right

-- one production more
pub filled_turn : {rows sets : List ℕ} {nonterminals count : ℕ} (x : Alternatives rows sets nonterminals count) {old area new : List ℕ} (p b : ℕ)
    → p < count → b ≡ left_at rows p → Filled x.grammar old area (p + 1) → Marked area new (9 + 64 * b) (get_or sets p 0) (entry_of x.grammar (p + 1)) 64 → Filled x.grammar old new p
filled_turn {rows} {sets} {nonterminals} {count} x {old} {area} {new} p b l eb f m = record { size = m.size ∙ f.size; words = λ n u k h. go n u k h (ℕ_discrete n b); outside = λ i k. m.outside i (beyond i k) ∙ f.outside i k }
  where
    g : Grammar
    g = x.grammar

    listed : p < length g.productions
    listed = omega (arith, x.rows_of.counted)

    pr : Production
    pr = production_at g p

    left_is : b ≡ pr.left
    left_is = eb ∙ x.rows_of.left p l

    left_small : b < nonterminal_count g
    left_small = omega (arith, left_is, (well_formed_at g x.rows_of.sound p listed).left)

    beyond : (i : ℕ) → (i < 9) ⊎ (9 + 64 * nonterminal_count g ≤ i) → (i < 9 + 64 * b) ⊎ (9 + 64 * b + 64 ≤ i)
    beyond i (inl k) = inl (omega arith)
    beyond i (inr k) = inr (omega (arith, left_small))

    here : drop p g.productions ≡ pr ∷ drop (suc p) g.productions
    here = drop-cons g.productions p (whole_production g) listed ∙ ap (λ q. q ∷ drop (suc p) g.productions) (sym (listed_at g x.rows_of.sound p listed))

    next : p + 1 ≡ suc p
    next = omega arith

    -- the word by whether the production starts with u
    word : (n u : ℕ) → entry_of g (first_of (starts_of g n u) p (drop p g.productions)) ≡ cond (starts_of g n u pr) (entry_of g (p + 1)) (entry_of g (first_of (starts_of g n u) (p + 1) (drop (p + 1) g.productions)))
    word n u = ap (λ qs. entry_of g (first_of (starts_of g n u) p qs)) here ∙ (by (starts_of g n u pr) ∙ ap (λ k. cond (starts_of g n u pr) (entry_of g k) (entry_of g (first_of (starts_of g n u) k (drop k g.productions)))) (sym next))
      where
        by : (c : Bool) → ◌≡◌ {A = ℕ} (entry_of g (elim c [ true ↦ suc p | false ↦ first_of (starts_of g n u) (suc p) (drop (suc p) g.productions) ])) (cond c (entry_of g (suc p)) (entry_of g (first_of (starts_of g n u) (suc p) (drop (suc p) g.productions))))
        by true = refl
        by false = refl

    away : (n u : ℕ) → u < 64 → (n ≡ b → ⊥) → Dec (n < b) → (9 + 64 * n + u < 9 + 64 * b) ⊎ (9 + 64 * b + 64 ≤ 9 + 64 * n + u)
    away n u h d (yes k) = inl (omega arith)
    away n u h d (no k) = inr (omega arith)

    go : (n u : ℕ) → n < nonterminal_count g → u < 64 → Dec (n ≡ b) → get_or new (9 + 64 * n + u) 0 ≡ entry_of g (first_of (starts_of g n u) p (drop p g.productions))
    go n u k h (yes e) =
        let z : Bool = eqb (get_or sets p 0 / 2 ^ u % 2) 1 in
        let rest : ℕ = entry_of g (first_of (starts_of g n u) (p + 1) (drop (p + 1) g.productions)) in
        let c : z ≡ starts_of g n u pr = sym (rw (eq-eqb pr.left n (sym left_is ∙ sym e)) (sym (start_bit x.grammar count sets x.starting p u l h))) in
        let was : get_or area (9 + 64 * b + u) 0 ≡ rest = ap (λ j. get_or area (9 + 64 * j + u) 0) (sym e) ∙ f.words n u k h in
        let made : get_or new (9 + 64 * b + u) 0 ≡ cond z (entry_of g (p + 1)) rest = m.inside u h ∙ (ap (λ v. cond (v && z) (entry_of g (p + 1)) (get_or area (9 + 64 * b + u) 0)) (lt-ltb u 64 h) ∙ ap (cond z (entry_of g (p + 1))) was) in
        ap (λ j. get_or new (9 + 64 * j + u) 0) e ∙ (made ∙ (ap (λ v. cond v (entry_of g (p + 1)) rest) c ∙ sym (word n u)))
    go n u k h (no d) =
        let rest : ℕ = entry_of g (first_of (starts_of g n u) (p + 1) (drop (p + 1) g.productions)) in
        let c : starts_of g n u pr ≡ false = rw (ne_eqb pr.left n (λ q. d (sym q ∙ sym left_is))) refl in
        m.outside (9 + 64 * n + u) (away n u h d (dec_lt n b)) ∙ (f.words n u k h ∙ (sym (ap (λ v. cond v (entry_of g (p + 1)) rest) c) ∙ sym (word n u)))

-- ---- what the records say of a production

-- its number of entry tests and where its scheme begins stand in its record
abbrev pub Recorded : Grammar → List ℕ → Type 0
Recorded g area = (p : ℕ) → p < length g.productions → (get_or area (record_address g p + 5) 0 ≡ length (entry_tests g (production_at g p))) × (get_or area (record_address g p + 6) 0 ≡ scheme_address g p)

-- what the directory says of it, by the address of its record and its number plus 1
abbrev pub entry_at : List ℕ → ℕ → ℕ → ℕ
entry_at area r k = k + 256 * cond (eqb (get_or area (r + 5) 0) 0) (get_or area (r + 6) 0) 0

pub entry_recorded : (g : Grammar) (area : List ℕ) → Recorded g area → (p : ℕ) → p < length g.productions → entry_at area (record_address g p) (suc p) ≡ entry_of g (suc p)
entry_recorded g area r p l = let k = r p l in ap₂ (λ t a. suc p + 256 * cond (eqb t 0) a 0) k.0 k.1

-- the directory is written in front of the records
pub recorded_kept : {g : Grammar} {old area : List ℕ} {p : ℕ} → Filled g old area p → Recorded g old → Recorded g area
recorded_kept {g} f r q l = (f.outside (record_address g q + 5) (inr (omega arith)) ∙ (r q l).0, f.outside (record_address g q + 6) (inr (omega arith)) ∙ (r q l).1)
