-- The records and the bodies, one production after the other.
use Prim.Native.Nat.{ℕ, zero, suc, ◌+◌, ◌*◌, ◌/◌, ◌%◌, ◌^◌, ◌≤◌, ◌<◌}
use Rattle.std.proofs.Common.{div-one, add-zero, zero-add, sym, ap₂, ◌∙◌, subst, length-append, drop_of_length-le, drop-cons, shr-shr, pow-add, eqb→eq, eq-eqb, ne_eqb, one-add}
use native.Mathlib.Omega.{arith}
use Rattle.std.proofs.Math.Decide.{ℕ_discrete}
use Rattle.std.specs.Prelude.{◌≡◌, refl, Bool, true, false, cond, List, [], ◌∷◌, ◌++◌, length, get_or, drop, eqb}
use Rattle.std.proofs.Math.Path.{ap}
use Rattle.meaning.specs.Grammar.{Production, Grammar, whole_production, production_at}
use Rattle.meaning.specs.Rules.{WellFormed}
use Rattle.meaning.specs.Sets.{TokenSet, has}
use Rattle.meaning.specs.Program.{set_bits, first_of, record_words, records_from, body_words, body_size, bodies_from}
use Rattle.theory_base.specs.WellFormed.{listed_at}
use Rattle.theory_program.specs.SetWords.{bits_step, bits_small, both_words}
use Rattle.outline.specs.Images.{ImageOf, left_at}
use Rattle.program_block_words.specs.Patch.{patch, Wrote, patch_none, patch_length, patch_append, patch_swap}

-- ---- a set's two words

halves : (n x y : ℕ) → n ≡ x + 4294967296 * y → x < 4294967296 → (n % 4294967296 ≡ x) × (n / 4294967296 ≡ y)
halves n x y e l = (omega arith, omega arith)

module _ (s : TokenSet) where
  bit_is : (b : Bool) (n : ℕ) → n < 2 → eqb n 1 ≡ b → n ≡ cond b 1 0
  bit_is true n l e = eqb→eq n 1 (rw e tt)
  bit_is false n l e = go (ℕ_discrete n 1)
    where
      go : Dec (n ≡ 1) → n ≡ 0
      go (yes q) = absurd (let f : ◌≡◌ {A = Bool} false true = sym e ∙ eq-eqb n 1 q in let z : ◌≡◌ {A = ℕ} 0 1 = cc in omega arith)
      go (no q) = omega arith

  -- a number is made of its bits
  word_is : (n k m : ℕ) → n < 2 ^ m → ((u : ℕ) → u < m → eqb (n / 2 ^ u % 2) 1 ≡ has s (k + u)) → n ≡ set_bits s k 1 m
  word_is n k zero l h = omega arith
  word_is n k (suc m) l h =
      let double : 2 ^ suc m ≡ 2 * 2 ^ m = ap (λ j. 2 ^ j) (omega arith) ∙ pow-add 2 1 m in
      let low : n % 2 ≡ cond (has s k) 1 0 = bit_is (has s k) (n % 2) (omega arith) (subst (λ z. eqb (z % 2) 1 ≡ has s k) (div-one n) (subst (λ z. eqb (n / 2 ^ 0 % 2) 1 ≡ has s z) (add-zero k) (h 0 (omega arith)))) in
      let high : n / 2 ≡ set_bits s (suc k) 1 m = word_is (n / 2) (suc k) m (omega (arith, double)) (λ u j. ap (λ z. eqb (z % 2) 1) (shr-shr n 1 u ∙ ap (λ z. n / 2 ^ z) (one-add u)) ∙ (h (suc u) (omega arith) ∙ ap (has s) (slide k u))) in
      omega (arith, low, high, bits_step s k m)
    where
      slide : (k u : ℕ) → k + suc u ≡ suc k + u
      slide k u = omega arith

  pub two_words : (n : ℕ) → n < 2 ^ 64 → ((u : ℕ) → u < 64 → eqb (n / 2 ^ u % 2) 1 ≡ has s u) → (n % 4294967296 ≡ set_bits s 0 1 32) × (n / 4294967296 ≡ set_bits s 32 1 32)
  two_words n l h =
      let e : n ≡ set_bits s 0 1 64 = word_is n 0 64 l (λ u j. h u j ∙ ap (has s) (sym (zero-add u))) in
      halves n (set_bits s 0 1 32) (set_bits s 32 1 32) (e ∙ sym (both_words s)) (bits_small s 0 32)

-- ---- the next production of the same left side

abbrev pub same_left : ℕ → Production → Bool
same_left n q = eqb q.left n

module _ {rows : List ℕ} {count : ℕ} {g : Grammar} (x : ImageOf rows count g) (n i : ℕ) where
  abbrev ps : List Production
  ps = g.productions

  next_here : i < count → drop i ps ≡ production_at g i ∷ drop (suc i) ps
  next_here l = let m : i < length ps = omega (arith, x.counted) in drop-cons ps i (whole_production g) m ∙ ap (λ q. q ∷ drop (suc i) ps) (sym (listed_at g x.sound i m))

  next_by_lem : (c : Bool) → i < count → same_left n (production_at g i) ≡ c → first_of (same_left n) i (drop i ps) ≡ elim c as (λ z. ℕ) [ true ↦ suc i | false ↦ first_of (same_left n) (suc i) (drop (suc i) ps) ]
  next_by_lem c l e = ap (first_of (same_left n) i) (next_here l) ∙ ap (λ (z : Bool). elim z as (λ y. ℕ) [ true ↦ suc i | false ↦ first_of (same_left n) (suc i) (drop (suc i) ps) ]) e

  pub next_found : i < count → (b : ℕ) → b ≡ left_at rows i → b ≡ n → i + 1 ≡ first_of (same_left n) i (drop i ps)
  next_found l b e q = let s : i + 1 ≡ suc i = omega arith in s ∙ sym (next_by_lem true l (eq-eqb (production_at g i).left n (sym (x.left i l) ∙ (sym e ∙ q))))

  pub next_passed : i < count → (b : ℕ) → b ≡ left_at rows i → (b ≡ n → ⊥) → first_of (same_left n) i (drop i ps) ≡ first_of (same_left n) (i + 1) (drop (i + 1) ps)
  next_passed l b e d = let s : i + 1 ≡ suc i = omega arith in rw s (next_by_lem false l (ne_eqb (production_at g i).left n (λ q. d (e ∙ (x.left i l ∙ q)))))

  pub next_none : count ≤ i → 0 ≡ first_of (same_left n) i (drop i ps)
  next_none l = sym (ap (first_of (same_left n) i) (drop_of_length-le ps {i = i} (omega (arith, x.counted))))

-- the number plus 1 of the production that follows p among those of its left side, or 0
abbrev pub NextOf : List ℕ → ℕ → ℕ → ℕ → Type 0
NextOf rows count p next = (g : Grammar) → ImageOf rows count g → next ≡ first_of (same_left (left_at rows p)) (p + 1) (drop (p + 1) g.productions)

-- that of each production
abbrev pub Nexts : List ℕ → ℕ → List ℕ → Type 0
Nexts rows count nexts = (p : ℕ) → p < count → NextOf rows count p (get_or nexts p 0)

-- ---- two regions that grow: records from r on, bodies from a on. What will be written there at last is in the goal, which ends before `end`

pub record Growing (old goal : List ℕ) (end : ℕ) (area : List ℕ) (r a : ℕ) (records bodies : List ℕ) : Type 0 where
  pub memory : goal ≡ patch (patch area r records) a bodies
  pub address : end ≡ a + length bodies
  pub apart : r + length records ≤ a
  pub size : length area ≡ length old

pub growing_start : (old : List ℕ) (r a : ℕ) (records bodies : List ℕ) → r + length records ≤ a → Growing old (patch (patch old r records) a bodies) (a + length bodies) old r a records bodies
growing_start old r a records bodies l = record { memory = refl; address = refl; apart = l; size = refl }

pub growing_end : {old goal : List ℕ} {end : ℕ} {area : List ℕ} {r a : ℕ} → Growing old goal end area r a [] [] → (area ≡ goal) × (a ≡ end)
growing_end {area = area} {r = r} {a = a} o = (sym (o.memory ∙ (patch_none (patch area r []) a ∙ patch_none area r)), omega (arith, o.address))

pub growing_as : {old goal : List ℕ} {end : ℕ} {area : List ℕ} {r a : ℕ} {records records' bodies bodies' : List ℕ} → records ≡ records' → bodies ≡ bodies' → Growing old goal end area r a records bodies → Growing old goal end area r a records' bodies'
growing_as e f o = rw (e, f) at o

pub growing_turn : {old goal : List ℕ} {end : ℕ} {area : List ℕ} {r a : ℕ} {w v records bodies : List ℕ} → Growing old goal end area r a (w ++ records) (v ++ bodies) → {mid new : List ℕ} {r' a' : ℕ} → Wrote area mid r r' w → Wrote mid new a a' v → Growing old goal end new r' a' records bodies
growing_turn {old} {goal} {end} {area} {r} {a} {w} {v} {records} {bodies} o {mid} {new} {r'} {a'} f h =
    record {
      memory =
          o.memory
          ∙ (ap (λ z. patch z a (v ++ bodies)) (patch_append area r w records ∙ ap₂ (λ y z. patch y z records) (sym f.memory) (sym f.address))
          ∙ (patch_append (patch mid r' records) a v bodies
          ∙ ap₂ (λ y z. patch y z bodies) (patch_swap mid r' records a v (omega (arith, o.apart, f.address, length-append w records)) ∙ ap (λ y. patch y r' records) (sym h.memory)) (sym h.address)));
      address = omega (arith, o.address, h.address, length-append v bodies);
      apart = omega (arith, o.apart, f.address, h.address, length-append w records);
      size = (ap length h.memory ∙ patch_length mid a v) ∙ ((ap length f.memory ∙ patch_length area r w) ∙ o.size);
    }

-- the records and bodies from production p on, where its body begins at a
unfoldable pub rest_records : Grammar → ℕ → ℕ → List ℕ
rest_records g p a = records_from g a p (drop p g.productions)

unfoldable pub rest_bodies : Grammar → ℕ → ℕ → List ℕ
rest_bodies g p a = bodies_from g a (drop p g.productions)

abbrev pub record_at : Grammar → ℕ → ℕ → List ℕ
record_at g p a = record_words g a p (production_at g p) (drop (suc p) g.productions)

abbrev pub body_at : Grammar → ℕ → ℕ → List ℕ
body_at g p a = body_words g a (production_at g p)

module _ (g : Grammar) (w : WellFormed g) (p a : ℕ) where
  production_here : p < length g.productions → drop p g.productions ≡ production_at g p ∷ drop (suc p) g.productions
  production_here l = drop-cons g.productions p (whole_production g) l ∙ ap (λ q. q ∷ drop (suc p) g.productions) (sym (listed_at g w p l))

  pub records_turn : p < length g.productions → rest_records g p a ≡ record_at g p a ++ rest_records g (p + 1) (a + body_size g (production_at g p))
  unfolding rest_records
  records_turn l = let s : suc p ≡ p + 1 = omega arith in ap (records_from g a p) (production_here l) ∙ ap (λ z. record_at g p a ++ records_from g (a + body_size g (production_at g p)) z (drop z g.productions)) s

  pub bodies_turn : p < length g.productions → rest_bodies g p a ≡ body_at g p a ++ rest_bodies g (p + 1) (a + body_size g (production_at g p))
  unfolding rest_bodies
  bodies_turn l = let s : suc p ≡ p + 1 = omega arith in ap (bodies_from g a) (production_here l) ∙ ap (λ z. body_at g p a ++ bodies_from g (a + body_size g (production_at g p)) (drop z g.productions)) s

  pub records_end : length g.productions ≤ p → rest_records g p a ≡ []
  unfolding rest_records
  records_end l = ap (records_from g a p) (drop_of_length-le g.productions {i = p} l)

  pub bodies_end : length g.productions ≤ p → rest_bodies g p a ≡ []
  unfolding rest_bodies
  bodies_end l = ap (bodies_from g a) (drop_of_length-le g.productions {i = p} l)
