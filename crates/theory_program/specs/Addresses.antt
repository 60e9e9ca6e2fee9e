-- Where everything stands in a list that begins with the program: the words on the whole segment, the directory, the records, what places wait at, the bodies.
use Rattle.std.specs.Prelude.{ℕ, zero, suc, ◌+◌, ◌-◌, ◌*◌, ◌≤◌, ◌<◌, ◌≡◌, refl, not, List, [], ◌∷◌, ◌++◌, map, length, get_or, drop, replicate}
use Rattle.std.proofs.Common.{arith, sym, ap, ◌∙◌, subst, inl, inr, length-append, get_or-append-add}
use Rattle.std.proofs.lemmas.List.{length-map, length-replicate}
use Rattle.std.proofs.Math.ListN.{get_or-append}
use Rattle.meaning.specs.Limits.{symbols_limit}
use Rattle.meaning.specs.Base.{In, count_from, total, is_empty}
use Rattle.meaning.specs.Grammar.{Symbol, nonterminal, syn, Production, Grammar, nonterminal_count, production_at, whole, whole_production}
use Rattle.meaning.specs.Rules.{WellFormed}
use Rattle.meaning.specs.Scheme.{evaluate, remove, removed, scheme, entry_tests, synthesized_rules}
use Rattle.meaning.specs.Machine.{expects, scheme_at}
use Rattle.meaning.specs.Calls.{from_expect}
use Rattle.meaning.specs.PublicCalls.{written}
use Rattle.meaning.specs.Program.{concat, scheme_words, expects_at, entry_words, scheme_offset, body_words, body_size, bodies_from, record_words, records_from, waits_from, wait_row, waits, directory_word, directory, records_address, waits_address, bodies_address, segment_words, program_of, symbol_head}
pub use Rattle.meaning.specs.Program.{bodies_before, body_address, scheme_address}
use Rattle.theory_base.specs.WellFormed.{listed_at, well_formed_at}
use Rattle.theory_base.specs.Frames.{expects_skip, expects_symbols}
use Rattle.theory_sets.specs.Tests.{tabled}
use Rattle.theory_base.specs.Members.{length_count_from}
use Rattle.theory_program.specs.WordsStand.{WordsStand, stands_at, stands_in, stands_first, stands_behind, stands_left, stands_right, stands_word}
use Rattle.theory_program.specs.Code.{CodeAt, ConditionsAt, conditions_length, expects_length, code_from}

-- ---- addresses

abbrev pub record_address : Grammar → ℕ → ℕ
record_address g p = records_address g + 8 * p

-- of the word that says what the place with no symbol passed waits at
abbrev pub wait_address : Grammar → ℕ → ℕ
wait_address g p = waits_address g + symbols_limit * p

abbrev pub entry_address : Grammar → ℕ → ℕ
entry_address g p = body_address g p + length (production_at g p).right

-- of the expect of the symbol after the first k
abbrev pub expect_address : Grammar → ℕ → ℕ → ℕ
expect_address g p k = get_or (expects_at (scheme_address g p) (scheme g (production_at g p))) k 0

-- ---- lengths

pub expects_scheme : (g : Grammar) (p : Production) → expects (scheme g p) ≡ length p.right
expects_scheme g p =
    let tail = remove (removed g p) ∷ [] in
    expects_symbols g p 1 p.right _
    ∙ omega (arith, expects_skip (not (is_empty (synthesized_rules g p))) (evaluate (synthesized_rules g p)) tail refl)

pub body_length : (g : Grammar) (a : ℕ) (p : Production) → length (body_words g a p) ≡ body_size g p
body_length g a p =
    let es = expects_at (a + scheme_offset g p) (scheme g p) in
    length-append es (entry_words g p ++ scheme_words (scheme g p))
    ∙ omega (arith, length-append (entry_words g p) (scheme_words (scheme g p)), expects_length (a + scheme_offset g p) (scheme g p), expects_scheme g p)

pub records_length : (g : Grammar) (a i : ℕ) (ps : List Production) → length (records_from g a i ps) ≡ 8 * length ps
records_length g a i [] = refl
records_length g a i (p ∷ ps) = length-append (record_words g a i p ps) (records_from g (a + body_size g p) (suc i) ps) ∙ omega (arith, records_length g (a + body_size g p) (suc i) ps)

pub bodies_length : (g : Grammar) (a : ℕ) (ps : List Production) → length (bodies_from g a ps) ≡ total (map (body_size g) ps)
bodies_length g a [] = refl
bodies_length g a (p ∷ ps) = length-append (body_words g a p) (bodies_from g (a + body_size g p) ps) ∙ omega (arith, body_length g a p, bodies_length g (a + body_size g p) ps)

pub waits_from_length : (g : Grammar) (l n : ℕ) (xs : List Symbol) → length (waits_from g l n xs) ≡ length xs
waits_from_length g l n [] = refl
waits_from_length g l n (x ∷ xs) = ap suc (waits_from_length g l (n + syn g x) xs)

pub wait_row_length : (g : Grammar) (p : Production) → length p.right ≤ symbols_limit → length (wait_row g p) ≡ symbols_limit
wait_row_length g p s =
    length-append (waits_from g p.left 0 p.right) (replicate (symbols_limit - length p.right) 0)
    ∙ omega (arith, waits_from_length g p.left 0 p.right, length-replicate {A = ℕ} (symbols_limit - length p.right) 0)

-- of productions whose right sides have at most 12 symbols
abbrev pub Short : List Production → Type 0
Short ps = (p : Production) → In p ps → length p.right ≤ symbols_limit

pub waits_length : (g : Grammar) (ps : List Production) → Short ps → length (concat (map (wait_row g) ps)) ≡ symbols_limit * length ps
waits_length g [] h = refl
waits_length g (p ∷ ps) h = length-append (wait_row g p) (concat (map (wait_row g) ps)) ∙ omega (arith, wait_row_length g p (h p (inl refl)), waits_length g ps (λ q i. h q (inr i)))

-- ---- a table of rows of the same length

module _ (f : ℕ → ℕ → ℕ) (wide : ℕ) where
  abbrev row : ℕ → List ℕ
  row n = map (f n) (count_from 0 wide)

  row_length : (n : ℕ) → length (row n) ≡ wide
  row_length n = length-map (count_from 0 wide) (f n) ∙ length_count_from 0 wide

  rows_length_lem : (i n : ℕ) → length (concat (map row (count_from i n))) ≡ wide * n
  rows_length_lem i zero = omega arith
  rows_length_lem i (suc n) =
      let z : wide * suc n ≡ wide + wide * n = omega arith in
      length-append (row i) (concat (map row (count_from (suc i) n))) ∙ omega (arith, row_length i, rows_length_lem (suc i) n, z)

  pub row_at : (i n k u : ℕ) → k < n → u < wide → get_or (concat (map row (count_from i n))) (wide * k + u) 0 ≡ f (i + k) u
  row_at i zero k u l m = absurd (omega arith)
  row_at i (suc n) zero u l m =
      let rest = concat (map row (count_from (suc i) n)) in
      ap (λ b. get_or (row i ++ rest) b 0) (omega arith)
      ∙ (get_or-append (row i) rest 0 u (omega (arith, row_length i))
      ∙ (tabled (f i) wide u 0 m ∙ ap (λ j. f j u) (omega arith)))
  row_at i (suc n) (suc k) u l m =
      let rest = concat (map row (count_from (suc i) n)) in
      let z : wide * suc k ≡ wide + wide * k = omega arith in
      ap (λ b. get_or (row i ++ rest) b 0) (omega (arith, z, row_length i))
      ∙ (get_or-append-add (row i) rest (wide * k + u) 0
      ∙ (row_at (suc i) n k u (omega arith) m ∙ ap (λ j. f j u) (omega arith)))

pub directory_length : (g : Grammar) → length (directory g) ≡ 64 * nonterminal_count g
directory_length g = rows_length_lem (directory_word g) 64 0 (nonterminal_count g)

-- ---- the p-th record, the p-th row of what places wait at, and the p-th body

pub record_in : (g : Grammar) (a i : ℕ) (ps : List Production) (p : ℕ) (d : Production) (b j : ℕ) → p < length ps → a + bodies_before g p ps ≡ b → i + p ≡ j → WordsStand (records_from g a i ps) (8 * p) (record_words g b j (get_or ps p d) (drop (suc p) ps))
record_in g a i [] p d b j l e q = absurd (omega arith)
record_in g a i (r ∷ ps) zero d b j l e q =
    let x : a ≡ b = omega arith in
    let y : i ≡ j = omega arith in
    stands_at (8 * 0) (omega arith) (subst (λ c. WordsStand (records_from g a i (r ∷ ps)) 0 (record_words g c j r ps)) x (subst (λ c. WordsStand (records_from g a i (r ∷ ps)) 0 (record_words g a c r ps)) y (stands_first (record_words g a i r ps) (records_from g (a + body_size g r) (suc i) ps))))
record_in g a i (r ∷ ps) (suc p) d b j l e q =
    stands_at (8 * suc p) (omega arith) (stands_in (stands_behind (record_words g a i r ps) (records_from g (a + body_size g r) (suc i) ps)) (record_in g (a + body_size g r) (suc i) ps p d b j (omega arith) (omega arith) (omega arith)))

wait_in : (g : Grammar) (ps : List Production) (p : ℕ) (d : Production) → Short ps → p < length ps → WordsStand (concat (map (wait_row g) ps)) (symbols_limit * p) (wait_row g (get_or ps p d))
wait_in g [] p d h l = absurd (omega arith)
wait_in g (r ∷ ps) zero d h l = stands_at (symbols_limit * 0) (omega arith) (stands_first (wait_row g r) (concat (map (wait_row g) ps)))
wait_in g (r ∷ ps) (suc p) d h l =
    stands_at (symbols_limit * suc p) (omega (arith, wait_row_length g r (h r (inl refl)))) (stands_in (stands_behind (wait_row g r) (concat (map (wait_row g) ps))) (wait_in g ps p d (λ q i. h q (inr i)) (omega arith)))

body_in_lem : (g : Grammar) (a : ℕ) (ps : List Production) (p : ℕ) (d : Production) (b : ℕ) → p < length ps → a + bodies_before g p ps ≡ b → WordsStand (bodies_from g a ps) (bodies_before g p ps) (body_words g b (get_or ps p d))
body_in_lem g a [] p d b l e = absurd (omega arith)
body_in_lem g a (r ∷ ps) zero d b l e =
    let x : a ≡ b = omega arith in
    subst (λ c. WordsStand (bodies_from g a (r ∷ ps)) 0 (body_words g c r)) x (stands_first (body_words g a r) (bodies_from g (a + body_size g r) ps))
body_in_lem g a (r ∷ ps) (suc p) d b l e =
    stands_at (body_size g r + bodies_before g p ps) (omega (arith, body_length g a r)) (stands_in (stands_behind (body_words g a r) (bodies_from g (a + body_size g r) ps)) (body_in_lem g (a + body_size g r) ps p d b (omega arith) (omega arith)))

pub short_productions : {g : Grammar} → WellFormed g → Short g.productions
short_productions w p i = (w.each p i).short

-- ---- in a list that begins with the program

pub record Begins (g : Grammar) (ws : List ℕ) : Type 0 where
  pub words : WordsStand ws 0 (program_of g)

-- an area into which the program was written
pub written_begins : (g : Grammar) (area : List ℕ) → Begins g (written (program_of g) area)
written_begins g area = record { words = stands_first (program_of g) (drop (length (program_of g)) area) }

module _ {g : Grammar} {ws : List ℕ} (s : Begins g ws) where
  abbrev records : List ℕ
  records = records_from g (bodies_address g) 0 g.productions

  abbrev bodies : List ℕ
  bodies = bodies_from g (bodies_address g) g.productions

  -- what comes behind the directory
  abbrev behind : List ℕ
  behind = records ++ (waits g ++ bodies)

  pub segment_at : WordsStand ws 0 (segment_words g)
  segment_at = stands_left (segment_words g) (directory g ++ behind) s.words

  behind_segment : WordsStand ws 9 (directory g ++ behind)
  behind_segment = stands_right (segment_words g) (directory g ++ behind) s.words

  behind_directory : WordsStand ws (records_address g) behind
  behind_directory = stands_at (records_address g) (omega (arith, directory_length g)) (stands_right (directory g) behind behind_segment)

  behind_records : WordsStand ws (waits_address g) (waits g ++ bodies)
  behind_records = stands_at (waits_address g) (omega (arith, records_length g (bodies_address g) 0 g.productions)) (stands_right records (waits g ++ bodies) behind_directory)

  pub directory_at : (n u : ℕ) → n < nonterminal_count g → u < 64 → get_or ws (9 + 64 * n + u) 0 ≡ directory_word g n u
  directory_at n u l m =
      let here = stands_left (directory g) behind behind_segment in
      ap (λ a. get_or ws a 0) (omega arith)
      ∙ (stands_word here (64 * n + u) (omega (arith, directory_length g))
      ∙ (row_at (directory_word g) 64 0 (nonterminal_count g) n u l m ∙ ap (λ k. directory_word g k u) (omega arith)))

  -- the whole segment's scheme
  pub whole_at : CodeAt ws 0 (scheme_at g whole)
  whole_at = record { words = stands_left (symbol_head (nonterminal g.start) ∷ []) (drop 1 (segment_words g)) segment_at }

  module _ (w : WellFormed g) (p : ℕ) (l : p < length g.productions) where
    pub record_at_lem : WordsStand ws (record_address g p) (record_words g (body_address g p) p (production_at g p) (drop (suc p) g.productions))
    record_at_lem =
        let here = record_in g (bodies_address g) 0 g.productions p (whole_production g) (body_address g p) p l refl (omega arith) in
        subst (λ q. WordsStand ws (record_address g p) (record_words g (body_address g p) p q (drop (suc p) g.productions))) (sym (listed_at g w p l)) (stands_in (stands_left records (waits g ++ bodies) behind_directory) here)

    -- what its places wait at
    pub wait_row_at : WordsStand ws (wait_address g p) (wait_row g (production_at g p))
    wait_row_at =
        let here = wait_in g g.productions p (whole_production g) (short_productions w) l in
        subst (λ q. WordsStand ws (wait_address g p) (wait_row g q)) (sym (listed_at g w p l)) (stands_in (stands_left (waits g) bodies behind_records) here)

    pub wait_at_lem : (k : ℕ) → k < symbols_limit → get_or ws (wait_address g p + k) 0 ≡ get_or (wait_row g (production_at g p)) k 0
    wait_at_lem k m = stands_word wait_row_at k (omega (arith, wait_row_length g (production_at g p) (well_formed_at g w p l).short))

    pub body_at : WordsStand ws (body_address g p) (body_words g (body_address g p) (production_at g p))
    body_at =
        let here = body_in_lem g (bodies_address g) g.productions p (whole_production g) (body_address g p) l refl in
        let all = stands_right (waits g) bodies behind_records in
        subst (λ q. WordsStand ws (body_address g p) (body_words g (body_address g p) q)) (sym (listed_at g w p l)) (stands_at (body_address g p) (omega (arith, waits_length g g.productions (short_productions w))) (stands_in all here))

    abbrev addresses : List ℕ
    addresses = expects_at (scheme_address g p) (scheme g (production_at g p))

    addresses_length : length addresses ≡ length (production_at g p).right
    addresses_length = expects_length (scheme_address g p) (scheme g (production_at g p)) ∙ expects_scheme g (production_at g p)

    behind_addresses : WordsStand ws (entry_address g p) (entry_words g (production_at g p) ++ scheme_words (scheme g (production_at g p)))
    behind_addresses = stands_at (entry_address g p) (omega (arith, addresses_length)) (stands_right addresses (entry_words g (production_at g p) ++ scheme_words (scheme g (production_at g p))) body_at)

    pub entry_at : ConditionsAt ws (entry_address g p) (entry_tests g (production_at g p))
    entry_at = record { words = stands_left (entry_words g (production_at g p)) (scheme_words (scheme g (production_at g p))) behind_addresses }

    pub scheme_at_lem : CodeAt ws (scheme_address g p) (scheme g (production_at g p))
    scheme_at_lem = record { words = stands_at (scheme_address g p) (omega arith) (stands_right (entry_words g (production_at g p)) (scheme_words (scheme g (production_at g p))) behind_addresses) }

    pub expect_word : (k : ℕ) → k < length (production_at g p).right → get_or ws (body_address g p + k) 0 ≡ expect_address g p k
    expect_word k h = stands_word (stands_left addresses (entry_words g (production_at g p) ++ scheme_words (scheme g (production_at g p))) body_at) k (omega (arith, addresses_length))

    pub expect_at : (k : ℕ) → k < length (production_at g p).right → CodeAt ws (expect_address g p k) (from_expect (scheme g (production_at g p)) k)
    expect_at k h = code_from (scheme_address g p) (scheme g (production_at g p)) k (omega (arith, expects_scheme g (production_at g p))) scheme_at_lem

-- the entry tests stand right before the scheme
pub entry_before : (g : Grammar) (p : ℕ) → entry_address g p ≡ scheme_address g p - 3 * length (entry_tests g (production_at g p))
entry_before g p = omega (arith, conditions_length (entry_tests g (production_at g p)))
