-- How long the program of a well-formed grammar gets.
use Rattle.std.specs.Prelude.{ℕ, suc, ◌+◌, ◌*◌, ◌≤◌, ◌<◌, ◌≡◌, refl, Bool, true, false, not, List, [], ◌∷◌, ◌++◌, map, length, T, eqb, ltb, leb}
use Rattle.std.proofs.Common.{arith, inl, inr, length-append, leb→le, le→leb, eqb→eq}
use Rattle.std.proofs.lemmas.List.{length-map}
use Rattle.meaning.specs.Limits.{area_length, symbols_limit}
use Rattle.meaning.specs.Base.{In, keep, cons_if, total, is_empty}
use Rattle.meaning.specs.Grammar.{Symbol, Occurrence, Rule, Condition, Production, Grammar, added_for, production_at, condition_position, map_rule, map_condition, conditions_at}
use Rattle.meaning.specs.Rules.{WellFormed}
use Rattle.meaning.specs.Scheme.{Instruction, add, evaluate, expect, test, remove, select_inherited, select_after, rules_for, entry_tests, tests_after, inherited_rules, synthesized_rules, removed, symbol_scheme, symbols_scheme}
use Rattle.meaning.specs.Program.{instruction_words, scheme_words, body_size, records_from, bodies_from, waits, directory, bodies_address, segment_words, program_of}
use Rattle.theory_program.specs.WordsStand.{stands_whole, stands_within}
use Rattle.theory_program.specs.Code.{rules_length, conditions_length}
use Rattle.theory_program.specs.Addresses.{body_address, Begins, body_at, body_length, directory_length, records_length, waits_length, bodies_length, short_productions}
use Rattle.theory_program.specs.Proper.{keep_few, some_present}

-- ---- items by their position

module _ {A : Type 0} (position : A → ℕ) where
  abbrev here : ℕ → A → Bool
  here k x = eqb (position x) k

  abbrev onward : ℕ → A → Bool
  onward k x = leb k (position x)

  -- those at k and those behind k are among those from k on
  apart : (k : ℕ) (xs : List A) → length (keep (here k) xs) + length (keep (onward (suc k)) xs) ≤ length (keep (onward k) xs)
  apart k [] = omega arith
  apart k (x ∷ xs) =
      go (here k x) (onward (suc k) x) (onward k x)
      (λ t. le→leb k (position x) (omega (arith, eqb→eq (position x) k t)))
      (λ t. le→leb k (position x) (omega (arith, leb→le (suc k) (position x) t)))
      (λ s t. omega (arith, eqb→eq (position x) k s, leb→le (suc k) (position x) t))
      (apart k xs)
    where
      go : (a b c : Bool) → (T a → T c) → (T b → T c) → (T a → T b → ⊥) → length (keep (here k) xs) + length (keep (onward (suc k)) xs) ≤ length (keep (onward k) xs)
          → length (cons_if a x (keep (here k) xs)) + length (cons_if b x (keep (onward (suc k)) xs)) ≤ length (cons_if c x (keep (onward k) xs))
      go true true c h i j l = absurd (j tt tt)
      go true false true h i j l = omega arith
      go true false false h i j l = absurd (h tt)
      go false true true h i j l = omega arith
      go false true false h i j l = absurd (i tt)
      go false false true h i j l = omega arith
      go false false false h i j l = omega arith

-- ---- one scheme

words_if : (b : Bool) (i : Instruction) (is : List Instruction) (m : ℕ) → (T b → length (instruction_words i) ≤ m) → length (scheme_words (cons_if b i is)) ≤ m + length (scheme_words is)
words_if true i is m h = omega (arith, length-append (instruction_words i) (scheme_words is), h tt)
words_if false i is m h = omega arith

evaluate_words_lem : (rs : List (Rule ℕ)) → T (not (is_empty rs)) → length (instruction_words (evaluate rs)) ≤ 3 * length rs
evaluate_words_lem rs t = omega (arith, rules_length rs, some_present rs t)

test_words : (cs : List (Condition ℕ)) → T (not (is_empty cs)) → length (instruction_words (test cs)) ≤ 4 * length cs
test_words cs t = omega (arith, conditions_length cs, some_present cs t)

module _ (g : Grammar) (p : Production) where
  -- how many rules and conditions the positions from k on have
  abbrev rules_from : ℕ → ℕ
  rules_from k = length (keep (onward (λ (r : Rule Occurrence). r.target.position) k) p.rules)

  abbrev conditions_from : ℕ → ℕ
  conditions_from k = length (keep (onward condition_position k) p.conditions)

  symbol_words_lem : (k : ℕ) (x : Symbol) (rest : List Instruction) → length (scheme_words (symbol_scheme g p k x rest)) ≤ 2 + 3 * length (rules_for p k) + 4 * length (conditions_at p k) + length (scheme_words rest)
  symbol_words_lem k x rest =
      let rules = inherited_rules g p k in
      let tests = tests_after g p k in
      let behind = cons_if (not (is_empty tests)) (test tests) rest in
      let on_test = words_if (not (is_empty tests)) (test tests) rest (4 * length tests) (test_words tests) in
      let on_evaluate = words_if (not (is_empty rules)) (evaluate rules) (expect x ∷ behind) (3 * length rules) (evaluate_words_lem rules) in
      let on_add = words_if (ltb 0 (added_for g x)) (add (added_for g x)) (cons_if (not (is_empty rules)) (evaluate rules) (expect x ∷ behind)) 1 (λ t. omega arith) in
      omega (arith, on_test, on_evaluate, on_add, length-map (rules_for p k) (map_rule (select_inherited g p k)), length-map (conditions_at p k) (map_condition (select_after g p k)))

  symbols_words_lem : (k : ℕ) (xs : List Symbol) (rest : List Instruction) → length (scheme_words (symbols_scheme g p k xs rest)) ≤ 2 * length xs + 3 * rules_from k + 4 * conditions_from k + length (scheme_words rest)
  symbols_words_lem k [] rest = omega arith
  symbols_words_lem k (x ∷ xs) rest =
      omega (arith, symbol_words_lem k x (symbols_scheme g p (suc k) xs rest), symbols_words_lem (suc k) xs rest, apart (λ (r : Rule Occurrence). r.target.position) k p.rules, apart condition_position k p.conditions)

  pub body_most : body_size g p ≤ 3 * length p.right + 3 * length p.rules + 4 * length p.conditions + 1
  body_most =
      let rules = synthesized_rules g p in
      let tail = remove (removed g p) ∷ [] in
      let on_rules = words_if (not (is_empty rules)) (evaluate rules) tail (3 * length rules) (evaluate_words_lem rules) in
      let on_symbols = symbols_words_lem 1 p.right (cons_if (not (is_empty rules)) (evaluate rules) tail) in
      omega (
        arith,
        on_rules,
        on_symbols,
        conditions_length (entry_tests g p),
        length-map (rules_for p 0) (map_rule (select_after g p (length p.right))),
        length-map (conditions_at p 0) (map_condition (select_after g p 0)),
        apart (λ (r : Rule Occurrence). r.target.position) 0 p.rules,
        apart condition_position 0 p.conditions,
        keep_few (onward (λ (r : Rule Occurrence). r.target.position) 0) p.rules,
        keep_few (onward condition_position 0) p.conditions,
      )

-- ---- all of it

bodies_most : (g : Grammar) (ps : List Production) → ((p : Production) → In p ps → length p.right ≤ symbols_limit) → total (map (body_size g) ps) ≤ 37 * length ps + 3 * total (map (λ p. length p.rules) ps) + 4 * total (map (λ p. length p.conditions) ps)
bodies_most g [] h = omega arith
bodies_most g (p ∷ ps) h = omega (arith, body_most g p, h p (inl refl), bodies_most g ps (λ q i. h q (inr i)))

pub program_length : (g : Grammar) → WellFormed g → length (program_of g) ≡ bodies_address g + total (map (body_size g) g.productions)
program_length g w =
    let records = records_from g (bodies_address g) 0 g.productions in
    let bodies = bodies_from g (bodies_address g) g.productions in
    let behind = records ++ (waits g ++ bodies) in
    omega (
      arith,
      length-append (segment_words g) (directory g ++ behind),
      length-append (directory g) behind,
      length-append records (waits g ++ bodies),
      length-append (waits g) bodies,
      directory_length g,
      records_length g (bodies_address g) 0 g.productions,
      waits_length g g.productions (short_productions w),
      bodies_length g (bodies_address g) g.productions,
    )

pub program_most : (g : Grammar) → WellFormed g → length (program_of g) ≤ 15497
program_most g w =
    omega (arith, program_length g w, bodies_most g g.productions (λ p i. (w.each p i).short), w.nonterminals.1, w.productions.1, w.rules, w.conditions)

-- the shortest area that a call takes is long enough
pub program_fits : (g : Grammar) → WellFormed g → length (program_of g) ≤ area_length
program_fits g w = omega (arith, program_most g w)

-- ---- every address is in the program

module _ (g : Grammar) (w : WellFormed g) (p : ℕ) (l : p < length g.productions) where
  abbrev itself : Begins g (program_of g)
  itself = record { words = stands_whole (program_of g) }

  pub body_within : body_address g p + body_size g (production_at g p) ≤ length (program_of g)
  body_within = omega (arith, stands_within (body_at itself w p l), body_length g (body_address g p) (production_at g p))
