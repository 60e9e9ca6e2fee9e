-- Every word of a well-formed grammar's program is a 32-bit number.
use Rattle.std.specs.Prelude.{ℕ, zero, suc, ◌+◌, ◌-◌, ◌*◌, ◌≤◌, ◌<◌, refl, ◌⊎◌, Bool, true, false, ◌&&◌, cond, List, [], ◌∷◌, ◌++◌, map, length, replicate, eqb}
use Rattle.std.proofs.Common.{arith, inl, inr, length-append}
use Rattle.std.proofs.Math.Option.{none, some}
use Rattle.meaning.specs.Limits.{area_length, productions_limit, symbols_limit}
use Rattle.meaning.specs.Base.{In, count_from, total}
use Rattle.meaning.specs.Grammar.{Symbol, terminal, nonterminal, Function, const, copy, binary, binary_number, addc, quot, Condition, range, atmost, Production, Grammar, syn, nonterminal_count, production_at}
use Rattle.meaning.specs.Rules.{Known, WellFormed}
use Rattle.meaning.specs.Scheme.{Instruction, add, evaluate, expect, test, remove, scheme, entry_tests}
use Rattle.meaning.specs.Sets.{has, starts}
use Rattle.meaning.specs.Program.{concat, packed, function_words, rule_words, condition_words, symbol_head, instruction_words, scheme_words, expects_at, entry_words, scheme_offset, body_words, body_size, bodies_from, first_of, record_words, head_of, add_operation, evaluate_operation, test_operation, remove_operation}
use Rattle.meaning.specs.Program.{records_from, wait_word, waits_from, wait_row, waits, first_alternative, entry_of, directory_word, directory, bodies_address, body_address, scheme_address, segment_words, program_of, carriers}
use Rattle.theory_base.specs.Members.{map_in, in_append}
use Rattle.theory_table.specs.Numbers.{unsigned_small, divisor_in, binary_most}
use Rattle.theory_program.specs.WordsStand.{stands_first, stands_within}
use Rattle.theory_program.specs.Code.{expects_below}
use Rattle.theory_program.specs.Addresses.{Begins, body_at, body_length}
use Rattle.theory_program.specs.Proper.{ProperRule, ProperCondition, ProperInstruction, att_most, added_most, scheme_proper, entry_proper, entry_most}
use Rattle.theory_program.specs.SetWords.{bits_small}
use Rattle.theory_program.specs.Sizes.{program_length, program_most}
use Rattle.theory_program.specs.Waits.{byte_most}

abbrev pub Small : List ℕ → Type 0
Small ws = (v : ℕ) → In v ws → v < 4294967296

-- ---- lists

small_cons : (x : ℕ) (xs : List ℕ) → x < 4294967296 → Small xs → Small (x ∷ xs)
small_cons x xs l h v (inl e) = omega arith
small_cons x xs l h v (inr i) = h v i

small_nil : Small []
small_nil v i = absurd i

-- for a list that is written out
abbrev EachSmall : List ℕ → Type 0
EachSmall [] = Unit {0}
EachSmall (x ∷ xs) = (x < 4294967296) × EachSmall xs

each_small : (xs : List ℕ) → EachSmall xs → Small xs
each_small [] h = small_nil
each_small (x ∷ xs) h = small_cons x xs h.0 (each_small xs h.1)

small_append : (xs ys : List ℕ) → Small xs → Small ys → Small (xs ++ ys)
small_append xs ys h k v i = go (in_append v xs ys i)
  where
    go : In v xs ⊎ In v ys → v < 4294967296
    go (inl j) = h v j
    go (inr j) = k v j

small_concat : {A : Type 0} (f : A → List ℕ) (xs : List A) → ((x : A) → In x xs → Small (f x)) → Small (concat (map f xs))
small_concat f [] h = small_nil
small_concat f (x ∷ xs) h = small_append (f x) (concat (map f xs)) (h x (inl refl)) (small_concat f xs (λ y i. h y (inr i)))

small_map : {A : Type 0} (f : A → ℕ) → ((x : A) → f x < 4294967296) → (xs : List A) → Small (map f xs)
small_map f h xs v i = let m = map_in f xs v i in let l = h m.0 in omega (arith, m.2)

-- ---- rules and conditions

packed_small : (t f a b : ℕ) → t ≤ 127 → f ≤ 8 → a ≤ 127 → b ≤ 127 → packed t f a b < 4294967296
packed_small t f a b k l m n = omega arith

two_small : (t f a b c : ℕ) → t ≤ 127 → f ≤ 8 → a ≤ 127 → b ≤ 127 → c < 4294967296 → Small (packed t f a b ∷ c ∷ [])
two_small t f a b c k l m n o = each_small (packed t f a b ∷ c ∷ []) (packed_small t f a b k l m n, (o, tt))

function_small : (t : ℕ) (f : Function ℕ) → ProperRule (record { target = t; function = f }) → Small (function_words t f)
function_small t (const c) p = two_small t 0 0 0 _ p.target.1 (omega arith) (omega arith) (omega arith) (unsigned_small c p.constant)
function_small t (copy a) p = two_small t 1 a 0 0 p.target.1 (omega arith) p.operands.1 (omega arith) (omega arith)
function_small t (binary f a b) p = two_small t (binary_number f) a b 0 p.target.1 (omega (arith, binary_most f)) p.operands.0.1 p.operands.1.1 (omega arith)
function_small t (addc a c) p = two_small t 7 a 0 _ p.target.1 (omega arith) p.operands.1 (omega arith) (unsigned_small c p.constant)
function_small t (quot a c) p = two_small t 8 a 0 _ p.target.1 (omega arith) p.operands.1 (omega arith) (unsigned_small c (divisor_in c p.constant))

condition_small : (c : Condition ℕ) → ProperCondition c → Small (condition_words c)
condition_small (range a l h) p = each_small (condition_words (range a l h)) (packed_small a 0 0 0 p.reads.1 (omega arith) (omega arith) (omega arith), (unsigned_small l p.bounds.0, (unsigned_small h p.bounds.1, tt)))
condition_small (atmost a b none) p = each_small (condition_words (atmost a b none)) (packed_small a 1 b 0 p.reads.0.1 (omega arith) p.reads.1.1 (omega arith), (omega arith, (omega arith, tt)))
condition_small (atmost a b (some c)) p = each_small (condition_words (atmost a b (some c))) (packed_small a 2 b 0 p.reads.0.1 (omega arith) p.reads.1.1 (omega arith), (unsigned_small c p.bounds, (omega arith, tt)))

-- ---- instructions

symbol_small : (g : Grammar) → WellFormed g → (x : Symbol) → Known g x → symbol_head x < 4294967296
symbol_small g w (terminal t) k = omega (arith, w.terminals.1)
symbol_small g w (nonterminal n) k = omega (arith, w.nonterminals.1)

instruction_small : (g : Grammar) → WellFormed g → (i : Instruction) → ProperInstruction g i → Small (instruction_words i)
instruction_small g w (add n) p = small_cons (head_of add_operation n) [] (omega (arith, p.1)) small_nil
instruction_small g w (evaluate rs) p = small_cons (head_of evaluate_operation (length rs)) (concat (map rule_words rs)) (omega (arith, p.1)) (small_concat rule_words rs (λ r i. function_small r.target r.function (p.2 r i)))
instruction_small g w (expect x) p = small_cons (symbol_head x) [] (symbol_small g w x p) small_nil
instruction_small g w (test cs) p = small_cons (head_of test_operation (length cs)) (concat (map condition_words cs)) (omega (arith, p.1)) (small_concat condition_words cs (λ c i. condition_small c (p.2 c i)))
instruction_small g w (remove n) p = small_cons (head_of remove_operation n) [] (omega arith) small_nil

first_below : (f : Production → Bool) (i : ℕ) (ps : List Production) → first_of f i ps ≤ i + length ps
first_below f i [] = omega arith
first_below f i (p ∷ ps) = go (f p) (first_below f (suc i) ps)
  where
    go : (b : Bool) → first_of f (suc i) ps ≤ suc i + length ps → elim b as (λ x. ℕ) [ true ↦ suc i | false ↦ first_of f (suc i) ps ] ≤ i + suc (length ps)
    go true h = omega arith
    go false h = omega arith

-- ---- bodies and records

module _ (g : Grammar) (w : WellFormed g) where
  body_small : (a : ℕ) (p : Production) → In p g.productions → a + body_size g p ≤ area_length → Small (body_words g a p)
  body_small a p i l =
      let s = a + scheme_offset g p in
      small_append (expects_at s (scheme g p)) (entry_words g p ++ scheme_words (scheme g p))
      (λ v j. omega (arith, expects_below s (scheme g p) v j))
      (small_append (entry_words g p) (scheme_words (scheme g p))
      (small_concat condition_words (entry_tests g p) (λ c j. condition_small c (entry_proper g w p i c j)))
      (small_concat instruction_words (scheme g p) (λ x j. instruction_small g w x (scheme_proper g w p i x j))))

  bodies_small : (a : ℕ) (ps : List Production) → ((p : Production) → In p ps → In p g.productions) → a + total (map (body_size g) ps) ≤ area_length → Small (bodies_from g a ps)
  bodies_small a [] h l = small_nil
  bodies_small a (p ∷ ps) h l = small_append (body_words g a p) (bodies_from g (a + body_size g p) ps) (body_small a p (h p (inl refl)) (omega arith)) (bodies_small (a + body_size g p) ps (λ q i. h q (inr i)) (omega arith))

  record_small : (a i : ℕ) (p : Production) (later : List Production) → In p g.productions → a + body_size g p ≤ area_length → suc i + length later ≤ productions_limit → Small (record_words g a i p later)
  record_small a i p later j l m =
      let f = w.each p j in
      let next = first_below (λ q. eqb q.left p.left) (suc i) later in
      let tests = entry_most g w p j in
      each_small (record_words g a i p later)
      (omega (arith, f.left, w.nonterminals.1), (omega (arith, next), (bits_small (starts g p) 0 32, (bits_small (starts g p) 32 32, (omega arith, (omega (arith, tests), (omega arith, (omega (arith, f.short), tt))))))))

  records_small : (a i : ℕ) (ps : List Production) → ((p : Production) → In p ps → In p g.productions) → a + total (map (body_size g) ps) ≤ area_length → i + length ps ≤ productions_limit → Small (records_from g a i ps)
  records_small a i [] h l m = small_nil
  records_small a i (p ∷ ps) h l m = small_append (record_words g a i p ps) (records_from g (a + body_size g p) (suc i) ps) (record_small a i p ps (h p (inl refl)) (omega arith) (omega arith)) (records_small (a + body_size g p) (suc i) ps (λ q j. h q (inr j)) (omega arith) (omega arith))

  -- n registers are passed, and at most 8 more with each symbol
  waits_small : (l n : ℕ) (xs : List Symbol) → l < nonterminal_count g → ((x : Symbol) → In x xs → Known g x) → n + 8 * length xs ≤ 96 → Small (waits_from g l n xs)
  waits_small l n [] h k m = small_nil
  waits_small l n (x ∷ xs) h k m =
      let a = att_most g w x in
      let b = added_most g w x in
      small_cons (wait_word g l n x) (waits_from g l (n + syn g x) xs) (omega (arith, w.nonterminals.1, byte_most g w x (k x (inl refl)))) (waits_small l (n + syn g x) xs h (λ y i. k y (inr i)) (omega arith))

  none_small : (n : ℕ) → Small (replicate n 0)
  none_small zero = small_nil
  none_small (suc n) = small_cons 0 (replicate n 0) (omega arith) (none_small n)

  wait_row_small : (p : Production) → In p g.productions → Small (wait_row g p)
  wait_row_small p i =
      let f = w.each p i in
      small_append (waits_from g p.left 0 p.right) (replicate (symbols_limit - length p.right) 0) (waits_small p.left 0 p.right f.left f.symbols (omega (arith, f.short))) (none_small (symbols_limit - length p.right))

  -- where a scheme begins is inside the program
  pub scheme_below : (p : ℕ) → p < length g.productions → scheme_address g p ≤ area_length
  scheme_below p l =
      let b : Begins g (program_of g ++ []) = record { words = stands_first (program_of g) [] } in
      omega (arith, stands_within (body_at b w p l), body_length g (body_address g p) (production_at g p), length-append (program_of g) [], program_most g w)

  pub entry_below : (k : ℕ) → k ≤ length g.productions → entry_of g k < 4294967296
  entry_below zero l = omega arith
  entry_below (suc p) l = go (eqb (length (entry_tests g (production_at g p))) 0)
    where
      go : (b : Bool) → suc p + 256 * cond b (scheme_address g p) 0 < 4294967296
      go true = omega (arith, scheme_below p (omega arith), w.productions.1)
      go false = omega (arith, w.productions.1)

  directory_small : Small (directory g)
  directory_small =
      let most : (n u : ℕ) → first_alternative g n u ≤ length g.productions = λ n u. omega (arith, first_below (λ p. eqb p.left n && has (starts g p) u) 0 g.productions) in
      small_concat (λ n. map (directory_word g n) (count_from 0 64)) (count_from 0 (nonterminal_count g)) (λ n i. small_map (directory_word g n) (λ u. entry_below (first_alternative g n u) (most n u)) (count_from 0 64))

  segment_small : Small (segment_words g)
  segment_small =
      let a = att_most g w (nonterminal g.start) in
      let u = w.nonterminals.1 in
      let v = w.productions.1 in
      each_small (segment_words g)
      (symbol_small g w (nonterminal g.start) w.start, (omega arith, (omega arith, (omega (arith, w.terminals.1), (omega arith, (omega (arith, w.result.1), (omega arith, (bits_small (carriers g) 0 32, (bits_small (carriers g) 32 32, tt)))))))))

  pub program_small : Small (program_of g)
  program_small =
      let records = records_from g (bodies_address g) 0 g.productions in
      let bodies = bodies_from g (bodies_address g) g.productions in
      let l : bodies_address g + total (map (body_size g) g.productions) ≤ area_length = omega (arith, program_length g w, program_most g w) in
      small_append (segment_words g) (directory g ++ (records ++ (waits g ++ bodies))) segment_small
      (small_append (directory g) (records ++ (waits g ++ bodies)) directory_small
      (small_append records (waits g ++ bodies)
      (records_small (bodies_address g) 0 g.productions (λ p i. i) l (omega (arith, w.productions.1)))
      (small_append (waits g) bodies
      (small_concat (wait_row g) g.productions wait_row_small)
      (bodies_small (bodies_address g) g.productions (λ p i. i) l))))
