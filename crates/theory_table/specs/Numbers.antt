-- Numbers, symbols, rules and conditions as bytes, and read back: both ways round.
use Rattle.std.specs.Prelude.{ℕ, zero, suc, ◌+◌, ◌-◌, ◌*◌, ◌/◌, ◌%◌, ◌≤◌, ◌<◌, ◌≡◌, refl, Bool, true, false, not, ◌&&◌, ◌||◌, List, [], ◌∷◌, ◌++◌, map, get_or, length, ℤ, pos, negsuc, T, eqb, ltb, leb}
use Rattle.std.proofs.Common.{arith, sym, ap, ap₂, ◌∙◌, subst, lt-ltb, le-ltb, leb→le, le→leb, ltb→lt, lt→ltb, nltb→le}
use Rattle.std.proofs.Math.Decide.{dec_lt}
use Rattle.std.proofs.Math.ListN.{get_or-eq_default}
use Rattle.std.specs.Int.Signed.{le_z}
use Rattle.meaning.specs.Base.{count_from}
use Rattle.meaning.specs.Grammar.{Symbol, terminal, nonterminal, Occurrence, Function, const, functions_of, Binary, binary_number, copy, binary, sum, diff, prod, maxi, mini, addc, quot, Rule, Condition, range, atmost, Grammar, nonterminal_base}
use Rattle.meaning.specs.Layout.{unsigned, four_bytes, constant_bytes, occurrence_bytes, symbol_byte, function_bytes, rule_bytes, condition_bytes, Bytes}
use Rattle.std.proofs.Math.Option.{Option, none, some}
use Rattle.meaning.specs.Rules.{InFourBytes, Constant, Proper, Known, WellFormed}
use Rattle.meaning.specs.Limits.{divisor_limit}
use Rattle.meaning.specs.Table.{byte, signed, constant_at, occurrence_at, symbol_of, rule_of, condition_of, rule_length, condition_length}
use Rattle.theory_base.specs.Members.{and, get_d_in}

-- ---- lengths in two bytes

pub two_bytes : (n : ℕ) → n / 256 * 256 + n % 256 ≡ n
two_bytes n = omega arith

pub high_byte : (high low n : ℕ) → low < 256 → high * 256 + low ≡ n → high ≡ n / 256
high_byte high low n l e = omega arith

pub low_byte : (high low n : ℕ) → low < 256 → high * 256 + low ≡ n → low ≡ n % 256
low_byte high low n l e = omega arith

-- ---- constants

abbrev pub joined : ℕ → ℕ → ℕ → ℕ → ℕ
joined x y z w = ((x * 256 + y) * 256 + z) * 256 + w

pub four_joined : (n : ℕ) → n < 4294967296 → joined (n / 16777216 % 256) (n / 65536 % 256) (n / 256 % 256) (n % 256) ≡ n
four_joined n l =
    let a : n / 256 * 256 + n % 256 ≡ n = omega arith in
    let b : n / 65536 * 256 + n / 256 % 256 ≡ n / 256 = omega arith in
    let c : n / 16777216 * 256 + n / 65536 % 256 ≡ n / 65536 = omega arith in
    let d : n / 16777216 % 256 ≡ n / 16777216 = omega arith in
    rw (d, c, b, a)

-- four bytes joined, taken apart again
pub joined_four : (x y z w : ℕ) → x < 256 → y < 256 → z < 256 → w < 256 → four_bytes (joined x y z w) ≡ x ∷ y ∷ z ∷ w ∷ []
joined_four x y z w a b c d =
    let n : ℕ = joined x y z w in
    let e₁ : n / 16777216 % 256 ≡ x = omega arith in
    let e₂ : n / 65536 % 256 ≡ y = omega arith in
    let e₃ : n / 256 % 256 ≡ z = omega arith in
    let e₄ : n % 256 ≡ w = omega arith in
    rw (e₁, e₂, e₃, e₄)

pub unsigned_small : (c : ℤ) → InFourBytes c → unsigned c < 4294967296
unsigned_small (pos n) h = let l = leb→le n 2147483647 h.1 in omega arith
unsigned_small (negsuc n) h = omega arith

pub signed_unsigned : (c : ℤ) → InFourBytes c → signed (unsigned c) ≡ c
signed_unsigned (pos n) h = let l = leb→le n 2147483647 h.1 in go (ltb n 2147483648) (lt→ltb n 2147483648 (omega arith))
  where
    go : (b : Bool) → T b → ◌≡◌ {A = ℤ} (elim b [ true ↦ pos n | false ↦ negsuc (4294967295 - n) ]) (pos n)
    go true t = refl
    go false t = absurd t
signed_unsigned (negsuc n) h =
    let l : n ≤ 2147483647 = leb→le n 2147483647 h.0 in
    let m : ℕ = 4294967295 - n in
    go (ltb m 2147483648) (λ t. let k = ltb→lt m 2147483648 t in omega arith) (omega arith)
  where
    go : (b : Bool) → (T b → ⊥) → 4294967295 - (4294967295 - n) ≡ n → ◌≡◌ {A = ℤ} (elim b [ true ↦ pos (4294967295 - n) | false ↦ negsuc (4294967295 - (4294967295 - n)) ]) (negsuc n)
    go true t e = absurd (t tt)
    go false t e = ap negsuc e

-- a constant as it is read from its four bytes
pub constant_back : (c : ℤ) → InFourBytes c → let n : ℕ = unsigned c in signed (joined (n / 16777216 % 256) (n / 65536 % 256) (n / 256 % 256) (n % 256)) ≡ c
constant_back c h = ap signed (four_joined (unsigned c) (unsigned_small c h)) ∙ signed_unsigned c h

unsigned_signed : (n : ℕ) → n < 4294967296 → unsigned (signed n) ≡ n
unsigned_signed n l = go (ltb n 2147483648)
  where
    go : (b : Bool) → unsigned (elim b [ true ↦ pos n | false ↦ negsuc (4294967295 - n) ]) ≡ n
    go true = refl
    go false = omega arith

-- every number read from a table is a byte
pub small : (b : List ℕ) → Bytes b → (i : ℕ) → byte b i < 256
small b h i = go (dec_lt i (length b))
  where
    go : Dec (i < length b) → byte b i < 256
    go (yes l) = h (byte b i) (get_d_in b i 0 l)
    go (no l) = rw (get_or-eq_default b 0 {n = i} (omega arith)) (omega arith)

constant_bytes_lem : (b : List ℕ) (i : ℕ) → Bytes b → byte b i ∷ byte b (i + 1) ∷ byte b (i + 2) ∷ byte b (i + 3) ∷ [] ≡ constant_bytes (constant_at b i)
constant_bytes_lem b i h =
    let x = small b h i in
    let y = small b h (i + 1) in
    let z = small b h (i + 2) in
    let w = small b h (i + 3) in
    sym (ap four_bytes (unsigned_signed (joined (byte b i) (byte b (i + 1)) (byte b (i + 2)) (byte b (i + 3))) (omega arith)) ∙ joined_four (byte b i) (byte b (i + 1)) (byte b (i + 2)) (byte b (i + 3)) x y z w)

-- ---- symbols

-- by its byte
symbol_by_lem : (b : Bool) (n : ℕ) → ltb n nonterminal_base ≡ b → symbol_of n ≡ elim b [ true ↦ terminal n | false ↦ nonterminal (n - nonterminal_base) ]
symbol_by_lem b n e = rw (sym e)

pub symbol_terminal : (n : ℕ) → n < nonterminal_base → symbol_of n ≡ terminal n
symbol_terminal n h = symbol_by_lem true n (lt-ltb n nonterminal_base h)

pub symbol_nonterminal : (n : ℕ) → nonterminal_base ≤ n → symbol_of n ≡ nonterminal (n - nonterminal_base)
symbol_nonterminal n h = symbol_by_lem false n (le-ltb n nonterminal_base h)

pub symbol_back : (x : Symbol) → ((t : ℕ) → x ≡ terminal t → t < nonterminal_base) → symbol_of (symbol_byte x) ≡ x
symbol_back (terminal t) h = symbol_terminal t (h t refl)
symbol_back (nonterminal n) h = symbol_nonterminal (nonterminal_base + n) (omega arith) ∙ ap nonterminal {x = nonterminal_base + n - nonterminal_base} {y = n} (omega arith)

-- a symbol of a well-formed grammar
pub known_back : (g : Grammar) → WellFormed g → (x : Symbol) → Known g x → symbol_of (symbol_byte x) ≡ x
known_back g w x k = symbol_back x (λ t e. let l : t < g.terminals = subst (Known g) e k in omega (arith, w.terminals.1))

pub byte_back : (n : ℕ) → symbol_byte (symbol_of n) ≡ n
byte_back n = go (ltb n nonterminal_base) (λ t. nltb→le n nonterminal_base t)
  where
    go : (b : Bool) → (T (not b) → nonterminal_base ≤ n) → symbol_byte (elim b [ true ↦ terminal n | false ↦ nonterminal (n - nonterminal_base) ]) ≡ n
    go true k = refl
    go false k = let l = k tt in omega arith

pub bytes_back : (xs : List ℕ) → map symbol_byte (map symbol_of xs) ≡ xs
bytes_back [] = refl
bytes_back (x ∷ xs) = ap₂ ◌∷◌ (byte_back x) (bytes_back xs)

-- ---- a list by its places

listed_from : (f : ℕ → ℕ) (k n : ℕ) (xs : List ℕ) → length xs ≡ n → ((i : ℕ) → i < n → byte xs i ≡ f (k + i)) → xs ≡ map f (count_from k n)
listed_from f k zero [] e h = refl
listed_from f k zero (x ∷ xs) e h = absurd (omega arith)
listed_from f k (suc n) [] e h = absurd (omega arith)
listed_from f k (suc n) (x ∷ xs) e h = ap₂ ◌∷◌ (h 0 (omega arith) ∙ ap f (omega arith)) (listed_from f (suc k) n xs (omega arith) (λ i l. h (suc i) (omega arith) ∙ ap f (omega arith)))

pub listed : (n : ℕ) (b : List ℕ) → length b ≡ n → b ≡ map (byte b) (count_from 0 n)
listed n b e = listed_from (byte b) 0 n b e (λ i l. ap (byte b) (omega arith))

-- ---- rules

-- what a body lists for each function's number
abbrev functions : List ℕ → List (Function Occurrence)
functions b = functions_of (occurrence_at b 3) (occurrence_at b 5) (constant_at b 3) (constant_at b 5)

function_bytes_lem : (b : List ℕ) (f : ℕ) → Bytes b → f ≤ 8 → byte b 2 ≡ f → length b ≡ rule_length f → b ≡ occurrence_bytes (occurrence_at b 0) ++ function_bytes (get_or (functions b) f (const (pos 0)))
function_bytes_lem b zero h l e n = listed 7 b n ∙ ap₂ (λ x ys. byte b 0 ∷ byte b 1 ∷ x ∷ ys) e (constant_bytes_lem b 3 h)
function_bytes_lem b (suc zero) h l e n = listed 5 b n ∙ ap (λ x. byte b 0 ∷ byte b 1 ∷ x ∷ byte b 3 ∷ byte b 4 ∷ []) e
function_bytes_lem b (suc (suc zero)) h l e n = listed 7 b n ∙ ap (λ x. byte b 0 ∷ byte b 1 ∷ x ∷ byte b 3 ∷ byte b 4 ∷ byte b 5 ∷ byte b 6 ∷ []) e
function_bytes_lem b (suc (suc (suc zero))) h l e n = listed 7 b n ∙ ap (λ x. byte b 0 ∷ byte b 1 ∷ x ∷ byte b 3 ∷ byte b 4 ∷ byte b 5 ∷ byte b 6 ∷ []) e
function_bytes_lem b (suc (suc (suc (suc zero)))) h l e n = listed 7 b n ∙ ap (λ x. byte b 0 ∷ byte b 1 ∷ x ∷ byte b 3 ∷ byte b 4 ∷ byte b 5 ∷ byte b 6 ∷ []) e
function_bytes_lem b (suc (suc (suc (suc (suc zero))))) h l e n = listed 7 b n ∙ ap (λ x. byte b 0 ∷ byte b 1 ∷ x ∷ byte b 3 ∷ byte b 4 ∷ byte b 5 ∷ byte b 6 ∷ []) e
function_bytes_lem b (suc (suc (suc (suc (suc (suc zero)))))) h l e n = listed 7 b n ∙ ap (λ x. byte b 0 ∷ byte b 1 ∷ x ∷ byte b 3 ∷ byte b 4 ∷ byte b 5 ∷ byte b 6 ∷ []) e
function_bytes_lem b (suc (suc (suc (suc (suc (suc (suc zero))))))) h l e n = listed 9 b n ∙ ap₂ (λ x ys. byte b 0 ∷ byte b 1 ∷ x ∷ byte b 3 ∷ byte b 4 ∷ ys) e (constant_bytes_lem b 5 h)
function_bytes_lem b (suc (suc (suc (suc (suc (suc (suc (suc zero)))))))) h l e n = listed 9 b n ∙ ap₂ (λ x ys. byte b 0 ∷ byte b 1 ∷ x ∷ byte b 3 ∷ byte b 4 ∷ ys) e (constant_bytes_lem b 5 h)
function_bytes_lem b (suc (suc (suc (suc (suc (suc (suc (suc (suc f))))))))) h l e n = absurd (omega arith)

-- a rule's body of the right length is the rule's bytes
pub rule_bytes_lem : (b : List ℕ) → Bytes b → byte b 2 ≤ 8 → length b ≡ rule_length (byte b 2) → b ≡ rule_bytes (rule_of b)
rule_bytes_lem b h l n = function_bytes_lem b (byte b 2) h l refl n

-- and a rule is read back from its bytes
pub record RuleRead (r : Rule Occurrence) : Type 0 where
  pub same : rule_of (rule_bytes r) ≡ r
  pub long : T (leb 3 (length (rule_bytes r)))
  pub named : T (leb (byte (rule_bytes r) 2) 8)
  pub right : T (ltb 8 (byte (rule_bytes r) 2) || eqb (length (rule_bytes r)) (rule_length (byte (rule_bytes r) 2)))
  pub divides : T (not (eqb (byte (rule_bytes r) 2) 8) || (le_z (pos 1) (constant_at (rule_bytes r) 5) && le_z (constant_at (rule_bytes r) 5) (pos divisor_limit)))

abbrev rule_with : Occurrence → Function Occurrence → Rule Occurrence
rule_with o f = record { target = o; function = f }

pub divisor_in : (c : ℤ) → T (le_z (pos 1) c) × T (le_z c (pos divisor_limit)) → InFourBytes c
divisor_in (pos n) h = (tt, le→leb n 2147483647 (omega (arith, leb→le n divisor_limit h.1)))
divisor_in (negsuc n) h = absurd h.0

-- behind the functions of two operands come those with a constant
pub binary_most : (f : Binary) → binary_number f ≤ 6
binary_most sum = omega arith
binary_most diff = omega arith
binary_most prod = omega arith
binary_most maxi = omega arith
binary_most mini = omega arith

rule_read_of : (o : Occurrence) (f : Function Occurrence) → Constant f → RuleRead (rule_with o f)
rule_read_of o (const c) h = record { same = ap (λ z. rule_with o (const z)) (constant_back c h); long = tt; named = tt; right = tt; divides = tt }
rule_read_of o (copy a) h = record { same = refl; long = tt; named = tt; right = tt; divides = tt }
rule_read_of o (binary sum a b) h = record { same = refl; long = tt; named = tt; right = tt; divides = tt }
rule_read_of o (binary diff a b) h = record { same = refl; long = tt; named = tt; right = tt; divides = tt }
rule_read_of o (binary prod a b) h = record { same = refl; long = tt; named = tt; right = tt; divides = tt }
rule_read_of o (binary maxi a b) h = record { same = refl; long = tt; named = tt; right = tt; divides = tt }
rule_read_of o (binary mini a b) h = record { same = refl; long = tt; named = tt; right = tt; divides = tt }
rule_read_of o (addc a c) h = record { same = ap (λ z. rule_with o (addc a z)) (constant_back c h); long = tt; named = tt; right = tt; divides = tt }
rule_read_of o (quot a c) h =
    let e = constant_back c (divisor_in c h) in
    record { same = ap (λ z. rule_with o (quot a z)) e; long = tt; named = tt; right = tt; divides = subst (λ z. T (le_z (pos 1) z && le_z z (pos divisor_limit))) (sym e) (and (le_z (pos 1) c) (le_z c (pos divisor_limit)) h.0 h.1) }

pub rule_read : (r : Rule Occurrence) → Constant r.function → RuleRead r
rule_read r h = rule_read_of r.target r.function h

-- ---- conditions

abbrev offset_by : List ℕ → Bool → Option ℤ
offset_by b d = elim d [ true ↦ none | false ↦ some (constant_at b 5) ]

abbrev condition_by : List ℕ → ℕ → Bool → Condition Occurrence
condition_by b k c = elim c as (λ x. Condition Occurrence) [ true ↦ range (occurrence_at b 1) (constant_at b 3) (constant_at b 7) | false ↦ atmost (occurrence_at b 1) (occurrence_at b 3) (offset_by b (eqb k 1)) ]

kind_bytes : (b : List ℕ) (k : ℕ) → Bytes b → k ≤ 2 → byte b 0 ≡ k → length b ≡ condition_length k → b ≡ condition_bytes (condition_by b k (eqb k 0))
kind_bytes b zero h l e n = listed 11 b n ∙ ap (λ x. x ∷ byte b 1 ∷ byte b 2 ∷ byte b 3 ∷ byte b 4 ∷ byte b 5 ∷ byte b 6 ∷ byte b 7 ∷ byte b 8 ∷ byte b 9 ∷ byte b 10 ∷ []) e ∙ ap₂ (λ xs ys. 0 ∷ byte b 1 ∷ byte b 2 ∷ xs ++ ys) (constant_bytes_lem b 3 h) (constant_bytes_lem b 7 h)
kind_bytes b (suc zero) h l e n = listed 5 b n ∙ ap (λ x. x ∷ byte b 1 ∷ byte b 2 ∷ byte b 3 ∷ byte b 4 ∷ []) e
kind_bytes b (suc (suc zero)) h l e n = listed 9 b n ∙ ap (λ x. x ∷ byte b 1 ∷ byte b 2 ∷ byte b 3 ∷ byte b 4 ∷ byte b 5 ∷ byte b 6 ∷ byte b 7 ∷ byte b 8 ∷ []) e ∙ ap (λ xs. 2 ∷ byte b 1 ∷ byte b 2 ∷ byte b 3 ∷ byte b 4 ∷ xs) (constant_bytes_lem b 5 h)
kind_bytes b (suc (suc (suc k))) h l e n = absurd (omega arith)

pub condition_bytes_lem : (b : List ℕ) → Bytes b → byte b 0 ≤ 2 → length b ≡ condition_length (byte b 0) → b ≡ condition_bytes (condition_of b)
condition_bytes_lem b h l n = kind_bytes b (byte b 0) h l refl n

pub record ConditionRead (c : Condition Occurrence) : Type 0 where
  pub same : condition_of (condition_bytes c) ≡ c
  pub long : T (leb 1 (length (condition_bytes c)))
  pub named : T (leb (byte (condition_bytes c) 0) 2)
  pub right : T (ltb 2 (byte (condition_bytes c) 0) || eqb (length (condition_bytes c)) (condition_length (byte (condition_bytes c) 0)))

pub condition_read : (c : Condition Occurrence) → Proper c → ConditionRead c
condition_read (range o l u) h = record { same = ap₂ (λ x y. range o x y) (constant_back l h.0) (constant_back u h.1); long = tt; named = tt; right = tt }
condition_read (atmost o u none) h = record { same = refl; long = tt; named = tt; right = tt }
condition_read (atmost o u (some c)) h = record { same = ap (λ z. atmost o u (some z)) (constant_back c h); long = tt; named = tt; right = tt }
