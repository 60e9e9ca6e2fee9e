-- Numbers of four and of eight bytes, read from a list of bytes and written to one: both ways round.
use Rattle.std.specs.Prelude.{ℕ, zero, suc, ◌+◌, ◌-◌, ◌*◌, ◌/◌, ◌%◌, ◌≤◌, ◌<◌, ◌≡◌, refl, Bool, true, false, ◌&&◌, List, [], ◌∷◌, ◌++◌, get_or, length, drop, T, ltb, ℤ, pos, negsuc}
use Rattle.std.proofs.Common.{arith, add-one, sym, ap, ap₂, ◌∙◌, append_assoc, drop-cons, drop-drop, get_or-drop, leb→le, lt-ltb, le-ltb}
use Rattle.std.proofs.Math.Decide.{dec_lt}
use Rattle.std.proofs.Math.Seq.{drop-append_seam}
use Rattle.std.specs.Int.Signed.{le_z}
use Rattle.value.specs.Overflow.{reach}
use Rattle.meaning.specs.Base.{all}
use Rattle.meaning.specs.Layout.{four_bytes, Bytes}
use Rattle.meaning.specs.Table.{byte}
use Rattle.meaning.specs.Value.{in_range, lowest}
use Rattle.meaning_sheet.specs.Sheet.{complement, eight_bytes, value_bytes}
use Rattle.theory_base.specs.Members.{both}
use Rattle.theory_table.specs.Numbers.{joined, four_joined, joined_four, small}
use Rattle.value.specs.Constants.{word_at}

-- ---- a list from a place on

pub drop_past : {A : Type 0} (s a r : List A) (i : ℕ) → drop i s ≡ a ++ r → drop (i + length a) s ≡ r
drop_past s a r i e = sym (drop-drop (length a) i s) ∙ (ap (drop (length a)) e ∙ drop-append_seam a r)

pub cons_one : {A : Type 0} (s : List A) (d : A) (i : ℕ) → i < length s → drop i s ≡ get_or s i d ∷ drop (i + 1) s
cons_one s d i h = rw add-one (drop-cons s i d h)

-- the byte at a place behind i
byte_behind : (b : List ℕ) (i k : ℕ) (r : List ℕ) → drop i b ≡ r → byte b (i + k) ≡ get_or r k 0
byte_behind b i k r e = sym (get_or-drop i b k 0) ∙ ap (λ l. get_or l k 0) e

byte_here : (b : List ℕ) (i : ℕ) (r : List ℕ) → drop i b ≡ r → byte b i ≡ get_or r 0 0
byte_here b i r e = ap (byte b) (omega arith) ∙ byte_behind b i 0 r e

-- ---- four bytes

-- a longer number is read without what four bytes do not hold
four_rest : (n : ℕ) → joined (n / 16777216 % 256) (n / 65536 % 256) (n / 256 % 256) (n % 256) ≡ n % 4294967296
four_rest n =
    let m : ℕ = n % 4294967296 in
    let a : n / 16777216 % 256 ≡ m / 16777216 % 256 = omega arith in
    let b : n / 65536 % 256 ≡ m / 65536 % 256 = omega arith in
    let c : n / 256 % 256 ≡ m / 256 % 256 = omega arith in
    let d : n % 256 ≡ m % 256 = omega arith in
    rw (a, b, c, d) (four_joined m (omega arith))

pub word_rest : (b : List ℕ) (i n : ℕ) (r : List ℕ) → drop i b ≡ four_bytes n ++ r → word_at b i ≡ n % 4294967296
word_rest b i n r e =
    rw (byte_here b i (four_bytes n ++ r) e, byte_behind b i 1 (four_bytes n ++ r) e, byte_behind b i 2 (four_bytes n ++ r) e, byte_behind b i 3 (four_bytes n ++ r) e) (four_rest n)

pub word_back : (b : List ℕ) (i n : ℕ) (r : List ℕ) → n < 4294967296 → drop i b ≡ four_bytes n ++ r → word_at b i ≡ n
word_back b i n r l e = word_rest b i n r e ∙ omega arith

pub word_small : (b : List ℕ) → Bytes b → (i : ℕ) → word_at b i < 4294967296
word_small b h i =
    let x = small b h i in
    let y = small b h (i + 1) in
    let z = small b h (i + 2) in
    let w = small b h (i + 3) in
    omega arith

-- the four bytes that stand at a place
four_here : (b : List ℕ) (i : ℕ) → i + 4 ≤ length b → drop i b ≡ byte b i ∷ byte b (i + 1) ∷ byte b (i + 2) ∷ byte b (i + 3) ∷ drop (i + 4) b
four_here b i l =
    let e₁ : i + 1 + 1 ≡ i + 2 = omega arith in
    let e₂ : i + 2 + 1 ≡ i + 3 = omega arith in
    let e₃ : i + 3 + 1 ≡ i + 4 = omega arith in
    let a = cons_one b 0 i (omega arith) in
    let c = cons_one b 0 (i + 1) (omega arith) ∙ ap (λ n. byte b (i + 1) ∷ drop n b) e₁ in
    let d = cons_one b 0 (i + 2) (omega arith) ∙ ap (λ n. byte b (i + 2) ∷ drop n b) e₂ in
    let f = cons_one b 0 (i + 3) (omega arith) ∙ ap (λ n. byte b (i + 3) ∷ drop n b) e₃ in
    a ∙ ap (λ r. byte b i ∷ r) (c ∙ ap (λ r. byte b (i + 1) ∷ r) (d ∙ ap (λ r. byte b (i + 2) ∷ r) f))

pub word_there : (b : List ℕ) → Bytes b → (i : ℕ) → i + 4 ≤ length b → drop i b ≡ four_bytes (word_at b i) ++ drop (i + 4) b
word_there b h i l =
    four_here b i l ∙ ap (λ r. r ++ drop (i + 4) b) (sym (joined_four (byte b i) (byte b (i + 1)) (byte b (i + 2)) (byte b (i + 3)) (small b h i) (small b h (i + 1)) (small b h (i + 2)) (small b h (i + 3))))

-- ---- eight bytes

-- the number that 64 bits stand for
abbrev long_if : Bool → ℕ → ℤ
long_if true n = pos n
long_if false n = negsuc (18446744073709551615 - n)

unfoldable pub long_of : ℕ → ℤ
long_of n = long_if (ltb n 9223372036854775808) n

-- the two words as one number, and the value
unfoldable pub bits_at : List ℕ → ℕ → ℕ
bits_at b i = word_at b i * 4294967296 + word_at b (i + 4)

unfoldable pub long_at : List ℕ → ℕ → ℤ
long_at b i = long_of (bits_at b i)

pub long_low : (n : ℕ) → n < 9223372036854775808 → long_of n ≡ pos n
unfolding long_of
long_low n l = ap (λ c. long_if c n) (lt-ltb n 9223372036854775808 l)

pub long_high : (n : ℕ) → 9223372036854775808 ≤ n → long_of n ≡ negsuc (18446744073709551615 - n)
unfolding long_of
long_high n l = ap (λ c. long_if c n) (le-ltb n 9223372036854775808 l)

-- a value in range needs far less than 64 bits
in_low : (n : ℕ) → T (in_range (pos n)) → n ≤ reach
in_low n t = leb→le n reach t

in_high : (n : ℕ) → T (in_range (negsuc n)) → n ≤ 999999999999
in_high n t = leb→le n 999999999999 (both (le_z lowest (negsuc n)) true t).0

long_back : (v : ℤ) → T (in_range v) → long_of (complement v) ≡ v
long_back (pos n) t = long_low n (let l = in_low n t in omega arith)
long_back (negsuc n) t = let l = in_high n t in long_high (18446744073709551615 - n) (omega arith) ∙ ap negsuc (omega arith)

back_long : (n : ℕ) → n < 18446744073709551616 → complement (long_of n) ≡ n
back_long n l = go (dec_lt n 9223372036854775808)
  where
    go : Dec (n < 9223372036854775808) → complement (long_of n) ≡ n
    go (yes s) = ap complement (long_low n s)
    go (no s) = ap complement (long_high n (omega arith)) ∙ omega arith

complement_small : (v : ℤ) → T (in_range v) → complement v < 18446744073709551616
complement_small (pos n) t = let l = in_low n t in omega arith
complement_small (negsuc n) t = omega arith

pub long_read : (b : List ℕ) (i : ℕ) (v : ℤ) (r : List ℕ) → T (in_range v) → drop i b ≡ eight_bytes v ++ r → long_at b i ≡ v
unfolding long_at bits_at
long_read b i v r t e =
    let c : ℕ = complement v in
    let l : c < 18446744073709551616 = complement_small v t in
    let high : word_at b i ≡ c / 4294967296 = word_back b i (c / 4294967296) (four_bytes c ++ r) (omega arith) e in
    let behind : drop (i + 4) b ≡ four_bytes c ++ r = drop_past b (four_bytes (c / 4294967296)) (four_bytes c ++ r) i e in
    let low : word_at b (i + 4) ≡ c % 4294967296 = word_rest b (i + 4) c r behind in
    rw (high, low) (ap long_of (omega arith) ∙ long_back v t)

pub long_there : (b : List ℕ) → Bytes b → (i : ℕ) → i + 8 ≤ length b → drop i b ≡ eight_bytes (long_at b i) ++ drop (i + 8) b
unfolding long_at bits_at
long_there b h i l =
    let x : ℕ = word_at b i in
    let y : ℕ = word_at b (i + 4) in
    let sx : x < 4294967296 = word_small b h i in
    let sy : y < 4294967296 = word_small b h (i + 4) in
    let n : ℕ = x * 4294967296 + y in
    let c : complement (long_of n) ≡ n = back_long n (omega arith) in
    let high : complement (long_of n) / 4294967296 ≡ x = omega arith in
    let four : i + 4 + 4 ≡ i + 8 = omega arith in
    let low : four_bytes (complement (long_of n)) ≡ four_bytes y = ap four_bytes c ∙ low_four x y sx sy in
    word_there b h i (omega arith) ∙ ap₂ (λ p q. p ++ q) (ap four_bytes (sym high)) (word_there b h (i + 4) (omega arith) ∙ ap₂ (λ p q. p ++ q) (sym low) (ap (λ k. drop k b) four))
  where
    low_four : (x y : ℕ) → x < 4294967296 → y < 4294967296 → four_bytes (x * 4294967296 + y) ≡ four_bytes y
    low_four x y sx sy =
        let n : ℕ = x * 4294967296 + y in
        let e₁ : n / 16777216 % 256 ≡ y / 16777216 % 256 = omega arith in
        let e₂ : n / 65536 % 256 ≡ y / 65536 % 256 = omega arith in
        let e₃ : n / 256 % 256 ≡ y / 256 % 256 = omega arith in
        let e₄ : n % 256 ≡ y % 256 = omega arith in
        rw (e₁, e₂, e₃, e₄)

-- ---- values one after the other

unfoldable pub longs : List ℕ → ℕ → ℕ → List ℤ
longs b i zero = []
longs b i (suc n) = long_at b i ∷ longs b (i + 8) n

pub longs_size : (b : List ℕ) (i n : ℕ) → length (longs b i n) ≡ n
unfolding longs
longs_size b i zero = refl
longs_size b i (suc n) = ap suc (longs_size b (i + 8) n)

pub longs_read : (b : List ℕ) (i : ℕ) (vs : List ℤ) (r : List ℕ) → T (all in_range vs) → drop i b ≡ value_bytes vs ++ r → longs b i (length vs) ≡ vs
unfolding longs
longs_read b i [] r t e = refl
longs_read b i (v ∷ vs) r t e =
    let h = both (in_range v) (all in_range vs) t in
    let e' : drop i b ≡ eight_bytes v ++ (value_bytes vs ++ r) = e ∙ append_assoc (eight_bytes v) (value_bytes vs) r in
    ap₂ ◌∷◌ (long_read b i v (value_bytes vs ++ r) h.0 e') (longs_read b (i + 8) vs r h.1 (drop_past b (eight_bytes v) (value_bytes vs ++ r) i e'))

pub longs_there : (b : List ℕ) → Bytes b → (i n : ℕ) → i + 8 * n ≤ length b → drop i b ≡ value_bytes (longs b i n) ++ drop (i + 8 * n) b
unfolding longs
longs_there b h i zero l = let e : i ≡ i + 8 * 0 = omega arith in ap (λ k. drop k b) e
longs_there b h i (suc n) l =
    let e : i + 8 + 8 * n ≡ i + 8 * suc n = omega arith in
    long_there b h i (omega arith)
    ∙ (ap (λ r. eight_bytes (long_at b i) ++ r) (longs_there b h (i + 8) n (omega arith) ∙ ap (λ k. value_bytes (longs b (i + 8) n) ++ drop k b) e)
    ∙ sym (append_assoc (eight_bytes (long_at b i)) (value_bytes (longs b (i + 8) n)) (drop (i + 8 * suc n) b)))

pub longs_at : (b : List ℕ) (i n k : ℕ) → k < n → get_or (longs b i n) k (pos 0) ≡ long_at b (i + 8 * k)
unfolding longs
longs_at b i zero k l = absurd (omega arith)
longs_at b i (suc n) zero l = ap (long_at b) (omega arith)
longs_at b i (suc n) (suc k) l = longs_at b (i + 8) n k (omega arith) ∙ ap (long_at b) (omega arith)

-- all of them are values, one by one
pub longs_none : (b : List ℕ) (i n : ℕ) → n ≡ 0 → all in_range (longs b i n) ≡ true
unfolding longs
longs_none b i n e = ap (λ k. all in_range (longs b i k)) e

pub longs_more : (b : List ℕ) (i n : ℕ) → 0 < n → all in_range (longs b i n) ≡ in_range (long_at b i) && all in_range (longs b (i + 8) (n - 1))
unfolding longs
longs_more b i zero l = absurd (omega arith)
longs_more b i (suc n) l = let e : n ≡ suc n - 1 = omega arith in ap (λ k. in_range (long_at b i) && all in_range (longs b (i + 8) k)) e
