-- Bytes laid over others from an offset on; those past the end are dropped.
use Rattle.std.specs.Prelude.{ℕ, zero, suc, ◌+◌, ◌-◌, ◌*◌, ◌/◌, ◌%◌, ◌≤◌, ◌<◌, ◌≡◌, refl, List, [], ◌∷◌, ◌++◌, length, get_or, set, take, drop, ℤ}
use Rattle.std.proofs.Common.{arith, sym, ap, ◌∙◌, append_assoc, append-nil, length-append, length-take, length-drop, take-add, drop-drop, drop-cons}
use Rattle.meaning.specs.Layout.{four_bytes}
use Rattle.meaning.specs.Machine.{read_register}
use Rattle.meaning.specs.Value.{mark}
use Rattle.meaning_sheet.specs.Sheet.{complement, eight_bytes, value_bytes, record_bytes}

unfoldable pub overlay : ℕ → List ℕ → List ℕ → List ℕ
overlay k [] mem = mem
overlay k (b ∷ bs) mem = overlay (suc k) bs (set mem k b)

pub overlay_none : (k : ℕ) (mem : List ℕ) → overlay k [] mem ≡ mem
unfolding overlay
overlay_none k mem = refl

pub overlay_append : (xs ys : List ℕ) (k : ℕ) (mem : List ℕ) → overlay k (xs ++ ys) mem ≡ overlay (k + length xs) ys (overlay k xs mem)
unfolding overlay
overlay_append [] ys k mem = ap (λ n. overlay n ys mem) (omega arith)
overlay_append (x ∷ xs) ys k mem = overlay_append xs ys (suc k) (set mem k x) ∙ ap (λ n. overlay n ys (overlay (suc k) xs (set mem k x))) (omega arith)

set_apart : (mem : List ℕ) (i j x y : ℕ) → i < j → set (set mem i x) j y ≡ set (set mem j y) i x
set_apart [] i j x y h = refl
set_apart (b ∷ mem) zero zero x y h = absurd (omega arith)
set_apart (b ∷ mem) zero (suc j) x y h = refl
set_apart (b ∷ mem) (suc i) zero x y h = absurd (omega arith)
set_apart (b ∷ mem) (suc i) (suc j) x y h = ap (λ z. b ∷ z) (set_apart mem i j x y (omega arith))

overlay_set : (ys : List ℕ) (k i x : ℕ) (mem : List ℕ) → i < k → overlay k ys (set mem i x) ≡ set (overlay k ys mem) i x
unfolding overlay
overlay_set [] k i x mem h = refl
overlay_set (y ∷ ys) k i x mem h = ap (overlay (suc k) ys) (set_apart mem i k x y h) ∙ overlay_set ys (suc k) i x (set mem k y) (omega arith)

-- what lies behind may be laid first
pub overlay_behind : (xs ys : List ℕ) (k n : ℕ) (mem : List ℕ) → n ≡ k + length xs → overlay k xs (overlay n ys mem) ≡ overlay k (xs ++ ys) mem
unfolding overlay
overlay_behind [] ys k n mem e = ap (λ j. overlay j ys mem) (omega arith)
overlay_behind (x ∷ xs) ys k n mem e = ap (overlay (suc k) xs) (sym (overlay_set ys n k x mem (omega arith))) ∙ overlay_behind xs ys (suc k) n (set mem k x) (omega arith)

-- from the first byte on, where there is room for all of them
set_at : (front mem : List ℕ) (b x : ℕ) → set (front ++ (b ∷ mem)) (length front) x ≡ front ++ (x ∷ mem)
set_at [] mem b x = refl
set_at (f ∷ front) mem b x = ap (λ z. f ∷ z) (set_at front mem b x)

overlay_from : (xs front mem : List ℕ) (k : ℕ) → k ≡ length front → length xs ≤ length mem → overlay k xs (front ++ mem) ≡ front ++ (xs ++ drop (length xs) mem)
unfolding overlay
overlay_from [] front mem k e l = refl
overlay_from (x ∷ xs) front [] k e l = absurd (omega arith)
overlay_from (x ∷ xs) front (b ∷ mem) k e l =
    ap (λ j. overlay (suc k) xs (set (front ++ (b ∷ mem)) j x)) e
    ∙ (ap (overlay (suc k) xs) (set_at front mem b x ∙ sym (append_assoc front (x ∷ []) mem))
    ∙ (overlay_from xs (front ++ (x ∷ [])) mem (suc k) (omega (arith, length-append front (x ∷ []))) (omega arith)
    ∙ append_assoc front (x ∷ []) (xs ++ drop (length xs) mem)))

pub overlay_all : (xs mem : List ℕ) → length xs ≤ length mem → overlay 0 xs mem ≡ xs ++ drop (length xs) mem
overlay_all xs mem l = overlay_from xs [] mem 0 refl l

-- ---- a record's length

pub values_length : (vs : List ℤ) → length (value_bytes vs) ≡ 8 * length vs
values_length [] = refl
values_length (v ∷ vs) = omega (arith, values_length vs)

pub record_length : (p b w : ℕ) (vs : List ℤ) → length (record_bytes p b w vs) ≡ 12 + 8 * length vs
record_length p b w vs = omega (arith, values_length vs)

-- ---- numbers, one after the other

pub four_laid : (k n : ℕ) (m a b c d : List ℕ) → a ≡ set m k (n / 16777216 % 256) → b ≡ set a (k + 1) (n / 65536 % 256) → c ≡ set b (k + 2) (n / 256 % 256) → d ≡ set c (k + 3) (n % 256) → d ≡ overlay k (four_bytes n) m
unfolding overlay
four_laid k n m a b c d e f g h =
    let one : k + 1 ≡ suc k = omega arith in
    let two : k + 2 ≡ suc (suc k) = omega arith in
    let three : k + 3 ≡ suc (suc (suc k)) = omega arith in
    h ∙ rw (three, g, two, f, one, e) refl

pub eight_laid : (k n : ℕ) (v : ℤ) (m a b : List ℕ) → n ≡ complement v → a ≡ overlay k (four_bytes (n / 4294967296)) m → b ≡ overlay (k + 4) (four_bytes n) a → b ≡ overlay k (eight_bytes v) m
eight_laid k n v m a b z e f = f ∙ (ap (overlay (k + 4) (four_bytes n)) e ∙ (sym (overlay_append (four_bytes (n / 4294967296)) (four_bytes n) k m) ∙ ap (λ j. overlay k (four_bytes (j / 4294967296) ++ four_bytes j) m) z))

values_append : (vs ws : List ℤ) → value_bytes (vs ++ ws) ≡ value_bytes vs ++ value_bytes ws
values_append [] ws = refl
values_append (v ∷ vs) ws = ap (λ z. eight_bytes v ++ z) (values_append vs ws) ∙ sym (append_assoc (eight_bytes v) (value_bytes vs) (value_bytes ws))

-- the values of some registers from the top: one more
pub value_laid : (k i above : ℕ) (rs : List ℤ) (v : ℤ) (m a b : List ℕ) → above + i < length rs → v ≡ read_register rs (above + i + 1) → a ≡ overlay k (value_bytes (take i (drop above rs))) m → b ≡ overlay (k + 8 * i) (eight_bytes v) a → b ≡ overlay k (value_bytes (take (i + 1) (drop above rs))) m
value_laid k i above rs v m a b l r e f =
    let here : above + i + 1 - 1 ≡ above + i = omega arith in
    let is : get_or rs (above + i) mark ≡ v = ap (λ j. get_or rs j mark) (sym here) ∙ sym r in
    let next : take (i + 1) (drop above rs) ≡ take i (drop above rs) ++ (v ∷ []) = take-add i 1 (drop above rs) ∙ (ap (λ z. take i (drop above rs) ++ take 1 z) (drop-drop i above rs ∙ drop-cons rs (above + i) mark l) ∙ ap (λ z. take i (drop above rs) ++ (z ∷ [])) is) in
    let size : length (value_bytes (take i (drop above rs))) ≡ 8 * i = values_length (take i (drop above rs)) ∙ omega (arith, length-take i (drop above rs), length-drop above rs) in
    f
    ∙ (ap (overlay (k + 8 * i) (eight_bytes v)) e
    ∙ (ap (λ n. overlay (k + n) (eight_bytes v) (overlay k (value_bytes (take i (drop above rs))) m)) (sym size)
    ∙ (sym (overlay_append (value_bytes (take i (drop above rs))) (eight_bytes v) k m)
    ∙ ap (λ z. overlay k z m) (ap (λ z. value_bytes (take i (drop above rs)) ++ z) (sym (append-nil (eight_bytes v))) ∙ (sym (values_append (take i (drop above rs)) (v ∷ [])) ∙ ap value_bytes (sym next))))))

-- a record
pub record_laid : (k p before covered : ℕ) (vs : List ℤ) (m a b c d : List ℕ) → a ≡ overlay k (four_bytes p) m → b ≡ overlay (k + 4) (four_bytes before) a → c ≡ overlay (k + 8) (four_bytes covered) b → d ≡ overlay (k + 12) (value_bytes vs) c → d ≡ overlay k (record_bytes p before covered vs) m
record_laid k p before covered vs m a b c d e f g h =
    let eight : k + 8 ≡ k + 4 + 4 = omega arith in
    let twelve : k + 12 ≡ k + 4 + 4 + 4 = omega arith in
    h
    ∙ (ap (overlay (k + 12) (value_bytes vs)) g
    ∙ (ap (λ n. overlay n (value_bytes vs) (overlay (k + 8) (four_bytes covered) b)) twelve
    ∙ (ap (λ n. overlay (k + 4 + 4 + 4) (value_bytes vs) (overlay n (four_bytes covered) b)) eight
    ∙ (sym (overlay_append (four_bytes covered) (value_bytes vs) (k + 4 + 4) b)
    ∙ (ap (overlay (k + 4 + 4) (four_bytes covered ++ value_bytes vs)) f
    ∙ (sym (overlay_append (four_bytes before) (four_bytes covered ++ value_bytes vs) (k + 4) a)
    ∙ (ap (overlay (k + 4) (four_bytes before ++ (four_bytes covered ++ value_bytes vs))) e
    ∙ sym (overlay_append (four_bytes p) (four_bytes before ++ (four_bytes covered ++ value_bytes vs)) k m))))))))
