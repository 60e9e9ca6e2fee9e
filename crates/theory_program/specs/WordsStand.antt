-- Words that stand in a list from an address on.
use Rattle.std.specs.Prelude.{ℕ, ◌+◌, ◌≤◌, ◌<◌, ◌≡◌, refl, List, [], ◌∷◌, ◌++◌, length, get_or}
use Rattle.std.proofs.Common.{arith, sym, ap, ◌∙◌, subst, append_assoc, append-nil, length-append, get_or-append-add}
use Rattle.std.proofs.Math.ListN.{get_or-append}

pub record WordsStand (ws : List ℕ) (a : ℕ) (xs : List ℕ) : Type 0 where
  pub before : List ℕ
  pub after : List ℕ
  pub is_list : ws ≡ before ++ (xs ++ after)
  pub address : length before ≡ a

pub stands_whole : (ws : List ℕ) → WordsStand ws 0 ws
stands_whole ws = record { before = []; after = []; is_list = sym (append-nil ws); address = refl }

-- the address under another name
pub stands_at : {ws : List ℕ} {a : ℕ} {xs : List ℕ} (b : ℕ) → a ≡ b → WordsStand ws a xs → WordsStand ws b xs
stands_at b e s = record { before = s.before; after = s.after; is_list = s.is_list; address = s.address ∙ e }

-- in the words that stand there
pub stands_in : {ws : List ℕ} {a : ℕ} {xs : List ℕ} {b : ℕ} {ys : List ℕ} → WordsStand ws a xs → WordsStand xs b ys → WordsStand ws (a + b) ys
stands_in {ys = ys} s t = record {
  before = s.before ++ t.before;
  after = t.after ++ s.after;
  is_list = s.is_list ∙ (ap (λ l. s.before ++ (l ++ s.after)) t.is_list ∙ regroup);
  address = length-append s.before t.before ∙ omega (arith, s.address, t.address);
}
  where
    regroup : s.before ++ ((t.before ++ (ys ++ t.after)) ++ s.after) ≡ (s.before ++ t.before) ++ (ys ++ (t.after ++ s.after))
    regroup = ap (λ l. s.before ++ l) (append_assoc t.before (ys ++ t.after) s.after ∙ ap (λ l. t.before ++ l) (append_assoc ys t.after s.after)) ∙ sym (append_assoc s.before t.before (ys ++ (t.after ++ s.after)))

-- a first part, and what comes behind it
pub stands_first : (xs ys : List ℕ) → WordsStand (xs ++ ys) 0 xs
stands_first xs ys = record { before = []; after = ys; is_list = refl; address = refl }

pub stands_behind : (xs ys : List ℕ) → WordsStand (xs ++ ys) (length xs) ys
stands_behind xs ys = record { before = xs; after = []; is_list = ap (λ l. xs ++ l) (sym (append-nil ys)); address = refl }

pub stands_left : {ws : List ℕ} {a : ℕ} (xs ys : List ℕ) → WordsStand ws a (xs ++ ys) → WordsStand ws a xs
stands_left {a = a} xs ys s = stands_at a (omega arith) (stands_in s (stands_first xs ys))

pub stands_right : {ws : List ℕ} {a : ℕ} (xs ys : List ℕ) → WordsStand ws a (xs ++ ys) → WordsStand ws (a + length xs) ys
stands_right xs ys s = stands_in s (stands_behind xs ys)

pub stands_tail : {ws : List ℕ} {a : ℕ} {x : ℕ} {xs : List ℕ} → WordsStand ws a (x ∷ xs) → WordsStand ws (a + 1) xs
stands_tail {x = x} {xs = xs} s = stands_right (x ∷ []) xs s

-- ---- what is read

pub stands_word : {ws : List ℕ} {a : ℕ} {xs : List ℕ} → WordsStand ws a xs → (k : ℕ) → k < length xs → get_or ws (a + k) 0 ≡ get_or xs k 0
stands_word {a = a} {xs = xs} s k l =
    ap (λ w. get_or w (a + k) 0) s.is_list
    ∙ subst (λ b. get_or (s.before ++ (xs ++ s.after)) (b + k) 0 ≡ get_or xs k 0) s.address (get_or-append-add s.before (xs ++ s.after) k 0 ∙ get_or-append xs s.after 0 k l)

pub stands_head : {ws : List ℕ} {a : ℕ} {x : ℕ} {xs : List ℕ} → WordsStand ws a (x ∷ xs) → get_or ws a 0 ≡ x
stands_head {ws = ws} {a = a} s = ap (λ b. get_or ws b 0) (omega arith) ∙ stands_word s 0 (omega arith)

pub stands_within : {ws : List ℕ} {a : ℕ} {xs : List ℕ} → WordsStand ws a xs → a + length xs ≤ length ws
stands_within {xs = xs} s = omega (arith, ap length s.is_list, length-append s.before (xs ++ s.after), length-append xs s.after, s.address)
