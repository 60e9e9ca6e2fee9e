-- The order of the whole numbers and its laws for sums and minima.
use Rattle.std.specs.Prelude.{zero, suc, ◌≡◌, ◌⊎◌, Bool, true, false, not, cond, T, ltb, ℤ, pos, negsuc, neg_ℤ, ◌+ℤ◌, ◌≤ℤ◌, ◌<ℤ◌}
use Rattle.std.proofs.Common.{arith, sym, ap, ◌∙◌, inl, inr, leb→le, le→leb, ltb→lt}
use Rattle.std.proofs.Math.IntN.{suc_ℤ, pred_ℤ, +ℤ-suc_ℤ, +ℤ-pred_ℤ, +ℤ_idl, +ℤ_idr, +ℤ_assoc, +ℤ_comm, +ℤ_invl, +ℤ_invr}
use Rattle.std.specs.Int.Signed.{le_z, lt_z, lt_z_yes, lt_z_no, ≤ℤ_refl}
use Rattle.meaning.specs.Differences.{lesser}

pub ≤-is : {a b : ℤ} → a ≡ b → a ≤ℤ b
≤-is {a} {b} e = rw e (≤ℤ_refl b)

pub le_z_trans : (a b c : ℤ) → T (le_z a b) → T (le_z b c) → T (le_z a c)
le_z_trans (pos a) (pos b) (pos c) s t = le→leb a c (let l = leb→le a b s in let m = leb→le b c t in omega arith)
le_z_trans (pos a) (pos b) (negsuc c) s t = absurd t
le_z_trans (pos a) (negsuc b) c s t = absurd s
le_z_trans (negsuc a) (pos b) (pos c) s t = tt
le_z_trans (negsuc a) (pos b) (negsuc c) s t = absurd t
le_z_trans (negsuc a) (negsuc b) (pos c) s t = tt
le_z_trans (negsuc a) (negsuc b) (negsuc c) s t = le→leb c a (let l = leb→le b a s in let m = leb→le c b t in omega arith)

pub ≤_trans : {a b c : ℤ} → a ≤ℤ b → b ≤ℤ c → a ≤ℤ c
≤_trans {a} {b} {c} s t = record { le = le_z_trans a b c s.le t.le }

less' : (a b : ℤ) → T (lt_z a b) → T (le_z a b)
less' (pos a) (pos b) t = le→leb a b (let l = ltb→lt a b t in omega arith)
less' (pos a) (negsuc b) t = t
less' (negsuc a) (pos b) t = tt
less' (negsuc a) (negsuc b) t = le→leb b a (let l = ltb→lt b a t in omega arith)

zero' : (x : ℤ) → T (le_z x (pos 0)) → T (le_z (pos 0) x) → pos 0 ≡ x
zero' (pos n) s t = ap pos (let l = leb→le n 0 s in omega arith)
zero' (negsuc n) s t = absurd t

pub only_zero : (x : ℤ) → x ≤ℤ pos 0 → pos 0 ≤ℤ x → pos 0 ≡ x
only_zero x s t = zero' x s.le t.le

-- ---- sums

suc_mono : (a b : ℤ) → T (le_z a b) → T (le_z (suc_ℤ a) (suc_ℤ b))
suc_mono (pos a) (pos b) t = le→leb (suc a) (suc b) (let l = leb→le a b t in omega arith)
suc_mono (pos a) (negsuc b) t = absurd t
suc_mono (negsuc zero) (pos b) t = le→leb 0 (suc b) (omega arith)
suc_mono (negsuc (suc a)) (pos b) t = tt
suc_mono (negsuc zero) (negsuc zero) t = le→leb 0 0 (omega arith)
suc_mono (negsuc zero) (negsuc (suc b)) t = let l = leb→le (suc b) 0 t in absurd (omega arith)
suc_mono (negsuc (suc a)) (negsuc zero) t = tt
suc_mono (negsuc (suc a)) (negsuc (suc b)) t = le→leb b a (let l = leb→le (suc b) (suc a) t in omega arith)

pred_mono : (a b : ℤ) → T (le_z a b) → T (le_z (pred_ℤ a) (pred_ℤ b))
pred_mono (pos zero) (pos zero) t = le→leb 0 0 (omega arith)
pred_mono (pos zero) (pos (suc b)) t = tt
pred_mono (pos (suc a)) (pos zero) t = let l = leb→le (suc a) 0 t in absurd (omega arith)
pred_mono (pos (suc a)) (pos (suc b)) t = le→leb a b (let l = leb→le (suc a) (suc b) t in omega arith)
pred_mono (pos a) (negsuc b) t = absurd t
pred_mono (negsuc a) (pos zero) t = le→leb 0 (suc a) (omega arith)
pred_mono (negsuc a) (pos (suc b)) t = tt
pred_mono (negsuc a) (negsuc b) t = le→leb (suc b) (suc a) (let l = leb→le b a t in omega arith)

mono' : (a b c : ℤ) → T (le_z a b) → T (le_z (a +ℤ c) (b +ℤ c))
mono' a b (pos zero) t = rw (+ℤ_idr a, +ℤ_idr b) t
mono' a b (pos (suc n)) t = rw (+ℤ-suc_ℤ a (pos n), +ℤ-suc_ℤ b (pos n)) (suc_mono (a +ℤ pos n) (b +ℤ pos n) (mono' a b (pos n) t))
mono' a b (negsuc zero) t = rw (+ℤ-pred_ℤ a (pos 0), +ℤ-pred_ℤ b (pos 0), +ℤ_idr a, +ℤ_idr b) (pred_mono a b t)
mono' a b (negsuc (suc n)) t = rw (+ℤ-pred_ℤ a (negsuc n), +ℤ-pred_ℤ b (negsuc n)) (pred_mono (a +ℤ negsuc n) (b +ℤ negsuc n) (mono' a b (negsuc n) t))

pub plus_right : {a b : ℤ} (c : ℤ) → a ≤ℤ b → (a +ℤ c) ≤ℤ (b +ℤ c)
plus_right {a} {b} c t = record { le = mono' a b c t.le }

pub plus_left : {a b : ℤ} (c : ℤ) → a ≤ℤ b → (c +ℤ a) ≤ℤ (c +ℤ b)
plus_left {a} {b} c t = rw (+ℤ_comm c a, +ℤ_comm c b) (plus_right c t)

-- two differences follow each other
pub through : (a b d x y : ℤ) → a ≤ℤ (b +ℤ x) → b ≤ℤ (d +ℤ y) → a ≤ℤ (d +ℤ (x +ℤ y))
through a b d x y s t =
    let e : (d +ℤ y) +ℤ x ≡ d +ℤ (x +ℤ y) = +ℤ_assoc d y x ∙ ap (λ z. d +ℤ z) (+ℤ_comm y x) in
    ≤_trans s (≤_trans (plus_right x t) (≤-is e))

pub cycle_not_negative : (a x : ℤ) → a ≤ℤ (a +ℤ x) → pos 0 ≤ℤ x
cycle_not_negative a x t =
    let e : neg_ℤ a +ℤ (a +ℤ x) ≡ x = sym (+ℤ_assoc (neg_ℤ a) a x) ∙ ap (λ z. z +ℤ x) (+ℤ_invl a) ∙ +ℤ_idl x in
    ≤_trans (≤-is (sym (+ℤ_invl a))) (≤_trans (plus_left (neg_ℤ a) t) (≤-is e))

pub not_negative_cycle : (a x : ℤ) → pos 0 ≤ℤ x → a ≤ℤ (a +ℤ x)
not_negative_cycle a x t = ≤_trans (≤-is (sym (+ℤ_idr a))) (plus_left a t)

-- ---- a bound on one side as one on the other

pub from_below : (l x : ℤ) → l ≤ℤ x → pos 0 ≤ℤ (x +ℤ neg_ℤ l)
from_below l x t = ≤_trans (≤-is (sym (+ℤ_invr l))) (plus_right (neg_ℤ l) t)

pub to_below : (l x : ℤ) → pos 0 ≤ℤ (x +ℤ neg_ℤ l) → l ≤ℤ x
to_below l x t =
    let e : (x +ℤ neg_ℤ l) +ℤ l ≡ x = +ℤ_assoc x (neg_ℤ l) l ∙ ap (λ z. x +ℤ z) (+ℤ_invl l) ∙ +ℤ_idr x in
    ≤_trans (≤-is (sym (+ℤ_idl l))) (≤_trans (plus_right l t) (≤-is e))

-- ---- the smaller of two

pub lesser_first : (a b : ℤ) → lesser a b ≤ℤ a
unfolding lesser
lesser_first a b = go (lt_z b a) (λ t. t)
  where
    go : (c : Bool) → (T c → T (lt_z b a)) → cond c b a ≤ℤ a
    go true k = record { le = less' b a (k tt) }
    go false k = ≤ℤ_refl a

pub lesser_second : (a b : ℤ) → lesser a b ≤ℤ b
unfolding lesser
lesser_second a b = go (lt_z b a) (λ t. t)
  where
    go : (c : Bool) → (T (not c) → T (not (lt_z b a))) → cond c b a ≤ℤ b
    go true k = ≤ℤ_refl b
    go false k = lt_z_no (k tt)

pub lesser_keeps : (P : ℤ → Type 0) (a b : ℤ) → P a → P b → P (lesser a b)
unfolding lesser
lesser_keeps P a b p q = go (lt_z b a)
  where
    go : (c : Bool) → P (cond c b a)
    go true = q
    go false = p

-- ---- a decision

pub decided : (a b : ℤ) → (a ≤ℤ b) ⊎ (b <ℤ a)
decided a b = go (lt_z b a) (λ t. t) (λ t. t)
  where
    go : (c : Bool) → (T c → T (lt_z b a)) → (T (not c) → T (not (lt_z b a))) → (a ≤ℤ b) ⊎ (b <ℤ a)
    go true k n = inr (lt_z_yes (k tt))
    go false k n = inl (lt_z_no (n tt))
