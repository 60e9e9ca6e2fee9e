-- The targets of rules, marked again.
use Rattle.std.specs.Prelude.{ℕ, zero, suc, ◌-◌, ◌≡◌, refl, ◌⊎◌, List, [], ◌∷◌, set, ℤ}
use Rattle.std.proofs.Common.{sym, ap, ◌∙◌, inl, inr, set-set}
use Rattle.std.proofs.lemmas.List.{set-get_or}
use Rattle.meaning.specs.Base.{In}
use Rattle.meaning.specs.Grammar.{Rule}
use Rattle.meaning.specs.Value.{mark}
use Rattle.meaning.specs.Machine.{read_register}

abbrev pub remarked : List (Rule ℕ) → List ℤ → List ℤ
remarked [] rs = rs
remarked (q ∷ qs) rs = remarked qs (set rs (q.target - 1) mark)

-- each of them stands marked
abbrev pub TargetsMarked : List (Rule ℕ) → List ℤ → Type 0
TargetsMarked qs rs = (q : Rule ℕ) → In q qs → read_register rs q.target ≡ mark

-- nothing changes where all stand marked
pub remarked_same : (qs : List (Rule ℕ)) (rs : List ℤ) → TargetsMarked qs rs → remarked qs rs ≡ rs
remarked_same [] rs m = refl
remarked_same (q ∷ qs) rs m =
    let e : set rs (q.target - 1) mark ≡ rs = ap (λ z. set rs (q.target - 1) z) (sym (m q (inl refl))) ∙ set-get_or rs (q.target - 1) mark in
    ap (remarked qs) e ∙ remarked_same qs rs (λ r i. m r (inr i))

-- two cells written: the second write is over the first, or they do not meet
set_over : (rs : List ℤ) (a b : ℕ) (v w : ℤ) → (set (set rs a v) b w ≡ set rs b w) ⊎ (set (set rs a v) b w ≡ set (set rs b w) a v)
set_over [] a b v w = inl refl
set_over (x ∷ rs) zero zero v w = inl refl
set_over (x ∷ rs) zero (suc b) v w = inr refl
set_over (x ∷ rs) (suc a) zero v w = inr refl
set_over (x ∷ rs) (suc a) (suc b) v w = go (set_over rs a b v w)
  where
    go : (set (set rs a v) b w ≡ set rs b w) ⊎ (set (set rs a v) b w ≡ set (set rs b w) a v) → (x ∷ set (set rs a v) b w ≡ x ∷ set rs b w) ⊎ (x ∷ set (set rs a v) b w ≡ x ∷ set (set rs b w) a v)
    go (inl e) = inl (ap (λ z. x ∷ z) e)
    go (inr e) = inr (ap (λ z. x ∷ z) e)

-- what was written to one of them does not matter
pub remarked_written : (qs : List (Rule ℕ)) (rs : List ℤ) (r : Rule ℕ) (v : ℤ) → In r qs → remarked qs (set rs (r.target - 1) v) ≡ remarked qs rs
remarked_written [] rs r v i = absurd i
remarked_written (q ∷ qs) rs r v (inl e) = ap (remarked qs) (ap (λ (s : Rule ℕ). set (set rs (s.target - 1) v) (q.target - 1) mark) e ∙ set-set rs (q.target - 1) v mark)
remarked_written (q ∷ qs) rs r v (inr i) = go (remarked_written qs (set rs (q.target - 1) mark) r v i) (set_over rs (r.target - 1) (q.target - 1) v mark)
  where
    go : remarked qs (set (set rs (q.target - 1) mark) (r.target - 1) v) ≡ remarked qs (set rs (q.target - 1) mark)
        → (set (set rs (r.target - 1) v) (q.target - 1) mark ≡ set rs (q.target - 1) mark) ⊎ (set (set rs (r.target - 1) v) (q.target - 1) mark ≡ set (set rs (q.target - 1) mark) (r.target - 1) v)
        → remarked qs (set (set rs (r.target - 1) v) (q.target - 1) mark) ≡ remarked qs (set rs (q.target - 1) mark)
    go h (inl e) = ap (remarked qs) e
    go h (inr e) = ap (remarked qs) e ∙ h
