-- The value of a token whose terminal has no tag 6 field is ignored, whatever else the call brings.
use Rattle.std.specs.Prelude.{ℕ, suc, ◌≡◌, refl, Bool, true, false, List, [], ◌∷◌, length, eqb, ℤ}
use Rattle.std.proofs.Common.{arith, sym, ap, ap₂, ◌∙◌, subst, eqb→eq}
use Rattle.meaning.specs.Base.{any, In}
use Rattle.meaning.specs.Grammar.{Grammar, Leaf, carried, leaves}
use Rattle.meaning.specs.Machine.{feed_all}
use Rattle.meaning.specs.Calls.{lent_of, config_of, after_feed, when_even, tokens_from}
use Rattle.meaning.specs.PublicCalls.{feed, written, effect, performs}
use Rattle.meaning_statements.specs.CallStatements.{Case, short, bad_table, is_closed, is_waiting, is_inner, unfit, uneven, met}
use Rattle.meaning_statements.specs.TokenStatements.{SameWhereCarried, IgnoredValues}
use Rattle.theory_base.specs.Members.{any_in}
use Rattle.theory_answers.specs.Answers.{made, performs_met, uneven_lists}
use Rattle.theory_answers.specs.TurnedBack.{short_area, bad_table_lem, bad_state, all_cases}

carried_same : (g : Grammar) (k : ℕ) (v w : ℤ) → (In k g.carrying → v ≡ w) → carried (any (eqb k) g.carrying) v ≡ carried (any (eqb k) g.carrying) w
carried_same g k v w h = go (any (eqb k) g.carrying) refl
  where
    go : (b : Bool) → any (eqb k) g.carrying ≡ b → carried b v ≡ carried b w
    go false e = refl
    go true e =
        let i = any_in (eqb k) g.carrying (rw e tt) in
        ap (λ z. z ∷ []) (h (subst (λ z. In z g.carrying) (sym (eqb→eq k i.0 i.2)) i.1))

-- the grammar sees the same
leaves_same : (g : Grammar) (ks : List ℕ) (vs ws : List ℤ) → length vs ≡ length ws → SameWhereCarried g ks vs ws → leaves g (tokens_from ks vs) ≡ leaves g (tokens_from ks ws)
leaves_same g [] vs ws n h = refl
leaves_same g (k ∷ ks) [] [] n h = refl
leaves_same g (k ∷ ks) [] (w ∷ ws) n h = absurd (omega (arith, n))
leaves_same g (k ∷ ks) (v ∷ vs) [] n h = absurd (omega (arith, n))
leaves_same g (k ∷ ks) (v ∷ vs) (w ∷ ws) n h =
    ap₂ (λ (x : List ℤ) (us : List Leaf). record { kind = k; values = x } ∷ us) (carried_same g k v w (h 0 (omega arith))) (leaves_same g ks vs ws (omega (arith, n)) (λ i l. h (suc i) (omega arith)))

pub ignored_values : IgnoredValues
ignored_values program bs area r m ks vs ws n h = go (all_cases bs area r m (feed ks vs)).0
  where
    go : Case bs area r m (feed ks vs) → performs program bs area r m (feed ks vs) ≡ performs program bs area r m (feed ks ws)
    go (short l) = (short_area program bs area r m (feed ks vs) l).1 ∙ sym (short_area program bs area r m (feed ks ws) l).1
    go (bad_table l k o j) = (bad_table_lem program bs area r m (feed ks vs) k o l j).1 ∙ sym (bad_table_lem program bs area r m (feed ks ws) k o l j).1
    go (is_closed l g a e) = (bad_state program bs area g r m (feed ks vs) l a).0 e ∙ sym ((bad_state program bs area g r m (feed ks ws) l a).0 e)
    go (is_waiting l g a e f) = (bad_state program bs area g r m (feed ks vs) l a).1 e f ∙ sym ((bad_state program bs area g r m (feed ks ws) l a).1 e f)
    go (is_inner l g a e f) = (bad_state program bs area g r m (feed ks vs) l a).2 e f ∙ sym ((bad_state program bs area g r m (feed ks ws) l a).2 e f)
    go (unfit l g a e f) = (bad_state program bs area g r m (feed ks vs) l a).3 e f ∙ sym ((bad_state program bs area g r m (feed ks ws) l a).3 e f)
    go (uneven g x e) = uneven_lists program bs area g r m (feed ks vs) x e ∙ sym (uneven_lists program bs area g r m (feed ks ws) x (λ z. e (z ∙ sym n)))
    go (met g x e) =
        let same : made g r m (feed ks vs) ≡ made g r m (feed ks ws) = ap₂ (λ (l : ℕ) (us : List Leaf). when_even (eqb (length ks) l) r m (after_feed g m (feed_all g (lent_of m) us (config_of g r m)))) n (leaves_same g ks vs ws n (h g x.accepts)) in
        performs_met program bs area g r m x (feed ks vs) ∙ (ap (λ k. effect k (written (program g) area)) same ∙ sym (performs_met program bs area g r m x (feed ks ws)))
