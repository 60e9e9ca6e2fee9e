-- 02 (g), proved: the statements of meaning's PreviewStatements.
use Rattle.std.specs.Prelude.{ℕ, ◌≤◌, ◌<◌, ◌≡◌, refl, Bool, true, false, List, [], ◌∷◌, T, ltb, leb, ℤ}
use Rattle.std.proofs.Common.{arith, sym, ap, ◌∙◌, subst, ltb→lt}
use Rattle.meaning.specs.Limits.{terminals_limit}
use Rattle.meaning.specs.Grammar.{Grammar, leaf_of}
use Rattle.meaning.specs.Sets.{has, end_number}
use Rattle.meaning.specs.Machine.{Settled, stopped, failed, advance_from, comes, tokens_limit}
use Rattle.meaning.specs.Calls.{Record, Stacks, Called, lent_of, config_of, after_feed, feed_of, refused, as_brought}
use Rattle.meaning.specs.PublicCalls.{feed, written, Effect, effect, performs}
use Rattle.meaning_statements.specs.CallStatements.{Met}
use Rattle.meaning_preview.specs.Preview.{is_short, tidied, tried, preview_of, previews, no_refusal, may_follow, MayEffect, may_effect, tokens, turned, mays}
use Rattle.meaning_preview.specs.PreviewStatements as Statements
use Rattle.meaning_preview.specs.PreviewStatements.{PreviewTurnedBack, PreviewIsFeed, MayExactly, MaySet, PreviewCases}
use Rattle.theory_table.specs.AcceptedTable.{accepted_well_formed}
use Rattle.theory_answers.specs.Called.{called_is}
use Rattle.theory_answers.specs.Answers.{when_met}
use Rattle.theory_preview.specs.Judging as Judging
use Rattle.theory_preview.specs.Judging.{copied_by_lem, fits_yes, mays_is, previews_is}
use Rattle.theory_preview.specs.Tokens.{passing_wide, passing_has, passing_in}

pub preview_turned_back : PreviewTurnedBack
preview_turned_back = Judging.preview_turned_back

pub preview_cases : PreviewCases
preview_cases = Judging.preview_cases

-- ---- a call that is not turned back
module _ (program : Grammar → List ℕ) (bs area : List ℕ) (g : Grammar) (r : Record) (m s : Stacks) (x : Met bs g area r m) (long : is_short m s ≡ false) where
  pub preview_is : (k : ℕ) (v : ℤ) → preview_of g r m s k v ≡ tried g r m s k v
  preview_is k v = copied_by_lem (λ n. as_brought (refused n 0) r s) (tried g r m s k v) g r m s x.is_open (fits_yes g r m x.fits) long

  previews_met : (k : ℕ) (v : ℤ) → previews program bs area r m s k v ≡ effect (tried g r m s k v) (written (program g) area)
  previews_met k v = previews_is program bs area r m s v g x.long x.accepts k ∙ ap (λ z. effect z (written (program g) area)) (preview_is k v)

  fed_met : (k : ℕ) (v : ℤ) → performs program bs area r m (feed (k ∷ []) (v ∷ [])) ≡ effect (feed_of g r m (k ∷ []) (v ∷ [])) (written (program g) area)
  fed_met k v = called_is program bs g x.accepts area x.long r m (λ h. feed_of h r m (k ∷ []) (v ∷ []))

  pub is_feed : (k : ℕ) (v : ℤ)
      → ((previews program bs area r m s k v).answer ≡ (performs program bs area r m (feed (k ∷ []) (v ∷ []))).answer)
      × ((previews program bs area r m s k v).state ≡ (performs program bs area r m (feed (k ∷ []) (v ∷ []))).state)
      × ((previews program bs area r m s k v).area ≡ (performs program bs area r m (feed (k ∷ []) (v ∷ []))).area)
      × Statements.Tidy m s (previews program bs area r m s k v).stacks
  is_feed k v =
      let p = previews_met k v in
      let f = sym (fed_met k v) in (
        ap (λ (e : Effect). e.answer) p ∙ ap (λ (e : Effect). e.answer) f,
        ap (λ (e : Effect). e.state) p ∙ ap (λ (e : Effect). e.state) f,
        ap (λ (e : Effect). e.area) p ∙ ap (λ (e : Effect). e.area) f,
        record { registers = ap (λ (e : Effect). e.stacks.registers) p; places = ap (λ (e : Effect). e.stacks.places) p },
      )

  -- ---- the set

  -- what is no token is refused
  unknown : (k : ℕ) (v : ℤ) → ltb k g.terminals ≡ false → no_refusal (tried g r m s k v).answer ≡ false
  unknown k v e = ap (λ (c : Called). no_refusal c.answer) (when_met g r m _ x.is_open x.fits) ∙ go (leb tokens_limit (config_of g r m).tokens) (ltb k g.terminals) e
    where
      go : (a b : Bool) → b ≡ false → no_refusal (after_feed g m (elim (elim a as (λ z. Settled) [
        | true ↦ failed (config_of g r m) 35
        | false ↦ elim b as (λ z. Settled) [ true ↦ advance_from g (lent_of m) (comes (leaf_of g (record { kind = k; value = v }))) (config_of g r m) | false ↦ failed (config_of g r m) 20 ]
      ]) as (λ z. Settled) [ failed d j ↦ failed d j | stopped d ↦ stopped d ])).answer ≡ false
      go true b e = refl
      go false false e = refl
      go false true e = absurd (subst T e tt)

  abbrev test : ℤ → ℕ → Bool
  test v t = no_refusal (preview_of g r m s t v).answer

  small : g.terminals ≤ terminals_limit
  small = (accepted_well_formed bs g x.accepts).terminals.1

  same_test : (v : ℤ) (t : ℕ) → no_refusal (previews program bs area r m s t v).answer ≡ test v t
  same_test v t = ap (λ (e : Effect). no_refusal e.answer) (previews_is program bs area r m s v g x.long x.accepts t)

  below : (v : ℤ) (t : ℕ) → T (test v t) → t < g.terminals
  below v t h = go (ltb t g.terminals) refl
    where
      go : (b : Bool) → ltb t g.terminals ≡ b → t < g.terminals
      go true e = ltb→lt t g.terminals (subst T (sym e) tt)
      go false e = absurd (subst T (ap (λ (c : Called). no_refusal c.answer) (preview_is t v) ∙ unknown t v e) h)

  mays_met : (v : ℤ) → mays program bs area r m s v ≡ may_effect (tokens (may_follow g r m s v)) (tidied m s) (written (program g) area)
  mays_met v = mays_is program bs area r m s v g x.long x.accepts ∙ copied_by_lem (λ n. may_effect (turned (refused n 0)) s (written (program g) area)) (may_effect (tokens (may_follow g r m s v)) (tidied m s) (written (program g) area)) g r m s x.is_open (fits_yes g r m x.fits) long

  pub may_exactly : (v : ℤ) → MayExactly program bs area g r m s v
  may_exactly v =
      let p = mays_met v in
      record {
        set = may_follow g r m s v;
        answered = ap (λ (e : MayEffect). e.answer) p;
        exactly = λ t. ((λ h. subst T (sym (same_test v t)) (passing_has (test v) g.terminals t h).1), (λ h. let k = subst T (same_test v t) h in let l = below v t k in passing_in (test v) g.terminals t (omega (arith, small)) l k));
        is_wide = (passing_wide (test v) g.terminals).width;
        not_the_end = end (has (may_follow g r m s v) end_number) refl;
        is_area = ap (λ (e : MayEffect). e.area) p;
        is_tidy = record { registers = ap (λ (e : MayEffect). e.scratch.registers) p; places = ap (λ (e : MayEffect). e.scratch.places) p };
      }
    where
      end : (b : Bool) → has (may_follow g r m s v) end_number ≡ b → b ≡ false
      end true e = absurd (omega (arith, small, (passing_has (test v) g.terminals end_number (subst T (sym e) tt)).0))
      end false e = refl

pub preview_is_feed : PreviewIsFeed
preview_is_feed program bs area g r m s k v x long = is_feed program bs area g r m s x long k v

pub may_set : MaySet
may_set program bs area g r m s v x long = may_exactly program bs area g r m s x long v
