-- What each way out of the reading of a record shows.
use Rattle.std.specs.Prelude.{◌≡◌, ℕ, ◌+◌, ◌-◌, ◌*◌, ◌<◌, ◌≤◌, Bool, true, false, Option, Some, None, List, length, ◌≢◌}
use Rattle.std.proofs.Common.{arith, ap₂, ◌∙◌, subst}
use Rattle.std.proofs.Math.Path.{sym, ap}
use Rattle.std.proofs.Math.Bool.{true≢false}
use Rattle.meaning.specs.Base.{all}
use Rattle.meaning.specs.Table.{byte}
use Rattle.outline.specs.Images.{row_count, left_at}
use Rattle.meaning.specs.Value.{in_range}
use Rattle.value.specs.Constants.{word_at}
use Rattle.theory_judge.specs.Longs.{longs}
use Rattle.judge_nodes.specs.head.Heads.{Heads, HeadIs, HeadOrNone}
use Rattle.judge_nodes.specs.declared.head.Head.{Head}

module _ (rows inherited synthesized sheet : List ℕ) (at from m i s : ℕ) (ei : i ≡ byte inherited m) (es : s ≡ byte synthesized m) where
  both : i + s ≡ byte inherited m + byte synthesized m
  both = ap₂ ◌+◌ ei es

  pub head_short : length sheet ≤ at → HeadOrNone rows inherited synthesized sheet at from m None
  unfolding HeadOrNone
  head_short l h = omega (arith, h.inside)

  pub head_cut : length sheet - at < 12 + 8 * (i + s) → HeadOrNone rows inherited synthesized sheet at from m None
  unfolding HeadOrNone
  head_cut l h = omega (arith, h.inside, both)

  module _ (p : ℕ) (ep : p ≡ word_at sheet at) where
    pub head_unlisted : row_count rows ≤ p → HeadOrNone rows inherited synthesized sheet at from m None
    unfolding HeadOrNone
    head_unlisted l h = omega (arith, h.listed)

    module _ (q : ℕ) (eq : q ≡ left_at rows p) where
      pub head_other : (q ≢ m) → HeadOrNone rows inherited synthesized sheet at from m None
      unfolding HeadOrNone
      head_other f h = f (eq ∙ (ap (left_at rows) ep ∙ h.left))

      module _ (w : ℕ) (ew : w ≡ word_at sheet (at + 4)) where
        pub head_before : (w ≢ from) → HeadOrNone rows inherited synthesized sheet at from m None
        unfolding HeadOrNone
        head_before f h = f (ew ∙ h.before)

        module _ (a : Bool) (ea : a ≡ all in_range (longs sheet (at + 12) (i + s))) where
          pub head_far : a ≡ false → HeadOrNone rows inherited synthesized sheet at from m None
          unfolding HeadOrNone
          head_far f h = true≢false (sym h.ranges ∙ (ap (λ n. all in_range (longs sheet (at + 12) n)) (sym both) ∙ (sym ea ∙ f)))

          pub head_found : at < length sheet → 12 + 8 * (i + s) ≤ length sheet - at → p < row_count rows → q ≡ m → w ≡ from → a ≡ true → (c : ℕ) → c ≡ word_at sheet (at + 8) → HeadOrNone rows inherited synthesized sheet at from m (Some (record { production = p; behind = at + 12 + 8 * (i + s); covered = c }))
          unfolding HeadOrNone
          head_found l₀ l lp lq lw la c ec = record {
            heads = record {
              inside = omega (arith, both);
              listed = omega (arith, ep);
              left = ap (left_at rows) (sym ep) ∙ (sym eq ∙ lq);
              before = sym ew ∙ lw;
              ranges = ap (λ n. all in_range (longs sheet (at + 12) n)) (sym both) ∙ (sym ea ∙ la);
            };
            production = ep;
            next = ap (λ n. at + 12 + 8 * n) both;
            covers = ec;
          }

pub head_is : (rows inherited synthesized sheet : List ℕ) (at from m : ℕ) (r : Option Head) → HeadOrNone rows inherited synthesized sheet at from m r → (h : Head) → r ≡ Some h → HeadIs rows inherited synthesized sheet at from m h.production h.behind h.covered
unfolding HeadOrNone
head_is rows inherited synthesized sheet at from m r t h e = subst (λ z. HeadOrNone rows inherited synthesized sheet at from m z) e t

pub head_none : (rows inherited synthesized sheet : List ℕ) (at from m : ℕ) (r : Option Head) → HeadOrNone rows inherited synthesized sheet at from m r → r ≡ None → Heads rows inherited synthesized sheet at from m → ⊥
unfolding HeadOrNone
head_none rows inherited synthesized sheet at from m r t e = subst (λ z. HeadOrNone rows inherited synthesized sheet at from m z) e t
