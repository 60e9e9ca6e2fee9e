-- Each step of a cursor goes ahead, so there are lines enough: the lines left are those of the next step.
use Rattle.std.specs.Prelude.{ℕ, zero, suc, ◌<◌, ◌≡◌, refl, Bool, true, false, List, ◌∷◌, eqb, ltb}
use Rattle.std.proofs.Common.{arith, ap}
use Rattle.program_parts.specs.Items.{are_rules}
use Rattle.listing_text.specs.declared.Cursor.{Cursor}
use Rattle.listing_text.specs.Cursors.{operation_at, inside_of, skips_of, skipped, NextLine, stop, skip, emit, pick_step, item_step, head_step, step_of, followed, lines_within, ahead, lines_left}
use Rattle.listing_text.specs.Tests.{inside_facts, skips_facts, skipped_on}

abbrev pub Onward : List ℕ → Cursor → NextLine → Type 0
Onward ws c stop = Unit {0}
Onward ws c (skip d) = ahead ws d < ahead ws c
Onward ws c (emit t d) = ahead ws d < ahead ws c

onward_pick : (ws : List ℕ) (c : Cursor) (b : Bool) (s t : NextLine) → (b ≡ true → Onward ws c s) → (b ≡ false → Onward ws c t) → Onward ws c (pick_step b s t)
onward_pick ws c true s t h k = h refl
onward_pick ws c false s t h k = k refl

module _ (ws : List ℕ) (c : Cursor) where
  onward_item : inside_of ws c ≡ true → Onward ws c (item_step ws c)
  onward_item e =
      let i = inside_facts ws c e in
      onward_pick ws c (are_rules c.items) _ _ (λ _. omega (arith, i.1)) (λ _. omega (arith, i.1))

  onward_head : inside_of ws c ≡ true → Onward ws c (head_step ws c)
  onward_head e =
      let i = inside_facts ws c e in
      onward_pick ws c (eqb (operation_at ws c) 0) _ _ (λ _. omega (arith, i.1)) (λ _. omega (arith, i.0))

  pub onward : Onward ws c (step_of ws c)
  unfolding step_of
  onward =
      onward_pick ws c (skips_of ws c) (skip (skipped ws c)) _ (λ e. omega (arith, (inside_facts ws c (skips_facts ws c e).inside).1, (skipped_on ws c).0, (skipped_on ws c).1))
      (λ _. onward_pick ws c (inside_of ws c) _ stop (λ e. onward_pick ws c (ltb 0 c.left) (item_step ws c) (head_step ws c) (λ _. onward_item e) (λ _. onward_head e)) (λ _. tt))

-- any bound that is large enough does
enough : (f k : ℕ) (ws : List ℕ) (c : Cursor) → ahead ws c < f → ahead ws c < k → lines_within f ws c ≡ lines_within k ws c
enough zero k ws c l m = absurd (omega arith)
enough (suc f) zero ws c l m = absurd (omega arith)
enough (suc f) (suc k) ws c l m = go (step_of ws c) (onward ws c) (λ d h. enough f k ws d (omega arith) (omega arith))
  where
    go : (s : NextLine) → Onward ws c s → ((d : Cursor) → ahead ws d < ahead ws c → lines_within f ws d ≡ lines_within k ws d) → followed s (λ d. lines_within f ws d) ≡ followed s (λ d. lines_within k ws d)
    go stop o h = refl
    go (skip d) o h = h d o
    go (emit t d) o h = ap (λ ls. t ∷ ls) (h d o)

pub lines_step : (ws : List ℕ) (c : Cursor) → lines_left ws c ≡ followed (step_of ws c) (λ d. lines_left ws d)
unfolding lines_left
lines_step ws c = go (step_of ws c) (onward ws c)
  where
    go : (s : NextLine) → Onward ws c s → followed s (λ d. lines_within (ahead ws c) ws d) ≡ followed s (λ d. lines_within (suc (ahead ws d)) ws d)
    go stop o = refl
    go (skip d) o = enough (ahead ws c) (suc (ahead ws d)) ws d o (omega arith)
    go (emit t d) o = ap (λ ls. t ∷ ls) (enough (ahead ws c) (suc (ahead ws d)) ws d o (omega arith))
