-- What a preview answers, with the cells past the lent ones.
use Rattle.std.specs.Prelude.{ℕ, ◌≤◌, min, ◌≡◌, refl, false, List, [], ◌∷◌, ◌++◌, length, take, drop, replicate, ℤ}
use Rattle.std.proofs.Common.{arith, sym, ap, ap₂, ◌∙◌, append-nil, length-take, drop_of_length-le, length-take-le}
use Rattle.meaning.specs.Limits.{registers_limit, places_limit}
use Rattle.meaning.specs.Grammar.{Grammar}
use Rattle.meaning.specs.Value.{mark}
use Rattle.meaning.specs.Calls.{Record, Stacks, Called, feed_of, refused, as_brought}
use Rattle.meaning.specs.PublicCalls.{stacks_of}
use Rattle.meaning_preview.specs.Preview.{is_short, tidied, tried, preview_of}
use Rattle.records.specs.declared.Handed as Handed
use Rattle.records.specs.Records.{handed_is}
use Rattle.run_fit.specs.HasProgram.{HasProgram, Readable}
use Rattle.run_cells.specs.Cutting.{uncut}
use Rattle.run_lent.specs.Judging.{number_for, number_cut}
use Rattle.run_lent.specs.Performing.{Judged}
use Rattle.run_lent.specs.Cutting.{feed_cut}
use Rattle.preview.specs.judging.Judging.{copy_number, copied_on, copy_passed, long_both}
use Rattle.preview.specs.lent.Answering.{LentAlike}

-- ---- on cells of any length

module _ (g : Grammar) (r : Record) (vs rs : List ℤ) (ps qs : List ℕ) (n k : ℕ) (en : n ≡ min (length vs) registers_limit) (ek : k ≡ min (length ps) places_limit) where
  abbrev own : Stacks
  own = stacks_of vs ps

  abbrev cells : Stacks
  cells = stacks_of (take n vs) (take k ps)

  abbrev scratch : Stacks
  scratch = stacks_of rs qs

  abbrev part : Stacks
  part = stacks_of (take n rs) (take k qs)

  -- the feed on the cells answers as the feed
  pub feed_answers : (t : ℕ) (v : ℤ) → ((feed_of g r cells (t ∷ []) (v ∷ [])).answer ≡ (feed_of g r own (t ∷ []) (v ∷ [])).answer) × ((feed_of g r cells (t ∷ []) (v ∷ [])).state ≡ (feed_of g r own (t ∷ []) (v ∷ [])).state)
  feed_answers t v =
      let z = ap₂ (λ i j. uncut i j vs ps (feed_of g r (stacks_of (take i vs) (take j ps)) (t ∷ []) (v ∷ []))) en ek ∙ feed_cut g vs ps r (t ∷ []) (v ∷ []) in
      (ap (λ (c : Called). c.answer) z, ap (λ (c : Called). c.state) z)

  one_tidied : {A : Type 0} (clear : A) (xs : List A) (l i : ℕ) → l ≡ i → (replicate l clear ++ drop l (take i xs)) ++ drop i xs ≡ replicate i clear ++ drop i xs
  one_tidied clear xs l i e =
      ap (λ z. (replicate z clear ++ drop z (take i xs)) ++ drop i xs) e
      ∙ ap (λ z. z ++ drop i xs) (ap (λ z. replicate i clear ++ z) (drop_of_length-le (take i xs) {i = i} (omega (arith, length-take i xs))) ∙ append-nil (replicate i clear))

  pub tidied_whole : stacks_of ((tidied cells part).registers ++ drop n rs) ((tidied cells part).places ++ drop k qs) ≡ tidied own scratch
  tidied_whole =
      ap₂ stacks_of (one_tidied mark rs (min (length (take n vs)) registers_limit) n (omega (arith, length-take n vs)) ∙ ap (λ i. replicate i mark ++ drop i rs) en)
      (one_tidied 0 qs (min (length (take k ps)) places_limit) k (omega (arith, length-take k ps)) ∙ ap (λ i. replicate i 0 ++ drop i qs) ek)

  pub tried_whole : (t : ℕ) (v : ℤ) (c : Handed.Handed) (rs' : List ℤ) (qs' : List ℕ) → handed_is c rs' qs' ≡ tried g r cells part t v → handed_is c (rs' ++ drop n rs) (qs' ++ drop k qs) ≡ tried g r own scratch t v
  tried_whole t v c rs' qs' e =
      let f = feed_answers t v in
      let a = ap (λ (z : Called). z.answer) e ∙ f.0 in
      let b = ap (λ (z : Called). z.state) e ∙ f.1 in
      let d = ap (λ (z : Called). stacks_of (z.stacks.registers ++ drop n rs) (z.stacks.places ++ drop k qs)) e ∙ tidied_whole in
      λ i. record { answer = a i; state = b i; stacks = d i }

-- ---- by the judgement

module _ {ws : List ℕ} (readable : Readable ws) (r : Record) (vs rs : List ℤ) (ps qs : List ℕ) (n k : ℕ) (en : n ≡ min (length vs) registers_limit) (ek : k ≡ min (length ps) places_limit)
    (number : (g : Grammar) → HasProgram g ws → 0 ≡ copy_number g r (stacks_of vs ps) (stacks_of rs qs)) where
  on : (g : Grammar) → HasProgram g ws → (number_for 34 g r (stacks_of vs ps) ≡ 0) × (is_short (stacks_of vs ps) (stacks_of rs qs) ≡ false)
  on g s = copy_passed g r (stacks_of vs ps) (stacks_of rs qs) (sym (number g s))

  pub scratch_long : (n ≤ length rs) × (k ≤ length qs)
  scratch_long = long_both vs rs ps qs n k en ek (on readable.grammar readable.shown).1

  pub cells_judged : Judged ws (take n vs) (take k ps) r
  cells_judged = record {
    few = omega (arith, length-take n vs);
    little = omega (arith, length-take k ps);
    brought = readable;
    passed = λ g s. sym (number_cut 34 g r vs ps n k en ek (number_for 34 g r (stacks_of (take n vs) (take k ps))) refl ∙ (on g s).0);
  }

  pub cells_alike : LentAlike (take n vs) (take k ps) (take n rs) (take k qs)
  cells_alike = record {
    registers = length-take-le n rs scratch_long.0 ∙ sym (length-take-le n vs (omega arith));
    places = length-take-le k qs scratch_long.1 ∙ sym (length-take-le k ps (omega arith));
  }

  pub preview_made : (t : ℕ) (v : ℤ) (c : Handed.Handed) (rs' : List ℤ) (qs' : List ℕ) → ((g : Grammar) → HasProgram g ws → handed_is c rs' qs' ≡ tried g r (stacks_of (take n vs) (take k ps)) (stacks_of (take n rs) (take k qs)) t v)
      → (g : Grammar) → HasProgram g ws → handed_is c (rs' ++ drop n rs) (qs' ++ drop k qs) ≡ preview_of g r (stacks_of vs ps) (stacks_of rs qs) t v
  preview_made t v c rs' qs' e g s =
      tried_whole g r vs rs ps qs n k en ek t v c rs' qs' (e g s)
      ∙ copied_on g r (stacks_of vs ps) (stacks_of rs qs) (λ j. as_brought (refused j 0) r (stacks_of rs qs)) (tried g r (stacks_of vs ps) (stacks_of rs qs) t v) (sym (number g s))
