-- What a preview answers, by what was tried on exactly the lent cells.
use Rattle.std.specs.Prelude.{ℕ, ◌≤◌, min, ◌≡◌, refl, List, [], ◌∷◌, ◌++◌, length, drop, replicate, ℤ}
use Rattle.std.proofs.Common.{arith, sym, ap, ap₂, ◌∙◌, append-nil, drop_of_length-le}
use Rattle.meaning.specs.Limits.{registers_limit, places_limit}
use Rattle.meaning.specs.Grammar.{Grammar}
use Rattle.meaning.specs.Value.{mark}
use Rattle.meaning.specs.Calls.{Record, Called}
use Rattle.meaning.specs.PublicCalls.{stacks_of}
use Rattle.meaning_preview.specs.Preview.{tidied, tried}
use Rattle.records.specs.declared.Handed as Handed
use Rattle.records.specs.Records.{handed_is}
use Rattle.run_moves.specs.declared.Run.{Run}
use Rattle.run_machine.specs.Advancing.{Ended}
use Rattle.run_fit.specs.HasProgram.{HasProgram}
use Rattle.run_states.specs.Leaving.{fed_from}
use Rattle.run_lent.specs.Performing.{Starts, Judged, feed_made}
use Rattle.preview.specs.scratch.Scratch.{Cleared, TriedAs}

-- as many scratch cells as lent ones
pub record LentAlike (vs : List ℤ) (ps : List ℕ) (rs : List ℤ) (qs : List ℕ) : Type 0 where
  pub registers : length rs ≡ length vs
  pub places : length qs ≡ length ps

pub alike_cleared : {vs rs : List ℤ} {ps qs : List ℕ} → LentAlike vs ps rs qs → (rs₁ : List ℤ) (qs₁ : List ℕ) → rs₁ ≡ replicate (length rs) mark → qs₁ ≡ replicate (length qs) 0 → Cleared vs ps rs₁ qs₁
alike_cleared a rs₁ qs₁ e d = record { registers = e ∙ ap (λ n. replicate n mark) a.registers; places = d ∙ ap (λ n. replicate n 0) a.places }

-- ---- on exactly the lent cells: vs and ps the caller's, rs and qs the scratch's

module _ {vs : List ℤ} {ps : List ℕ} (few : length vs ≤ registers_limit) (little : length ps ≤ places_limit) (rs : List ℤ) (qs : List ℕ) (er : length rs ≡ length vs) (eq : length qs ≡ length ps) where
  pub tidied_is : (rs' : List ℤ) (qs' : List ℕ) → Cleared vs ps rs' qs' → stacks_of rs' qs' ≡ tidied (stacks_of vs ps) (stacks_of rs qs)
  tidied_is rs' qs' c =
      let n : length vs ≡ min (length vs) registers_limit = omega arith in
      let k : length ps ≡ min (length ps) places_limit = omega arith in
      let a : replicate (length vs) mark ++ drop (length vs) rs ≡ replicate (length vs) mark = ap (λ z. replicate (length vs) mark ++ z) (drop_of_length-le rs {i = length vs} (omega arith)) ∙ append-nil _ in
      let b : replicate (length ps) 0 ++ drop (length ps) qs ≡ replicate (length ps) 0 = ap (λ z. replicate (length ps) 0 ++ z) (drop_of_length-le qs {i = length ps} (omega arith)) ∙ append-nil _ in
      ap₂ stacks_of (c.registers ∙ (sym a ∙ ap (λ i. replicate i mark ++ drop i rs) n)) (c.places ∙ (sym b ∙ ap (λ i. replicate i 0 ++ drop i qs) k))

  module _ {ws : List ℕ} {r : Record} (j : Judged ws vs ps r) (run : Run) (f : Starts ws ps r run) (g : Grammar) (s : HasProgram g ws) where
    pub tried_is : (k : ℕ) (v : ℤ) (e : Ended) → TriedAs ws k v vs ps run e → (c : Handed.Handed) → c ≡ fed_from e → (rs' : List ℤ) (qs' : List ℕ) → Cleared vs ps rs' qs'
        → handed_is c rs' qs' ≡ tried g r (stacks_of vs ps) (stacks_of rs qs) k v
    tried_is k v e t c q rs' qs' d =
        let made = feed_made j run f (k ∷ []) (v ∷ []) refl t.registers t.places e c t.fed q g s in
        let a = ap (λ (z : Called). z.answer) made in
        let b = ap (λ (z : Called). z.state) made in
        let m = tidied_is rs' qs' d in
        λ i. record { answer = a i; state = b i; stacks = m i }
