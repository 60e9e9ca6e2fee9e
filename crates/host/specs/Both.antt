-- What an inner call hands back as numbers, by what it answers and leaves.
use Rattle.std.specs.Prelude.{ℕ, ◌≡◌, List, ℤ}
use Rattle.std.proofs.Common.{ap, ◌∙◌}
use Rattle.meaning.specs.PublicCalls.{stacks_of}
use Rattle.meaning_inner.specs.Inner.{InnerEffect}
use Rattle.records.specs.Records.{answer_is}
use Rattle.engine.specs.Records.{record_is}
use Rattle.inner.specs.declared.InnerCalled.{InnerCalled}
use Rattle.inner.specs.Records.{inner_effect_is}
use Rattle.host_numbers.specs.Lent.{numbers_of, answer_number, answer_count}

-- os and is are the numbers of the records, n and k number and count of the answer
pub record NumbersPassed (r : InnerCalled) (os is : List ℕ) (n k : ℕ) : Type 0 where
  pub outer_state : os ≡ numbers_of (record_is r.outer)
  pub inner_state : is ≡ numbers_of (record_is r.inner)
  pub number : n ≡ answer_number (answer_is r.answer)
  pub count : k ≡ answer_count (answer_is r.answer)

-- vs, ps and ws are the registers, places and program words
pub record BothPassedOn (os is : List ℕ) (n k : ℕ) (vs : List ℤ) (ps ws : List ℕ) (e : InnerEffect) : Type 0 where
  pub outer_state : os ≡ numbers_of e.outer_state
  pub inner_state : is ≡ numbers_of e.inner_state
  pub number : n ≡ answer_number e.answer
  pub count : k ≡ answer_count e.answer
  pub stacks : stacks_of vs ps ≡ e.stacks
  pub area : ws ≡ e.area

pub both_passed_on : (r : InnerCalled) (vs : List ℤ) (ps ws : List ℕ) (e : InnerEffect) → inner_effect_is r vs ps ws ≡ e → (os is : List ℕ) (n k : ℕ) → NumbersPassed r os is n k → BothPassedOn os is n k vs ps ws e
both_passed_on r vs ps ws e q os is n k h = record {
  outer_state = h.outer_state ∙ ap (λ (z : InnerEffect). numbers_of z.outer_state) q;
  inner_state = h.inner_state ∙ ap (λ (z : InnerEffect). numbers_of z.inner_state) q;
  number = h.number ∙ ap (λ (z : InnerEffect). answer_number z.answer) q;
  count = h.count ∙ ap (λ (z : InnerEffect). answer_count z.answer) q;
  stacks = ap (λ (z : InnerEffect). z.stacks) q;
  area = ap (λ (z : InnerEffect). z.area) q;
}
