-- The set's answer as the numbers that a host lends: the set as a word, number and count of what turns the call back, or 0 and 0.
use Rattle.std.specs.Prelude.{ℕ, ◌≡◌, List, ℤ}
use Rattle.std.proofs.Common.{ap, ◌∙◌}
use Rattle.meaning.specs.Sets.{TokenSet, empty_set}
use Rattle.meaning.specs.PublicCalls.{stacks_of}
use Rattle.meaning_preview.specs.Preview.{MayAnswer, tokens, turned, MayEffect}
use Rattle.token_set.specs.SetBits.{set_of}
use Rattle.preview.specs.declared.May.{May}
use Rattle.preview.specs.May.{may_is, may_effect_is}
use Rattle.host_numbers.specs.Lent.{answer_number, answer_count}

-- empty where the call is turned back
abbrev pub tokens_in : MayAnswer → TokenSet
tokens_in (tokens s) = s
tokens_in (turned a) = empty_set

abbrev pub may_number : MayAnswer → ℕ
may_number (tokens s) = 0
may_number (turned a) = answer_number a

abbrev pub may_count : MayAnswer → ℕ
may_count (tokens s) = 0
may_count (turned a) = answer_count a

-- t is the set's word, n and k number and count, rs, qs and ws the scratch registers, scratch places and program words
pub record MayPassedOn (t n k : ℕ) (rs : List ℤ) (qs ws : List ℕ) (e : MayEffect) : Type 0 where
  pub tokens : set_of t ≡ tokens_in e.answer
  pub number : n ≡ may_number e.answer
  pub count : k ≡ may_count e.answer
  pub scratch : stacks_of rs qs ≡ e.scratch
  pub area : ws ≡ e.area

pub may_passed_on : (r : May) (rs : List ℤ) (qs ws : List ℕ) (e : MayEffect) → may_effect_is r rs qs ws ≡ e → (t n k : ℕ) → set_of t ≡ tokens_in (may_is r) → n ≡ may_number (may_is r) → k ≡ may_count (may_is r) → MayPassedOn t n k rs qs ws e
may_passed_on r rs qs ws e q t n k a b c = record {
  tokens = a ∙ ap (λ (z : MayEffect). tokens_in z.answer) q;
  number = b ∙ ap (λ (z : MayEffect). may_number z.answer) q;
  count = c ∙ ap (λ (z : MayEffect). may_count z.answer) q;
  scratch = ap (λ (z : MayEffect). z.scratch) q;
  area = ap (λ (z : MayEffect). z.area) q;
}
