use mathlib.Core.Path.{◌≡◌, sym, ap, ◌∙◌}
use mathlib.Core.List.{List}
use mir.Syntax.{w64}
use mir.Val.{to_z, of_z}
use lib.IntN.{ℤ}
use Rattle.meaning_window.specs.Window as Window
use Rattle.meaning_window.specs.Window.{outcome, brings_answer, brings_refusal, brings_value}
use Rattle.records.specs.Records.{answer_is}
use Rattle.records.specs.declared.Answer.{Answer}
use Rattle.records.specs.declared.Answer.TheVariants.{More, Refused, TableRefused}
use Rattle.std.proofs.Common.{ℕ, ◌⊎◌, inl, inr}
use borrow.Author.Rules.{rules}
use Rattle.window_answers.proofs.window_brings.Goals as goal

-- what is no value
abbrev Other : Answer → Type 0
Other a = ((m : ℕ) × (a ≡ More m)) ⊎ (((n : ℕ) × (t : ℕ) × (a ≡ Refused n t)) ⊎ ((n : ℕ) × (o : ℕ) × (a ≡ TableRefused n o)))

others : (a : Answer) (b : List ℤ) → Other a → brings_answer (answer_is a) b ≡ outcome (brings_refusal b) b
others a b (inl (m, e)) = ap (λ z. brings_answer (answer_is z) b) e
others a b (inr (inl (n, t, e))) = ap (λ z. brings_answer (answer_is z) b) e
others a b (inr (inr (n, o, e))) = ap (λ z. brings_answer (answer_is z) b) e

-- a refusal's answer is that of the call on the buffer as it stands
stood : (a : Answer) (b : List ℤ) (w : Window.WindowAnswer) → w ≡ brings_refusal b → brings_answer (answer_is a) b ≡ outcome (brings_refusal b) b → outcome w b ≡ brings_answer (answer_is a) b
stood a b w e q = ap (λ x. outcome x b) e ∙ sym q

pub returns-in-More : goal.returns-in-More
returns-in-More c =
    let s = c in
    let b = s.args.buffer.now in
    stood s.args.answer b _ c.window_state.ensures (others s.args.answer b c.in-More.is)

pub returns-in-Value : goal.returns-in-Value
returns-in-Value c =
    let s = c in
    let b = s.args.buffer.now in
    let t : to_z w64 (of_z w64 c.in-Value.value) ≡ c.in-Value.value = search rules in
    c.window_value.ensures ∙ (ap (λ v. brings_value v b) t ∙ sym (ap (λ z. brings_answer (answer_is z) b) c.in-Value.is))
