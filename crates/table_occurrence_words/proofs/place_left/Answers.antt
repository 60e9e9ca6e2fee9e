use Prim.Native.Nat.{ℕ, ◌+◌}
use mathlib.Core.Path.{refl, ◌∙◌, ap}
use native.Mathlib.Omega.{arith}
use Rattle.outline.specs.Counts.{count_at_value, synthesized_nonterminal}
use Rattle.table_occurrences.proofs.Laws.{filling_start, filling_more, filled}
use Rattle.table_occurrence_words.proofs.Placing.{input_left_word, other_left_word}
use Rattle.meaning.specs.Grammar.{nonterminal_base}
use Rattle.table_occurrence_words.proofs.place_left.Goals as goal

pub returns-clause-inputs : goal.returns-clause-inputs
returns-clause-inputs c =
    let left = ap (λ (x : ℕ). nonterminal_base + x) c.wide-left.ensures.0 in
    let is-i = c.wide-i.ensures.0 ∙ c.count_of.ensures ∙ ap (count_at_value c.args.inherited.now) left in
    let is-s = c.wide-s.ensures.0 ∙ c.count_of-2.ensures ∙ ap (count_at_value c.args.synthesized.now) left in
    λ carrying. filled _ _ _ _ _ (filling_more _ _ 0 _ (filling_start _ _ _ c.requires.1) (omega arith) _ (input_left_word _ _ carrying 0 _ _ _ is-i (synthesized_nonterminal _ _ _ _ (omega arith) is-s) refl _ c.range_word.ensures)) refl

pub returns-clause-others : goal.returns-clause-others
returns-clause-others c =
    let left = ap (λ (x : ℕ). nonterminal_base + x) c.wide-left.ensures.0 in
    let is-i = c.wide-i.ensures.0 ∙ c.count_of.ensures ∙ ap (count_at_value c.args.inherited.now) left in
    let is-s = c.wide-s.ensures.0 ∙ c.count_of-2.ensures ∙ ap (count_at_value c.args.synthesized.now) left in
    λ carrying. filled _ _ _ _ _ (filling_more _ _ 0 _ (filling_start _ _ _ c.requires.2) (omega arith) _ (other_left_word _ _ carrying 0 _ _ _ is-i (synthesized_nonterminal _ _ _ _ (omega arith) is-s) refl _ c.range_word-2.ensures)) refl
