use mathlib.Core.Path.{refl, ◌∙◌}
use native.Mathlib.Omega.{arith}
use Rattle.outline.specs.Counts.{synthesized_nonterminal}
use Rattle.table_fields.proofs.Symbols.{nonterminal_known, nonterminal_unknown}
use Rattle.table_occurrence_words.proofs.Placing.{input_right_word, other_right_word}
use Rattle.table_occurrence_words.proofs.find_nonterminal.Goals as goal

pub returns-then-sizes-symbol-clause-other : goal.returns-then-sizes-symbol-clause-other
returns-then-sizes-symbol-clause-other c = nonterminal_unknown _ _ _ c.requires.0 c.if-sizes-symbol.true

pub symbol_bit-bit-requires : goal.symbol_bit-bit-requires
symbol_bit-bit-requires c = (c.requires.2 _ (nonterminal_known _ _ _ c.requires.0 c.if-sizes-symbol.false)).0

pub range_word-inputs-requires : goal.range_word-inputs-requires
range_word-inputs-requires c =
    let known = nonterminal_known _ _ _ c.requires.0 c.if-sizes-symbol.false in
    let small = (c.requires.2 _ known).1 in
    let is-i = c.wide-i.ensures.0 ∙ c.count_of.ensures in
    let is-s = c.wide-s.ensures.0 ∙ synthesized_nonterminal c.args.sizes.carrying.0 c.args.synthesized.now c.args.symbol _ c.requires.0 c.count_of-2.ensures in
    (omega arith, omega arith)

pub range_word-others-requires : goal.range_word-others-requires
range_word-others-requires c =
    let known = nonterminal_known _ _ _ c.requires.0 c.if-sizes-symbol.false in
    let small = (c.requires.2 _ known).1 in
    let is-i = c.wide-i.ensures.0 ∙ c.count_of.ensures in
    let is-s = c.wide-s.ensures.0 ∙ synthesized_nonterminal c.args.sizes.carrying.0 c.args.synthesized.now c.args.symbol _ c.requires.0 c.count_of-2.ensures in
    (omega arith, omega arith)

pub returns-clause-found : goal.returns-clause-found
returns-clause-found c =
    let known = nonterminal_known _ _ _ c.requires.0 c.if-sizes-symbol.false in
    let small = (c.requires.2 _ known).1 in
    let is-i = c.wide-i.ensures.0 ∙ c.count_of.ensures in
    let is-s = c.wide-s.ensures.0 ∙ synthesized_nonterminal c.args.sizes.carrying.0 c.args.synthesized.now c.args.symbol _ c.requires.0 c.count_of-2.ensures in (
      record {
        known = known;
        bits = c.symbol_bit-bit.ensures;
        inputs = λ k l. input_right_word _ _ _ k _ _ _ is-i is-s l _ c.range_word-inputs.ensures;
        others = λ k l. other_right_word _ _ _ k _ _ _ is-i is-s l _ c.range_word-others.ensures;
      },
      refl,
    )
