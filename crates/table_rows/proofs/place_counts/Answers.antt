use Prim.Native.Nat.{ℕ, ◌+◌}
use mathlib.Core.Path.{ap, ◌∙◌}
use native.Mathlib.Omega.{arith}
use Rattle.meaning.specs.Grammar.{nonterminal_base}
use Rattle.table_rows.proofs.Placing.{placing_start, placing_more}
use Rattle.outline.specs.Counts.{count_at_value, synthesized_at}
use Rattle.table_rows.proofs.place_counts.Goals as goal

pub loop-k-init : goal.loop-k-init
loop-k-init c =
    let symbol = ap (λ (x : ℕ). nonterminal_base + x) c.wide-left.ensures.0 in
    let own = c.count_of.ensures ∙ ap (count_at_value _) symbol in
    let other = c.synthesized_of.ensures ∙ ap (synthesized_at _ _) symbol in
    (placing_start _ _ c.args.inh.now _ c.requires.4 own, placing_start _ _ c.args.syn.now _ c.requires.5 other)

pub loop-k-preserved : goal.loop-k-preserved
loop-k-preserved c =
    let now = c.loop-k.invariant in
    let symbol = c.wide-symbol.ensures.0 in
    let own = c.count_of-in-loop-k.ensures ∙ ap (count_at_value _) symbol in
    let other = c.synthesized_of-in-loop-k.ensures ∙ ap (synthesized_at _ _) symbol in
    (placing_more _ _ _ _ now.0 (omega arith) _ (omega arith) own, placing_more _ _ _ _ now.1 (omega arith) _ (omega arith) other)

pub returns : goal.returns
returns c = record { inherits = record { each = λ k h. c.loop-k.invariant.0.each k (omega arith) }; synthesizes = record { each = λ k h. c.loop-k.invariant.1.each k (omega arith) } }
