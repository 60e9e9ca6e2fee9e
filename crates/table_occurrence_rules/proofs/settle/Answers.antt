use mathlib.Core.Path.{refl, sym, ◌∙◌}
use native.Mathlib.Omega.{arith}
use Rattle.table_fields.proofs.Demands.{equal_no}
use Rattle.table_occurrence_rules.proofs.Settling.{settle_sound, settle_more}
use Rattle.table_occurrence_rules.proofs.settle.Goals as goal

pub returns-clause-settled : goal.returns-clause-settled
returns-clause-settled c = λ e width inh syn note small i w.
    let body = c.args.body.now in
    let free = sym c.bit_of.ensures ∙ c.if-bit_of.false in
    let out = w.unset c.wide-position.result c.wide-attribute.result (omega arith) (omega arith) free in (
      settle_sound width inh syn note body _ _ c.wide-position.ensures.0 c.wide-attribute.ensures.0 _ _ out.0 out.1 (c.are_inputs.ensures width inh syn i c.if-not-are_inputs.false) (λ n. sym (equal_no c.wide-position.result 0 _ _ n refl)),
      settle_more width inh syn note body _ _ c.wide-position.ensures.0 c.wide-attribute.ensures.0 _ w (omega arith) (omega arith) free,
    )
