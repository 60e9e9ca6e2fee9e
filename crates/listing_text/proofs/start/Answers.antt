use Rattle.program_parts.specs.declared.Items.TheVariants.{Conditions}
use mathlib.Core.Path.{◌∙◌}
use Prim.Native.Nat.{◌+◌}
use Rattle.listing_text.proofs.start.Goals as goal

pub returns : goal.returns
returns c =
    let s = c.args in
    let body = c.index_of-body.ensures.0 ∙ c.record_word.ensures in
    let symbols = c.index_of-symbols.ensures.0 ∙ c.record_word-2.ensures in
    λ i. record { production = s.production; passed = 0; items = Conditions; left = c.record_word-tests.ensures i; at = body i + symbols i }
