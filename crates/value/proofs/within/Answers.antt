use Rattle.std.proofs.Common.{◌≡◌, true, false, sym, ap, ◌∙◌, to_z-of_z, rules}
use Rattle.meaning.specs.Value.{in_range}
use Rattle.value.proofs.within.Goals.{After-in_range}
use Rattle.value.proofs.within.Goals as goal

tested : (c : After-in_range) → in_range c.args.z ≡ c.in_range.result
tested c = sym (c.in_range.ensures ∙ ap in_range (to_z-of_z c.ranges.z))

pub returns-then-in_range : goal.returns-then-in_range
returns-then-in_range c =
    let t : in_range c.args.z ≡ true = tested c.before ∙ c.if-in_range.true in
    rw t (search rules)

pub returns : goal.returns
returns c =
    let t : in_range c.args.z ≡ false = tested c.before ∙ c.if-in_range.false in
    rw t
