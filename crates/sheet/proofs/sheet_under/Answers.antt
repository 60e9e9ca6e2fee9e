use Prim.Native.Nat.{◌≤◌, ◌<◌, min}
use native.Mathlib.Omega.{arith}
use mathlib.Core.Path.{◌≡◌, sym, ap, subst, ◌∙◌}
use borrow.Author.Rules.{rules}
use Rattle.refusals.specs.Numbers.{refusal_number, refusal_or_zero}
use mathlib.Core.List.{[], ◌++◌}
use lib.ListN.{length, drop}
use Rattle.meaning.specs.Limits.{registers_limit, places_limit}
use Rattle.sheet_room.specs.Room.{refusal_some, is_short_lem, has_room}
use Rattle.sheet_answers.specs.declared.Answer.TheVariants.{Value, Refused, TableRefused}
use Rattle.sheet.specs.Segments.{SegmentDone, Under, none_written, under_uneven, under_refused, under_table, under_short, under_written}
use Rattle.sheet.proofs.sheet_under.Goals as goal

pub returns-then-kinds-values : goal.returns-then-kinds-values
returns-then-kinds-values c =
    let ws = c.args.program.now in
    let ks = c.args.kinds.now in
    let vs = c.args.values.now in
    let n = c.args.registers in
    let k = c.args.places in
    let out = c.args.sheet.now in
    rw c.number.ensures (under_uneven ws ks vs n k out c.if-kinds-values.true)

pub returns-in-Err : goal.returns-in-Err
returns-in-Err c =
    let ws = c.args.program.now in
    let ks = c.args.kinds.now in
    let vs = c.args.values.now in
    let n = c.args.registers in
    let k = c.args.places in
    let out = c.args.sheet.now in
    let wk = c.walk in
    let last = wk.new.sheet in
    let same : last ++ drop 0 out ≡ out = none_written last out (omega (arith, wk.auto.sheet)) in
    let even : length ks ≡ length vs = c.if-kinds-values.false in
    let w : SegmentDone ws ks vs (min n registers_limit) (min k places_limit) [] last (Value c.in-Value.value c.in-Value.moves c.in-Value.size) = subst (λ z. SegmentDone ws ks vs (min n registers_limit) (min k places_limit) [] last z) c.in-Value.is wk.ensures in
    let r = c.in-Err.refusal in
    let judged = is_short_lem _ _ (refusal_number r) (sym (ap refusal_or_zero c.in-Err.is) ∙ c.refusal.ensures) (refusal_some r) in
    let short : length out < c.in-Value.size = omega (arith, ap length same, judged.0) in
    let answer : Under ws ks vs n k out out (Refused 41 0) = under_short ws ks vs n k out even c.requires.1 [] last c.in-Value.value c.in-Value.moves c.in-Value.size w short in
    rw c.number-in-Err.ensures (subst (λ z. Under ws ks vs n k out z (Refused (refusal_number r) 0)) (sym same) (subst (λ m. Under ws ks vs n k out out (Refused m 0)) (sym judged.1) answer))

pub returns-in-TableRefused : goal.returns-in-TableRefused
returns-in-TableRefused c =
    let ws = c.args.program.now in
    let ks = c.args.kinds.now in
    let vs = c.args.values.now in
    let n = c.args.registers in
    let k = c.args.places in
    let out = c.args.sheet.now in
    let wk = c.walk in
    let last = wk.new.sheet in
    let same : last ++ drop 0 out ≡ out = none_written last out (omega (arith, wk.auto.sheet)) in
    let even : length ks ≡ length vs = c.if-kinds-values.false in
    let w : SegmentDone ws ks vs (min n registers_limit) (min k places_limit) [] last (TableRefused c.in-TableRefused.number c.in-TableRefused.offset) = subst (λ z. SegmentDone ws ks vs (min n registers_limit) (min k places_limit) [] last z) c.in-TableRefused.is wk.ensures in
    subst (λ z. Under ws ks vs n k out z (TableRefused c.in-TableRefused.number c.in-TableRefused.offset)) (sym same) (under_table ws ks vs n k out even c.requires.1 [] last out c.in-TableRefused.number c.in-TableRefused.offset w)

pub returns-in-Refused : goal.returns-in-Refused
returns-in-Refused c =
    let ws = c.args.program.now in
    let ks = c.args.kinds.now in
    let vs = c.args.values.now in
    let n = c.args.registers in
    let k = c.args.places in
    let out = c.args.sheet.now in
    let wk = c.walk in
    let last = wk.new.sheet in
    let same : last ++ drop 0 out ≡ out = none_written last out (omega (arith, wk.auto.sheet)) in
    let even : length ks ≡ length vs = c.if-kinds-values.false in
    let w : SegmentDone ws ks vs (min n registers_limit) (min k places_limit) [] last (Refused c.in-Refused.number c.in-Refused.tokens) = subst (λ z. SegmentDone ws ks vs (min n registers_limit) (min k places_limit) [] last z) c.in-Refused.is wk.ensures in
    subst (λ z. Under ws ks vs n k out z (Refused c.in-Refused.number c.in-Refused.tokens)) (sym same) (under_refused ws ks vs n k out even c.requires.1 [] last c.in-Refused.number c.in-Refused.tokens w)

pub returns-in_default : goal.returns-in_default
returns-in_default c =
    let ws = c.args.program.now in
    let ks = c.args.kinds.now in
    let vs = c.args.values.now in
    let n = c.args.registers in
    let k = c.args.places in
    let out = c.args.sheet.now in
    let wk = c.walk in
    let last = wk.new.sheet in
    let same : last ++ drop 0 out ≡ out = none_written last out (omega (arith, wk.auto.sheet)) in
    let even : length ks ≡ length vs = c.if-kinds-values.false in
    let w : SegmentDone ws ks vs (min n registers_limit) (min k places_limit) [] last (Value c.in-Value.value c.in-Value.moves c.in-Value.size) = subst (λ z. SegmentDone ws ks vs (min n registers_limit) (min k places_limit) [] last z) c.in-Value.is wk.ensures in
    let w2 = c.walk-in-Value in
    let after = w2.new.sheet in
    let room : c.in-Value.size ≤ length out = omega (arith, ap length same, has_room _ _ (refusal_or_zero c.refusal.result) c.refusal.ensures (let z : refusal_or_zero c.refusal.result ≡ 0 = search rules in z)) in
    let written : SegmentDone ws ks vs (min n registers_limit) (min k places_limit) out after w2.result = subst (λ z. SegmentDone ws ks vs (min n registers_limit) (min k places_limit) z after w2.result) same w2.ensures in
    under_written ws ks vs n k out even c.requires.1 [] last c.in-Value.value c.in-Value.moves c.in-Value.size w room after w2.result written
