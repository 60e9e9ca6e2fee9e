use Rattle.std.proofs.Common.{◌≡◌, ◌+◌, ◌-◌, ◌*◌, ◌<◌, ◌&&◌, Bool, true, false, sym, ◌∙◌, arith, ℕ, List}
use Rattle.meaning.specs.Base.{all}
use Rattle.meaning.specs.Value.{in_range}
use Rattle.theory_judge.specs.Longs.{long_at, longs, longs_none, longs_more}
use Rattle.judge_nodes.proofs.numbers.are_values.Goals as goal

-- the test of the values from the one at hand on
at_hand : (b : List ℕ) (at n i : ℕ) (v : Bool) → all in_range (longs b at n) ≡ all in_range (longs b (at + 8 * i) (n - i)) → i < n → in_range (long_at b (at + 8 * i)) ≡ v → all in_range (longs b at n) ≡ v && all in_range (longs b (at + 8 * (i + 1)) (n - (i + 1)))
at_hand b at n i v m l e =
    let p : at + 8 * i + 8 ≡ at + 8 * (i + 1) = omega arith in
    let q : n - i - 1 ≡ n - (i + 1) = omega arith in
    m ∙ (longs_more b (at + 8 * i) (n - i) (omega arith) ∙ (λ j. e j && all in_range (longs b (p j) (q j))))

pub loop-i-init : goal.loop-i-init
loop-i-init c =
    let a = c.args in
    let p : a.at ≡ a.at + 8 * 0 = omega arith in
    let q : a.n ≡ a.n - 0 = omega arith in
    (λ j. all in_range (longs a.bytes.now (p j) (q j)))

pub returns-then-not-is_value : goal.returns-then-not-is_value
returns-then-not-is_value c =
    sym (at_hand c.args.bytes.now c.args.at c.args.n c.loop-i.i false c.loop-i.invariant (omega arith) (sym c.is_value.ensures ∙ c.if-not-is_value.true))

pub loop-i-preserved : goal.loop-i-preserved
loop-i-preserved c =
    at_hand c.args.bytes.now c.args.at c.args.n c.loop-i.i true c.loop-i.invariant (omega arith) (sym c.is_value.ensures ∙ c.if-not-is_value.false)

pub returns : goal.returns
returns c = sym (c.loop-i.invariant ∙ longs_none _ _ _ (omega arith))
