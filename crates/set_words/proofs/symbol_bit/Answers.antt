use native.Mathlib.Omega.{arith}
use Rattle.set_words.specs.Reaching.{token_bit, nonterminal_bit}
use Rattle.set_words.proofs.symbol_bit.Goals as goal

pub returns-then-s-lt128 : goal.returns-then-s-lt128
returns-then-s-lt128 c = λ n. token_bit c.args.s n c.if-s-lt128.true

pub of_nonterminal-requires : goal.of_nonterminal-requires
of_nonterminal-requires c = omega (arith, c.requires)

pub returns : goal.returns
returns c =
    let st = c.before.before in
    λ n. nonterminal_bit st.args.s _ n c.if-s-lt128.false st.requires c.of_nonterminal.ensures
