use Rattle.std.proofs.Common.{◌≡◌, ◌-◌, rules}
use Rattle.meaning.specs.Table.{byte}
use Rattle.outline.specs.Counts.{count_terminal, count_nonterminal}
use Rattle.outline.proofs.count_of.Goals as goal

pub returns-then-symbol-lt128 : goal.returns-then-symbol-lt128
returns-then-symbol-lt128 c = count_terminal _ _ c.if-symbol-lt128.true

pub returns-else-symbol-lt128 : goal.returns-else-symbol-lt128
returns-else-symbol-lt128 c =
    let read : c.unwrap_or.result ≡ byte c.args.counts.now (c.args.symbol - 128) = search rules in
    count_nonterminal _ _ _ c.if-symbol-lt128.false read
