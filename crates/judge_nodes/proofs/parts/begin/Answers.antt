use Rattle.std.proofs.Common.{◌≡◌, None, refl, subst, rules, arith}
use Rattle.judge_nodes.specs.parts.Checked.{TokenEnds}
use Rattle.judge_nodes.specs.head.Laws.{head_is}
use Rattle.judge_nodes.specs.parts.Laws as L
use Rattle.judge_nodes.proofs.parts.begin.Goals as goal

pub returns-in_err-ends : goal.returns-in_err-ends
returns-in_err-ends c =
    let a = c.args in
    let n : c.from_residual.result ≡ None = search rules in
    rw n (λ table offsets x. L.by_token x _ _ c.if-tree-lt128.true _ (subst (TokenEnds a.kinds.now a.values.now a.tree.at a.tree.from a.tree.symbol) c.in_err-ends.was c.check_token.ensures))

pub returns-then-tree-lt128 : goal.returns-then-tree-lt128
returns-then-tree-lt128 c = λ table offsets x.
    let a = c.args in
    L.by_token x _ _ c.if-tree-lt128.true _ (subst (TokenEnds a.kinds.now a.values.now a.tree.at a.tree.from a.tree.symbol) c.in_ok-ends.was c.check_token.ensures)

pub returns-then-tree-eq0 : goal.returns-then-tree-eq0
returns-then-tree-eq0 c = λ table offsets x. L.flat x _ _ c.if-tree-lt128.false c.if-tree-eq0.true

pub heading-requires : goal.heading-requires
heading-requires c = c.requires c.if-tree-lt128.false

pub returns-in_err-head : goal.returns-in_err-head
returns-in_err-head c =
    let n : c.from_residual-in_err-head.result ≡ None = search rules in
    rw n (λ table offsets x. L.unfit x _ _ c.if-tree-lt128.false _ c.heading.ensures c.in_err-head.was)

pub returns : goal.returns
returns c =
    record {
      big = c.if-tree-lt128.false;
      deep = omega (arith, c.if-tree-eq0.false);
      is = head_is _ _ _ _ _ _ _ _ c.heading.ensures _ c.in_ok-head.was;
      from = refl;
      less = refl;
    }
