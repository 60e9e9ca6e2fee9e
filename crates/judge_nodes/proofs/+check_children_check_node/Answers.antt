use Rattle.std.proofs.Common.{◌≡◌, Some, None, refl, ap, ◌∙◌, subst, rules, arith}
use Rattle.judge_nodes.specs.parts.Checked.{Begins}
use Rattle.judge_nodes.specs.parts.Laws as L
use Rattle.judge_nodes.proofs.+check_children_check_node.Goals as goal

pub check_children-loop-k-init : goal.check_children-loop-k-init
check_children-loop-k-init t c = L.passed_none c.requires.1

pub check_children-mark_of-requires : goal.check_children-mark_of-requires
check_children-mark_of-requires t c = omega (arith, L.end_small c.loop-k.invariant c.requires.0)

pub check_children-check_node-requires : goal.check_children-check_node-requires
check_children-check_node-requires t c =
    (omega arith, L.node_ready c.loop-k.invariant (omega (arith, c.size_of-size.ensures.0)) _ c.symbol_of-symbol.ensures c.requires.0)

pub check_children-returns-in_err-ends : goal.check_children-returns-in_err-ends
check_children-returns-in_err-ends t c =
    let n : c.from_residual.result ≡ None = search rules in
    rw n (L.passed_wrong c.loop-k.invariant (omega (arith, c.size_of-size.ensures.0)) _ c.symbol_of-symbol.ensures _ c.check_node.ensures _ c.in_err-ends.was)

pub check_children-loop-k-preserved : goal.check_children-loop-k-preserved
check_children-loop-k-preserved t c =
    L.passed_more c.loop-k.invariant (omega (arith, c.size_of-size.ensures.0)) _ c.symbol_of-symbol.ensures _ c.check_node.ensures _ _ c.in_ok-ends.was
    (omega (arith, L.size_few c.requires.0, c.size_of-size.ensures.0)) _ c.mark_of.ensures

pub check_children-returns : goal.check_children-returns
check_children-returns t c = L.passed_end c.loop-k.invariant (omega (arith, c.size_of-size.ensures.0))

pub check_node-begin-requires : goal.check_node-begin-requires
check_node-begin-requires t c = λ big. L.attributes_few c.requires.book _ (L.known_m c.requires 0 0 big)

pub check_node-returns-in_err-ends : goal.check_node-returns-in_err-ends
check_node-returns-in_err-ends t c =
    let a = c.args in
    let n : c.from_residual.result ≡ None = search rules in
    let i = subst (Begins a.rows.now a.inh.now a.syn.now a.kinds.now a.values.now a.sheet.now a.tree) c.in_err-ends.was c.begin.ensures in
    rw n (λ x. i _ _ x)

pub check_node-returns-in-Token : goal.check_node-returns-in-Token
check_node-returns-in-Token t c = λ x.
    let a = c.args in
    let i = subst (Begins a.rows.now a.inh.now a.syn.now a.kinds.now a.values.now a.sheet.now a.tree) (c.in_ok-ends.was ∙ ap Some c.in-Token.is) c.begin.ensures in
    i _ _ x

pub check_node-closed-requires : goal.check_node-closed-requires
check_node-closed-requires t c =
    let a = c.args in
    let i = subst (Begins a.rows.now a.inh.now a.syn.now a.kinds.now a.values.now a.sheet.now a.tree) (c.in_ok-ends.was ∙ ap Some c.in-Inside.is) c.begin.ensures in
    (L.holdable c.requires _ i, L.node_from c.requires _ i _ _ _ c.check_children.ensures _ _ c.in_ok-ends-in-Inside.was)

pub check_node-returns-in_err-ends-in-Inside : goal.check_node-returns-in_err-ends-in-Inside
check_node-returns-in_err-ends-in-Inside t c =
    let a = c.args in
    let n : c.from_residual-in_err-ends-in-Inside.result ≡ None = search rules in
    let i = subst (Begins a.rows.now a.inh.now a.syn.now a.kinds.now a.values.now a.sheet.now a.tree) (c.in_ok-ends.was ∙ ap Some c.in-Inside.is) c.begin.ensures in
    rw n (λ x. L.node_wrong x _ i _ _ _ c.check_children.ensures c.in_err-ends-in-Inside.was)

pub check_node-returns-in_ok-ends-in-Inside : goal.check_node-returns-in_ok-ends-in-Inside
check_node-returns-in_ok-ends-in-Inside t c = λ x.
    let a = c.args in
    let i = subst (Begins a.rows.now a.inh.now a.syn.now a.kinds.now a.values.now a.sheet.now a.tree) (c.in_ok-ends.was ∙ ap Some c.in-Inside.is) c.begin.ensures in
    L.node_closed x _ i _ _ _ c.check_children.ensures _ _ c.in_ok-ends-in-Inside.was refl _ c.closed.ensures
