use native.Mathlib.Omega.{arith}
use mathlib.Core.Path.{subst}
use Rattle.sheet.specs.tree.steps.Cycle.{list_symbols, list_node_at}
use Rattle.sheet.specs.tree.steps.Walks.{Opened, NodeOut, ListOut, pass_out, node_out_as, child_inside, child_over, child_more_in, child_depth, child_more, child_fails, open_depth, open_list, open_none, open_fails, leave_at, left_out}
use Rattle.sheet.proofs.tree.+children_node.Goals.{children-then-operation-eq3, children-else-operation-eq3}
use Rattle.sheet.proofs.tree.+children_node.Goals as goal

-- ---- the first child, a node or a token, then the rest

pub children-node-passed-requires : goal.children-node-passed-requires
children-node-passed-requires t c =
    let q = c.requires in
    (omega (arith, list_symbols q.ready q.look), record { ready = list_node_at q.ready (omega (arith, c.operation.ensures, c.if-operation-eq3.true)); fits = q.fits })

pub children-operation-requires-then-passed : goal.children-operation-requires-then-passed
children-operation-requires-then-passed t c =
    let s = c.args in
    let q = c.requires in
    let j = c.if-operation-eq3 in
    let child : NodeOut s.program.now s.kinds.now s.values.now s.registers.now s.places.now s.numbers.now s.sheet.now j.registers j.places j.sheet j.passed j.numbers = elim j.branch [
      | children-then-operation-eq3 w ↦ node_out_as w.registers-is w.places-is w.sheet-is w.numbers-is w.passed-is w.node-passed.ensures
      | children-else-operation-eq3 w ↦ node_out_as w.registers-is w.places-is w.sheet-is w.numbers-is w.passed-is (pass_out s.sheet.now (omega (arith, q.look.0, q.look.1, c.operation.ensures, w.if-operation-eq3.false)) w.advance-passed.ensures)
    ] in
    let n = subst (λ z. NodeOut s.program.now s.kinds.now s.values.now s.registers.now s.places.now s.numbers.now s.sheet.now j.registers j.places j.sheet z j.numbers) c.if-passed.true child in
    child_inside q n

pub children-returns-then-operation-gt4 : goal.children-returns-then-operation-gt4
children-returns-then-operation-gt4 t c =
    let s = c.args in
    let q = c.requires in
    let j = c.if-operation-eq3 in
    let child : NodeOut s.program.now s.kinds.now s.values.now s.registers.now s.places.now s.numbers.now s.sheet.now j.registers j.places j.sheet j.passed j.numbers = elim j.branch [
      | children-then-operation-eq3 w ↦ node_out_as w.registers-is w.places-is w.sheet-is w.numbers-is w.passed-is w.node-passed.ensures
      | children-else-operation-eq3 w ↦ node_out_as w.registers-is w.places-is w.sheet-is w.numbers-is w.passed-is (pass_out s.sheet.now (omega (arith, q.look.0, q.look.1, c.operation.ensures, w.if-operation-eq3.false)) w.advance-passed.ensures)
    ] in
    let n = subst (λ z. NodeOut s.program.now s.kinds.now s.values.now s.registers.now s.places.now s.numbers.now s.sheet.now j.registers j.places j.sheet z j.numbers) c.if-passed.true child in
    child_over q n (omega (arith, c.operation-then-passed.ensures, c.if-operation-gt4.true))

pub children-overflow_sub-symbols_left : goal.children-overflow_sub-symbols_left
children-overflow_sub-symbols_left t c = list_symbols c.requires.ready c.requires.look

pub children-children-requires : goal.children-children-requires
children-children-requires t c =
    let s = c.args in
    let q = c.requires in
    let j = c.if-operation-eq3 in
    let child : NodeOut s.program.now s.kinds.now s.values.now s.registers.now s.places.now s.numbers.now s.sheet.now j.registers j.places j.sheet j.passed j.numbers = elim j.branch [
      | children-then-operation-eq3 w ↦ node_out_as w.registers-is w.places-is w.sheet-is w.numbers-is w.passed-is w.node-passed.ensures
      | children-else-operation-eq3 w ↦ node_out_as w.registers-is w.places-is w.sheet-is w.numbers-is w.passed-is (pass_out s.sheet.now (omega (arith, q.look.0, q.look.1, c.operation.ensures, w.if-operation-eq3.false)) w.advance-passed.ensures)
    ] in
    let n = subst (λ z. NodeOut s.program.now s.kinds.now s.values.now s.registers.now s.places.now s.numbers.now s.sheet.now j.registers j.places j.sheet z j.numbers) c.if-passed.true child in
    (omega (arith, list_symbols q.ready q.look, child_depth q n), child_more_in q n (omega (arith, c.operation-then-passed.ensures, c.if-operation-gt4.false)))

pub children-returns-then-passed : goal.children-returns-then-passed
children-returns-then-passed t c =
    let s = c.args in
    let q = c.requires in
    let j = c.if-operation-eq3 in
    let child : NodeOut s.program.now s.kinds.now s.values.now s.registers.now s.places.now s.numbers.now s.sheet.now j.registers j.places j.sheet j.passed j.numbers = elim j.branch [
      | children-then-operation-eq3 w ↦ node_out_as w.registers-is w.places-is w.sheet-is w.numbers-is w.passed-is w.node-passed.ensures
      | children-else-operation-eq3 w ↦ node_out_as w.registers-is w.places-is w.sheet-is w.numbers-is w.passed-is (pass_out s.sheet.now (omega (arith, q.look.0, q.look.1, c.operation.ensures, w.if-operation-eq3.false)) w.advance-passed.ensures)
    ] in
    let n = subst (λ z. NodeOut s.program.now s.kinds.now s.values.now s.registers.now s.places.now s.numbers.now s.sheet.now j.registers j.places j.sheet z j.numbers) c.if-passed.true child in
    child_more q n c.children.ensures

pub children-returns : goal.children-returns
children-returns t c =
    let s = c.args in
    let q = c.requires in
    let j = c.if-operation-eq3 in
    let child : NodeOut s.program.now s.kinds.now s.values.now s.registers.now s.places.now s.numbers.now s.sheet.now j.registers j.places j.sheet j.passed j.numbers = elim j.branch [
      | children-then-operation-eq3 w ↦ node_out_as w.registers-is w.places-is w.sheet-is w.numbers-is w.passed-is w.node-passed.ensures
      | children-else-operation-eq3 w ↦ node_out_as w.registers-is w.places-is w.sheet-is w.numbers-is w.passed-is (pass_out s.sheet.now (omega (arith, q.look.0, q.look.1, c.operation.ensures, w.if-operation-eq3.false)) w.advance-passed.ensures)
    ] in
    let n = subst (λ z. NodeOut s.program.now s.kinds.now s.values.now s.registers.now s.places.now s.numbers.now s.sheet.now j.registers j.places j.sheet z j.numbers) c.if-passed.false child in
    child_fails n

-- ---- how the node was entered, and what its children came to

pub node-leave-requires : goal.node-leave-requires
node-leave-requires t c =
    let s = c.args in
    let q = c.requires in
    let e = c.enter.new in
    let o = subst (λ z. Opened s.program.now s.kinds.now s.values.now s.registers.now s.places.now s.numbers.now e.registers e.places z e.numbers) c.if-enter.true c.enter.ensures in
    leave_at q o (open_none q o s.sheet.now (omega (arith, c.operation.ensures, c.if-operation-ge5.true)))

pub node-returns-then-operation-ge5 : goal.node-returns-then-operation-ge5
node-returns-then-operation-ge5 t c =
    let s = c.args in
    let q = c.requires in
    let e = c.enter.new in
    let o = subst (λ z. Opened s.program.now s.kinds.now s.values.now s.registers.now s.places.now s.numbers.now e.registers e.places z e.numbers) c.if-enter.true c.enter.ensures in
    left_out q o (open_none q o s.sheet.now (omega (arith, c.operation.ensures, c.if-operation-ge5.true))) c.leave.ensures

pub node-children-requires : goal.node-children-requires
node-children-requires t c =
    let s = c.args in
    let q = c.requires in
    let e = c.enter.new in
    let o = subst (λ z. Opened s.program.now s.kinds.now s.values.now s.registers.now s.places.now s.numbers.now e.registers e.places z e.numbers) c.if-enter.true c.enter.ensures in
    (omega (arith, open_depth q o), open_list q o (omega (arith, c.operation.ensures, c.if-operation-ge5.false)))

pub node-leave-requires-then-children : goal.node-leave-requires-then-children
node-leave-requires-then-children t c =
    let s = c.args in
    let q = c.requires in
    let e = c.enter.new in
    let o = subst (λ z. Opened s.program.now s.kinds.now s.values.now s.registers.now s.places.now s.numbers.now e.registers e.places z e.numbers) c.if-enter.true c.enter.ensures in
    let h = c.children.new in
    let l = subst (λ z. ListOut s.program.now s.kinds.now s.values.now e.registers e.places e.numbers s.sheet.now h.registers h.places h.sheet z h.numbers) c.if-children.true c.children.ensures in
    leave_at q o l

pub node-returns-then-children : goal.node-returns-then-children
node-returns-then-children t c =
    let s = c.args in
    let q = c.requires in
    let e = c.enter.new in
    let o = subst (λ z. Opened s.program.now s.kinds.now s.values.now s.registers.now s.places.now s.numbers.now e.registers e.places z e.numbers) c.if-enter.true c.enter.ensures in
    let h = c.children.new in
    let l = subst (λ z. ListOut s.program.now s.kinds.now s.values.now e.registers e.places e.numbers s.sheet.now h.registers h.places h.sheet z h.numbers) c.if-children.true c.children.ensures in
    left_out q o l c.leave-then-children.ensures

pub node-returns-else-children : goal.node-returns-else-children
node-returns-else-children t c =
    let s = c.args in
    let q = c.requires in
    let e = c.enter.new in
    let o = subst (λ z. Opened s.program.now s.kinds.now s.values.now s.registers.now s.places.now s.numbers.now e.registers e.places z e.numbers) c.if-enter.true c.enter.ensures in
    let h = c.children.new in
    let l = subst (λ z. ListOut s.program.now s.kinds.now s.values.now e.registers e.places e.numbers s.sheet.now h.registers h.places h.sheet z h.numbers) c.if-children.false c.children.ensures in
    open_fails q o l
