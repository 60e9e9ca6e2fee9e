use native.Mathlib.Omega.{arith}
use Rattle.clash.specs.Placing.{bytes_of}
use Rattle.judge.proofs.Answering as A
use Rattle.judge.proofs.judge.Goals as goal

pub returns-then-kinds-values : goal.returns-then-kinds-values
returns-then-kinds-values c =
    let j = c.judge_table in
    A.answer_uneven _ _ _ _ _ _ _ j.ensures c.args.kinds.now c.args.values.now c.args.sheet.now _ c.in-Ok.is c.if-kinds-values.true

pub returns-then-kinds-ge-COUNTED : goal.returns-then-kinds-ge-COUNTED
returns-then-kinds-ge-COUNTED c =
    let j = c.judge_table in
    let table-bytes = (bytes_of c.args.table.now (λ i. omega (arith, c.type_inv.table i))) in
    A.answer_many _ _ _ _ _ _ _ j.ensures c.args.kinds.now c.args.values.now c.args.sheet.now _ c.in-Ok.is table-bytes c.if-kinds-values.false (omega arith)

pub row_start-long-requires : goal.row_start-long-requires
row_start-long-requires c =
    let j = c.judge_table in
    let table-bytes = (bytes_of c.args.table.now (λ i. omega (arith, c.type_inv.table i))) in
    let inside = A.rows_fit _ _ _ _ _ _ _ j.ensures c.args.kinds.now c.args.values.now c.args.sheet.now _ c.in-Ok.is table-bytes in
    let long = A.lengths _ _ _ _ _ _ _ j.ensures c.args.kinds.now c.args.values.now c.args.sheet.now _ c.in-Ok.is in
    omega (arith, inside, long.2)

pub slice_bounds-rows-end : goal.slice_bounds-rows-end
slice_bounds-rows-end c =
    let j = c.judge_table in
    let table-bytes = (bytes_of c.args.table.now (λ i. omega (arith, c.type_inv.table i))) in
    let inside = A.rows_fit _ _ _ _ _ _ _ j.ensures c.args.kinds.now c.args.values.now c.args.sheet.now _ c.in-Ok.is table-bytes in
    let long = A.lengths _ _ _ _ _ _ _ j.ensures c.args.kinds.now c.args.values.now c.args.sheet.now _ c.in-Ok.is in
    omega (arith, c.row_start-long.ensures, inside, long.2)

pub slice_bounds-judge_sheet-end : goal.slice_bounds-judge_sheet-end
slice_bounds-judge_sheet-end c =
    let j = c.judge_table in
    let table-bytes = (bytes_of c.args.table.now (λ i. omega (arith, c.type_inv.table i))) in
    A.rows_cut _ _ _ _ _ _ _ j.ensures c.args.kinds.now c.args.values.now c.args.sheet.now _ c.in-Ok.is table-bytes c.row_start-long.ensures

pub slice_bounds-judge_sheet-end-in-Ok : goal.slice_bounds-judge_sheet-end-in-Ok
slice_bounds-judge_sheet-end-in-Ok c =
    let j = c.judge_table in
    (A.lengths _ _ _ _ _ _ _ j.ensures c.args.kinds.now c.args.values.now c.args.sheet.now _ c.in-Ok.is).0

pub slice_bounds-judge_sheet-end-in-Ok-2 : goal.slice_bounds-judge_sheet-end-in-Ok-2
slice_bounds-judge_sheet-end-in-Ok-2 c =
    let j = c.judge_table in
    (A.lengths _ _ _ _ _ _ _ j.ensures c.args.kinds.now c.args.values.now c.args.sheet.now _ c.in-Ok.is).1

pub slice_bounds-judge_sheet-end-in-Ok-3 : goal.slice_bounds-judge_sheet-end-in-Ok-3
slice_bounds-judge_sheet-end-in-Ok-3 c =
    let j = c.judge_table in
    (A.lengths _ _ _ _ _ _ _ j.ensures c.args.kinds.now c.args.values.now c.args.sheet.now _ c.in-Ok.is).3

pub judge_sheet-requires : goal.judge_sheet-requires
judge_sheet-requires c =
    let j = c.judge_table in
    let table-bytes = (bytes_of c.args.table.now (λ i. omega (arith, c.type_inv.table i))) in
    let sheet-bytes = (bytes_of c.args.sheet.now (λ i. omega (arith, c.type_inv.sheet i))) in
    let usable = c.in-Ok.is in
    let even = c.if-kinds-values.false in
    let cut = c.row_start-long.ensures in
    A.answer_ready _ _ _ _ _ _ _ j.ensures c.args.kinds.now c.args.values.now c.args.sheet.now _ usable table-bytes even (omega arith) sheet-bytes cut

pub returns-in-Err : goal.returns-in-Err
returns-in-Err c =
    let j = c.judge_table in
    rw c.unusable.ensures (A.answer_refused _ _ _ _ _ _ _ j.ensures c.args.kinds.now c.args.values.now c.args.sheet.now _ c.in-Err.is)

pub returns-else-kinds-ge-COUNTED : goal.returns-else-kinds-ge-COUNTED
returns-else-kinds-ge-COUNTED c =
    let j = c.judge_table in
    let table-bytes = (bytes_of c.args.table.now (λ i. omega (arith, c.type_inv.table i))) in
    let sheet-bytes = (bytes_of c.args.sheet.now (λ i. omega (arith, c.type_inv.sheet i))) in
    let usable = c.in-Ok.is in
    let even = c.if-kinds-values.false in
    let cut = c.row_start-long.ensures in
    A.answer_settled _ _ _ _ _ _ _ j.ensures c.args.kinds.now c.args.values.now c.args.sheet.now _ usable table-bytes even (omega arith) sheet-bytes cut c.judge_sheet.result c.judge_sheet.ensures
