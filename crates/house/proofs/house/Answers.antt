use native.Mathlib.Omega.{arith}
use mathlib.Core.Path.{refl}
use Rattle.std.proofs.lemmas.Result.{err_from_is_err_and}
use Rattle.clash.specs.Placing.{bytes_of}
use Rattle.house.proofs.Answering.{answer_refused, answer_ready, answer_written}
use Rattle.house.proofs.house.Goals as goal

pub returns-in_err-sizes : goal.returns-in_err-sizes
returns-in_err-sizes c =
    let j = c.judge_table in
    let p = err_from_is_err_and c.from_residual.result c.from_residual.ensures.1 in
    rw (p.1, p.2) (answer_refused c.args.table.now j.new.inherited j.new.synthesized j.new.rows j.new.offsets j.new.sets j.result j.ensures _ c.in_err-sizes.was c.args.out.now)

pub write_house-requires : goal.write_house-requires
write_house-requires c =
    let j = c.judge_table in
    answer_ready c.args.table.now j.new.inherited j.new.synthesized j.new.rows j.new.offsets j.new.sets j.result j.ensures
    (bytes_of c.args.table.now (λ i. omega (arith, c.type_inv.table i))) _
    c.in_ok-sizes.was _ refl

pub returns : goal.returns
returns c =
    let j = c.judge_table in
    let w = c.write_house in
    answer_written c.args.table.now j.new.inherited j.new.synthesized j.new.rows j.new.offsets j.new.sets j.result j.ensures
    (bytes_of c.args.table.now (λ i. omega (arith, c.type_inv.table i)))
    _ c.in_ok-sizes.was _ refl c.args.out.now w.new.out w.result w.ensures
