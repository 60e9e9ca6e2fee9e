use Rattle.std.proofs.Common.{refl}
use Rattle.checker.proofs.Cases.{accepted_case, refused_case}
use Rattle.prepare.specs.declared.Made.TheVariants.{Short, Refused, Written}
use Rattle.prepare.proofs.Cases.{stands, answered}
use Rattle.prepare.proofs.program_of.Goals as goal

pub returns-then-program-lt-AREA : goal.returns-then-program-lt-AREA
returns-then-program-lt-AREA c =
    let z = answered _ _ _ Short (c.if-program-lt-AREA.true, refl) in
    record { said = z.0; cases = z.1 }

pub build-length-requires : goal.build-length-requires
build-length-requires c =
    let x = accepted_case _ _ _ _ _ _ _ c.judge_table.ensures _ c.in-Ok.is in
    (x.outlined, c.if-program-lt-AREA.false)

pub returns-in-Err : goal.returns-in-Err
returns-in-Err c =
    let z = answered _ _ _ (Refused _ _) (c.if-program-lt-AREA.false, rw c.number.ensures (refused_case _ _ _ _ _ _ _ c.judge_table.ensures _ c.in-Err.is), refl) in
    record { said = z.0; cases = z.1 }

pub returns-in-Ok : goal.returns-in-Ok
returns-in-Ok c =
    let z = answered _ _ _ (Written _) (stands _ _ _ _ _ _ _ c.judge_table.ensures c.args.program.now c.if-program-lt-AREA.false _ _ _ c.in-Ok.is c.build-length.ensures) in
    record { said = z.0; cases = z.1 }
