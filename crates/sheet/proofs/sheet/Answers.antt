use native.Mathlib.Omega.{arith}
use Rattle.prepare.specs.Beginning.{standing_readable}
use Rattle.sheet.specs.Calling.{never_short, table_refused_lem, stands, under_table}
use Rattle.sheet.proofs.sheet.Goals as goal

pub sheet_under-requires : goal.sheet_under-requires
sheet_under-requires c =
    let m = c.program_of in
    (standing_readable (stands m.result m.ensures.cases _ c.in-Written.is), c.all_values.ensures)

pub returns-in-Short : goal.returns-in-Short
returns-in-Short c =
    let m = c.program_of in
    never_short m.result m.ensures.cases c.in-Short.is (omega arith)

pub returns-in-Refused : goal.returns-in-Refused
returns-in-Refused c =
    let m = c.program_of in
    table_refused_lem m.result m.ensures.cases c.in-Refused.number c.in-Refused.offset c.in-Refused.is c.args.registers c.args.places c.args.kinds.now c.args.values.now c.args.sheet.now

pub returns-in-Written : goal.returns-in-Written
returns-in-Written c =
    let m = c.program_of in
    let u = c.sheet_under in
    under_table (stands m.result m.ensures.cases _ c.in-Written.is) c.args.registers c.args.places c.args.kinds.now c.args.values.now c.args.sheet.now u.new.sheet u.result u.ensures
