use Rattle.host_sheet_numbers.specs.SheetLent.{sheet_lent}
use Rattle.host_sheets.proofs.segment_sheet.Goals as goal

pub returns : goal.returns
returns c =
    sheet_lent c.args.table.now c.args.registers c.args.places c.args.kinds.now c.args.values.now c.args.sheet.now c.sheet-answer.new.sheet _ _ _ _ c.sheet-answer.result c.sheet-answer.ensures c.lend.ensures
