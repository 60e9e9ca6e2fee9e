use mathlib.Core.Path.{◌∙◌}
use Rattle.std.proofs.Common.{arith, rules}
use Rattle.program_block_words.specs.Chains.{clear_zeros}
use Rattle.clash.specs.Placing.{bytes_of}
use Rattle.program_words.specs.Laws as L
use Rattle.program_words.specs.Sections as S
use Rattle.program.proofs.record.write_production.Goals as goal

pub fields_of-fields-requires : goal.fields_of-fields-requires
fields_of-fields-requires c =
    let x = c.requires.0 in
    let b = bytes_of c.args.table.now (λ i. omega (arith, c.type_inv.table i)) in
    let place = S.place x b in
    (S.row_inside x b, omega (arith, x.here, S.productions_few x.outlined), place.0, place.1)

pub row_of-row-requires : goal.row_of-row-requires
row_of-row-requires c =
    let b = bytes_of c.args.table.now (λ i. omega (arith, c.type_inv.table i)) in
    S.row_inside c.requires.0 b

pub find_items-requires : goal.find_items-requires
find_items-requires c =
    let b = bytes_of c.args.table.now (λ i. omega (arith, c.type_inv.table i)) in
    (S.fields_listing c.requires.0 b c.fields_of-fields.ensures c.requires.2, clear_zeros)

pub write_record-requires : goal.write_record-requires
write_record-requires c =
    let b = bytes_of c.args.table.now (λ i. omega (arith, c.type_inv.table i)) in
    S.record_fits c.requires.0 b c.fields_of-fields.ensures c.requires.2 _ _ c.find_items.ensures.1 (λ y z. c.byte_at-next.ensures.0 ∙ c.requires.1 _ c.requires.0.here y z)

pub wait_at-requires : goal.wait_at-requires
wait_at-requires c =
    let x = c.requires.0 in
    let n = L.numbers_small x.outlined.outline in
    (omega (arith, n.0), omega (arith, n.3), omega (arith, n.3, x.here))

pub write_body-requires : goal.write_body-requires
write_body-requires c =
    let b = bytes_of c.args.table.now (λ i. omega (arith, c.type_inv.table i)) in
    rw c.row_of-row.ensures (S.body_fits c.requires.0 b c.fields_of-fields.ensures c.requires.2 _ _ c.find_items.ensures.1 (λ y z. c.byte_at-next.ensures.0 ∙ c.requires.1 _ c.requires.0.here y z) c.write_record.ensures c.wait_at.ensures)

pub returns : goal.returns
returns c =
    let b = bytes_of c.args.table.now (λ i. omega (arith, c.type_inv.table i)) in (
      search rules,
      S.production_written c.requires.0 b c.fields_of-fields.ensures c.requires.2 _ _ c.find_items.ensures.1 (λ y z. c.byte_at-next.ensures.0 ∙ c.requires.1 _ c.requires.0.here y z)
          c.write_record.ensures c.wait_at.ensures c.row_of-row.ensures c.write_body.ensures,
    )
