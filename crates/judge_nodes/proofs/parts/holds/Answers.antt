use Rattle.std.proofs.Common.{◌≡◌, sym, ap, ◌∙◌, subst₂, arith}
use Rattle.program_block_words.specs.Fields.{Listed}
use Rattle.program_words.specs.Fields.{fields_at, stretch_end}
use Rattle.theory_judge.specs.Holding.{listed_true}
use Rattle.theory_judge.specs.Marks.{read_at}
use Rattle.judge_nodes.proofs.parts.holds.Goals as goal

pub slice_bounds-fields_hold-count : goal.slice_bounds-fields_hold-count
slice_bounds-fields_hold-count c = omega (arith, c.fields_from-from.ensures, c.stretch_end-to.ensures ∙ ap (λ n. stretch_end c.args.table.now c.args.offsets.now n c.args.p) c.row_count.ensures)

pub slice_bounds-fields_hold-start : goal.slice_bounds-fields_hold-start
slice_bounds-fields_hold-start c = omega (arith, c.fields_from-from.ensures, c.stretch_end-to.ensures ∙ ap (λ n. stretch_end c.args.table.now c.args.offsets.now n c.args.p) c.row_count.ensures)

pub slice_bounds-fields_hold-end : goal.slice_bounds-fields_hold-end
slice_bounds-fields_hold-end c = omega (arith, c.stretch_end-to.ensures ∙ ap (λ n. stretch_end c.args.table.now c.args.offsets.now n c.args.p) c.row_count.ensures)

pub fields_hold-requires : goal.fields_hold-requires
fields_hold-requires c =
    let s = c in
    subst₂ (λ i j. Listed (fields_at s.args.table.now i j)) (sym (c.fields_from-from.ensures)) (sym (c.stretch_end-to.ensures ∙ ap (λ n. stretch_end c.args.table.now c.args.offsets.now n c.args.p) c.row_count.ensures)) s.requires.3

pub returns : goal.returns
returns c =
    let s = c in
    subst₂ (λ i j. (x : Listed (fields_at s.args.table.now i j)) → c.fields_hold.result ≡ listed_true (read_at s.args.sheet.now s.args.values.now s.args.marks.now) x) (c.fields_from-from.ensures) (c.stretch_end-to.ensures ∙ ap (λ n. stretch_end c.args.table.now c.args.offsets.now n c.args.p) c.row_count.ensures) c.fields_hold.ensures
