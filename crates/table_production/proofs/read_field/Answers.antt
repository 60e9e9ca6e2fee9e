use mathlib.Core.Path.{refl, sym, subst}
use native.Mathlib.Omega.{arith}
use Rattle.table_sound_items.proofs.Walking.{part_size}
use Rattle.table_production.specs.Productions.{FieldRead}
use Rattle.table_production.proofs.Producing.{part_in, head_left, known_small, left_small}
use Rattle.table_production.proofs.FieldsRead.{field_read}
use Rattle.table_production.proofs.read_field.Goals as goal

pub read_right-requires : goal.read_right-requires
read_right-requires c =
    let pre = c.requires in
    let h = c.in_ok-judge_head.ensures in
    let t = c.args.table.now in
    let part = part_in t c.args.at c.wide.result c.wide.ensures.0 in
    let size = part_size t c.args.at c.wide.result c.wide.ensures.0 (h.long refl) in (
      h.few refl,
      omega (arith, size),
      omega (arith, size, h.short refl),
      pre.5,
      known_small _ _ _ _ _ pre.3 pre.4,
      pre.6,
      pre.7,
      head_left t c.args.at _ _ _ part (h.long refl) (left_small c.args.sizes.terminals c.args.sizes.nonterminals c.args.sizes.carrying.0 _ _ pre.3 _ (h.left refl)),
    )

pub returns : goal.returns
returns c =
    let part = part_in c.args.table.now c.args.at c.wide.result c.wide.ensures.0 in
    subst (FieldRead _ _ _ _ _ _ _ _ _ _ _ _) (sym c.ok_or.ensures.value) (field_read _ _ _ _ _ _ _ _ c.in_ok-judge_head.ensures _ _ _ _ _ part _ c.read_right.ensures)
