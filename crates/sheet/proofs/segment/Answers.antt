use Prim.Native.Nat.{◌≤◌}
use native.Mathlib.Omega.{arith}
use mathlib.Core.Path.{◌≡◌, ap, subst}
use borrow.Author.Rules.{rules}
use Rattle.refusals.specs.Numbers.{refusal_number, refusal_or_zero}
use Rattle.sheet_room.specs.Room.{refusal_some}
use lib.ListN.{get_or}
use Rattle.theory_program.specs.Addresses.{segment_at}
use Rattle.theory_program.specs.WordsStand.{stands_within}
use Rattle.sheet.specs.tree.steps.Walks.{NodeOut}
use Rattle.sheet.specs.Starting.{Lacking, first_numbers, room_left, whole_lacking, whole_in, whole_failed, whole_ended, whole_over}
use Rattle.sheet.proofs.segment.Goals as goal

pub word_at-count-requires : goal.word_at-count-requires
word_at-count-requires c = omega (arith, stands_within (segment_at c.requires.0.shown.begins))

pub returns-in-Err : goal.returns-in-Err
returns-in-Err c =
    let w = c.word_at-count in
    let e : refusal_or_zero c.lacking.result ≡ refusal_number c.in-Err.refusal = ap refusal_or_zero c.in-Err.is in
    rw c.number.ensures (whole_lacking _ c.args.kinds.now c.args.values.now _ _ _ _ c.requires.1 c.args.sheet.now _ _ w.ensures.0 (subst (Lacking w.result c.args.n c.args.k) e c.lacking.ensures) (refusal_some c.in-Err.refusal))

pub open-requires : goal.open-requires
open-requires c =
    (omega (arith, stands_within (segment_at c.requires.0.shown.begins)), omega (arith, c.requires.1.registers, c.requires.1.few), omega (arith, c.requires.1.places, c.requires.1.little))

pub node-requires : goal.node-requires
node-requires c =
    let x = room_left c.word_at-count.result c.args.n c.args.k (refusal_or_zero c.lacking.result) c.lacking.ensures (let z : refusal_or_zero c.lacking.result ≡ 0 = search rules in z) in
    let r : (get_or c.args.program.now 4 0 ≤ c.args.n) × (1 ≤ c.args.k) = (omega (arith, x.0, c.word_at-count.ensures.0), x.1) in
    let o = c.«open» in
    whole_in _ _ _ _ _ _ _ c.requires.1 c.args.sheet.now r.0 r.1 c.requires.2 c.requires.3 _ _ o.ensures _ c.word_at-count.ensures.0 c.requires.0

pub over-requires : goal.over-requires
over-requires c =
    let x = room_left c.word_at-count.result c.args.n c.args.k (refusal_or_zero c.lacking.result) c.lacking.ensures (let z : refusal_or_zero c.lacking.result ≡ 0 = search rules in z) in
    let r : (get_or c.args.program.now 4 0 ≤ c.args.n) × (1 ≤ c.args.k) = (omega (arith, x.0, c.word_at-count.ensures.0), x.1) in
    let o = c.«open» in
    let a = c.args in
    let d = c.node in
    let w = subst (λ z. NodeOut a.program.now a.kinds.now a.values.now c.«open».new.registers c.«open».new.places (first_numbers c.word_at-count.result a.n a.k) a.sheet.now d.new.registers d.new.places d.new.sheet z d.new.numbers) c.if-node.true d.ensures in
    whole_ended _ _ _ _ _ _ _ c.requires.1 _ r.0 r.1 c.requires.2 c.requires.3 _ _ o.ensures _ c.word_at-count.ensures.0 _ _ _ _ w c.requires.0

pub returns-then-node : goal.returns-then-node
returns-then-node c =
    let x = room_left c.word_at-count.result c.args.n c.args.k (refusal_or_zero c.lacking.result) c.lacking.ensures (let z : refusal_or_zero c.lacking.result ≡ 0 = search rules in z) in
    let r : (get_or c.args.program.now 4 0 ≤ c.args.n) × (1 ≤ c.args.k) = (omega (arith, x.0, c.word_at-count.ensures.0), x.1) in
    let o = c.«open» in
    let a = c.args in
    let d = c.node in
    let w = subst (λ z. NodeOut a.program.now a.kinds.now a.values.now c.«open».new.registers c.«open».new.places (first_numbers c.word_at-count.result a.n a.k) a.sheet.now d.new.registers d.new.places d.new.sheet z d.new.numbers) c.if-node.true d.ensures in
    whole_over _ _ _ _ _ _ _ c.requires.1 _ r.0 r.1 c.requires.2 c.requires.3 _ _ o.ensures _ c.word_at-count.ensures.0 _ _ _ _ w c.over.result c.over.ensures

pub overflow_cast-result : goal.overflow_cast-result
overflow_cast-result c =
    let a = c.args in
    let d = c.node in
    let w = subst (λ z. NodeOut a.program.now a.kinds.now a.values.now c.«open».new.registers c.«open».new.places (first_numbers c.word_at-count.result a.n a.k) a.sheet.now d.new.registers d.new.places d.new.sheet z d.new.numbers) c.if-node.false d.ensures in
    omega (arith, w.small)

pub returns : goal.returns
returns c =
    let x = room_left c.word_at-count.result c.args.n c.args.k (refusal_or_zero c.lacking.result) c.lacking.ensures (let z : refusal_or_zero c.lacking.result ≡ 0 = search rules in z) in
    let r : (get_or c.args.program.now 4 0 ≤ c.args.n) × (1 ≤ c.args.k) = (omega (arith, x.0, c.word_at-count.ensures.0), x.1) in
    let o = c.«open» in
    let a = c.args in
    let d = c.node in
    let w = subst (λ z. NodeOut a.program.now a.kinds.now a.values.now c.«open».new.registers c.«open».new.places (first_numbers c.word_at-count.result a.n a.k) a.sheet.now d.new.registers d.new.places d.new.sheet z d.new.numbers) c.if-node.false d.ensures in
    whole_failed _ _ _ _ _ _ _ c.requires.1 _ r.0 r.1 c.requires.2 c.requires.3 _ _ o.ensures _ c.word_at-count.ensures.0 _ _ _ _ w
