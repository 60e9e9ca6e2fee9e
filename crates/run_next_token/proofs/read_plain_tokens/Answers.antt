use Prim.Native.Nat.{ℕ, ◌-◌}
use native.Mathlib.Omega.{arith}
use Rattle.run_moves.specs.Held.{bounds}
use Rattle.run_moves.specs.Passing.{top_small}
use Rattle.run_next_token.specs.Operations.{Running}
use Rattle.run_next_token.specs.Reading.{reaches_none}
use Rattle.run_next_token.specs.Following.{after_reads, passed_by, few_passed, reads_from}
use Rattle.run_next_token.proofs.read_plain_tokens.Goals.{After-behind_reads-at, Start}
use Rattle.run_next_token.proofs.read_plain_tokens.Goals as goal

abbrev start : After-behind_reads-at → Start
start b = b.before.before.before.before.before.before.before.before

-- how many they are
abbrev count : After-behind_reads-at → ℕ
count b = b.behind_reads-at.result - (start b).args.run.at

-- a configuration is held after them
running : (b : After-behind_reads-at) → (let s = start b in let a = s.args in Running a.program.now s.requires.0.0 (passed_by a.program.now a.run (count b) a.places.now) (after_reads a.run (count b)))
running b =
    let s = start b in
    let p = s.requires.0 in
    (b.behind_reads-at.ensures.1 s.args.places.now p.0 p.1 p.2.even p.2.running).1

pub word_at-requires : goal.word_at-requires
word_at-requires c = (bounds c.requires.0.2.running.held).inside

pub returns-then-operation-ne-READ : goal.returns-then-operation-ne-READ
returns-then-operation-ne-READ c = λ vs rs even. reaches_none

pub behind_reads-at-requires : goal.behind_reads-at-requires
behind_reads-at-requires c =
    let s = c.before.before.before.before.before.before.before in
    let p = s.requires in
    ((s.args.places.now, (p.0.0, p.0.1, p.0.2)), p.1)

pub returns-then-at-run : goal.returns-then-at-run
returns-then-at-run c = λ vs rs even. reaches_none

pub pass_each-requires : goal.pass_each-requires
pass_each-requires c =
    let b = c.before.before.before.before.before in
    let s = start (record { before = b; type_inv = record { kinds = b.shared_slice_known-2-1.given; program = b.shared_slice_known-1.given; places = b.slice_known-1.given } }) in
    let a = s.args in
    let h = (running (record { before = b; type_inv = record { kinds = b.shared_slice_known-2-1.given; program = b.shared_slice_known-1.given; places = b.slice_known-1.given } })).held in
    let k = bounds s.requires.0.2.running.held in
    let e = b.behind_reads-at.ensures.0 in
    ((k.some_place, k.places, few_passed a.program.now a.run (count (record { before = b; type_inv = record { kinds = b.shared_slice_known-2-1.given; program = b.shared_slice_known-1.given; places = b.slice_known-1.given } })) a.places.now (omega (arith, k.some_place, k.places)) (top_small h)), omega (arith, e, c.if-at-run.false), omega (arith, e, (bounds h).inside))

pub overflow_add-result : goal.overflow_add-result
overflow_add-result c = omega (arith, (bounds (running (record { before = c.before.before.before.before.before.before.before.before.before; type_inv = record { kinds = c.before.before.before.before.before.before.before.before.before.shared_slice_known-2-1.given; program = c.before.before.before.before.before.before.before.before.before.shared_slice_known-1.given; places = c.before.before.before.before.before.before.before.before.before.slice_known-1.given } })).held).tokens)

pub overflow_add-result-2 : goal.overflow_add-result-2
overflow_add-result-2 c = omega (arith, (bounds (running (record { before = c.before.before.before.before.before.before.before.before.before.before; type_inv = record { kinds = c.before.before.before.before.before.before.before.before.before.before.shared_slice_known-2-1.given; program = c.before.before.before.before.before.before.before.before.before.before.shared_slice_known-1.given; places = c.before.before.before.before.before.before.before.before.before.before.slice_known-1.given } })).held).moves)

pub returns : goal.returns
returns c =
    let e = c.before.before.before.before.before.before.before.before in
    let b = e.before.before in
    let a = (start (record { before = b; type_inv = record { kinds = b.shared_slice_known-2-1.given; program = b.shared_slice_known-1.given; places = b.slice_known-1.given } })).args in
    reads_from a.limits.bound a.limits.most a.program.now a.kinds.now _ a.run b.behind_reads-at.result a.places.now _ b.behind_reads-at.ensures e.if-at-run.false c.pass_each.ensures
