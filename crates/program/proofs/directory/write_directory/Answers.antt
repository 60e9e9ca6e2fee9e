use Rattle.std.proofs.Common.{arith, ◌≡◌, ◌+◌, ◌-◌}
use Rattle.program_words.specs.Sections as S
use Rattle.program.proofs.directory.write_directory.Goals as goal

pub overflow_mul-end : goal.overflow_mul-end
overflow_mul-end c = omega (arith, S.nonterminals_few c.requires.0.0)

pub overflow_add-end : goal.overflow_add-end
overflow_add-end c = omega (arith, S.nonterminals_few c.requires.0.0)

pub clear-requires : goal.clear-requires
clear-requires c = (omega arith, omega (arith, S.nonterminals_few c.requires.0.0, c.requires.1))

pub loop-p-init : goal.loop-p-init
loop-p-init c = λ old long e. S.directory_start long e

pub left_of-left-requires : goal.left_of-left-requires
left_of-left-requires c = omega (arith, c.requires.0.0.rows_of.room)

pub overflow_mul-p : goal.overflow_mul-p
overflow_mul-p c = omega (arith, S.count_few c.requires.0.0.rows_of)

pub overflow_add-end-in-loop-p : goal.overflow_add-end-in-loop-p
overflow_add-end-in-loop-p c = omega (arith, S.nonterminals_few c.requires.0.0, S.count_few c.requires.0.0.rows_of)

pub overflow_cast-p : goal.overflow_cast-p
overflow_cast-p c = omega (arith, S.count_few c.requires.0.0.rows_of)

pub entry-said-requires : goal.entry-said-requires
entry-said-requires c =
    let x = c.requires.0.0 in
    let few = S.count_few x.rows_of in
    let so_far = c.loop-p.invariant c.args.area.now c.requires.1 c.clear.ensures in
    let size = S.directory_size c.requires.1 so_far x c.requires.0.1 in
    (omega (arith, S.nonterminals_few x, few, c.requires.1, size), omega (arith, few), S.directory_scheme_lem c.requires.1 so_far x c.requires.0.1 c.loop-p-test.true (omega arith))

pub overflow_mul-left : goal.overflow_mul-left
overflow_mul-left c = omega (arith, S.left_few c.requires.0.0.rows_of _ _ (omega (arith, c.loop-p-test.true)) c.left_of-left.ensures)

pub overflow_add-left : goal.overflow_add-left
overflow_add-left c = omega (arith, S.left_few c.requires.0.0.rows_of _ _ (omega (arith, c.loop-p-test.true)) c.left_of-left.ensures)

pub mark-requires : goal.mark-requires
mark-requires c =
    let x = c.requires.0.0 in
    let few = S.left_few x.rows_of _ _ (omega (arith, c.loop-p-test.true)) c.left_of-left.ensures in
    let so_far = c.loop-p.invariant c.args.area.now c.requires.1 c.clear.ensures in
    let size = S.directory_size c.requires.1 so_far x c.requires.0.1 in
    omega (arith, few, c.requires.1, size)

pub loop-p-preserved : goal.loop-p-preserved
loop-p-preserved c =
    let p = c.loop-p.p in
    let number : p - 1 + 1 ≡ p = omega arith in
    λ old long e. S.directory_turn long (c.loop-p.invariant old long e) (omega arith) (omega arith) c.left_of-left.ensures c.set_at.ensures.0 (rw number at c.entry-said.ensures) c.mark.ensures

pub shape_of-area : goal.shape_of-area
shape_of-area c =
    let so_far = c.loop-p.invariant c.args.area.now c.requires.1 c.clear.ensures in
    S.directory_size c.requires.1 so_far c.requires.0.0 c.requires.0.1

pub returns : goal.returns
returns c =
    let so_far = c.loop-p.invariant c.args.area.now c.requires.1 c.clear.ensures in
    λ x r. S.directory_end c.requires.1 so_far (omega arith) x r
