use native.Mathlib.Omega.{arith}
use mathlib.Core.Path.{refl}
use mathlib.Core.List.{[]}
use lib.ListN.{length-set}
use borrow.Author.Rules.{rules}
use Rattle.program_body_words.specs.Leveling as L
use Rattle.program_body_words.specs.Waiting as W
use Rattle.program_body_levels.proofs.find_levels.Goals as goal

pub loop-k-init : goal.loop-k-init
loop-k-init c = (omega arith, refl, λ fs x y. L.levels_start x _ y, λ fs. W.row_start_lem)

pub row_symbol-symbol-requires : goal.row_symbol-symbol-requires
row_symbol-symbol-requires c = omega (arith, c.row_size-size.ensures.1)

pub wait_word-requires : goal.wait_word-requires
wait_word-requires c =
    let sum = c.loop-k.invariant.0 in
    let short = L.row_short c.requires.0.1 _ c.row_size-size.ensures.0 in
    (c.row_left-left.ensures.1, omega (arith, sum, short), omega (arith, c.count_of-marked.type_inv), omega (arith, c.count_of-own.type_inv), c.row_symbol-symbol.ensures.1)

pub overflow_add-area : goal.overflow_add-area
overflow_add-area c =
    let short = L.row_short c.requires.0.1 _ c.row_size-size.ensures.0 in
    omega (arith, short, c.requires.1, (c.loop-k.invariant.3 []).size)

pub offset_bounds-area-wait : goal.offset_bounds-area-wait
offset_bounds-area-wait c =
    let short = L.row_short c.requires.0.1 _ c.row_size-size.ensures.0 in
    omega (arith, short, c.requires.1, (c.loop-k.invariant.3 []).size)

pub bounds-area-wait : goal.bounds-area-wait
bounds-area-wait c =
    let short = L.row_short c.requires.0.1 _ c.row_size-size.ensures.0 in
    omega (arith, short, c.requires.1, (c.loop-k.invariant.3 []).size)

pub overflow_add-sum : goal.overflow_add-sum
overflow_add-sum c =
    let short = L.row_short c.requires.0.1 _ c.row_size-size.ensures.0 in
    omega (arith, short, c.synthesized_of.type_inv, c.loop-k.invariant.0)

pub overflow_add-levels : goal.overflow_add-levels
overflow_add-levels c =
    let short = L.row_short c.requires.0.1 _ c.row_size-size.ensures.0 in
    omega (arith, short, c.synthesized_of.type_inv, c.loop-k.invariant.0, c.count_of-own.type_inv)

pub offset_bounds-levels-k : goal.offset_bounds-levels-k
offset_bounds-levels-k c =
    let short = L.row_short c.requires.0.1 _ c.row_size-size.ensures.0 in
    omega (arith, short)

pub bounds-levels-k : goal.bounds-levels-k
bounds-levels-k c =
    let short = L.row_short c.requires.0.1 _ c.row_size-size.ensures.0 in
    omega (arith, short)

pub loop-k-preserved : goal.loop-k-preserved
loop-k-preserved c =
    let loop = c.loop-k in
    let left = c.row_left-left.ensures.0 in
    let size = c.row_size-size.ensures.0 in
    let symbol = c.row_symbol-symbol.ensures.0 in
    let marked = c.count_of-marked.ensures in
    let own = c.count_of-own.ensures in
    let word = c.wait_word.ensures in
    let out = c.synthesized_of.ensures in
    let short = L.row_short c.requires.0.1 _ size in (
      omega (arith, loop.invariant.0, c.synthesized_of.type_inv),
      simp length-set loop.invariant.1,
      λ fs x y. L.levels_turn x _ y (loop.invariant.2 fs x y) (omega (arith, size, x.size)) (omega (arith, short, loop.invariant.1)) symbol out own,
      λ fs. W.row_turn (loop.invariant.3 fs) size (omega arith) left symbol marked own out word,
    )

pub overflow_add-wait : goal.overflow_add-wait
overflow_add-wait c =
    let short = L.row_short c.requires.0.1 _ c.row_size-size.ensures.0 in
    omega (arith, short, c.requires.1)

pub overflow_add-wait-2 : goal.overflow_add-wait-2
overflow_add-wait-2 c =
    let short = L.row_short c.requires.0.1 _ c.row_size-size.ensures.0 in
    omega (arith, short, c.requires.1)

pub clear-requires : goal.clear-requires
clear-requires c =
    let short = L.row_short c.requires.0.1 _ c.row_size-size.ensures.0 in
    (omega (arith, short), omega (arith, c.requires.1, (c.loop-k.invariant.3 []).size))

pub shape_of-area : goal.shape_of-area
shape_of-area c = search (rules, (c.loop-k.invariant.3 []).size)

pub returns : goal.returns
returns c =
    let loop = c.loop-k in
    let size = c.row_size-size.ensures.0 in
    (loop.invariant.1, λ fs x y. record { leveled = L.levels_end x _ y (loop.invariant.2 fs x y) (omega (arith, size, x.size)); waiting = W.row_written (loop.invariant.3 fs) size (omega arith) c.clear.ensures x y })
