use Rattle.std.proofs.Common.{ℕ, rules, ◌≡◌, ◌<◌, ◌≤◌, ◌+◌, true, refl, arith}
use Rattle.std.specs.Prelude.{Option, None}
use Rattle.meaning.specs.Limits.{nonterminals_limit, productions_limit}
use Rattle.outline.specs.Images.{left_at, image_of}
use Rattle.analysis.specs.Numbers.{clear_none, clear_more}
use Rattle.clash_rivals.specs.Rivals.{start_together, rival_starts}
use Rattle.clash.specs.Clashing.{given_place, KeptTo, kept_none, kept_next, both_kept, clash_met, clashes_one, clashes_none, seen_none, seen_next}
use Rattle.clash.proofs.Laws.{rival_enters, clear_on, first_known}
use Rattle.clash.proofs.lowest_by_entry.Goals as goal

pub pairs-init : goal.pairs-init
pairs-init c = (seen_none _ _, clear_none _, kept_none, refl)

pub has-on-requires : goal.has-on-requires
has-on-requires c =
    let below : left_at c.args.rows.now c.pairs.later < nonterminals_limit = (image_of c.requires.0.productions.rows_of).lefts _ c.pairs-test.true in
    omega (arith, c.left_of-left.ensures, below)

pub keep-requires : goal.keep-requires
keep-requires c =
    let few : c.args.count ≤ productions_limit = (image_of c.requires.0.productions.rows_of).few in
    let k = c.pairs.invariant.2 in
    (omega (arith, few, c.pairs-test.true), given_place c.requires.0 _ c.pairs-test.true, k.lows_all, k.highs_all)

pub bounds-seen-at : goal.bounds-seen-at
bounds-seen-at c =
    let below : left_at c.args.rows.now c.pairs.later < nonterminals_limit = (image_of c.requires.0.productions.rows_of).lefts _ c.pairs-test.true in
    omega (arith, c.left_of-left.ensures, below)

pub loop-rival-init : goal.loop-rival-init
loop-rival-init c =
    let few : c.args.count ≤ productions_limit = (image_of c.requires.0.productions.rows_of).few in
    let keeping : KeptTo c.args.table.now c.args.rows.now c.args.met.0 c.keep.new.kept.lows c.keep.new.kept.highs c.keep.new.kept.ranks (c.pairs.later + 1) =
    kept_next (omega (arith, few, c.pairs-test.true)) c.pairs.invariant.2 _ (rw c.left_of-left.ensures at c.has-on.ensures) c.keep.ensures in
    (first_known c.requires.0 c.requires.1 _ keeping c.pairs-test.true _ c.pairs.invariant.0 _ (rw c.left_of-left.ensures at c.first_rival-rival.ensures), c.pairs.invariant.3)

pub enters_together-requires : goal.enters_together-requires
enters_together-requires c =
    let few : c.args.count ≤ productions_limit = (image_of c.requires.0.productions.rows_of).few in
    let keeping : KeptTo c.args.table.now c.args.rows.now c.args.met.0 c.keep.new.kept.lows c.keep.new.kept.highs c.keep.new.kept.ranks (c.pairs.later + 1) =
    kept_next (omega (arith, few, c.pairs-test.true)) c.pairs.invariant.2 _ (rw c.left_of-left.ensures at c.has-on.ensures) c.keep.ensures in
    let w = rw c.in-Some.is at c.loop-rival.invariant.0 in
    let listed : c.in-Some.earlier < c.args.count = omega (arith, w.0, c.pairs-test.true) in
    let rivalling : start_together c.args.rows.now c.args.sets.now c.pairs.later c.in-Some.earlier ≡ true = rival_starts _ _ _ _ _ _ _ w.2 in
    let k = both_kept c.requires.1 _ _ keeping c.pairs-test.true w.0 _ refl rivalling in
    record { own = (omega (arith, few, c.pairs-test.true), given_place c.requires.0 _ c.pairs-test.true, k.0.rank); other = (omega (arith, few, listed), given_place c.requires.0 _ listed, k.1.rank); ranges = rival_enters c.requires.0 c.requires.1 _ keeping c.pairs-test.true _ w.0 w.2 }

pub returns-then-enters_together : goal.returns-then-enters_together
returns-then-enters_together c =
    let w = rw c.in-Some.is at c.loop-rival.invariant.0 in
    let listed : c.in-Some.earlier < c.args.count = omega (arith, w.0, c.pairs-test.true) in
    let rivalling : start_together c.args.rows.now c.args.sets.now c.pairs.later c.in-Some.earlier ≡ true = rival_starts _ _ _ _ _ _ _ w.2 in
    let e = clash_met c.requires.0 _ _ c.pairs-test.true listed _ refl rivalling _ c.enters_together.ensures _ c.if-enters_together.true in
    (c.pairs-test.true, clashes_one _ _ _ w.0 e, c.pairs.invariant.1)

pub loop-rival-preserved : goal.loop-rival-preserved
loop-rival-preserved c =
    let few : c.args.count ≤ productions_limit = (image_of c.requires.0.productions.rows_of).few in
    let keeping : KeptTo c.args.table.now c.args.rows.now c.args.met.0 c.keep.new.kept.lows c.keep.new.kept.highs c.keep.new.kept.ranks (c.pairs.later + 1) =
    kept_next (omega (arith, few, c.pairs-test.true)) c.pairs.invariant.2 _ (rw c.left_of-left.ensures at c.has-on.ensures) c.keep.ensures in
    let w = rw c.in-Some.is at c.loop-rival.invariant.0 in
    let listed : c.in-Some.earlier < c.args.count = omega (arith, w.0, c.pairs-test.true) in
    let rivalling : start_together c.args.rows.now c.args.sets.now c.pairs.later c.in-Some.earlier ≡ true = rival_starts _ _ _ _ _ _ _ w.2 in
    let e = clash_met c.requires.0 _ _ c.pairs-test.true listed _ refl rivalling _ c.enters_together.ensures _ c.if-enters_together.false in
    (clear_on c.requires.0 c.requires.1 _ keeping c.pairs-test.true _ _ (clear_more _ _ w.1 (λ t. rw e at t)) c.next_rival-rival.ensures, c.loop-rival.invariant.1)

pub bounds-seen-at-in-pairs : goal.bounds-seen-at-in-pairs
bounds-seen-at-in-pairs c =
    let below : left_at c.args.rows.now c.pairs.later < nonterminals_limit = (image_of c.requires.0.productions.rows_of).lefts _ c.pairs-test.true in
    omega (arith, c.left_of-left.ensures, below)

pub pairs-preserved : goal.pairs-preserved
pairs-preserved c =
    let below : left_at c.args.rows.now c.pairs.later < nonterminals_limit = (image_of c.requires.0.productions.rows_of).lefts _ c.pairs-test.true in
    let few : c.args.count ≤ productions_limit = (image_of c.requires.0.productions.rows_of).few in
    let keeping : KeptTo c.args.table.now c.args.rows.now c.args.met.0 c.keep.new.kept.lows c.keep.new.kept.highs c.keep.new.kept.ranks (c.pairs.later + 1) =
    kept_next (omega (arith, few, c.pairs-test.true)) c.pairs.invariant.2 _ (rw c.left_of-left.ensures at c.has-on.ensures) c.keep.ensures in
    let none : ◌≡◌ {A = Option ℕ} c.loop-rival.rival None = search rules in
    let inv = c.pairs.invariant in
    (rw (c.union.ensures.word, c.left_of-left.ensures) (seen_next _ _ _ _ below inv.0), clear_more _ _ inv.1 (clashes_none _ _ (rw none at c.loop-rival.invariant.0)), keeping, c.loop-rival.invariant.1)

pub returns-after-pairs : goal.returns-after-pairs
returns-after-pairs c =
    let e : c.pairs.later ≡ c.args.count = omega (arith, c.pairs-test.false, c.pairs.auto.later-end) in
    rw (c.pairs.invariant.3, ← e) c.pairs.invariant.1
