use native.Mathlib.Omega.{arith}
use borrow.Author.Rules.{rules}
use Rattle.set_words.specs.Views.{Within, ClosedAt}
use Rattle.analysis.specs.Rounds.{Rising, rising_start, rising_on, settled, settled_soon, rounds_less}
use Rattle.nonterminal_set.specs.Same.{same_words, other_words}
use Rattle.analysis.specs.Closing.{tokens_in, narrow_grown, narrow_rising}
use Rattle.analysis.proofs.closing.closure.Goals as goal

pub loop-free-init : goal.loop-free-init
loop-free-init c = rising_start _ (omega arith)

pub close_round-next-requires : goal.close_round-next-requires
close_round-next-requires c = (c.requires.0, c.requires.1, narrow_rising _ c.requires.0 _ c.loop-free.invariant, c.requires.2)

pub returns-then-eq : goal.returns-then-eq
returns-then-eq c = λ lefts. settled c.loop-free.invariant c.close_round-next.ensures (same_words _ _ c.eq.ensures c.if-eq.true)

pub returns-then-eq-2 : goal.returns-then-eq-2
returns-then-eq-2 c =
    let e = same_words c.close_round-next.result.0 c.args.all.0 c.eq-in-loop-free.ensures c.if-eq-2.true in
    λ lefts. settled_soon c.loop-free.invariant c.close_round-next.ensures (record { at = λ p l m t. rw e (lefts.left p m) })

pub close_round_back-last-requires : goal.close_round_back-last-requires
close_round_back-last-requires c =
    (c.requires.0, c.requires.1, narrow_grown _ c.requires.0 _ _ c.close_round-next.ensures (narrow_rising _ c.requires.0 _ c.loop-free.invariant), c.requires.2)

pub returns-then-eq-3 : goal.returns-then-eq-3
returns-then-eq-3 c =
    let risen : Rising (Within (ClosedAt (tokens_in c.args.free.0) c.args.rows.now) 0 c.args.count) 0 c.close_round-next.result.0 = rising_on c.loop-free.invariant c.close_round-next.ensures (search rules) in
    λ lefts. settled risen c.close_round_back-last.ensures (same_words _ _ c.eq-in-loop-free-2.ensures c.if-eq-3.true)

pub loop-free-smaller : goal.loop-free-smaller
loop-free-smaller c =
    rounds_less c.close_round-next.ensures c.close_round_back-last.ensures (other_words _ _ c.eq-in-loop-free-2.ensures c.if-eq-3.false) (search rules)

pub loop-free-preserved : goal.loop-free-preserved
loop-free-preserved c =
    let risen : Rising (Within (ClosedAt (tokens_in c.args.free.0) c.args.rows.now) 0 c.args.count) 0 c.close_round-next.result.0 = rising_on c.loop-free.invariant c.close_round-next.ensures (search rules) in
    rising_on risen c.close_round_back-last.ensures (search rules)
