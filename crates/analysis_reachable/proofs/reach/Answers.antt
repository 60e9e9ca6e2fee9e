use borrow.Author.Rules.{rules}
use Rattle.nonterminal_set.specs.Same.{same_words, other_words}
use Rattle.set_words.specs.Views.{Within, ReachAt}
use Rattle.analysis.specs.Rounds.{Rising, rising_start, rising_on, settled, settled_soon, rounds_less}
use Rattle.analysis_reachable.proofs.reach.Goals as goal

pub loop-all-init : goal.loop-all-init
loop-all-init c = rising_start _ (search rules)

pub reach_round-next-requires : goal.reach_round-next-requires
reach_round-next-requires c = c.requires

pub returns-then-eq : goal.returns-then-eq
returns-then-eq c = λ rights. settled c.loop-all.invariant c.reach_round-next.ensures (same_words _ _ c.eq.ensures c.if-eq.true)

pub returns-then-eq-2 : goal.returns-then-eq-2
returns-then-eq-2 c =
    let e = same_words c.reach_round-next.result.0 c.args.all.0 c.eq-in-loop-all.ensures c.if-eq-2.true in
    λ rights. settled_soon c.loop-all.invariant c.reach_round-next.ensures (record { at = λ p l m t n a. rw e (rights.right p n m a) })

pub reach_round_back-last-requires : goal.reach_round_back-last-requires
reach_round_back-last-requires c = c.requires

pub returns-then-eq-3 : goal.returns-then-eq-3
returns-then-eq-3 c =
    let risen : Rising (Within (ReachAt c.args.rows.now) 0 c.args.count) c.args.first.0 c.reach_round-next.result.0 = rising_on c.loop-all.invariant c.reach_round-next.ensures (search rules) in
    λ rights. settled risen c.reach_round_back-last.ensures (same_words _ _ c.eq-in-loop-all-2.ensures c.if-eq-3.true)

pub loop-all-smaller : goal.loop-all-smaller
loop-all-smaller c =
    rounds_less c.reach_round-next.ensures c.reach_round_back-last.ensures (other_words _ _ c.eq-in-loop-all-2.ensures c.if-eq-3.false) (search rules)

pub loop-all-preserved : goal.loop-all-preserved
loop-all-preserved c =
    let risen : Rising (Within (ReachAt c.args.rows.now) 0 c.args.count) c.args.first.0 c.reach_round-next.result.0 = rising_on c.loop-all.invariant c.reach_round-next.ensures (search rules) in
    rising_on risen c.reach_round_back-last.ensures (search rules)
