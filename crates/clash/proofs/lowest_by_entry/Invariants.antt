use Rattle.std.specs.Prelude.{◌≡◌, None}
use Rattle.meaning.specs.Decide.{clashes}
use Rattle.analysis.specs.Numbers.{Clear}
use Rattle.clash_rivals.specs.Rivals.{rival}
use Rattle.outline.specs.Outline.{grammar_in}
use Rattle.clash.specs.Clashing.{clash_in, KeptTo, Seen}
use Rattle.clash.proofs.Laws.{Ahead, to_look_at}
use Rattle.clash.proofs.lowest_by_entry.Given as goal

abbrev pub invariant-loop-rival : goal.invariant-loop-rival
invariant-loop-rival l = Ahead (clash_in l.table l.later) (rival l.rows l.sets l.kept.lows l.kept.highs l.kept.ranks l.later) l.later l.rival × (l.lowest ≡ None)

abbrev pub decreases-loop-rival : goal.decreases-loop-rival
decreases-loop-rival l = to_look_at l.later l.rival

abbrev pub invariant-pairs : goal.invariant-pairs
invariant-pairs l = Seen l.rows l.sets l.later l.seen × Clear (clashes (grammar_in l.table)) l.later × KeptTo l.table l.rows l.met.0 l.kept.lows l.kept.highs l.kept.ranks l.later × (l.lowest ≡ None)
