use Prim.Native.Nat.{ℕ, ◌+◌, ◌*◌, ◌<◌, ◌≤◌}
use native.Mathlib.Omega.{arith}
use mathlib.Core.Path.{◌≡◌, sym, ap, ◌∙◌}
use lib.ListN.{length, drop}
use lib.IntN.{ℤ, nat_abs, ◌+ℤ◌, +ℤ_idl}
use mir.Syntax.{w64}
use mir.Val.{SFits, to_z, of_z}
use mir.Facts.{to_z-of_z}
use borrow.Author.Rules.{sfits_of}
use mathlib.Core.List.{List}
use Rattle.meaning.specs.Limits.{candidates_limit}
use Rattle.meaning_ranking.specs.Ranking.{total_of, worth}
use Rattle.theory_ranking.specs.Entries.{Ranged, entries_of, entry_at}
use Rattle.rank_report.proofs.totals.Sums.{worth_size, total_turn, total_end}
use Rattle.theory_base.specs.Absolute.{nat_abs_add}
use Rattle.value.specs.Overflow.{fits64, reach}
use Rattle.rank_report.proofs.totals.total.Goals as goal

pub loop-i-init : goal.loop-i-init
loop-i-init c = (sym (+ℤ_idl (total_of (entries_of c.args.count c.args.list.now))), omega arith)

pub worth_at-sum-requires : goal.worth_at-sum-requires
worth_at-sum-requires c = omega arith

-- the total with the entry at hand, which the call has given
module _ (m : List ℤ) (count : ℕ) (few : count ≤ candidates_limit) (room : 3 * count ≤ length m) (ranged : Ranged (entries_of count m)) (i : ℕ) (g : i < count) (sum : ℤ) (size : nat_abs sum ≤ reach * i) (z : ℤ) (f : SFits w64 z) (e : to_z w64 (of_z w64 z) ≡ worth (entry_at m i)) where
  sum_fits : SFits w64 (sum +ℤ worth (entry_at m i))
  sum_fits = fits64 (sum +ℤ worth (entry_at m i)) (omega (arith, nat_abs_add sum (worth (entry_at m i)), worth_size m count room i g ranged, size, few))

  adding : SFits w64 (sum +ℤ to_z w64 (of_z w64 z))
  adding = rw e sum_fits

  sums : to_z w64 (of_z w64 (sum +ℤ to_z w64 (of_z w64 z))) ≡ sum +ℤ worth (entry_at m i)
  sums = rw e (to_z-of_z sum_fits)

pub overflow_add-sum : goal.overflow_add-sum
overflow_add-sum c = adding c.args.list.now c.args.count c.requires.0 c.requires.1 c.requires.2 c.loop-i.i (omega arith) (to_z w64 c.loop-i.sum-bits) c.loop-i.invariant.1 c.worth_at-sum.result (sfits_of c.worth_at-sum.type_inv) (to_z-of_z {w = w64} (sfits_of c.worth_at-sum.type_inv) ∙ c.worth_at-sum.ensures)

pub loop-i-preserved : goal.loop-i-preserved
loop-i-preserved c =
    let l = c.loop-i in
    let s = c in
    let m = s.args.list.now in
    let e = sums c.args.list.now c.args.count c.requires.0 c.requires.1 c.requires.2 c.loop-i.i (omega arith) (to_z w64 c.loop-i.sum-bits) c.loop-i.invariant.1 c.worth_at-sum.result (sfits_of c.worth_at-sum.type_inv) (to_z-of_z {w = w64} (sfits_of c.worth_at-sum.type_inv) ∙ c.worth_at-sum.ensures) in
    let rest = total_of (drop (l.i + 1) (entries_of s.args.count m)) in
    let more = total_turn m s.args.count s.requires.1 l.i ((to_z w64 l.sum-bits)) (omega arith) l.invariant.0 in
    (more ∙ ap (λ (t : ℤ). t +ℤ rest) (sym e), rw e (omega (arith, nat_abs_add ((to_z w64 l.sum-bits)) (worth (entry_at m l.i)), worth_size m s.args.count s.requires.1 l.i (omega arith) s.requires.2, l.invariant.1)))

pub returns : goal.returns
returns c = total_end c.args.list.now c.args.count c.requires.1 c.loop-i.i ((to_z w64 c.loop-i.sum-bits)) (omega arith) c.loop-i.invariant.0
